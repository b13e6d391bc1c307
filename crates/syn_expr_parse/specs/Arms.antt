-- Which arm of a `match` stands for which tokens (Rust Reference, "`match` expressions").
use Rattle.std.specs.Prelude.{◌≡◌, true, List, [], ◌∷◌, drop, Some}
use Rattle.syn_tokens.specs.Tok.{Tok}
use Rattle.syn_lower_spec.specs.Tree.{AttributeTree}
use Rattle.syn_lower_spec.specs.Pat.{PatTree, guarded}
use Rattle.syn_expr_spec.specs.Place.{plain, at_head}
use Rattle.syn_expr_spec.specs.Tree as e
use Rattle.syn_expr_spec.specs.Tree.{Tree, Ending}
use Rattle.syn_expr_spec.specs.Slot as slot
use Rattle.syn_expr_spec.specs.Slot.{behind_arm, fat_arrow, piece_form}
use Rattle.syn_expr_spec.specs.Stands.{Stands}
use Rattle.syn_expr_ast.specs.Pats.{ArmView}
use Rattle.syn_expr_parse.specs.Parts.{is_comma}

-- The arm stands for the tokens of l before n: attributes, a pattern and `=>`, or `if`, a guard and `=>`; then the body, and a
-- comma, which none has to be at the end and after a block.
pub data ArmStands : List Tok → ArmView → List Tok → Type 0 where
  without_guard : {l m h n : List Tok} {ats : List AttributeTree} {p : PatTree} {x : Tree} {c : Ending}
      → (piece_form slot.arms).behind (e.arm ats p) l ≡ Some m
      → Stands at_head m x h → behind_arm x h ≡ Some (c, n)
      → ArmStands l (record { attrs = ats; pat = record { tree = p; guards = [] }; body = x; comma = is_comma c }) n
  with_guard : {l m i h n : List Tok} {ats : List AttributeTree} {p : PatTree} {g x : Tree} {c : Ending}
      → (piece_form slot.arms).behind (e.guard ats p) l ≡ Some m
      → Stands plain m g i → fat_arrow.at i ≡ true
      → Stands at_head (drop fat_arrow.count i) x h → behind_arm x h ≡ Some (c, n)
      → ArmStands l (record { attrs = ats; pat = record { tree = guarded p; guards = g ∷ [] }; body = x; comma = is_comma c }) n
