-- Which field of a struct expression stands for which tokens (Rust Reference, "Struct expressions").
use Rattle.std.specs.Prelude.{◌≡◌, true, false, List, Some}
use Rattle.syn_tokens.specs.Tok.{Tok}
use Rattle.syn_lower_spec.specs.Text.{Text}
use Rattle.syn_lower_spec.specs.Tree.{AttributeTree}
use Rattle.syn_lower_spec.specs.Pat.{MemberTree, a_name}
use Rattle.syn_expr_spec.specs.Place.{plain}
use Rattle.syn_expr_spec.specs.Tree as e
use Rattle.syn_expr_spec.specs.Tree.{Tree}
use Rattle.syn_expr_spec.specs.Slot as slot
use Rattle.syn_expr_spec.specs.Slot.{piece_form}
use Rattle.syn_expr_spec.specs.Stands.{Stands, path_of}
use Rattle.syn_expr_ast.specs.View.{FieldView}

-- The field stands for the tokens of l before n: attributes, a member, and its value after a colon. A name without a colon says
-- the value: the path that is this name.
pub data FieldStands : List Tok → FieldView → List Tok → Type 0 where
  with_colon : {l m n : List Tok} {ats : List AttributeTree} {w : MemberTree} {x : Tree}
      → (piece_form slot.fields).behind (e.field_value ats w true) l ≡ Some m → Stands plain m x n
      → FieldStands l (record { attrs = ats; member = w; colon = true; value = x }) n
  by_name : {l n : List Tok} {ats : List AttributeTree} {w : Text}
      → (piece_form slot.fields).behind (e.field_value ats (a_name w) false) l ≡ Some n
      → FieldStands l (record { attrs = ats; member = a_name w; colon = false; value = path_of w }) n
