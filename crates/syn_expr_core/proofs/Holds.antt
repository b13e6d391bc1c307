-- What holds a block is told through invisible groups.
use Rattle.std.proofs.Common.{◌≡◌, List, [], ◌∷◌, refl, Some}
use Rattle.syn_lower_spec.specs.Tree.{AttributeTree}
use Rattle.syn_expr_spec.specs.Tree as e
use Rattle.syn_expr_spec.specs.Tree.{Tree, frame, none, child, attributed_with}
use Rattle.syn_expr_spec.specs.Stands.{holds_block}
use Rattle.syn_tokens.specs.Tok.{Tok}
use Rattle.syn_tokens.specs.Input.{IsTail}
use Rattle.syn_expr_spec.specs.declared.kinds.Place.{Place}
use Rattle.syn_expr_spec.specs.Read.{expr}
use Rattle.syn_expr_spec.proofs.Alone.{expr_exact}

-- attributes before it change nothing
pub held_attributed : (ats : List AttributeTree) (t : Tree) → holds_block (attributed_with ats t) ≡ holds_block t
held_attributed [] t = refl
held_attributed (a ∷ more) t = refl

pub held_group : (ats : List AttributeTree) (t : Tree) → holds_block (attributed_with ats (frame e.group_expr (child e.grouped e.no_ending t none))) ≡ holds_block t
held_group ats t = held_attributed ats (frame e.group_expr (child e.grouped e.no_ending t none))

pub ruleset held = (held_attributed, held_group)

-- ---- reading is exact, for callers: an expression, and all that is read on a fork by a reader that is exact

pub read_tail : (p : Place) (l n : List Tok) (t : Tree) → expr p l ≡ Some (t, n) → IsTail n l
read_tail p l n t h = let e = expr_exact p in e.tail l t n h
