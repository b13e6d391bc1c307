-- What encloses the operands of a node, with these tokens of the operands; and what comes before a field's value.
use Rattle.std.specs.Prelude.{List, [], ◌∷◌, ◌++◌, Option, Some, None, Bool, true, false}
use Rattle.syn_tokens.specs.Tok.{Tok}
use Rattle.syn_lower_spec.specs.Own.{alone, before_if, enclosed}
use Rattle.syn_lower_spec.specs.PatOwn.{attributes_own, member_own}
use Rattle.syn_expr_spec.specs.Tree.{Frame, Enclosure, enclosure, outers, Tree}
use Rattle.syn_expr_ast.specs.View.{FieldView}
use Rattle.syn_lower_spec.specs.Pat.{PatTree, guarded}
use Rattle.syn_expr_ast.specs.Pats.{ArmView}

abbrev pub in_enclosure : Option Enclosure → List Tok → List Tok
in_enclosure None inside = []
in_enclosure (Some e) inside = e.head ++ enclosed e.delimiter (inside ++ e.ending) []

-- nothing, where no delimiter encloses them
abbrev pub framed_own : Frame → List Tok → List Tok
framed_own k inside = in_enclosure (enclosure k) inside

abbrev pub field_own : FieldView → List Tok → List Tok
field_own x r = attributes_own (outers x.attrs) (member_own x.member (before_if x.colon (λ l. alone 58 ∷ l) r))

-- ---- whether an arm of a `match` has a guard of its own: that of its pattern as a whole

abbrev pub guarded_by : PatTree → List Tree → Bool
guarded_by (guarded p) (g ∷ gs) = true
guarded_by p gs = false

abbrev pub has_guard : ArmView → Bool
has_guard x = guarded_by x.pat.tree x.pat.guards
