use Rattle.std.proofs.Common.{◌≡◌, ◌++◌, length}
use Rattle.syn_tokens.specs.Input.{IsFront}
use Rattle.syn_expr_ast.specs.Attrs.{outer_printed}
use Rattle.syn_expr_ast.proofs.attrs.put_outer_ones.Given as goal

abbrev pub invariant-attrs : goal.invariant-attrs
invariant-attrs l = (l.tokens ++ outer_printed l.attrs ≡ l.fn.tokens ++ outer_printed l.fn.attrs) × IsFront l.fn.tokens l.tokens

abbrev pub decreases-attrs : goal.decreases-attrs
decreases-attrs l = length l.attrs
