use Rattle.std.proofs.Common.{◌≡◌, length, map}
use Rattle.syn_lower_leaves.specs.View.{attribute_of}
use Rattle.syn_expr_spec.specs.Tree.{from_inner}
use Rattle.syn_expr_ast.proofs.attrs.from_inner.Given as goal

abbrev pub invariant-rest : goal.invariant-rest
invariant-rest l = from_inner (map attribute_of l.rest) ≡ from_inner (map attribute_of l.fn.attrs)

abbrev pub decreases-rest : goal.decreases-rest
decreases-rest l = length l.rest
