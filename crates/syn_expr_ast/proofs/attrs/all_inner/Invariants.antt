use Rattle.std.proofs.Common.{◌≡◌, length, map}
use Rattle.syn_lower_leaves.specs.View.{attribute_of}
use Rattle.syn_expr_spec.specs.WellFormed.{attributes_inner}
use Rattle.syn_expr_ast.proofs.attrs.all_inner.Given as goal

abbrev pub invariant-attrs : goal.invariant-attrs
invariant-attrs l = attributes_inner (map attribute_of l.attrs) ≡ attributes_inner (map attribute_of l.fn.attrs)

abbrev pub decreases-attrs : goal.decreases-attrs
decreases-attrs l = length l.attrs
