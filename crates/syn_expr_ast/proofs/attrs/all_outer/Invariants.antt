use Rattle.std.proofs.Common.{◌≡◌, drop, map}
use Rattle.syn_lower_leaves.specs.View.{attribute_of}
use Rattle.syn_lower_spec.specs.PatFits.{attributes_outer}
use Rattle.syn_expr_ast.proofs.attrs.all_outer.Given as goal

abbrev pub invariant-loop-attr : goal.invariant-loop-attr
invariant-loop-attr l = attributes_outer (map attribute_of l.fn.attrs.items) ≡ attributes_outer (map attribute_of (drop l.attr-index l.attr-items))
