use Rattle.std.proofs.Common.{◌≡◌, drop, map}
use Rattle.syn_lower_leaves.specs.View.{attribute_of}
use Rattle.syn_expr.specs.Levels.{has_outer}
use Rattle.syn_expr.proofs.precedence.has_outer.Given as goal

abbrev pub invariant-loop-attr : goal.invariant-loop-attr
invariant-loop-attr l = has_outer (map attribute_of l.fn.attrs.items) ≡ has_outer (map attribute_of (drop l.attr-index l.attr-items))
