use Rattle.std.proofs.Common.{◌≡◌, ◌++◌, length, map}
use Rattle.syn_expr_spec.specs.Tree.{from_inner, inners, outers}
use Rattle.syn_lower_leaves.specs.View.{attribute_of}
use Rattle.syn_expr_flatten.proofs.attrs.put_each.Given as goal

abbrev pub invariant-attrs : goal.invariant-attrs
invariant-attrs l =
    (outers (map attribute_of l.attrs.items) ++ outers (map attribute_of l.own.items) ≡ outers (map attribute_of l.fn.attrs.items) ++ outers (map attribute_of l.fn.own.items))
    × (inners (map attribute_of l.attrs.items) ++ from_inner (map attribute_of l.own.items) ≡ inners (map attribute_of l.fn.attrs.items) ++ from_inner (map attribute_of l.fn.own.items))

abbrev pub decreases-attrs : goal.decreases-attrs
decreases-attrs l = length l.attrs.items
