use Rattle.std.proofs.Common.{◌≡◌, map, take}
use Rattle.syn_lower_leaves.specs.View.{attribute_of}
use Rattle.syn_lower_copy.proofs.leaf.copy_each.Given as goal

abbrev pub invariant-loop-x : goal.invariant-loop-x
invariant-loop-x l = map attribute_of l.ys.items ≡ map attribute_of (take l.x-index l.xs)
