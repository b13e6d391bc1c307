use Rattle.std.proofs.Common.{◌≡◌, map, take}
use Rattle.syn_lower_copy.proofs.list.copy_each.Given as goal

abbrev pub invariant-loop-x : goal.invariant-loop-x
invariant-loop-x g l = map g.V.Sees.seen l.ys.items ≡ map g.V.Sees.seen (take l.x-index l.xs)
