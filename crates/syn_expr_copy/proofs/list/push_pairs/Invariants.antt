use Rattle.std.proofs.Common.{◌≡◌, map, take}
use Rattle.syn_expr_copy.proofs.list.push_pairs.Given as goal

abbrev pub invariant-loop-x : goal.invariant-loop-x
invariant-loop-x g l = map (λ q. g.V.Sees.seen q.0) l.ys.items ≡ map (λ q. g.V.Sees.seen q.0) (take l.x-index l.xs)
