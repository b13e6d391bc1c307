use Rattle.std.proofs.Common.{drop, Result}
use Rattle.syn_visit_kinds.specs.Walk.{Saw, Walk}
use Rattle.syn_visit_kinds.proofs.each.pairs.Given as goal

abbrev pub invariant-loop-pair : goal.invariant-loop-pair
invariant-loop-pair g l =
    (r : Result (Unit {0}) g.row.R.Denot) (z : g.row.S.Denot) → Walk (λ q. Saw (λ x s a t. g.F.Fn.post l.call (x, (s, tt)) (a, (t, tt))) q.0) (drop l.pair-index l.pairs) l.state r z
    → Walk (λ q. Saw (λ x s a t. g.F.Fn.post l.call (x, (s, tt)) (a, (t, tt))) q.0) l.pairs l.fn.state r z
