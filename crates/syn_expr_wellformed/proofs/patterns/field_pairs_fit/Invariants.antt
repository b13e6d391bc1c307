use Rattle.std.proofs.Common.{◌≡◌, map, length}
use Rattle.std.specs.List.{list_all}
use Rattle.syn_expr_wellformed.specs.Alone.{field_alone}
use Rattle.syn_expr_wellformed.proofs.patterns.field_pairs_fit.Given as goal

abbrev pub invariant-pairs : goal.invariant-pairs
invariant-pairs g l = list_all (field_alone g.P.FitPat.shown) (map (λ q. q.0) l.pairs) ≡ list_all (field_alone g.P.FitPat.shown) (map (λ q. q.0) l.fn.pairs)

abbrev pub decreases-pairs : goal.decreases-pairs
decreases-pairs g l = length l.pairs
