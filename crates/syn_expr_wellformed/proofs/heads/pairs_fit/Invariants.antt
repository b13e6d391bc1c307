use Rattle.std.proofs.Common.{◌≡◌, map, length}
use Rattle.std.specs.List.{list_all}
use Rattle.syn_expr_wellformed.specs.Alone as spec
use Rattle.syn_expr_wellformed.proofs.heads.pairs_fit.Given as goal

abbrev pub invariant-pairs : goal.invariant-pairs
invariant-pairs g l = list_all (λ p. spec.argument_fits (g.E.Pat.HasPatTree.view p)) (map (λ q. q.0) l.pairs) ≡ list_all (λ p. spec.argument_fits (g.E.Pat.HasPatTree.view p)) (map (λ q. q.0) l.fn.pairs)

abbrev pub decreases-pairs : goal.decreases-pairs
decreases-pairs g l = length l.pairs
