use Rattle.std.proofs.Common.{◌≡◌, true, length, map}
use Rattle.std.specs.List.{list_all}
use Rattle.syn_lower_spec.specs.Fits.{type_fits}
use Rattle.syn_lower_types.proofs.fits.pairs_fit.Given as goal

abbrev pub invariant-pairs : goal.invariant-pairs
invariant-pairs g l = list_all (λ x. type_fits true (g.T.HasTree.tree x)) (map (λ q. q.0) l.pairs) ≡ list_all (λ x. type_fits true (g.T.HasTree.tree x)) (map (λ q. q.0) l.fn.pairs)

abbrev pub decreases-pairs : goal.decreases-pairs
decreases-pairs g l = length l.pairs
