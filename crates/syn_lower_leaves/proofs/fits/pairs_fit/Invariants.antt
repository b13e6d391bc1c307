use Rattle.std.proofs.Common.{◌≡◌, map, length}
use Rattle.std.specs.List.{list_all}
use Rattle.syn_lower_leaves.proofs.fits.pairs_fit.Given as goal

abbrev pub invariant-pairs : goal.invariant-pairs
invariant-pairs g l = list_all g.T.Element.fits (map (λ q. q.0) l.pairs) ≡ list_all g.T.Element.fits (map (λ q. q.0) l.fn.pairs)

abbrev pub decreases-pairs : goal.decreases-pairs
decreases-pairs g l = length l.pairs
