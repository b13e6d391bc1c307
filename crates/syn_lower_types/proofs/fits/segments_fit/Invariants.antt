use Rattle.std.proofs.Common.{◌≡◌, length}
use Rattle.syn_lower_types.specs.ReadBack.{rows_fit}
use Rattle.syn_lower_types.specs.View.{segment_of}
use Rattle.syn_lower_types.proofs.fits.segments_fit.Given as goal

abbrev pub invariant-pairs : goal.invariant-pairs
invariant-pairs g l = rows_fit (segment_of g.T.HasTree.tree) l.left l.style l.pairs l.last ≡ rows_fit (segment_of g.T.HasTree.tree) l.fn.left l.fn.style l.fn.pairs l.fn.last

abbrev pub decreases-pairs : goal.decreases-pairs
decreases-pairs g l = length l.pairs
