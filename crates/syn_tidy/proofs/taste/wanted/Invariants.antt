use Rattle.std.proofs.Common.{length}
use Rattle.syn_tidy.proofs.taste.wanted.Given as goal

abbrev pub decreases-loop-rest : goal.decreases-loop-rest
decreases-loop-rest l = length l.rest
