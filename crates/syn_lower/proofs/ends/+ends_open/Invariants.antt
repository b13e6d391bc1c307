use Rattle.syn_lower.specs.Ends.{depth}
use Rattle.syn_lower.specs.View.{type_of}
use Rattle.syn_lower.proofs.ends.+ends_open.Given as goal

abbrev pub decreases-ends_open : goal.decreases-ends_open
decreases-ends_open l = depth (type_of l.ty.now)
