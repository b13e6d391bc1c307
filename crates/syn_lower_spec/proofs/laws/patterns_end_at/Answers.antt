use Rattle.syn_lower_spec.proofs.Ends.{patterns_end_at}
use Rattle.syn_lower_spec.proofs.laws.patterns_end_at.Goals as goal

pub returns : goal.returns
returns c = patterns_end_at
