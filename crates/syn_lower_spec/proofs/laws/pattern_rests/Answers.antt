use Rattle.syn_lower_spec.proofs.Samples.{pattern_rests}
use Rattle.syn_lower_spec.proofs.laws.pattern_rests.Goals as goal

pub returns : goal.returns
returns c = pattern_rests
