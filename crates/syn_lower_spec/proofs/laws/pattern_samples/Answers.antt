use Rattle.syn_lower_spec.proofs.Samples.{pattern_samples}
use Rattle.syn_lower_spec.proofs.laws.pattern_samples.Goals as goal

pub returns : goal.returns
returns c = pattern_samples
