use Rattle.syn_lower_spec.proofs.Samples.{type_samples}
use Rattle.syn_lower_spec.proofs.laws.type_samples.Goals as goal

pub returns : goal.returns
returns c = type_samples
