use Rattle.syn_lower_spec.proofs.Samples.{generic_samples}
use Rattle.syn_lower_spec.proofs.laws.generic_samples.Goals as goal

pub returns : goal.returns
returns c = generic_samples
