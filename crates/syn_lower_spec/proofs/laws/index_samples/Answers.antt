use Rattle.syn_lower_spec.proofs.Samples.{index_samples}
use Rattle.syn_lower_spec.proofs.laws.index_samples.Goals as goal

pub returns : goal.returns
returns c = index_samples
