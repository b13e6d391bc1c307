use Rattle.syn_lower_spec.proofs.Samples.{pattern_kinds}
use Rattle.syn_lower_spec.proofs.laws.pattern_kinds.Goals as goal

pub returns : goal.returns
returns c = pattern_kinds
