use Rattle.syn_lower_spec.proofs.PatWhole.{one_pattern}
use Rattle.syn_lower_spec.proofs.laws.one_pattern.Goals as goal

pub returns : goal.returns
returns c = one_pattern
