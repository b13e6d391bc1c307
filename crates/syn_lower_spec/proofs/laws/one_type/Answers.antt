use Rattle.syn_lower_spec.proofs.Parts.{one_type}
use Rattle.syn_lower_spec.proofs.laws.one_type.Goals as goal

pub returns : goal.returns
returns c = one_type
