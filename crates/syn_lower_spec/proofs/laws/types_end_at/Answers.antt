use Rattle.syn_lower_spec.proofs.Ends.{types_end_at}
use Rattle.syn_lower_spec.proofs.laws.types_end_at.Goals as goal

pub returns : goal.returns
returns c = types_end_at
