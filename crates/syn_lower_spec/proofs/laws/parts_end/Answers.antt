use Rattle.syn_lower_spec.proofs.Ends.{parts_end}
use Rattle.syn_lower_spec.proofs.laws.parts_end.Goals as goal

pub returns : goal.returns
returns c = parts_end
