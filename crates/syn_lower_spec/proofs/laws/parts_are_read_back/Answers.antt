use Rattle.syn_lower_spec.proofs.Whole.{parts_read_back}
use Rattle.syn_lower_spec.proofs.laws.parts_are_read_back.Goals as goal

pub returns : goal.returns
returns c = parts_read_back
