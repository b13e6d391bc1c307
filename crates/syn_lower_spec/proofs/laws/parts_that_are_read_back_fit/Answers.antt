use Rattle.syn_lower_spec.proofs.WholeComplete.{parts_complete}
use Rattle.syn_lower_spec.proofs.laws.parts_that_are_read_back_fit.Goals as goal

pub returns : goal.returns
returns c = parts_complete
