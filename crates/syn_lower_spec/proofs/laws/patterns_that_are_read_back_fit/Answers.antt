use Rattle.syn_lower_spec.proofs.PatWholeComplete.{patterns_complete}
use Rattle.syn_lower_spec.proofs.laws.patterns_that_are_read_back_fit.Goals as goal

pub returns : goal.returns
returns c = patterns_complete
