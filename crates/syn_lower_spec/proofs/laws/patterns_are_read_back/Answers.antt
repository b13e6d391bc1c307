use Rattle.syn_lower_spec.proofs.PatWholeComplete.{patterns_read_back}
use Rattle.syn_lower_spec.proofs.laws.patterns_are_read_back.Goals as goal

pub returns : goal.returns
returns c = patterns_read_back
