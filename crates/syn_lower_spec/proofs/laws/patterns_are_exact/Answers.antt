use Rattle.syn_lower_spec.proofs.PatWhole.{patterns_exact}
use Rattle.syn_lower_spec.proofs.laws.patterns_are_exact.Goals as goal

pub returns : goal.returns
returns c = patterns_exact
