use Rattle.syn_lower_spec.proofs.PatWholeComplete.{pattern_tests_exact}
use Rattle.syn_lower_spec.proofs.laws.pattern_tests_are_exact.Goals as goal

pub returns : goal.returns
returns c = pattern_tests_exact
