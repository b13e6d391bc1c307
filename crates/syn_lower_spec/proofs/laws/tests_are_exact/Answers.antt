use Rattle.syn_lower_spec.proofs.Exact.{tests_exact}
use Rattle.syn_lower_spec.proofs.laws.tests_are_exact.Goals as goal

pub returns : goal.returns
returns c = tests_exact
