use Rattle.syn_lower_spec.proofs.Whole.{parts_exact}
use Rattle.syn_lower_spec.proofs.laws.parts_are_exact.Goals as goal

pub returns : goal.returns
returns c = parts_exact
