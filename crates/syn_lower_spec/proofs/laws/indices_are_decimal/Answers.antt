use Rattle.syn_lower_spec.proofs.Decimals.{indices_are_decimal}
use Rattle.syn_lower_spec.proofs.laws.indices_are_decimal.Goals as goal

pub returns : goal.returns
returns c = indices_are_decimal
