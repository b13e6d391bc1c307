use Rattle.syn_expr_spec.proofs.NoneRedundant.{none_redundant}
use Rattle.syn_expr_spec.proofs.printing.none_redundant.Goals as goal

pub returns : goal.returns
returns c = none_redundant
