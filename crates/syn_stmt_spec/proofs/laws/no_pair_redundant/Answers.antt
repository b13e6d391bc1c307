use Rattle.syn_stmt_spec.proofs.Spare.{no_pair_redundant}
use Rattle.syn_stmt_spec.proofs.laws.no_pair_redundant.Goals as goal

pub returns : goal.returns
returns c = no_pair_redundant
