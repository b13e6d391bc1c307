use Rattle.syn_stmt_spec.proofs.Placed.{none_open}
use Rattle.syn_stmt_spec.proofs.laws.none_open_before_else.Goals as goal

pub returns : goal.returns
returns c = none_open
