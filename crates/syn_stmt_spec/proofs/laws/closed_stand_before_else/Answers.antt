use Rattle.syn_stmt_spec.proofs.Else.{closed_stand}
use Rattle.syn_stmt_spec.proofs.laws.closed_stand_before_else.Goals as goal

pub returns : goal.returns
returns c = closed_stand
