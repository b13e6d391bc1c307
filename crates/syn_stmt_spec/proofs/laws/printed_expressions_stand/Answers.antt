use Rattle.syn_stmt_spec.proofs.Placed.{printed_stand}
use Rattle.syn_stmt_spec.proofs.laws.printed_expressions_stand.Goals as goal

pub returns : goal.returns
returns c = printed_stand
