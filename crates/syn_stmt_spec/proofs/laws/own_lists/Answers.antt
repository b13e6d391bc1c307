use Rattle.syn_stmt_spec.proofs.Own.{own_lists}
use Rattle.syn_stmt_spec.proofs.laws.own_lists.Goals as goal

pub returns : goal.returns
returns c = own_lists
