use Rattle.syn_stmt_spec.proofs.Exact.{at_most_one}
use Rattle.syn_stmt_spec.proofs.laws.one_list.Goals as goal

pub returns : goal.returns
returns c = at_most_one
