use Rattle.syn_stmt_spec.proofs.Items.{items_stand}
use Rattle.syn_stmt_spec.proofs.laws.items_stand.Goals as goal

pub returns : goal.returns
returns c = items_stand
