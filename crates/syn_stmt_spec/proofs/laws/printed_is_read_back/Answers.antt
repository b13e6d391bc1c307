use Rattle.syn_stmt_spec.proofs.Back.{read_back}
use Rattle.syn_stmt_spec.proofs.laws.printed_is_read_back.Goals as goal

pub returns : goal.returns
returns c = read_back
