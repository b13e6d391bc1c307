use Rattle.syn_stmt_spec.proofs.Spelling.{own_spelling}
use Rattle.syn_stmt_spec.proofs.laws.own_spelling.Goals as goal

pub returns : goal.returns
returns c = own_spelling
