use Rattle.syn_stmt_spec.proofs.Exact.{exact}
use Rattle.syn_stmt_spec.proofs.laws.reading_is_exact.Goals as goal

pub returns : goal.returns
returns c = exact
