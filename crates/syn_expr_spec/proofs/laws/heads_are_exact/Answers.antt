use Rattle.syn_expr_spec.proofs.Exact.{heads_exact}
use Rattle.syn_expr_spec.proofs.laws.heads_are_exact.Goals as goal

pub returns : goal.returns
returns c = heads_exact
