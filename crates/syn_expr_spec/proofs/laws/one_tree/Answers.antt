use Rattle.syn_expr_spec.proofs.Exact.{at_most_one}
use Rattle.syn_expr_spec.proofs.laws.one_tree.Goals as goal

pub returns : goal.returns
returns c = at_most_one
