use Rattle.syn_expr_spec.proofs.Same.{printed_is_same}
use Rattle.syn_expr_spec.proofs.trees.printed_is_same.Goals as goal

pub returns : goal.returns
returns c = printed_is_same
