use Rattle.syn_expr_spec.proofs.FirstLabel.{leading_label_is_first}
use Rattle.syn_expr_spec.proofs.queries.leading_label_is_first.Goals as goal

pub returns : goal.returns
returns c = leading_label_is_first
