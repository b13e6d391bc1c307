use Rattle.syn_expr_spec.proofs.SummaryLemmas.{summaries_are_right}
use Rattle.syn_expr_spec.proofs.trees.summaries_are_right.Goals as goal

pub returns : goal.returns
returns c = summaries_are_right
