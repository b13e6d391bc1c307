use Rattle.syn_expr_spec.proofs.Added.{pairs_are_added}
use Rattle.syn_expr_spec.proofs.printing.pairs_are_added.Goals as goal

pub returns : goal.returns
returns c = pairs_are_added
