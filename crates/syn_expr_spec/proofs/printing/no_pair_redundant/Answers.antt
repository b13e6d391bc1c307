use Rattle.syn_expr_spec.proofs.RedundantPlain.{no_pair_redundant}
use Rattle.syn_expr_spec.proofs.printing.no_pair_redundant.Goals as goal

pub returns : goal.returns
returns c = no_pair_redundant
