use Rattle.syn_expr_spec.proofs.Bindings.{comparisons_dont_chain}
use Rattle.syn_expr_spec.proofs.trees.comparisons_dont_chain.Goals as goal

pub returns : goal.returns
returns c = comparisons_dont_chain
