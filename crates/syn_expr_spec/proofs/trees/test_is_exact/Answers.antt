use Rattle.syn_expr_spec.proofs.TestIsExact.{test_is_exact}
use Rattle.syn_expr_spec.proofs.trees.test_is_exact.Goals as goal

pub returns : goal.returns
returns c = test_is_exact
