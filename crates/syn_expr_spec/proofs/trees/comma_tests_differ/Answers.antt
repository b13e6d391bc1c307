use Rattle.syn_expr_spec.proofs.Conditions.{comma_tests_differ}
use Rattle.syn_expr_spec.proofs.trees.comma_tests_differ.Goals as goal

pub returns : goal.returns
returns c = comma_tests_differ
