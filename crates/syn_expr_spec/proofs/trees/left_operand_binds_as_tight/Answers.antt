use Rattle.syn_expr_spec.proofs.Bindings.{left_operand_binds_as_tight}
use Rattle.syn_expr_spec.proofs.trees.left_operand_binds_as_tight.Goals as goal

pub returns : goal.returns
returns c = left_operand_binds_as_tight
