use Rattle.syn_expr_spec.proofs.Bindings.{right_operand_binds_tighter}
use Rattle.syn_expr_spec.proofs.trees.right_operand_binds_tighter.Goals as goal

pub returns : goal.returns
returns c = right_operand_binds_tighter
