use Rattle.syn_expr_spec.proofs.Bindings.{range_is_no_left_operand}
use Rattle.syn_expr_spec.proofs.trees.range_is_no_left_operand.Goals as goal

pub returns : goal.returns
returns c = range_is_no_left_operand
