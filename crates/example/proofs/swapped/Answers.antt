use Rattle.example.proofs.Operands.{printed}
use Rattle.example.proofs.swapped.Goals as goal

pub returns-clause-value : goal.returns-clause-value
returns-clause-value c = printed _ _ _ _ c.in_ok-expr.ensures.read c.swap_operands.ensures c.expr_to_text.ensures.text
