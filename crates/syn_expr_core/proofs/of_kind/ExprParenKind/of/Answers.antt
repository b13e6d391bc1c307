use Rattle.syn_expr_core.proofs.OfKind.{taken_paren}
use Rattle.syn_expr_core.proofs.of_kind.ExprParenKind.of.Goals as goal

pub returns : goal.returns
returns c = taken_paren c.args.taken.now c.take.result c.take.ensures.value
