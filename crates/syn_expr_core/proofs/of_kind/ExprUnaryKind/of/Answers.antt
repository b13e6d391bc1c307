use Rattle.syn_expr_core.proofs.OfKind.{taken_unary}
use Rattle.syn_expr_core.proofs.of_kind.ExprUnaryKind.of.Goals as goal

pub returns : goal.returns
returns c = taken_unary c.args.taken.now c.take.result c.take.ensures.value
