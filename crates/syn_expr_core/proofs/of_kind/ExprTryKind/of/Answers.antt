use Rattle.syn_expr_core.proofs.OfKind.{taken_try}
use Rattle.syn_expr_core.proofs.of_kind.ExprTryKind.of.Goals as goal

pub returns : goal.returns
returns c = taken_try c.args.taken.now c.take.result c.take.ensures.value
