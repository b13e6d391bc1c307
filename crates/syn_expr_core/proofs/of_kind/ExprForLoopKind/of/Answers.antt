use Rattle.syn_expr_core.proofs.OfKind.{taken_for_loop}
use Rattle.syn_expr_core.proofs.of_kind.ExprForLoopKind.of.Goals as goal

pub returns : goal.returns
returns c = taken_for_loop c.args.taken.now c.take.result c.take.ensures.value
