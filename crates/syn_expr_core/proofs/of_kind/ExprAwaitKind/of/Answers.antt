use Rattle.syn_expr_core.proofs.OfKind.{taken_await}
use Rattle.syn_expr_core.proofs.of_kind.ExprAwaitKind.of.Goals as goal

pub returns : goal.returns
returns c = taken_await c.args.taken.now c.take.result c.take.ensures.value
