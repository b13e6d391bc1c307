use Rattle.syn_expr_core.proofs.OfKind.{taken_yield}
use Rattle.syn_expr_core.proofs.of_kind.ExprYieldKind.of.Goals as goal

pub returns : goal.returns
returns c = taken_yield c.args.taken.now c.take.result c.take.ensures.value
