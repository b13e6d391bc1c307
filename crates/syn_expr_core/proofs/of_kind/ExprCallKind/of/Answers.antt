use Rattle.syn_expr_core.proofs.OfKind.{taken_call}
use Rattle.syn_expr_core.proofs.of_kind.ExprCallKind.of.Goals as goal

pub returns : goal.returns
returns c = taken_call c.args.taken.now c.take.result c.take.ensures.value
