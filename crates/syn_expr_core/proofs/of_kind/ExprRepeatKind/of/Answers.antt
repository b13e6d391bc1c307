use Rattle.syn_expr_core.proofs.OfKind.{taken_repeat}
use Rattle.syn_expr_core.proofs.of_kind.ExprRepeatKind.of.Goals as goal

pub returns : goal.returns
returns c = taken_repeat c.args.taken.now c.take.result c.take.ensures.value
