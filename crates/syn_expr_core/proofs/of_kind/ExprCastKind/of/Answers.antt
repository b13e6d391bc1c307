use Rattle.syn_expr_core.proofs.OfKind.{taken_cast}
use Rattle.syn_expr_core.proofs.of_kind.ExprCastKind.of.Goals as goal

pub returns : goal.returns
returns c = taken_cast c.args.taken.now c.take.result c.take.ensures.value
