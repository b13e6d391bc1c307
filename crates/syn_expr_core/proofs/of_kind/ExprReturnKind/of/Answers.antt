use Rattle.syn_expr_core.proofs.OfKind.{taken_return}
use Rattle.syn_expr_core.proofs.of_kind.ExprReturnKind.of.Goals as goal

pub returns : goal.returns
returns c = taken_return c.args.taken.now c.take.result c.take.ensures.value
