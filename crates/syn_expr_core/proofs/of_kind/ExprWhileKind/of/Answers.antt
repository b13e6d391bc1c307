use Rattle.syn_expr_core.proofs.OfKind.{taken_while}
use Rattle.syn_expr_core.proofs.of_kind.ExprWhileKind.of.Goals as goal

pub returns : goal.returns
returns c = taken_while c.args.taken.now c.take.result c.take.ensures.value
