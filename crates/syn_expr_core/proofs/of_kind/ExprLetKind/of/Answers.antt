use Rattle.syn_expr_core.proofs.OfKind.{taken_let}
use Rattle.syn_expr_core.proofs.of_kind.ExprLetKind.of.Goals as goal

pub returns : goal.returns
returns c = taken_let c.args.taken.now c.take.result c.take.ensures.value
