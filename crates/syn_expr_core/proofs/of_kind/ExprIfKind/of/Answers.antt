use Rattle.syn_expr_core.proofs.OfKind.{taken_if}
use Rattle.syn_expr_core.proofs.of_kind.ExprIfKind.of.Goals as goal

pub returns : goal.returns
returns c = taken_if c.args.taken.now c.take.result c.take.ensures.value
