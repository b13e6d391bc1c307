use Rattle.syn_expr_core.proofs.OfKind.{taken_range}
use Rattle.syn_expr_core.proofs.of_kind.ExprRangeKind.of.Goals as goal

pub returns : goal.returns
returns c = taken_range c.args.taken.now c.take.result c.take.ensures.value
