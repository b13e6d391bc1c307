use Rattle.syn_expr_core.proofs.OfKind.{taken_break}
use Rattle.syn_expr_core.proofs.of_kind.ExprBreakKind.of.Goals as goal

pub returns : goal.returns
returns c = taken_break c.args.taken.now c.take.result c.take.ensures.value
