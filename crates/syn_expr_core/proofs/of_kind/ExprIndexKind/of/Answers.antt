use Rattle.syn_expr_core.proofs.OfKind.{taken_index}
use Rattle.syn_expr_core.proofs.of_kind.ExprIndexKind.of.Goals as goal

pub returns : goal.returns
returns c = taken_index c.args.taken.now c.take.result c.take.ensures.value
