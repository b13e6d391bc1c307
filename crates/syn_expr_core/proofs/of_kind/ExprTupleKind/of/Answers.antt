use Rattle.syn_expr_core.proofs.OfKind.{taken_tuple}
use Rattle.syn_expr_core.proofs.of_kind.ExprTupleKind.of.Goals as goal

pub returns : goal.returns
returns c = taken_tuple c.args.taken.now c.take.result c.take.ensures.value
