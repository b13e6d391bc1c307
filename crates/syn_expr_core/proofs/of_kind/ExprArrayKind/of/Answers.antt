use Rattle.syn_expr_core.proofs.OfKind.{taken_array}
use Rattle.syn_expr_core.proofs.of_kind.ExprArrayKind.of.Goals as goal

pub returns : goal.returns
returns c = taken_array c.args.taken.now c.take.result c.take.ensures.value
