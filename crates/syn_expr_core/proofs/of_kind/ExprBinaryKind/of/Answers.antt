use Rattle.syn_expr_core.proofs.OfKind.{taken_binary}
use Rattle.syn_expr_core.proofs.of_kind.ExprBinaryKind.of.Goals as goal

pub returns : goal.returns
returns c = taken_binary c.args.taken.now c.take.result c.take.ensures.value
