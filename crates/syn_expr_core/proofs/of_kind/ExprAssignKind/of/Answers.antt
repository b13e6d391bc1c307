use Rattle.syn_expr_core.proofs.OfKind.{taken_assign}
use Rattle.syn_expr_core.proofs.of_kind.ExprAssignKind.of.Goals as goal

pub returns : goal.returns
returns c = taken_assign c.args.taken.now c.take.result c.take.ensures.value
