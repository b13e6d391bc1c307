use Rattle.syn_expr_core.proofs.OfKind.{taken_method_call}
use Rattle.syn_expr_core.proofs.of_kind.ExprMethodCallKind.of.Goals as goal

pub returns : goal.returns
returns c = taken_method_call c.args.taken.now c.take.result c.take.ensures.value
