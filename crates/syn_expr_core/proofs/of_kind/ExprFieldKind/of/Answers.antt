use Rattle.syn_expr_core.proofs.OfKind.{taken_field}
use Rattle.syn_expr_core.proofs.of_kind.ExprFieldKind.of.Goals as goal

pub returns : goal.returns
returns c = taken_field c.args.taken.now c.take.result c.take.ensures.value
