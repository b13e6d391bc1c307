use Rattle.syn_expr_core.proofs.OfKind.{taken_closure}
use Rattle.syn_expr_core.proofs.of_kind.ExprClosureKind.of.Goals as goal

pub returns : goal.returns
returns c = taken_closure c.args.taken.now c.take.result c.take.ensures.value
