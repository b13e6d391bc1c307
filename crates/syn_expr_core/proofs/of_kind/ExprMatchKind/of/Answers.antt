use Rattle.syn_expr_core.proofs.OfKind.{taken_match}
use Rattle.syn_expr_core.proofs.of_kind.ExprMatchKind.of.Goals as goal

pub returns : goal.returns
returns c = taken_match c.args.taken.now c.take.result c.take.ensures.value
