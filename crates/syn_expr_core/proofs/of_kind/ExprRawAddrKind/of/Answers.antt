use Rattle.syn_expr_core.proofs.OfKind.{taken_raw_addr}
use Rattle.syn_expr_core.proofs.of_kind.ExprRawAddrKind.of.Goals as goal

pub returns : goal.returns
returns c = taken_raw_addr c.args.taken.now c.take.result c.take.ensures.value
