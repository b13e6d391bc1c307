use Rattle.std.proofs.Common.{refl}
use Rattle.syn_expr_core.proofs.Verbatim.{not_verbatim}
use Rattle.syn_expr_core.proofs.expr.node.ExprReadExprs.into_verbatim.Goals as goal

pub returns-in_default : goal.returns-in_default
returns-in_default c = (refl, not_verbatim c.args.self c.in_default.not-Verbatim)
