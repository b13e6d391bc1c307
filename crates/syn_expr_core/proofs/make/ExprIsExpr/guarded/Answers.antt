use Rattle.std.proofs.Common.{◌∙◌}
use Rattle.syn_expr_core.proofs.TreeOf.{pat-Guard, guard-is}
use Rattle.syn_expr_core.proofs.make.ExprIsExpr.guarded.Goals as goal

pub returns : goal.returns
returns c = pat-Guard _ ∙ guard-is _
