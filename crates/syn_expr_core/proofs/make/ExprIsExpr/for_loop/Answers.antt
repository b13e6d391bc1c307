use Rattle.std.proofs.Common.{◌∙◌}
use Rattle.syn_expr_core.proofs.TreeOf.{tree-ForLoop, for_loop-is}
use Rattle.syn_expr_core.proofs.make.ExprIsExpr.for_loop.Goals as goal

pub returns : goal.returns
returns c = tree-ForLoop _ ∙ for_loop-is _
