use Rattle.std.proofs.Common.{◌∙◌}
use Rattle.syn_expr_core.proofs.TreeOf.{tree-Closure, closure-is}
use Rattle.syn_expr_core.proofs.make.ExprIsExpr.closure.Goals as goal

pub returns : goal.returns
returns c = tree-Closure _ ∙ closure-is _
