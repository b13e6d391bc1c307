use Rattle.std.proofs.Common.{◌∙◌}
use Rattle.syn_expr_core.proofs.TreeOf.{tree-Let, let_expr-is}
use Rattle.syn_expr_core.proofs.make.ExprIsExpr.let_expr.Goals as goal

pub returns : goal.returns
returns c = tree-Let _ ∙ let_expr-is _
