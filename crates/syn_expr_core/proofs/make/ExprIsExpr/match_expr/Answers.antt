use Rattle.std.proofs.Common.{◌∙◌, rules}
use Rattle.syn_expr_core.proofs.TreeOf.{tree-Match, match_expr-is}
use Rattle.syn_expr_core.specs.declared.control.ExprMatch.{out-roll-ExprMatch}
use Rattle.syn_expr_core.proofs.make.ExprIsExpr.match_expr.Goals as goal

pub returns : goal.returns
returns c = tree-Match _ ∙ match_expr-is _ ∙ search (rules, out-roll-ExprMatch)
