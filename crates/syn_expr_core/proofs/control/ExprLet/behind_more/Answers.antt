use Rattle.std.proofs.Common.{◌∙◌}
use Rattle.syn_expr_core.specs.View.{let_parts, views}
use Rattle.syn_expr_core.specs.declared.control.ExprLet.{out-ExprLet}
use Rattle.syn_expr_core.proofs.Matches.{let_behind}
use Rattle.syn_expr_core.proofs.TreeOf.{let_expr-is}
use Rattle.syn_expr_core.proofs.control.ExprLet.behind_more.Goals as goal

pub returns : goal.returns
returns c = λ o b. let_expr-is _ ∙ let_behind views.tree views.pat (let_parts (out-ExprLet c.args.self)) c.in_ok-joined.field-0 _ _ (let_expr-is c.args.self) c.in_ok-joined.ensures.all b
