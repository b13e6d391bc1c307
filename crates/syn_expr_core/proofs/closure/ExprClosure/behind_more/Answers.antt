use Rattle.std.proofs.Common.{◌∙◌}
use Rattle.syn_expr_core.specs.View.{closure_parts, views}
use Rattle.syn_expr_core.specs.declared.closure.ExprClosure.{out-ExprClosure}
use Rattle.syn_expr_core.proofs.Matches.{closure_behind}
use Rattle.syn_expr_core.proofs.TreeOf.{closure-is}
use Rattle.syn_expr_core.proofs.closure.ExprClosure.behind_more.Goals as goal

pub returns : goal.returns
returns c = λ o b. closure-is _ ∙ closure_behind views.tree views.pat (closure_parts (out-ExprClosure c.args.self)) c.in_ok-joined.field-0 _ _ (closure-is c.args.self) c.in_ok-joined.ensures.all b
