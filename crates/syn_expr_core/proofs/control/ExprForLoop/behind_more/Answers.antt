use Rattle.std.proofs.Common.{◌++◌, ap, ◌∙◌}
use Rattle.syn_expr_ast.specs.Attrs.{outer_of}
use Rattle.syn_expr_ast.proofs.Attributed.{outer_all}
use Rattle.syn_expr_core.specs.View.{for_loop_parts, views}
use Rattle.syn_expr_core.specs.declared.control.ExprForLoop.{out-ExprForLoop}
use Rattle.syn_expr_core.proofs.Matches.{for_loop_behind}
use Rattle.syn_expr_core.proofs.TreeOf.{for_loop-is}
use Rattle.syn_expr_core.proofs.control.ExprForLoop.behind_more.Goals as goal

pub returns : goal.returns
returns c = λ o b.
    let outer = c.in_ok-joined.ensures.outer ∙ ap (λ l. l ++ outer_of (out-ExprForLoop c.args.self).attrs) (outer_all c.args.attrs o) in
    for_loop-is _ ∙ for_loop_behind views.tree views.pat (for_loop_parts (out-ExprForLoop c.args.self)) c.in_ok-joined.field-0 _ _ (for_loop-is c.args.self) outer (c.in_ok-joined.ensures.inner o) b
