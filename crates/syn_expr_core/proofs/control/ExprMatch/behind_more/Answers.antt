use Rattle.std.proofs.Common.{◌++◌, ap, ◌∙◌}
use Rattle.syn_expr_ast.specs.Attrs.{outer_of}
use Rattle.syn_expr_ast.proofs.Attributed.{outer_all}
use Rattle.syn_expr_core.specs.declared.control.ExprMatch.{out-ExprMatch}
use Rattle.syn_expr_core.proofs.Matches.{match_expr_behind}
use Rattle.syn_expr_core.proofs.control.ExprMatch.behind_more.Goals as goal

pub returns : goal.returns
returns c = λ o.
    let outer = c.in_ok-joined.ensures.outer ∙ ap (λ l. l ++ outer_of (out-ExprMatch c.args.self).attrs) (outer_all c.args.attrs o) in
    match_expr_behind c.args.self c.in_ok-joined.field-0 _ outer (c.in_ok-joined.ensures.inner o)
