-- After attributes that are all inner ones, what a node begins with is first.
use Rattle.std.proofs.Common.{◌≡◌, Some, true, ap, sym, ◌∙◌}
use Rattle.syn_expr_spec.specs.Query as query
use Rattle.syn_expr_spec.specs.Tree.{outers}
use Rattle.syn_lower_leaves.specs.View.{mapped}
use Rattle.syn_lower_spec.specs.Form.{is_nil}
use Rattle.syn_expr_ast.specs.Label.{kind_at}
use Rattle.syn_expr_ast.specs.Node.{attributes_at, first_of, operands_at}
use Rattle.syn_expr_classify.specs.Node.{asked, verbatim_at, word_behind}
use Rattle.syn_expr_classify.proofs.Labels.{leads-first, leads-verbatim}
use Rattle.syn_expr_classify.proofs.classify.+begins_with_label.Goals as goal

pub returns-in-Some-first : goal.returns-in-Some-first
returns-in-Some-first g t c =
    let tree = g.E.HasExprTree.tree in
    let x = tree c.args.expr.now in
    let none : is_nil (outers (attributes_at x)) ≡ true =
    ap (λ ats. is_nil (outers ats)) (sym c.attributes.ensures) ∙ sym c.prints_none_before.ensures ∙ c.if-not-prints_none_before.false in
    let word : word_behind (kind_at x) ≡ Some c.in-Some.word = ap word_behind (sym c.kind-kind.ensures) ∙ sym c.word_behind.ensures ∙ c.in-Some.is in
    let first : Some (tree c.in-Some-first.x.now) ≡ first_of (operands_at x) =
    ap (mapped (λ y. tree y.now)) (sym c.in-Some-first.is) ∙ c.first.ensures tree g.E.Arm.HasArmView.view ∙ ap first_of c.operands.ensures in
    c.begins_with_label.ensures ∙ ap (asked (query.tree_leads c.in-Some.word)) first
    ∙ leads-first c.args.word c.in-Some.word x none (g.met.E.HasFrames.framed c.args.expr.now) word

pub returns-in-Some-verbatim_tokens : goal.returns-in-Some-verbatim_tokens
returns-in-Some-verbatim_tokens g t c =
    let x = g.E.HasExprTree.tree c.args.expr.now in
    let none : is_nil (outers (attributes_at x)) ≡ true =
    ap (λ ats. is_nil (outers ats)) (sym c.attributes.ensures) ∙ sym c.prints_none_before.ensures ∙ c.if-not-prints_none_before.false in
    let verbatim : verbatim_at x ≡ Some c.in-Some-verbatim_tokens.tokens.now = sym c.verbatim_tokens.ensures ∙ ap (mapped (λ ts. ts.now)) c.in-Some-verbatim_tokens.is in
    c.begins_with_lifetime.ensures ∙ leads-verbatim c.args.word c.in-Some-verbatim_tokens.tokens.now x none (g.met.E.HasFrames.framed c.args.expr.now) verbatim
