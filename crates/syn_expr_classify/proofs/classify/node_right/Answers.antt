-- What is last in a node, by the shape that is lent.
use Rattle.std.proofs.Common.{◌≡◌, ◌&&◌, Some, ap, sym, subst, ◌∙◌}
use Rattle.syn_expr_spec.specs.Query as query
use Rattle.syn_expr_spec.specs.Tree.{outers}
use Rattle.syn_lower_leaves.specs.View.{mapped}
use Rattle.syn_lower_spec.specs.Form.{is_nil}
use Rattle.syn_expr_ast.specs.Node.{leaf_of, prefix_seen, frame_seen, operands_at, leaf_at, prefix_at, frame_at, last_of}
use Rattle.syn_expr_classify.specs.Node.{asked}
use Rattle.syn_expr_classify.specs.Right.{NodeTells}
use Rattle.syn_expr_classify.proofs.Rights.{right-leaf, right-prefixed, right-frame}
use Rattle.syn_expr_classify.proofs.classify.node_right.Goals as goal

pub returns-in-Some : goal.returns-in-Some
returns-in-Some g c =
    let t = g.E.HasExprTree.tree c.args.expr.now in
    let l : leaf_at t ≡ Some (leaf_of c.in-Some.leaf) = sym c.leaf.ensures ∙ ap (mapped leaf_of) c.in-Some.is in
    let b = c.behind-before.ensures ∙ ap (λ ats. is_nil (outers ats) && c.args.before) c.attributes.ensures in
    c.leaf_brace.ensures ∙ (ap (λ x. query.leaf_brace x (leaf_of c.in-Some.leaf)) b ∙ right-leaf c.args.before (leaf_of c.in-Some.leaf) t l (g.met.E.HasFrames.framed c.args.expr.now))

pub returns-in-Some-prefix : goal.returns-in-Some-prefix
returns-in-Some-prefix g c =
    let t = g.E.HasExprTree.tree c.args.expr.now in
    let pat = g.E.Pat.HasPatTree.view in
    let k = prefix_seen pat c.in-Some-prefix.prefix in
    let l : prefix_at t ≡ Some k = sym c.prefix.ensures ∙ ap (mapped (prefix_seen pat)) c.in-Some-prefix.is in
    ap (λ b. asked (query.tree_brace b) (last_of (operands_at t))) (c.prefix_brace.ensures pat) ∙ right-prefixed c.args.before k t l

pub returns-in-Some-frame : goal.returns-in-Some-frame
returns-in-Some-frame g c =
    let t = g.E.HasExprTree.tree c.args.expr.now in
    let pat = g.E.Pat.HasPatTree.view in
    let k = frame_seen pat c.in-Some-frame.frame in
    let l : frame_at t ≡ Some k = sym c.frame.ensures ∙ ap (mapped (frame_seen pat)) c.in-Some-frame.is in
    let r = right-frame c.args.before k t l (g.met.E.HasFrames.framed c.args.expr.now) in
    subst (λ q. NodeTells q c.args.before t) (sym (c.frame_right.ensures pat)) r
