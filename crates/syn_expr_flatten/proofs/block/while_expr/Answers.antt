use Rattle.syn_expr_spec.specs.Tree as e
use Rattle.syn_expr_spec.specs.Tree.{body_of, frame, child, none}
use Rattle.syn_lower.specs.View.{mapped}
use Rattle.syn_expr_tokens.specs.View.{label_of}
use Rattle.syn_expr_flatten.proofs.Braced.{at_braces, while_braced}
use Rattle.syn_expr_flatten.proofs.Calls.{flat_by}
use Rattle.syn_expr_flatten.proofs.Children.{frame_flat, child_flat, none_flat}
use Rattle.syn_expr_flatten.proofs.block.while_expr.Goals as goal

pub returns : goal.returns
returns g c =
    let tree = g.E.HasExprTree.tree in
    at_braces _ _ _ (λ l. frame (e.while_loop (mapped label_of c.args.x.now.label)) (child e.loop_head (e.braced (body_of l c.args.x.now.body.stmts)) (tree c.args.x.now.cond.value) none)) _
    (while_braced _ _ (tree c.args.x.now.cond.value)) c.in_ok-put_around.ensures.outer c.in_ok-put_around.ensures.inner
    (frame_flat _ _ _ (child_flat _ _ _ _ _ _ (flat_by tree _ c.requires.gives _ _ c.in_ok-boxed_mut.ensures.left) none_flat))
