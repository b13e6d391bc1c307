-- What holds patterns is read back, by the shape that is lent.
use Rattle.std.proofs.Common.{◌≡◌, Some, ap, sym, ◌∙◌}
use Rattle.syn_lower_leaves.specs.View.{mapped}
use Rattle.syn_expr_ast.specs.Node.{prefix_seen, frame_seen, prefix_at, frame_at}
use Rattle.syn_expr_wellformed.proofs.Owns.{own-prefixed, own-frame}
use Rattle.syn_expr_wellformed.proofs.own.own_fits.Goals as goal

pub returns-in-Some-prefix : goal.returns-in-Some-prefix
returns-in-Some-prefix g c =
    let t = g.E.HasExprTree.tree c.args.expr.now in
    let pat = g.E.Pat.HasPatTree.view in
    let k = prefix_seen pat c.in-Some-prefix.prefix in
    let l : prefix_at t ≡ Some k = sym c.prefix.ensures ∙ ap (mapped (prefix_seen pat)) c.in-Some-prefix.is in
    c.prefix_fits.ensures ∙ own-prefixed k t l

pub returns-in-Some-frame : goal.returns-in-Some-frame
returns-in-Some-frame g c =
    let t = g.E.HasExprTree.tree c.args.expr.now in
    let pat = g.E.Pat.HasPatTree.view in
    let k = frame_seen pat c.in-Some-frame.frame in
    let l : frame_at t ≡ Some k = sym c.frame.ensures ∙ ap (mapped (frame_seen pat)) c.in-Some-frame.is in
    c.frame_fits.ensures ∙ own-frame k t l
