-- Where the operands of a frame stand.
use Rattle.std.proofs.Common.{◌≡◌, Some, ap, sym, ◌∙◌}
use Rattle.syn_lower_leaves.specs.View.{mapped}
use Rattle.syn_expr_ast.specs.Node.{frame_seen, frame_at}
use Rattle.syn_expr_wellformed.proofs.Owns.{slot-frame, dots-frame}
use Rattle.syn_expr_wellformed.proofs.slot.operand_slot.Goals as goal

pub returns-in-Some-frame-clause-slot : goal.returns-in-Some-frame-clause-slot
returns-in-Some-frame-clause-slot g c =
    let t = g.E.HasExprTree.tree c.args.expr.now in
    let pat = g.E.Pat.HasPatTree.view in
    let k = frame_seen pat c.in-Some-frame.frame in
    let l : frame_at t ≡ Some k = sym c.frame.ensures ∙ ap (mapped (frame_seen pat)) c.in-Some-frame.is in
    c.frame_slot.ensures.slot pat ∙ slot-frame k t l

pub returns-in-Some-frame-clause-dots : goal.returns-in-Some-frame-clause-dots
returns-in-Some-frame-clause-dots g c =
    let t = g.E.HasExprTree.tree c.args.expr.now in
    let pat = g.E.Pat.HasPatTree.view in
    let k = frame_seen pat c.in-Some-frame.frame in
    let l : frame_at t ≡ Some k = sym c.frame.ensures ∙ ap (mapped (frame_seen pat)) c.in-Some-frame.is in
    c.frame_slot.ensures.dots pat ∙ dots-frame k t l
