use Rattle.syn_expr_print.proofs.Shapes.{open-written}
use Rattle.syn_expr_print.proofs.single.frames.opened.Goals as goal

pub returns-clause-text : goal.returns-clause-text
returns-clause-text g c =
    open-written g.P.HasPatTree.view _ c.args.frame _ _ _ _ _ c.requires.open c.in_ok-put_attributes.ensures.ok c.in_ok-put_frame_head.ensures.ok
    c.in_ok-placed.ensures.text
