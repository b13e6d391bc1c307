use Rattle.syn_expr_print.proofs.Shapes.{closed-written}
use Rattle.syn_expr_print.proofs.single.frames.closed.Goals as goal

pub returns-clause-text : goal.returns-clause-text
returns-clause-text g c =
    closed-written g.P.HasPatTree.view _ c.args.frame _ c.args.needs_comma _ _ _ _ _ c.requires.closed c.requires.comma c.new-inside.ensures
    c.in_ok-placed.ensures.text c.in_ok-put_attributes.ensures.ok c.in_ok-put_framed.ensures.ok
