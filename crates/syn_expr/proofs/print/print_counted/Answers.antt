use Rattle.syn_expr_core.specs.View.{tree_of}
use Rattle.syn_expr.proofs.Promised.{text_of, prints_at}
use Rattle.syn_expr.proofs.print.print_counted.Goals as goal

pub returns-clause-ok : goal.returns-clause-ok
returns-clause-ok c = text_of (tree_of c.args.expr.now) c.args.fixup.context c.context.result _ _ c.in_ok-visits.ensures.text c.context.ensures c.new-tokens.ensures

pub returns-clause-promised : goal.returns-clause-promised
returns-clause-promised c =
    let t = tree_of c.args.expr.now in
    let text = text_of t c.args.fixup.context c.context.result _ _ c.in_ok-visits.ensures.text c.context.ensures c.new-tokens.ensures in
    λ s e. prints_at s t c.args.fixup.context _ text e
