use Rattle.std.proofs.Common.{ap}
use Rattle.syn_expr_core.specs.View.{tree_of}
use Rattle.syn_expr.specs.Texts.{position_of}
use Rattle.syn_expr.proofs.Promised.{is_laid_out, is_read_again}
use Rattle.syn_expr.proofs.print.tidy_text.Goals as goal

pub returns-clause-layout : goal.returns-clause-layout
returns-clause-layout c =
    let s = position_of c.args.position in
    is_laid_out s (tree_of c.args.expr.now) _ _ (c.in_ok-printed.ensures.promised s (ap (λ f. f.context) c.fixup.ensures)) c.tidy.ensures.layout

pub returns-clause-again : goal.returns-clause-again
returns-clause-again c =
    let s = position_of c.args.position in
    is_read_again s (tree_of c.args.expr.now) _ _ (c.in_ok-printed.ensures.promised s (ap (λ f. f.context) c.fixup.ensures)) c.tidy.ensures.layout c.tidy.ensures.again
