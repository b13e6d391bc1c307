use Rattle.std.proofs.Common.{ap}
use Rattle.syn_expr_core.specs.View.{tree_of}
use Rattle.syn_expr.specs.Texts.{position_of}
use Rattle.syn_expr.proofs.Promised.{is_text, is_stable}
use Rattle.syn_expr.proofs.print.expr_to_text.Goals as goal

pub returns-clause-text : goal.returns-clause-text
returns-clause-text c =
    let s = position_of c.args.position in
    is_text s (tree_of c.args.expr.now) _ _ (c.in_ok-printed.ensures.promised s (ap (λ f. f.context) c.fixup.ensures)) c.to_text.ensures

pub returns-clause-again : goal.returns-clause-again
returns-clause-again c =
    let s = position_of c.args.position in
    is_stable s (tree_of c.args.expr.now) _ _ (c.in_ok-printed.ensures.promised s (ap (λ f. f.context) c.fixup.ensures)) c.to_text.ensures
