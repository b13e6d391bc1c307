use Rattle.syn_expr_core.specs.View.{tree_of}
use Rattle.syn_expr.proofs.Promised.{text_at, back_at, added_at, own_at, minimal_at}
use Rattle.syn_expr.proofs.print.print_expr.Goals as goal

pub returns-clause-ok : goal.returns-clause-ok
returns-clause-ok c = text_at (tree_of c.args.expr.now) c.args.fixup.context c.context.result _ _ c.in_ok-print_counted.ensures.text c.context.ensures

pub returns-clause-back : goal.returns-clause-back
returns-clause-back c =
    let t = tree_of c.args.expr.now in
    let text = text_at t c.args.fixup.context c.context.result _ _ c.in_ok-print_counted.ensures.text c.context.ensures in
    λ s e. back_at s t c.args.fixup.context _ _ text e

pub returns-clause-added : goal.returns-clause-added
returns-clause-added c =
    let t = tree_of c.args.expr.now in
    let text = text_at t c.args.fixup.context c.context.result _ _ c.in_ok-print_counted.ensures.text c.context.ensures in
    λ s e. added_at s t c.args.fixup.context _ _ text e

pub returns-clause-own : goal.returns-clause-own
returns-clause-own c =
    let t = tree_of c.args.expr.now in
    let text = text_at t c.args.fixup.context c.context.result _ _ c.in_ok-print_counted.ensures.text c.context.ensures in
    λ e. own_at t c.args.fixup.context _ _ text e

pub returns-clause-minimal : goal.returns-clause-minimal
returns-clause-minimal c =
    let t = tree_of c.args.expr.now in
    let text = text_at t c.args.fixup.context c.context.result _ _ c.in_ok-print_counted.ensures.text c.context.ensures in
    λ s e. minimal_at s t c.args.fixup.context _ _ text e
