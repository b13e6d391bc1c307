-- The arms after what is looked at.
use Rattle.std.proofs.Common.{◌++◌, subst, sym, ap, arith}
use Rattle.syn_expr_spec.specs.Summaries.{stack}
use Rattle.syn_expr_fixup.specs.Below.{arm_below, backwards, total}
use Rattle.syn_expr_print.specs.Placed.{arm_size}
use Rattle.syn_expr_print.specs.Printing.{EndsWith}
use Rattle.syn_expr_print.proofs.Stacks.{taken-left}
use Rattle.syn_expr_print.proofs.frames.chosen.Goals as goal

pub arms-requires-clause-callable : goal.arms-requires-clause-callable
arms-requires-clause-callable g c =
    let v = ap (total (λ x. arm_size (g.E.Arm.HasArmView.view x))) c.deref.ensures.value in
    λ out summaries x d l e. c.requires.callable out summaries x d (omega arith) e

pub arms-requires-clause-stacked : goal.arms-requires-clause-stacked
arms-requires-clause-stacked g c =
    let head = stack (g.E.HasExprTree.tree c.args.scrutinee.now) in
    let ends = subst (λ l. EndsWith c.args.summaries.now.left.items (backwards (λ x. arm_below (g.E.Arm.HasArmView.view x)) l ++ head)) (sym c.deref.ensures.value) c.requires.stacked in
    taken-left _ _ head _ ends c.in_ok-whole.ensures.taken
