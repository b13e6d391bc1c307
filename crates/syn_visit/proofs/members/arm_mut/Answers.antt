use Rattle.std.proofs.Common.{[], ◌∷◌}
use Rattle.syn_expr_core.specs.View.{tree_of}
use Rattle.syn_expr_core.specs.declared.control.Arm.{out-Arm}
use Rattle.syn_visit_kinds.proofs.Changes.{change_shown, changed_both, changed_one, changed_stops}
use Rattle.syn_visit.proofs.Left.{arm_changed}
use Rattle.syn_visit.proofs.members.arm_mut.Goals as goal

pub returns-in_err-pattern_mut : goal.returns-in_err-pattern_mut
returns-in_err-pattern_mut g c =
    let whole = out-Arm c.args.x.now in
    arm_changed c.args.x.now _ whole.body c.in_err-pattern_mut.ensures (changed_stops (tree_of whole.body.value ∷ []) _ c.from_residual.ensures c.in_err-pattern_mut.ensures.guards)

pub returns : goal.returns
returns g c = arm_changed c.args.x.now _ _ c.in_ok-pattern_mut.ensures (changed_both c.in_ok-pattern_mut.ensures.guards (changed_one _ (change_shown tree_of _ _ _ c.boxed_mut.ensures.changed)))
