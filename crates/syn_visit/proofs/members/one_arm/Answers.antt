use Rattle.std.proofs.Common.{[], ◌∷◌}
use Rattle.syn_expr_core.specs.View.{tree_of}
use Rattle.syn_expr_core.specs.declared.control.Arm.{out-Arm}
use Rattle.syn_visit_kinds.proofs.Walk.{walk_one}
use Rattle.syn_visit.proofs.Seen.{arm_are, parts_stop, parts_walk, shown_as}
use Rattle.syn_visit.proofs.members.one_arm.Goals as goal

pub returns-in_err-pattern : goal.returns-in_err-pattern
returns-in_err-pattern g c = parts_stop (tree_of (out-Arm c.args.x.now).body.value ∷ []) _ (arm_are c.args.x.now) c.from_residual.ensures c.in_err-pattern.ensures

pub returns : goal.returns
returns g c = parts_walk (arm_are c.args.x.now) c.in_ok-pattern.ensures (walk_one _ (shown_as (out-Arm c.args.x.now).body.value c.one.ensures))
