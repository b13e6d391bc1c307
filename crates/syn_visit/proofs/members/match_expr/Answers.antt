use Rattle.std.proofs.Common.{Contains, flat_map, subst, sym}
use Rattle.syn_expr_core.specs.View.{arm_of}
use Rattle.syn_expr_core.specs.declared.control.Arm.{Arm}
use Rattle.syn_expr_core.specs.declared.control.ExprMatch.{out-ExprMatch}
use Rattle.syn_visit_kinds.specs.Parts.{arm_operands}
use Rattle.syn_visit_kinds.specs.Walk.{went}
use Rattle.syn_visit_kinds.proofs.Walk.{next_stops, walk_flat, walk_same}
use Rattle.syn_visit.proofs.Seen.{match_are, shown_as}
use Rattle.syn_visit.proofs.members.match_expr.Goals as goal

pub arms-requires : goal.arms-requires
arms-requires g c = λ one has. c.requires.arms one (subst (λ l. Contains l one) c.deref.ensures.value has)

pub returns-in_err-one : goal.returns-in_err-one
returns-in_err-one g c = walk_same (sym (match_are c.args.x.now)) (next_stops (flat_map (λ (a : Arm). arm_operands (arm_of a)) (out-ExprMatch c.args.x.now).arms.items) _ _ c.from_residual.ensures (shown_as (out-ExprMatch c.args.x.now).expr.value c.in_err-one.ensures))

pub returns : goal.returns
returns g c =
    walk_same (sym (match_are c.args.x.now))
    (went (shown_as (out-ExprMatch c.args.x.now).expr.value c.in_ok-one.ensures) (walk_flat (λ (a : Arm). arm_operands (arm_of a)) (walk_same c.deref.ensures.value c.arms.ensures) (λ a s r z h. h)))
