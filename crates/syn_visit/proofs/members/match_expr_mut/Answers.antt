use Rattle.std.proofs.Common.{Contains, flat_map, map, refl, subst}
use Rattle.syn_expr_core.specs.View.{arm_of, tree_of}
use Rattle.syn_expr_core.specs.declared.control.ExprMatch.{out-ExprMatch}
use Rattle.syn_visit_kinds.specs.Parts.{arm_operands}
use Rattle.syn_visit_kinds.proofs.Changes.{change_shown, next_stops}
use Rattle.syn_visit.proofs.Left.{arms_changed, arms_same, match_changed}
use Rattle.syn_visit.proofs.members.match_expr_mut.Goals as goal

pub arms_mut-requires : goal.arms_mut-requires
arms_mut-requires g c = λ one has. c.requires.arms one (subst (λ l. Contains l one) (arms_same c.args.x.now c.boxed_mut.new.x) has)

pub returns-in_err-boxed_mut : goal.returns-in_err-boxed_mut
returns-in_err-boxed_mut g c =
    let arms = (out-ExprMatch c.args.x.now).arms in
    match_changed c.args.x.now c.boxed_mut.new.x arms (λ k. refl) (next_stops (flat_map arm_operands (map arm_of arms.items)) _ _ c.from_residual.ensures (change_shown tree_of _ _ _ c.in_err-boxed_mut.ensures.changed))

pub returns : goal.returns
returns g c = arms_changed c.args.x.now c.boxed_mut.new.x c.arms_mut.new.xs (change_shown tree_of _ _ _ c.in_ok-boxed_mut.ensures.changed) c.arms_mut.ensures
