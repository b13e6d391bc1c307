use Rattle.std.proofs.Common.{Contains, subst}
use Rattle.syn_expr_core.specs.View.{arm_of, tree_of}
use Rattle.syn_expr_flatten.specs.Pats.{IsFlatArm}
use Rattle.syn_expr_flatten.proofs.Calls.{flat_by, left_by}
use Rattle.syn_visit_kinds.proofs.Elementwise.{each_by}
use Rattle.syn_expr_flatten.proofs.Matches.{arms_same, match_left}
use Rattle.syn_expr_flatten.proofs.members.match_expr.Goals as goal

pub each-requires : goal.each-requires
each-requires g c = λ one has. c.requires.arms one (subst (λ l. Contains l one) (arms_same c.args.x.now c.put_around.new.own c.boxed_mut.new.x) has)

pub returns : goal.returns
returns g c = match_left c.args.attrs c.args.x.now c.put_around.new.own c.boxed_mut.new.x _ (c.in_ok-put_around.ensures.outer, c.in_ok-put_around.ensures.inner)
    (flat_by tree_of _ c.requires.gives _ _ c.in_ok-boxed_mut.ensures.left)
    (each_by _ _ (left_by _ (λ x y. IsFlatArm (arm_of x) (arm_of y)) c.requires.each) _ _ c.in_ok-each.ensures)
