use Rattle.std.proofs.Common.{◌≡◌, ◌≤◌, ◌++◌, length, map}
use Rattle.syn_tokens.specs.Input.{IsFront}
use Rattle.syn_expr_fixup.specs.Below.{arm_below, backwards, total}
use Rattle.syn_expr_print.specs.Placed.{arm_size, arms_spelled}
use Rattle.syn_expr_print.specs.Taken.{Going}
use Rattle.syn_expr_print.proofs.match_expr.arms.Given as goal

abbrev pub invariant-arms : goal.invariant-arms
invariant-arms g l = record {
  text : l.tokens ++ arms_spelled (map g.E.Arm.HasArmView.view l.arms) ≡ l.fn.tokens ++ arms_spelled (map g.E.Arm.HasArmView.view l.fn.arms);
  front : IsFront l.fn.tokens l.tokens;
  going : Going l.fn.summaries l.summaries (backwards (λ x. arm_below (g.E.Arm.HasArmView.view x)) l.fn.arms) (backwards (λ x. arm_below (g.E.Arm.HasArmView.view x)) l.arms);
  fewer : total (λ x. arm_size (g.E.Arm.HasArmView.view x)) l.arms ≤ total (λ x. arm_size (g.E.Arm.HasArmView.view x)) l.fn.arms;
}

abbrev pub decreases-arms : goal.decreases-arms
decreases-arms g l = length l.arms
