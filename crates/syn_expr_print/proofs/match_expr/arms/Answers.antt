-- An arm and those after it.
use Rattle.std.proofs.Common.{◌-◌, ◌++◌, length, take, drop, map, subst, sym, ap, ◌∙◌, arith}
use Rattle.std.specs.Prelude.{not}
use Rattle.syn_tokens.proofs.Fronts.{front_through}
use Rattle.syn_expr_fixup.specs.Below.{arm_below, backwards, total}
use Rattle.syn_expr_print.specs.Placed.{arm_size, arm_spelled, arms_spelled, comma_if, has_comma}
use Rattle.syn_expr_print.specs.Taken.{Going}
use Rattle.syn_expr_print.proofs.Matches.{nil-map}
use Rattle.syn_expr_print.proofs.Turns.{cut_item, going-next, going-on, one_behind}
use Rattle.syn_expr_print.proofs.match_expr.arms.Goals as goal

pub arm-requires-clause-stacked : goal.arm-requires-clause-stacked
arm-requires-clause-stacked g c =
    let h = cut_item c.arms.arms.now c.arm-item.result c.in-len1-up.len_at_least c.arm-item.is in
    let going = subst (λ l. Going c.args.summaries.now c.arms.summaries (backwards (λ x. arm_below (g.E.Arm.HasArmView.view x)) c.args.arms.now) (backwards (λ x. arm_below (g.E.Arm.HasArmView.view x)) l)) h c.arms.invariant.going in
    going-next _ _ _ _ _ c.requires.stacked going

pub arms-preserved : goal.arms-preserved
arms-preserved g c =
    let view = g.E.Arm.HasArmView.view in
    let now = c.arms.tokens in
    let xs = c.arms.arms.now in
    let v = view c.arm-item.result in
    let more = take (length xs - 1) (drop 1 xs) in
    let h = cut_item xs c.arm-item.result c.in-len1-up.len_at_least c.arm-item.is in
    let text = ap (λ l. now ++ arms_spelled (map view l)) (sym h) ∙ c.arms.invariant.text in
    let empty = c.is_empty.ensures ∙ nil-map view more in
    let arm = c.in_ok-arm.ensures.text ∙ ap (λ b. now ++ (arm_spelled v ++ comma_if (has_comma v (not b)))) empty in
    let going = subst (λ l. Going c.args.summaries.now c.arms.summaries (backwards (λ x. arm_below (view x)) c.args.arms.now) (backwards (λ x. arm_below (view x)) l)) h c.arms.invariant.going in
    let s = ap (total (λ x. arm_size (view x))) h in
    let fewer = c.arms.invariant.fewer in
    record {
      text = one_behind now _ _ arm text;
      front = front_through _ _ _ c.arms.invariant.front c.in_ok-arm.ensures.front;
      going = going-on _ _ _ _ _ _ going c.in_ok-arm.ensures.taken;
      fewer = omega arith;
    }
