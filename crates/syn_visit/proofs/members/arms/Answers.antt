use Rattle.std.proofs.Common.{sym, Contains, arith, subst}
use Rattle.std.proofs.lemmas.List.Elements.{Contains-get_or}
use Rattle.syn_visit_kinds.proofs.Walk.{loop_ends, loop_next, loop_stops}
use Rattle.syn_visit.proofs.members.arms.Goals as goal

pub one_arm-requires : goal.one_arm-requires
one_arm-requires g c =
    let got = Contains-get_or c.args.xs.now c.loop-x.x-index c.x-item.result (omega (arith, c.loop-x-test.true)) in
    let has : Contains c.args.xs.now c.x-item.result = subst (λ x. Contains c.args.xs.now x) (sym c.x-item.is) got in
    c.requires c.x-item.result has

pub returns-in_err-one_arm : goal.returns-in_err-one_arm
returns-in_err-one_arm g c =
    c.loop-x.invariant _ _ (loop_stops c.args.xs.now c.loop-x.x-index c.x-item.result _ _ (omega (arith, c.loop-x-test.true)) c.x-item.is c.from_residual.ensures c.in_err-one_arm.ensures)

pub loop-x-preserved : goal.loop-x-preserved
loop-x-preserved g c = λ r z more.
    c.loop-x.invariant r z (loop_next c.args.xs.now c.loop-x.x-index c.x-item.result (omega (arith, c.loop-x-test.true)) c.x-item.is c.in_ok-one_arm.ensures more)

pub returns : goal.returns
returns g c = c.loop-x.invariant _ _ (loop_ends c.args.xs.now c.loop-x.x-index (omega (arith, c.loop-x-test.false)))
