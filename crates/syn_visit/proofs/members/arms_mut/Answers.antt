use Rattle.std.proofs.Common.{arith}
use Rattle.syn_visit_kinds.proofs.Upto.{upto_ends, upto_more, upto_next, upto_stops}
use Rattle.syn_visit.proofs.members.arms_mut.Goals as goal

pub arm_mut-requires : goal.arm_mut-requires
arm_mut-requires g c = c.requires _ (upto_next _ c.loop-x.x-index c.args.xs.now.items c.loop-x.x-items c.x-item.result (omega (arith, c.loop-x-test.true, c.deref_mut-x-items.ensures.len, c.args.xs.now.ok.0)) c.loop-x.invariant)

pub loop-x-preserved : goal.loop-x-preserved
loop-x-preserved g c = upto_more _ c.loop-x.x-index _ c.loop-x.x-items _ c.x-item.result (omega (arith, c.loop-x.auto.x-items, c.loop-x-test.true)) c.loop-x.invariant c.in_ok-arm_mut.ensures

pub returns-in_err-arm_mut : goal.returns-in_err-arm_mut
returns-in_err-arm_mut g c = upto_stops _ c.loop-x.x-index c.args.xs.now.len c.args.xs.now.items c.loop-x.x-items _ c.x-item.result _ _
    (omega (arith, c.loop-x.auto.x-items, c.loop-x-test.true)) (omega (arith, c.loop-x.auto.x-items, c.deref_mut-x-items.ensures.len, c.args.xs.now.ok.0)) c.args.xs.now.ok.0
    c.loop-x.invariant c.in_err-arm_mut.ensures c.from_residual.ensures

pub returns : goal.returns
returns g c = upto_ends _ c.loop-x.x-index c.args.xs.now.len c.args.xs.now.items c.loop-x.x-items
    (omega (arith, c.loop-x.auto.x-items, c.deref_mut-x-items.ensures.len, c.args.xs.now.ok.0)) c.args.xs.now.ok.0
    (omega (arith, c.loop-x-test.false, c.deref_mut-x-items.ensures.len, c.args.xs.now.ok.0)) c.loop-x.invariant
