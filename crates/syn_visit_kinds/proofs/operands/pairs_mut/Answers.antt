use Rattle.std.proofs.Common.{arith}
use Rattle.syn_visit_kinds.proofs.Upto.{upto_ends, upto_more, upto_next, upto_stops}
use Rattle.syn_visit_kinds.proofs.operands.pairs_mut.Goals as goal

pub one_mut-requires : goal.one_mut-requires
one_mut-requires g c = c.requires _ (upto_next _ c.loop-pair.pair-index c.args.xs.now.items c.loop-pair.pair-items c.pair-item.result (omega (arith, c.loop-pair-test.true, c.deref_mut-pair-items.ensures.len, c.args.xs.now.ok.0)) c.loop-pair.invariant)

pub loop-pair-preserved : goal.loop-pair-preserved
loop-pair-preserved g c = upto_more _ c.loop-pair.pair-index _ c.loop-pair.pair-items _ c.pair-item.result (omega (arith, c.loop-pair.auto.pair-items, c.loop-pair-test.true)) c.loop-pair.invariant c.in_ok-one_mut.ensures.left

pub returns-in_err-one_mut : goal.returns-in_err-one_mut
returns-in_err-one_mut g c = upto_stops _ c.loop-pair.pair-index c.args.xs.now.len c.args.xs.now.items c.loop-pair.pair-items _ c.pair-item.result _ _
    (omega (arith, c.loop-pair.auto.pair-items, c.loop-pair-test.true)) (omega (arith, c.loop-pair.auto.pair-items, c.deref_mut-pair-items.ensures.len, c.args.xs.now.ok.0)) c.args.xs.now.ok.0
    c.loop-pair.invariant c.in_err-one_mut.ensures.changed c.from_residual.ensures

pub returns : goal.returns
returns g c = upto_ends _ c.loop-pair.pair-index c.args.xs.now.len c.args.xs.now.items c.loop-pair.pair-items
    (omega (arith, c.loop-pair.auto.pair-items, c.deref_mut-pair-items.ensures.len, c.args.xs.now.ok.0)) c.args.xs.now.ok.0
    (omega (arith, c.loop-pair-test.false, c.deref_mut-pair-items.ensures.len, c.args.xs.now.ok.0)) c.loop-pair.invariant
