use Rattle.std.proofs.Common.{arith, refl}
use Rattle.syn_visit_kinds.proofs.Upto.{upto_more, upto_next, upto_whole}
use Rattle.syn_expr_flatten.proofs.members.each.Goals as goal

pub flatten-requires : goal.flatten-requires
flatten-requires g c =
    let takes = c.requires _ (upto_next _ c.loop-x.x-index c.args.xs.now.items c.loop-x.x-items c.x-item.result (omega (arith, c.loop-x-test.true, c.deref_mut-x-items.ensures.len, c.args.xs.now.ok.0)) c.loop-x.invariant) in
    search takes

pub loop-x-preserved : goal.loop-x-preserved
loop-x-preserved g c = upto_more _ c.loop-x.x-index _ c.loop-x.x-items _ c.x-item.result (omega (arith, c.loop-x.auto.x-items, c.loop-x-test.true)) c.loop-x.invariant
    (record { old = _; new = _; shows = refl; leaves = refl; met = c.in_ok-flatten.ensures })

pub returns : goal.returns
returns g c = upto_whole _ c.loop-x.x-index c.args.xs.now.len c.args.xs.now.items c.loop-x.x-items
    (omega (arith, c.loop-x.auto.x-items, c.deref_mut-x-items.ensures.len, c.args.xs.now.ok.0)) c.args.xs.now.ok.0
    (omega (arith, c.loop-x-test.false, c.deref_mut-x-items.ensures.len, c.args.xs.now.ok.0)) c.loop-x.invariant
