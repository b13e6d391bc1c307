use Rattle.std.proofs.Common.{sym, Contains, arith, subst}
use Rattle.std.proofs.lemmas.List.Elements.{Contains-get_or}
use Rattle.syn_visit_kinds.proofs.Walk.{loop_ends, loop_next, loop_stops}
use Rattle.syn_visit_kinds.proofs.each.pairs.Goals as goal

pub first-requires : goal.first-requires
first-requires g c =
    let got = Contains-get_or c.args.pairs.now c.loop-pair.pair-index c.pair-item.result (omega (arith, c.loop-pair-test.true)) in
    let has : Contains c.args.pairs.now c.pair-item.result = subst (λ x. Contains c.args.pairs.now x) (sym c.pair-item.is) got in
    c.requires c.pair-item.result has

pub returns-in_err-first : goal.returns-in_err-first
returns-in_err-first g c =
    c.loop-pair.invariant _ _ (loop_stops c.args.pairs.now c.loop-pair.pair-index c.pair-item.result _ _ (omega (arith, c.loop-pair-test.true)) c.pair-item.is c.from_residual.ensures c.in_err-first.ensures)

pub loop-pair-preserved : goal.loop-pair-preserved
loop-pair-preserved g c = λ r z more.
    c.loop-pair.invariant r z (loop_next c.args.pairs.now c.loop-pair.pair-index c.pair-item.result (omega (arith, c.loop-pair-test.true)) c.pair-item.is c.in_ok-first.ensures more)

pub returns : goal.returns
returns g c = c.loop-pair.invariant _ _ (loop_ends c.args.pairs.now c.loop-pair.pair-index (omega (arith, c.loop-pair-test.false)))
