use Rattle.std.proofs.Common.{sym, Contains, arith, subst}
use Rattle.std.proofs.lemmas.List.Elements.{Contains-get_or}
use Rattle.syn_lower_copy.proofs.list.copy_pairs.Goals as goal

pub call-requires : goal.call-requires
call-requires g c =
    let got = Contains-get_or c.args.xs.now c.loop-x.x-index c.x-item.result (omega (arith, c.loop-x-test.true)) in
    let has : Contains c.args.xs.now c.x-item.result = subst (λ x. Contains c.args.xs.now x) (sym c.x-item.is) got in
    let takes = c.requires.takes c.x-item.result has in
    let is = c.value_of.ensures in
    search (takes, is)
