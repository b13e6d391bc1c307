use Rattle.std.proofs.Common.{Contains, subst}
use Rattle.syn_visit_kinds.proofs.Walk.{values_stop, walk_same, walk_values}
use Rattle.syn_visit_kinds.proofs.each.punctuated.Goals as goal

pub pairs-requires : goal.pairs-requires
pairs-requires g c = λ q has. c.requires.inner q (subst (λ l. Contains l q) c.deref.ensures.value has)

pub returns-in_err-pairs : goal.returns-in_err-pairs
returns-in_err-pairs g c = values_stop c.args.x.now _ c.from_residual.ensures (walk_same c.deref.ensures.value c.in_err-pairs.ensures)

pub returns : goal.returns
returns g c = walk_values c.args.x.now (walk_same c.deref.ensures.value c.in_ok-pairs.ensures) c.optional.ensures
