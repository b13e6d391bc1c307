use Rattle.std.proofs.Common.{refl}
use Rattle.syn_visit_kinds.proofs.Changes.{changed_each, some_refused, trails_same, trails_stop, values_changed, values_stop}
use Rattle.syn_visit_kinds.proofs.operands.punctuated_mut.Goals as goal

pub returns-in_err-pairs_mut-clause-changed : goal.returns-in_err-pairs_mut-clause-changed
returns-in_err-pairs_mut-clause-changed g c = values_stop c.args.x.now _ _ c.from_residual.ensures c.in_err-pairs_mut.ensures refl

pub returns-in_err-pairs_mut-clause-values : goal.returns-in_err-pairs_mut-clause-values
returns-in_err-pairs_mut-clause-values g c = changed_each (returns-in_err-pairs_mut-clause-changed g c)

pub returns-in_err-pairs_mut-clause-refused : goal.returns-in_err-pairs_mut-clause-refused
returns-in_err-pairs_mut-clause-refused g c = some_refused (returns-in_err-pairs_mut-clause-changed g c)

pub returns-in_err-pairs_mut-clause-trails : goal.returns-in_err-pairs_mut-clause-trails
returns-in_err-pairs_mut-clause-trails g c = trails_stop c.args.x.now _ c.in_err-pairs_mut.ensures refl

pub returns-clause-changed : goal.returns-clause-changed
returns-clause-changed g c = values_changed c.args.x.now _ c.in_ok-pairs_mut.ensures c.optional_mut.ensures.changed

pub returns-clause-values : goal.returns-clause-values
returns-clause-values g c = changed_each (returns-clause-changed g c)

pub returns-clause-trails : goal.returns-clause-trails
returns-clause-trails g c = trails_same c.args.x.now _ c.in_ok-pairs_mut.ensures c.optional_mut.ensures.changed
