use Rattle.std.proofs.Common.{refl}
use Rattle.syn_visit_kinds.proofs.Changes.{change_ok_with, change_refused_with}
use Rattle.syn_visit_kinds.proofs.operands.boxed_with_mut.Goals as goal

pub returns-clause-changed : goal.returns-clause-changed
returns-clause-changed g c = record { old = _; new = _; with = _; shows = c.deref_mut.ensures.value; leaves = refl; passes = refl; met = c.call.ensures }

pub returns-clause-left : goal.returns-clause-left
returns-clause-left g c = change_ok_with _ (returns-clause-changed g c)

pub returns-clause-refused : goal.returns-clause-refused
returns-clause-refused g c = change_refused_with _ (returns-clause-changed g c)
