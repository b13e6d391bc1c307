use Rattle.std.proofs.Common.{refl}
use Rattle.syn_visit_kinds.proofs.Changes.{change_ok, change_refused}
use Rattle.syn_visit_kinds.proofs.operands.one_mut.Goals as goal

pub returns-clause-changed : goal.returns-clause-changed
returns-clause-changed g c = record { old = _; new = _; shows = refl; leaves = refl; met = c.call.ensures }

pub returns-clause-left : goal.returns-clause-left
returns-clause-left g c = change_ok _ (returns-clause-changed g c)

pub returns-clause-refused : goal.returns-clause-refused
returns-clause-refused g c = change_refused _ (returns-clause-changed g c)
