use Rattle.syn_visit_kinds.specs.Changes.{ended}
use Rattle.syn_visit_kinds.proofs.Changes.{changed_each, changed_one}
use Rattle.syn_visit_kinds.proofs.operands.optional_mut.Goals as goal

pub returns-in-Some-clause-changed : goal.returns-in-Some-clause-changed
returns-in-Some-clause-changed g c = rw c.in-Some.is (changed_one _ c.boxed_mut.ensures.changed)

pub returns-in-Some-clause-left : goal.returns-in-Some-clause-left
returns-in-Some-clause-left g c = changed_each (returns-in-Some-clause-changed g c)

pub returns-in-None-clause-changed : goal.returns-in-None-clause-changed
returns-in-None-clause-changed g c = rw c.in-None.is ended

pub returns-in-None-clause-left : goal.returns-in-None-clause-left
returns-in-None-clause-left g c = changed_each (returns-in-None-clause-changed g c)
