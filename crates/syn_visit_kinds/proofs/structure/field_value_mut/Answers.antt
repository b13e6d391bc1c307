use Rattle.std.proofs.Common.{refl}
use Rattle.syn_visit_kinds.proofs.structure.field_value_mut.Goals as goal

pub returns-clause-changed : goal.returns-clause-changed
returns-clause-changed g c = c.one_mut.ensures.changed

pub returns-clause-around : goal.returns-clause-around
returns-clause-around g c = λ k. refl
