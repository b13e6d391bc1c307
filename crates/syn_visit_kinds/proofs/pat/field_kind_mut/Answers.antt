use Rattle.std.proofs.Common.{refl}
use Rattle.syn_visit_kinds.proofs.pat.field_kind_mut.Goals as goal

pub returns-in-Short : goal.returns-in-Short
returns-in-Short g c = rw c.in-Short.is (refl, refl)

pub returns-in-Full : goal.returns-in-Full
returns-in-Full g c = rw c.in-Full.is (refl, c.boxed_with_mut.ensures.changed)
