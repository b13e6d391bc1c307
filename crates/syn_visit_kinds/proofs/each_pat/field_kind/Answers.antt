use Rattle.syn_visit_kinds.specs.Walk.{ended}
use Rattle.syn_visit_kinds.proofs.Walk.{walk_one}
use Rattle.syn_visit_kinds.proofs.each_pat.field_kind.Goals as goal

pub returns-in-Short : goal.returns-in-Short
returns-in-Short g c = rw c.in-Short.is ended

pub returns-in-Full : goal.returns-in-Full
returns-in-Full g c = rw c.in-Full.is (walk_one _ c.inner.ensures)
