use Rattle.syn_visit_kinds.specs.Walk.{ended}
use Rattle.syn_visit_kinds.proofs.Walk.{walk_one}
use Rattle.syn_visit_kinds.proofs.each_pat.sub_pattern.Goals as goal

pub returns-in-Some : goal.returns-in-Some
returns-in-Some g c = rw c.in-Some.is (walk_one _ c.inner.ensures)

pub returns-in-None : goal.returns-in-None
returns-in-None g c = rw c.in-None.is ended
