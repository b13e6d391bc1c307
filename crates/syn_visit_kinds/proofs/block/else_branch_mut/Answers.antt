use Rattle.syn_visit_kinds.specs.Changes.{ended}
use Rattle.syn_visit_kinds.proofs.Changes.{changed_one}
use Rattle.syn_visit_kinds.proofs.block.else_branch_mut.Goals as goal

pub returns-in-Some : goal.returns-in-Some
returns-in-Some g c = rw c.in-Some.is (changed_one _ c.boxed_mut.ensures.changed)

pub returns-in-None : goal.returns-in-None
returns-in-None g c = rw c.in-None.is ended
