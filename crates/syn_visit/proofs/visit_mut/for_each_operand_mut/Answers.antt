use Rattle.syn_visit_kinds.proofs.Changes.{change_leaves, some_refused}
use Rattle.syn_visit_kinds.proofs.Rewritten.{in_all}
use Rattle.syn_visit.proofs.visit_mut.for_each_operand_mut.Goals as goal

pub returns-clause-changed : goal.returns-clause-changed
returns-clause-changed g c = c.operands_mut.ensures

pub returns-clause-tree : goal.returns-clause-tree
returns-clause-tree g c = λ f leaves. in_all f (change_leaves f leaves) _ c.operands_mut.ensures

pub returns-clause-refused : goal.returns-clause-refused
returns-clause-refused g c = some_refused c.operands_mut.ensures.operands
