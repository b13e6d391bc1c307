use Rattle.syn_visit_kinds.proofs.Changes.{change_leaves_with, change_through, some_refused_with}
use Rattle.syn_visit_kinds.proofs.Rewritten.{in_all, in_by}
use Rattle.syn_visit.proofs.visit_mut.for_each_operand_mut_with.Goals as goal

pub returns-clause-changed : goal.returns-clause-changed
returns-clause-changed g c = in_by (change_through (λ old r new met. met)) c.for_each_operand_mut.ensures.changed

pub returns-clause-tree : goal.returns-clause-tree
returns-clause-tree g c = λ f leaves. in_all f (change_leaves_with f leaves) _ (returns-clause-changed g c)

pub returns-clause-refused : goal.returns-clause-refused
returns-clause-refused g c = some_refused_with (returns-clause-changed g c).operands
