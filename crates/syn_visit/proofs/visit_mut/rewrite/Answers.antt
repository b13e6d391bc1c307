use Rattle.syn_visit_kinds.specs.Calls.{Refused}
use Rattle.syn_visit_kinds.proofs.Changes.{change_leaves, refusal}
use Rattle.syn_visit_kinds.proofs.Rewritten.{rewritten_refused, rewritten_tree}
use Rattle.syn_visit.proofs.visit_mut.rewrite.Goals as goal

pub returns-clause-changed : goal.returns-clause-changed
returns-clause-changed g c = c.nodes.ensures

pub returns-clause-tree : goal.returns-clause-tree
returns-clause-tree g c = λ f leaves. rewritten_tree f (change_leaves f leaves) _ c.nodes.ensures

pub returns-clause-refused : goal.returns-clause-refused
returns-clause-refused g c = rewritten_refused (Refused _) refusal c.nodes.ensures
