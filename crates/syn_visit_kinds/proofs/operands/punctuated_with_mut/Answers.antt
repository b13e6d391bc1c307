use Rattle.std.proofs.Common.{◌∙◌}
use Rattle.syn_visit_kinds.specs.Changes.{ChangeWith}
use Rattle.syn_visit_kinds.proofs.Changes.{change_known, changed_by, changed_each, some_refused_with}
use Rattle.syn_visit_kinds.proofs.operands.punctuated_with_mut.Goals as goal

pub punctuated_mut-requires-clause-inner : goal.punctuated_mut-requires-clause-inner
punctuated_mut-requires-clause-inner g c = λ q has borrowed is. λ inside with e w. c.requires.inner q has inside with (e ∙ is) w

pub returns-clause-changed : goal.returns-clause-changed
returns-clause-changed g c = changed_by (change_known (ChangeWith (λ z. z) _ _) (λ old r new met. met)) c.punctuated_mut.ensures.changed

pub returns-clause-values : goal.returns-clause-values
returns-clause-values g c = changed_each (returns-clause-changed g c)

pub returns-clause-refused : goal.returns-clause-refused
returns-clause-refused g c = some_refused_with (returns-clause-changed g c)
