use Rattle.std.proofs.Common.{◌∙◌}
use Rattle.syn_visit_kinds.proofs.Walk.{walk_known}
use Rattle.syn_visit_kinds.proofs.each.punctuated_with.Goals as goal

pub punctuated-requires-clause-inner : goal.punctuated-requires-clause-inner
punctuated-requires-clause-inner g c = λ q has borrowed state is. λ inside with within e w. c.requires.inner q has inside with within (e ∙ is) w

pub returns : goal.returns
returns g c = walk_known c.punctuated.ensures (λ one old r new met. met)
