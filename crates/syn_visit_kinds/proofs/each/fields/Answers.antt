use Rattle.std.proofs.Common.{ap, ◌∙◌}
use Rattle.syn_visit_kinds.proofs.Walk.{walk_map, walk_known}
use Rattle.syn_visit_kinds.proofs.each.fields.Goals as goal

pub punctuated-requires-clause-inner : goal.punctuated-requires-clause-inner
punctuated-requires-clause-inner g c = λ q has borrowed state is. λ inside within e. c.requires.inner q has inside within (e ∙ ap (λ f. f.expr) is)

pub returns : goal.returns
returns g c = walk_map _ (walk_known c.punctuated.ensures (λ one old r new met. met))
