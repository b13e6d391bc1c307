use Rattle.std.proofs.Common.{sym, ap, ◌∙◌}
use Rattle.syn_visit_kinds.proofs.Walk.{walk_known}
use Rattle.syn_visit_kinds.proofs.each_pat.struct_pat.Goals as goal

pub punctuated-requires-clause-inner : goal.punctuated-requires-clause-inner
punctuated-requires-clause-inner g c = λ q has borrowed state is. λ p full. c.requires.inner q p has (sym (ap (λ f. f.kind) is) ∙ full)

pub returns : goal.returns
returns g c = walk_known c.punctuated.ensures (λ one old r new met. met)
