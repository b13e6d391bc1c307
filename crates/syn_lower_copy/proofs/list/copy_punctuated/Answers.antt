use Rattle.std.proofs.Common.{Contains, ap, map, subst, ◌∙◌}
use Rattle.syn_lower_copy.proofs.Lists.{trails_copied, values_copied}
use Rattle.syn_lower_copy.proofs.list.copy_punctuated.Goals as goal

pub copy_pairs-requires-clause-takes : goal.copy_pairs-requires-clause-takes
copy_pairs-requires-clause-takes g c = λ q has. c.requires.inner q (subst (λ l. Contains l q) c.deref.ensures.value has)

pub returns-clause-values : goal.returns-clause-values
returns-clause-values g c = values_copied g.V.Sees.seen _ _ (c.in_ok-inner.ensures.copied ∙ ap (map (λ q. g.V.Sees.seen q.0)) c.deref.ensures.value) c.in_ok-last.ensures.copied

pub returns-clause-trails : goal.returns-clause-trails
returns-clause-trails g c = trails_copied g.V.Sees.seen _ _ (c.in_ok-inner.ensures.copied ∙ ap (map (λ q. g.V.Sees.seen q.0)) c.deref.ensures.value) c.in_ok-last.ensures.copied
