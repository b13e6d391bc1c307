use Rattle.std.proofs.Common.{Contains, subst}
use Rattle.syn_expr_copy.proofs.list.copy_parts.Goals as goal

pub push_pairs-requires-clause-takes : goal.push_pairs-requires-clause-takes
push_pairs-requires-clause-takes g c = λ q has. c.requires.inner q (subst (λ l. Contains l q) c.deref.ensures.value has)
