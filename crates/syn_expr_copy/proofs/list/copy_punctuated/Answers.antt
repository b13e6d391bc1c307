use Rattle.syn_lower_copy.proofs.Lists.{trails_copied}
use Rattle.syn_expr_copy.proofs.list.copy_punctuated.Goals as goal

pub returns-in-Ok-clause-trails : goal.returns-in-Ok-clause-trails
returns-in-Ok-clause-trails g c = trails_copied g.V.Sees.seen _ _ c.in-Ok.ensures.pairs c.in-Ok.ensures.last
