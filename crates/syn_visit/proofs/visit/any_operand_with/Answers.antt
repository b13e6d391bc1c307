use Rattle.std.proofs.Common.{◌∙◌}
use Rattle.syn_visit_kinds.proofs.Tested.{tested_any, tested_by, told_tells_with, told_through}
use Rattle.syn_visit.proofs.visit.any_operand_with.Goals as goal

pub any_operand-requires : goal.any_operand-requires
any_operand-requires g c = λ child less borrowed is. λ inside with e w. c.requires child less inside with (e ∙ is) w

pub returns-clause-tested : goal.returns-clause-tested
returns-clause-tested g c = tested_by (told_through (λ one a met. met)) c.any_operand.ensures.tested

pub returns-clause-tree : goal.returns-clause-tree
returns-clause-tree g c = λ p tells. tested_any p (told_tells_with p tells) (returns-clause-tested g c)
