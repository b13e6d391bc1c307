use Rattle.std.proofs.Common.{◌∙◌}
use Rattle.syn_visit_kinds.proofs.Walk.{shown_known}
use Rattle.syn_visit.proofs.visit.for_each_operand_with.Goals as goal

pub for_each_operand-requires : goal.for_each_operand-requires
for_each_operand-requires g c = λ child less borrowed state is. λ inside with within e w. c.requires child less inside with within (e ∙ is) w

pub returns : goal.returns
returns g c = shown_known c.for_each_operand.ensures (λ one old r new met. met)
