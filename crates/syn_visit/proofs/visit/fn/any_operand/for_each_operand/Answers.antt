use Rattle.syn_visit.proofs.Seen.{told_by}
use Rattle.syn_visit.proofs.visit.fn.any_operand.for_each_operand.Goals as goal

pub returns : goal.returns
returns g c = told_by _ _ c.refuse_if.ensures c.test.ensures
