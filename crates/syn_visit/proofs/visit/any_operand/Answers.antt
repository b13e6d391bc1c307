use Rattle.std.proofs.Common.{◌∙◌}
use Rattle.syn_expr_core.specs.View.{tree_of}
use Rattle.syn_visit_kinds.proofs.Tested.{tested_any, tested_same, told_tells, walk_tested}
use Rattle.syn_visit.proofs.visit.any_operand.Goals as goal

pub for_each_operand-found-requires : goal.for_each_operand-found-requires
for_each_operand-found-requires g c = λ child less borrowed state is. λ inside e. c.requires child less inside (e ∙ is)

pub returns-clause-tested : goal.returns-clause-tested
returns-clause-tested g c = tested_same c.is_err.ensures.value (walk_tested tree_of c.for_each_operand-found.ensures (λ one old b new met. met))

pub returns-clause-tree : goal.returns-clause-tree
returns-clause-tree g c = λ p tells. tested_any p (told_tells p tells) (returns-clause-tested g c)
