use Rattle.syn_visit_kinds.specs.Parts.{else_operand}
use Rattle.syn_visit_kinds.specs.Walk.{went}
use Rattle.syn_visit_kinds.proofs.Walk.{next_stops}
use Rattle.syn_visit_kinds.proofs.each.if_expr.Goals as goal

pub returns-in_err-one : goal.returns-in_err-one
returns-in_err-one g c = next_stops (else_operand c.args.other.now) _ _ c.from_residual.ensures c.in_err-one.ensures

pub returns : goal.returns
returns g c = went c.in_ok-one.ensures c.else_branch.ensures
