use Rattle.syn_lower_leaves.specs.View.{values}
use Rattle.syn_visit_kinds.specs.Walk.{went}
use Rattle.syn_visit_kinds.proofs.Walk.{next_stops}
use Rattle.syn_visit_kinds.proofs.each.call_expr.Goals as goal

pub returns-in_err-one : goal.returns-in_err-one
returns-in_err-one g c = next_stops (values c.args.args.now) _ _ c.from_residual.ensures c.in_err-one.ensures

pub returns : goal.returns
returns g c = went c.in_ok-one.ensures c.punctuated.ensures
