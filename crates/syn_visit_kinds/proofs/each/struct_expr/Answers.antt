use Rattle.syn_lower_leaves.specs.View.{last_of}
use Rattle.syn_visit_kinds.proofs.Walk.{first_stops, walk_both}
use Rattle.syn_visit_kinds.proofs.each.struct_expr.Goals as goal

pub returns-in_err-fields : goal.returns-in_err-fields
returns-in_err-fields g c = first_stops (last_of c.args.rest.now) _ c.from_residual.ensures c.in_err-fields.ensures

pub returns : goal.returns
returns g c = walk_both c.in_ok-fields.ensures c.optional.ensures
