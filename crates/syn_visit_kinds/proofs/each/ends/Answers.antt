use Rattle.syn_lower_leaves.specs.View.{last_of}
use Rattle.syn_visit_kinds.proofs.Walk.{first_stops, walk_both}
use Rattle.syn_visit_kinds.proofs.each.ends.Goals as goal

pub returns-in_err-optional : goal.returns-in_err-optional
returns-in_err-optional g c = first_stops (last_of c.args.y.now) _ c.from_residual.ensures c.in_err-optional.ensures

pub returns : goal.returns
returns g c = walk_both c.in_ok-optional.ensures c.optional-2.ensures
