use Rattle.std.proofs.Common.{[], ◌∷◌}
use Rattle.syn_visit_kinds.proofs.Walk.{next_stops, walk_one}
use Rattle.syn_visit_kinds.specs.Walk.{went}
use Rattle.syn_visit_kinds.proofs.each.two.Goals as goal

pub returns-in_err-one : goal.returns-in_err-one
returns-in_err-one g c = next_stops (c.args.y.now.value ∷ []) _ _ c.from_residual.ensures c.in_err-one.ensures

pub returns : goal.returns
returns g c = went c.in_ok-one.ensures (walk_one _ c.one-2.ensures)
