-- The walk asks just this.
use Rattle.syn_expr_spec.specs.WellFormed.{is_well_formed}
use Rattle.syn_expr.proofs.well_formed.is_well_formed.Goals as goal

pub returns : goal.returns
unfolding is_well_formed
returns c = c.is_well.ensures
