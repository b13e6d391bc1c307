use Rattle.syn_expr_flatten.proofs.FlatFill.{fill_flatten}
use Rattle.syn_expr_flatten.proofs.FlatWell.{well_formed_flatten}
use Rattle.syn_expr_flatten.proofs.laws.flattened_is_same.Goals as goal

pub returns : goal.returns
returns c = record { formed = well_formed_flatten; filled = fill_flatten }
