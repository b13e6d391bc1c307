use Rattle.syn_expr_flatten.proofs.FormedParens.{well_formed_outer}
use Rattle.syn_expr_flatten.proofs.laws.formed_parens_are_outer.Goals as goal

pub returns : goal.returns
returns c = well_formed_outer
