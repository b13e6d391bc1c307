use Rattle.syn_expr_flatten.proofs.OuterParens.{stands_outer}
use Rattle.syn_expr_flatten.proofs.laws.read_parens_are_outer.Goals as goal

pub returns : goal.returns
returns c = stands_outer
