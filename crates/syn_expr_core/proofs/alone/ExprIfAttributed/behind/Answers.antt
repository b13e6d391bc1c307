use Rattle.syn_expr_core.specs.View.{tree_of}
use Rattle.syn_expr_core.proofs.alone.ExprIfAttributed.behind.Goals as goal

pub returns : goal.returns
returns c = c.if_expr.ensures tree_of
