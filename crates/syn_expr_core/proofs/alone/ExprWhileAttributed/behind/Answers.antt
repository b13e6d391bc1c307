use Rattle.syn_expr_core.specs.View.{tree_of}
use Rattle.syn_expr_core.proofs.alone.ExprWhileAttributed.behind.Goals as goal

pub returns : goal.returns
returns c = c.while_expr.ensures tree_of
