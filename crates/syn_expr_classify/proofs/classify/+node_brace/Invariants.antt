-- A walk goes down the operands at the right end.
use Rattle.syn_expr_spec.specs.Tree.{size}
use Rattle.syn_expr_classify.proofs.classify.+node_brace.Given as goal

abbrev pub decreases-node_brace : goal.decreases-node_brace
decreases-node_brace g l = size (g.E.HasExprTree.tree l.expr.now)
