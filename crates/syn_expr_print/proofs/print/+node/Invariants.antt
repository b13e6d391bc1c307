-- What is printed by itself is smaller.
use Rattle.syn_expr_spec.specs.Tree.{size}
use Rattle.syn_expr_print.proofs.print.+node.Given as goal

abbrev pub decreases-node : goal.decreases-node
decreases-node g l = size (g.E.HasExprTree.tree l.x.now)
