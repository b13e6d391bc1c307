-- A walk goes down the operands at the left end.
use Rattle.syn_expr_spec.specs.Tree.{size}
use Rattle.syn_expr_classify.proofs.classify.+begins_with_label.Given as goal

abbrev pub decreases-begins_with_label : goal.decreases-begins_with_label
decreases-begins_with_label g l = size (g.E.HasExprTree.tree l.expr.now)
