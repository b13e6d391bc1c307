-- A walk goes down the nodes.
use Rattle.std.proofs.Common.{◌+◌, ◌*◌}
use Rattle.syn_expr_ast.specs.Node.{operands_of}
use Rattle.syn_expr_fixup.specs.Below.{operands_size}
use Rattle.syn_expr_spec.specs.Tree.{size}
use Rattle.syn_expr_fixup.proofs.summary.+summary_of.Given as goal

abbrev pub decreases-summary_of : goal.decreases-summary_of
decreases-summary_of g l = 2 * size (g.E.HasExprTree.tree l.expr.now)

abbrev pub decreases-first_summaries : goal.decreases-first_summaries
decreases-first_summaries g l = 1 + 2 * operands_size (operands_of g.E.HasExprTree.tree g.E.Arm.HasArmView.view l.operands)
