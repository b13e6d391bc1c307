-- What comes after `else` is smaller than its `if`.
use Rattle.std.proofs.Common.{◌+◌, ◌*◌}
use Rattle.syn_expr_spec.specs.Tree.{size, children_size}
use Rattle.syn_expr_ast.specs.Node.{operands_of, operand_children}
use Rattle.syn_expr_print.specs.Placed.{else_tree, option_size}
use Rattle.syn_expr_print.proofs.frames.+frame.Given as goal

abbrev pub decreases-frame : goal.decreases-frame
decreases-frame g l = 6 * size (g.E.HasExprTree.tree l.x.now) + 1

abbrev pub decreases-content : goal.decreases-content
decreases-content g l = 6 * size (g.E.HasExprTree.tree l.x.now)

abbrev pub decreases-chained : goal.decreases-chained
decreases-chained g l = 6 * size (g.E.HasExprTree.tree l.x.now) + 2

abbrev pub decreases-alternative : goal.decreases-alternative
decreases-alternative g l = 6 * option_size (else_tree g.E.HasExprTree.tree l.otherwise.now) + 3

abbrev pub decreases-if_exprs : goal.decreases-if_exprs
decreases-if_exprs g l = 6 * option_size (else_tree g.E.HasExprTree.tree l.otherwise.now) + 4

abbrev pub decreases-children : goal.decreases-children
decreases-children g l = 6 * children_size (operand_children (operands_of g.E.HasExprTree.tree g.E.Arm.HasArmView.view l.operands)) + 5
