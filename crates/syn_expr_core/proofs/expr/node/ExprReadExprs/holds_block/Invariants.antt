-- A walk goes into the groups, and what holds a block stays the same.
use Rattle.std.proofs.Common.{◌≡◌}
use Rattle.syn_expr_spec.specs.Stands.{holds_block}
use Rattle.syn_expr_spec.specs.Tree.{size}
use Rattle.syn_expr_core.specs.View.{tree_of}
use Rattle.syn_expr_core.proofs.expr.node.ExprReadExprs.holds_block.Given as goal

abbrev pub invariant-groups : goal.invariant-groups
invariant-groups l = holds_block (tree_of l.fn.self) ≡ holds_block (tree_of l.held)

abbrev pub decreases-groups : goal.decreases-groups
decreases-groups l = size (tree_of l.held)
