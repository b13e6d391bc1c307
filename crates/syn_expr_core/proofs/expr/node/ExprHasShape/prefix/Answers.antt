use Rattle.std.proofs.Common.{◌∙◌, sym, ap}
use Rattle.syn_expr_ast.specs.Node.{prefix_at}
use Rattle.syn_expr_core.specs.View.{tree_of, pat_of}
use Rattle.syn_expr_core.proofs.TreeOf.{tree-Let, tree-Unary}
use Rattle.syn_expr_core.proofs.expr.node.ExprHasShape.prefix.Goals as goal

pub returns-in-Let : goal.returns-in-Let
returns-in-Let c = c.prefix-in-Let.ensures ∙ ap prefix_at (sym (ap tree_of c.in-Let.is ∙ tree-Let _))

pub returns-in-Unary : goal.returns-in-Unary
returns-in-Unary c = c.prefix-in-Unary.ensures tree_of pat_of ∙ ap prefix_at (sym (ap tree_of c.in-Unary.is ∙ tree-Unary _))
