use Rattle.syn_expr_flatten.proofs.Calls.{flat_by}
use Rattle.syn_visit_kinds.proofs.Elementwise.{each_by}
use Rattle.syn_expr_flatten.proofs.Children.{jump_plain, jump_flat}
use Rattle.syn_expr_flatten.proofs.Nodes.{at_node}
use Rattle.syn_expr_flatten.proofs.jump.yield_expr.Goals as goal

pub returns : goal.returns
returns g c = at_node _ _ _ _ _ (jump_plain g.E.HasExprTree.tree _ _) c.in_ok-put_before.ensures (jump_flat g.E.HasExprTree.tree _ _ _ (each_by _ _ (flat_by g.E.HasExprTree.tree _ c.requires.gives) _ _ c.in_ok-optional_mut.ensures.left))
