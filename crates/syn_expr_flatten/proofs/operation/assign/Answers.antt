use Rattle.std.proofs.Common.{refl}
use Rattle.syn_expr_flatten.proofs.Calls.{flat_by}
use Rattle.syn_expr_flatten.proofs.Nodes.{at_node, infix_flat}
use Rattle.syn_expr_flatten.proofs.operation.assign.Goals as goal

pub returns : goal.returns
returns g c = at_node _ _ _ _ _ refl c.in_ok-put_before.ensures (infix_flat _ _ _ _ _ (flat_by g.E.HasExprTree.tree _ c.requires.gives _ _ c.in_ok-boxed_mut.ensures.left) (flat_by g.E.HasExprTree.tree _ c.requires.gives _ _ c.in_ok-boxed_mut-2.ensures.left))
