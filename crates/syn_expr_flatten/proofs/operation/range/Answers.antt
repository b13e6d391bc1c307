use Rattle.syn_expr_flatten.proofs.Calls.{flat_by}
use Rattle.syn_visit_kinds.proofs.Elementwise.{each_by}
use Rattle.syn_expr_flatten.proofs.Children.{range_plain, range_flat}
use Rattle.syn_expr_flatten.proofs.Nodes.{at_node}
use Rattle.syn_expr_flatten.proofs.operation.range.Goals as goal

pub returns : goal.returns
returns g c =
    let tree = g.E.HasExprTree.tree in
    at_node _ _ _ _ _ (range_plain tree _ _ _) c.in_ok-put_before.ensures (range_flat tree _ _ _ _ _ (each_by _ _ (flat_by tree _ c.requires.gives) _ _ c.in_ok-optional_mut.ensures.left) (each_by _ _ (flat_by tree _ c.requires.gives) _ _ c.in_ok-optional_mut-2.ensures.left))
