use Rattle.std.proofs.Common.{refl}
use Rattle.syn_expr_flatten.proofs.Nodes.{at_node, leaf_flat}
use Rattle.syn_expr_flatten.proofs.knot.infer.Goals as goal

pub returns : goal.returns
returns c = at_node _ _ _ _ _ refl c.in_ok-put_before.ensures (leaf_flat _)
