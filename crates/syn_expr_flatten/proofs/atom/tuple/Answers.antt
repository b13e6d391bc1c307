use Rattle.std.proofs.Common.{refl}
use Rattle.syn_expr_flatten.proofs.Calls.{flat_by}
use Rattle.syn_visit_kinds.proofs.Elementwise.{each_by}
use Rattle.syn_expr_flatten.proofs.Children.{frame_flat, list_flat}
use Rattle.syn_expr_flatten.proofs.Nodes.{at_node}
use Rattle.syn_expr_flatten.proofs.atom.tuple.Goals as goal

pub returns : goal.returns
returns g c = at_node _ _ _ _ _ refl c.in_ok-put_before.ensures (frame_flat _ _ _ (list_flat g.E.HasExprTree.tree _ _ (each_by _ _ (flat_by g.E.HasExprTree.tree _ c.requires.gives) _ _ c.in_ok-punctuated_mut.ensures.values) c.in_ok-punctuated_mut.ensures.trails))
