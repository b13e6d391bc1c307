use Rattle.std.proofs.Common.{sym}
use Rattle.syn_expr_core.specs.View.{tree_of}
use Rattle.syn_visit_kinds.specs.Nodes.{all_nodes, nodes_below}
use Rattle.syn_visit_kinds.specs.Walk.{went}
use Rattle.syn_visit_kinds.proofs.Levels.{below_nodes}
use Rattle.syn_visit_kinds.proofs.Walk.{next_stops, walk_flat, walk_same}
use Rattle.syn_visit.proofs.Seen.{nodes_seen, shown_as}
use Rattle.syn_visit.proofs.visit.+nodes.Goals as goal

pub returns-in_err-see : goal.returns-in_err-see
returns-in_err-see g t c = next_stops (nodes_below (tree_of c.args.expr.now)) _ _ c.from_residual.ensures (shown_as c.args.expr.now c.in_err-see.ensures)

pub returns : goal.returns
returns g t c =
    went (shown_as c.args.expr.now c.in_ok-see.ensures)
    (walk_same (sym (below_nodes (tree_of c.args.expr.now)))
    (walk_flat all_nodes c.for_each_operand_with.ensures (λ y a b t h. nodes_seen h (λ d x s b t. g.F.Fn.post d.call.now (x, (s, tt)) (b, (t, tt))) (λ one with old b new met. met))))
