use Rattle.std.proofs.Common.{refl}
use Rattle.syn_visit_kinds.proofs.Rewritten.{in_by, inside_stops, then_itself}
use Rattle.syn_visit.proofs.Left.{node_changed}
use Rattle.syn_visit.proofs.visit_mut.+nodes.Goals as goal

pub returns-in_err-for_each_operand_mut_with : goal.returns-in_err-for_each_operand_mut_with
returns-in_err-for_each_operand_mut_with g t c =
    inside_stops _ _ c.from_residual.ensures (in_by (node_changed (λ d x b y. g.F.Fn.post d.call.now (x, tt) (b, (y, tt))) (λ old with r new met. met)) c.in_err-for_each_operand_mut_with.ensures.changed)

pub returns : goal.returns
returns g t c =
    then_itself _ (in_by (node_changed (λ d x b y. g.F.Fn.post d.call.now (x, tt) (b, (y, tt))) (λ old with r new met. met)) c.in_ok-for_each_operand_mut_with.ensures.changed)
    (record { old = _; new = _; shows = refl; leaves = refl; met = c.call.ensures })
