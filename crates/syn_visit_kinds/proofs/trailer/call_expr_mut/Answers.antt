use Rattle.syn_lower_leaves.specs.View.{values}
use Rattle.syn_visit_kinds.specs.Changes.{went}
use Rattle.syn_visit_kinds.proofs.Around.{among, attributed_around, list_around, tail_around}
use Rattle.syn_visit_kinds.proofs.Changes.{next_stops}
use Rattle.syn_visit_kinds.proofs.OperandsOf.{changed_in, call_operands}
use Rattle.syn_visit_kinds.proofs.trailer.call_expr_mut.Goals as goal

pub returns-in_err-boxed_mut : goal.returns-in_err-boxed_mut
returns-in_err-boxed_mut g c =
    let tree = g.E.HasExprTree.tree in
    changed_in tree (next_stops (values c.args.x.now.args) _ _ c.from_residual.ensures c.in_err-boxed_mut.ensures.changed) (call_operands tree c.args.x.now) (call_operands tree (record c.args.x.now { func = c.boxed_mut.new.x })) (attributed_around _ _ _ (tail_around _ _ _ _ _ (among _)))

pub returns : goal.returns
returns g c =
    let tree = g.E.HasExprTree.tree in
    changed_in tree (went c.in_ok-boxed_mut.ensures.changed c.punctuated_mut.ensures.changed) (call_operands tree c.args.x.now) (call_operands tree (record c.args.x.now { func = c.boxed_mut.new.x; args = c.punctuated_mut.new.x }))
    (attributed_around _ _ _ (tail_around _ _ _ _ _ (list_around tree c.args.x.now.args c.punctuated_mut.new.x c.punctuated_mut.ensures.changed c.punctuated_mut.ensures.trails)))
