use Rattle.std.proofs.Common.{[], ◌∷◌}
use Rattle.syn_visit_kinds.specs.Changes.{went}
use Rattle.syn_visit_kinds.proofs.Around.{among, attributed_around, child_among, frame_around}
use Rattle.syn_visit_kinds.proofs.Changes.{changed_one, next_stops}
use Rattle.syn_visit_kinds.proofs.OperandsOf.{changed_in, repeat_operands}
use Rattle.syn_visit_kinds.proofs.atom.repeat_mut.Goals as goal

pub returns-in_err-boxed_mut : goal.returns-in_err-boxed_mut
returns-in_err-boxed_mut g c =
    let tree = g.E.HasExprTree.tree in
    changed_in tree (next_stops (c.args.x.now.len.value ∷ []) _ _ c.from_residual.ensures c.in_err-boxed_mut.ensures.changed) (repeat_operands tree c.args.x.now) (repeat_operands tree (record c.args.x.now { expr = c.boxed_mut.new.x })) (attributed_around _ _ _ (frame_around _ _ _ (child_among _ _ _ _ _ _ (child_among _ _ _ _ _ _ (among _)))))

pub returns : goal.returns
returns g c =
    let tree = g.E.HasExprTree.tree in
    changed_in tree (went c.in_ok-boxed_mut.ensures.changed (changed_one _ c.boxed_mut-2.ensures.changed)) (repeat_operands tree c.args.x.now) (repeat_operands tree (record c.args.x.now { expr = c.boxed_mut.new.x; len = c.boxed_mut-2.new.x })) (attributed_around _ _ _ (frame_around _ _ _ (child_among _ _ _ _ _ _ (child_among _ _ _ _ _ _ (among _)))))
