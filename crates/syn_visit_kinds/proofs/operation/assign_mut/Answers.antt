use Rattle.std.proofs.Common.{[], ◌∷◌}
use Rattle.syn_visit_kinds.specs.Changes.{went}
use Rattle.syn_visit_kinds.proofs.Around.{attributed_around, infixed_around}
use Rattle.syn_visit_kinds.proofs.Changes.{changed_one, next_stops}
use Rattle.syn_visit_kinds.proofs.OperandsOf.{changed_in, assign_operands}
use Rattle.syn_visit_kinds.proofs.operation.assign_mut.Goals as goal

pub returns-in_err-boxed_mut : goal.returns-in_err-boxed_mut
returns-in_err-boxed_mut g c =
    let tree = g.E.HasExprTree.tree in
    changed_in tree (next_stops (c.args.x.now.right.value ∷ []) _ _ c.from_residual.ensures c.in_err-boxed_mut.ensures.changed) (assign_operands tree c.args.x.now) (assign_operands tree (record c.args.x.now { left = c.boxed_mut.new.x })) (attributed_around _ _ _ (infixed_around _ _ _ _ _))

pub returns : goal.returns
returns g c =
    let tree = g.E.HasExprTree.tree in
    changed_in tree (went c.in_ok-boxed_mut.ensures.changed (changed_one _ c.boxed_mut-2.ensures.changed)) (assign_operands tree c.args.x.now) (assign_operands tree (record c.args.x.now { left = c.boxed_mut.new.x; right = c.boxed_mut-2.new.x })) (attributed_around _ _ _ (infixed_around _ _ _ _ _))
