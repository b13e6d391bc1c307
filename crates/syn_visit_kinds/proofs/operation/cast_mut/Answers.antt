use Rattle.syn_visit_kinds.proofs.Around.{attributed_around, postfixed_around}
use Rattle.syn_visit_kinds.proofs.Changes.{changed_one}
use Rattle.syn_visit_kinds.proofs.OperandsOf.{changed_in, cast_operands}
use Rattle.syn_visit_kinds.proofs.operation.cast_mut.Goals as goal

pub returns : goal.returns
returns g c =
    let tree = g.E.HasExprTree.tree in
    changed_in tree (changed_one _ c.boxed_mut.ensures.changed) (cast_operands tree c.args.x.now) (cast_operands tree (record c.args.x.now { expr = c.boxed_mut.new.x })) (attributed_around _ _ _ (postfixed_around _ _ _))
