use Rattle.syn_visit_kinds.proofs.Around.{among, attributed_around, child_among, frame_around}
use Rattle.syn_visit_kinds.proofs.Changes.{changed_one}
use Rattle.syn_visit_kinds.proofs.OperandsOf.{changed_in, group_operands}
use Rattle.syn_visit_kinds.proofs.atom.group_mut.Goals as goal

pub returns : goal.returns
returns g c =
    let tree = g.E.HasExprTree.tree in
    changed_in tree (changed_one _ c.boxed_mut.ensures.changed) (group_operands tree c.args.x.now) (group_operands tree (record c.args.x.now { expr = c.boxed_mut.new.x })) (attributed_around _ _ _ (frame_around _ _ _ (child_among _ _ _ _ _ _ (among _))))
