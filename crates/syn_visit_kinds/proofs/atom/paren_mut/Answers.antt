use Rattle.syn_visit_kinds.proofs.Around.{attributed_around, paren_around}
use Rattle.syn_visit_kinds.proofs.Changes.{changed_one}
use Rattle.syn_visit_kinds.proofs.OperandsOf.{changed_in, paren_operands}
use Rattle.syn_visit_kinds.proofs.atom.paren_mut.Goals as goal

pub returns : goal.returns
returns g c =
    let tree = g.E.HasExprTree.tree in
    changed_in tree (changed_one _ c.boxed_mut.ensures.changed) (paren_operands tree c.args.x.now) (paren_operands tree (record c.args.x.now { expr = c.boxed_mut.new.x })) (attributed_around _ _ _ (paren_around _ _ _))
