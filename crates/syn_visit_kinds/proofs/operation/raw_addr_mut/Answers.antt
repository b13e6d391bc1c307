use Rattle.syn_visit_kinds.proofs.Around.{attributed_around, prefixed_around}
use Rattle.syn_visit_kinds.proofs.Changes.{changed_one}
use Rattle.syn_visit_kinds.proofs.OperandsOf.{changed_in, raw_addr_operands}
use Rattle.syn_visit_kinds.proofs.operation.raw_addr_mut.Goals as goal

pub returns : goal.returns
returns g c =
    let tree = g.E.HasExprTree.tree in
    changed_in tree (changed_one _ c.boxed_mut.ensures.changed) (raw_addr_operands tree c.args.x.now) (raw_addr_operands tree (record c.args.x.now { expr = c.boxed_mut.new.x })) (attributed_around _ _ _ (prefixed_around _ _ _ _))
