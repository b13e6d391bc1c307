use Rattle.syn_visit_kinds.proofs.Around.{among, attributed_around, tail_around}
use Rattle.syn_visit_kinds.proofs.Changes.{changed_one}
use Rattle.syn_visit_kinds.proofs.OperandsOf.{changed_in, await_operands}
use Rattle.syn_visit_kinds.proofs.trailer.await_expr_mut.Goals as goal

pub returns : goal.returns
returns g c =
    let tree = g.E.HasExprTree.tree in
    changed_in tree (changed_one _ c.boxed_mut.ensures.changed) (await_operands tree c.args.x.now) (await_operands tree (record c.args.x.now { base = c.boxed_mut.new.x })) (attributed_around _ _ _ (tail_around _ _ _ _ _ (among _)))
