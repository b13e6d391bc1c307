use Rattle.syn_expr_spec.specs.Tree as e
use Rattle.syn_visit_kinds.proofs.Around.{attributed_around, jump_around}
use Rattle.syn_visit_kinds.proofs.OperandsOf.{changed_in, yield_operands}
use Rattle.syn_visit_kinds.proofs.jump.yield_expr_mut.Goals as goal

pub returns : goal.returns
returns g c =
    let tree = g.E.HasExprTree.tree in
    changed_in tree c.optional_mut.ensures.changed (yield_operands tree c.args.x.now) (yield_operands tree (record c.args.x.now { expr = c.optional_mut.new.x }))
    (attributed_around _ _ _ (jump_around tree e.yielding c.args.x.now.expr c.optional_mut.new.x c.optional_mut.ensures.changed))
