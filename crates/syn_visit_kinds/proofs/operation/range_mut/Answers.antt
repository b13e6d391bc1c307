use Rattle.std.proofs.Common.{refl}
use Rattle.syn_lower_leaves.specs.View.{last_of}
use Rattle.syn_expr_tokens.specs.View.{limits_kind}
use Rattle.syn_expr_ast.specs.View.{boxed}
use Rattle.syn_visit_kinds.proofs.Around.{attributed_around, option_same, range_around}
use Rattle.syn_visit_kinds.proofs.Changes.{changed_both, changed_stops}
use Rattle.syn_visit_kinds.proofs.OperandsOf.{changed_in, range_expr_operands}
use Rattle.syn_visit_kinds.proofs.operation.range_mut.Goals as goal

pub returns-in_err-optional_mut : goal.returns-in_err-optional_mut
returns-in_err-optional_mut g c =
    let tree = g.E.HasExprTree.tree in
    changed_in tree (changed_stops (last_of c.args.x.now.end) _ c.from_residual.ensures c.in_err-optional_mut.ensures.changed) (range_expr_operands tree c.args.x.now) (range_expr_operands tree (record c.args.x.now { start = c.optional_mut.new.x }))
    (attributed_around _ _ _ (range_around (limits_kind c.args.x.now.limits) (boxed tree c.args.x.now.start) (boxed tree c.args.x.now.end) (boxed tree c.optional_mut.new.x) (boxed tree c.args.x.now.end) (option_same tree c.args.x.now.start c.optional_mut.new.x c.in_err-optional_mut.ensures.changed) (λ k. refl)))

pub returns : goal.returns
returns g c =
    let tree = g.E.HasExprTree.tree in
    changed_in tree (changed_both c.in_ok-optional_mut.ensures.changed c.optional_mut-2.ensures.changed) (range_expr_operands tree c.args.x.now) (range_expr_operands tree (record c.args.x.now { start = c.optional_mut.new.x; end = c.optional_mut-2.new.x }))
    (attributed_around _ _ _ (range_around (limits_kind c.args.x.now.limits) (boxed tree c.args.x.now.start) (boxed tree c.args.x.now.end) (boxed tree c.optional_mut.new.x) (boxed tree c.optional_mut-2.new.x) (option_same tree c.args.x.now.start c.optional_mut.new.x c.in_ok-optional_mut.ensures.changed) (option_same tree c.args.x.now.end c.optional_mut-2.new.x c.optional_mut-2.ensures.changed)))
