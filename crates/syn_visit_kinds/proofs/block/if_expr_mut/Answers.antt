use Rattle.syn_expr_spec.specs.Tree as e
use Rattle.syn_visit_kinds.specs.Changes.{went}
use Rattle.syn_visit_kinds.specs.Parts.{else_operand}
use Rattle.syn_visit_kinds.proofs.Around.{among, attributed_around, child_among, else_around, frame_around}
use Rattle.syn_visit_kinds.proofs.Changes.{next_stops}
use Rattle.syn_visit_kinds.proofs.OperandsOf.{changed_in, if_operands}
use Rattle.syn_visit_kinds.proofs.block.if_expr_mut.Goals as goal

pub returns-in_err-boxed_mut : goal.returns-in_err-boxed_mut
returns-in_err-boxed_mut g c =
    let tree = g.E.HasExprTree.tree in
    changed_in tree (next_stops (else_operand c.args.x.now.else_branch) _ _ c.from_residual.ensures c.in_err-boxed_mut.ensures.changed) (if_operands tree c.args.x.now) (if_operands tree (record c.args.x.now { cond = c.boxed_mut.new.x })) (attributed_around _ _ _ (frame_around _ _ _ (child_among _ _ _ _ _ _ (among _))))

pub returns : goal.returns
returns g c =
    let tree = g.E.HasExprTree.tree in
    changed_in tree (went c.in_ok-boxed_mut.ensures.changed c.else_branch_mut.ensures) (if_operands tree c.args.x.now) (if_operands tree (record c.args.x.now { cond = c.boxed_mut.new.x; else_branch = c.else_branch_mut.new.x }))
    (attributed_around _ _ _ (frame_around e.if_expr _ _ (child_among _ _ _ _ _ _ (else_around tree c.args.x.now.else_branch c.else_branch_mut.new.x c.else_branch_mut.ensures))))
