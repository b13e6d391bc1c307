use Rattle.syn_expr_spec.specs.Tree as e
use Rattle.syn_visit_kinds.proofs.Around.{attributed_around, frame_around, list_around}
use Rattle.syn_visit_kinds.proofs.OperandsOf.{changed_in, tuple_operands}
use Rattle.syn_visit_kinds.proofs.atom.tuple_mut.Goals as goal

pub returns : goal.returns
returns g c =
    let tree = g.E.HasExprTree.tree in
    changed_in tree c.punctuated_mut.ensures.changed (tuple_operands tree c.args.x.now) (tuple_operands tree (record c.args.x.now { elems = c.punctuated_mut.new.x }))
    (attributed_around _ _ _ (frame_around e.tuple _ _ (list_around tree c.args.x.now.elems c.punctuated_mut.new.x c.punctuated_mut.ensures.changed c.punctuated_mut.ensures.trails)))
