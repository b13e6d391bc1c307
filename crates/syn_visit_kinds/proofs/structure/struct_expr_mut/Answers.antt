use Rattle.std.proofs.Common.{is_some, map, refl}
use Rattle.syn_lower.specs.View.{last_of, path_of, qself_or, type_of, values}
use Rattle.syn_expr_ast.specs.View.{boxed, field_value_of}
use Rattle.syn_visit_kinds.proofs.Around.{attributed_around, option_same, struct_around}
use Rattle.syn_visit_kinds.proofs.Changes.{changed_both, changed_stops}
use Rattle.syn_visit_kinds.proofs.OperandsOf.{changed_in, struct_operands}
use Rattle.syn_visit_kinds.proofs.structure.struct_expr_mut.Goals as goal

pub returns-in_err-fields_mut : goal.returns-in_err-fields_mut
returns-in_err-fields_mut g c =
    let tree = g.E.HasExprTree.tree in
    changed_in tree (changed_stops (last_of c.args.x.now.rest) _ c.from_residual.ensures c.in_err-fields_mut.ensures.changed) (struct_operands tree c.args.x.now) (struct_operands tree (record c.args.x.now { fields = c.fields_mut.new.x }))
    (attributed_around _ _ _ (struct_around (qself_or type_of c.args.x.now.qself) (path_of type_of c.args.x.now.path) (is_some c.args.x.now.dot2_token) (map (field_value_of tree) (values c.args.x.now.fields)) (map (field_value_of tree) (values c.fields_mut.new.x)) _ _ (boxed tree c.args.x.now.rest) (boxed tree c.args.x.now.rest) c.in_err-fields_mut.ensures.around c.in_err-fields_mut.ensures.trails (λ k. refl)))

pub returns : goal.returns
returns g c =
    let tree = g.E.HasExprTree.tree in
    changed_in tree (changed_both c.in_ok-fields_mut.ensures.changed c.optional_mut.ensures.changed) (struct_operands tree c.args.x.now) (struct_operands tree (record c.args.x.now { fields = c.fields_mut.new.x; rest = c.optional_mut.new.x }))
    (attributed_around _ _ _ (struct_around (qself_or type_of c.args.x.now.qself) (path_of type_of c.args.x.now.path) (is_some c.args.x.now.dot2_token) (map (field_value_of tree) (values c.args.x.now.fields)) (map (field_value_of tree) (values c.fields_mut.new.x)) _ _ (boxed tree c.args.x.now.rest) (boxed tree c.optional_mut.new.x) c.in_ok-fields_mut.ensures.around c.in_ok-fields_mut.ensures.trails (option_same tree c.args.x.now.rest c.optional_mut.new.x c.optional_mut.ensures.changed)))
