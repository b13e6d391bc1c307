use Rattle.std.proofs.Common.{refl, ap, ◌∙◌}
use Rattle.syn_expr_ast.specs.View.{field_value_of}
use Rattle.syn_expr_flatten.specs.Flat.{IsFlatField}
use Rattle.syn_expr_flatten.proofs.Calls.{flat_by, left_by}
use Rattle.syn_visit_kinds.proofs.Elementwise.{each_by}
use Rattle.syn_expr_flatten.proofs.Children.{option_flat, same_rest, struct_flat}
use Rattle.syn_expr_flatten.proofs.Nodes.{at_node}
use Rattle.syn_expr_flatten.proofs.atom.struct_expr.Goals as goal

pub punctuated_mut-requires-clause-inner : goal.punctuated_mut-requires-clause-inner
punctuated_mut-requires-clause-inner g c = λ q has borrowed is. ((λ inside e. c.requires.fields q has inside (e ∙ ap (λ f. f.expr) is)), c.requires.gives)

pub returns : goal.returns
returns g c =
    let tree = g.E.HasExprTree.tree in
    let field = left_by _ (λ x y. IsFlatField (field_value_of tree x) (field_value_of tree y)) (λ old new r met. met) in
    let rest = each_by _ _ (flat_by tree _ c.requires.gives) _ _ c.in_ok-optional_mut.ensures.left in
    at_node _ _ _ _ _ refl c.in_ok-put_before.ensures (same_rest tree _ _ _ _ _ _ _ rest
    (struct_flat (field_value_of tree) _ _ _ _ (each_by _ _ field _ _ c.in_ok-punctuated_mut.ensures.values) c.in_ok-punctuated_mut.ensures.trails (option_flat tree _ _ _ rest)))
