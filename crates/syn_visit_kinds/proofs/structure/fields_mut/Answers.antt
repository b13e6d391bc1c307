use Rattle.std.proofs.Common.{◌≡◌, ap, ◌∙◌}
use Rattle.syn_expr_ast.specs.View.{field_value_of}
use Rattle.syn_visit_kinds.specs.Changes.{Change}
use Rattle.syn_visit_kinds.specs.Parts.{map_field}
use Rattle.syn_visit_kinds.proofs.Changes.{change_known, changed_alike, changed_map}
use Rattle.syn_visit_kinds.proofs.structure.fields_mut.Goals as goal

pub punctuated_mut-requires-clause-inner : goal.punctuated_mut-requires-clause-inner
punctuated_mut-requires-clause-inner g c = λ q has borrowed is. λ inside e. c.requires.inner q has inside (e ∙ ap (λ f. f.expr) is)

pub returns-clause-changed : goal.returns-clause-changed
returns-clause-changed g c = changed_map (λ y. y.expr) (change_known (λ x r y. Change (λ z. z) _ x.expr r y.expr) (λ old r new met. met.0)) c.punctuated_mut.ensures.changed

pub returns-clause-around : goal.returns-clause-around
returns-clause-around g c = λ k.
    let view = field_value_of g.E.HasExprTree.tree in
    changed_alike (map_field (λ _. k)) (λ x r y same. same) (changed_map view (change_known (λ x r y. map_field (λ _. k) (view y) ≡ map_field (λ _. k) (view x)) (λ old r new met. met.1 k)) c.punctuated_mut.ensures.changed)
