use Rattle.std.proofs.Common.{ap, ◌∙◌, rules}
use Rattle.syn_expr_spec.specs.Alone.{ungrouped}
use Rattle.syn_expr_spec.proofs.Alone.{kind_exact}
use Rattle.syn_expr_ast.proofs.Exactly.{reads_ahead, refuses_ahead}
use Rattle.syn_expr_core.specs.View.{tree_of}
use Rattle.syn_expr_core.proofs.KindRead.{kind_found, kind_other, kind_none, others_read, others_none}
use Rattle.syn_expr_core.proofs.alone.of_kind.Goals as goal

pub returns-in-Err-clause-exact : goal.returns-in-Err-clause-exact
returns-in-Err-clause-exact g c =
    refuses_ahead (kind_exact g.S.Kind.is) _ _ _ c.in_ok-ahead.ensures.value
    (λ ne. kind_none g.S.Kind.is _ (c.in-Err.ensures.value (λ m. ne (c.refusal.ensures.memory m))))

pub returns-in-Err-clause-others : goal.returns-in-Err-clause-others
returns-in-Err-clause-others g c =
    others_none g.row.S.Denot g.S.Kind.is c.args.wanted c.args.input.now _ c.refusal.result c.in_ok-ahead.ensures.value
    (λ ne. c.in-Err.ensures.value (λ m. ne (c.refusal.ensures.memory m)))

pub returns-in-Some-clause-exact : goal.returns-in-Some-clause-exact
returns-in-Some-clause-exact g c =
    reads_ahead (kind_exact g.S.Kind.is) _ _ _ _ c.in_ok-ahead.ensures.value
    (rw c.advance_to.ensures.rest (kind_found g.S.Kind.is _ _ (tree_of c.ungrouped.result) _ _ c.in-Ok.ensures.value
    (c.ungrouped.ensures ∙ ap (λ x. ungrouped (tree_of x)) c.into_inner.ensures) c.in-Some.ensures.1 c.in-Some.ensures.0)) (search rules)

pub returns-in-Some-clause-others : goal.returns-in-Some-clause-others
returns-in-Some-clause-others g c =
    others_read g.row.S.Denot g.S.Kind.is c.args.wanted c.args.input.now _ c.in-Some.x _ (tree_of c.ungrouped.result) _ c.in_ok-ahead.ensures.value c.in-Ok.ensures.value
    (c.ungrouped.ensures ∙ ap (λ x. ungrouped (tree_of x)) c.into_inner.ensures) c.in-Some.ensures.1

pub returns-in-None-clause-exact : goal.returns-in-None-clause-exact
returns-in-None-clause-exact g c =
    refuses_ahead (kind_exact g.S.Kind.is) _ _ _ c.in_ok-ahead.ensures.value
    (λ ne. kind_other g.S.Kind.is _ _ (tree_of c.ungrouped.result) _ c.in-Ok.ensures.value
    (c.ungrouped.ensures ∙ ap (λ x. ungrouped (tree_of x)) c.into_inner.ensures) c.in-None.ensures)
