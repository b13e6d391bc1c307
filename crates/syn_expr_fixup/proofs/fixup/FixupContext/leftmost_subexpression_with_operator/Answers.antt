use Rattle.std.proofs.Common.{rules, refl, sym, ap, ◌∙◌}
use Rattle.syn_expr_spec.specs.Summaries.{base_wrapped_by, left_wrapped_by}
use Rattle.syn_expr_spec.specs.Tree as e
use Rattle.syn_expr_fixup.specs.Fixup.{level_if}
use Rattle.syn_expr_fixup.proofs.Classes.{base_level, left_level, chosen_level}
use Rattle.syn_expr_fixup.proofs.fixup.FixupContext.leftmost_subexpression_with_operator.Goals as goal

pub returns-in-Some-clause-level : goal.returns-in-Some-clause-level
returns-in-Some-clause-level g c = λ k f.
    c.level_if.ensures ∙ ap level_if (c.left_wrapped_by.ensures ∙ ap (left_wrapped_by c.in-Some.op) c.summary_of-summary.ensures
    ∙ left_level k c.in-Some.op c.args.precedence c.args.next_operator_can_begin_expr c.args.next_operator_can_begin_generics
    (g.E.HasExprTree.tree c.args.expr.now) f (sym c.operator_by.ensures ∙ c.in-Some.is))

pub returns-in-Some-clause-chosen : goal.returns-in-Some-clause-chosen
returns-in-Some-clause-chosen g c = λ k f.
    c.level_if.ensures ∙ ap level_if (c.left_wrapped_by.ensures ∙ ap (left_wrapped_by c.in-Some.op) c.summary_of-summary.ensures
    ∙ chosen_level k c.in-Some.op c.args.precedence c.args.next_operator_can_begin_expr c.args.next_operator_can_begin_generics
    (g.E.HasExprTree.tree c.args.expr.now) f (sym c.operator_by.ensures ∙ c.in-Some.is))

pub returns-in-None-clause-base : goal.returns-in-None-clause-base
returns-in-None-clause-base g c = λ h.
    c.level_if-in-None.ensures ∙ ap level_if (c.base_wrapped_by.ensures e.index refl ∙ ap (base_wrapped_by e.index) c.summary_of-summary.ensures
    ∙ base_level e.index (g.E.HasExprTree.tree c.args.expr.now))

pub returns-in-None-clause-based : goal.returns-in-None-clause-based
returns-in-None-clause-based g c = λ h.
    let a = c.base_context.ensures e.index refl in
    search rules
