use Rattle.std.proofs.Common.{rules, refl, ap, ◌∙◌}
use Rattle.syn_expr_spec.specs.Summaries.{base_wrapped_by}
use Rattle.syn_expr_spec.specs.Tree as e
use Rattle.syn_expr_fixup.specs.Fixup.{level_if}
use Rattle.syn_expr_fixup.proofs.Classes.{base_level, dot_level, dot_place}
use Rattle.syn_expr_fixup.proofs.fixup.FixupContext.leftmost_subexpression_with_dot.Goals as goal

pub returns-clause-level : goal.returns-clause-level
returns-clause-level g c = λ k h.
    c.level_if.ensures ∙ ap level_if (c.base_wrapped_by.ensures e.await refl ∙ ap (base_wrapped_by e.await) c.summary_of.ensures
    ∙ base_level e.await (g.E.HasExprTree.tree c.args.expr.now) ∙ dot_level k (g.E.HasExprTree.tree c.args.expr.now) h)

pub returns-clause-place : goal.returns-clause-place
returns-clause-place g c = λ k h.
    let a = c.base_context.ensures e.await refl in
    let b = dot_place k c.args.self.context h in
    search rules
