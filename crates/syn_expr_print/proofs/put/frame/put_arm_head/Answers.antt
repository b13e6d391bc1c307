-- The pattern after the attributes.
use Rattle.std.proofs.Common.{◌≡◌, ◌++◌, [], OnOk, map, subst, sym, ap, ◌∙◌}
use Rattle.syn_lower_spec.specs.PatOwn.{attributes_own, pat_own}
use Rattle.syn_lower_leaves.specs.View.{attribute_of}
use Rattle.syn_pat.proofs.Appends.{attributes_append}
use Rattle.syn_expr_ast.specs.Attrs.{attrs_of}
use Rattle.syn_expr_ast.proofs.Owns.{then}
use Rattle.syn_expr_print.proofs.put.frame.put_arm_head.Goals as goal

pub returns-clause-ok : goal.returns-clause-ok
unfolding attrs_of
returns-clause-ok g c =
    let old = c.args.tokens.now in
    let arm = g.A.HasArmView.view c.args.arm.now in
    let attrs = ap (λ xs. map attribute_of xs) c.deref.ensures.value ∙ c.head.ensures.attrs in
    let e = then old _ _ c.in_ok-put_all.ensures.ok
    ∙ ap (λ ats. old ++ (attributes_own ats [] ++ pat_own (g.A.Pat.HasPatTree.view c.head.result.pat.now).tree [])) attrs
    ∙ ap (λ p. old ++ (attributes_own arm.attrs [] ++ pat_own p.tree [])) c.head.ensures.pat
    ∙ ap (λ l. old ++ l) (sym (attributes_append arm.attrs (pat_own arm.pat.tree []))) in
    subst (λ z. OnOk c.put_pat.result (c.put_pat.new.tokens ≡ z)) e c.put_pat.ensures.ok
