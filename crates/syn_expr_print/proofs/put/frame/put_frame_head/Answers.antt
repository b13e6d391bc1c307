-- Each part after those before it.
use Rattle.std.proofs.Common.{◌≡◌, ◌++◌, ◌∷◌, [], OnOk, subst, sym, ap, ◌∙◌}
use Rattle.std.specs.Prelude.{codes}
use Rattle.syn_tokens.specs.Tok.{ident}
use Rattle.syn_tokens.specs.Sign.{word_text}
use Rattle.syn_lower_spec.specs.PatOwn.{pat_own}
use Rattle.syn_pat.proofs.Appends.{pat_append}
use Rattle.syn_expr_spec.specs.Tree.{frame_own, label_own}
use Rattle.syn_lower.specs.View.{mapped}
use Rattle.syn_expr_tokens.specs.View.{label_of}
use Rattle.syn_expr_ast.specs.Node.{frame_of}
use Rattle.syn_expr_ast.proofs.Owns.{label_first, then}
use Rattle.syn_expr_print.proofs.put.frame.put_frame_head.Goals as goal

pub returns-in_ok-put_some-in-While-clause-ok : goal.returns-in_ok-put_some-in-While-clause-ok
unfolding word_text
returns-in_ok-put_some-in-While-clause-ok g c =
    let old = c.args.tokens.now in
    let e = then old _ _ c.in_ok-put_some-in-While.ensures.ok
    ∙ ap (λ l. old ++ l) (sym (label_first c.in-While.label.now _))
    ∙ ap (λ k. old ++ frame_own (frame_of g.P.HasPatTree.view k) []) (sym c.in-While.is) in
    subst (λ z. OnOk c.put-in-While.result (c.put-in-While.new.tokens ≡ z)) e c.put-in-While.ensures.ok

pub returns-in_ok-put_pat-in-ForLoop-clause-ok : goal.returns-in_ok-put_pat-in-ForLoop-clause-ok
unfolding word_text
returns-in_ok-put_pat-in-ForLoop-clause-ok g c =
    let old = c.args.tokens.now in
    let view = g.P.HasPatTree.view in
    let label = mapped label_of c.in-ForLoop.label.now in
    let e = then c.put-in-ForLoop.new.tokens _ _ c.in_ok-put_pat-in-ForLoop.ensures.ok
    ∙ then c.put_some-in-ForLoop.new.tokens _ _ c.in_ok-put-in-ForLoop.ensures.ok
    ∙ then old _ _ c.in_ok-put_some-in-ForLoop.ensures.ok
    ∙ ap (λ l. old ++ l) (sym (label_first c.in-ForLoop.label.now _))
    ∙ ap (λ x. old ++ label_own label (ident (codes "for") ∷ (pat_own (view x).tree [] ++ ident (codes "in") ∷ []))) c.deref.ensures
    ∙ ap (λ l. old ++ label_own label (ident (codes "for") ∷ l)) (sym (pat_append (view c.in-ForLoop.pat.now.value).tree _))
    ∙ ap (λ k. old ++ frame_own (frame_of view k) []) (sym c.in-ForLoop.is) in
    subst (λ z. OnOk c.put-in-ForLoop-2.result (c.put-in-ForLoop-2.new.tokens ≡ z)) e c.put-in-ForLoop-2.ensures.ok
