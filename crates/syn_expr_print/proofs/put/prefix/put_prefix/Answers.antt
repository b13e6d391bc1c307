-- Each part after those before it.
use Rattle.std.proofs.Common.{◌≡◌, ◌++◌, ◌∷◌, [], OnOk, subst, sym, ap, ◌∙◌}
use Rattle.std.specs.Prelude.{codes}
use Rattle.syn_tokens.specs.Tok.{ident}
use Rattle.syn_tokens.specs.Sign.{sign_text, word_text}
use Rattle.syn_lower_spec.specs.Own.{alone}
use Rattle.syn_lower_spec.specs.PatOwn.{pat_own}
use Rattle.syn_pat.proofs.Appends.{pat_append}
use Rattle.syn_expr_spec.specs.Tree.{prefix_own}
use Rattle.syn_expr_ast.specs.Node.{prefix_of}
use Rattle.syn_expr_ast.proofs.Owns.{then, word_last}
use Rattle.syn_expr_print.proofs.put.prefix.put_prefix.Goals as goal

pub returns-in_ok-put-in-Reference-clause-ok : goal.returns-in_ok-put-in-Reference-clause-ok
unfolding sign_text word_text
returns-in_ok-put-in-Reference-clause-ok g c =
    let old = c.args.tokens.now in
    let e = then old _ _ c.in_ok-put-in-Reference.ensures.ok
    ∙ ap (λ l. old ++ alone 38 ∷ l) (sym (word_last (codes "mut") c.in-Reference.mutability.now))
    ∙ ap (λ k. old ++ prefix_own (prefix_of g.P.HasPatTree.view k) []) (sym c.in-Reference.is) in
    subst (λ z. OnOk c.put_some.result (c.put_some.new.tokens ≡ z)) e c.put_some.ensures.ok

pub returns-in_ok-put_pat-in-Let-clause-ok : goal.returns-in_ok-put_pat-in-Let-clause-ok
unfolding sign_text word_text
returns-in_ok-put_pat-in-Let-clause-ok g c =
    let old = c.args.tokens.now in
    let view = g.P.HasPatTree.view in
    let e = then c.put-in-Let.new.tokens _ _ c.in_ok-put_pat-in-Let.ensures.ok
    ∙ then old _ _ c.in_ok-put-in-Let.ensures.ok
    ∙ ap (λ x. old ++ ident (codes "let") ∷ (pat_own (view x).tree [] ++ alone 61 ∷ [])) c.deref.ensures
    ∙ ap (λ l. old ++ ident (codes "let") ∷ l) (sym (pat_append (view c.in-Let.pat.now.value).tree _))
    ∙ ap (λ k. old ++ prefix_own (prefix_of view k) []) (sym c.in-Let.is) in
    subst (λ z. OnOk c.put-in-Let-2.result (c.put-in-Let-2.new.tokens ≡ z)) e c.put-in-Let-2.ensures.ok
