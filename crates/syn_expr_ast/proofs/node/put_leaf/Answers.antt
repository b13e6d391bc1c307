-- Each part after those before it.
use Rattle.std.proofs.Common.{◌≡◌, ◌++◌, ◌∷◌, [], OnOk, subst, sym, ap, ◌∙◌}
use Rattle.std.specs.Prelude.{codes}
use Rattle.syn_tokens.specs.Tok.{ident}
use Rattle.syn_tokens.specs.Sign.{word_text}
use Rattle.syn_expr_spec.specs.Tree.{leaf_own}
use Rattle.syn_expr_ast.specs.Node.{leaf_of}
use Rattle.syn_expr_ast.proofs.Owns.{lifetime_last, then, word_first}
use Rattle.syn_expr_ast.proofs.node.put_leaf.Goals as goal

pub returns-in_ok-put-in-Continue-clause-ok : goal.returns-in_ok-put-in-Continue-clause-ok
unfolding word_text
returns-in_ok-put-in-Continue-clause-ok c =
    let old = c.args.tokens.now in
    let e = then old _ _ c.in_ok-put-in-Continue.ensures.ok
    ∙ ap (λ l. old ++ ident (codes "continue") ∷ l) (sym (lifetime_last c.in-Continue.label.now))
    ∙ ap (λ k. old ++ leaf_own (leaf_of k) []) (sym c.in-Continue.is) in
    subst (λ z. OnOk c.put_some.result (c.put_some.new.tokens ≡ z)) e c.put_some.ensures.ok

pub returns-in_ok-put_some-in-Async-clause-ok : goal.returns-in_ok-put_some-in-Async-clause-ok
unfolding word_text
returns-in_ok-put_some-in-Async-clause-ok c =
    let old = c.args.tokens.now in
    let e = then c.put-in-Async.new.tokens _ _ c.in_ok-put_some-in-Async.ensures.ok
    ∙ then old _ _ c.in_ok-put-in-Async.ensures.ok
    ∙ ap (λ l. old ++ ident (codes "async") ∷ l) (sym (word_first (codes "move") c.in-Async.capture.now _))
    ∙ ap (λ k. old ++ leaf_own (leaf_of k) []) (sym c.in-Async.is) in
    subst (λ z. OnOk c.put-in-Async-2.result (c.put-in-Async-2.new.tokens ≡ z)) e c.put-in-Async-2.ensures.ok
