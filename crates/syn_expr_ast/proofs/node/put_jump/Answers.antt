-- The label after the word.
use Rattle.std.proofs.Common.{◌≡◌, ◌++◌, ◌∷◌, [], OnOk, subst, sym, ap, ◌∙◌}
use Rattle.std.specs.Prelude.{codes}
use Rattle.syn_tokens.specs.Tok.{ident}
use Rattle.syn_tokens.specs.Sign.{word_text}
use Rattle.syn_expr_spec.specs.Tree.{jump_own}
use Rattle.syn_expr_ast.specs.Node.{jump_of}
use Rattle.syn_expr_ast.proofs.Owns.{lifetime_last, then}
use Rattle.syn_expr_ast.proofs.node.put_jump.Goals as goal

pub returns-in_ok-put-in-Break-clause-ok : goal.returns-in_ok-put-in-Break-clause-ok
unfolding word_text
returns-in_ok-put-in-Break-clause-ok c =
    let old = c.args.tokens.now in
    let e = then old _ _ c.in_ok-put-in-Break.ensures.ok
    ∙ ap (λ l. old ++ ident (codes "break") ∷ l) (sym (lifetime_last c.in-Break.label.now))
    ∙ ap (λ j. old ++ jump_own (jump_of j) []) (sym c.in-Break.is) in
    subst (λ z. OnOk c.put_some.result (c.put_some.new.tokens ≡ z)) e c.put_some.ensures.ok
