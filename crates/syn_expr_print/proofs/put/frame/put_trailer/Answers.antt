-- A method's parts, each after those before it.
use Rattle.std.proofs.Common.{◌≡◌, ◌++◌, ◌∷◌, [], OnOk, subst, sym, ap, ◌∙◌}
use Rattle.syn_tokens.specs.Tok.{ident}
use Rattle.syn_tokens.specs.Sign.{sign_text, word_text}
use Rattle.syn_lower_spec.specs.Own.{alone}
use Rattle.syn_lower_leaves.specs.Printed.{option_printed}
use Rattle.syn_lower_types.specs.Printed.{angle_printed}
use Rattle.syn_expr_spec.specs.Tree.{trailer_own}
use Rattle.syn_expr_ast.specs.Node.{trailer_of}
use Rattle.syn_expr_ast.proofs.Owns.{then, turbofish_first, type_toks}
use Rattle.syn_expr_print.proofs.put.frame.put_trailer.Goals as goal

pub returns-in_ok-put_some-in-Method-clause-ok : goal.returns-in_ok-put_some-in-Method-clause-ok
unfolding sign_text word_text
returns-in_ok-put_some-in-Method-clause-ok c =
    let old = c.args.tokens.now in
    let e = then c.put-in-Method.new.tokens _ _ c.in_ok-put_some-in-Method.ensures.ok
    ∙ then c.put.new.tokens _ _ c.in_ok-put-in-Method-2.ensures.ok
    ∙ then old _ _ c.in_ok-put-in-Method.ensures.ok
    ∙ ap (λ t. old ++ alone 46 ∷ ident c.in-Method.name.now ∷ (option_printed (angle_printed type_toks) c.in-Method.turbofish.now ++ t ∷ [])) c.enclose-in-Method.ensures.group
    ∙ ap (λ l. old ++ alone 46 ∷ ident c.in-Method.name.now ∷ l) (sym (turbofish_first c.in-Method.turbofish.now _))
    ∙ ap (λ k. old ++ trailer_own (trailer_of k) c.args.inside []) (sym c.in-Method.is) in
    subst (λ z. OnOk c.put_tree-in-Method.result (c.put_tree-in-Method.new.tokens ≡ z)) e c.put_tree-in-Method.ensures.ok
