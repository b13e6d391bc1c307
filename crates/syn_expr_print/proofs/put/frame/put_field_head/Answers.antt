-- Each part after those before it.
use Rattle.std.proofs.Common.{◌≡◌, ◌++◌, OnOk, subst, sym, ap, ◌∙◌}
use Rattle.syn_tokens.specs.Sign.{sign_text}
use Rattle.syn_expr_tokens.specs.View.{member_of}
use Rattle.syn_expr_ast.specs.Attrs.{attrs_of, outer_of}
use Rattle.syn_expr_ast.proofs.Owns.{field_is, then}
use Rattle.syn_expr_print.proofs.put.frame.put_field_head.Goals as goal

pub returns-clause-ok : goal.returns-clause-ok
unfolding sign_text attrs_of outer_of
returns-clause-ok g c =
    let old = c.args.tokens.now in
    let field = c.args.field.now in
    let e = then c.put_outer.new.tokens _ _ c.in_ok-put.ensures.ok
    ∙ then old _ _ c.in_ok-put_outer.ensures.ok
    ∙ ap (λ l. old ++ l) (sym (field_is (outer_of field.attrs) (member_of field.member) field.colon_token)) in
    subst (λ z. OnOk c.put_some.result (c.put_some.new.tokens ≡ z)) e c.put_some.ensures.ok
