-- Before those of its own; where all are outer ones none is put after.
use Rattle.std.proofs.Common.{◌≡◌, ◌++◌, IfOk, subst, sym, ap, ◌∙◌}
use Rattle.syn_expr_spec.specs.Tree.{inners, outers}
use Rattle.syn_expr_spec.proofs.Attributes.{inners_none}
use Rattle.syn_expr_ast.specs.Attrs.{attrs_of, inner_of, outer_of}
use Rattle.syn_expr_flatten.specs.Flat.{before}
use Rattle.syn_expr_flatten.proofs.attrs.put_around.Goals as goal

pub returns-then-not-all_outer-clause-outer : goal.returns-then-not-all_outer-clause-outer
unfolding attrs_of outer_of
returns-then-not-all_outer-clause-outer c =
    subst (λ o. IfOk c.put_each.result (λ _. outer_of c.put_each.new.own ≡ outers (before o) ++ outer_of c.args.own.now)) (sym c.in-Some.is) c.put_each.ensures.outer

pub returns-in_ok-own-clause-outer : goal.returns-in_ok-own-clause-outer
unfolding attrs_of outer_of
returns-in_ok-own-clause-outer c =
    c.in_ok-own.ensures.outer ∙ ap (λ v. outer_of c.in-Some.attrs ++ outer_of v) c.replace.ensures.value
    ∙ ap (λ o. outers (before o) ++ outer_of c.args.own.now) (sym c.in-Some.is)

pub returns-in_ok-own-clause-inner : goal.returns-in_ok-own-clause-inner
returns-in_ok-own-clause-inner c =
    let own = c.args.own.now in
    let outer = sym c.all_outer.ensures ∙ c.if-not-all_outer.false in
    c.in_ok-own.ensures.inner outer ∙ ap inner_of c.replace.ensures.value
    ∙ ap (λ l. l ++ inner_of own) (sym (inners_none (attrs_of c.in-Some.attrs) outer)) ∙ ap (λ o. inners (before o) ++ inner_of own) (sym c.in-Some.is)
