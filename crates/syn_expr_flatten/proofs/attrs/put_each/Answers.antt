-- What was taken off the end of the list is put before the others.
use Rattle.std.proofs.Common.{◌++◌, map, sym, ap, ◌∙◌, arith}
use Rattle.syn_expr_spec.specs.Tree.{from_inner, inners, outers}
use Rattle.syn_lower_leaves.specs.View.{attribute_of}
use Rattle.syn_expr_ast.specs.Attrs.{attrs_of, inner_of, outer_of}
use Rattle.syn_expr_flatten.proofs.Puts.{none_left, step_inner, step_outer}
use Rattle.syn_expr_flatten.proofs.attrs.put_each.Goals as goal

pub attrs-preserved : goal.attrs-preserved
unfolding inner_of outer_of
attrs-preserved c = (
  step_outer c.pop.new.self.items c.attrs.attrs.items c.in-Some.attr _ _ c.in-Some.ensures.items c.in_ok-put_one.ensures.outer ∙ c.attrs.invariant.0,
  step_inner c.pop.new.self.items c.attrs.attrs.items c.in-Some.attr _ _ c.in-Some.ensures.items c.in_ok-put_one.ensures.inner ∙ c.attrs.invariant.1,
)

pub returns-clause-outer : goal.returns-clause-outer
unfolding outer_of
returns-clause-outer c =
    let none = none_left c.attrs.attrs.items (omega (arith, c.attrs.attrs.ok.0, c.in_default.ensures.cases.0)) in
    ap (λ l. outers (map attribute_of l) ++ outers (map attribute_of c.attrs.own.items)) (sym none) ∙ c.attrs.invariant.0

pub returns-clause-inner : goal.returns-clause-inner
unfolding attrs_of inner_of
returns-clause-inner c =
    let none = none_left c.attrs.attrs.items (omega (arith, c.attrs.attrs.ok.0, c.in_default.ensures.cases.0)) in
    ap (λ l. inners (map attribute_of l) ++ from_inner (map attribute_of c.attrs.own.items)) (sym none) ∙ c.attrs.invariant.1
