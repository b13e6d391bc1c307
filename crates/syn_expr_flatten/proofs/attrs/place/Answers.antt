-- As many as there are before the first inner one.
use Rattle.std.proofs.Common.{◌≡◌, ◌-◌, if◌then◌else◌, length, map, ap, ◌∙◌, arith}
use Rattle.syn_expr_spec.specs.Tree.{from_inner}
use Rattle.syn_lower_leaves.specs.View.{attribute_of}
use Rattle.syn_expr_ast.specs.Attrs.{before_inner}
use Rattle.syn_expr_flatten.proofs.Puts.{parts_length}
use Rattle.syn_expr_flatten.proofs.attrs.place.Goals as goal

pub overflow_sub-result : goal.overflow_sub-result
overflow_sub-result c =
    let own = c.args.own.now in
    omega (arith, c.len.ensures, own.ok.0, parts_length own.items c.from_inner.result.now (c.from_inner.ensures ∙ ap (λ l. from_inner (map attribute_of l)) c.deref.ensures.value))

pub returns-then-is_inner : goal.returns-then-is_inner
returns-then-is_inner c =
    let own = c.args.own.now in
    let front = length (before_inner (map attribute_of own.items)) in
    let parts = parts_length own.items c.from_inner.result.now (c.from_inner.ensures ∙ ap (λ l. from_inner (map attribute_of l)) c.deref.ensures.value) in
    let at : c.len.result - length c.from_inner.result.now ≡ front = omega (arith, c.len.ensures, own.ok.0, parts) in
    at ∙ ap (λ b. if b then front else 0) c.if-is_inner.ensures
