-- The fields with commas, the last, and what the others are taken of.
use Rattle.std.proofs.Common.{◌≡◌, ◌++◌, OnOk, subst, sym, ap, ◌∙◌, append_assoc, arith}
use Rattle.std.specs.Prelude.{is_some}
use Rattle.syn_lower_leaves.specs.Printed.{comma, pairs_printed}
use Rattle.syn_expr_spec.specs.Tree.{size}
use Rattle.syn_expr_ast.specs.View.{boxed, field_value_of}
use Rattle.syn_expr_ast.proofs.Owns.{then}
use Rattle.syn_expr_fixup.specs.Below.{backwards, field_below, option_below, total}
use Rattle.syn_expr_print.specs.Placed.{last_field_below, last_field_spelled, rest_spelled}
use Rattle.syn_expr_ast.specs.Printed.{field_spelled}
use Rattle.syn_expr_print.specs.Printing.{EndsWith}
use Rattle.syn_expr_print.proofs.Pairs.{fields-text, fields-below, fields-size}
use Rattle.syn_expr_print.proofs.Stacks.{ends_back, taken-both, taken-left, taken-on}
use Rattle.syn_expr_print.proofs.structure.fields.Goals as goal

pub pairs-requires-clause-callable : goal.pairs-requires-clause-callable
pairs-requires-clause-callable g c =
    let tree = g.E.HasExprTree.tree in
    let s = fields-size (field_value_of tree) c.args.fields.now (is_some c.args.dots.now) (boxed tree c.args.rest.now) in
    let v = ap (total (λ q. size (field_value_of tree q.0).value)) c.deref.ensures.value in
    λ out summaries x d l e. c.requires.callable out summaries x d (omega arith) e

pub last_field-requires-clause-callable : goal.last_field-requires-clause-callable
last_field-requires-clause-callable g c =
    let tree = g.E.HasExprTree.tree in
    let s = fields-size (field_value_of tree) c.args.fields.now (is_some c.args.dots.now) (boxed tree c.args.rest.now) in
    λ out summaries x d l e. c.requires.callable out summaries x d (omega arith) e

pub rest-requires-clause-callable : goal.rest-requires-clause-callable
rest-requires-clause-callable g c =
    let tree = g.E.HasExprTree.tree in
    let s = fields-size (field_value_of tree) c.args.fields.now (is_some c.args.dots.now) (boxed tree c.args.rest.now) in
    λ out summaries x d l e. c.requires.callable out summaries x d (omega arith) e

pub pairs-requires-clause-stacked : goal.pairs-requires-clause-stacked
pairs-requires-clause-stacked g c =
    let tree = g.E.HasExprTree.tree in
    let view = field_value_of tree in
    let rest = option_below (boxed tree c.args.rest.now) in
    let last = last_field_below (boxed view c.args.fields.now.last) in
    let b = fields-below view c.args.fields.now (is_some c.args.dots.now) (boxed tree c.args.rest.now)
    ∙ ap (λ l. rest ++ (last ++ backwards (λ q. field_below (view q.0)) l)) (sym c.deref.ensures.value) in
    ends_back _ last _ (ends_back _ rest _ (subst (λ l. EndsWith c.args.summaries.now.left.items l) b c.requires.stacked))

pub last_field-requires-clause-stacked : goal.last_field-requires-clause-stacked
last_field-requires-clause-stacked g c =
    let tree = g.E.HasExprTree.tree in
    let view = field_value_of tree in
    let rest = option_below (boxed tree c.args.rest.now) in
    let last = last_field_below (boxed view c.args.fields.now.last) in
    let b = fields-below view c.args.fields.now (is_some c.args.dots.now) (boxed tree c.args.rest.now)
    ∙ ap (λ l. rest ++ (last ++ backwards (λ q. field_below (view q.0)) l)) (sym c.deref.ensures.value)
    ∙ sym (append_assoc rest last (backwards (λ q. field_below (view q.0)) c.deref.result.now)) in
    ends_back _ rest last (taken-left _ _ _ (rest ++ last) (subst (λ l. EndsWith c.args.summaries.now.left.items l) b c.requires.stacked) c.in_ok-pairs.ensures.taken)

pub rest-requires-clause-stacked : goal.rest-requires-clause-stacked
rest-requires-clause-stacked g c =
    let tree = g.E.HasExprTree.tree in
    let view = field_value_of tree in
    let rest = option_below (boxed tree c.args.rest.now) in
    let last = last_field_below (boxed view c.args.fields.now.last) in
    let b = fields-below view c.args.fields.now (is_some c.args.dots.now) (boxed tree c.args.rest.now)
    ∙ ap (λ l. rest ++ (last ++ backwards (λ q. field_below (view q.0)) l)) (sym c.deref.ensures.value) in
    let taken = taken-both _ _ _ _ last c.in_ok-pairs.ensures.taken c.in_ok-last_field.ensures.taken in
    taken-left _ _ _ rest (subst (λ l. EndsWith c.args.summaries.now.left.items l) b c.requires.stacked) taken

pub returns-clause-text : goal.returns-clause-text
returns-clause-text g c =
    let tree = g.E.HasExprTree.tree in
    let view = field_value_of tree in
    let old = c.args.tokens.now in
    let fields = c.args.fields.now in
    let r = boxed tree c.args.rest.now in
    let rest = rest_spelled r in
    let e = then c.pairs.new.tokens _ rest c.in_ok-last_field.ensures.text
    ∙ then old _ _ c.in_ok-pairs.ensures.text
    ∙ ap (λ l. old ++ (pairs_printed (λ x. field_spelled (view x)) comma l ++ (last_field_spelled (boxed view fields.last) c.is_before_rest-is_needed.result ++ rest))) c.deref.ensures.value
    ∙ ap (λ b. old ++ (pairs_printed (λ x. field_spelled (view x)) comma fields.inner.items ++ (last_field_spelled (boxed view fields.last) b ++ rest))) (c.is_before_rest-is_needed.ensures tree)
    ∙ ap (λ l. old ++ l) (sym (fields-text view fields (is_some c.args.dots.now) r c.args.needs_comma)) in
    subst (λ z. OnOk c.rest.result (c.rest.new.tokens ≡ z)) e c.rest.ensures.text

pub returns-clause-taken : goal.returns-clause-taken
returns-clause-taken g c =
    let tree = g.E.HasExprTree.tree in
    let view = field_value_of tree in
    let rest = option_below (boxed tree c.args.rest.now) in
    let last = last_field_below (boxed view c.args.fields.now.last) in
    let b = fields-below view c.args.fields.now (is_some c.args.dots.now) (boxed tree c.args.rest.now)
    ∙ ap (λ l. rest ++ (last ++ backwards (λ q. field_below (view q.0)) l)) (sym c.deref.ensures.value) in
    let taken = taken-both _ _ _ _ last c.in_ok-pairs.ensures.taken c.in_ok-last_field.ensures.taken in
    taken-on c.rest.result _ _ _ _ rest _ b taken c.rest.ensures.taken
