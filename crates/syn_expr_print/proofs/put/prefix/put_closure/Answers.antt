-- Each part after those before it.
use Rattle.std.proofs.Common.{◌≡◌, ◌++◌, OnOk, subst, sym, ap, ◌∙◌}
use Rattle.syn_tokens.specs.Sign.{sign_text, word_text}
use Rattle.syn_tokens.proofs.Fronts.{front_through}
use Rattle.syn_expr_ast.proofs.Owns.{closure_is, then}
use Rattle.syn_expr_print.proofs.put.prefix.put_closure.Goals as goal

pub returns-in_err-put_some-6-clause-front : goal.returns-in_err-put_some-6-clause-front
returns-in_err-put_some-6-clause-front g c =
    let two = front_through _ _ _ c.in_ok-put_some.ensures.front c.in_ok-put_some-2.ensures.front in
    let four = front_through _ _ _ two (front_through _ _ _ c.in_ok-put_some-3.ensures.front c.in_ok-put_some-4.ensures.front) in
    front_through _ _ _ four (front_through _ _ _ c.in_ok-put_some-5.ensures.front c.in_err-put_some-6.ensures.front)

pub returns-in_err-put-clause-front : goal.returns-in_err-put-clause-front
returns-in_err-put-clause-front g c =
    let two = front_through _ _ _ c.in_ok-put_some.ensures.front c.in_ok-put_some-2.ensures.front in
    let four = front_through _ _ _ two (front_through _ _ _ c.in_ok-put_some-3.ensures.front c.in_ok-put_some-4.ensures.front) in
    let six = front_through _ _ _ four (front_through _ _ _ c.in_ok-put_some-5.ensures.front c.in_ok-put_some-6.ensures.front) in
    front_through _ _ _ six c.in_err-put.ensures.front

pub returns-in_err-put_inputs-clause-front : goal.returns-in_err-put_inputs-clause-front
returns-in_err-put_inputs-clause-front g c =
    let two = front_through _ _ _ c.in_ok-put_some.ensures.front c.in_ok-put_some-2.ensures.front in
    let four = front_through _ _ _ two (front_through _ _ _ c.in_ok-put_some-3.ensures.front c.in_ok-put_some-4.ensures.front) in
    let six = front_through _ _ _ four (front_through _ _ _ c.in_ok-put_some-5.ensures.front c.in_ok-put_some-6.ensures.front) in
    front_through _ _ _ six (front_through _ _ _ c.in_ok-put.ensures.front c.in_err-put_inputs.ensures.front)

pub returns-in_err-put-2-clause-front : goal.returns-in_err-put-2-clause-front
returns-in_err-put-2-clause-front g c =
    let two = front_through _ _ _ c.in_ok-put_some.ensures.front c.in_ok-put_some-2.ensures.front in
    let four = front_through _ _ _ two (front_through _ _ _ c.in_ok-put_some-3.ensures.front c.in_ok-put_some-4.ensures.front) in
    let six = front_through _ _ _ four (front_through _ _ _ c.in_ok-put_some-5.ensures.front c.in_ok-put_some-6.ensures.front) in
    let eight = front_through _ _ _ six (front_through _ _ _ c.in_ok-put.ensures.front c.in_ok-put_inputs.ensures.front) in
    front_through _ _ _ eight c.in_err-put-2.ensures.front

pub returns-clause-ok : goal.returns-clause-ok
unfolding sign_text word_text
returns-clause-ok g c =
    let old = c.args.tokens.now in
    let e = then c.put_inputs.new.tokens _ _ c.in_ok-put-2.ensures.ok
    ∙ then c.put.new.tokens _ _ c.in_ok-put_inputs.ensures.ok
    ∙ then c.put_some-6.new.tokens _ _ c.in_ok-put.ensures.ok
    ∙ then c.put_some-5.new.tokens _ _ c.in_ok-put_some-6.ensures.ok
    ∙ then c.put_some-4.new.tokens _ _ c.in_ok-put_some-5.ensures.ok
    ∙ then c.put_some-3.new.tokens _ _ c.in_ok-put_some-4.ensures.ok
    ∙ then c.put_some-2.new.tokens _ _ c.in_ok-put_some-3.ensures.ok
    ∙ then c.put_some.new.tokens _ _ c.in_ok-put_some-2.ensures.ok
    ∙ then old _ _ c.in_ok-put_some.ensures.ok
    ∙ ap (λ l. old ++ l) (sym (closure_is g.P.HasPatTree.view c.args.closure)) in
    subst (λ z. OnOk c.put-3.result (c.put-3.new.tokens ≡ z)) e c.put-3.ensures.ok

pub returns-clause-front : goal.returns-clause-front
returns-clause-front g c =
    let two = front_through _ _ _ c.in_ok-put_some.ensures.front c.in_ok-put_some-2.ensures.front in
    let four = front_through _ _ _ two (front_through _ _ _ c.in_ok-put_some-3.ensures.front c.in_ok-put_some-4.ensures.front) in
    let six = front_through _ _ _ four (front_through _ _ _ c.in_ok-put_some-5.ensures.front c.in_ok-put_some-6.ensures.front) in
    let eight = front_through _ _ _ six (front_through _ _ _ c.in_ok-put.ensures.front c.in_ok-put_inputs.ensures.front) in
    front_through _ _ _ eight (front_through _ _ _ c.in_ok-put-2.ensures.front c.put-3.ensures.front)
