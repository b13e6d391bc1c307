use Rattle.std.proofs.Common.{◌≡◌, drop, Some, sym, ap, ◌∙◌}
use Rattle.syn_tokens.specs.Input.{Input}
use Rattle.syn_expr_parse.specs.Led as led
use Rattle.syn_expr_tokens.specs.View.{un_kind}
use Rattle.syn_expr_spec.specs.Tree as e
use Rattle.syn_expr_spec.specs.Read as read
use Rattle.syn_expr_parse.specs.Operators.{operator_at}
use Rattle.syn_expr_parse.proofs.Operators.{prefix_first}
use Rattle.syn_expr_parse.proofs.operands.Grammar.atom.Goals as goal

-- after the operator that was taken
pub returns-in-Some-first_operator-clause-value : goal.returns-in-Some-first_operator-clause-value
returns-in-Some-first_operator-clause-value g c =
    let k = un_kind c.in-Some-first_operator.op in
    let l = c.args.input.now.rest in
    let h : operator_at l ≡ Some k = sym c.in-Some-first_operator.ensures.value in
    let r : c.skip.new.self.rest ≡ drop 1 l = ap (λ (i : Input). i.rest) c.skip.ensures.value in
    let a : read.atom read.expr c.args.place l ≡ led.behind c.args.place (e.unary k) c.skip.new.self.rest = prefix_first c.args.place l k h ∙ ap (led.behind c.args.place (e.unary k)) (sym r) in
    rw a c.prefixed.ensures.value
