use Rattle.std.proofs.Common.{rules, ◌≡◌, ◌-◌, length, Some, None, sym, ap, ◌∙◌, arith}
use Rattle.std.proofs.lemmas.List.{length-take-le}
use Rattle.syn_expr_tokens.specs.View.{un_kind}
use Rattle.syn_tokens.specs.View.{tok_of}
use Rattle.syn_expr_parse.specs.Operators.{trailers, operator_of}
use Rattle.syn_expr_parse.proofs.Operators.{wraps_none, wraps_read}
use Rattle.syn_expr_parse.proofs.operands.Grammar.wrapped.Goals as goal

-- the last of them is wrapped
pub operators-preserved-in_ok-x-2 : goal.operators-preserved-in_ok-x-2
operators-preserved-in_ok-x-2 g c =
    let see = g.E.HasExprTree.tree in
    let xs = c.operators.operators.now in
    let l = c.operators.input.rest in
    let k = un_kind c.in-Some.op in
    let h : operator_of (tok_of c.last-item.result) ≡ Some k = sym c.in-Some.ensures in
    let r = ap (λ t. trailers c.args.place t l) (sym c.in_ok-x.ensures) ∙ c.in_ok-x-2.ensures.value in
    let n = length-take-le (length xs - 1) xs (omega arith) in
    record {
      value = c.operators.invariant.value ∙ wraps_read c.args.place xs c.last-item.result (see c.operators.x.value) (see c.in_ok-x-2.x.value) l c.trail.new.input.rest k c.in-len1-up.len_at_least c.last-item.is h r;
      noted = search rules;
      shrinks = search rules;
      within = omega (arith, n, c.operators.invariant.within);
    }

-- what is no operator is left out
pub operators-preserved : goal.operators-preserved
operators-preserved g c =
    let see = g.E.HasExprTree.tree in
    let xs = c.operators.operators.now in
    let h : operator_of (tok_of c.last-item.result) ≡ None = sym c.in_default-operator.ensures in
    let n = length-take-le (length xs - 1) xs (omega arith) in
    record {
      value = c.operators.invariant.value ∙ wraps_none c.args.place xs c.last-item.result (see c.operators.x.value) c.operators.input.rest c.in-len1-up.len_at_least c.last-item.is h;
      noted = search rules;
      shrinks = search rules;
      within = omega (arith, n, c.operators.invariant.within);
    }
