use Rattle.std.proofs.Common.{rules, ◌≡◌, ◌-◌, true, length, take, drop, sym, ap, ◌∙◌, arith}
use Rattle.std.specs.Prelude.{is_some}
use Rattle.std.proofs.lemmas.List.{length-drop, take_rest}
use Rattle.syn_expr_parse.specs.Operators.{operator_of}
use Rattle.syn_expr_parse.proofs.Operators.{first_counted, behind_first}
use Rattle.syn_tokens.specs.View.{tok_of, toks_of}
use Rattle.syn_expr_parse.proofs.operations.operator_count.Goals as goal

pub operators-preserved : goal.operators-preserved
operators-preserved c =
    let l = toks_of c.args.trees.now in
    let r = c.operators.rest.now in
    let t : is_some (operator_of (tok_of c.first-item.result)) ≡ true = search rules in
    let n : length (take (length r - 1) (drop 1 r)) ≡ length r - 1 = ap length (take_rest r 1) ∙ length-drop 1 r in
    record {
      all = first_counted c.operators.count l r c.first-item.result c.in-len1-up.len_at_least c.first-item.is c.operators.invariant.rest c.operators.invariant.all t;
      rest = behind_first c.operators.count l r c.operators.invariant.rest ∙ ap toks_of (sym (take_rest r 1));
      counted = omega (arith, n, c.operators.invariant.counted, c.in-len1-up.len_at_least);
    }
