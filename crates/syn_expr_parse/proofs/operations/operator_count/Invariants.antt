use Rattle.std.proofs.Common.{◌≡◌, ◌+◌, true, length, take, drop}
use Rattle.syn_tokens.specs.View.{toks_of}
use Rattle.syn_expr_parse.specs.Operators.{are_operators}
use Rattle.syn_expr_parse.proofs.operations.operator_count.Given as goal

abbrev pub invariant-operators : goal.invariant-operators
invariant-operators l = record {
  all : are_operators (take l.count (toks_of l.fn.trees)) ≡ true;
  rest : drop l.count (toks_of l.fn.trees) ≡ toks_of l.rest;
  counted : l.count + length l.rest ≡ length l.fn.trees;
}

abbrev pub decreases-operators : goal.decreases-operators
decreases-operators l = length l.rest
