use Rattle.std.proofs.Common.{◌≡◌, ◌≤◌, length}
use Rattle.syn_tokens.specs.Tok.{weight}
use Rattle.syn_tokens.specs.View.{toks_of}
use Rattle.syn_expr_parse.specs.Operators.{wrapped}
use Rattle.syn_expr_parse.proofs.operands.Grammar.wrapped.Given as goal

abbrev pub invariant-operators : goal.invariant-operators
invariant-operators g l = record {
  value : wrapped l.place (toks_of l.fn.operators) (g.E.HasExprTree.tree l.fn.x.value) l.fn.input.rest ≡ wrapped l.place (toks_of l.operators) (g.E.HasExprTree.tree l.x.value) l.input.rest;
  noted : l.input.noted ≡ l.fn.input.noted;
  shrinks : weight l.input.rest ≤ weight l.fn.input.rest;
  within : length l.operators ≤ length l.fn.operators;
}

abbrev pub decreases-operators : goal.decreases-operators
decreases-operators g l = length l.operators
