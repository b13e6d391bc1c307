use Rattle.std.proofs.Common.{◌≡◌, ◌≤◌}
use Rattle.syn_tokens.specs.Tok.{weight}
use Rattle.syn_expr_parse.specs.Operators.{operations}
use Rattle.syn_expr_parse.proofs.operands.Grammar.climb.Given as goal

abbrev pub invariant-operators : goal.invariant-operators
invariant-operators g l = record {
  value : operations l.place (g.E.HasExprTree.tree l.fn.left.value) l.fn.input.rest ≡ operations l.place (g.E.HasExprTree.tree l.left.value) l.input.rest;
  noted : l.input.noted ≡ l.fn.input.noted;
  shrinks : weight l.input.rest ≤ weight l.fn.input.rest;
}

abbrev pub decreases-operators : goal.decreases-operators
decreases-operators g l = weight l.input.rest
