use Rattle.std.proofs.Common.{◌≡◌, ◌≤◌}
use Rattle.syn_tokens.specs.Tok.{weight}
use Rattle.syn_expr_parse.specs.Operators.{trailers}
use Rattle.syn_expr_parse.proofs.operands.Grammar.trail.Given as goal

abbrev pub invariant-trailers : goal.invariant-trailers
invariant-trailers g l = record {
  value : trailers l.place (g.E.HasExprTree.tree l.fn.base.value) l.fn.input.rest ≡ trailers l.place (g.E.HasExprTree.tree l.base.value) l.input.rest;
  noted : l.input.noted ≡ l.fn.input.noted;
  shrinks : weight l.input.rest ≤ weight l.fn.input.rest;
}

abbrev pub decreases-trailers : goal.decreases-trailers
decreases-trailers g l = weight l.input.rest
