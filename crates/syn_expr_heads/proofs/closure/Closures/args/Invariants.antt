use Rattle.std.proofs.Common.{◌≡◌, ◌≤◌, ◌++◌, ◌∷◌, [], cond, map, true, Some}
use Rattle.syn_tokens.specs.Tok.{weight}
use Rattle.syn_lower_spec.specs.Form.{listed, gathered, and_then}
use Rattle.syn_lower_spec.specs.Mark.{comma}
use Rattle.syn_lower_spec.specs.Pat.{closure_arg}
use Rattle.syn_expr_spec.specs.Head.{bar}
use Rattle.syn_lower_types.specs.View.{values, trails}
use Rattle.syn_lower_leaves.specs.Punct.{takes_value}
use Rattle.syn_pat.specs.View.{guards_in}
use Rattle.syn_expr_heads.proofs.closure.Closures.args.Given as goal

abbrev pub invariant-items : goal.invariant-items
invariant-items g l = record {
  value : (listed comma bar.at closure_arg).reads l.fn.input.rest ≡ cond (bar.at l.input.rest) (Some ((map (λ x. (g.P.HasPatTree.view x).tree) (values l.found), trails l.found), l.input.rest)) (and_then (closure_arg.reads l.input.rest) (λ x n. gathered comma bar.at closure_arg (map (λ x. (g.P.HasPatTree.view x).tree) (values l.found) ++ x ∷ []) n));
  ready : takes_value l.found ≡ true;
  bare : guards_in g.P.HasPatTree.view (values l.found) ≡ [];
  noted : l.input.noted ≡ l.fn.input.noted;
  shrinks : weight l.input.rest ≤ weight l.fn.input.rest;
}

abbrev pub decreases-items : goal.decreases-items
decreases-items g l = weight l.input.rest
