use Rattle.std.proofs.Common.{◌≡◌, ◌≤◌, ◌++◌, ◌∷◌, [], map, true}
use Rattle.syn_tokens.specs.Tok.{weight}
use Rattle.syn_lower_spec.specs.Form.{joined, gathered_more, and_then}
use Rattle.syn_lower_spec.specs.Pat.{pattern, single, vert}
use Rattle.syn_lower_leaves.specs.Punct.{takes_value}
use Rattle.syn_pat.specs.View.{values, guards_in}
use Rattle.syn_pat_parse.proofs.grammar.Grammar.cases.Given as goal

abbrev pub invariant-items : goal.invariant-items
invariant-items g l = record {
  value : (joined vert (single pattern)).reads l.fn.input.rest ≡ and_then ((single pattern).reads l.input.rest) (λ x n. gathered_more vert (single pattern) (map (λ y. (g.P.HasPatTree.view y).tree) (values l.found) ++ x ∷ []) n);
  unguarded : guards_in g.P.HasPatTree.view (values l.found) ≡ [];
  ready : takes_value l.found ≡ true;
  noted : l.input.noted ≡ l.fn.input.noted;
  shrinks : weight l.input.rest ≤ weight l.fn.input.rest;
}

abbrev pub decreases-items : goal.decreases-items
decreases-items g l = weight l.input.rest
