use Rattle.std.proofs.Common.{◌≡◌, ◌≤◌, ◌++◌, ◌∷◌, [], map, true}
use Rattle.syn_tokens.specs.Tok.{weight}
use Rattle.syn_lower_spec.specs.Form.{joined, gathered_more, and_then}
use Rattle.syn_lower_spec.specs.Mark.{plus}
use Rattle.syn_lower_spec.specs.Part.{type, bound}
use Rattle.syn_lower_types.specs.View.{bound_of, values}
use Rattle.syn_lower_leaves.specs.Punct.{takes_value}
use Rattle.syn_lower.proofs.grammar.Grammar.joined_bounds.Given as goal

abbrev pub invariant-items : goal.invariant-items
invariant-items g l = record {
  value : (joined plus (bound type)).reads l.fn.input.rest ≡ and_then ((bound type).reads l.input.rest) (λ x n. gathered_more plus (bound type) (map (bound_of g.T.HasTree.tree) (values l.found) ++ x ∷ []) n);
  ready : takes_value l.found ≡ true;
  noted : l.input.noted ≡ l.fn.input.noted;
  shrinks : weight l.input.rest ≤ weight l.fn.input.rest;
}

abbrev pub decreases-items : goal.decreases-items
decreases-items g l = weight l.input.rest
