use Rattle.std.proofs.Common.{◌≡◌, ◌≤◌, ◌++◌, ◌∷◌, [], cond, map, true, Some}
use Rattle.syn_tokens.specs.Tok.{weight}
use Rattle.syn_lower_spec.specs.Form.{listed, gathered, and_then}
use Rattle.syn_lower_spec.specs.Mark.{comma, gt}
use Rattle.syn_lower_spec.specs.Part.{type, generic}
use Rattle.syn_lower_types.specs.View.{generic_of, values, trails}
use Rattle.syn_lower_leaves.specs.Punct.{takes_value}
use Rattle.syn_lower.proofs.grammar.Grammar.generics.Given as goal

abbrev pub invariant-items : goal.invariant-items
invariant-items g l = record {
  value : (listed comma gt.at (generic type)).reads l.fn.input.rest ≡ cond (gt.at l.input.rest) (Some ((map (generic_of g.T.HasTree.tree) (values l.found), trails l.found), l.input.rest)) (and_then ((generic type).reads l.input.rest) (λ x n. gathered comma gt.at (generic type) (map (generic_of g.T.HasTree.tree) (values l.found) ++ x ∷ []) n));
  ready : takes_value l.found ≡ true;
  noted : l.input.noted ≡ l.fn.input.noted;
  shrinks : weight l.input.rest ≤ weight l.fn.input.rest;
}

abbrev pub decreases-items : goal.decreases-items
decreases-items g l = weight l.input.rest
