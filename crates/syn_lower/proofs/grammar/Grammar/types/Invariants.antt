use Rattle.std.proofs.Common.{◌≡◌, ◌≤◌, ◌++◌, ◌∷◌, [], cond, map, true, Some}
use Rattle.syn_tokens.specs.Tok.{weight}
use Rattle.syn_tokens.specs.Front.{is_empty}
use Rattle.syn_lower_spec.specs.Form.{listed, gathered, and_then}
use Rattle.syn_lower_spec.specs.Mark.{comma}
use Rattle.syn_lower_spec.specs.Part.{type}
use Rattle.syn_lower_types.specs.View.{values, trails}
use Rattle.syn_lower_leaves.specs.Punct.{takes_value}
use Rattle.syn_lower.proofs.grammar.Grammar.types.Given as goal

abbrev pub invariant-items : goal.invariant-items
invariant-items g l = record {
  value : (listed comma is_empty (type true)).reads l.fn.input.rest ≡ cond (is_empty l.input.rest) (Some ((map g.T.HasTree.tree (values l.found), trails l.found), l.input.rest)) (and_then ((type true).reads l.input.rest) (λ x n. gathered comma is_empty (type true) (map g.T.HasTree.tree (values l.found) ++ x ∷ []) n));
  ready : takes_value l.found ≡ true;
  noted : l.input.noted ≡ l.fn.input.noted;
  shrinks : weight l.input.rest ≤ weight l.fn.input.rest;
}

abbrev pub decreases-items : goal.decreases-items
decreases-items g l = weight l.input.rest
