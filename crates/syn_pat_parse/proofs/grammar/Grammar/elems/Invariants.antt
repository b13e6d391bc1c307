use Rattle.std.proofs.Common.{◌≡◌, ◌≤◌, ◌++◌, ◌∷◌, [], cond, map, true, Some}
use Rattle.syn_tokens.specs.Tok.{weight}
use Rattle.syn_tokens.specs.Front.{is_empty}
use Rattle.syn_lower_spec.specs.Form.{listed, gathered, and_then}
use Rattle.syn_lower_spec.specs.Mark.{comma}
use Rattle.syn_lower_spec.specs.Pat.{pattern}
use Rattle.syn_lower_leaves.specs.Punct.{takes_value}
use Rattle.syn_pat.specs.View.{values, trails, guards_in}
use Rattle.syn_pat_parse.proofs.grammar.Grammar.elems.Given as goal

abbrev pub invariant-items : goal.invariant-items
invariant-items g l = record {
  value : (listed comma is_empty (pattern true)).reads l.fn.input.rest ≡ cond (is_empty l.input.rest) (Some ((map (λ x. (g.P.HasPatTree.view x).tree) (values l.found), trails l.found), l.input.rest)) (and_then ((pattern true).reads l.input.rest) (λ x n. gathered comma is_empty (pattern true) (map (λ x. (g.P.HasPatTree.view x).tree) (values l.found) ++ x ∷ []) n));
  unguarded : guards_in g.P.HasPatTree.view (values l.found) ≡ [];
  ready : takes_value l.found ≡ true;
  noted : l.input.noted ≡ l.fn.input.noted;
  shrinks : weight l.input.rest ≤ weight l.fn.input.rest;
}

abbrev pub decreases-items : goal.decreases-items
decreases-items g l = weight l.input.rest
