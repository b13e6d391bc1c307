use Rattle.std.proofs.Common.{◌≡◌, ◌≤◌, ◌++◌, ◌∷◌, [], cond, map, true, Some}
use Rattle.std.specs.Prelude.{flat_map}
use Rattle.syn_tokens.specs.Tok.{weight}
use Rattle.syn_lower_spec.specs.Form.{listed, gathered, and_then}
use Rattle.syn_lower_spec.specs.Mark.{comma}
use Rattle.syn_lower_spec.specs.Pat.{pattern, field, fields_stop}
use Rattle.syn_lower_leaves.specs.Punct.{takes_value}
use Rattle.syn_pat.specs.View.{values, trails, field_pat_of, field_guards}
use Rattle.syn_pat_parse.proofs.grammar.Grammar.fields.Given as goal

abbrev pub invariant-items : goal.invariant-items
invariant-items g l = record {
  value : (listed comma fields_stop (field pattern)).reads l.fn.input.rest ≡ cond (fields_stop l.input.rest) (Some ((map (field_pat_of g.P.HasPatTree.view) (values l.found), trails l.found), l.input.rest)) (and_then ((field pattern).reads l.input.rest) (λ x n. gathered comma fields_stop (field pattern) (map (field_pat_of g.P.HasPatTree.view) (values l.found) ++ x ∷ []) n));
  unguarded : flat_map (λ y. field_guards g.P.HasPatTree.view y.kind) (values l.found) ≡ [];
  ready : takes_value l.found ≡ true;
  noted : l.input.noted ≡ l.fn.input.noted;
  shrinks : weight l.input.rest ≤ weight l.fn.input.rest;
}

abbrev pub decreases-items : goal.decreases-items
decreases-items g l = weight l.input.rest
