use Rattle.std.proofs.Common.{◌≡◌, ◌≤◌, ◌++◌, ◌∷◌, [], cond, map, true, Some}
use Rattle.syn_tokens.specs.Tok.{weight}
use Rattle.syn_tokens.specs.Front.{is_empty}
use Rattle.syn_lower_spec.specs.Form.{listed, gathered, and_then}
use Rattle.syn_lower_spec.specs.Mark.{comma}
use Rattle.syn_lower_spec.specs.Part.{type, fn_arg}
use Rattle.syn_lower_types.specs.View.{arg_of, values, trails}
use Rattle.syn_lower_leaves.specs.Punct.{takes_value}
use Rattle.syn_lower.proofs.grammar.Grammar.fn_args.Given as goal

abbrev pub invariant-items : goal.invariant-items
invariant-items g l = record {
  value : (listed comma is_empty (fn_arg type)).reads l.fn.input.rest ≡ cond (is_empty l.input.rest) (Some ((map (arg_of g.T.HasTree.tree) (values l.found), trails l.found), l.input.rest)) (and_then ((fn_arg type).reads l.input.rest) (λ x n. gathered comma is_empty (fn_arg type) (map (arg_of g.T.HasTree.tree) (values l.found) ++ x ∷ []) n));
  ready : takes_value l.found ≡ true;
  noted : l.input.noted ≡ l.fn.input.noted;
  shrinks : weight l.input.rest ≤ weight l.fn.input.rest;
}

abbrev pub decreases-items : goal.decreases-items
decreases-items g l = weight l.input.rest
