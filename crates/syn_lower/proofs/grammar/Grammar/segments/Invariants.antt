use Rattle.std.proofs.Common.{◌≡◌, ◌≤◌, ◌++◌, ◌∷◌, [], map, true}
use Rattle.syn_tokens.specs.Tok.{weight}
use Rattle.syn_lower_spec.specs.Form.{joined, extend_more, gathered_more, and_then}
use Rattle.syn_lower_spec.specs.Mark.{colon2}
use Rattle.syn_lower_spec.specs.Part.{type, segment}
use Rattle.syn_lower_types.specs.View.{segment_of, values}
use Rattle.syn_lower_leaves.specs.Punct.{takes_value}
use Rattle.syn_lower.proofs.grammar.Grammar.segments.Given as goal

abbrev pub invariant-items : goal.invariant-items
invariant-items g l = record {
  value : extend_more (map (segment_of g.T.HasTree.tree) (values l.fn.found)) ((joined colon2 (segment type l.fn.style)).reads l.fn.input.rest) ≡ and_then ((segment type l.fn.style).reads l.input.rest) (λ x n. gathered_more colon2 (segment type l.fn.style) (map (segment_of g.T.HasTree.tree) (values l.found) ++ x ∷ []) n);
  ready : takes_value l.found ≡ true;
  noted : l.input.noted ≡ l.fn.input.noted;
  shrinks : weight l.input.rest ≤ weight l.fn.input.rest;
}

abbrev pub decreases-items : goal.decreases-items
decreases-items g l = weight l.input.rest
