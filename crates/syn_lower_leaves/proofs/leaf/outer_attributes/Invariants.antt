use Rattle.std.proofs.Common.{◌≡◌, ◌≤◌, map}
use Rattle.syn_tokens.specs.Tok.{weight}
use Rattle.syn_lower_spec.specs.Form.{more, gathered_more}
use Rattle.syn_lower_spec.specs.Mark.{pound}
use Rattle.syn_lower_spec.specs.Part.{outer_body}
use Rattle.syn_lower_leaves.specs.View.{attribute_of}
use Rattle.syn_lower_leaves.proofs.leaf.outer_attributes.Given as goal

abbrev pub invariant-attributes : goal.invariant-attributes
invariant-attributes l = record {
  value : (more pound outer_body).reads l.fn.input.rest ≡ gathered_more pound outer_body (map attribute_of l.found.items) l.input.rest;
  noted : l.input.noted ≡ l.fn.input.noted;
  shrinks : weight l.input.rest ≤ weight l.fn.input.rest;
}

abbrev pub decreases-attributes : goal.decreases-attributes
decreases-attributes l = weight l.input.rest
