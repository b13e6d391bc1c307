use Rattle.std.proofs.Common.{◌≡◌, ◌≤◌, map}
use Rattle.syn_tokens.specs.Tok.{weight}
use Rattle.syn_lower_spec.specs.Form.{more, gathered_more}
use Rattle.syn_lower_spec.specs.Part.{pound_bang, inner_body}
use Rattle.syn_lower_leaves.specs.View.{attribute_of}
use Rattle.syn_lower_leaves.proofs.leaf.inner_attributes.Given as goal

abbrev pub invariant-attributes : goal.invariant-attributes
invariant-attributes l = record {
  value : (more pound_bang inner_body).reads l.fn.input.rest ≡ gathered_more pound_bang inner_body (map attribute_of l.found.items) l.input.rest;
  noted : l.input.noted ≡ l.fn.input.noted;
  shrinks : weight l.input.rest ≤ weight l.fn.input.rest;
}

abbrev pub decreases-attributes : goal.decreases-attributes
decreases-attributes l = weight l.input.rest
