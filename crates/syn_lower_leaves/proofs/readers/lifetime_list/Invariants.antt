use Rattle.std.proofs.Common.{◌≡◌, ◌≤◌, map, false}
use Rattle.syn_tokens.specs.Tok.{weight}
use Rattle.syn_lower_spec.specs.Form.{listed, gathered}
use Rattle.syn_lower_spec.specs.Mark.{comma, gt}
use Rattle.syn_lower_spec.specs.Part.{lifetime}
use Rattle.syn_lower_leaves.specs.View.{lifetime_of, values, trails}
use Rattle.syn_lower_leaves.specs.Punct.{takes_value}
use Rattle.syn_lower_leaves.proofs.readers.lifetime_list.Given as goal

abbrev pub invariant-items : goal.invariant-items
invariant-items l = record {
  value : (listed comma gt.at lifetime).reads l.fn.input.rest ≡ gathered comma gt.at lifetime (map lifetime_of (values l.found)) l.input.rest;
  trails : trails l.found ≡ false;
  ready : takes_value l.found ≡ false;
  noted : l.input.noted ≡ l.fn.input.noted;
  shrinks : weight l.input.rest ≤ weight l.fn.input.rest;
}

abbrev pub decreases-items : goal.decreases-items
decreases-items l = weight l.input.rest
