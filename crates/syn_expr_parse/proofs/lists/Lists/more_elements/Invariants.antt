use Rattle.std.proofs.Common.{◌≡◌, ◌≤◌, map, true}
use Rattle.syn_tokens.specs.Tok.{weight}
use Rattle.syn_lower_leaves.specs.Punct.{takes_value}
use Rattle.syn_lower_leaves.specs.View.{values}
use Rattle.syn_expr_parse.specs.Elements.{gathered}
use Rattle.syn_expr_parse.proofs.lists.Lists.more_elements.Given as goal

abbrev pub invariant-elements : goal.invariant-elements
invariant-elements g l = record {
  value : gathered (map g.E.HasExprTree.tree (values l.fn.found)) l.fn.input.rest ≡ gathered (map g.E.HasExprTree.tree (values l.held.value)) l.input.rest;
  ready : takes_value l.held.value ≡ true;
  noted : l.input.noted ≡ l.fn.input.noted;
  shrinks : weight l.input.rest ≤ weight l.fn.input.rest;
}

abbrev pub decreases-elements : goal.decreases-elements
decreases-elements g l = weight l.input.rest
