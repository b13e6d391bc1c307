use Rattle.std.proofs.Common.{◌≡◌, ◌≤◌, map, true}
use Rattle.syn_tokens.specs.Tok.{weight}
use Rattle.syn_lower_leaves.specs.Punct.{takes_value}
use Rattle.syn_lower_leaves.specs.View.{values}
use Rattle.syn_expr_ast.specs.View.{field_value_of}
use Rattle.syn_expr_parse.specs.Fields.{braced, gathered}
use Rattle.syn_expr_parse.proofs.lists.Lists.fields.Given as goal

abbrev pub invariant-fields : goal.invariant-fields
invariant-fields g l = record {
  value : braced l.fn.input.rest ≡ gathered (map (field_value_of g.E.HasExprTree.tree) (values l.held.value)) l.input.rest;
  ready : takes_value l.held.value ≡ true;
  noted : l.input.noted ≡ l.fn.input.noted;
  shrinks : weight l.input.rest ≤ weight l.fn.input.rest;
}

abbrev pub decreases-fields : goal.decreases-fields
decreases-fields g l = weight l.input.rest
