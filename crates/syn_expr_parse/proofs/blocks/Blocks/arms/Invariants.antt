use Rattle.std.proofs.Common.{◌≡◌, ◌≤◌, map}
use Rattle.syn_tokens.specs.Tok.{weight}
use Rattle.syn_expr_spec.specs.Read.{expr, bare_operands}
use Rattle.syn_expr_spec.specs.Slot as slot
use Rattle.syn_expr_parse.specs.Parts.{arms_behind}
use Rattle.syn_expr_parse.proofs.blocks.Blocks.arms.Given as goal

abbrev pub invariant-arms : goal.invariant-arms
invariant-arms g l = record {
  value : bare_operands expr slot.arms l.fn.input.rest ≡ arms_behind (map g.E.Arm.HasArmView.view l.held.value.items) l.input.rest;
  noted : l.input.noted ≡ l.fn.input.noted;
  shrinks : weight l.input.rest ≤ weight l.fn.input.rest;
}

abbrev pub decreases-arms : goal.decreases-arms
decreases-arms g l = weight l.input.rest
