use Rattle.syn_expr_core.specs.View.{tree_of}
use Rattle.syn_expr_flatten.proofs.Calls.{flat_by}
use Rattle.syn_expr_flatten.proofs.Made.{arm_made}
use Rattle.syn_expr_flatten.proofs.members.arm.Goals as goal

pub returns : goal.returns
returns g c = arm_made c.args.one.now _ _ (c.requires.pats _ _ _ c.in_ok-pattern.ensures) (flat_by tree_of _ c.requires.gives _ _ c.in_ok-boxed_mut.ensures.left)
