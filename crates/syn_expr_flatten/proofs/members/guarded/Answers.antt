use Rattle.syn_expr_core.specs.View.{pat_of, tree_of}
use Rattle.syn_expr_flatten.proofs.Calls.{flat_by, pat_by}
use Rattle.syn_expr_flatten.proofs.Made.{guard_made}
use Rattle.syn_expr_flatten.proofs.members.guarded.Goals as goal

pub returns : goal.returns
returns g c = guard_made c.args.x.now _ _ (pat_by pat_of _ c.requires.pats _ _ c.in_ok-boxed_mut.ensures.left) (flat_by tree_of _ c.requires.gives _ _ c.in_ok-boxed_mut-2.ensures.left)
