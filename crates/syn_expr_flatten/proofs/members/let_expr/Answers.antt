use Rattle.syn_expr_core.specs.View.{pat_of, tree_of}
use Rattle.syn_expr_flatten.proofs.Calls.{flat_by, pat_by}
use Rattle.syn_expr_flatten.proofs.Made.{let_made}
use Rattle.syn_expr_flatten.proofs.members.let_expr.Goals as goal

pub returns : goal.returns
returns g c = let_made c.args.attrs c.args.x.now _ _ _ c.in_ok-put_before.ensures
    (pat_by pat_of _ c.requires.pats _ _ c.in_ok-boxed_mut.ensures.left) (flat_by tree_of _ c.requires.gives _ _ c.in_ok-boxed_mut-2.ensures.left)
