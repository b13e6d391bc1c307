use Rattle.syn_expr_core.specs.View.{pat_of, tree_of}
use Rattle.syn_expr_flatten.proofs.Calls.{flat_by, pat_by}
use Rattle.syn_visit_kinds.proofs.Elementwise.{each_by}
use Rattle.syn_expr_flatten.proofs.Made.{closure_made}
use Rattle.syn_expr_flatten.proofs.members.closure.Goals as goal

pub returns : goal.returns
returns g c = closure_made c.args.attrs c.args.x.now _ _ _ c.in_ok-put_before.ensures
    (each_by _ _ (pat_by pat_of _ c.requires.pats) _ _ c.in_ok-punctuated_mut.ensures.values) c.in_ok-punctuated_mut.ensures.trails (flat_by tree_of _ c.requires.gives _ _ c.in_ok-boxed_mut.ensures.left)
