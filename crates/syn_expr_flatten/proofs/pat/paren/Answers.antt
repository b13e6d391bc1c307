use Rattle.syn_lower_spec.specs.Pat as t
use Rattle.syn_expr_flatten.proofs.Calls.{pat_by}
use Rattle.syn_expr_flatten.proofs.Pats.{one_flat}
use Rattle.syn_expr_flatten.proofs.pat.paren.Goals as goal

pub returns : goal.returns
returns g c = one_flat t.a_paren c.args.x.now.attrs _ _ (pat_by g.P.HasPatTree.view _ c.requires.gives _ _ c.in_ok-boxed_mut.ensures.left)
