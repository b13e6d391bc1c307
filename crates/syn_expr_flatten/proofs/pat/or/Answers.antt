use Rattle.std.proofs.Common.{is_some}
use Rattle.syn_lower_spec.specs.Pat as t
use Rattle.syn_expr_flatten.proofs.Calls.{pat_by}
use Rattle.syn_visit_kinds.proofs.Elementwise.{each_by}
use Rattle.syn_expr_flatten.proofs.Pats.{list_flat}
use Rattle.syn_expr_flatten.proofs.pat.or.Goals as goal

pub returns : goal.returns
returns g c = list_flat (t.alternatives (is_some c.args.x.now.leading_vert)) c.args.x.now.attrs g.P.HasPatTree.view _ _ (each_by _ _ (pat_by g.P.HasPatTree.view _ c.requires.gives) _ _ c.in_ok-punctuated_mut.ensures.values) c.in_ok-punctuated_mut.ensures.trails
