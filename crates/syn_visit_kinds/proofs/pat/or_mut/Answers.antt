use Rattle.std.proofs.Common.{is_some}
use Rattle.syn_lower_spec.specs.Pat as t
use Rattle.syn_visit_kinds.proofs.Pats.{list_changed}
use Rattle.syn_visit_kinds.proofs.pat.or_mut.Goals as goal

pub returns : goal.returns
returns g c = list_changed g.P.HasPatTree.view (t.alternatives (is_some c.args.x.now.leading_vert)) c.args.x.now.attrs c.args.x.now.cases _ c.punctuated_with_mut.ensures.changed c.punctuated_with_mut.ensures.trails
