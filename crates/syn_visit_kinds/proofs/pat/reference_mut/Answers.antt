use Rattle.std.proofs.Common.{is_some}
use Rattle.syn_lower_spec.specs.Pat as t
use Rattle.syn_visit_kinds.proofs.Pats.{one_changed}
use Rattle.syn_visit_kinds.proofs.pat.reference_mut.Goals as goal

pub returns : goal.returns
returns g c = one_changed g.P.HasPatTree.view (t.a_reference (is_some c.args.x.now.mutability)) c.args.x.now.attrs _ c.boxed_with_mut.ensures.changed
