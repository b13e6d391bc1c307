use Rattle.syn_lower_spec.specs.Pat as t
use Rattle.syn_visit_kinds.proofs.Pats.{one_changed}
use Rattle.syn_visit_kinds.proofs.pat.paren_mut.Goals as goal

pub returns : goal.returns
returns g c = one_changed g.P.HasPatTree.view t.a_paren c.args.x.now.attrs _ c.boxed_with_mut.ensures.changed
