use Rattle.syn_lower_spec.specs.Pat as t
use Rattle.syn_lower.specs.View.{type_of}
use Rattle.syn_visit_kinds.proofs.Pats.{one_changed}
use Rattle.syn_visit_kinds.proofs.pat.typed_mut.Goals as goal

pub returns : goal.returns
returns g c = one_changed g.P.HasPatTree.view (λ p. t.typed p (type_of c.args.x.now.ty.value)) c.args.x.now.attrs _ c.boxed_with_mut.ensures.changed
