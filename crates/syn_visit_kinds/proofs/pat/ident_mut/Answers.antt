use Rattle.std.proofs.Common.{is_some}
use Rattle.syn_lower_spec.specs.Pat as t
use Rattle.syn_visit_kinds.proofs.Pats.{sub_changed}
use Rattle.syn_visit_kinds.proofs.pat.ident_mut.Goals as goal

pub returns : goal.returns
returns g c = sub_changed g.P.HasPatTree.view (t.a_binding (is_some c.args.x.now.by_ref) (is_some c.args.x.now.mutability) c.args.x.now.ident) c.args.x.now.attrs c.args.x.now.subpat _ c.sub_pattern_mut.ensures
