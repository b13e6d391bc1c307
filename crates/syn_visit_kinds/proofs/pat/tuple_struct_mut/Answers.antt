use Rattle.syn_lower_spec.specs.Pat as t
use Rattle.syn_lower.specs.View.{path_of, type_of}
use Rattle.syn_visit_kinds.proofs.Pats.{list_changed}
use Rattle.syn_visit_kinds.proofs.pat.tuple_struct_mut.Goals as goal

pub returns : goal.returns
returns g c = list_changed g.P.HasPatTree.view (t.tuple_struct (path_of type_of c.args.x.now.path)) c.args.x.now.attrs c.args.x.now.elems _ c.punctuated_with_mut.ensures.changed c.punctuated_with_mut.ensures.trails
