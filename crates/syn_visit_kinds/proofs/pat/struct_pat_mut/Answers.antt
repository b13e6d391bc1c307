use Rattle.std.proofs.Common.{sym, ap, ◌∙◌}
use Rattle.syn_visit_kinds.specs.Changes.{ChangeWith}
use Rattle.syn_visit_kinds.proofs.Changes.{change_known, changed_by}
use Rattle.syn_visit_kinds.proofs.Pats.{OfField, struct_changed}
use Rattle.syn_visit_kinds.proofs.pat.struct_pat_mut.Goals as goal

pub punctuated_mut-requires-clause-inner : goal.punctuated_mut-requires-clause-inner
punctuated_mut-requires-clause-inner g c = λ q has borrowed is. λ p full. c.requires.inner q p has (sym (ap (λ f. f.kind) is) ∙ full)

pub returns : goal.returns
returns g c =
    let view = g.P.HasPatTree.view in
    struct_changed view c.args.x.now.attrs _ _ c.args.x.now.fields _ (changed_by (change_known (OfField (ChangeWith (λ z. z) _ _)) (λ old r new met. record { attrs = met.0; kind = met.1 })) c.punctuated_mut.ensures.changed) c.punctuated_mut.ensures.trails
