use Rattle.std.proofs.Common.{sym, ◌∙◌}
use Rattle.syn_lower_types.proofs.Fitting.{fits-TraitObject}
use Rattle.syn_lower_types.proofs.ty.TypeTraitObjectOf.is_read_back.Goals as goal

pub returns : goal.returns
returns g c = c.bounds_fit.ensures ∙ sym (fits-TraitObject g.T.HasTree.tree c.args.several c.args.self.now)
