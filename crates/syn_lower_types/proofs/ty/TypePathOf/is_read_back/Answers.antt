use Rattle.std.proofs.Common.{true, sym, ◌∙◌}
use Rattle.syn_lower_types.proofs.Fitting.{fits-Path}
use Rattle.syn_lower_types.proofs.ty.TypePathOf.is_read_back.Goals as goal

pub returns : goal.returns
returns g c = c.qpath_fits.ensures ∙ sym (fits-Path g.T.HasTree.tree true c.args.self.now)
