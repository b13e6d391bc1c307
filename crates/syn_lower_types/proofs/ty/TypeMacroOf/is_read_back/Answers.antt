use Rattle.std.proofs.Common.{true, sym, ◌∙◌}
use Rattle.syn_lower_types.proofs.Fitting.{fits-macro}
use Rattle.syn_lower_types.proofs.ty.TypeMacroOf.is_read_back.Goals as goal

pub returns : goal.returns
returns g c = c.is_read_back.ensures ∙ sym (fits-macro g.T.HasTree.tree true c.args.self.now)
