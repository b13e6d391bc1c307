use Rattle.std.proofs.Common.{arith}
use Rattle.std.proofs.lemmas.Grind.{common_steps}
use Rattle.syn_lower_types.proofs.Fitting.{qpath_fits-is}
use Rattle.syn_lower_types.proofs.read_back.qpath_is_read_back.Goals as goal

pub returns : goal.returns
returns g c = let e = qpath_fits-is g.T.HasTree.tree c.style.result c.args.qself.now c.args.path.now in grind (arith, common_steps, e)
