use Rattle.std.proofs.Common.{true, arith}
use Rattle.std.proofs.lemmas.Grind.{common_steps}
use Rattle.syn_lower_types.proofs.Fitting.{fits-FnPtr}
use Rattle.syn_lower_types.proofs.fits.fn_ptr_fits.Goals as goal

pub returns-then-all_fit : goal.returns-then-all_fit
returns-then-all_fit g c = grind (arith, common_steps, fits-FnPtr g.T.HasTree.tree true c.args.x.now)

pub returns-else-all_fit : goal.returns-else-all_fit
returns-else-all_fit g c = grind (arith, common_steps, fits-FnPtr g.T.HasTree.tree true c.args.x.now)
