use Rattle.std.proofs.Common.{arith}
use Rattle.std.proofs.lemmas.Grind.{common_steps}
use Rattle.syn_lower_types.proofs.Fitting.{fits-AngleBracketed}
use Rattle.syn_lower_types.proofs.fits.angle_fits.Goals as goal

pub returns-then-takes_angle : goal.returns-then-takes_angle
returns-then-takes_angle g c = grind (arith, common_steps, fits-AngleBracketed g.T.HasTree.tree c.args.style c.args.x.now)
