use Rattle.std.proofs.Common.{true, arith}
use Rattle.std.proofs.lemmas.Grind.{common_steps}
use Rattle.syn_lower_types.proofs.Fitting.{fits-Tuple}
use Rattle.syn_lower_types.proofs.ty.TypeTupleOf.is_read_back.Goals as goal

pub returns-then-types_fit : goal.returns-then-types_fit
returns-then-types_fit g c = grind (arith, common_steps, fits-Tuple g.T.HasTree.tree true c.args.self.now)

pub returns-else-types_fit : goal.returns-else-types_fit
returns-else-types_fit g c = grind (arith, common_steps, fits-Tuple g.T.HasTree.tree true c.args.self.now)
