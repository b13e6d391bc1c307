use Rattle.exprfmt_run.proofs.RunLaws.{bare_meant}
use Rattle.exprfmt_run.proofs.run.prepare.Goals as goal

pub returns-in_ok-flatten_in_place-clause-tree : goal.returns-in_ok-flatten_in_place-clause-tree
returns-in_ok-flatten_in_place-clause-tree c = bare_meant c.args.bare _ _ c.if-bare.true c.in_ok-flatten_in_place.ensures.tree
