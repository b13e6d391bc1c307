use Rattle.exprs.proofs.Lines.{bare_meant}
use Rattle.exprs.proofs.answer.prepare.Goals as goal

pub returns-in_ok-flatten_in_place-clause-tree : goal.returns-in_ok-flatten_in_place-clause-tree
returns-in_ok-flatten_in_place-clause-tree c = bare_meant c.args.bare _ _ c.if-bare.true c.in_ok-flatten_in_place.ensures.tree
