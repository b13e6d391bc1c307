use Rattle.exprfmt_run.proofs.RunLaws.{written}
use Rattle.exprfmt_run.proofs.run.usage.Goals as goal

pub returns-clause-text : goal.returns-clause-text
returns-clause-text g c = written g.E.FnMut _ _ _ _ c.errors.ensures
