use Rattle.exprs.proofs.Files.{writes_file}
use Rattle.exprs.proofs.run.write_file.Goals as goal

pub returns-in-Ok : goal.returns-in-Ok
returns-in-Ok g c = writes_file _ _ _ _ _ _ c.in-Ok.ensures.cases.1 c.in-Ok.ensures.cases.0 c.write_source.ensures
