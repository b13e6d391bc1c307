use Rattle.exprs.proofs.Parts.{first_cut}
use Rattle.exprs.proofs.run.first_part.Goals as goal

pub returns : goal.returns
returns c = first_cut c.args.separator.now c.args.text.now _ c.split_once.ensures.cases
