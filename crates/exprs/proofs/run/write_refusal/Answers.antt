use Rattle.exprs.proofs.Parts.{takes_refusal}
use Rattle.exprs.proofs.run.write_refusal.Goals as goal

pub returns : goal.returns
returns g c = takes_refusal _ c.args.name.now c.args.lines c.args.part.now c.args.e _ _ _ _ c.in_ok-report.ensures c.as_str.ensures.value c.write_report.ensures
