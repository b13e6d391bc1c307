use Rattle.exprs.specs.View.{source_of}
use Rattle.exprs.proofs.Parts.{writes_line, writes_refusal}
use Rattle.exprs.proofs.run.write_part.Goals as goal

pub returns-in_ok-write_line-in-Ok : goal.returns-in_ok-write_line-in-Ok
returns-in_ok-write_line-in-Ok g c =
    writes_line (source_of c.args.settings c.args.source.name.now c.args.source.text.now) c.args.lines c.args.part.now _ _ _ _ _ _ _ _ c.as_str.ensures.value c.in-Ok.ensures.value
    c.in_ok-write_line-in-Ok.ensures c.add.ensures

pub returns-in_ok-write_refusal-in-Err : goal.returns-in_ok-write_refusal-in-Err
returns-in_ok-write_refusal-in-Err g c =
    writes_refusal (source_of c.args.settings c.args.source.name.now c.args.source.text.now) c.args.lines c.args.part.now c.in-Err.e _ _ _ _ c.in-Err.ensures.refused
    c.in_ok-write_refusal-in-Err.ensures
