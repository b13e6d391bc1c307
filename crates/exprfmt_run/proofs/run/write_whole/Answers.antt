use Rattle.std.proofs.lemmas.List.{take_rest}
use Rattle.exprfmt_run.proofs.RunLaws.{more_written, written_kept}
use Rattle.exprfmt_run.proofs.run.write_whole.Goals.{in-Ok, in-Err+else-ne}
use Rattle.exprfmt_run.proofs.run.write_whole.Goals as goal

pub writes-preserved : goal.writes-preserved
writes-preserved g c =
    let held = g.W.Write.contents in
    let old = held c.args.writer.now in
    let infixed = held c.writes.writer in
    let new = held c.write.new.self in
    let rest = c.writes.rest.now in
    let text = c.args.text.now in
    elim c.match-write.branch [
      | in-Ok w ↦ rw (w.rest-is, take_rest rest w.in-Ok.n) (more_written old infixed new text rest w.in-Ok.n c.writes.invariant w.in-Ok.ensures.bytes)
      | in-Err+else-ne w ↦ rw w.rest-is (written_kept old infixed new text rest c.writes.invariant w.in-Err.ensures.bytes)
    ]
