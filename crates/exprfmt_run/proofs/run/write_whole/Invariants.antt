use Rattle.exprfmt_run.proofs.RunLaws.{Written}
use Rattle.exprfmt_run.proofs.run.write_whole.Given as goal

abbrev pub invariant-writes : goal.invariant-writes
invariant-writes g l = Written (g.W.Write.contents l.initial.writer) l.initial.rest l.rest (g.W.Write.contents l.writer)
