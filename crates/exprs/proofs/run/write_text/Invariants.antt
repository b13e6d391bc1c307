use Rattle.std.proofs.Common.{length}
use denote.Shadow.{shadow}
use denote.Text.{Utf8}
use Rattle.exprs.specs.Answers.{writer, room}
use Rattle.exprs.specs.View.{source_of}
use Rattle.exprs.proofs.Parts.{WroteUpTo}
use Rattle.exprs.proofs.run.write_text.Given as goal

abbrev pub invariant-parts : goal.invariant-parts
invariant-parts g l =
    shadow (Utf8 l.rest)
    × WroteUpTo (source_of l.fn.settings l.fn.source.name.now l.fn.source.text.now) l.rest l.lines l.all
    (room (writer (g.W.Write.contents l.initial.output) (g.W.Write.contents l.output)) (writer (g.E.Write.contents l.initial.errors) (g.E.Write.contents l.errors))
    l.initial.counts.of l.counts.of)

abbrev pub decreases-parts : goal.decreases-parts
decreases-parts g l = length l.rest
