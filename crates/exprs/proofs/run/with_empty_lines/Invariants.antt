use Rattle.std.proofs.Common.{length, string_bytes}
use denote.Shadow.{shadow}
use denote.Text.{Utf8}
use Rattle.exprs.proofs.Parts.{EmptiedUpTo}
use Rattle.exprs.proofs.run.with_empty_lines.Given as goal

abbrev pub invariant-lines : goal.invariant-lines
invariant-lines l = shadow (Utf8 l.rest) × EmptiedUpTo l.fn.text l.rest (string_bytes l.emptied)

abbrev pub decreases-lines : goal.decreases-lines
decreases-lines l = length l.rest
