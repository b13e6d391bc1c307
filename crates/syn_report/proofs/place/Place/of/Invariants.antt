use Rattle.std.proofs.Common.{◌≡◌, length}
use Rattle.std.specs.Str.Iter.{chars_rest}
use Rattle.syn_report.proofs.Steps.{Reached}
use Rattle.syn_report.proofs.place.Place.of.Given as goal

abbrev pub invariant-loop-c : goal.invariant-loop-c
invariant-loop-c l =
    Reached l.fn.text l.fn.offset l.place.at l.left l.place.line.now l.place.behind.now l.place.count l.place.joined × (l.place.behind.now ≡ chars_rest l.chars)

abbrev pub decreases-loop-c : goal.decreases-loop-c
decreases-loop-c l = length (chars_rest l.chars)
