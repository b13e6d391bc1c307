use Rattle.std.proofs.Common.{◌≡◌, ◌+◌, length}
use Rattle.syn_lexer.specs.Text.{begins}
use Rattle.syn_lexer.proofs.front.begins.Given as goal

abbrev pub invariant-loop-marks : goal.invariant-loop-marks
invariant-loop-marks l = (begins l.marks l.rest ≡ begins l.mark l.text) × (length l.mark + length l.rest ≡ length l.text + length l.marks)

abbrev pub decreases-loop-marks : goal.decreases-loop-marks
decreases-loop-marks l = length l.marks
