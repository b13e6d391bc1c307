use Rattle.std.proofs.Common.{◌≡◌, length}
use denote.Shadow.{shadow}
use denote.Text.{Utf8}
use Rattle.syn_lower_leaves.specs.Value.{past_digits}
use Rattle.syn_lower_leaves.proofs.number.past_digits.Given as goal

abbrev pub invariant-digits : goal.invariant-digits
invariant-digits l = (past_digits l.base l.text ≡ past_digits l.base l.initial.text) × shadow (Utf8 l.text)

abbrev pub decreases-digits : goal.decreases-digits
decreases-digits l = length l.text
