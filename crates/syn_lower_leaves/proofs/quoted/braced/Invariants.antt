use Rattle.std.proofs.Common.{◌≡◌, ◌+◌, ◌<◌, ◌≤◌, ◌^◌, length}
use Rattle.syn_lower_leaves.specs.Value.{braced}
use Rattle.syn_lower_leaves.proofs.quoted.braced.Given as goal

-- what is left gives what all of it gives, and so many digits are below this power
abbrev pub invariant-digits : goal.invariant-digits
invariant-digits l = (braced l.digits l.found l.n l.rest ≡ braced 0 0 2 l.initial.text) × (l.n + length l.rest ≡ length l.fn.text + 2) × (l.digits ≤ 6) × (l.found < 16 ^ l.digits) × (2 ≤ l.n)

abbrev pub decreases-digits : goal.decreases-digits
decreases-digits l = length l.rest
