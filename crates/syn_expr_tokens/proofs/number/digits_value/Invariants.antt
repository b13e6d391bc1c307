use Rattle.std.proofs.Common.{◌≡◌, ◌≤◌, length}
use Rattle.syn_lower_spec.specs.Pat.{digits_value}
use Rattle.syn_expr_tokens.proofs.number.digits_value.Given as goal

-- what is left gives the value that all the digits give
abbrev pub invariant-digits : goal.invariant-digits
invariant-digits l = (digits_value l.base l.found l.rest ≡ digits_value l.base 0 l.initial.digits) × (l.found ≤ 4294967295)

abbrev pub decreases-digits : goal.decreases-digits
decreases-digits l = length l.rest
