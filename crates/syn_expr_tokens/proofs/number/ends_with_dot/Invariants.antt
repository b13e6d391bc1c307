use Rattle.std.proofs.Common.{◌≡◌, length}
use denote.Shadow.{shadow}
use denote.Text.{Utf8}
use Rattle.syn_expr_spec.specs.Stands.{steps_of}
use Rattle.syn_expr_tokens.specs.Cut.{cut, end_of}
use Rattle.syn_expr_tokens.proofs.number.ends_with_dot.Given as goal

-- what is left ends as the whole text does
abbrev pub invariant-parts : goal.invariant-parts
invariant-parts l = (end_of (steps_of (cut l.text)) ≡ end_of (steps_of (cut l.rest))) × shadow (Utf8 l.rest)

abbrev pub decreases-parts : goal.decreases-parts
decreases-parts l = length l.rest
