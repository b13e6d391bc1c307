use Rattle.std.proofs.Common.{◌≡◌, length}
use denote.Shadow.{shadow}
use denote.Text.{Utf8}
use Rattle.syn_expr_tokens.specs.Cut.{cut, refusal_of}
use Rattle.syn_expr_tokens.proofs.number.float_refusal.Given as goal

-- what is left is refused as the whole text is
abbrev pub invariant-parts : goal.invariant-parts
invariant-parts l = (refusal_of (cut l.text) ≡ refusal_of (cut l.rest)) × shadow (Utf8 l.rest)

abbrev pub decreases-parts : goal.decreases-parts
decreases-parts l = length l.rest
