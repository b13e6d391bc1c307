use Rattle.std.proofs.Common.{◌≡◌, ◌+◌, length}
use Rattle.syn_lexer.specs.Quotes.{raw_string_rest}
use Rattle.syn_lexer.proofs.number.raw_string_rest.Given as goal

abbrev pub invariant-characters : goal.invariant-characters
invariant-characters l = (raw_string_rest l.hashes l.n l.text ≡ raw_string_rest l.hashes 0 l.initial.text) × (l.n + length l.text ≡ length l.fn.text)

abbrev pub decreases-characters : goal.decreases-characters
decreases-characters l = length l.text
