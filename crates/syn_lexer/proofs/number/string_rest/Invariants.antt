use Rattle.std.proofs.Common.{◌≡◌, ◌+◌, length, false}
use Rattle.syn_lexer.specs.Quotes.{string_rest}
use Rattle.syn_lexer.proofs.number.string_rest.Given as goal

abbrev pub invariant-characters : goal.invariant-characters
invariant-characters l = (string_rest l.is_escaped l.n l.text ≡ string_rest false 0 l.initial.text) × (l.n + length l.text ≡ length l.fn.text)

abbrev pub decreases-characters : goal.decreases-characters
decreases-characters l = length l.text
