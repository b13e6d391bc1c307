use Rattle.std.proofs.Common.{◌≡◌, ◌+◌, length, encode_utf8_all}
use Rattle.syn_tokens.proofs.lexer.past.Given as goal

abbrev pub invariant-loop-rest : goal.invariant-loop-rest
invariant-loop-rest l = l.end + length (encode_utf8_all l.rest) ≡ l.at + length (encode_utf8_all l.z)

abbrev pub decreases-loop-rest : goal.decreases-loop-rest
decreases-loop-rest l = length l.rest
