use Rattle.std.proofs.Common.{◌≡◌, length, take}
use Rattle.syn_tokens.proofs.lexer.widen.Given as goal

abbrev pub invariant-loop-i : goal.invariant-loop-i
invariant-loop-i l = (take l.i l.chars ≡ take l.i l.bytes) × (length l.chars ≡ length l.bytes)
