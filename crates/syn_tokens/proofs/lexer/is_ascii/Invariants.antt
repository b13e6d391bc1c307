use Rattle.std.proofs.Common.{◌<◌, take}
use Rattle.std.specs.Str.{IsAscii}
use Rattle.syn_tokens.proofs.lexer.is_ascii.Given as goal

abbrev pub invariant-loop-i : goal.invariant-loop-i
invariant-loop-i l = l.highest < 128 → IsAscii (take l.i l.bytes)
