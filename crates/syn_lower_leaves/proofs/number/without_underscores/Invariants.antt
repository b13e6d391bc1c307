use Rattle.std.proofs.Common.{◌≡◌, ◌++◌, length}
use Rattle.std.specs.Prelude.{filter, string_bytes, encode_utf8_all}
use Rattle.syn_lower_leaves.specs.Value.{is_no_underscore}
use Rattle.syn_lower_leaves.proofs.number.without_underscores.Given as goal

-- what was written, with what is left, is all that is kept
abbrev pub invariant-bytes : goal.invariant-bytes
invariant-bytes l = encode_utf8_all (filter is_no_underscore l.initial.rest) ≡ string_bytes l.out ++ encode_utf8_all (filter is_no_underscore l.rest)

abbrev pub decreases-bytes : goal.decreases-bytes
decreases-bytes l = length l.rest
