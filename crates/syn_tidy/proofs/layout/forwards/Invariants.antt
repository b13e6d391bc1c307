use Rattle.std.proofs.Common.{◌≡◌, ◌≤◌, ◌++◌, length, string_bytes, encode_utf8_all}
use Rattle.std.specs.Prelude.{reverse}
use Rattle.syn_tidy.proofs.layout.forwards.Given as goal

abbrev pub invariant-loop-rest : goal.invariant-loop-rest
invariant-loop-rest l = record {
  shorter : length l.rest ≤ length l.initial.rest;
  written : string_bytes l.text ++ encode_utf8_all (reverse l.rest) ≡ encode_utf8_all (reverse l.fn.out);
}

abbrev pub decreases-loop-rest : goal.decreases-loop-rest
decreases-loop-rest l = length l.rest
