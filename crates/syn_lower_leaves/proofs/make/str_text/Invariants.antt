use Rattle.std.proofs.Common.{◌≡◌, ◌++◌, flat_map, string_bytes}
use Rattle.std.specs.Prelude.{encode_utf8_all, false}
use Rattle.syn_lower_leaves.specs.Written.{written, opening}
use Rattle.syn_lower_leaves.proofs.make.str_text.Given as goal

abbrev pub invariant-loop-c : goal.invariant-loop-c
invariant-loop-c l = string_bytes l.text ≡ encode_utf8_all (opening false 34 ++ flat_map (written false 34) l.yielded)
