use Rattle.std.proofs.Common.{◌≡◌, ◌++◌, take, flat_map, string_bytes}
use Rattle.std.specs.Prelude.{encode_utf8_all, true}
use Rattle.syn_lower_leaves.specs.Written.{written, opening}
use Rattle.syn_lower_leaves.proofs.make.byte_str_text.Given as goal

abbrev pub invariant-loop-b : goal.invariant-loop-b
invariant-loop-b l = string_bytes l.text ≡ encode_utf8_all (opening true 34 ++ flat_map (written true 34) (take l.b-index l.value))
