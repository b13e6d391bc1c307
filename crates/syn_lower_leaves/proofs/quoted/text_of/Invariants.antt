use Rattle.std.proofs.Common.{◌≡◌, length}
use Rattle.std.specs.Prelude.{option_map, encode_utf8_all, string_bytes}
use Rattle.syn_lower_leaves.specs.Value.{content}
use Rattle.syn_lower_leaves.proofs.Quotes.{written}
use Rattle.syn_lower_leaves.proofs.quoted.text_of.Given as goal

-- what was written, with what is left, is what all of it stands for
abbrev pub invariant-pieces : goal.invariant-pieces
invariant-pieces l = option_map encode_utf8_all (content l.style 0 l.initial.text) ≡ written (string_bytes l.out) (content l.style 0 l.rest)

abbrev pub decreases-pieces : goal.decreases-pieces
decreases-pieces l = length l.rest
