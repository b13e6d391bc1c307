use Rattle.std.proofs.Common.{◌≡◌, length}
use Rattle.syn_lower_leaves.specs.Value.{content}
use Rattle.syn_lower_leaves.proofs.Quotes.{put}
use Rattle.syn_lower_leaves.proofs.quoted.bytes_of.Given as goal

-- what was put, with what is left, is what all of it stands for
abbrev pub invariant-pieces : goal.invariant-pieces
invariant-pieces l = content l.style 0 l.initial.text ≡ put l.out.items (content l.style 0 l.rest)

abbrev pub decreases-pieces : goal.decreases-pieces
decreases-pieces l = length l.rest
