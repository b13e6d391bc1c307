use Rattle.syn_tokens.proofs.FloatLaws.{remembers, joins}
use Rattle.syn_tokens.specs.Floats.{split_floats, remember_floats}
use Rattle.std.proofs.Common.{false}
use Rattle.syn_tokens.proofs.floats.floats_are_joined_again.Goals as goal

pub returns : goal.returns
unfolding split_floats remember_floats
returns c = λ ts. (remembers false false ts, joins false false ts)
