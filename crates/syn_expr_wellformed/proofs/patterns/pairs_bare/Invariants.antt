use Rattle.std.proofs.Common.{◌≡◌, map, length}
use Rattle.syn_lower.specs.View.{type_of, segment_of}
use Rattle.syn_lower_spec.specs.Part.{segments_bare}
use Rattle.syn_expr_wellformed.proofs.patterns.pairs_bare.Given as goal

abbrev pub invariant-pairs : goal.invariant-pairs
invariant-pairs l = segments_bare (map (λ q. segment_of type_of q.0) l.pairs) ≡ segments_bare (map (λ q. segment_of type_of q.0) l.fn.pairs)

abbrev pub decreases-pairs : goal.decreases-pairs
decreases-pairs l = length l.pairs
