use Rattle.std.proofs.Common.{◌≡◌, map, length}
use Rattle.syn_lower_spec.specs.Part.{segments_bare}
use Rattle.syn_lower_types.specs.View.{segment_of}
use Rattle.syn_lower.proofs.grammar.bare_pairs.Given as goal

abbrev pub invariant-pairs : goal.invariant-pairs
invariant-pairs g l = segments_bare (map (segment_of g.T.HasTree.tree) (map (λ q. q.0) l.pairs)) ≡ segments_bare (map (segment_of g.T.HasTree.tree) (map (λ q. q.0) l.fn.pairs))

abbrev pub decreases-pairs : goal.decreases-pairs
decreases-pairs g l = length l.pairs
