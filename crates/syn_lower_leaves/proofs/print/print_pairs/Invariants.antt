use Rattle.std.proofs.Common.{◌≡◌, ◌++◌, length}
use Rattle.syn_tokens.specs.Input.{IsFront}
use Rattle.syn_lower_leaves.specs.Printed.{pairs_printed}
use Rattle.syn_lower_leaves.proofs.print.print_pairs.Given as goal

abbrev pub invariant-pairs : goal.invariant-pairs
invariant-pairs g l =
    (l.tokens ++ pairs_printed g.T.ToTokens.printed g.P.ToTokens.printed l.pairs ≡ l.fn.tokens ++ pairs_printed g.T.ToTokens.printed g.P.ToTokens.printed l.fn.pairs)
    × IsFront l.fn.tokens l.tokens

abbrev pub decreases-pairs : goal.decreases-pairs
decreases-pairs g l = length l.pairs
