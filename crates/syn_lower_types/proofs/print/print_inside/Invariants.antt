use Rattle.std.proofs.Common.{◌≡◌, ◌++◌, length}
use Rattle.syn_tokens.specs.Input.{IsFront}
use Rattle.syn_lower_types.specs.Printed.{inside_printed}
use Rattle.syn_lower_types.proofs.print.print_inside.Given as goal

abbrev pub invariant-pairs : goal.invariant-pairs
invariant-pairs g l =
    (l.tokens ++ inside_printed g.S.ToTokens.printed l.left l.pairs l.last ≡ l.fn.tokens ++ inside_printed g.S.ToTokens.printed l.fn.left l.fn.pairs l.fn.last)
    × IsFront l.fn.tokens l.tokens

abbrev pub decreases-pairs : goal.decreases-pairs
decreases-pairs g l = length l.pairs
