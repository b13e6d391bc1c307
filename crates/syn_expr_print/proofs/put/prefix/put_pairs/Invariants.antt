use Rattle.std.proofs.Common.{◌≡◌, ◌++◌, [], length}
use Rattle.syn_tokens.specs.Input.{IsFront}
use Rattle.syn_lower_spec.specs.PatOwn.{pat_own}
use Rattle.syn_lower_leaves.specs.Printed.{comma, pairs_printed}
use Rattle.syn_expr_print.proofs.put.prefix.put_pairs.Given as goal

abbrev pub invariant-pairs : goal.invariant-pairs
invariant-pairs g l = record {
  text : l.tokens ++ pairs_printed (λ p. pat_own (g.P.HasPatTree.view p).tree []) comma l.pairs ≡ l.fn.tokens ++ pairs_printed (λ p. pat_own (g.P.HasPatTree.view p).tree []) comma l.fn.pairs;
  front : IsFront l.fn.tokens l.tokens;
}

abbrev pub decreases-pairs : goal.decreases-pairs
decreases-pairs g l = length l.pairs
