use Rattle.std.proofs.Common.{◌≡◌, ◌≤◌, ◌+◌, ◌*◌, length}
use Rattle.syn_tokens.specs.Tok.{token_weight, weight}
use Rattle.syn_tokens.specs.Same.{same_list}
use Rattle.syn_tokens.specs.View.{tok_of, toks_of}
use Rattle.syn_tokens.proofs.same.+same.Given as goal

abbrev pub decreases-same_tree : goal.decreases-same_tree
decreases-same_tree l = 2 * token_weight (tok_of l.a.now)

abbrev pub decreases-same_trees : goal.decreases-same_trees
decreases-same_trees l = 2 * weight (toks_of l.a.now) + 1

abbrev pub invariant-same_trees-loop-a : goal.invariant-same_trees-loop-a
invariant-same_trees-loop-a l =
    (same_list (toks_of l.a) (toks_of l.b) ≡ same_list (toks_of l.fn.a) (toks_of l.fn.b)) × (weight (toks_of l.a) ≤ weight (toks_of l.fn.a))

abbrev pub decreases-same_trees-loop-a : goal.decreases-same_trees-loop-a
decreases-same_trees-loop-a l = length l.a
