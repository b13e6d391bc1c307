use Rattle.std.proofs.Common.{◌≡◌, ◌≤◌, ◌+◌, ◌*◌, ◌++◌, length}
use Rattle.syn_tokens.specs.Tok.{token_weight, weight}
use Rattle.syn_tokens.specs.View.{tok_of, toks_of}
use Rattle.syn_tokens.proofs.tree.+copy.Given as goal

abbrev pub decreases-copy_tree : goal.decreases-copy_tree
decreases-copy_tree l = 2 * token_weight (tok_of l.tree.now)

abbrev pub decreases-copy_trees : goal.decreases-copy_trees
decreases-copy_trees l = 2 * weight (toks_of l.trees.now) + 1

abbrev pub invariant-copy_trees-loop-rest : goal.invariant-copy_trees-loop-rest
invariant-copy_trees-loop-rest l =
    (l.stream ++ toks_of l.rest ≡ toks_of l.fn.trees) × (weight (toks_of l.rest) ≤ weight (toks_of l.fn.trees))

abbrev pub decreases-copy_trees-loop-rest : goal.decreases-copy_trees-loop-rest
decreases-copy_trees-loop-rest l = length l.rest
