use Rattle.std.proofs.Common.{◌≤◌, ◌+◌, ◌*◌, length}
use Rattle.syn_tokens.specs.Tok.{token_weight, weight}
use Rattle.syn_tokens.specs.View.{tok_of, toks_of}
use Rattle.syn_expr_parse.proofs.leftover.+cut.Given as goal

abbrev pub decreases-tree_without : goal.decreases-tree_without
decreases-tree_without l = 2 * token_weight (tok_of l.tree.now)

abbrev pub decreases-trees_without : goal.decreases-trees_without
decreases-trees_without l = 2 * weight (toks_of l.trees.now) + 1

abbrev pub invariant-trees_without-loop-rest : goal.invariant-trees_without-loop-rest
invariant-trees_without-loop-rest l = weight (toks_of l.rest) ≤ weight (toks_of l.fn.trees)

abbrev pub decreases-trees_without-loop-rest : goal.decreases-trees_without-loop-rest
decreases-trees_without-loop-rest l = length l.rest
