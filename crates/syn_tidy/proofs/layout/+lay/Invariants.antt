use Rattle.std.proofs.Common.{◌≤◌, ◌+◌, ◌*◌, length}
use Rattle.std.specs.Prelude.{reverse}
use Rattle.syn_tokens.specs.Tok.{token_weight, weight}
use Rattle.syn_tokens.specs.View.{tok_of, toks_of}
use Rattle.syn_tidy.proofs.Gaps.{IsLaid}
use Rattle.syn_tidy.proofs.layout.+lay.Given as goal

abbrev pub decreases-lay_tree : goal.decreases-lay_tree
decreases-lay_tree l = 2 * token_weight (tok_of l.tree.now)

abbrev pub decreases-lay_trees : goal.decreases-lay_trees
decreases-lay_trees l = 2 * weight (toks_of l.trees.now) + 1

abbrev pub invariant-lay_trees-loop-rest : goal.invariant-lay_trees-loop-rest
invariant-lay_trees-loop-rest l = record {
  laid : IsLaid l.rest (toks_of l.fn.trees) (reverse l.fn.out.items) (reverse l.out.items);
  shorter : length l.rest ≤ length l.fn.trees;
}

abbrev pub decreases-lay_trees-loop-rest : goal.decreases-lay_trees-loop-rest
decreases-lay_trees-loop-rest l = length l.rest
