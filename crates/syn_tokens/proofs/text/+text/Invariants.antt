use Rattle.std.proofs.Common.{◌≡◌, ◌≤◌, ◌+◌, ◌*◌, ◌++◌, length, string_bytes}
use Rattle.syn_tokens.specs.Tok.{token_weight, weight}
use Rattle.syn_tokens.specs.Text.{text}
use Rattle.syn_tokens.specs.View.{tok_of, toks_of}
use Rattle.syn_tokens.proofs.text.+text.Given as goal

abbrev pub decreases-write_tree : goal.decreases-write_tree
decreases-write_tree l = 2 * token_weight (tok_of l.tree.now)

abbrev pub decreases-write_trees : goal.decreases-write_trees
decreases-write_trees l = 2 * weight (toks_of l.trees.now) + 1

abbrev pub invariant-write_trees-loop-rest : goal.invariant-write_trees-loop-rest
invariant-write_trees-loop-rest l =
    (string_bytes l.out ++ text (toks_of l.rest) ≡ string_bytes l.fn.out ++ text (toks_of l.fn.trees))
    × (weight (toks_of l.rest) ≤ weight (toks_of l.fn.trees))

abbrev pub decreases-write_trees-loop-rest : goal.decreases-write_trees-loop-rest
decreases-write_trees-loop-rest l = length l.rest
