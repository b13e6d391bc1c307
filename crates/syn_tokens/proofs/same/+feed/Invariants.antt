use Rattle.std.proofs.Common.{◌≡◌, ◌≤◌, ◌+◌, ◌*◌, length}
use Rattle.std.specs.List.{fold}
use Rattle.syn_tokens.specs.Tok.{token_weight, weight}
use Rattle.syn_tokens.specs.Same.{fed_list}
use Rattle.syn_tokens.specs.View.{tok_of, toks_of}
use Rattle.syn_tokens.proofs.same.+feed.Given as goal

abbrev pub decreases-feed_tree : goal.decreases-feed_tree
decreases-feed_tree g l = 2 * token_weight (tok_of l.tree.now)

abbrev pub decreases-feed_trees : goal.decreases-feed_trees
decreases-feed_trees g l = 2 * weight (toks_of l.trees.now) + 1

abbrev pub invariant-feed_trees-loop-rest : goal.invariant-feed_trees-loop-rest
invariant-feed_trees-loop-rest g l =
    (fold g.H.Hasher.write l.state (fed_list (toks_of l.rest)) ≡ fold g.H.Hasher.write l.fn.state (fed_list (toks_of l.fn.trees)))
    × (weight (toks_of l.rest) ≤ weight (toks_of l.fn.trees))

abbrev pub decreases-feed_trees-loop-rest : goal.decreases-feed_trees-loop-rest
decreases-feed_trees-loop-rest g l = length l.rest
