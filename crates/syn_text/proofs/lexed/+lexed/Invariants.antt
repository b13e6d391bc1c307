use Rattle.std.proofs.Common.{◌≡◌, ◌≤◌, ◌+◌, ◌*◌, length}
use Rattle.syn_tokens.specs.Tok.{token_weight, weight}
use Rattle.syn_tokens.specs.View.{tok_of, toks_of}
use Rattle.syn_text.specs.Lexed.{is_lexed}
use Rattle.syn_text.proofs.lexed.+lexed.Given as goal

abbrev pub decreases-stays : goal.decreases-stays
decreases-stays l = 2 * token_weight (tok_of l.tree.now)

abbrev pub decreases-are_lexed : goal.decreases-are_lexed
decreases-are_lexed l = 2 * weight (toks_of l.trees.now) + 1

abbrev pub invariant-are_lexed-loop-rest : goal.invariant-are_lexed-loop-rest
invariant-are_lexed-loop-rest l =
    (is_lexed (toks_of l.rest) ≡ is_lexed (toks_of l.fn.trees)) × (weight (toks_of l.rest) ≤ weight (toks_of l.fn.trees))

abbrev pub decreases-are_lexed-loop-rest : goal.decreases-are_lexed-loop-rest
decreases-are_lexed-loop-rest l = length l.rest
