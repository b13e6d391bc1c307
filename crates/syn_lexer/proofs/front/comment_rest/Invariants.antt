use Rattle.std.proofs.Common.{◌≡◌, ◌≤◌, ◌+◌, length, false}
use Rattle.syn_lexer.specs.Blanks.{comment_rest}
use Rattle.syn_lexer.proofs.front.comment_rest.Given as goal

abbrev pub invariant-characters : goal.invariant-characters
invariant-characters l =
    (comment_rest false l.inner l.n l.text ≡ comment_rest false 0 0 l.initial.text) × (l.n + length l.text ≡ length l.fn.text) × (l.inner ≤ l.n)

abbrev pub decreases-characters : goal.decreases-characters
decreases-characters l = length l.text
