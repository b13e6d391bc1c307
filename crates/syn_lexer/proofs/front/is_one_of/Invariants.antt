use Rattle.std.proofs.Common.{◌≡◌, length, map}
use Rattle.syn_lexer.specs.Keywords.{is_one_of}
use Rattle.syn_lexer.proofs.front.is_one_of.Given as goal

abbrev pub invariant-words : goal.invariant-words
invariant-words l = is_one_of (map (λ w. w.now) l.words) l.word ≡ is_one_of (map (λ w. w.now) l.initial.words) l.word

abbrev pub decreases-words : goal.decreases-words
decreases-words l = length l.words
