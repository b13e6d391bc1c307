-- What comes first where a sign or a word is seen.
use Rattle.std.proofs.Common.{◌≡◌, ◌≤◌, ℕ, List, [], ◌∷◌, length, Bool, true, false, refl, arith}
use Rattle.std.specs.Prelude.{◌==◌, ◌&&◌}
use Rattle.syn_tokens.specs.Tok.{Tok, ident, punct}
use Rattle.syn_tokens.specs.Sign.{begins, begins_word, word_toks}
use Rattle.syn_lexer.specs.declared.front.Spacing.TheVariants.{Alone, Joint}

right_of : (a b : Bool) → (a && b) ≡ true → b ≡ true
right_of true b h = h
right_of false b h = cc

-- as many tokens come first as there are puncts
pub begins-le : (text : List ℕ) (ts : List Tok) → begins text ts ≡ true → length text ≤ length ts
begins-le [] ts h = omega arith
begins-le (b ∷ more) [] h = cc
begins-le (b ∷ []) (punct c Alone ∷ ts) h = omega arith
begins-le (b ∷ d ∷ more) (punct c Alone ∷ ts) h = let e : false ≡ true = right_of (c == b) false h in cc
begins-le (b ∷ []) (punct c Joint ∷ ts) h = omega arith
begins-le (b ∷ d ∷ more) (punct c Joint ∷ ts) h = omega (arith, begins-le (d ∷ more) ts (right_of (c == b) _ h))
begins-le (b ∷ more) (t ∷ ts) h = cc

pub begins-pos : (text : List ℕ) (ts : List Tok) → begins text ts ≡ true → 1 ≤ length text
begins-pos [] ts h = cc
begins-pos (b ∷ more) ts h = omega arith

pub begins_word-pos : (text : List ℕ) (ts : List Tok) → begins_word text ts ≡ true → 1 ≤ length ts
begins_word-pos text [] h = cc
begins_word-pos text (t ∷ ts) h = omega arith

pub ruleset fronts = (begins-le, begins-pos, begins_word-pos)

-- a text that is not empty
pub word_toks_is : (text : List ℕ) → 1 ≤ length text → word_toks text ≡ ident text ∷ []
word_toks_is [] h = absurd (omega arith)
word_toks_is (b ∷ more) h = refl
