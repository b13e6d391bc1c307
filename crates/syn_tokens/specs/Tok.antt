-- Token trees without their places in a text (Rust Reference, "Tokens", "Token trees").
use Rattle.std.specs.Prelude.{◌≡◌, ℕ, ◌+◌, List, [], ◌∷◌, refl}
use Rattle.syn_lexer.specs.declared.front.Delimiter.{Delimiter}
use Rattle.syn_lexer.specs.declared.front.Spacing.{Spacing}

-- Texts are lists of bytes, the character of a punct is a number.
mutual
  pub data Tok : Type 0 where
    ident : List ℕ → Tok
    punct : ℕ → Spacing → Tok
    literal : List ℕ → Tok
    group : Delimiter → Inside → Tok

  -- what a group encloses: a list of tokens
  pub data Inside : Type 0 where
    nothing : Inside
    first : Tok → Inside → Inside

-- what a group encloses, as a list
abbrev pub toks : Inside → List Tok
toks nothing = []
toks (first t rest) = t ∷ toks rest

-- a list, as what a group encloses
abbrev pub inside : List Tok → Inside
inside [] = nothing
inside (t ∷ ts) = first t (inside ts)

-- How many tokens there are, with those inside of groups; a group weighs more than its inside. Readers come
-- to an end since what is left weighs less with each token that they take.
abbrev mutual
  pub token_weight : Tok → ℕ
  token_weight (ident s) = 1
  token_weight (punct c s) = 1
  token_weight (literal s) = 1
  token_weight (group d i) = inside_weight i + 3

  pub inside_weight : Inside → ℕ
  inside_weight nothing = 0
  inside_weight (first t rest) = token_weight t + inside_weight rest

unfoldable pub weight : List Tok → ℕ
weight [] = 0
weight (t ∷ ts) = token_weight t + weight ts

pub toks-inside : (ts : List Tok) → toks (inside ts) ≡ ts
toks-inside [] = refl
toks-inside (t ∷ ts) = let e = toks-inside ts in cc

pub weight-toks : (i : Inside) → weight (toks i) ≡ inside_weight i
unfolding weight
weight-toks nothing = refl
weight-toks (first t rest) = let e = weight-toks rest in cc

pub inside_weight-inside : (ts : List Tok) → inside_weight (inside ts) ≡ weight ts
unfolding weight
inside_weight-inside [] = refl
inside_weight-inside (t ∷ ts) = let e = inside_weight-inside ts in cc
