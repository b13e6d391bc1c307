-- Spans that lie within a text, and those from where the first of some tokens begins to where the last one ends.
use Rattle.std.specs.Prelude.{◌≡◌, ◌≢◌, ◌≤◌, ℕ, Option, None, MatchOption, IsSomeAnd, List, [], ◌∷◌, length}
use Rattle.syn_tokens.specs.Tok.{Tok}
use Rattle.syn_tokens.specs.declared.tree.Span.{Span}
use Rattle.syn_tokens.specs.declared.tree.TokenTree.{TokenTree}
use Rattle.syn_tokens.specs.declared.tree.TokenTree.TheVariants.{Group, Ident, Punct, Literal}

-- A span lies within the bytes of a text: it does not end before it begins, nor behind the text.
abbrev pub IsWithin : List ℕ → Span → Type 0
IsWithin text s = (s.lo ≤ s.hi) × (s.hi ≤ length text)

-- A tree begins at this byte; of words and literals contracts see no place.
abbrev pub BeginsAt : TokenTree → ℕ → Type 0
BeginsAt (Group g) n = n ≡ g.span.lo
BeginsAt (Ident i) n = Unit {0}
BeginsAt (Punct p) n = n ≡ p.span.lo
BeginsAt (Literal l) n = Unit {0}

-- A tree ends before this byte.
abbrev pub EndsAt : TokenTree → ℕ → Type 0
EndsAt (Group g) n = n ≡ g.span.hi
EndsAt (Ident i) n = Unit {0}
EndsAt (Punct p) n = n ≡ p.span.hi
EndsAt (Literal l) n = Unit {0}

-- the last of a tree and those after it
abbrev pub last_of : TokenTree → List TokenTree → TokenTree
last_of t [] = t
last_of t (u ∷ us) = last_of u us

abbrev pub IsPlaceOf : List TokenTree → Option Span → Type 0
IsPlaceOf [] place = place ≡ None
IsPlaceOf (t ∷ ts) place = IsSomeAnd place (λ s. BeginsAt t s.lo × EndsAt (last_of t ts) s.hi)

-- Tokens have a place exactly where there are any. Contracts see tokens without their places, so that no more is said.
abbrev pub IsPlaced : List Tok → Option Span → Type 0
IsPlaced ts place = MatchOption place (ts ≡ []) (λ s. ts ≢ [])
