-- Tokens that are the same: a test, which says what `≡` says, and what a hasher is fed.
use Rattle.std.specs.Prelude.{◌≡◌, ◌≢◌, ℕ, Bool, true, false, ◌&&◌, ◌==◌, List, [], ◌∷◌, ◌++◌, refl}
use Rattle.std.proofs.Common.{eq-eqb, sym, ◌∙◌}
use Rattle.std.proofs.lemmas.Bool.{eqb-true}
use Rattle.std.specs.Cmp.{IsEquivalence, decided}
use Rattle.std.proofs.lemmas.Slice.Eq.{bytes_eq-Decides}
use Rattle.std.specs.Str.{bytes_eq}
use Rattle.std.specs.Hash as fed
use Rattle.syn_lexer.specs.declared.front.Delimiter.{Delimiter}
use Rattle.syn_lexer.specs.declared.front.Delimiter.TheVariants as delimiter
use Rattle.syn_lexer.specs.declared.front.Spacing.{Spacing}
use Rattle.syn_lexer.specs.declared.front.Spacing.TheVariants as spacing
use Rattle.syn_tokens.specs.Front.{same_delimiter}
use Rattle.syn_tokens.specs.Tok.{Tok, Inside, ident, punct, literal, group, nothing, first}

abbrev pub same_spacing : Spacing → Spacing → Bool
same_spacing spacing.Alone spacing.Alone = true
same_spacing spacing.Joint spacing.Joint = true
same_spacing _ _ = false

abbrev mutual
  pub same_tok : Tok → Tok → Bool
  same_tok (ident s) (ident t) = bytes_eq s t
  same_tok (literal s) (literal t) = bytes_eq s t
  same_tok (punct c s) (punct d t) = c == d && same_spacing s t
  same_tok (group d i) (group e j) = same_delimiter d e && same_inside i j
  same_tok _ _ = false

  pub same_inside : Inside → Inside → Bool
  same_inside nothing nothing = true
  same_inside (first s i) (first t j) = same_tok s t && same_inside i j
  same_inside _ _ = false

abbrev pub same_list : List Tok → List Tok → Bool
same_list [] [] = true
same_list (s ∷ ss) (t ∷ ts) = same_tok s t && same_list ss ts
same_list _ _ = false

-- ---- the test decides `≡`

left_of : (a b : Bool) → (a && b) ≡ true → a ≡ true
left_of true b h = refl
left_of false b h = cc

right_of : (a b : Bool) → (a && b) ≡ true → b ≡ true
right_of true b h = h
right_of false b h = cc

pub same_delimiter-refl : (d : Delimiter) → same_delimiter d d ≡ true
same_delimiter-refl delimiter.Parenthesis = refl
same_delimiter-refl delimiter.Brace = refl
same_delimiter-refl delimiter.Bracket = refl
same_delimiter-refl delimiter.None = refl

pub same_delimiter-true : (d e : Delimiter) → same_delimiter d e ≡ true → d ≡ e
same_delimiter-true delimiter.Parenthesis delimiter.Parenthesis h = refl
same_delimiter-true delimiter.Brace delimiter.Brace h = refl
same_delimiter-true delimiter.Bracket delimiter.Bracket h = refl
same_delimiter-true delimiter.None delimiter.None h = refl
same_delimiter-true _ _ h = cc

pub same_delimiter-false : (d e : Delimiter) → d ≢ e → same_delimiter d e ≡ false
same_delimiter-false delimiter.Parenthesis delimiter.Parenthesis n = absurd (n refl)
same_delimiter-false delimiter.Brace delimiter.Brace n = absurd (n refl)
same_delimiter-false delimiter.Bracket delimiter.Bracket n = absurd (n refl)
same_delimiter-false delimiter.None delimiter.None n = absurd (n refl)
same_delimiter-false _ _ n = refl

pub same_delimiter-differ : (d e : Delimiter) → same_delimiter d e ≡ false → d ≢ e
same_delimiter-differ d e h s = let one = same_delimiter-refl d in let two : true ≡ false = sym one ∙ (rw (← s) at h) in cc

same_spacing-refl : (s : Spacing) → same_spacing s s ≡ true
same_spacing-refl spacing.Alone = refl
same_spacing-refl spacing.Joint = refl

same_spacing-true : (s t : Spacing) → same_spacing s t ≡ true → s ≡ t
same_spacing-true spacing.Alone spacing.Alone h = refl
same_spacing-true spacing.Joint spacing.Joint h = refl
same_spacing-true _ _ h = cc

mutual
  same_tok-refl : (t : Tok) → same_tok t t ≡ true
  same_tok-refl (ident s) = (bytes_eq-Decides s s).1 refl
  same_tok-refl (literal s) = (bytes_eq-Decides s s).1 refl
  same_tok-refl (punct c s) = rw (eq-eqb c c refl, same_spacing-refl s) refl
  same_tok-refl (group d i) = rw (same_delimiter-refl d, same_inside-refl i) refl

  same_inside-refl : (i : Inside) → same_inside i i ≡ true
  same_inside-refl nothing = refl
  same_inside-refl (first t i) = rw (same_tok-refl t, same_inside-refl i) refl

mutual
  same_tok-true : (s t : Tok) → same_tok s t ≡ true → s ≡ t
  same_tok-true (ident s) (ident t) h = let e : s ≡ t = (bytes_eq-Decides s t).0 h in cc
  same_tok-true (literal s) (literal t) h = let e : s ≡ t = (bytes_eq-Decides s t).0 h in cc
  same_tok-true (punct c s) (punct d t) h =
      let a : c ≡ d = eqb-true c d (left_of _ _ h) in let b : s ≡ t = same_spacing-true s t (right_of _ _ h) in cc
  same_tok-true (group d i) (group e j) h =
      let a : d ≡ e = same_delimiter-true d e (left_of _ _ h) in let b : i ≡ j = same_inside-true i j (right_of _ _ h) in cc
  same_tok-true _ _ h = cc

  same_inside-true : (i j : Inside) → same_inside i j ≡ true → i ≡ j
  same_inside-true nothing nothing h = refl
  same_inside-true (first s i) (first t j) h =
      let a : s ≡ t = same_tok-true s t (left_of _ _ h) in let b : i ≡ j = same_inside-true i j (right_of _ _ h) in cc
  same_inside-true _ _ h = cc

same_list-refl : (ts : List Tok) → same_list ts ts ≡ true
same_list-refl [] = refl
same_list-refl (t ∷ ts) = rw (same_tok-refl t, same_list-refl ts) refl

pub same_list-true : (ss ts : List Tok) → same_list ss ts ≡ true → ss ≡ ts
same_list-true [] [] h = refl
same_list-true (s ∷ ss) (t ∷ ts) h =
    let a : s ≡ t = same_tok-true s t (left_of _ _ h) in let b : ss ≡ ts = same_list-true ss ts (right_of _ _ h) in cc
same_list-true _ _ h = cc

pub same_list_equiv : IsEquivalence same_list
same_list_equiv = decided same_list (λ ss ts. (same_list-true ss ts, λ e. rw e (same_list-refl ts)))

pub same_tok_equiv : IsEquivalence same_tok
same_tok_equiv = decided same_tok (λ s t. (same_tok-true s t, λ e. rw e (same_tok-refl t)))

-- ---- what a hasher is fed

abbrev pub delimiter_mark : Delimiter → ℕ
delimiter_mark delimiter.Parenthesis = 40
delimiter_mark delimiter.Brace = 123
delimiter_mark delimiter.Bracket = 91
delimiter_mark delimiter.None = 0

abbrev pub spacing_mark : Spacing → ℕ
spacing_mark spacing.Alone = 0
spacing_mark spacing.Joint = 1

abbrev mutual
  pub fed_tok : Tok → List (List ℕ)
  fed_tok (ident s) = fed.u8 0 ++ fed.str s
  fed_tok (literal s) = fed.u8 1 ++ fed.str s
  fed_tok (punct c s) = fed.u8 2 ++ fed.char c ++ fed.u8 (spacing_mark s)
  fed_tok (group d i) = fed.u8 3 ++ fed.u8 (delimiter_mark d) ++ fed_inside i ++ fed.u8 4

  pub fed_inside : Inside → List (List ℕ)
  fed_inside nothing = []
  fed_inside (first t i) = fed_tok t ++ fed_inside i

abbrev pub fed_list : List Tok → List (List ℕ)
fed_list [] = []
fed_list (t ∷ ts) = fed_tok t ++ fed_list ts

pub same_fed_list : (ss ts : List Tok) → same_list ss ts ≡ true → fed_list ss ≡ fed_list ts
same_fed_list ss ts h = let e = same_list-true ss ts h in cc

pub same_fed_tok : (s t : Tok) → same_tok s t ≡ true → fed_tok s ≡ fed_tok t
same_fed_tok s t h = let e = same_tok-true s t h in cc
