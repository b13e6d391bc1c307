-- No test that takes one more character of a word or a literal takes one that no lexeme goes on with. A space, a closing
-- delimiter and the end are such.
use Rattle.std.proofs.Common.{◌≡◌, ℕ, zero, suc, ◌+◌, ◌≤◌, ◌<◌, Bool, true, false, not, ◌&&◌, ◌||◌, cond, [], ◌∷◌, ◌++◌, length, slice_index, nat_eq, nat_lt, refl, sym, ◌∙◌, ap, inl, inr, arith, codes}
use Rattle.std.specs.Prelude.{◌==◌, if◌then◌else◌, nat_le}
use Rattle.std.specs.Int.{is_in_range}
use Rattle.std.specs.Char.{is_ascii_digit, is_ascii_alphanumeric}
use Rattle.std.specs.List.{prefix_len, list_any, list_all}
use Rattle.std.proofs.lemmas.Bool.{or_cases, or_right, and_left, and_parts, not-true, both_ways, eqb-true, leb-true, ltb-true, ne_eqb, cases_lt, or_parts, false_from_ne_true, agree_below, agree_below_at}
use Rattle.std.proofs.lemmas.List.Sums.{prefix_len-le-length}
use Rattle.unicode_ident.specs.Ident.{is_xid_start, is_xid_continue}
use Rattle.unicode_ident.proofs.IdentLemmas.{is_xid_continue-ascii, is_xid_start-is_xid_continue}
use Rattle.syn_lexer.specs.Text.{Text, begins, single_quote}
use Rattle.syn_lexer.specs.Words.{is_word_start, starts_word, word_len, suffix_len}
use Rattle.syn_lexer.specs.Numbers.{is_digit, is_digit_or_underscore, digits_len, is_underscore, has_digit}
use Rattle.syn_lexer.specs.Lex.{is_punct}
use Rattle.syn_lexer.specs.Quotes.{is_hash, hashes_len}
use Rattle.syn_lexer.specs.declared.number.Base.{Base}
use Rattle.syn_lexer.specs.declared.number.Base.TheVariants.{Binary, Octal, Decimal, Hexadecimal}
use Rattle.std.proofs.lemmas.List.{get_or_past}
use Rattle.syn_text.specs.Must.{goes_on}

-- no lexeme goes on with what is at the front of this text
abbrev pub Ends : Text → Type 0
Ends z = goes_on (slice_index z 0) ≡ false

-- ---- ASCII

abbrev goes_on_ascii : ℕ → Bool
goes_on_ascii c = (is_ascii_alphanumeric c || (c == 95)) || (c == 34 || (c == 39 || c == 35))

goes_on-ascii : (c : ℕ) → c < 128 → goes_on c ≡ goes_on_ascii c
goes_on-ascii c small = ap (λ b. b || (c == 34 || (c == 39 || c == 35))) (is_xid_continue-ascii c small)

-- ---- tests that none of these characters passes

abbrev pub Halts : (ℕ → Bool) → Type 0
Halts p = (c : ℕ) → goes_on c ≡ false → p c ≡ false

-- a test of ASCII characters with which a lexeme goes on
halts_ascii : (p : ℕ → Bool) → ((c : ℕ) → p c ≡ true → c < 128) → agree_below (λ c. not (p c) || goes_on_ascii c) (λ c. true) 128 ≡ true → Halts p
halts_ascii p small table c ends = false_from_ne_true (p c) (λ e.
    let low : c < 128 = small c e in
    let agree : (not (p c) || goes_on_ascii c) ≡ true = agree_below_at (λ x. not (p x) || goes_on_ascii x) (λ x. true) 128 c table low in
    let goes : goes_on_ascii c ≡ true = sym (ap (λ b. not b || goes_on_ascii c) e) ∙ agree in
    both_ways (goes_on c) ends (goes_on-ascii c low ∙ goes))

is_small : (n : ℕ) → n < 128 → (c : ℕ) → (c == n) ≡ true → c < 128
is_small n h c e = let same : c ≡ n = eqb-true c n e in omega arith

in_range : (lo hi : ℕ) → hi < 128 → (c : ℕ) → is_in_range lo hi c ≡ true → c < 128
in_range lo hi h c e = let le : c ≤ hi = leb-true c hi (and_parts (nat_le lo c) (nat_le c hi) e).1 in omega arith

either_small : (a b : Bool) (c : ℕ) → (a ≡ true → c < 128) → (b ≡ true → c < 128) → (a || b) ≡ true → c < 128
either_small a b c f g e = elim (or_cases a b e) [ inl h ↦ f h | inr h ↦ g h ]

digit_small : (base : Base) (c : ℕ) → is_digit base c ≡ true → c < 128
digit_small Binary c e = either_small (c == 48) (c == 49) c (is_small 48 (omega arith) c) (is_small 49 (omega arith) c) e
digit_small Octal c e = in_range 48 55 (omega arith) c e
digit_small Decimal c e = in_range 48 57 (omega arith) c e
digit_small Hexadecimal c e =
    either_small (is_in_range 48 57 c || is_in_range 65 70 c) (is_in_range 97 102 c) c
    (either_small (is_in_range 48 57 c) (is_in_range 65 70 c) c (in_range 48 57 (omega arith) c) (in_range 65 70 (omega arith) c))
    (in_range 97 102 (omega arith) c) e

digit_or_underscore_small : (base : Base) (c : ℕ) → is_digit_or_underscore base c ≡ true → c < 128
digit_or_underscore_small base c e = either_small (is_digit base c) (c == 95) c (digit_small base c) (is_small 95 (omega arith) c) e

pub halts-digit : (base : Base) → Halts (is_digit base)
halts-digit Binary = halts_ascii (is_digit Binary) (digit_small Binary) refl
halts-digit Octal = halts_ascii (is_digit Octal) (digit_small Octal) refl
halts-digit Decimal = halts_ascii (is_digit Decimal) (digit_small Decimal) refl
halts-digit Hexadecimal = halts_ascii (is_digit Hexadecimal) (digit_small Hexadecimal) refl

pub halts-digit_or_underscore : (base : Base) → Halts (is_digit_or_underscore base)
halts-digit_or_underscore Binary = halts_ascii (is_digit_or_underscore Binary) (digit_or_underscore_small Binary) refl
halts-digit_or_underscore Octal = halts_ascii (is_digit_or_underscore Octal) (digit_or_underscore_small Octal) refl
halts-digit_or_underscore Decimal = halts_ascii (is_digit_or_underscore Decimal) (digit_or_underscore_small Decimal) refl
halts-digit_or_underscore Hexadecimal = halts_ascii (is_digit_or_underscore Hexadecimal) (digit_or_underscore_small Hexadecimal) refl

pub halts-ascii_digit : Halts is_ascii_digit
halts-ascii_digit = halts-digit Decimal

pub halts-quote : Halts (λ c. c == 39)
halts-quote = halts_ascii (λ c. c == 39) (is_small 39 (omega arith)) refl

halts-hash : Halts is_hash
halts-hash = halts_ascii is_hash (is_small 35 (omega arith)) refl

halts-underscore : Halts is_underscore
halts-underscore = halts_ascii is_underscore (is_small 95 (omega arith)) refl

pub halts-xid_continue : Halts is_xid_continue
halts-xid_continue c ends = (or_parts (is_xid_continue c) (c == 34 || (c == 39 || c == 35)) ends).0

pub halts-word_start : Halts is_word_start
halts-word_start c ends = false_from_ne_true (is_word_start c) (λ e.
    both_ways (is_xid_continue c) (halts-xid_continue c ends) (elim (or_cases (c == 95) (is_xid_start c) e) [
      | inl u ↦ ap is_xid_continue (eqb-true c 95 u) ∙ is_xid_continue-ascii 95 (omega arith)
      | inr x ↦ is_xid_start-is_xid_continue c x
    ]))

pub digit_zero : (base : Base) → is_digit base 0 ≡ false
digit_zero Binary = refl
digit_zero Octal = refl
digit_zero Decimal = refl
digit_zero Hexadecimal = refl

-- ---- a space and the closing delimiters

-- a space or a closing delimiter
abbrev pub is_stop : ℕ → Bool
is_stop c = list_any (λ p. c == p) (32 ∷ 41 ∷ 93 ∷ 125 ∷ [])

-- nothing, or what begins with a space or a closing delimiter
abbrev pub stops : Text → Bool
stops [] = true
stops (c ∷ z) = is_stop c

one_of : (p : ℕ → Bool) (c q : ℕ) (more : Bool) → p q ≡ false → (more ≡ true → p c ≡ false) → ((c == q) || more) ≡ true → p c ≡ false
one_of p c q more here there is = elim (or_cases (c == q) more is) [ inl e ↦ ap p (eqb-true c q e) ∙ here | inr m ↦ there m ]

-- what fails a test at each of them fails it at the front of a text that begins with one
stops_at : (p : ℕ → Bool) → p 0 ≡ false → p 32 ≡ false → p 41 ≡ false → p 93 ≡ false → p 125 ≡ false
    → (z : Text) → stops z ≡ true → p (slice_index z 0) ≡ false
stops_at p none a b d e [] s = none
stops_at p none a b d e (c ∷ z) s =
    one_of p c 32 ((c == 41) || ((c == 93) || ((c == 125) || false))) a (
    one_of p c 41 ((c == 93) || ((c == 125) || false)) b (
    one_of p c 93 ((c == 125) || false) d (one_of p c 125 false e (λ f. cc)))) s

pub stops_ends : (z : Text) → stops z ≡ true → Ends z
stops_ends =
    stops_at goes_on (goes_on-ascii 0 (omega arith)) (goes_on-ascii 32 (omega arith)) (goes_on-ascii 41 (omega arith))
    (goes_on-ascii 93 (omega arith)) (goes_on-ascii 125 (omega arith))

pub stops_no_punct : (z : Text) → stops z ≡ true → is_punct (slice_index z 0) ≡ false
stops_no_punct = stops_at is_punct refl refl refl refl refl

pub stops_no_dot : (z : Text) → stops z ≡ true → begins (codes ".") z ≡ false
stops_no_dot [] s = refl
stops_no_dot (c ∷ z) s = and_left (nat_eq 46 c) true (stops_at (λ x. nat_eq 46 x) refl refl refl refl refl (c ∷ z) s)

-- ---- what a text begins with, and before such a rest

-- ASCII characters with which a lexeme goes on
abbrev pub are_held : Text → Bool
are_held m = list_all (λ a. nat_lt a 128 && goes_on_ascii a) m

begins_none : (a : ℕ) (m z : Text) → Ends z → (nat_lt a 128 && goes_on_ascii a) ≡ true → begins (a ∷ m) z ≡ false
begins_none a m [] s held = refl
begins_none a m (c ∷ z) s held =
    let parts = and_parts (nat_lt a 128) (goes_on_ascii a) held in
    and_left (nat_eq a c) (begins m z)
    (ne_eqb a c (λ e. both_ways (goes_on c) s (sym (ap goes_on e) ∙ goes_on-ascii a (ltb-true a 128 parts.0) ∙ parts.1)))

pub begins-fits : (m w : Text) → begins m w ≡ true → length m ≤ length w
begins-fits [] w is = omega arith
begins-fits (a ∷ m) [] is = absurd cc
begins-fits (a ∷ m) (b ∷ w) is = omega (arith, begins-fits m w (and_parts (nat_eq a b) (begins m w) is).1)

one_more : (b : Bool) (n k m : ℕ) → (k < m → n ≡ k) → cond b (1 + k) 0 < suc m → cond b (1 + n) 0 ≡ cond b (1 + k) 0
one_more true n k m h le = ap (λ i. 1 + i) (h (omega arith))
one_more false n k m h le = refl

-- where a front ends within a text, it ends there with more behind
pub prefix_more : (z : Text) (p : ℕ → Bool) (w : Text) → prefix_len p w < length w → prefix_len p (w ++ z) ≡ prefix_len p w
prefix_more z p [] le = absurd (omega arith)
prefix_more z p (a ∷ w) le = one_more (p a) (prefix_len p (w ++ z)) (prefix_len p w) (length w) (prefix_more z p w) le

-- the mark of an exponent
pub mark_fits : (n : ℕ) (a b : Bool) → (a ≡ true → 1 ≤ n) → (b ≡ true → 1 ≤ n) → (if a || b then 2 else 1) ≤ suc n
mark_fits n true b f g = let le = f refl in omega arith
mark_fits n false true f g = let le = g refl in omega arith
mark_fits n false false f g = omega arith

pub quote_within : (v : Text) (n : ℕ) → (slice_index v n == single_quote) ≡ true → n < length v
quote_within v n is =
    elim (cases_lt n (length v)) [
      | inl le ↦ le
      | inr past ↦ absurd (let e : 0 ≡ 39 = sym (get_or_past v n 0 past) ∙ eqb-true (slice_index v n) 39 is in omega arith)
    ]

pub and_same : (a a' b b' : Bool) → a' ≡ a → (a ≡ true → b' ≡ b) → (a' && b') ≡ (a && b)
and_same true a' b b' e h = rw e (h refl)
and_same false a' b b' e h = rw e refl

module _ (z : Text) (s : Ends z) where
  pub begins-stops : (m w : Text) → are_held m ≡ true → begins m (w ++ z) ≡ begins m w
  begins-stops [] w f = refl
  begins-stops (a ∷ m) [] f = begins_none a m z s (and_parts (nat_lt a 128 && goes_on_ascii a) (are_held m) f).0
  begins-stops (a ∷ m) (b ∷ w) f = ap (λ t. nat_eq a b && t) (begins-stops m w (and_parts (nat_lt a 128 && goes_on_ascii a) (are_held m) f).1)

  pub none_more : (p : ℕ → Bool) → Halts p → (y : Text) → Ends y → prefix_len p y ≡ 0
  none_more p h [] t = refl
  none_more p h (c ∷ y) t = rw (h c t) refl

  pub prefix_len-stops : (p : ℕ → Bool) → Halts p → (w : Text) → prefix_len p (w ++ z) ≡ prefix_len p w
  prefix_len-stops p h [] = none_more p h z s
  prefix_len-stops p h (a ∷ w) = ap (λ n. cond (p a) (1 + n) 0) (prefix_len-stops p h w)

  first_none : (p : ℕ → Bool) → Halts p → p 0 ≡ false → (n : ℕ) → n ≤ 0 → (y : Text) → Ends y → p (slice_index y n) ≡ false
  first_none p h o n le [] t = o
  first_none p h o zero le (c ∷ y) t = h c t
  first_none p h o (suc n) le (c ∷ y) t = absurd (omega arith)

  pub at-stops : (p : ℕ → Bool) → Halts p → p 0 ≡ false → (w : Text) (n : ℕ) → n ≤ length w → p (slice_index (w ++ z) n) ≡ p (slice_index w n)
  at-stops p h o [] n le = first_none p h o n le z s ∙ sym o
  at-stops p h o (a ∷ w) zero le = refl
  at-stops p h o (a ∷ w) (suc n) le = at-stops p h o w n (omega arith)

  no_word : (y : Text) → Ends y → starts_word y ≡ false
  no_word [] t = refl
  no_word (c ∷ y) t = halts-word_start c t

  pub starts_word-stops : (w : Text) → starts_word (w ++ z) ≡ starts_word w
  starts_word-stops [] = no_word z s
  starts_word-stops (a ∷ w) = refl

  pub word_len-stops : (w : Text) → 1 ≤ length w → word_len (w ++ z) ≡ word_len w
  word_len-stops [] le = absurd (omega arith)
  word_len-stops (a ∷ w) le = ap (λ n. 1 + n) (prefix_len-stops is_xid_continue halts-xid_continue w)

  no_suffix : (y : Text) → starts_word y ≡ false → suffix_len y ≡ 0
  no_suffix y none = rw none refl

  pub suffix_len-stops : (w : Text) → suffix_len (w ++ z) ≡ suffix_len w
  suffix_len-stops [] = no_suffix z (no_word z s)
  suffix_len-stops (a ∷ w) = ap (λ n. cond (is_word_start a) (1 + n) 0) (prefix_len-stops is_xid_continue halts-xid_continue w)

  pub digits_len-stops : (base : Base) (w : Text) → digits_len base (w ++ z) ≡ digits_len base w
  digits_len-stops base w = prefix_len-stops (is_digit_or_underscore base) (halts-digit_or_underscore base) w

  pub hashes_len-stops : (w : Text) → hashes_len (w ++ z) ≡ hashes_len w
  hashes_len-stops w = prefix_len-stops is_hash halts-hash w

  pub has_digit-stops : (base : Base) (w : Text) → has_digit base (w ++ z) ≡ has_digit base w
  has_digit-stops base w =
      ap (λ n. is_digit base (slice_index (w ++ z) n)) (prefix_len-stops is_underscore halts-underscore w)
      ∙ at-stops (is_digit base) (halts-digit base) (digit_zero base) w (prefix_len is_underscore w) (prefix_len-le-length is_underscore w)
