-- Delimiters, puncts, white space and lifetimes at the front of a text.
use Rattle.std.proofs.Common.{◌≡◌, ℕ, suc, ◌+◌, Bool, true, false, not, ◌&&◌, ◌||◌, cond, [], ◌∷◌, ◌++◌, length, drop, slice_index, nat_eq, nat_lt, refl, sym, ◌∙◌, ap, inl, inr, arith, codes, Some, Ok, Err}
use Rattle.std.specs.Prelude.{◌==◌, if◌then◌else◌}
use Rattle.std.specs.Char.{is_ascii_digit, is_ascii_alphabetic}
use Rattle.std.specs.List.{prefix_len, list_any, list_all}
use Rattle.std.proofs.lemmas.Bool.{or_cases, or_parts, or_from, and_left, and_right, and_parts, not-true, both_ways, eqb-true, ne_eqb, ltb-true}
use Rattle.unicode_ident.specs.Ident.{is_xid_start, is_xid_continue}
use Rattle.unicode_ident.proofs.IdentLemmas.{is_xid_start-ascii, is_xid_continue-ascii}
use Rattle.syn_lexer.specs.Text.{Text, Reading, begins, single_quote}
use Rattle.syn_lexer.specs.Blanks.{is_white_space, white_space_len, begins_comment, begins_line_comment, line_comment, begins_block_comment, block_comment, comment_rest}
use Rattle.syn_lexer.specs.Words.{is_word_start, starts_word, word_len, begins_raw_word, raw_word}
use Rattle.syn_lexer.specs.Numbers.{number}
use Rattle.syn_lexer.specs.Quotes.{closed, string, raw_string, byte, begins_string, begins_raw_string, begins_byte, is_within_character, is_character, character_rest, unclosed_len, begins_plain_word, character_or_lifetime}
use Rattle.syn_lexer.specs.Lex.{is_punct, single_kind, single, one_character, token, reading, of_reading, front, spacing_before}
use Rattle.syn_lexer.specs.declared.front.Delimiter.{Delimiter}
use Rattle.syn_lexer.specs.declared.front.Delimiter.TheVariants as delimiter
use Rattle.syn_lexer.specs.declared.front.Spacing.TheVariants.{Alone, Joint}
use Rattle.syn_lexer.specs.declared.front.LexemeKind.{LexemeKind}
use Rattle.syn_lexer.specs.declared.front.LexemeKind.TheVariants as kind
use Rattle.syn_lexer.specs.declared.error.LexError.TheVariants.{MalformedLifetime}
use Rattle.syn_tokens.specs.Text.{opening, closing}
use Rattle.syn_text.specs.Lexed.{is_ident, is_written}
use Rattle.syn_text.proofs.Branches.{passes, closed_fails, if_fails, number_fails, token_2, token_3, token_4, token_5, token_6, token_7, reading_2, reading_3, end_of}
use Rattle.syn_text.proofs.Stops.{Ends, halts-quote, at-stops, word_len-stops}
use Rattle.syn_text.proofs.Behind.{raw_word_same, single_no_leaf, line_no_leaf, comment_no_leaf, leaf_read, read_is}

-- what holds of each character of a list holds of one that is in it
pub in_table : (ps : Text) (good : ℕ → Bool) (c : ℕ) → list_any (λ p. c == p) ps ≡ true → list_all good ps ≡ true → good c ≡ true
in_table [] good c is all = absurd cc
in_table (p ∷ ps) good c is all =
    let both = and_parts (good p) (list_all good ps) all in
    let more = in_table ps good c in
    elim (or_cases (c == p) (list_any (λ q. c == q) ps) is) [ inl e ↦ ap good (eqb-true c p e) ∙ both.0 | inr m ↦ more m both.1 ]

-- ---- characters that begin nothing longer, where they begin no comment

abbrev tests_1 : ℕ → Bool
tests_1 c = nat_lt c 128 && (not (c == 95) && not (is_ascii_alphabetic c))

abbrev tests_2 : ℕ → Bool
tests_2 c = not (nat_eq 34 c) && (not (nat_eq 98 c) && (not (nat_eq 99 c) && not (nat_eq 114 c)))

abbrev tests_3 : ℕ → Bool
tests_3 c = not (is_white_space c) && (not (is_ascii_digit c) && not (c == 39))

abbrev is_single : ℕ → Bool
is_single c = tests_1 c && (tests_2 c && tests_3 c)

no_start : (c : ℕ) → tests_1 c ≡ true → is_word_start c ≡ false
no_start c h =
    let a = and_parts (nat_lt c 128) (not (c == 95) && not (is_ascii_alphabetic c)) h in
    let b = and_parts (not (c == 95)) (not (is_ascii_alphabetic c)) a.1 in
    or_from (c == 95) (is_xid_start c) (not-true (c == 95) b.0)
    (is_xid_start-ascii c (ltb-true c 128 a.0) ∙ not-true (is_ascii_alphabetic c) b.1)

single_reading : (c : ℕ) (y : Text) → is_single c ≡ true → begins_comment (c ∷ y) ≡ false → reading (c ∷ y) ≡ single (c ∷ y)
unfolding reading token
single_reading c y h none =
    let a = and_parts (tests_1 c) (tests_2 c && tests_3 c) h in
    let b = and_parts (tests_2 c) (tests_3 c) a.1 in
    let two = and_parts (not (nat_eq 34 c)) (not (nat_eq 98 c) && (not (nat_eq 99 c) && not (nat_eq 114 c))) b.0 in
    let two_2 = and_parts (not (nat_eq 98 c)) (not (nat_eq 99 c) && not (nat_eq 114 c)) two.1 in
    let two_3 = and_parts (not (nat_eq 99 c)) (not (nat_eq 114 c)) two_2.1 in
    let three = and_parts (not (is_white_space c)) (not (is_ascii_digit c) && not (c == 39)) b.1 in
    let three_2 = and_parts (not (is_ascii_digit c)) (not (c == 39)) three.1 in
    let comments = or_parts (begins_line_comment (c ∷ y)) (begins_block_comment (c ∷ y)) none in
    let white : is_white_space c ≡ false = not-true (is_white_space c) three.0 in
    let line : begins_line_comment (c ∷ y) ≡ false = comments.0 in
    let block : begins_block_comment (c ∷ y) ≡ false = comments.1 in
    let d34 : nat_eq 34 c ≡ false = not-true (nat_eq 34 c) two.0 in
    let d98 : nat_eq 98 c ≡ false = not-true (nat_eq 98 c) two_2.0 in
    let d99 : nat_eq 99 c ≡ false = not-true (nat_eq 99 c) two_3.0 in
    let d114 : nat_eq 114 c ≡ false = not-true (nat_eq 114 c) two_3.1 in
    let digit : is_ascii_digit c ≡ false = not-true (is_ascii_digit c) three_2.0 in
    let quote : (c == 39) ≡ false = not-true (c == 39) three_2.1 in
    let start : is_word_start c ≡ false = no_start c a.0 in
    rw (white, line, block, d34, d98, d99, d114, start, digit, quote) refl

-- ---- delimiters

pub open_front : (d : Delimiter) (y : Text) → is_written d ≡ true → front (opening d ++ y) ≡ Some (kind.Open d, 1)
unfolding front single_kind
open_front delimiter.Parenthesis y h = ap of_reading (single_reading 40 y refl refl)
open_front delimiter.Bracket y h = ap of_reading (single_reading 91 y refl refl)
open_front delimiter.Brace y h = ap of_reading (single_reading 123 y refl refl)
open_front delimiter.None y h = absurd cc

pub close_front : (d : Delimiter) (y : Text) → is_written d ≡ true → front (closing d ++ y) ≡ Some (kind.Close d, 1)
unfolding front single_kind
close_front delimiter.Parenthesis y h = ap of_reading (single_reading 41 y refl refl)
close_front delimiter.Bracket y h = ap of_reading (single_reading 93 y refl refl)
close_front delimiter.Brace y h = ap of_reading (single_reading 125 y refl refl)
close_front delimiter.None y h = absurd cc

-- ---- puncts

-- neither a delimiter nor of anything longer, but for `'`
abbrev is_sign : ℕ → Bool
is_sign c = c == 39 || (is_single c && (not (c == 40) && (not (c == 41) && (not (c == 91) && (not (c == 93) && (not (c == 123) && not (c == 125)))))))

sign_is : (c : ℕ) → is_punct c ≡ true → is_sign c ≡ true
sign_is c is = in_table (codes "~!@#$%^&*-=+|;:,<.>/?'") is_sign c is refl

sign_kind : (c : ℕ) (y : Text) → is_punct c ≡ true
    → (not (c == 40) && (not (c == 41) && (not (c == 91) && (not (c == 93) && (not (c == 123) && not (c == 125)))))) ≡ true
    → single_kind (c ∷ y) ≡ Some (kind.Punct c (spacing_before y))
unfolding single_kind
sign_kind c y is h =
    let a = and_parts (not (c == 40)) _ h in
    let b = and_parts (not (c == 41)) _ a.1 in
    let d = and_parts (not (c == 91)) _ b.1 in
    let e = and_parts (not (c == 93)) _ d.1 in
    let f = and_parts (not (c == 123)) (not (c == 125)) e.1 in
    let n40 : (c == 40) ≡ false = not-true (c == 40) a.0 in
    let n41 : (c == 41) ≡ false = not-true (c == 41) b.0 in
    let n91 : (c == 91) ≡ false = not-true (c == 91) d.0 in
    let n93 : (c == 93) ≡ false = not-true (c == 93) e.0 in
    let n123 : (c == 123) ≡ false = not-true (c == 123) f.0 in
    let n125 : (c == 125) ≡ false = not-true (c == 125) f.1 in
    rw (n40, n41, n91, n93, n123, n125, is) refl

pub punct_front : (c : ℕ) (y : Text) → is_punct c ≡ true → (c == 39) ≡ false → begins_comment (c ∷ y) ≡ false
    → front (c ∷ y) ≡ Some (kind.Punct c (spacing_before y), 1)
unfolding front
punct_front c y is other none =
    elim (or_cases (c == 39) _ (sign_is c is)) [
      | inl e ↦ absurd (both_ways (c == 39) other e)
      | inr h ↦
          let parts = and_parts (is_single c) _ h in
          ap of_reading (single_reading c y parts.0 none ∙ ap one_character (sign_kind c y is parts.1))
    ]

pub alone_before : (y : Text) → is_punct (slice_index y 0) ≡ false → spacing_before y ≡ Alone
alone_before y none = ap (λ b. if b && not (begins_comment y) then Joint else Alone) none

pub no_comment_before : (c : ℕ) (y : Text) → is_punct (slice_index y 0) ≡ false → begins_comment (c ∷ y) ≡ false
no_comment_before c [] none =
    or_from (begins (codes "//") (c ∷ [])) (begins (codes "/*") (c ∷ [])) (and_right (nat_eq 47 c) false refl) (and_right (nat_eq 47 c) false refl)
no_comment_before c (d ∷ y) none =
    or_from (begins (codes "//") (c ∷ (d ∷ y))) (begins (codes "/*") (c ∷ (d ∷ y))) (mark 47 refl) (mark 42 refl)
  where
    mark : (m : ℕ) → is_punct m ≡ true → (nat_eq 47 c && (nat_eq m d && true)) ≡ false
    mark m is = and_right (nat_eq 47 c) (nat_eq m d && true) (and_left (nat_eq m d) true (ne_eqb m d (λ e. both_ways (is_punct d) none (sym (ap is_punct e) ∙ is))))

-- ---- white space

pub white_front : (c : ℕ) (y : Text) → is_white_space c ≡ true → front (c ∷ y) ≡ Some (kind.Blank, 1 + prefix_len is_white_space y)
unfolding front reading
white_front c y white = rw white refl

-- ---- what an identifier with no `r#` is

leafless : (r : Reading) → leaf_read r ≡ false → passes is_ident refl r ≡ false
leafless (Ok p) h = by p.0 h
  where
    by : (k : LexemeKind) → leaf_read (Ok (k, 0)) ≡ false → is_ident k ≡ false
    by kind.Ident e = absurd cc
    by _ e = refl
leafless (Err e) h = refl

quote_no_word : (y : Text) → passes is_ident refl (character_or_lifetime y) ≡ false
quote_no_word y =
    let x = drop 1 y in
    if_fails is_ident refl (is_character x || begins (codes "\\") x) (closed y 1 (character_rest x) (unclosed_len 1 y))
    (if begins_plain_word x then Ok (kind.Lifetime, 1 + word_len x) else Err (MalformedLifetime, 1))
    (closed_fails is_ident refl y 1 (character_rest x) (unclosed_len 1 y))
    (if_fails is_ident refl (begins_plain_word x) (Ok (kind.Lifetime, 1 + word_len x)) (Err (MalformedLifetime, 1)) refl refl)

either : {C : Type 0} (b : Bool) (x y g : Reading) → (b ≡ true → x ≡ g → C) → (y ≡ g → C) → (if b then x else y) ≡ g → C
either true x y g f h i = f refl i
either false x y g f h i = h i

module _ (w : Text) (n : ℕ) (plain : begins_raw_word w ≡ false) where
  abbrev IsWord : Type 0
  IsWord = (starts_word w ≡ true) × (n ≡ word_len w)

  abbrev read : Reading
  read = Ok (kind.Ident, n)

  unless : (r : Reading) → passes is_ident refl r ≡ false → r ≡ read → IsWord
  unless r none is = absurd (both_ways (passes is_ident refl r) none (ap (passes is_ident refl) is))

  token_word : token w ≡ read → IsWord
  unfolding token
  token_word =
      either (begins_string w) (string w) (token_2 w) read (λ b. unless (string w) (closed_fails is_ident refl w _ _ _))
      (either (begins_raw_string w) (raw_string w) (token_3 w) read (λ b. unless (raw_string w) (closed_fails is_ident refl w _ _ _))
      (either (begins_byte w) (byte w) (token_4 w) read (λ b. unless (byte w) (closed_fails is_ident refl w _ _ _))
      (either (begins_raw_word w) (raw_word w) (token_5 w) read (λ b i. absurd (both_ways (begins_raw_word w) plain b))
      (either (starts_word w) (Ok (kind.Ident, word_len w)) (token_6 w) read (λ b i. (b, sym (ap end_of i)))
      (either (is_ascii_digit (slice_index w 0)) (number w) (token_7 w) read (λ b. unless (number w) (number_fails is_ident refl w))
      (either (slice_index w 0 == single_quote) (character_or_lifetime w) (single w) read (λ b. unless (character_or_lifetime w) (quote_no_word w))
      (unless (single w) (leafless (single w) (single_no_leaf w)))))))))

  reading_word : reading w ≡ read → IsWord
  unfolding reading
  reading_word =
      either (is_white_space (slice_index w 0)) (Ok (kind.Blank, white_space_len w)) (reading_2 w) read (λ b. unless (Ok (kind.Blank, white_space_len w)) refl)
      (either (begins_line_comment w) (line_comment w) (reading_3 w) read (λ b. unless (line_comment w) (leafless (line_comment w) (line_no_leaf w)))
      (either (begins_block_comment w) (block_comment w) (token w) read
      (λ b. unless (block_comment w) (leafless (block_comment w) (comment_no_leaf w (comment_rest false 0 0 (drop 2 w)))))
      token_word))

-- ---- lifetimes

pub quote_reading : (y : Text) → reading (39 ∷ y) ≡ character_or_lifetime (39 ∷ y)
unfolding reading token
quote_reading y = let none : is_xid_start 39 ≡ false = is_xid_start-ascii 39 (omega arith) in rw none refl

no_backslash : (a : ℕ) → is_word_start a ≡ true → nat_eq 92 a ≡ false
no_backslash a h =
    let none : is_word_start 92 ≡ false = is_xid_start-ascii 92 (omega arith) in
    ne_eqb 92 a (λ e. both_ways (is_word_start a) (ap is_word_start (sym e) ∙ none) h)

pub continues : (p : ℕ → Bool) (c : ℕ) (w : Text) → prefix_len p (c ∷ w) ≡ suc (length w) → p c ≡ true
continues p c w h = by (p c) h
  where
    by : (b : Bool) → cond b (1 + prefix_len p w) 0 ≡ suc (length w) → b ≡ true
    by true e = refl
    by false e = absurd (omega arith)

no_quote : (w : Text) → prefix_len is_xid_continue w ≡ length w → (slice_index w 0 == 39) ≡ false
no_quote [] h = refl
no_quote (c ∷ w) h =
    let none : is_xid_continue 39 ≡ false = is_xid_continue-ascii 39 (omega arith) in
    let on : is_xid_continue c ≡ true = continues is_xid_continue c w h in
    ne_eqb c 39 (λ e. both_ways (is_xid_continue c) (ap is_xid_continue e ∙ none) on)

abbrev quoted : Bool → Bool → Bool → Text → Reading
quoted c e p y = if c || e then closed (39 ∷ y) 1 (character_rest y) (unclosed_len 1 (39 ∷ y))
    else (if p then Ok (kind.Lifetime, 1 + word_len y) else Err (MalformedLifetime, 1))

module _ (z : Text) (s : Ends z) where
  word_reading : (a : ℕ) (w : Text) → is_word_start a ≡ true → length (a ∷ w) ≡ word_len (a ∷ w) → begins_raw_word (a ∷ w) ≡ false
      → reading (39 ∷ (a ∷ (w ++ z))) ≡ Ok (kind.Lifetime, 1 + length (a ∷ w))
  word_reading a w start size plain =
      let y = a ∷ (w ++ z) in
      let slash : begins (codes "\\") y ≡ false = and_left (nat_eq 92 a) true (no_backslash a start) in
      let all : prefix_len is_xid_continue w ≡ length w = omega arith in
      let quote : (slice_index (w ++ z) 0 == 39) ≡ false = at-stops z s (λ c. c == 39) halts-quote refl w 0 (omega arith) ∙ no_quote w all in
      let none : is_character y ≡ false =
      ap (λ b. is_within_character a && (slice_index y (if b then 2 + prefix_len is_within_character (drop 2 y) else 1) == single_quote)) slash
      ∙ and_right (is_within_character a) (slice_index (w ++ z) 0 == 39) quote in
      let raw : begins_raw_word y ≡ false = raw_word_same z s (a ∷ w) ∙ plain in
      quote_reading y
      ∙ ap (λ c. quoted c (begins (codes "\\") y) (begins_plain_word y) y) none
      ∙ ap (λ e. quoted false e (begins_plain_word y) y) slash
      ∙ ap (λ b. quoted false false (b && not (begins_raw_word y)) y) start
      ∙ ap (λ b. quoted false false (not b) y) raw
      ∙ ap (λ n. Ok (kind.Lifetime, 1 + n)) (word_len-stops z s (a ∷ w) (omega arith) ∙ sym size)

  word_lifetime : (w : Text) → begins_raw_word w ≡ false → (starts_word w ≡ true) × (length w ≡ word_len w)
      → reading (39 ∷ (w ++ z)) ≡ Ok (kind.Lifetime, 1 + length w)
  word_lifetime [] plain h = absurd cc
  word_lifetime (a ∷ w) plain h = word_reading a w h.0 h.1 plain

  -- a word that is no raw one, after `'`
  pub lifetime_front : (w : Text) → front w ≡ Some (kind.Ident, length w) → begins_raw_word w ≡ false → front (39 ∷ (w ++ z)) ≡ Some (kind.Lifetime, 1 + length w)
  unfolding front
  lifetime_front [] is plain = absurd cc
  lifetime_front (a ∷ w) is plain =
      let word = reading_word (a ∷ w) (length (a ∷ w)) plain (read_is (reading (a ∷ w)) (kind.Ident) (length (a ∷ w)) is) in
      ap of_reading (word_lifetime (a ∷ w) plain word)
