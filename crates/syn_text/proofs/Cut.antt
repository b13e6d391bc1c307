-- A word or a literal that is at the front of a text is all of its own text.
use Rattle.std.proofs.Common.{◌≡◌, ℕ, zero, suc, ◌+◌, ◌-◌, ◌≤◌, ◌<◌, Bool, true, false, not, ◌&&◌, ◌||◌, cond, [], ◌∷◌, ◌++◌, length, take, drop, slice_index, nat_eq, refl, sym, ◌∙◌, ap, ap₂, inl, inr, arith, codes, Option, Some, None, Ok, Err}
use Rattle.std.specs.Prelude.{◌==◌, if◌then◌else◌, nat_le}
use Rattle.std.specs.Char.{is_ascii_digit}
use Rattle.std.specs.List.{prefix_len}
use Rattle.std.proofs.lemmas.Bool.{and_parts, and_from, both_ways, not-false, false_from_ne_true, eqb-true, ne_eqb, cases_lt, leb-true, leb-false, le-leb, lt-leb}
use Rattle.std.proofs.lemmas.List.{drop-append-le, take-append-le, length-drop, drop-drop, get_or_append_left, get_or_past}
use Rattle.unicode_ident.specs.Ident.{is_xid_continue}
use Rattle.unicode_ident.proofs.IdentLemmas.{is_xid_start-ascii}
use Rattle.syn_lexer.specs.Text.{Text, Reading, begins, double_quote, single_quote, backslash}
use Rattle.syn_lexer.specs.Blanks.{is_white_space, white_space_len, begins_line_comment, line_comment, begins_block_comment, block_comment, comment_rest}
use Rattle.syn_lexer.specs.Words.{is_word_start, starts_word, word_len, suffix_len, literal_to, begins_raw_word, is_reserved_raw, raw_word}
use Rattle.syn_lexer.specs.Numbers.{is_digit, is_digit_or_underscore, digits_len, is_underscore, has_digit, based_number, fraction_len, begins_exponent, exponent_mark_len, is_exponent, exponent_len, decimal_number, number}
use Rattle.syn_lexer.specs.Quotes.{closed, string_rest, is_hash, hashes_len, raw_string_rest, raw_prefix_len, opens_raw_string, begins_raw_string, begins_string, begins_byte, string, raw_string, byte, is_within_character, character_len, is_character, character_rest, unclosed_len, begins_plain_word, character_or_lifetime}
use Rattle.syn_lexer.specs.Lex.{single, token, reading, of_reading, front}
use Rattle.syn_lexer.specs.declared.front.LexemeKind.{LexemeKind}
use Rattle.syn_lexer.specs.declared.front.LexemeKind.TheVariants as kind
use Rattle.syn_lexer.specs.declared.error.LexError.TheVariants.{ReservedRawIdentifier}
use Rattle.syn_lexer.specs.declared.number.Base.{Base}
use Rattle.syn_lexer.specs.declared.number.Base.TheVariants.{Binary, Octal, Decimal, Hexadecimal}
use Rattle.syn_text.proofs.Branches.{number_2, number_3, token_2, token_3, token_4, token_5, token_6, token_7, reading_2, reading_3, end_of, prefix_of, raw_at, quoted, raw_word_at, number_at, bad_exponent, decimal_at}
use Rattle.syn_text.proofs.Stops.{begins-fits, digit_zero, prefix_more}
use Rattle.syn_text.proofs.Behind.{is_leaf, leaf_read, single_no_leaf, line_no_leaf, comment_no_leaf, read_no_leaf, read_is}

some_if : (b : Bool) (m n : ℕ) (x y : Option ℕ) → (x ≡ Some m → y ≡ Some m) → (if b then Some n else x) ≡ Some m → (if b then Some n else y) ≡ Some m
some_if true m n x y h is = is
some_if false m n x y h is = h is

pub some_of : (b : Bool) (n m : ℕ) → (if b then Some n else None) ≡ Some m → (b ≡ true) × (n ≡ m)
some_of true n m is = (refl, cc)
some_of false n m is = absurd cc

or_three : (a b c a' b' c' : Bool) → (a ≡ true → a' ≡ true) → (b ≡ true → b' ≡ true) → (c ≡ true → c' ≡ true) → (a || b || c) ≡ true → (a' || b' || c') ≡ true
or_three true b c a' b' c' f g h t = rw (f refl) refl
or_three false true c true b' c' f g h t = refl
or_three false true c false b' c' f g h t = rw (g refl) refl
or_three false false true true b' c' f g h t = refl
or_three false false true false true c' f g h t = refl
or_three false false true false false c' f g h t = h refl
or_three false false false a' b' c' f g h t = absurd cc

-- ---- how long a text is

one_at_least : (p : ℕ) → not (p == 0) ≡ true → 1 ≤ p
one_at_least zero h = absurd cc
one_at_least (suc p) h = omega arith

some_digit : (base : Base) (c : ℕ) (x : Text) (b : Bool) → (c == 95) ≡ b
    → (has_digit base x ≡ true → prefix_len is_underscore x < digits_len base x)
    → is_digit base (slice_index (c ∷ x) (cond b (1 + prefix_len is_underscore x) 0)) ≡ true
    → cond b (1 + prefix_len is_underscore x) 0 < cond (is_digit base c || b) (1 + digits_len base x) 0
some_digit base c x true e h is =
    let one : 1 + prefix_len is_underscore x ≡ suc (prefix_len is_underscore x) = omega arith in
    let le = h (sym (ap (λ n. is_digit base (slice_index (c ∷ x) n)) one) ∙ is) in
    by (is_digit base c) le
  where
    by : (a : Bool) → prefix_len is_underscore x < digits_len base x → 1 + prefix_len is_underscore x < cond (a || true) (1 + digits_len base x) 0
    by true le = omega arith
    by false le = omega arith
some_digit base c x false e h is = by (is_digit base c) is
  where
    by : (a : Bool) → a ≡ true → 0 < cond (a || false) (1 + digits_len base x) 0
    by true a = omega arith
    by false a = absurd cc

-- the digit that there is counts
digit_counts : (base : Base) (x : Text) → has_digit base x ≡ true → prefix_len is_underscore x < digits_len base x
digit_counts base [] h = absurd (both_ways (is_digit base 0) (digit_zero base) h)
digit_counts base (c ∷ x) h = some_digit base c x (c == 95) refl (digit_counts base x) h

pub string_rest_some : (b : Bool) (n : ℕ) (v : Text) (m : ℕ) → string_rest b n v ≡ Some m → n + 1 ≤ m
string_rest_some b n [] m is = absurd cc
string_rest_some true n (c ∷ v) m is = let le = string_rest_some false (n + 1) v m is in omega arith
string_rest_some false n (c ∷ v) m is = by (c == double_quote) (string_rest_some (c == backslash) (n + 1) v m) is
  where
    by : (q : Bool) → (string_rest (c == backslash) (n + 1) v ≡ Some m → n + 1 + 1 ≤ m)
        → (if q then Some (n + 1) else string_rest (c == backslash) (n + 1) v) ≡ Some m → n + 1 ≤ m
    by true h i = let e : n + 1 ≡ m = cc in omega arith
    by false h i = let le = h i in omega arith

pub raw_rest_some : (h n : ℕ) (v : Text) (m : ℕ) → raw_string_rest h n v ≡ Some m → n + 1 ≤ m
raw_rest_some h n [] m is = absurd cc
raw_rest_some h n (c ∷ v) m is = by (c == double_quote && nat_le h (hashes_len v)) (raw_rest_some h (n + 1) v m) is
  where
    by : (q : Bool) → (raw_string_rest h (n + 1) v ≡ Some m → n + 1 + 1 ≤ m) → (if q then Some (n + 1 + h) else raw_string_rest h (n + 1) v) ≡ Some m → n + 1 ≤ m
    by true k i = let e : n + 1 + h ≡ m = cc in omega arith
    by false k i = let le = k i in omega arith

module _ (y : Text) where
  begins_more : (m w : Text) → begins m w ≡ true → begins m (w ++ y) ≡ true
  begins_more [] w h = refl
  begins_more (a ∷ m) [] h = absurd cc
  begins_more (a ∷ m) (b ∷ w) h =
      let parts = and_parts (nat_eq a b) (begins m w) h in
      and_from (nat_eq a b) (begins m (w ++ y)) parts.0 (begins_more m w parts.1)

  begins_cut : (m w : Text) → length m ≤ length w → begins m (w ++ y) ≡ begins m w
  begins_cut [] w le = refl
  begins_cut (a ∷ m) [] le = absurd (omega arith)
  begins_cut (a ∷ m) (b ∷ w) le = ap (λ t. nat_eq a b && t) (begins_cut m w (omega arith))

  one_cut : (b : Bool) (n k m : ℕ) → (n ≤ m → k ≡ n) → cond b (1 + n) 0 ≤ suc m → cond b (1 + k) 0 ≡ cond b (1 + n) 0
  one_cut true n k m h le = ap (λ i. 1 + i) (h (omega arith))
  one_cut false n k m h le = refl

  prefix_cut : (p : ℕ → Bool) (w : Text) → prefix_len p (w ++ y) ≤ length w → prefix_len p w ≡ prefix_len p (w ++ y)
  prefix_cut p [] le = omega arith
  prefix_cut p (a ∷ w) le = one_cut (p a) (prefix_len p (w ++ y)) (prefix_len p w) (length w) (prefix_cut p w) le

  one_less : (b : Bool) (n k : ℕ) → k ≤ n → cond b (1 + k) 0 ≤ cond b (1 + n) 0
  one_less true n k le = omega arith
  one_less false n k le = omega arith

  prefix_less : (p : ℕ → Bool) (w : Text) → prefix_len p w ≤ prefix_len p (w ++ y)
  prefix_less p [] = omega arith
  prefix_less p (a ∷ w) = one_less (p a) (prefix_len p (w ++ y)) (prefix_len p w) (prefix_less p w)

  one_least : (b : Bool) (h n k m : ℕ) → ((i : ℕ) → i ≤ n → i ≤ m → i ≤ k) → h ≤ cond b (1 + n) 0 → h ≤ suc m → h ≤ cond b (1 + k) 0
  one_least true zero n k m g le l = omega arith
  one_least true (suc h) n k m g le l = let i = g h (omega arith) (omega arith) in omega arith
  one_least false h n k m g le l = le

  prefix_least : (p : ℕ → Bool) (w : Text) (h : ℕ) → h ≤ prefix_len p (w ++ y) → h ≤ length w → h ≤ prefix_len p w
  prefix_least p [] h le l = l
  prefix_least p (a ∷ w) h le l = one_least (p a) h (prefix_len p (w ++ y)) (prefix_len p w) (length w) (prefix_least p w) le l

  starts_more : (w : Text) → starts_word w ≡ true → starts_word (w ++ y) ≡ true
  starts_more [] h = absurd cc
  starts_more (a ∷ w) h = h

  starts_cut : (w : Text) → 1 ≤ length w → starts_word (w ++ y) ≡ starts_word w
  starts_cut [] le = absurd (omega arith)
  starts_cut (a ∷ w) le = refl

  word_cut : (w : Text) → 1 ≤ length w → word_len (w ++ y) ≤ length w → word_len w ≡ word_len (w ++ y)
  word_cut [] some le = absurd (omega arith)
  word_cut (a ∷ w) some le = ap (λ n. 1 + n) (prefix_cut is_xid_continue w (omega arith))

  suffix_cut : (v : Text) → suffix_len (v ++ y) ≤ length v → suffix_len v ≡ suffix_len (v ++ y)
  suffix_cut [] le = omega arith
  suffix_cut (a ∷ v) le = one_cut (is_word_start a) (prefix_len is_xid_continue (v ++ y)) (prefix_len is_xid_continue v) (length v) (prefix_cut is_xid_continue v) le

  literal_cut : (w : Text) (n : ℕ) → n + suffix_len (drop n (w ++ y)) ≡ length w → suffix_len (drop n w) ≡ suffix_len (drop n (w ++ y))
  literal_cut w n e =
      let same : drop n (w ++ y) ≡ drop n w ++ y = drop-append-le n w y (omega arith) in
      let left : length (drop n w) ≡ length w - n = length-drop n w in
      let f : n + suffix_len (drop n w ++ y) ≡ length w = ap (λ v. n + suffix_len v) (sym same) ∙ e in
      suffix_cut (drop n w) (omega arith) ∙ ap suffix_len (sym same)

  has_digit_cut : (base : Base) (v : Text) → digits_len base (v ++ y) ≤ length v → has_digit base (v ++ y) ≡ true → has_digit base v ≡ true
  has_digit_cut base v le h =
      let i = prefix_len is_underscore (v ++ y) in
      let less : i < digits_len base (v ++ y) = digit_counts base (v ++ y) h in
      ap (λ n. is_digit base (slice_index v n)) (prefix_cut is_underscore v (omega arith))
      ∙ ap (is_digit base) (sym (get_or_append_left v y 0 i (omega arith))) ∙ h

  digits_cut : (base : Base) (v : Text) → digits_len base (v ++ y) ≤ length v → digits_len base v ≡ digits_len base (v ++ y)
  digits_cut base v le = prefix_cut (is_digit_or_underscore base) v le

  Cuts : (Text → Option ℕ) → Type 0
  Cuts rest = (v : Text) (m : ℕ) → rest (v ++ y) ≡ Some m → m ≤ length v → rest v ≡ Some m

  -- ---- strings

  string_rest_cut : (b : Bool) (n : ℕ) (v : Text) (m : ℕ) → string_rest b n (v ++ y) ≡ Some m → m ≤ n + length v → string_rest b n v ≡ Some m
  string_rest_cut b n [] m is le = let l = string_rest_some b n y m is in absurd (omega arith)
  string_rest_cut true n (c ∷ v) m is le = string_rest_cut false (n + 1) v m is (omega arith)
  string_rest_cut false n (c ∷ v) m is le =
      some_if (c == double_quote) m (n + 1) (string_rest (c == backslash) (n + 1) (v ++ y)) (string_rest (c == backslash) (n + 1) v)
      (λ i. string_rest_cut (c == backslash) (n + 1) v m i (omega arith)) is

  raw_rest_cut : (h n : ℕ) (v : Text) (m : ℕ) → raw_string_rest h n (v ++ y) ≡ Some m → m ≤ n + length v → raw_string_rest h n v ≡ Some m
  raw_rest_cut h n [] m is le = let l = raw_rest_some h n y m is in absurd (omega arith)
  raw_rest_cut h n (c ∷ v) m is le =
      by (c == double_quote) (nat_le h (hashes_len (v ++ y))) refl (λ i. raw_rest_cut h (n + 1) v m i (omega arith)) is
    where
      less : hashes_len v ≤ hashes_len (v ++ y)
      less = prefix_less is_hash v

      by : (q b : Bool) → nat_le h (hashes_len (v ++ y)) ≡ b → (raw_string_rest h (n + 1) (v ++ y) ≡ Some m → raw_string_rest h (n + 1) v ≡ Some m)
          → (if q && b then Some (n + 1 + h) else raw_string_rest h (n + 1) (v ++ y)) ≡ Some m
          → (if q && nat_le h (hashes_len v) then Some (n + 1 + h) else raw_string_rest h (n + 1) v) ≡ Some m
      by false b e k i = k i
      by true true e k i =
          let same : n + 1 + h ≡ m = cc in
          let le' : h ≤ hashes_len v = prefix_least is_hash v h (leb-true h (hashes_len (v ++ y)) e) (omega arith) in
          ap (λ b. if b then Some (n + 1 + h) else raw_string_rest h (n + 1) v) (le-leb h (hashes_len v) le') ∙ i
      by true false e k i =
          let l = less in
          let over = leb-false h (hashes_len (v ++ y)) e in
          ap (λ b. if b then Some (n + 1 + h) else raw_string_rest h (n + 1) v) (lt-leb h (hashes_len v) (omega arith)) ∙ k i

  -- ---- characters

  character_len_cut : (b : Bool) (v : Text) → (if b then 2 + prefix_len is_within_character (drop 1 (v ++ y)) else 1) ≤ length v
      → (if b then 2 + prefix_len is_within_character (drop 1 v) else 1) ≡ (if b then 2 + prefix_len is_within_character (drop 1 (v ++ y)) else 1)
  character_len_cut true v le =
      let same : drop 1 (v ++ y) ≡ drop 1 v ++ y = drop-append-le 1 v y (omega arith) in
      let left : length (drop 1 v) ≡ length v - 1 = length-drop 1 v in
      let f : 2 + prefix_len is_within_character (drop 1 v ++ y) ≤ length v = rw same at le in
      ap (λ n. 2 + n) (prefix_cut is_within_character (drop 1 v) (omega arith)) ∙ ap (λ x. 2 + prefix_len is_within_character x) (sym same)
  character_len_cut false v le = refl

  character_cut : (v : Text) (m : ℕ) → character_rest (v ++ y) ≡ Some m → m ≤ length v → character_rest v ≡ Some m
  character_cut [] m is le =
      let got = some_of (is_character y) (character_len y + 1) m is in
      let e : character_len y + 1 ≡ m = got.1 in
      absurd (omega arith)
  character_cut (a ∷ v) m is le =
      let l = character_len (a ∷ (v ++ y)) in
      let got = some_of (is_character (a ∷ (v ++ y))) (l + 1) m is in
      let e : l + 1 ≡ m = got.1 in
      let len : character_len (a ∷ v) ≡ l = character_len_cut (begins (codes "\\") (a ∷ v)) v (omega arith) in
      let same : is_character (a ∷ v) ≡ is_character (a ∷ (v ++ y)) =
      ap (λ n. is_within_character a && (slice_index (a ∷ v) n == single_quote)) len
      ∙ ap (λ c. is_within_character a && (c == single_quote)) (sym (get_or_append_left (a ∷ v) y 0 l (omega arith))) in
      ap₂ (λ b n. if b then Some (n + 1) else None) (same ∙ got.0) len ∙ ap Some e

  -- ---- the fractions and exponents of numbers

  not_more : (b c : Bool) → (b ≡ true → c ≡ true) → c ≡ false → b ≡ false
  not_more b c h none = false_from_ne_true b (λ e. both_ways c none (h e))

  fraction_at : (c : ℕ) (v : Text) (t b s : Bool) → begins (codes ".") (c ∷ v) ≡ t → begins (codes ".") (v ++ y) ≡ b → starts_word (v ++ y) ≡ s
      → (t ≡ true → (b || s) ≡ true → ⊥) → (if t && not (b || s) then 1 + digits_len Decimal (v ++ y) else 0) ≤ suc (length v)
      → fraction_len (c ∷ v) ≡ (if t && not (b || s) then 1 + digits_len Decimal (v ++ y) else 0)
  fraction_at c v false b s e f g dots le = ap (λ t. if t && not (begins (codes ".") v || starts_word v) then 1 + digits_len Decimal v else 0) e
  fraction_at c v true true s e f g dots le = absurd (dots refl refl)
  fraction_at c v true false true e f g dots le = absurd (dots refl refl)
  fraction_at c v true false false e f g dots le =
      ap (λ t. if t && not (begins (codes ".") v || starts_word v) then 1 + digits_len Decimal v else 0) e
      ∙ ap₂ (λ b s. if not (b || s) then 1 + digits_len Decimal v else 0) (not_more (begins (codes ".") v) (begins (codes ".") (v ++ y)) (begins_more (codes ".") v) f)
      (not_more (starts_word v) (starts_word (v ++ y)) (starts_more v) g)
      ∙ ap (λ n. 1 + n) (digits_cut Decimal v (omega arith))

  abbrev mark_of : Bool → Bool → ℕ
  mark_of a b = if a || b then 2 else 1

  mark_some : (a b : Bool) → 1 ≤ mark_of a b
  mark_some true b = omega arith
  mark_some false true = omega arith
  mark_some false false = omega arith

  Exponents : Text → Type 0
  Exponents v = (exponent_len v ≡ exponent_len (v ++ y)) × (bad_exponent v ≡ false)

  exponent_at : (c : ℕ) (v : Text) → has_digit Decimal (drop (exponent_mark_len (c ∷ (v ++ y))) (c ∷ (v ++ y))) ≡ true
      → exponent_mark_len (c ∷ (v ++ y)) + digits_len Decimal (drop (exponent_mark_len (c ∷ (v ++ y))) (c ∷ (v ++ y))) ≤ suc (length v)
      → (exponent_mark_len (c ∷ v) + digits_len Decimal (drop (exponent_mark_len (c ∷ v)) (c ∷ v))
      ≡ exponent_mark_len (c ∷ (v ++ y)) + digits_len Decimal (drop (exponent_mark_len (c ∷ (v ++ y))) (c ∷ (v ++ y))))
      × (has_digit Decimal (drop (exponent_mark_len (c ∷ v)) (c ∷ v)) ≡ true)
  exponent_at c v some le =
      let m = exponent_mark_len (c ∷ (v ++ y)) in
      let x = drop m (c ∷ v) in
      let one : 1 ≤ m = mark_some (begins (codes "+") (v ++ y)) (begins (codes "-") (v ++ y)) in
      let counts = digit_counts Decimal (drop m (c ∷ (v ++ y))) some in
      let mark : exponent_mark_len (c ∷ v) ≡ m =
      ap₂ mark_of (sym (begins_cut (codes "+") v (omega arith))) (sym (begins_cut (codes "-") v (omega arith))) in
      let same : drop m (c ∷ (v ++ y)) ≡ x ++ y = drop-append-le m (c ∷ v) y (omega arith) in
      let left : length x ≡ suc (length v) - m = length-drop m (c ∷ v) in
      let f : m + digits_len Decimal (x ++ y) ≤ suc (length v) = rw same at le in
      let g : has_digit Decimal (x ++ y) ≡ true = ap (has_digit Decimal) (sym same) ∙ some in (
        ap (λ n. n + digits_len Decimal (drop n (c ∷ v))) mark
            ∙ ap (λ n. m + n) (digits_cut Decimal x (omega arith)) ∙ ap (λ u. m + digits_len Decimal u) (sym same),
        ap (λ n. has_digit Decimal (drop n (c ∷ v))) mark ∙ has_digit_cut Decimal x (omega arith) g,
      )

  exponent_cut : (v : Text) → exponent_len (v ++ y) ≤ length v → bad_exponent (v ++ y) ≡ false → Exponents v
  unfolding Exponents
  exponent_cut [] le good = (omega arith, refl)
  exponent_cut (c ∷ v) le good = by (begins_exponent (c ∷ v)) refl le good
    where
      by : (b : Bool) → begins_exponent (c ∷ v) ≡ b
          → (if b then exponent_mark_len (c ∷ (v ++ y)) + digits_len Decimal (drop (exponent_mark_len (c ∷ (v ++ y))) (c ∷ (v ++ y))) else 0) ≤ suc (length v)
          → (b && not (is_exponent (c ∷ (v ++ y)))) ≡ false
          → (exponent_len (c ∷ v) ≡ exponent_len (c ∷ (v ++ y))) × (bad_exponent (c ∷ v) ≡ false)
      by true e l g =
          let got = exponent_at c v (not-false (is_exponent (c ∷ (v ++ y))) g) l in (
            ap (λ b. if b then exponent_mark_len (c ∷ v) + digits_len Decimal (drop (exponent_mark_len (c ∷ v)) (c ∷ v)) else 0) e
                ∙ got.0
                ∙ ap (λ b. if b then exponent_mark_len (c ∷ (v ++ y)) + digits_len Decimal (drop (exponent_mark_len (c ∷ (v ++ y))) (c ∷ (v ++ y))) else 0) (sym e),
            ap (λ b. begins_exponent (c ∷ v) && not b) got.1 ∙ by_false (begins_exponent (c ∷ v)),
          )
        where
          by_false : (b : Bool) → (b && false) ≡ false
          by_false true = refl
          by_false false = refl
      by false e l g = (
        ap (λ b. if b then exponent_mark_len (c ∷ v) + digits_len Decimal (drop (exponent_mark_len (c ∷ v)) (c ∷ v)) else 0) e
            ∙ ap (λ b. if b then exponent_mark_len (c ∷ (v ++ y)) + digits_len Decimal (drop (exponent_mark_len (c ∷ (v ++ y))) (c ∷ (v ++ y))) else 0) (sym e),
        ap (λ b. b && not (is_exponent (c ∷ v))) e,
      )

  -- ---- raw strings

  raw_prefix_cut : (w : Text) → 2 ≤ length w → raw_prefix_len (w ++ y) ≡ raw_prefix_len w
  raw_prefix_cut w le =
      ap (λ b. prefix_of b (begins (codes "br") (w ++ y)) (begins (codes "cr") (w ++ y))) (begins_cut (codes "r") w (omega arith))
      ∙ ap₂ (λ b c. prefix_of (begins (codes "r") w) b c) (begins_cut (codes "br") w le) (begins_cut (codes "cr") w le)

  opens_long : (v : Text) → opens_raw_string v ≡ true → hashes_len v < length v
  opens_long v h =
      let le : 1 ≤ length (drop (hashes_len v) v) = begins-fits (codes "\"") (drop (hashes_len v) v) h in
      let left : length (drop (hashes_len v) v) ≡ length v - hashes_len v = length-drop (hashes_len v) v in
      omega arith

  opens_more : (v : Text) → opens_raw_string v ≡ true → opens_raw_string (v ++ y) ≡ true
  opens_more v h =
      let long = opens_long v h in
      ap (λ n. begins (codes "\"") (drop n (v ++ y))) (prefix_more y is_hash v long)
      ∙ ap (begins (codes "\"")) (drop-append-le (hashes_len v) v y (omega arith))
      ∙ begins_more (codes "\"") (drop (hashes_len v) v) h

  raw_string_more : (w : Text) → begins_raw_string w ≡ true → begins_raw_string (w ++ y) ≡ true
  raw_string_more w h =
      let p = raw_prefix_len w in
      let parts = and_parts (not (p == 0)) (opens_raw_string (drop p w)) h in
      let one : 1 ≤ p = one_at_least p parts.0 in
      let long = opens_long (drop p w) parts.1 in
      let left : length (drop p w) ≡ length w - p = length-drop p w in
      ap (λ n. not (n == 0) && opens_raw_string (drop n (w ++ y))) (raw_prefix_cut w (omega arith))
      ∙ and_from (not (p == 0)) (opens_raw_string (drop p (w ++ y))) parts.0
      (ap opens_raw_string (drop-append-le p w y (omega arith)) ∙ opens_more (drop p w) parts.1)

  opens_cut : (v : Text) → hashes_len (v ++ y) + 1 ≤ length v → opens_raw_string (v ++ y) ≡ true → opens_raw_string v ≡ true
  opens_cut v le h =
      let n = hashes_len (v ++ y) in
      let left : length (drop n v) ≡ length v - n = length-drop n v in
      ap (λ m. begins (codes "\"") (drop m v)) (prefix_cut is_hash v (omega arith))
      ∙ sym (begins_cut (codes "\"") (drop n v) (omega arith))
      ∙ ap (begins (codes "\"")) (sym (drop-append-le n v y (omega arith))) ∙ h

  string_more : (w : Text) → begins_string w ≡ true → begins_string (w ++ y) ≡ true
  string_more w =
      or_three (begins (codes "\"") w) (begins (codes "b\"") w) (begins (codes "c\"") w)
      (begins (codes "\"") (w ++ y)) (begins (codes "b\"") (w ++ y)) (begins (codes "c\"") (w ++ y))
      (begins_more (codes "\"") w) (begins_more (codes "b\"") w) (begins_more (codes "c\"") w)

  raw_word_more : (w : Text) → begins_raw_word w ≡ true → begins_raw_word (w ++ y) ≡ true
  raw_word_more w h =
      let parts = and_parts (begins (codes "r#") w) (starts_word (drop 2 w)) h in
      and_from (begins (codes "r#") (w ++ y)) (starts_word (drop 2 (w ++ y))) (begins_more (codes "r#") w parts.0)
      (ap starts_word (drop-append-le 2 w y (begins-fits (codes "r#") w parts.0)) ∙ starts_more (drop 2 w) parts.1)

  -- ---- the fraction, where a `.` behind the digits is no part of the number

  no_tail : (x : Text) → exponent_len (46 ∷ x) + suffix_len (drop (exponent_len (46 ∷ x)) (46 ∷ x)) ≡ 0
  no_tail x =
      let none : is_word_start 46 ≡ false = is_xid_start-ascii 46 (omega arith) in
      ap (λ b. 0 + cond b (word_len (46 ∷ x)) 0) none

  fraction_whole : (u : Text) → fraction_len (u ++ y) ≤ length u
      → (fraction_len (u ++ y) ≡ 0 → exponent_len (u ++ y) + suffix_len (drop (exponent_len (u ++ y)) (u ++ y)) ≡ length u)
      → fraction_len u ≡ fraction_len (u ++ y)
  fraction_whole [] le rest = omega arith
  fraction_whole (c ∷ u) le rest =
      fraction_at c u (begins (codes ".") (c ∷ u)) (begins (codes ".") (u ++ y)) (starts_word (u ++ y)) refl refl refl
      (λ dot more.
      let same : 46 ≡ c = eqb-true 46 c (and_parts (nat_eq 46 c) true dot).0 in
      let zero_len : fraction_len (c ∷ (u ++ y)) ≡ 0 = ap₂ (λ t b. if t && not b then 1 + digits_len Decimal (u ++ y) else 0) dot more in
      let total = rest zero_len in
      let none = ap (λ d. exponent_len (d ∷ (u ++ y)) + suffix_len (drop (exponent_len (d ∷ (u ++ y))) (d ∷ (u ++ y)))) (sym same) ∙ no_tail (u ++ y) in
      absurd (no_length u (sym none ∙ total))) le
    where
      no_length : (u : Text) → 0 ≡ suc (length u) → ⊥
      no_length u e = omega arith

word_some : (x : Text) → 1 ≤ word_len x
word_some x = omega arith

not_zero : (p : ℕ) → 1 ≤ p → not (p == 0) ≡ true
not_zero p some = ap not (ne_eqb p 0 (λ e. omega arith))

-- a decimal number of so many digits, with what is behind them
abbrev decimal_of : ℕ → Text → Text → Reading
decimal_of d u x = decimal_at (bad_exponent (drop (fraction_len u) u)) (d + fraction_len u + exponent_len (drop (fraction_len u) u)) x

decimal_is : (a : ℕ) (x : Text) → decimal_number (a ∷ x) ≡ decimal_of (1 + digits_len Decimal x) (drop (1 + digits_len Decimal x) (a ∷ x)) (a ∷ x)
decimal_is a x =
    let d = 1 + digits_len Decimal x in
    let f = fraction_len (drop d (a ∷ x)) in
    ap (λ v. decimal_at (bad_exponent v) (d + f + exponent_len v) (a ∷ x)) (sym (drop-drop f d (a ∷ x)))

module _ (y : Text) (k : LexemeKind) (leaf : is_leaf k ≡ true) where
  -- the whole text is read as this
  abbrev Whole : Text → Reading → Type 0
  Whole w r = r ≡ Ok (k, length w)

  never : (w : Text) (r : Reading) → leaf_read r ≡ false → Whole w r → ⊥
  never w r none is = both_ways (is_leaf k) (sym (ap leaf_read is) ∙ none) leaf

  -- a branch that is taken with more text behind is taken without it
  abbrev Both : Text → (Text → Bool) → (Text → Reading) → Type 0
  Both w t f = t (w ++ y) ≡ true → Whole w (f (w ++ y)) → (t w ≡ true) × Whole w (f w)

  choose : (w : Text) (t : Text → Bool) (f h : Text → Reading) → (t w ≡ true → t (w ++ y) ≡ true) → Both w t f → (Whole w (h (w ++ y)) → Whole w (h w))
      → Whole w (if t (w ++ y) then f (w ++ y) else h (w ++ y)) → Whole w (if t w then f w else h w)
  choose w t f h more both rest is = by (t (w ++ y)) refl is
    where
      by : (b : Bool) → t (w ++ y) ≡ b → Whole w (if b then f (w ++ y) else h (w ++ y)) → Whole w (if t w then f w else h w)
      by true e i = let got = both e i in ap (λ b. if b then f w else h w) got.0 ∙ got.1
      by false e i =
          let none : t w ≡ false = false_from_ne_true (t w) (λ p. both_ways (t (w ++ y)) e (more p)) in
          ap (λ b. if b then f w else h w) none ∙ rest i

  literal_ends : (w : Text) (n : ℕ) → Whole w (Ok (literal_to (w ++ y) n)) → n ≤ length w
  literal_ends w n is = let e : n + suffix_len (drop n (w ++ y)) ≡ length w = ap end_of is in omega arith

  literal_whole : (w : Text) (n : ℕ) → Whole w (Ok (literal_to (w ++ y) n)) → Whole w (Ok (literal_to w n))
  literal_whole w n is = ap (λ s. Ok (kind.Literal, n + s)) (literal_cut y w n (ap end_of is)) ∙ is

  closed_ends : (w : Text) (n : ℕ) (o : Option ℕ) (u : ℕ) → Whole w (closed (w ++ y) n o u) → n ≤ length w
  closed_ends w n None u is = absurd cc
  closed_ends w n (Some m) u is = let le = literal_ends w (n + m) is in omega arith

  closed_at : (w : Text) (n : ℕ) (rest : Text → Option ℕ) (u v : ℕ) → Cuts y rest → (o : Option ℕ) → rest (drop n (w ++ y)) ≡ o
      → Whole w (closed (w ++ y) n o v) → Whole w (closed w n (rest (drop n w)) u)
  unfolding Cuts
  closed_at w n rest u v cuts None e is = absurd cc
  closed_at w n rest u v cuts (Some m) e is =
      let le : n + m ≤ length w = literal_ends w (n + m) is in
      let same : drop n (w ++ y) ≡ drop n w ++ y = drop-append-le n w y (omega arith) in
      let left : length (drop n w) ≡ length w - n = length-drop n w in
      let read : rest (drop n w) ≡ Some m = cuts (drop n w) m (ap rest (sym same) ∙ e) (omega arith) in
      ap (λ o. closed w n o u) read ∙ literal_whole w (n + m) is

  -- ---- strings

  string_cuts : Cuts y (string_rest false 0)
  unfolding Cuts
  string_cuts v m is le = string_rest_cut y false 0 v m is (omega arith)

  string_cut : (w : Text) → Both w begins_string string
  string_cut w t is = by (begins (codes "\"") (w ++ y)) refl t is
    where
      by : (b : Bool) → begins (codes "\"") (w ++ y) ≡ b → (b || begins (codes "b\"") (w ++ y) || begins (codes "c\"") (w ++ y)) ≡ true
          → Whole w (closed (w ++ y) (if b then 1 else 2) (string_rest false 0 (drop (if b then 1 else 2) (w ++ y))) (length (w ++ y)))
          → (begins_string w ≡ true) × Whole w (string w)
      by true e s i =
          let le = closed_ends w 1 (string_rest false 0 (drop 1 (w ++ y))) (length (w ++ y)) i in
          let q : begins (codes "\"") w ≡ true = sym (begins_cut y (codes "\"") w le) ∙ e in (
            ap (λ b. b || begins (codes "b\"") w || begins (codes "c\"") w) q,
            ap (λ b. closed w (if b then 1 else 2) (string_rest false 0 (drop (if b then 1 else 2) w)) (length w)) q
                ∙ closed_at w 1 (string_rest false 0) (length w) (length (w ++ y)) string_cuts (string_rest false 0 (drop 1 (w ++ y))) refl i,
          )
      by false e s i =
          let le = closed_ends w 2 (string_rest false 0 (drop 2 (w ++ y))) (length (w ++ y)) i in
          let q : begins (codes "\"") w ≡ false = sym (begins_cut y (codes "\"") w (omega arith)) ∙ e in (
            ap (λ b. b || begins (codes "b\"") w || begins (codes "c\"") w) q
                ∙ ap₂ (λ b c. false || b || c) (sym (begins_cut y (codes "b\"") w le)) (sym (begins_cut y (codes "c\"") w le)) ∙ s,
            ap (λ b. closed w (if b then 1 else 2) (string_rest false 0 (drop (if b then 1 else 2) w)) (length w)) q
                ∙ closed_at w 2 (string_rest false 0) (length w) (length (w ++ y)) string_cuts (string_rest false 0 (drop 2 (w ++ y))) refl i,
          )

  raw_cuts : (h : ℕ) → Cuts y (raw_string_rest h 0)
  unfolding Cuts
  raw_cuts h v m is le = raw_rest_cut y h 0 v m is (omega arith)

  raw_at_cut : (w : Text) (p : ℕ) → 1 ≤ p → raw_prefix_len w ≡ p → opens_raw_string (drop p (w ++ y)) ≡ true
      → Whole w (raw_at p (hashes_len (drop p (w ++ y))) (w ++ y)) → (begins_raw_string w ≡ true) × Whole w (raw_string w)
  raw_at_cut w p some e opens is =
      let h = hashes_len (drop p (w ++ y)) in
      let le : p + h + 1 ≤ length w = closed_ends w (p + h + 1) (raw_string_rest h 0 (drop (p + h + 1) (w ++ y))) (length (w ++ y)) is in
      let v = drop p w in
      let same : drop p (w ++ y) ≡ v ++ y = drop-append-le p w y (omega arith) in
      let left : length v ≡ length w - p = length-drop p w in
      let hash : h ≡ hashes_len (v ++ y) = ap hashes_len same in
      let size : hashes_len v ≡ h = prefix_cut y is_hash v (omega arith) ∙ sym hash in (
        ap (λ q. not (q == 0) && opens_raw_string (drop q w)) e
            ∙ and_from (not (p == 0)) (opens_raw_string v) (not_zero p some) (opens_cut y v (omega arith) (ap opens_raw_string (sym same) ∙ opens)),
        ap (λ q. raw_at q (hashes_len (drop q w)) w) e ∙ ap (λ n. raw_at p n w) size
            ∙ closed_at w (p + h + 1) (raw_string_rest h 0) (length w) (length (w ++ y)) (raw_cuts h) (raw_string_rest h 0 (drop (p + h + 1) (w ++ y))) refl is,
      )

  raw_string_cut : (w : Text) → Both w begins_raw_string raw_string
  raw_string_cut w t is =
      let p = raw_prefix_len (w ++ y) in
      let h = hashes_len (drop p (w ++ y)) in
      let parts = and_parts (not (p == 0)) (opens_raw_string (drop p (w ++ y))) t in
      let some = one_at_least p parts.0 in
      let le = closed_ends w (p + h + 1) (raw_string_rest h 0 (drop (p + h + 1) (w ++ y))) (length (w ++ y)) is in
      raw_at_cut w p some (sym (raw_prefix_cut y w (omega arith))) parts.1 is

  byte_cuts : Cuts y character_rest
  unfolding Cuts
  byte_cuts v m is le = character_cut y v m is le

  byte_cut : (w : Text) → Both w begins_byte byte
  byte_cut w t is =
      let le = closed_ends w 2 (character_rest (drop 2 (w ++ y))) (unclosed_len 2 (w ++ y)) is in (
        sym (begins_cut y (codes "b'") w le) ∙ t,
        closed_at w 2 character_rest (unclosed_len 2 w) (unclosed_len 2 (w ++ y)) byte_cuts (character_rest (drop 2 (w ++ y))) refl is,
      )

  -- ---- raw identifiers

  raw_word_ends : (w : Text) (n : ℕ) (b : Bool) → Whole w (if b then Err (ReservedRawIdentifier, 2 + n) else Ok (kind.Ident, 2 + n)) → 2 + n ≡ length w
  raw_word_ends w n true is = absurd cc
  raw_word_ends w n false is = ap end_of is

  raw_word_cut : (w : Text) → Both w begins_raw_word raw_word
  raw_word_cut w t is =
      let v = drop 2 w in
      let n = word_len (drop 2 (w ++ y)) in
      let some : 1 ≤ n = word_some (drop 2 (w ++ y)) in
      let fits : 2 + n ≡ length w = raw_word_ends w n (is_reserved_raw (take n (drop 2 (w ++ y)))) is in
      let same : drop 2 (w ++ y) ≡ v ++ y = drop-append-le 2 w y (omega arith) in
      let left : length v ≡ length w - 2 = length-drop 2 w in
      let e : n ≡ word_len (v ++ y) = ap word_len same in
      let size : word_len v ≡ n = word_cut y v (omega arith) (omega arith) ∙ sym e in
      let parts = and_parts (begins (codes "r#") (w ++ y)) (starts_word (drop 2 (w ++ y))) t in (
        and_from (begins (codes "r#") w) (starts_word v) (sym (begins_cut y (codes "r#") w (omega arith)) ∙ parts.0)
            (sym (starts_cut y v (omega arith)) ∙ ap starts_word (sym same) ∙ parts.1),
        ap (λ m. raw_word_at m (take m v)) size
            ∙ ap (raw_word_at n) (sym (take-append-le n v y (omega arith)) ∙ ap (take n) (sym same)) ∙ is,
      )

  -- ---- numbers

  number_at_ends : (w : Text) (n : ℕ) (a b : Bool) → Whole w (number_at a b (w ++ y) n) → (a ≡ true) × (b ≡ false) × Whole w (Ok (literal_to (w ++ y) n))
  number_at_ends w n true false is = (refl, refl, is)
  number_at_ends w n true true is = absurd cc
  number_at_ends w n false b is = absurd cc

  digit_behind : (w : Text) (n : ℕ) → is_ascii_digit (slice_index (w ++ y) n) ≡ false → is_ascii_digit (slice_index w n) ≡ false
  digit_behind w n h =
      elim (cases_lt n (length w)) [
        | inl less ↦ ap is_ascii_digit (sym (get_or_append_left w y 0 n less)) ∙ h
        | inr past ↦ ap is_ascii_digit (get_or_past w n 0 past)
      ]

  based_cut : (base : Base) (w : Text) → Whole w (based_number base (w ++ y)) → (2 ≤ length w) × Whole w (based_number base w)
  based_cut base w is =
      let v = drop 2 w in
      let x = drop 2 (w ++ y) in
      let end = 2 + digits_len base x in
      let got = number_at_ends w end (has_digit base x) (is_ascii_digit (slice_index (w ++ y) end)) is in
      let le : end ≤ length w = literal_ends w end got.2 in
      let same : x ≡ v ++ y = drop-append-le 2 w y (omega arith) in
      let left : length v ≡ length w - 2 = length-drop 2 w in
      let d : digits_len base x ≡ digits_len base (v ++ y) = ap (digits_len base) same in
      let size : digits_len base v ≡ digits_len base x = digits_cut y base v (omega arith) ∙ sym d in
      let some : has_digit base v ≡ true = has_digit_cut y base v (omega arith) (ap (has_digit base) (sym same) ∙ got.0) in (
        omega arith,
        ap (λ n. number_at (has_digit base v) (is_ascii_digit (slice_index w (2 + n))) w (2 + n)) size
            ∙ ap₂ (λ a b. number_at a b w end) some (digit_behind w end got.1) ∙ literal_whole w end got.2,
      )

  decimal_ends : (w : Text) (n : ℕ) (b : Bool) → Whole w (decimal_at b n (w ++ y)) → (b ≡ false) × Whole w (Ok (literal_to (w ++ y) n))
  decimal_ends w n true is = absurd cc
  decimal_ends w n false is = (refl, is)

  -- what is behind the digits, of a text that is d characters longer
  tail_of : (w u : Text) (d : ℕ) → d ≤ length w → drop d w ≡ u → Whole w (decimal_of d (u ++ y) (w ++ y)) → Whole w (decimal_of d u w)
  unfolding Exponents
  tail_of w u d le is_u is =
      let f = fraction_len (u ++ y) in
      let v = drop f (u ++ y) in
      let e = exponent_len v in
      let got = decimal_ends w (d + f + e) (bad_exponent v) is in
      let behind : drop d (w ++ y) ≡ u ++ y = drop-append-le d w y le ∙ ap (λ x. x ++ y) is_u in
      let last : drop (d + f + e) (w ++ y) ≡ drop e v =
      sym (drop-drop e (d + f) (w ++ y)) ∙ ap (drop e) (sym (drop-drop f d (w ++ y)) ∙ ap (drop f) behind) in
      let whole : d + f + e + suffix_len (drop (d + f + e) (w ++ y)) ≡ length w = ap end_of got.1 in
      let total : d + f + e + suffix_len (drop e v) ≡ length w = ap (λ x. d + f + e + suffix_len x) (sym last) ∙ whole in
      let size : length u ≡ length w - d = ap length (sym is_u) ∙ length-drop d w in
      let fraction : fraction_len u ≡ f =
      fraction_whole y u (omega arith) (λ none.
      let same : exponent_len (drop f (u ++ y)) + suffix_len (drop (exponent_len (drop f (u ++ y))) (drop f (u ++ y)))
      ≡ exponent_len (u ++ y) + suffix_len (drop (exponent_len (u ++ y)) (u ++ y)) =
      ap (λ n. exponent_len (drop n (u ++ y)) + suffix_len (drop (exponent_len (drop n (u ++ y))) (drop n (u ++ y)))) none in
      sym same ∙ (omega arith)) in
      let x = drop f u in
      let cut : v ≡ x ++ y = drop-append-le f u y (omega arith) in
      let rest : length x ≡ length u - f = length-drop f u in
      let e_is : e ≡ exponent_len (x ++ y) = ap exponent_len cut in
      let exponent = exponent_cut y x (omega arith) (ap bad_exponent (sym cut) ∙ got.0) in
      ap (λ n. decimal_at (bad_exponent (drop n u)) (d + n + exponent_len (drop n u)) w) fraction
      ∙ ap₂ (λ b n. decimal_at b (d + f + n) w) exponent.1 (exponent.0 ∙ sym e_is)
      ∙ literal_whole w (d + f + e) got.1

  decimal_cut : (a : ℕ) (w : Text) → Whole (a ∷ w) (decimal_number (a ∷ (w ++ y))) → Whole (a ∷ w) (decimal_number (a ∷ w))
  decimal_cut a w is =
      let d = 1 + digits_len Decimal (w ++ y) in
      let u = drop d (a ∷ (w ++ y)) in
      let f = fraction_len u in
      let read : Whole (a ∷ w) (decimal_of d u (a ∷ (w ++ y))) = sym (decimal_is a (w ++ y)) ∙ is in
      let got = decimal_ends (a ∷ w) (d + f + exponent_len (drop f u)) (bad_exponent (drop f u)) read in
      let le : d + f + exponent_len (drop f u) ≤ suc (length w) = literal_ends (a ∷ w) (d + f + exponent_len (drop f u)) got.1 in
      let size : digits_len Decimal w ≡ digits_len Decimal (w ++ y) = digits_cut y Decimal w (omega arith) in
      let same : u ≡ drop d (a ∷ w) ++ y = drop-append-le d (a ∷ w) y (omega arith) in
      decimal_is a w
      ∙ ap (λ n. decimal_of (1 + n) (drop (1 + n) (a ∷ w)) (a ∷ w)) size
      ∙ tail_of (a ∷ w) (drop d (a ∷ w)) d (omega arith) refl (ap (λ x. decimal_of d x (a ∷ (w ++ y))) (sym same) ∙ read)

  number_cut : (a : ℕ) (w : Text) → Whole (a ∷ w) (number (a ∷ (w ++ y))) → Whole (a ∷ w) (number (a ∷ w))
  number_cut a w is =
      let v = a ∷ w in
      choose v (λ x. begins (codes "0x") x) (based_number Hexadecimal) number_2 (begins_more y (codes "0x") v)
      (λ t i. let got = based_cut Hexadecimal v i in (sym (begins_cut y (codes "0x") v got.0) ∙ t, got.1))
      (choose v (λ x. begins (codes "0o") x) (based_number Octal) number_3 (begins_more y (codes "0o") v)
      (λ t i. let got = based_cut Octal v i in (sym (begins_cut y (codes "0o") v got.0) ∙ t, got.1))
      (choose v (λ x. begins (codes "0b") x) (based_number Binary) decimal_number (begins_more y (codes "0b") v)
      (λ t i. let got = based_cut Binary v i in (sym (begins_cut y (codes "0b") v got.0) ∙ t, got.1))
      (decimal_cut a w))) is

  -- ---- characters

  quote_cut : (a : ℕ) (w : Text) → Whole (a ∷ w) (character_or_lifetime (a ∷ (w ++ y))) → Whole (a ∷ w) (character_or_lifetime (a ∷ w))
  quote_cut a w is = by (is_character (w ++ y)) (begins (codes "\\") (w ++ y)) refl is
    where
      by : (c e : Bool) → is_character (w ++ y) ≡ c → Whole (a ∷ w) (quoted c e (a ∷ (w ++ y))) → Whole (a ∷ w) (character_or_lifetime (a ∷ w))
      by true e same i =
          let n = character_len (w ++ y) + 1 in
          let rest : character_rest (w ++ y) ≡ Some n = ap (λ c. if c then Some n else None) same in
          let read : Whole (a ∷ w) (closed (a ∷ (w ++ y)) 1 (Some n) (unclosed_len 1 (a ∷ (w ++ y)))) =
          ap (λ o. closed (a ∷ (w ++ y)) 1 o (unclosed_len 1 (a ∷ (w ++ y)))) (sym rest) ∙ i in
          let le : 1 + n ≤ suc (length w) = literal_ends (a ∷ w) (1 + n) read in
          let cut : character_rest w ≡ Some n = character_cut y w n rest (omega arith) in
          let is_one = (some_of (is_character w) (character_len w + 1) n cut).0 in
          ap (λ c. quoted c (begins (codes "\\") w) (a ∷ w)) is_one
          ∙ closed_at (a ∷ w) 1 character_rest (unclosed_len 1 (a ∷ w)) (unclosed_len 1 (a ∷ (w ++ y))) byte_cuts (character_rest (w ++ y)) refl i
      by false true same i =
          absurd (never (a ∷ w) _ (ap (λ c. leaf_read (closed (a ∷ (w ++ y)) 1 (if c then Some (character_len (w ++ y) + 1) else None) (unclosed_len 1 (a ∷ (w ++ y))))) same) i)
      by false false same i = absurd (never (a ∷ w) _ (read_no_leaf (begins_plain_word (w ++ y)) _ _ refl refl) i)

  -- ---- what is at the front

  plain_cut : (a : ℕ) (w : Text) → Whole (a ∷ w) (Ok (kind.Ident, word_len (a ∷ (w ++ y)))) → Whole (a ∷ w) (Ok (kind.Ident, word_len (a ∷ w)))
  plain_cut a w is =
      let e : word_len (a ∷ (w ++ y)) ≡ suc (length w) = ap end_of is in
      ap (λ n. Ok (kind.Ident, n)) (word_cut y (a ∷ w) (omega arith) (omega arith)) ∙ is

  token_cut : (a : ℕ) (w : Text) → Whole (a ∷ w) (token (a ∷ (w ++ y))) → Whole (a ∷ w) (token (a ∷ w))
  unfolding token
  token_cut a w is =
      let v = a ∷ w in
      choose v begins_string string token_2 (string_more y v) (string_cut v)
      (choose v begins_raw_string raw_string token_3 (raw_string_more y v) (raw_string_cut v)
      (choose v begins_byte byte token_4 (begins_more y (codes "b'") v) (byte_cut v)
      (choose v begins_raw_word raw_word token_5 (raw_word_more y v) (raw_word_cut v)
      (choose v starts_word (λ x. Ok (kind.Ident, word_len x)) token_6 (λ t. t) (λ t i. (t, plain_cut a w i))
      (choose v (λ x. is_ascii_digit (slice_index x 0)) number token_7 (λ t. t) (λ t i. (t, number_cut a w i))
      (choose v (λ x. slice_index x 0 == single_quote) character_or_lifetime single (λ t. t) (λ t i. (t, quote_cut a w i))
      (λ i. absurd (never v (single (v ++ y)) (single_no_leaf (v ++ y)) i)))))))) is

  reading_cut : (a : ℕ) (w : Text) → Whole (a ∷ w) (reading (a ∷ (w ++ y))) → Whole (a ∷ w) (reading (a ∷ w))
  unfolding reading
  reading_cut a w is =
      let v = a ∷ w in
      choose v (λ x. is_white_space (slice_index x 0)) (λ x. Ok (kind.Blank, white_space_len x)) reading_2 (λ t. t)
      (λ t i. absurd (never v (Ok (kind.Blank, white_space_len (v ++ y))) refl i))
      (choose v begins_line_comment line_comment reading_3 (begins_more y (codes "//") v)
      (λ t i. absurd (never v (line_comment (v ++ y)) (line_no_leaf (v ++ y)) i))
      (choose v begins_block_comment block_comment token (begins_more y (codes "/*") v)
      (λ t i. absurd (never v (block_comment (v ++ y)) (comment_no_leaf (v ++ y) (comment_rest false 0 0 (drop 2 (v ++ y)))) i))
      (token_cut a w))) is

  -- what is at the front is all of its own text
  pub front_cut : (w : Text) → 1 ≤ length w → front (w ++ y) ≡ Some (k, length w) → front w ≡ Some (k, length w)
  unfolding front
  front_cut [] le is = absurd (omega arith)
  front_cut (a ∷ w) le is = ap of_reading (reading_cut a w (read_is (reading (a ∷ (w ++ y))) k (length (a ∷ w)) is))
