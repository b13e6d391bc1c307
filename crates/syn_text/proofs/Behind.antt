-- A word or a literal that is a whole text is at the front of that text also where more text is behind it, unless white
-- space has to stand between them.
use Rattle.std.proofs.Common.{◌≡◌, ℕ, suc, ◌+◌, ◌-◌, ◌≤◌, ◌<◌, Bool, true, false, not, ◌&&◌, ◌||◌, cond, [], ◌∷◌, ◌++◌, length, take, drop, slice_index, nat_eq, refl, sym, ◌∙◌, ap, inl, inr, arith, codes, Option, Some, None, Ok, Err}
use Rattle.std.specs.Prelude.{◌==◌, ◌⊎◌, if◌then◌else◌, nat_le, reverse}
use Rattle.std.specs.Char.{is_ascii_digit}
use Rattle.std.specs.List.{prefix_len, list_all}
use Rattle.std.proofs.lemmas.Bool.{and_parts, and_from, and_cases, and_left, and_right, or_left, or_parts, both_ways, eqb-true, ne_eqb, cases_eq}
use Rattle.std.proofs.lemmas.List.{drop-append-le, take-append-le, take-append-drop, length-drop, get_or_append_left, reverse-append}
use Rattle.std.proofs.lemmas.List.Sums.{prefix_len-le-length}
use Rattle.syn_lexer.specs.Text.{Text, Reading, begins, double_quote, single_quote, backslash}
use Rattle.syn_lexer.specs.Blanks.{is_white_space, white_space_len, begins_line_comment, line_comment, is_line_doc, begins_block_comment, block_comment, comment_to, comment_rest, is_block_doc}
use Rattle.syn_lexer.specs.Words.{starts_word, word_len, suffix_len, literal_to, begins_raw_word, is_reserved_raw, raw_word}
use Rattle.syn_lexer.specs.Numbers.{is_digit_or_underscore, digits_len, has_digit, based_number, fraction_len, begins_exponent, exponent_mark_len, is_exponent, exponent_len, significand_len, decimal_number, number}
use Rattle.syn_lexer.specs.Quotes.{closed, string_rest, is_hash, hashes_len, raw_string_rest, raw_prefix_len, opens_raw_string, begins_raw_string, begins_string, begins_byte, string_opening_len, string, raw_string, byte, is_within_character, character_len, is_character, character_rest, unclosed_len, begins_plain_word, character_or_lifetime}
use Rattle.syn_lexer.specs.Lex.{is_punct, single_kind, single, one_character, token, reading, of_reading, front, spacing_before}
use Rattle.syn_lexer.specs.declared.front.LexemeKind.{LexemeKind}
use Rattle.syn_lexer.specs.declared.front.LexemeKind.TheVariants as kind
use Rattle.syn_lexer.specs.declared.error.LexError.TheVariants.{MalformedLiteral, ReservedRawIdentifier}
use Rattle.syn_lexer.specs.declared.number.Base.{Base}
use Rattle.syn_lexer.specs.declared.number.Base.TheVariants.{Binary, Octal, Decimal, Hexadecimal}
use Rattle.syn_text.proofs.Branches.{number_2, number_3, token_2, token_3, token_4, token_5, token_6, token_7, reading_2, reading_3, end_of, prefix_of, raw_at, quoted, raw_word_at, number_at, bad_exponent, decimal_at}
use Rattle.unicode_ident.specs.Ident.{is_xid_start}
use Rattle.unicode_ident.proofs.IdentLemmas.{is_xid_start-ascii}
use Rattle.syn_text.specs.Must.{is_whole_number, takes_dot}
use Rattle.syn_text.proofs.Stops.{Ends, halts-ascii_digit, begins-stops, begins-fits, and_same, at-stops, none_more, halts-digit_or_underscore, starts_word-stops, word_len-stops, suffix_len-stops, digits_len-stops, hashes_len-stops, has_digit-stops, mark_fits, quote_within, prefix_more}

-- an identifier or a literal
abbrev pub is_leaf : LexemeKind → Bool
is_leaf kind.Ident = true
is_leaf kind.Literal = true
is_leaf _ = false

abbrev pub leaf_read : Reading → Bool
leaf_read (Ok p) = is_leaf p.0
leaf_read (Err e) = false

-- ---- what reads no identifier and no literal

leaf_of : Option LexemeKind → Bool
leaf_of None = false
leaf_of (Some k) = is_leaf k

if_no_leaf : (b : Bool) (x y : Option LexemeKind) → leaf_of x ≡ false → leaf_of y ≡ false → leaf_of (if b then x else y) ≡ false
if_no_leaf true x y p q = p
if_no_leaf false x y p q = q

one_no_leaf : (o : Option LexemeKind) → leaf_of o ≡ false → leaf_read (one_character o) ≡ false
unfolding leaf_of
one_no_leaf None h = refl
one_no_leaf (Some k) h = h

pub single_no_leaf : (y : Text) → leaf_read (single y) ≡ false
unfolding single_kind leaf_of
single_no_leaf y =
    let c = slice_index y 0 in
    one_no_leaf _ (if_no_leaf (c == 40) _ _ refl (if_no_leaf (c == 41) _ _ refl (if_no_leaf (c == 91) _ _ refl (if_no_leaf (c == 93) _ _ refl
    (if_no_leaf (c == 123) _ _ refl (if_no_leaf (c == 125) _ _ refl (if_no_leaf (is_punct c) (Some (kind.Punct c (spacing_before (drop 1 y)))) None refl refl)))))))

pub read_no_leaf : (b : Bool) (x y : Reading) → leaf_read x ≡ false → leaf_read y ≡ false → leaf_read (if b then x else y) ≡ false
read_no_leaf true x y p q = p
read_no_leaf false x y p q = q

pub line_no_leaf : (y : Text) → leaf_read (line_comment y) ≡ false
line_no_leaf y = read_no_leaf (is_line_doc y) _ _ refl refl

pub comment_no_leaf : (y : Text) (o : Option ℕ) → leaf_read (comment_to y o) ≡ false
comment_no_leaf y None = refl
comment_no_leaf y (Some n) = read_no_leaf (is_block_doc y) _ _ refl refl

pub read_is : (r : Reading) (k : LexemeKind) (n : ℕ) → of_reading r ≡ Some (k, n) → r ≡ Ok (k, n)
read_is (Ok p) k n is = cc
read_is (Err e) k n is = absurd cc

-- `/` begins no word and no literal
slash_no_leaf : (w : Text) → leaf_read (reading (47 ∷ w)) ≡ false
unfolding reading token
slash_no_leaf w =
    let none : is_xid_start 47 ≡ false = is_xid_start-ascii 47 (omega arith) in
    let y = 47 ∷ w in
    rw none (read_no_leaf (begins_line_comment y) (line_comment y) _ (line_no_leaf y)
    (read_no_leaf (begins_block_comment y) (block_comment y) _ (comment_no_leaf y (comment_rest false 0 0 (drop 2 y))) (single_no_leaf y)))

-- another character begins no comment
no_slash : (a : ℕ) (m x y : Text) → (a ≡ 47 → ⊥) → begins (47 ∷ m) (a ∷ x) ≡ begins (47 ∷ m) (a ∷ y)
no_slash a m x y other =
    let e : nat_eq 47 a ≡ false = ne_eqb 47 a (λ f. other (sym f)) in
    and_left (nat_eq 47 a) (begins m x) e ∙ sym (and_left (nat_eq 47 a) (begins m y) e)

one_passes : (b all : Bool) (k n : ℕ) → (n ≤ k → all ≡ true) → suc n ≤ cond b (1 + k) 0 → (b && all) ≡ true
one_passes true all k n more le = more (omega arith)
one_passes false all k n more le = absurd (omega arith)

all_pass : (p : ℕ → Bool) (w : Text) → length w ≤ prefix_len p w → list_all p w ≡ true
all_pass p [] h = refl
all_pass p (c ∷ w) h = one_passes (p c) (list_all p w) (prefix_len p w) (length w) (all_pass p w) h

module _ (z : Text) (s : Ends z) where
  pub raw_word_same : (w : Text) → begins_raw_word (w ++ z) ≡ begins_raw_word w
  raw_word_same w =
      and_same (begins (codes "r#") w) (begins (codes "r#") (w ++ z)) (starts_word (drop 2 w)) (starts_word (drop 2 (w ++ z)))
      (begins-stops z s (codes "r#") w refl)
      (λ e. ap starts_word (drop-append-le 2 w z (begins-fits (codes "r#") w e)) ∙ starts_word-stops z s (drop 2 w))

module _ (z : Text) (s : Ends z) (k : LexemeKind) (leaf : is_leaf k ≡ true) where
  -- the whole text is read as this, and with more behind it
  abbrev Whole : Text → Reading → Type 0
  Whole w r = r ≡ Ok (k, length w)

  never : (w : Text) (r : Reading) → leaf_read r ≡ false → Whole w r → ⊥
  never w r none is = both_ways (is_leaf k) (sym (ap leaf_read is) ∙ none) leaf

  choose : (w : Text) (t : Text → Bool) (f h : Text → Reading) → t (w ++ z) ≡ t w
      → (Whole w (f w) → Whole w (f (w ++ z))) → (Whole w (h w) → Whole w (h (w ++ z)))
      → Whole w (if t w then f w else h w) → Whole w (if t (w ++ z) then f (w ++ z) else h (w ++ z))
  choose w t f h e keep_f keep_h is = rw e (by (t w) is)
    where
      by : (b : Bool) → Whole w (if b then f w else h w) → Whole w (if b then f (w ++ z) else h (w ++ z))
      by true i = keep_f i
      by false i = keep_h i

  choose_on : (w : Text) (t : Text → Bool) (f h : Text → Reading) → t (w ++ z) ≡ t w
      → (t w ≡ true → Whole w (f w) → Whole w (f (w ++ z))) → (Whole w (h w) → Whole w (h (w ++ z)))
      → Whole w (if t w then f w else h w) → Whole w (if t (w ++ z) then f (w ++ z) else h (w ++ z))
  choose_on w t f h e keep_f keep_h is = rw e (by (t w) refl is)
    where
      by : (b : Bool) → t w ≡ b → Whole w (if b then f w else h w) → Whole w (if b then f (w ++ z) else h (w ++ z))
      by true on i = keep_f on i
      by false on i = keep_h i

  -- a literal doesn't take the `.` behind it
  abbrev Dots : Text → Type 0
  Dots w = k ≡ kind.Literal → (begins (codes ".") z && takes_dot w (drop 1 z)) ≡ false

  -- ---- literals up to a place

  literal_fits : (w : Text) (n : ℕ) → Whole w (Ok (literal_to w n)) → n ≤ length w
  literal_fits w n is = let e : n + suffix_len (drop n w) ≡ length w = ap end_of is in omega arith

  literal_same : (w : Text) (n : ℕ) → n ≤ length w → literal_to (w ++ z) n ≡ literal_to w n
  literal_same w n le = ap (λ l. (kind.Literal, n + l)) (ap suffix_len (drop-append-le n w z le) ∙ suffix_len-stops z s (drop n w))

  literal_keeps : (w : Text) (n : ℕ) → Whole w (Ok (literal_to w n)) → Whole w (Ok (literal_to (w ++ z) n))
  literal_keeps w n is = ap Ok (literal_same w n (literal_fits w n is)) ∙ is

  -- ---- what is closed

  closed_fits : (w : Text) (n : ℕ) (o : Option ℕ) (u : ℕ) → Whole w (closed w n o u) → n ≤ length w
  closed_fits w n None u is = absurd cc
  closed_fits w n (Some m) u is = let le = literal_fits w (n + m) is in omega arith

  Keeps : (Text → Option ℕ) → Type 0
  Keeps rest = (v : Text) (m : ℕ) → rest v ≡ Some m → rest (v ++ z) ≡ Some m

  closed_at : (w : Text) (n : ℕ) (rest : Text → Option ℕ) (u v : ℕ) → Keeps rest → (o : Option ℕ) → rest (drop n w) ≡ o
      → Whole w (closed w n o u) → Whole w (closed (w ++ z) n (rest (drop n (w ++ z))) v)
  unfolding Keeps
  closed_at w n rest u v keeps None e is = absurd cc
  closed_at w n rest u v keeps (Some m) e is =
      let le : n + m ≤ length w = literal_fits w (n + m) is in
      let same : rest (drop n (w ++ z)) ≡ Some m = ap rest (drop-append-le n w z (omega arith)) ∙ keeps (drop n w) m e in
      ap (λ o. closed (w ++ z) n o v) same ∙ literal_keeps w (n + m) is

  closed_keeps : (w : Text) (n : ℕ) (rest : Text → Option ℕ) (u v : ℕ) → Keeps rest
      → Whole w (closed w n (rest (drop n w)) u) → Whole w (closed (w ++ z) n (rest (drop n (w ++ z))) v)
  closed_keeps w n rest u v keeps is = closed_at w n rest u v keeps (rest (drop n w)) refl is

  some_keeps : (b : Bool) (m n : ℕ) (x y : Option ℕ) → (x ≡ Some m → y ≡ Some m) → (if b then Some n else x) ≡ Some m → (if b then Some n else y) ≡ Some m
  some_keeps true m n x y h is = is
  some_keeps false m n x y h is = h is

  -- ---- strings

  string_rest_keeps : (b : Bool) (n : ℕ) (v : Text) (m : ℕ) → string_rest b n v ≡ Some m → string_rest b n (v ++ z) ≡ Some m
  string_rest_keeps b n [] m is = absurd cc
  string_rest_keeps true n (c ∷ v) m is = string_rest_keeps false (n + 1) v m is
  string_rest_keeps false n (c ∷ v) m is =
      some_keeps (c == double_quote) m (n + 1) (string_rest (c == backslash) (n + 1) v) (string_rest (c == backslash) (n + 1) (v ++ z))
      (string_rest_keeps (c == backslash) (n + 1) v m) is

  string_keeps : (w : Text) → Whole w (string w) → Whole w (string (w ++ z))
  unfolding Keeps
  string_keeps w is =
      ap (λ b. closed (w ++ z) (if b then 1 else 2) (string_rest false 0 (drop (if b then 1 else 2) (w ++ z))) (length (w ++ z))) (begins-stops z s (codes "\"") w refl)
      ∙ closed_keeps w (string_opening_len w) (string_rest false 0) (length w) (length (w ++ z)) (string_rest_keeps false 0) is

  raw_rest_keeps : (h n : ℕ) (v : Text) (m : ℕ) → raw_string_rest h n v ≡ Some m → raw_string_rest h n (v ++ z) ≡ Some m
  raw_rest_keeps h n [] m is = absurd cc
  raw_rest_keeps h n (c ∷ v) m is =
      ap (λ l. if c == double_quote && nat_le h l then Some (n + 1 + h) else raw_string_rest h (n + 1) (v ++ z)) (hashes_len-stops z s v)
      ∙ some_keeps (c == double_quote && nat_le h (hashes_len v)) m (n + 1 + h) (raw_string_rest h (n + 1) v) (raw_string_rest h (n + 1) (v ++ z))
      (raw_rest_keeps h (n + 1) v m) is

  prefix_fits : (n : ℕ) (r br cr : Bool) → (r ≡ true → 1 ≤ n) → (br ≡ true → 2 ≤ n) → (cr ≡ true → 2 ≤ n) → prefix_of r br cr ≤ n
  prefix_fits n true br cr f g h = f refl
  prefix_fits n false true cr f g h = g refl
  prefix_fits n false false true f g h = h refl
  prefix_fits n false false false f g h = omega arith

  raw_prefix_fits : (w : Text) → raw_prefix_len w ≤ length w
  raw_prefix_fits w =
      prefix_fits (length w) (begins (codes "r") w) (begins (codes "br") w) (begins (codes "cr") w)
      (begins-fits (codes "r") w) (begins-fits (codes "br") w) (begins-fits (codes "cr") w)

  raw_prefix_same : (w : Text) → raw_prefix_len (w ++ z) ≡ raw_prefix_len w
  raw_prefix_same w =
      ap (λ b. prefix_of b (begins (codes "br") (w ++ z)) (begins (codes "cr") (w ++ z))) (begins-stops z s (codes "r") w refl)
      ∙ ap (λ b. prefix_of (begins (codes "r") w) b (begins (codes "cr") (w ++ z))) (begins-stops z s (codes "br") w refl)
      ∙ ap (λ b. prefix_of (begins (codes "r") w) (begins (codes "br") w) b) (begins-stops z s (codes "cr") w refl)

  raw_keeps : (w : Text) → Whole w (raw_string w) → Whole w (raw_string (w ++ z))
  unfolding Keeps
  raw_keeps w is =
      let p = raw_prefix_len w in
      let h = hashes_len (drop p w) in
      ap (λ q. raw_at q (hashes_len (drop q (w ++ z))) (w ++ z)) (raw_prefix_same w)
      ∙ ap (λ l. raw_at p l (w ++ z)) (ap hashes_len (drop-append-le p w z (raw_prefix_fits w)) ∙ hashes_len-stops z s (drop p w))
      ∙ closed_keeps w (p + h + 1) (raw_string_rest h 0) (length w) (length (w ++ z)) (raw_rest_keeps h 0) is

  -- ---- characters

  character_len_same : (v : Text) → character_len v < length v → character_len (v ++ z) ≡ character_len v
  character_len_same [] le = absurd (omega arith)
  character_len_same (a ∷ v) le = by (begins (codes "\\") (a ∷ v)) le
    where
      by : (b : Bool) → (if b then 2 + prefix_len is_within_character (drop 1 v) else 1) < length (a ∷ v)
          → (if b then 2 + prefix_len is_within_character (drop 1 (v ++ z)) else 1) ≡ (if b then 2 + prefix_len is_within_character (drop 1 v) else 1)
      by true l =
          let long : 1 ≤ length v = omega arith in
          let left : length (drop 1 v) ≡ length v - 1 = length-drop 1 v in
          ap (λ y. 2 + prefix_len is_within_character y) (drop-append-le 1 v z long)
          ∙ ap (λ n. 2 + n) (prefix_more z is_within_character (drop 1 v) (omega arith))
      by false l = refl

  character_keeps : (v : Text) → is_character v ≡ true → is_character (v ++ z) ≡ true
  character_keeps [] is = absurd cc
  character_keeps (a ∷ v) is =
      let parts = and_parts (is_within_character a) (slice_index (a ∷ v) (character_len (a ∷ v)) == single_quote) is in
      let le : character_len (a ∷ v) < length (a ∷ v) = quote_within (a ∷ v) (character_len (a ∷ v)) parts.1 in
      ap (λ n. is_within_character a && (slice_index (a ∷ (v ++ z)) n == single_quote)) (character_len_same (a ∷ v) le)
      ∙ ap (λ c. is_within_character a && (c == single_quote)) (get_or_append_left (a ∷ v) z 0 (character_len (a ∷ v)) le)
      ∙ is

  character_closes : (v : Text) → is_character v ≡ true → character_len v < length v
  character_closes v is = quote_within v (character_len v) (and_parts (is_within_character (slice_index v 0)) (slice_index v (character_len v) == single_quote) is).1

  character_rest_keeps : (v : Text) (m : ℕ) → character_rest v ≡ Some m → character_rest (v ++ z) ≡ Some m
  character_rest_keeps v m = by (is_character v) refl
    where
      by : (b : Bool) → is_character v ≡ b → (if b then Some (character_len v + 1) else None) ≡ Some m → character_rest (v ++ z) ≡ Some m
      by true e is =
          ap (λ b. if b then Some (character_len (v ++ z) + 1) else None) (character_keeps v e)
          ∙ ap (λ n. Some (n + 1)) (character_len_same v (character_closes v e)) ∙ is
      by false e is = absurd cc

  byte_keeps : (w : Text) → Whole w (byte w) → Whole w (byte (w ++ z))
  unfolding Keeps
  byte_keeps w is = closed_keeps w 2 character_rest (unclosed_len 2 w) (unclosed_len 2 (w ++ z)) character_rest_keeps is

  quote_keeps : (a : ℕ) (w : Text) → Whole (a ∷ w) (character_or_lifetime (a ∷ w)) → Whole (a ∷ w) (character_or_lifetime (a ∷ (w ++ z)))
  unfolding Keeps
  quote_keeps a w is = by (is_character w) (begins (codes "\\") w) refl is
    where
      by : (c e : Bool) → is_character w ≡ c → Whole (a ∷ w) (quoted c e (a ∷ w)) → Whole (a ∷ w) (character_or_lifetime (a ∷ (w ++ z)))
      by true e same i =
          ap (λ c. quoted c (begins (codes "\\") (w ++ z)) (a ∷ (w ++ z))) (character_keeps w same)
          ∙ closed_keeps (a ∷ w) 1 character_rest (unclosed_len 1 (a ∷ w)) (unclosed_len 1 (a ∷ (w ++ z))) character_rest_keeps i
      by false true same i =
          absurd (never (a ∷ w) _ (ap (λ c. leaf_read (closed (a ∷ w) 1 (if c then Some (character_len w + 1) else None) (unclosed_len 1 (a ∷ w)))) same) i)
      by false false same i = absurd (never (a ∷ w) _ (read_no_leaf (begins_plain_word w) _ _ refl refl) i)

  -- ---- raw identifiers

  raw_word_fits : (w : Text) (n : ℕ) (b : Bool) → Whole w (if b then Err (ReservedRawIdentifier, 2 + n) else Ok (kind.Ident, 2 + n)) → 2 + n ≡ length w
  raw_word_fits w n true is = absurd cc
  raw_word_fits w n false is = ap end_of is

  raw_word_keeps : (w : Text) → Whole w (raw_word w) → Whole w (raw_word (w ++ z))
  raw_word_keeps w is =
      let v = drop 2 w in
      let n = word_len v in
      let fits : 2 + n ≡ length w = raw_word_fits w n (is_reserved_raw (take n v)) is in
      let left : length v ≡ length w - 2 = length-drop 2 w in
      ap (λ y. raw_word_at (word_len y) (take (word_len y) y)) (drop-append-le 2 w z (omega arith))
      ∙ ap (λ m. raw_word_at m (take m (v ++ z))) (word_len-stops z s v (omega arith))
      ∙ ap (λ y. raw_word_at n y) (take-append-le n v z (omega arith))
      ∙ is

  -- ---- numbers

  number_at_fits : (w : Text) (n : ℕ) (a b : Bool) → Whole w (number_at a b w n) → n ≤ length w
  number_at_fits w n true false is = literal_fits w n is
  number_at_fits w n true true is = absurd cc
  number_at_fits w n false b is = absurd cc

  number_at_keeps : (w : Text) (n : ℕ) (a b : Bool) → Whole w (number_at a b w n) → Whole w (number_at a b (w ++ z) n)
  number_at_keeps w n true false is = literal_keeps w n is
  number_at_keeps w n true true is = absurd cc
  number_at_keeps w n false b is = absurd cc

  abbrev based_at : Base → ℕ → Text → Text → Reading
  based_at base end v y = number_at (has_digit base v) (is_ascii_digit (slice_index y end)) y end

  based_keeps : (base : Base) (w : Text) → Whole w (based_number base w) → Whole w (based_number base (w ++ z))
  based_keeps base w is =
      let v = drop 2 w in
      let end = 2 + digits_len base v in
      let fits : end ≤ length w = number_at_fits w end (has_digit base v) (is_ascii_digit (slice_index w end)) is in
      ap (λ y. based_at base (2 + digits_len base y) y (w ++ z)) (drop-append-le 2 w z (omega arith))
      ∙ ap (λ n. based_at base (2 + n) (v ++ z) (w ++ z)) (digits_len-stops z s base v)
      ∙ ap (λ b. number_at b (is_ascii_digit (slice_index (w ++ z) end)) (w ++ z) end) (has_digit-stops z s base v)
      ∙ ap (λ b. number_at (has_digit base v) b (w ++ z) end) (at-stops z s is_ascii_digit halts-ascii_digit refl w end fits)
      ∙ number_at_keeps w end (has_digit base v) (is_ascii_digit (slice_index w end)) is

  no_digits : digits_len Decimal z ≡ 0
  no_digits = none_more z s (is_digit_or_underscore Decimal) (halts-digit_or_underscore Decimal) z s

  no_dot : {b c : Bool} → (b ≡ false) ⊎ (c ≡ false) → c ≡ true → b ≡ false
  no_dot (inl e) h = e
  no_dot (inr e) h = absurd cc

  -- the rest of a number behind its first digits
  fraction_same : (y t v : Text) → y ≡ t ++ v → (v ≡ [] → is_whole_number y ≡ true) → (begins (codes ".") z && takes_dot y (drop 1 z)) ≡ false
      → fraction_len (v ++ z) ≡ fraction_len v
  fraction_same y t [] is whole dots = by (and_cases (begins (codes ".") z) (takes_dot y (drop 1 z)) dots)
    where
      by : (begins (codes ".") z ≡ false) ⊎ (takes_dot y (drop 1 z) ≡ false) → fraction_len z ≡ 0
      by (inl e) = ap (λ b. if b && not (begins (codes ".") (drop 1 z) || starts_word (drop 1 z)) then 1 + digits_len Decimal (drop 1 z) else 0) e
      by (inr e) =
          let other = begins (codes ".") (drop 1 z) || starts_word (drop 1 z) in
          let parts = or_parts (begins (codes ".") (reverse y)) (is_whole_number y && not other) e in
          let no : not other ≡ false = sym (ap (λ b. b && not other) (whole refl)) ∙ parts.1 in
          ap (λ b. if b then 1 + digits_len Decimal (drop 1 z) else 0) (and_right (begins (codes ".") z) (not other) no)
  fraction_same y t (b ∷ []) is whole dots = by (cases_eq 46 b)
    where
      by : (46 ≡ b) ⊎ (46 ≡ b → ⊥) → fraction_len (b ∷ z) ≡ fraction_len (b ∷ [])
      by (inl dot) =
          let back : reverse y ≡ b ∷ reverse t = ap reverse is ∙ reverse-append t (b ∷ []) in
          let ends : begins (codes ".") (reverse y) ≡ true = ap (begins (codes ".")) back ∙ sym (ap (λ c. begins (codes ".") (c ∷ reverse t)) dot) in
          let more : takes_dot y (drop 1 z) ≡ true = or_left (begins (codes ".") (reverse y)) _ ends in
          let none : begins (codes ".") z ≡ false = no_dot (and_cases (begins (codes ".") z) (takes_dot y (drop 1 z)) dots) more in
          ap (λ x. if begins (codes ".") (b ∷ []) && not (x || starts_word z) then 1 + digits_len Decimal z else 0) none
          ∙ ap (λ x. if begins (codes ".") (b ∷ []) && not x then 1 + digits_len Decimal z else 0) (starts_word-stops z s [])
          ∙ ap (λ n. if begins (codes ".") (b ∷ []) && true then 1 + n else 0) no_digits
      by (inr other) =
          ap (λ x. if (x && true) && not (begins (codes ".") z || starts_word z) then 1 + digits_len Decimal z else 0) (ne_eqb 46 b other)
          ∙ sym (ap (λ x. if (x && true) && true then 1 else 0) (ne_eqb 46 b other))
  fraction_same y t (a ∷ (b ∷ v)) is whole dots =
      ap (λ n. if begins (codes ".") (a ∷ []) && not (begins (codes ".") (b ∷ v) || starts_word (b ∷ v)) then 1 + n else 0) (digits_len-stops z s Decimal (b ∷ v))

  significand_same : (a : ℕ) (w : Text) → is_ascii_digit a ≡ true → (begins (codes ".") z && takes_dot (a ∷ w) (drop 1 z)) ≡ false
      → significand_len (a ∷ (w ++ z)) ≡ significand_len (a ∷ w)
  significand_same a w digit dots =
      let p = is_digit_or_underscore Decimal in
      let digits = 1 + digits_len Decimal w in
      let fits : digits_len Decimal w ≤ length w = prefix_len-le-length p w in
      let whole : drop digits (a ∷ w) ≡ [] → is_whole_number (a ∷ w) ≡ true = λ e.
      let left : length (drop digits (a ∷ w)) ≡ length (a ∷ w) - digits = length-drop digits (a ∷ w) in
      let none : length (drop digits (a ∷ w)) ≡ 0 = ap length e in
      and_from (p a) (list_all p w) (or_left (is_ascii_digit a) (a == 95) digit) (all_pass p w (omega arith)) in
      ap (λ n. 1 + n + fraction_len (drop (1 + n) (a ∷ (w ++ z)))) (digits_len-stops z s Decimal w)
      ∙ ap (λ y. digits + fraction_len y) (drop-append-le digits (a ∷ w) z (omega arith))
      ∙ ap (λ n. digits + n) (fraction_same (a ∷ w) (take digits (a ∷ w)) (drop digits (a ∷ w)) (sym (take-append-drop digits (a ∷ w))) whole dots)

  exponent_same : (v : Text) → begins_exponent (v ++ z) ≡ begins_exponent v
  exponent_same v =
      ap (λ b. b || begins (codes "E") (v ++ z)) (begins-stops z s (codes "e") v refl)
      ∙ ap (λ b. begins (codes "e") v || b) (begins-stops z s (codes "E") v refl)

  abbrev exponent_at : Bool → ℕ → Text → ℕ
  exponent_at b n y = if b then n + digits_len Decimal y else 0

  -- the mark of an exponent has a digit behind it
  no_exponent : (a : ℕ) → bad_exponent (a ∷ []) ≡ false → begins_exponent (a ∷ []) ≡ false
  no_exponent a good = no_dot (and_cases (begins_exponent (a ∷ [])) true good) refl

  -- what is after the mark of an exponent
  behind_mark : (a b : ℕ) (v : Text) → drop (exponent_mark_len (a ∷ (b ∷ v))) (a ∷ (b ∷ (v ++ z))) ≡ drop (exponent_mark_len (a ∷ (b ∷ v))) (a ∷ (b ∷ v)) ++ z
  behind_mark a b v =
      drop-append-le (exponent_mark_len (a ∷ (b ∷ v))) (a ∷ (b ∷ v)) z
      (mark_fits (length (b ∷ v)) (begins (codes "+") (b ∷ v)) (begins (codes "-") (b ∷ v)) (begins-fits (codes "+") (b ∷ v)) (begins-fits (codes "-") (b ∷ v)))

  exponent_len_same : (v : Text) → bad_exponent v ≡ false → exponent_len (v ++ z) ≡ exponent_len v
  exponent_len_same [] good = ap (λ b. exponent_at b (exponent_mark_len z) (drop (exponent_mark_len z) z)) (exponent_same [])
  exponent_len_same (a ∷ []) good =
      let none = no_exponent a good in
      ap (λ b. exponent_at b (exponent_mark_len (a ∷ z)) (drop (exponent_mark_len (a ∷ z)) (a ∷ z))) none ∙ sym (ap (λ b. exponent_at b 1 []) none)
  exponent_len_same (a ∷ (b ∷ v)) good =
      let y = a ∷ (b ∷ v) in
      ap (λ x. exponent_at (begins_exponent y) (exponent_mark_len y) x) (behind_mark a b v)
      ∙ ap (λ n. if begins_exponent y then exponent_mark_len y + n else 0) (digits_len-stops z s Decimal (drop (exponent_mark_len y) y))

  bad_same : (v : Text) → bad_exponent v ≡ false → bad_exponent (v ++ z) ≡ false
  bad_same [] good = ap (λ b. b && not (is_exponent z)) (exponent_same [])
  bad_same (a ∷ []) good = and_left (begins_exponent (a ∷ z)) (not (is_exponent (a ∷ z))) (no_exponent a good)
  bad_same (a ∷ (b ∷ v)) good =
      let y = a ∷ (b ∷ v) in
      ap (λ x. begins_exponent y && not (has_digit Decimal x)) (behind_mark a b v)
      ∙ ap (λ c. begins_exponent y && not c) (has_digit-stops z s Decimal (drop (exponent_mark_len y) y))
      ∙ good

  abbrev decimal_read : Text → Bool → ℕ → Reading
  decimal_read y b n = if b then Err (MalformedLiteral, n) else Ok (literal_to y n)

  decimal_at_keeps : (w : Text) (b : Bool) (n : ℕ) → Whole w (decimal_read w b n) → Whole w (decimal_read (w ++ z) b n)
  decimal_at_keeps w true n is = absurd cc
  decimal_at_keeps w false n is = literal_keeps w n is

  decimal_at_fits : (w : Text) (b : Bool) (n : ℕ) → Whole w (decimal_read w b n) → n ≤ length w
  decimal_at_fits w true n is = absurd cc
  decimal_at_fits w false n is = literal_fits w n is

  abbrev kind_of : Reading → LexemeKind
  kind_of (Ok p) = p.0
  kind_of (Err e) = kind.Blank

  -- it is read: as a literal
  decimal_is_read : (w : Text) (b : Bool) (n : ℕ) → Whole w (decimal_read w b n) → (b ≡ false) × (k ≡ kind.Literal)
  decimal_is_read w true n is = absurd cc
  decimal_is_read w false n is = (refl, sym (ap kind_of is))

  decimal_keeps : (a : ℕ) (w : Text) → is_ascii_digit a ≡ true → Dots (a ∷ w) → Whole (a ∷ w) (decimal_number (a ∷ w)) → Whole (a ∷ w) (decimal_number (a ∷ (w ++ z)))
  decimal_keeps a w digit dots is =
      let y = a ∷ w in
      let n = significand_len y in
      let v = drop n y in
      let end = n + exponent_len v in
      let fits : end ≤ length y = decimal_at_fits y (bad_exponent v) end is in
      let read = decimal_is_read y (bad_exponent v) end is in
      ap (λ m. decimal_at (bad_exponent (drop m (a ∷ (w ++ z)))) (m + exponent_len (drop m (a ∷ (w ++ z)))) (a ∷ (w ++ z))) (significand_same a w digit (dots read.1))
      ∙ ap (λ x. decimal_at (bad_exponent x) (n + exponent_len x) (a ∷ (w ++ z))) (drop-append-le n y z (omega arith))
      ∙ ap (λ b. decimal_at b (n + exponent_len (v ++ z)) (a ∷ (w ++ z))) (bad_same v read.0 ∙ sym read.0)
      ∙ ap (λ m. decimal_at (bad_exponent v) (n + m) (a ∷ (w ++ z))) (exponent_len_same v read.0)
      ∙ decimal_at_keeps y (bad_exponent v) end is

  number_keeps : (a : ℕ) (w : Text) → Dots (a ∷ w) → is_ascii_digit a ≡ true → Whole (a ∷ w) (number (a ∷ w)) → Whole (a ∷ w) (number (a ∷ (w ++ z)))
  number_keeps a w dots digit is =
      let y = a ∷ w in
      choose y (λ x. begins (codes "0x") x) (based_number Hexadecimal) number_2 (begins-stops z s (codes "0x") y refl) (based_keeps Hexadecimal y)
      (choose y (λ x. begins (codes "0o") x) (based_number Octal) number_3 (begins-stops z s (codes "0o") y refl) (based_keeps Octal y)
      (choose y (λ x. begins (codes "0b") x) (based_number Binary) decimal_number (begins-stops z s (codes "0b") y refl) (based_keeps Binary y)
      (decimal_keeps a w digit dots))) is

  -- ---- what is at the front

  raw_string_same : (w : Text) → begins_raw_string (w ++ z) ≡ begins_raw_string w
  raw_string_same w =
      let p = raw_prefix_len w in
      let v = drop p w in
      let h = hashes_len v in
      ap (λ n. not (n == 0) && opens_raw_string (drop n (w ++ z))) (raw_prefix_same w)
      ∙ ap (λ y. not (p == 0) && opens_raw_string y) (drop-append-le p w z (raw_prefix_fits w))
      ∙ ap (λ n. not (p == 0) && begins (codes "\"") (drop n (v ++ z))) (hashes_len-stops z s v)
      ∙ ap (λ y. not (p == 0) && begins (codes "\"") y) (drop-append-le h v z (prefix_len-le-length is_hash v))
      ∙ ap (λ b. not (p == 0) && b) (begins-stops z s (codes "\"") (drop h v) refl)

  string_same : (w : Text) → begins_string (w ++ z) ≡ begins_string w
  string_same w =
      ap (λ b. b || begins (codes "b\"") (w ++ z) || begins (codes "c\"") (w ++ z)) (begins-stops z s (codes "\"") w refl)
      ∙ ap (λ b. begins (codes "\"") w || b || begins (codes "c\"") (w ++ z)) (begins-stops z s (codes "b\"") w refl)
      ∙ ap (λ b. begins (codes "\"") w || begins (codes "b\"") w || b) (begins-stops z s (codes "c\"") w refl)

  word_keeps : (a : ℕ) (w : Text) → Whole (a ∷ w) (Ok (kind.Ident, word_len (a ∷ w))) → Whole (a ∷ w) (Ok (kind.Ident, word_len (a ∷ (w ++ z))))
  word_keeps a w is = ap (λ n. Ok (kind.Ident, n)) (word_len-stops z s (a ∷ w) (omega arith)) ∙ is

  token_keeps : (a : ℕ) (w : Text) → Dots (a ∷ w) → Whole (a ∷ w) (token (a ∷ w)) → Whole (a ∷ w) (token (a ∷ (w ++ z)))
  unfolding token
  token_keeps a w dots is =
      let y = a ∷ w in
      choose y begins_string string token_2 (string_same y) (string_keeps y)
      (choose y begins_raw_string raw_string token_3 (raw_string_same y) (raw_keeps y)
      (choose y begins_byte byte token_4 (begins-stops z s (codes "b'") y refl) (byte_keeps y)
      (choose y begins_raw_word raw_word token_5 (raw_word_same z s y) (raw_word_keeps y)
      (choose y starts_word (λ x. Ok (kind.Ident, word_len x)) token_6 refl (word_keeps a w)
      (choose_on y (λ x. is_ascii_digit (slice_index x 0)) number token_7 refl (number_keeps a w dots)
      (choose y (λ x. slice_index x 0 == single_quote) character_or_lifetime single refl (quote_keeps a w)
      (λ i. absurd (never y (single y) (single_no_leaf y) i)))))))) is

  reading_keeps : (a : ℕ) (w : Text) → Dots (a ∷ w) → Whole (a ∷ w) (reading (a ∷ w)) → Whole (a ∷ w) (reading (a ∷ (w ++ z)))
  unfolding reading
  reading_keeps a w dots is =
      let y = a ∷ w in
      elim (cases_eq a 47) [
        | inl slash ↦ absurd (never y (reading y) (ap (λ c. leaf_read (reading (c ∷ w))) slash ∙ slash_no_leaf w) is)
        | inr other ↦
            choose y (λ x. is_white_space (slice_index x 0)) (λ x. Ok (kind.Blank, white_space_len x)) reading_2 refl
            (λ i. absurd (never y (Ok (kind.Blank, white_space_len y)) refl i))
            (choose y begins_line_comment line_comment reading_3 (no_slash a (codes "/") (w ++ z) w other)
            (λ i. absurd (never y (line_comment y) (line_no_leaf y) i))
            (choose y begins_block_comment block_comment token (no_slash a (codes "*") (w ++ z) w other)
            (λ i. absurd (never y (block_comment y) (comment_no_leaf y (comment_rest false 0 0 (drop 2 y))) i))
            (token_keeps a w dots))) is
      ]

  -- what is all of a text is at its front where such a rest is behind it
  pub front_keeps : (w : Text) → Dots w → front w ≡ Some (k, length w) → front (w ++ z) ≡ Some (k, length w)
  unfolding front
  front_keeps [] dots is = absurd cc
  front_keeps (a ∷ w) dots is = ap of_reading (reading_keeps a w dots (read_is (reading (a ∷ w)) k (length (a ∷ w)) is))
