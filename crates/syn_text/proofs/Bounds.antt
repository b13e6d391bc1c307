-- What is read at the front of a text is one character at least, and no more than the text.
use Rattle.std.proofs.Common.{◌≡◌, ℕ, suc, ◌+◌, ◌-◌, ◌≤◌, ◌<◌, Bool, true, false, not, ◌&&◌, ◌||◌, cond, [], ◌∷◌, length, take, drop, slice_index, refl, arith, codes, Option, Some, None, Ok, Err}
use Rattle.std.specs.Prelude.{◌==◌, if◌then◌else◌, nat_le}
use Rattle.std.specs.Char.{is_ascii_digit}
use Rattle.std.specs.List.{prefix_len}
use Rattle.std.proofs.lemmas.Bool.{and_parts, leb-true}
use Rattle.std.proofs.lemmas.List.{length-drop}
use Rattle.std.proofs.lemmas.List.Sums.{prefix_len-le-length}
use Rattle.unicode_ident.specs.Ident.{is_xid_continue}
use Rattle.syn_lexer.specs.Text.{Text, Reading, begins, double_quote, single_quote, backslash}
use Rattle.syn_lexer.specs.Blanks.{is_white_space, white_space_len, begins_line_comment, line_comment, is_line_doc, line_comment_len, begins_block_comment, block_comment, comment_to, comment_rest, is_block_doc}
use Rattle.syn_lexer.specs.Words.{is_word_start, starts_word, word_len, suffix_len, literal_to, begins_raw_word, is_reserved_raw, raw_word}
use Rattle.syn_lexer.specs.Numbers.{is_digit_or_underscore, digits_len, has_digit, based_number, fraction_len, begins_exponent, exponent_mark_len, is_exponent, exponent_len, significand_len, decimal_number, number}
use Rattle.syn_lexer.specs.Quotes.{closed, string_rest, is_hash, hashes_len, raw_string_rest, raw_string_hashes, raw_string_opening_len, begins_raw_string, begins_string, begins_byte, string_opening_len, string, raw_string, byte, character_len, is_within_character, is_character, character_rest, unclosed_len, begins_plain_word, character_or_lifetime}
use Rattle.syn_lexer.specs.Lex.{single_kind, single, one_character, token, reading}
use Rattle.syn_lexer.specs.declared.front.LexemeKind.{LexemeKind}
use Rattle.syn_lexer.specs.declared.front.LexemeKind.TheVariants as kind
use Rattle.syn_lexer.specs.declared.error.LexError.TheVariants.{MalformedLiteral, ReservedRawIdentifier, MalformedLifetime, DocComment}
use Rattle.syn_lexer.specs.declared.number.Base.{Base}
use Rattle.syn_lexer.specs.declared.number.Base.TheVariants.{Binary, Octal, Decimal, Hexadecimal}
use Rattle.syn_text.proofs.Stops.{begins-fits, mark_fits, quote_within}
use Rattle.syn_text.proofs.Branches.{number_2, number_3, token_2, token_3, token_4, token_5, token_6, token_7, reading_2, reading_3}
use Rattle.syn_text.proofs.Cut.{string_rest_some, raw_rest_some, some_of}

-- all but white space and comments, of which it is not asked
abbrev pub is_solid : LexemeKind → Bool
is_solid kind.Blank = false
is_solid _ = true

abbrev pub Fits : Text → Reading → Type 0
Fits z (Ok p) = is_solid p.0 ≡ true → (1 ≤ p.1) × (p.1 ≤ length z)
Fits z (Err e) = Unit {0}

fits_if : (z : Text) (b : Bool) (x y : Reading) → (b ≡ true → Fits z x) → (b ≡ false → Fits z y) → Fits z (if b then x else y)
fits_if z true x y f g = f refl
fits_if z false x y f g = g refl

one_fits : (b : Bool) (n m : ℕ) → n ≤ m → cond b (1 + n) 0 ≤ suc m
one_fits true n m le = omega arith
one_fits false n m le = omega arith

suffix_fits : (v : Text) → suffix_len v ≤ length v
suffix_fits [] = omega arith
suffix_fits (a ∷ v) = one_fits (is_word_start a) (prefix_len is_xid_continue v) (length v) (prefix_len-le-length is_xid_continue v)

word_fits : (v : Text) → starts_word v ≡ true → word_len v ≤ length v
word_fits [] h = absurd cc
word_fits (a ∷ v) h = let le = prefix_len-le-length is_xid_continue v in omega arith

literal_fits : (z : Text) (n : ℕ) → 1 ≤ n → n ≤ length z → Fits z (Ok (literal_to z n))
literal_fits z n some le h =
    let s = suffix_fits (drop n z) in
    let left : length (drop n z) ≡ length z - n = length-drop n z in
    (omega arith, omega arith)

abbrev Sized : (Text → Option ℕ) → Type 0
Sized rest = (v : Text) (m : ℕ) → rest v ≡ Some m → (1 ≤ m) × (m ≤ length v)

closed_fits : (z : Text) (n : ℕ) (rest : Text → Option ℕ) (u : ℕ) → Sized rest → (o : Option ℕ) → rest (drop n z) ≡ o → Fits z (closed z n o u)
closed_fits z n rest u sized None e = tt
closed_fits z n rest u sized (Some m) e =
    let got = sized (drop n z) m e in
    let left : length (drop n z) ≡ length z - n = length-drop n z in
    literal_fits z (n + m) (omega arith) (omega arith)

string_rest_le : (b : Bool) (n : ℕ) (v : Text) (m : ℕ) → string_rest b n v ≡ Some m → m ≤ n + length v
string_rest_le b n [] m is = absurd cc
string_rest_le true n (c ∷ v) m is = let le = string_rest_le false (n + 1) v m is in omega arith
string_rest_le false n (c ∷ v) m is = by (c == double_quote) (string_rest_le (c == backslash) (n + 1) v m) is
  where
    by : (q : Bool) → (string_rest (c == backslash) (n + 1) v ≡ Some m → m ≤ n + 1 + length v)
        → (if q then Some (n + 1) else string_rest (c == backslash) (n + 1) v) ≡ Some m → m ≤ n + length (c ∷ v)
    by true h i = let e : n + 1 ≡ m = cc in omega arith
    by false h i = let le = h i in omega arith

raw_rest_le : (h n : ℕ) (v : Text) (m : ℕ) → raw_string_rest h n v ≡ Some m → m ≤ n + length v
raw_rest_le h n [] m is = absurd cc
raw_rest_le h n (c ∷ v) m is = by (c == double_quote) (nat_le h (hashes_len v)) refl (raw_rest_le h (n + 1) v m) is
  where
    by : (q b : Bool) → nat_le h (hashes_len v) ≡ b → (raw_string_rest h (n + 1) v ≡ Some m → m ≤ n + 1 + length v)
        → (if q && b then Some (n + 1 + h) else raw_string_rest h (n + 1) v) ≡ Some m → m ≤ n + length (c ∷ v)
    by true true s k i =
        let e : n + 1 + h ≡ m = cc in
        let few : hashes_len v ≤ length v = prefix_len-le-length is_hash v in
        let fit : h ≤ hashes_len v = leb-true h (hashes_len v) s in
        omega arith
    by true false s k i = let le = k i in omega arith
    by false b s k i = let le = k i in omega arith

string_sized : Sized (string_rest false 0)
string_sized v m is = let a = string_rest_some false 0 v m is in let b = string_rest_le false 0 v m is in (omega arith, omega arith)

raw_sized : (h : ℕ) → Sized (raw_string_rest h 0)
raw_sized h v m is = let a = raw_rest_some h 0 v m is in let b = raw_rest_le h 0 v m is in (omega arith, omega arith)

character_sized : Sized character_rest
character_sized v m is =
    let got = some_of (is_character v) (character_len v + 1) m is in
    let e : character_len v + 1 ≡ m = got.1 in
    let le : character_len v < length v =
    quote_within v (character_len v) (and_parts (is_within_character (slice_index v 0)) (slice_index v (character_len v) == single_quote) got.0).1 in
    (omega arith, omega arith)

string_fits : (z : Text) → Fits z (string z)
string_fits z = closed_fits z (string_opening_len z) (string_rest false 0) (length z) string_sized (string_rest false 0 (drop (string_opening_len z) z)) refl

raw_string_fits : (z : Text) → Fits z (raw_string z)
raw_string_fits z =
    let n = raw_string_opening_len z in
    let h = raw_string_hashes z in
    closed_fits z n (raw_string_rest h 0) (length z) (raw_sized h) (raw_string_rest h 0 (drop n z)) refl

byte_fits : (z : Text) → Fits z (byte z)
byte_fits z = closed_fits z 2 character_rest (unclosed_len 2 z) character_sized (character_rest (drop 2 z)) refl

raw_word_fits : (z : Text) → begins_raw_word z ≡ true → Fits z (raw_word z)
raw_word_fits z h =
    let parts = and_parts (begins (codes "r#") z) (starts_word (drop 2 z)) h in
    let n = word_len (drop 2 z) in
    let le = word_fits (drop 2 z) parts.1 in
    let left : length (drop 2 z) ≡ length z - 2 = length-drop 2 z in
    let two : 2 ≤ length z = begins-fits (codes "r#") z parts.0 in
    fits_if z (is_reserved_raw (take n (drop 2 z))) (Err (ReservedRawIdentifier, 2 + n)) (Ok (kind.Ident, 2 + n)) (λ e. tt) (λ e k. (omega arith, omega arith))

based_fits : (base : Base) (z : Text) → 2 ≤ length z → Fits z (based_number base z)
based_fits base z two =
    let end = 2 + digits_len base (drop 2 z) in
    let le : digits_len base (drop 2 z) ≤ length (drop 2 z) = prefix_len-le-length (is_digit_or_underscore base) (drop 2 z) in
    let left : length (drop 2 z) ≡ length z - 2 = length-drop 2 z in
    fits_if z (has_digit base (drop 2 z) && not (is_ascii_digit (slice_index z end))) (Ok (literal_to z end)) (Err (MalformedLiteral, end))
    (λ e. literal_fits z end (omega arith) (omega arith)) (λ e. tt)

fraction_fits : (u : Text) → fraction_len u ≤ length u
fraction_fits [] = omega arith
fraction_fits (c ∷ u) =
    one_fits (begins (codes ".") (c ∷ u) && not (begins (codes ".") u || starts_word u)) (digits_len Decimal u) (length u) (prefix_len-le-length (is_digit_or_underscore Decimal) u)

exponent_fits : (v : Text) → exponent_len v ≤ length v
exponent_fits [] = omega arith
exponent_fits (c ∷ v) =
    let m = exponent_mark_len (c ∷ v) in
    let le : m ≤ suc (length v) = mark_fits (length v) (begins (codes "+") v) (begins (codes "-") v) (begins-fits (codes "+") v) (begins-fits (codes "-") v) in
    let few : digits_len Decimal (drop m (c ∷ v)) ≤ length (drop m (c ∷ v)) = prefix_len-le-length (is_digit_or_underscore Decimal) (drop m (c ∷ v)) in
    let left : length (drop m (c ∷ v)) ≡ suc (length v) - m = length-drop m (c ∷ v) in
    by (begins_exponent (c ∷ v)) (m + digits_len Decimal (drop m (c ∷ v))) (suc (length v)) (omega arith)
  where
    by : (b : Bool) (n k : ℕ) → n ≤ k → (if b then n else 0) ≤ k
    by true n k l = l
    by false n k l = omega arith

decimal_fits : (a : ℕ) (x : Text) → Fits (a ∷ x) (decimal_number (a ∷ x))
decimal_fits a x =
    let z = a ∷ x in
    let d = 1 + digits_len Decimal x in
    let n = significand_len z in
    let end = n + exponent_len (drop n z) in
    let digits : digits_len Decimal x ≤ length x = prefix_len-le-length (is_digit_or_underscore Decimal) x in
    let f : fraction_len (drop d z) ≤ length (drop d z) = fraction_fits (drop d z) in
    let left : length (drop d z) ≡ suc (length x) - d = length-drop d z in
    let e : exponent_len (drop n z) ≤ length (drop n z) = exponent_fits (drop n z) in
    let rest : length (drop n z) ≡ suc (length x) - n = length-drop n z in
    let whole : n ≡ d + fraction_len (drop d z) = refl in
    fits_if z (begins_exponent (drop n z) && not (is_exponent (drop n z))) (Err (MalformedLiteral, end)) (Ok (literal_to z end))
    (λ b. tt) (λ b. literal_fits z end (omega arith) (omega arith))

number_fits : (a : ℕ) (x : Text) → Fits (a ∷ x) (number (a ∷ x))
number_fits a x =
    let z = a ∷ x in
    fits_if z (begins (codes "0x") z) (based_number Hexadecimal z) (number_2 z) (λ e. based_fits Hexadecimal z (begins-fits (codes "0x") z e))
    (λ e. fits_if z (begins (codes "0o") z) (based_number Octal z) (number_3 z) (λ e. based_fits Octal z (begins-fits (codes "0o") z e))
    (λ e. fits_if z (begins (codes "0b") z) (based_number Binary z) (decimal_number z) (λ e. based_fits Binary z (begins-fits (codes "0b") z e))
    (λ e. decimal_fits a x)))

quote_fits : (a : ℕ) (x : Text) → Fits (a ∷ x) (character_or_lifetime (a ∷ x))
quote_fits a x =
    let z = a ∷ x in
    fits_if z (is_character x || begins (codes "\\") x) (closed z 1 (character_rest x) (unclosed_len 1 z))
    (if begins_plain_word x then Ok (kind.Lifetime, 1 + word_len x) else Err (MalformedLifetime, 1))
    (λ e. closed_fits z 1 character_rest (unclosed_len 1 z) character_sized (character_rest x) refl)
    (λ e. fits_if z (begins_plain_word x) (Ok (kind.Lifetime, 1 + word_len x)) (Err (MalformedLifetime, 1))
    (λ w k. let le = word_fits x (and_parts (starts_word x) (not (begins_raw_word x)) w).0 in (omega arith, omega arith)) (λ w. tt))

one_character_fits : (a : ℕ) (x : Text) (o : Option LexemeKind) → Fits (a ∷ x) (one_character o)
one_character_fits a x None = tt
one_character_fits a x (Some k) = λ h. (omega arith, omega arith)

comment_fits : (z : Text) (o : Option ℕ) → Fits z (comment_to z o)
comment_fits z None = tt
comment_fits z (Some n) = fits_if z (is_block_doc z) (Err (DocComment, 2 + n)) (Ok (kind.Blank, 2 + n)) (λ e. tt) (λ e k. absurd cc)

token_fits : (a : ℕ) (x : Text) → Fits (a ∷ x) (token (a ∷ x))
unfolding token
token_fits a x =
    let z = a ∷ x in
    fits_if z (begins_string z) (string z) (token_2 z) (λ e. string_fits z)
    (λ e. fits_if z (begins_raw_string z) (raw_string z) (token_3 z) (λ e. raw_string_fits z)
    (λ e. fits_if z (begins_byte z) (byte z) (token_4 z) (λ e. byte_fits z)
    (λ e. fits_if z (begins_raw_word z) (raw_word z) (token_5 z) (raw_word_fits z)
    (λ e. fits_if z (starts_word z) (Ok (kind.Ident, word_len z)) (token_6 z) (λ e k. let le = word_fits z e in (omega arith, le))
    (λ e. fits_if z (is_ascii_digit a) (number z) (token_7 z) (λ e. number_fits a x)
    (λ e. fits_if z (a == single_quote) (character_or_lifetime z) (single z) (λ e. quote_fits a x)
    (λ e. one_character_fits a x (single_kind z))))))))

pub reading_fits : (a : ℕ) (x : Text) → Fits (a ∷ x) (reading (a ∷ x))
unfolding reading
reading_fits a x =
    let z = a ∷ x in
    fits_if z (is_white_space a) (Ok (kind.Blank, white_space_len z)) (reading_2 z) (λ e k. absurd cc)
    (λ e. fits_if z (begins_line_comment z) (line_comment z) (reading_3 z)
    (λ e. fits_if z (is_line_doc z) (Err (DocComment, line_comment_len z)) (Ok (kind.Blank, line_comment_len z)) (λ e. tt) (λ e k. absurd cc))
    (λ e. fits_if z (begins_block_comment z) (block_comment z) (token z) (λ e. comment_fits z (comment_rest false 0 0 (drop 2 z))) (λ e. token_fits a x)))
