-- The branches of a reading, each with those behind it.
use Rattle.std.proofs.Common.{◌≡◌, ℕ, ◌+◌, Bool, true, false, not, ◌&&◌, drop, slice_index, refl, codes, Option, Some, None, Ok, Err, ◌||◌, length}
use Rattle.std.specs.Prelude.{◌==◌, if◌then◌else◌}
use Rattle.std.specs.Char.{is_ascii_digit}
use Rattle.syn_lexer.specs.Text.{Text, Reading, begins, single_quote}
use Rattle.syn_lexer.specs.Blanks.{begins_line_comment, line_comment, begins_block_comment, block_comment}
use Rattle.syn_lexer.specs.Words.{starts_word, word_len, literal_to, begins_raw_word, is_reserved_raw, raw_word}
use Rattle.syn_lexer.specs.Numbers.{digits_len, has_digit, based_number, begins_exponent, is_exponent, exponent_len, significand_len, decimal_number, number}
use Rattle.syn_lexer.specs.Quotes.{closed, raw_string_rest, begins_raw_string, raw_string, begins_byte, byte, character_rest, unclosed_len, begins_plain_word, character_or_lifetime}
use Rattle.syn_lexer.specs.Lex.{single, token}
use Rattle.syn_lexer.specs.declared.front.LexemeKind.{LexemeKind}
use Rattle.syn_lexer.specs.declared.front.LexemeKind.TheVariants as kind
use Rattle.syn_lexer.specs.declared.error.LexError.TheVariants.{MalformedLiteral, ReservedRawIdentifier, MalformedLifetime}
use Rattle.syn_lexer.specs.declared.number.Base.{Base}
use Rattle.syn_lexer.specs.declared.number.Base.TheVariants.{Binary, Octal, Hexadecimal}

abbrev pub number_3 : Text → Reading
number_3 x = if begins (codes "0b") x then based_number Binary x else decimal_number x

abbrev pub number_2 : Text → Reading
number_2 x = if begins (codes "0o") x then based_number Octal x else number_3 x

abbrev pub token_7 : Text → Reading
token_7 x = if slice_index x 0 == single_quote then character_or_lifetime x else single x

abbrev pub token_6 : Text → Reading
token_6 x = if is_ascii_digit (slice_index x 0) then number x else token_7 x

abbrev pub token_5 : Text → Reading
token_5 x = if starts_word x then Ok (kind.Ident, word_len x) else token_6 x

abbrev pub token_4 : Text → Reading
token_4 x = if begins_raw_word x then raw_word x else token_5 x

abbrev pub token_3 : Text → Reading
token_3 x = if begins_byte x then byte x else token_4 x

abbrev pub token_2 : Text → Reading
token_2 x = if begins_raw_string x then raw_string x else token_3 x

abbrev pub reading_3 : Text → Reading
reading_3 x = if begins_block_comment x then block_comment x else token x

abbrev pub reading_2 : Text → Reading
reading_2 x = if begins_line_comment x then line_comment x else reading_3 x

-- ---- a test of kinds that literals fail

module _ (test : LexemeKind → Bool) (no_literal : test kind.Literal ≡ false) where
  abbrev pub passes : Reading → Bool
  passes (Ok p) = test p.0
  passes (Err e) = false

  pub closed_fails : (y : Text) (n : ℕ) (o : Option ℕ) (u : ℕ) → passes (closed y n o u) ≡ false
  closed_fails y n None u = refl
  closed_fails y n (Some m) u = no_literal

  pub if_fails : (b : Bool) (x y : Reading) → passes x ≡ false → passes y ≡ false → passes (if b then x else y) ≡ false
  if_fails true x y p q = p
  if_fails false x y p q = q

  based_fails : (base : Base) (y : Text) → passes (based_number base y) ≡ false
  based_fails base y =
      let end = 2 + digits_len base (drop 2 y) in
      if_fails (has_digit base (drop 2 y) && not (is_ascii_digit (slice_index y end))) (Ok (literal_to y end)) (Err (MalformedLiteral, end)) no_literal refl

  decimal_fails : (y : Text) → passes (decimal_number y) ≡ false
  decimal_fails y =
      let n = significand_len y in
      let end = n + exponent_len (drop n y) in
      if_fails (begins_exponent (drop n y) && not (is_exponent (drop n y))) (Err (MalformedLiteral, end)) (Ok (literal_to y end)) refl no_literal

  pub number_fails : (y : Text) → passes (number y) ≡ false
  number_fails y =
      if_fails (begins (codes "0x") y) (based_number Hexadecimal y) (number_2 y) (based_fails Hexadecimal y)
      (if_fails (begins (codes "0o") y) (based_number Octal y) (number_3 y) (based_fails Octal y)
      (if_fails (begins (codes "0b") y) (based_number Binary y) (decimal_number y) (based_fails Binary y) (decimal_fails y)))

-- ---- what they are made of

-- where a reading ends
abbrev pub end_of : Reading → ℕ
end_of (Ok p) = p.1
end_of (Err e) = 0

abbrev pub prefix_of : Bool → Bool → Bool → ℕ
prefix_of r br cr = if r then 1 else (if br || cr then 2 else 0)

-- a raw string with a prefix of so many characters and so many `#`
abbrev pub raw_at : ℕ → ℕ → Text → Reading
raw_at p h x = closed x (p + h + 1) (raw_string_rest h 0 (drop (p + h + 1) x)) (length x)

abbrev pub raw_word_at : ℕ → Text → Reading
raw_word_at n word = if is_reserved_raw word then Err (ReservedRawIdentifier, 2 + n) else Ok (kind.Ident, 2 + n)

abbrev pub number_at : Bool → Bool → Text → ℕ → Reading
number_at some other x end = if some && not other then Ok (literal_to x end) else Err (MalformedLiteral, end)

abbrev pub decimal_at : Bool → ℕ → Text → Reading
decimal_at b end x = if b then Err (MalformedLiteral, end) else Ok (literal_to x end)

abbrev pub bad_exponent : Text → Bool
bad_exponent x = begins_exponent x && not (is_exponent x)

-- what begins with `'`, by what comes behind that
abbrev pub quoted : Bool → Bool → Text → Reading
quoted c e x =
    if c || e then closed x 1 (character_rest (drop 1 x)) (unclosed_len 1 x)
    else (if begins_plain_word (drop 1 x) then Ok (kind.Lifetime, 1 + word_len (drop 1 x)) else Err (MalformedLifetime, 1))
