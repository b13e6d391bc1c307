-- Integer and floating-point literals (Rust Reference, "Number literals").
use Rattle.std.specs.Prelude.{ℕ, ◌+◌, Bool, not, ◌&&◌, ◌||◌, if◌then◌else◌, ◌==◌, nat_le, drop, slice_index, Ok, Err, codes}
use Rattle.std.specs.Char.{is_ascii_digit, is_ascii_hexdigit}
use Rattle.std.specs.List.{prefix_len}
use Rattle.syn_lexer.specs.Text.{Text, Reading, underscore, begins}
use Rattle.syn_lexer.specs.Words.{starts_word, literal_to}
use Rattle.syn_lexer.specs.declared.error.LexError.TheVariants.{MalformedLiteral}
use Rattle.syn_lexer.specs.declared.number.Base.{Base}
use Rattle.syn_lexer.specs.declared.number.Base.TheVariants.{Binary, Octal, Decimal, Hexadecimal}

abbrev pub is_digit : Base → ℕ → Bool
-- `0` and `1`, and `0` to `7`
is_digit Binary c = c == 48 || c == 49
is_digit Octal c = nat_le 48 c && nat_le c 55
is_digit Decimal c = is_ascii_digit c
is_digit Hexadecimal c = is_ascii_hexdigit c

abbrev pub is_digit_or_underscore : Base → ℕ → Bool
is_digit_or_underscore base c = is_digit base c || c == underscore

-- digits of the base, and `_`
abbrev pub digits_len : Base → Text → ℕ
digits_len base z = prefix_len (is_digit_or_underscore base) z

abbrev pub is_underscore : ℕ → Bool
is_underscore c = c == underscore

-- there is at least one digit: the first character that is no `_`
abbrev pub has_digit : Base → Text → Bool
has_digit base z = is_digit base (slice_index z (prefix_len is_underscore z))

-- ---- `0x`, `0o` and `0b`

-- one digit at least, and none outside of the base; a refusal goes to the character that does not fit
abbrev pub based_number : Base → Text → Reading
based_number base z =
    let end = 2 + digits_len base (drop 2 z) in
    if has_digit base (drop 2 z) && not (is_ascii_digit (slice_index z end)) then Ok (literal_to z end)
    else Err (MalformedLiteral, end)

-- ---- decimal numbers

-- a `.` that is not followed by `.`, `_` or a character with XID_Start, and then any digits
abbrev pub fraction_len : Text → ℕ
fraction_len z =
    if begins (codes ".") z && not (begins (codes ".") (drop 1 z) || starts_word (drop 1 z)) then 1 + digits_len Decimal (drop 1 z)
    else 0

-- `e` and `E` always begin an exponent
abbrev pub begins_exponent : Text → Bool
begins_exponent z = begins (codes "e") z || begins (codes "E") z

-- `e` or `E`, and a sign
abbrev pub exponent_mark_len : Text → ℕ
exponent_mark_len z = if begins (codes "+") (drop 1 z) || begins (codes "-") (drop 1 z) then 2 else 1

-- an exponent has one digit at least
abbrev pub is_exponent : Text → Bool
is_exponent z = has_digit Decimal (drop (exponent_mark_len z) z)

abbrev pub exponent_len : Text → ℕ
exponent_len z = if begins_exponent z then exponent_mark_len z + digits_len Decimal (drop (exponent_mark_len z) z) else 0

-- the digits and the fraction
abbrev pub significand_len : Text → ℕ
significand_len z =
    let digits = 1 + digits_len Decimal (drop 1 z) in
    digits + fraction_len (drop digits z)

abbrev pub decimal_number : Text → Reading
decimal_number z =
    let n = significand_len z in
    let end = n + exponent_len (drop n z) in
    if begins_exponent (drop n z) && not (is_exponent (drop n z)) then Err (MalformedLiteral, end) else Ok (literal_to z end)

-- what begins with a decimal digit
abbrev pub number : Text → Reading
number z =
    if begins (codes "0x") z then based_number Hexadecimal z
    else (if begins (codes "0o") z then based_number Octal z
    else (if begins (codes "0b") z then based_number Binary z else decimal_number z))
