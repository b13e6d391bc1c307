-- The values of literals, by the texts of their tokens, whatever their suffixes (Rust Reference, "Literal expressions",
-- "Character and string literals", "Byte and byte string literals", "Number literals"). A text that the compiler refuses as a
-- literal of its kind has no value.
use Rattle.std.specs.Prelude.{ℕ, ◌+◌, ◌-◌, ◌*◌, ◌^◌, ◌++◌, Bool, true, false, not, ◌||◌, ◌&&◌, ◌==◌, nat_le, nat_lt, if◌then◌else◌, zero, suc, List, [], ◌∷◌, length, take, drop, filter, codes, Option, Some, None, option_map, option_to_list, encode_utf8_all}
use Rattle.std.specs.Str.{bytes_eq}
use Rattle.std.specs.List.{prefix_len}
use Rattle.syn_lower_leaves.specs.declared.quoted.Style.{Style}
use Rattle.syn_lower_spec.specs.Text.{Text, byte_at, has_radix}
use Rattle.syn_lower_spec.specs.Pat.{digit_value, base_of}

-- ---- integers ("Integer literal expressions")

-- the first two characters choose the base
abbrev pub base : Text → ℕ
base text = if has_radix text then base_of (byte_at text 1) else 10

abbrev pub behind_prefix : Text → Text
behind_prefix text = if has_radix text then drop 2 text else text

-- the value of the digits that come first, counted on from what was found; underscores are ignored
abbrev pub digits_value : ℕ → ℕ → Text → ℕ
digits_value b found [] = found
digits_value b found (c ∷ z) =
    if c == 95 then digits_value b found z else
    (if nat_lt (digit_value c) b then digits_value b (found * b + digit_value c) z else found)

unfoldable pub int_value : Text → ℕ
int_value text = digits_value (base text) 0 (behind_prefix text)

-- what comes after digits and underscores
abbrev pub past_digits : ℕ → Text → Text
past_digits b [] = []
past_digits b (c ∷ z) = if c == 95 || nat_lt (digit_value c) b then past_digits b z else c ∷ z

unfoldable pub int_suffix : Text → Text
int_suffix text = past_digits (base text) (behind_prefix text)

-- a value that a `u128` holds, as each value of a literal has to be
unfoldable pub in_u128 : ℕ → Option ℕ
in_u128 n = if nat_lt n (2 ^ 128) then Some n else None

-- ---- floats ("Floating-point literal expressions")

abbrev pub past_fraction : Text → Text
past_fraction [] = []
past_fraction (c ∷ z) = if c == 46 then past_digits 10 z else c ∷ z

abbrev pub past_sign : Text → Text
past_sign [] = []
past_sign (c ∷ z) = if c == 43 || c == 45 then z else c ∷ z

abbrev pub past_exponent : Text → Text
past_exponent [] = []
past_exponent (c ∷ z) = if c == 101 || c == 69 then past_digits 10 (past_sign z) else c ∷ z

unfoldable pub float_suffix : Text → Text
float_suffix text = past_exponent (past_fraction (past_digits 10 text))

abbrev pub is_no_underscore : ℕ → Bool
is_no_underscore c = not (c == 95)

-- the characters before the suffix, without underscores
unfoldable pub float_digits : Text → Text
float_digits text = encode_utf8_all (filter is_no_underscore (take (length text - length (float_suffix text)) text))

-- ---- escapes ("Character escapes", "Byte escapes"): the number that one stands for, of a character or of a byte

-- `\n`, `\r`, `\t`, `\0`, `\\`, `\'` and `\"`, after the backslash
abbrev pub simple_escape : ℕ → Option ℕ
simple_escape c =
    if c == 110 then Some 10 else (if c == 114 then Some 13 else (if c == 116 then Some 9 else
    (if c == 48 then Some 0 else (if c == 92 || (c == 39 || c == 34) then Some c else None))))

-- two hexadecimal digits after `\x`: a character's number is below 128
abbrev pub hex_escape : Bool → ℕ → ℕ → Option ℕ
hex_escape is_byte a b =
    if nat_lt a 16 && (nat_lt b 16 && (is_byte || nat_lt a 8)) then Some (a * 16 + b) else None

-- a Unicode scalar value
abbrev pub is_scalar : ℕ → Bool
is_scalar c = nat_lt c 0xd800 || (nat_lt 0xdfff c && nat_lt c 0x110000)

-- After `\u{`: one to six hexadecimal digits, underscores after the first, and `}`. How many digits there were, what was
-- found of the value, and how many characters there were with the brace, is counted on.
abbrev pub braced : ℕ → ℕ → ℕ → Text → Option (ℕ × ℕ)
braced digits found n [] = None
braced digits found n (c ∷ z) =
    if c == 125 then (if nat_lt 0 digits && is_scalar found then Some (found, n + 1) else None) else
    (if c == 95 then (if nat_lt 0 digits then braced digits found (n + 1) z else None) else
    (if nat_lt (digit_value c) 16 && nat_lt digits 6 then braced (digits + 1) (found * 16 + digit_value c) (n + 1) z else None))

-- what an escape after its backslash stands for, and how many characters it is without the backslash
abbrev pub one_long : Option ℕ → Option (ℕ × ℕ)
one_long None = None
one_long (Some v) = Some (v, 1)

abbrev pub three_long : Option ℕ → Option (ℕ × ℕ)
three_long None = None
three_long (Some v) = Some (v, 3)

abbrev pub hex_at : Bool → Text → Option (ℕ × ℕ)
hex_at is_byte [] = None
hex_at is_byte (a ∷ []) = None
hex_at is_byte (a ∷ b ∷ z) = three_long (hex_escape is_byte (digit_value a) (digit_value b))

abbrev pub braces_at : Text → Option (ℕ × ℕ)
braces_at [] = None
braces_at (c ∷ z) = if c == 123 then braced 0 0 2 z else None

-- A byte has no `\u`.
abbrev pub escape : Bool → Text → Option (ℕ × ℕ)
escape is_byte [] = None
escape is_byte (c ∷ z) =
    if c == 120 then hex_at is_byte z else
    (if c == 117 then (if is_byte then None else braces_at z) else one_long (simple_escape c))

-- ---- characters and bytes

-- what stands for itself; a byte is of ASCII
abbrev pub is_plain : Bool → ℕ → Bool
is_plain is_byte c = not is_byte || nat_lt c 128

-- the character or the byte, if this is where the closing `'` stands
abbrev pub closed_by : Text → Option (ℕ × ℕ) → Option ℕ
closed_by z None = None
closed_by z (Some (v, n)) = if byte_at z n == 39 then Some v else None

-- `'`, a line feed, a carriage return or a tab
abbrev pub is_special : ℕ → Bool
is_special c = c == 39 || (c == 10 || (c == 13 || c == 9))

-- After the opening `'`: an escape, or one character that is none of these.
abbrev pub single : Bool → Text → Option ℕ
single is_byte [] = None
single is_byte (c ∷ z) =
    if c == 92 then closed_by z (escape is_byte z) else
    (if is_special c || not (is_plain is_byte c) then None else closed_by z (Some (c, 0)))

-- the value of a character literal, by its characters
unfoldable pub char_value : Text → Option ℕ
char_value [] = None
char_value (c ∷ z) = if c == 39 then single false z else None

unfoldable pub byte_value : Text → Option ℕ
byte_value z = if byte_at z 0 == 98 && byte_at z 1 == 39 then single true (drop 2 z) else None

-- ---- strings, by their characters

abbrev pub is_hash : ℕ → Bool
is_hash c = c == 35

abbrev pub is_blank : ℕ → Bool
is_blank c = c == 32 || (c == 9 || (c == 10 || c == 13))

-- A piece of a string: what it stands for, if anything, and how many characters it takes.
abbrev pub Piece : Type 0
Piece = Option ℕ × ℕ

abbrev pub of_escape : Option (ℕ × ℕ) → Option Piece
of_escape None = None
of_escape (Some (v, n)) = Some (Some v, n + 1)

-- a line break, as the one character that it is to the compiler (Rust Reference, "CRLF normalization")
abbrev pub breaks_line : Text → Bool
breaks_line z = byte_at z 0 == 10 || (byte_at z 0 == 13 && byte_at z 1 == 10)

-- A backslash and what is after it: with a line break it stands for nothing, up to what is no blank ("String continuation
-- escapes").
abbrev pub escaped : Bool → Text → Option Piece
escaped is_byte z = if breaks_line z then Some (None, 1 + prefix_len is_blank z) else of_escape (escape is_byte z)

-- A carriage return is in a line break alone.
abbrev pub plain : Bool → ℕ → Text → Option Piece
plain is_byte c z =
    if c == 13 then (if byte_at z 0 == 10 then Some (Some 10, 2) else None) else
    (if is_plain is_byte c then Some (Some c, 1) else None)

abbrev pub piece : Style → Text → Option Piece
piece style [] = None
piece style (c ∷ z) = if c == 92 && not style.is_raw then escaped style.is_byte z else plain style.is_byte c z

abbrev pub closes : Style → Text → Bool
closes style [] = false
closes style (c ∷ z) = c == 34 && nat_le style.hashes (prefix_len is_hash z)

abbrev pub joined : Option Piece → (ℕ → Option (List ℕ)) → Option (List ℕ)
joined None rest = None
joined (Some (v, n)) rest = option_map (λ vs. option_to_list v ++ vs) (rest (n - 1))

-- Piece by piece up to the closing `"`, after so many characters that are passed over.
abbrev pub content : Style → ℕ → Text → Option (List ℕ)
content style left [] = None
content style (suc left) (c ∷ z) = content style left z
content style zero (c ∷ z) = if closes style (c ∷ z) then Some [] else joined (piece style (c ∷ z)) (λ left. content style left z)

-- how a string is written, and what is after its opening: a `"`, or `r`, any number of `#` and a `"`
abbrev pub opened : Bool → Text → Option (Style × Text)
opened is_byte [] = None
opened is_byte (c ∷ z) =
    if c == 34 then Some (record { is_byte = is_byte; is_raw = false; hashes = 0 }, z) else
    (if c == 114 && byte_at z (prefix_len is_hash z) == 34
    then Some (record { is_byte = is_byte; is_raw = true; hashes = prefix_len is_hash z }, drop (prefix_len is_hash z + 1) z) else None)

abbrev pub content_of : Option (Style × Text) → Option (List ℕ)
content_of None = None
content_of (Some p) = content p.0 0 p.1

-- the characters of a string literal's value
unfoldable pub str_value : Text → Option (List ℕ)
str_value z = content_of (opened false z)

-- the bytes of a byte string literal's value
unfoldable pub byte_str_value : Text → Option (List ℕ)
byte_str_value z = if byte_at z 0 == 98 then content_of (opened true (drop 1 z)) else None

-- ---- booleans

abbrev pub bool_value : Text → Bool
bool_value word = bytes_eq word (codes "true")
