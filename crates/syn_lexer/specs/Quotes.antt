-- Character, string, byte and C string literals, raw ones too (Rust Reference, "Character and string literals",
-- "Byte and byte string literals", "C string and raw C string literals"), and lifetimes ("Lifetimes and loop
-- labels"). What an escape means is not looked at.
use Rattle.std.specs.Prelude.{ℕ, ◌+◌, Bool, true, false, not, ◌&&◌, ◌||◌, if◌then◌else◌, ◌==◌, nat_le, [], ◌∷◌, length, drop, slice_index, min, Option, Some, None, Ok, Err, codes}
use Rattle.std.specs.List.{prefix_len}
use Rattle.syn_lexer.specs.Text.{Text, Reading, line_feed, double_quote, single_quote, backslash, begins}
use Rattle.syn_lexer.specs.Words.{starts_word, begins_raw_word, word_len, literal_to}
use Rattle.syn_lexer.specs.declared.front.LexemeKind.TheVariants.{Lifetime}
use Rattle.syn_lexer.specs.declared.error.LexError.TheVariants.{MalformedLiteral, MalformedLifetime}

-- a literal whose opening is so many characters, and whose rest is so many more; where it is not closed, a refusal of
-- so many
abbrev pub closed : Text → ℕ → Option ℕ → ℕ → Reading
closed z opening None refused = Err (MalformedLiteral, refused)
closed z opening (Some n) refused = Ok (literal_to z (opening + n))

-- ---- strings

-- how many characters there are up to and with the closing `"`, counted on from `n`; a backslash takes the next
-- character
abbrev pub string_rest : Bool → ℕ → Text → Option ℕ
string_rest is_escaped n [] = None
string_rest true n (c ∷ z) = string_rest false (n + 1) z
string_rest false n (c ∷ z) = if c == double_quote then Some (n + 1) else string_rest (c == backslash) (n + 1) z

-- ---- raw strings

abbrev pub is_hash : ℕ → Bool
is_hash c = c == 35

-- any number of `#`
abbrev pub hashes_len : Text → ℕ
hashes_len z = prefix_len is_hash z

-- how many characters there are up to and with the first `"` that has so many `#` after it, counted on from `n`
abbrev pub raw_string_rest : ℕ → ℕ → Text → Option ℕ
raw_string_rest hashes n [] = None
raw_string_rest hashes n (c ∷ z) =
    if c == double_quote && nat_le hashes (hashes_len z) then Some (n + 1 + hashes) else raw_string_rest hashes (n + 1) z

-- ---- the prefixes

-- how many characters `r`, `br` or `cr` are
abbrev pub raw_prefix_len : Text → ℕ
raw_prefix_len z = if begins (codes "r") z then 1 else (if begins (codes "br") z || begins (codes "cr") z then 2 else 0)

-- any number of `#` and a `"`
abbrev pub opens_raw_string : Text → Bool
opens_raw_string z = begins (codes "\"") (drop (hashes_len z) z)

abbrev pub begins_raw_string : Text → Bool
begins_raw_string z = not (raw_prefix_len z == 0) && opens_raw_string (drop (raw_prefix_len z) z)

abbrev pub begins_string : Text → Bool
begins_string z = begins (codes "\"") z || begins (codes "b\"") z || begins (codes "c\"") z

abbrev pub begins_byte : Text → Bool
begins_byte z = begins (codes "b'") z

-- how many characters the opening of a string is
abbrev pub string_opening_len : Text → ℕ
string_opening_len z = if begins (codes "\"") z then 1 else 2

-- a string that is not closed is refused up to the end of the text
abbrev pub string : Text → Reading
string z = let opening = string_opening_len z in closed z opening (string_rest false 0 (drop opening z)) (length z)

abbrev pub raw_string_hashes : Text → ℕ
raw_string_hashes z = hashes_len (drop (raw_prefix_len z) z)

-- the prefix, the `#` and the `"`
abbrev pub raw_string_opening_len : Text → ℕ
raw_string_opening_len z = raw_prefix_len z + raw_string_hashes z + 1

abbrev pub raw_string : Text → Reading
raw_string z =
    let opening = raw_string_opening_len z in
    closed z opening (raw_string_rest (raw_string_hashes z) 0 (drop opening z)) (length z)

-- ---- characters and bytes, after their opening `'`

-- neither `'` nor a line feed
abbrev pub is_within_character : ℕ → Bool
is_within_character c = not (c == single_quote || c == line_feed)

-- a backslash, one character, and then those other than `'` and the line feed; or one character
abbrev pub character_len : Text → ℕ
character_len z = if begins (codes "\\") z then 2 + prefix_len is_within_character (drop 2 z) else 1

-- a character that is neither `'` nor a line feed, and in the end the closing `'`
abbrev pub is_character : Text → Bool
is_character z = is_within_character (slice_index z 0) && slice_index z (character_len z) == single_quote

-- how many characters there are up to and with the closing `'`
abbrev pub character_rest : Text → Option ℕ
character_rest z = if is_character z then Some (character_len z + 1) else None

-- how many characters there are up to where the closing `'` is missing, after so many; no more than the text
abbrev pub unclosed_len : ℕ → Text → ℕ
unclosed_len opening z = min (opening + character_len (drop opening z)) (length z)

abbrev pub byte : Text → Reading
byte z = closed z 2 (character_rest (drop 2 z)) (unclosed_len 2 z)

-- ---- what begins with `'`

-- an identifier that is not raw
abbrev pub begins_plain_word : Text → Bool
begins_plain_word z = starts_word z && not (begins_raw_word z)

-- a character, or a lifetime
abbrev pub character_or_lifetime : Text → Reading
character_or_lifetime z =
    if is_character (drop 1 z) || begins (codes "\\") (drop 1 z) then closed z 1 (character_rest (drop 1 z)) (unclosed_len 1 z)
    else (if begins_plain_word (drop 1 z) then Ok (Lifetime, 1 + word_len (drop 1 z)) else Err (MalformedLifetime, 1))
