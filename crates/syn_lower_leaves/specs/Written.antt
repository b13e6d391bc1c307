-- The texts of literals that a program makes (Rust Reference, "Character literals", "String literals", "Byte literals",
-- "Byte string literals", "Number literals").
use Rattle.std.specs.Prelude.{◌≡◌, ℕ, ◌/◌, ◌%◌, Bool, true, false, not, ◌||◌, ◌&&◌, ◌==◌, nat_le, if◌then◌else◌, List, [], ◌∷◌, ◌++◌, codes, chars, flat_map}
use Rattle.std.specs.Char.{digit_char}
use Rattle.syn_tokens.specs.Lex.{IsLiteralText}
use Rattle.syn_lower_spec.specs.Text.{Text, is_number, is_float_text}
use Rattle.syn_lower_leaves.specs.Value.{is_plain}

-- no control character; of a byte, one of ASCII
abbrev pub is_shown : Bool → ℕ → Bool
is_shown is_byte c = nat_le 32 c && (not (c == 127) && is_plain is_byte c)

-- a number in two hexadecimal digits
abbrev pub code : ℕ → Text
code c = 92 ∷ 120 ∷ digit_char (c / 16) ∷ digit_char (c % 16) ∷ []

-- A character or a byte between quotes: an escape of the quote, the backslash, a tab, a line feed, a carriage return and the
-- number 0; else itself if it may be shown, and else its number.
abbrev pub written : Bool → ℕ → ℕ → Text
written is_byte quote c =
    if c == quote || c == 92 then 92 ∷ c ∷ [] else
    (if c == 9 then codes "\\t" else (if c == 10 then codes "\\n" else (if c == 13 then codes "\\r" else (if c == 0 then codes "\\0" else
    (if is_shown is_byte c then c ∷ [] else code c)))))

-- the opening quote, after the `b` of a byte
abbrev pub opening : Bool → ℕ → Text
opening is_byte quote = if is_byte then 98 ∷ quote ∷ [] else quote ∷ []

-- between quotes, `'` or `"`
abbrev pub quoted : Bool → ℕ → List ℕ → Text
quoted is_byte quote cs = (opening is_byte quote ++ flat_map (written is_byte quote) cs) ++ quote ∷ []

-- ---- numbers and truth values by their texts

-- a number's sign
abbrev pub has_minus : Text → Bool
has_minus [] = false
has_minus (c ∷ z) = c == 45

abbrev pub without_minus : Text → Text
without_minus [] = []
without_minus (c ∷ z) = if c == 45 then z else c ∷ z

-- one literal that is a number, an integer or a floating-point number
abbrev pub IsNumber : Bool → Text → Type 0
IsNumber is_float text = IsLiteralText (chars text) × (is_number text ≡ true) × (is_float_text text ≡ is_float)

abbrev pub truth_text : Bool → Text
truth_text true = codes "true"
truth_text false = codes "false"
