-- What the text of a token says: which word it is, and which literal.
use Rattle.std.specs.Prelude.{ℕ, Bool, not, ◌||◌, ◌&&◌, ◌==◌, if◌then◌else◌, List, [], ◌∷◌, codes, slice_index_or, Option, Some, None}
use Rattle.std.specs.Str.{bytes_eq}
use Rattle.std.specs.List.{prefix_len}
use Rattle.std.specs.Char.{is_ascii_digit}
use Rattle.syn_lexer.specs.Keywords.{is_reserved_word, is_one_of}
use Rattle.syn_lower_spec.specs.declared.label.LitKind.{LitKind}
use Rattle.syn_lower_spec.specs.declared.label.LitKind.TheVariants as kind

-- the bytes of a text
abbrev pub Text : Type 0
Text = List ℕ

-- ---- words of paths (Rust Reference, "Paths", "Path qualifiers"; `try` as the macro's name)

-- these take no arguments
unfoldable pub stands_alone : Text → Bool
stands_alone w = is_one_of (codes "super" ∷ codes "self" ∷ codes "crate" ∷ codes "try" ∷ []) w

-- a segment of a path: an identifier, `Self`, or one of these
unfoldable pub is_segment : Text → Bool
is_segment w = not (is_reserved_word w) || (bytes_eq w (codes "Self") || stands_alone w)

unfoldable pub is_truth : Text → Bool
is_truth w = is_one_of (codes "true" ∷ codes "false" ∷ []) w

-- ---- literals (Rust Reference, "Tokens", "Literals")

abbrev pub is_digit : ℕ → Bool
is_digit c = is_ascii_digit c || c == 95

abbrev pub byte_at : Text → ℕ → ℕ
byte_at text i = slice_index_or text i 0

-- after `0`: `x`, `o` or `b`
abbrev pub has_radix : Text → Bool
has_radix text = byte_at text 0 == 48 && (byte_at text 1 == 120 || (byte_at text 1 == 111 || byte_at text 1 == 98))

abbrev pub begins_fraction : ℕ → Bool
begins_fraction c = c == 46 || (c == 101 || c == 69)

-- After decimal digits stands a dot or an exponent (Rust Reference, "Floating-point literals").
unfoldable pub is_float_text : Text → Bool
is_float_text text = not (has_radix text) && begins_fraction (byte_at text (prefix_len is_digit text))

abbrev pub number_kind : Text → LitKind
number_kind text = if is_float_text text then kind.Float else kind.Int

unfoldable pub is_number : Text → Bool
is_number text = is_ascii_digit (byte_at text 0)

-- The first characters of a literal say which it is.
unfoldable pub kind_of : Text → Option LitKind
kind_of text =
    if is_number text then Some (number_kind text) else
    (if byte_at text 0 == 34 || byte_at text 0 == 114 then Some kind.Str else
    (if byte_at text 0 == 39 then Some kind.Char else
    (if byte_at text 0 == 98 then (if byte_at text 1 == 39 then Some kind.Byte else Some kind.ByteStr) else
    (if byte_at text 0 == 99 then Some kind.CStr else None))))
