-- Identifiers, raw identifiers and suffixes (Rust Reference, "Identifiers" and "Suffixes").
use Rattle.std.specs.Prelude.{ℕ, ◌+◌, Bool, false, ◌&&◌, ◌||◌, if◌then◌else◌, ◌==◌, [], ◌∷◌, take, drop, Ok, Err, codes}
use Rattle.std.specs.List.{prefix_len, list_any}
use Rattle.std.specs.Str.{bytes_eq}
use Rattle.unicode_ident.specs.Ident.{is_xid_start, is_xid_continue}
use Rattle.syn_lexer.specs.Text.{Text, Reading, underscore, begins}
use Rattle.syn_lexer.specs.declared.front.LexemeKind.{LexemeKind}
use Rattle.syn_lexer.specs.declared.front.LexemeKind.TheVariants.{Ident, Literal}
use Rattle.syn_lexer.specs.declared.error.LexError.TheVariants.{ReservedRawIdentifier}

-- `_` or a character with the Unicode property XID_Start
abbrev pub is_word_start : ℕ → Bool
is_word_start c = c == underscore || is_xid_start c

abbrev pub starts_word : Text → Bool
starts_word [] = false
starts_word (c ∷ z) = is_word_start c

-- the first character, and those with the Unicode property XID_Continue after it
abbrev pub word_len : Text → ℕ
word_len z = 1 + prefix_len is_xid_continue (drop 1 z)

-- a suffix is an identifier that follows at once, and is not raw
abbrev pub suffix_len : Text → ℕ
suffix_len z = if starts_word z then word_len z else 0

-- a literal up to this place, and its suffix
abbrev pub literal_to : Text → ℕ → LexemeKind × ℕ
literal_to z end = (Literal, end + suffix_len (drop end z))

-- `r#` before an identifier
abbrev pub begins_raw_word : Text → Bool
begins_raw_word z = begins (codes "r#") z && starts_word (drop 2 z)

-- `r#_`, `r#self`, `r#Self`, `r#super` and `r#crate` are no raw identifiers
abbrev pub is_reserved_raw : Text → Bool
is_reserved_raw word =
    list_any (bytes_eq word) (codes "_" ∷ codes "self" ∷ codes "Self" ∷ codes "super" ∷ codes "crate" ∷ [])

-- a raw identifier's text keeps `r#`; five words are reserved there, and refused with it
abbrev pub raw_word : Text → Reading
raw_word z =
    let n = word_len (drop 2 z) in
    if is_reserved_raw (take n (drop 2 z)) then Err (ReservedRawIdentifier, 2 + n) else Ok (Ident, 2 + n)
