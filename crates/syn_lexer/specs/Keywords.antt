-- The words that are no identifiers: `_`, and the words of syn's list, which are the strict and reserved keywords but
-- `gen` (Rust Reference, "Keywords").
use Rattle.std.specs.Prelude.{ℕ, Bool, false, ◌==◌, ◌||◌, List, [], ◌∷◌, codes}
use Rattle.std.specs.Str.{bytes_eq}

abbrev pub reserved_words : List (List ℕ)
reserved_words =
    codes "_" ∷ codes "abstract" ∷ codes "as" ∷ codes "async" ∷ codes "await" ∷ codes "become" ∷
    codes "box" ∷ codes "break" ∷ codes "const" ∷ codes "continue" ∷ codes "crate" ∷ codes "do" ∷
    codes "dyn" ∷ codes "else" ∷ codes "enum" ∷ codes "extern" ∷ codes "false" ∷ codes "final" ∷ codes "fn" ∷
    codes "for" ∷ codes "if" ∷ codes "impl" ∷ codes "in" ∷ codes "let" ∷ codes "loop" ∷ codes "macro" ∷
    codes "match" ∷ codes "mod" ∷ codes "move" ∷ codes "mut" ∷ codes "override" ∷ codes "priv" ∷
    codes "pub" ∷ codes "ref" ∷ codes "return" ∷ codes "Self" ∷ codes "self" ∷ codes "static" ∷
    codes "struct" ∷ codes "super" ∷ codes "trait" ∷ codes "true" ∷ codes "try" ∷ codes "type" ∷
    codes "typeof" ∷ codes "unsafe" ∷ codes "unsized" ∷ codes "use" ∷ codes "virtual" ∷ codes "where" ∷
    codes "while" ∷ codes "yield" ∷ []

abbrev pub begins_with : ℕ → List ℕ → Bool
begins_with b [] = false
begins_with b (c ∷ w) = b == c

abbrev pub is_one_of : List (List ℕ) → List ℕ → Bool
is_one_of [] w = false
is_one_of (v ∷ more) w = bytes_eq w v || is_one_of more w

unfoldable pub is_reserved_word : List ℕ → Bool
is_reserved_word w = is_one_of reserved_words w
