-- Identifiers and literals at the front of a list.
use Rattle.std.specs.Prelude.{Bool, true, false, not, List, ◌∷◌}
use Rattle.syn_lexer.specs.Keywords.{is_reserved_word}
use Rattle.syn_tokens.specs.Tok.{Tok, ident, literal}

-- an identifier that is no reserved word comes first
abbrev pub sees_ident : List Tok → Bool
sees_ident (ident s ∷ ts) = not (is_reserved_word s)
sees_ident _ = false

-- a literal comes first
abbrev pub sees_literal : List Tok → Bool
sees_literal (literal s ∷ ts) = true
sees_literal _ = false
