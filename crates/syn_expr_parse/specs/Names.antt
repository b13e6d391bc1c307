-- The operand that is a name alone.
use Rattle.std.specs.Prelude.{Bool, true, false, not, ◌||◌, ◌&&◌, ◌==◌, List, ◌∷◌}
use Rattle.syn_lexer.specs.Keywords.{is_reserved_word}
use Rattle.syn_lexer.specs.declared.front.Delimiter.TheVariants as del
use Rattle.syn_tokens.specs.Tok.{Tok, ident, punct, group}

-- a sign that `::`, `!` or the `#` after `builtin` may begin with, or a brace
abbrev pub may_go_on : List Tok → Bool
may_go_on (punct c s ∷ l) = c == 58 || (c == 33 || c == 35)
may_go_on (group del.Brace i ∷ l) = true
may_go_on _ = false

-- a name comes first, and nothing after it that may go on it
abbrev pub is_alone : List Tok → Bool
is_alone (ident w ∷ l) = not (is_reserved_word w) && not (may_go_on l)
is_alone _ = false
