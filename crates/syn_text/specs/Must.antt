-- Where white space has to stand between the text of a token and what is behind it.
use Rattle.std.specs.Prelude.{ℕ, Bool, true, false, not, ◌&&◌, ◌||◌, ◌==◌, ◌∷◌, chars, codes, drop, slice_index, reverse}
use Rattle.std.specs.List.{list_all}
use Rattle.unicode_ident.specs.Ident.{is_xid_continue}
use Rattle.syn_lexer.specs.Text.{Text, begins}
use Rattle.syn_lexer.specs.Words.{starts_word}
use Rattle.syn_lexer.specs.Numbers.{is_digit_or_underscore}
use Rattle.syn_lexer.specs.Lex.{is_punct}
use Rattle.syn_lexer.specs.declared.number.Base.TheVariants.{Decimal}
use Rattle.syn_lexer.specs.declared.front.Spacing.TheVariants.{Alone, Joint}
use Rattle.syn_tokens.specs.Tok.{Tok, ident, punct, literal, group}

-- A word goes on with a character that has XID_Continue, and a literal with a suffix (Rust Reference, "Identifiers",
-- "Suffixes"). A word is the prefix of a `"`, `'` or `#` that follows at once ("Reserved prefixes").
abbrev pub goes_on : ℕ → Bool
goes_on c = is_xid_continue c || (c == 34 || (c == 39 || c == 35))

-- digits and `_` alone: an integer with no prefix and no suffix
abbrev pub is_whole_number : Text → Bool
is_whole_number w = list_all (is_digit_or_underscore Decimal) w

-- Behind a literal, a `.` and then this text follow at once, and the literal is not the same before them. An integer takes
-- the `.`, but not before another `.` and before a word (Rust Reference, "Floating-point literals"). A number that ends
-- in `.` ends before that with a second `.` behind it.
abbrev pub takes_dot : Text → Text → Bool
takes_dot w z = begins (codes ".") (reverse w) || (is_whole_number w && not (begins (codes ".") z || starts_word z))

-- Some white space has to stand between this token and this text. A punct that is alone has none before another punct,
-- which would make it joint. Nothing stands behind a joint punct, and a group ends with its delimiter.
abbrev pub must : Tok → Text → Bool
must (ident s) z = goes_on (slice_index z 0)
must (literal s) z = goes_on (slice_index z 0) || (begins (codes ".") z && takes_dot (chars s) (drop 1 z))
must (punct c Alone) z = is_punct (slice_index z 0)
must (punct c Joint) z = false
must (group d i) z = false
