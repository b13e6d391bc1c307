-- The longest lexeme at the front of a text (Rust Reference, "Lexical structure").
use Rattle.std.specs.Prelude.{ℕ, Bool, not, ◌&&◌, if◌then◌else◌, ◌==◌, [], ◌∷◌, drop, slice_index, Option, Some, None, Ok, Err, codes}
use Rattle.std.specs.Char.{is_ascii_digit}
use Rattle.std.specs.List.{list_any}
use Rattle.syn_lexer.specs.Text.{Text, Reading, single_quote}
use Rattle.syn_lexer.specs.Blanks.{is_white_space, white_space_len, begins_comment, begins_line_comment, line_comment, begins_block_comment, block_comment}
use Rattle.syn_lexer.specs.Words.{starts_word, word_len, begins_raw_word, raw_word}
use Rattle.syn_lexer.specs.Numbers.{number}
use Rattle.syn_lexer.specs.Quotes.{begins_string, string, begins_raw_string, raw_string, begins_byte, byte, character_or_lifetime}
use Rattle.syn_lexer.specs.declared.front.Delimiter.TheVariants.{Parenthesis, Bracket, Brace}
use Rattle.syn_lexer.specs.declared.front.Spacing.{Spacing}
use Rattle.syn_lexer.specs.declared.front.Spacing.TheVariants.{Alone, Joint}
use Rattle.syn_lexer.specs.declared.front.LexemeKind.{LexemeKind}
use Rattle.syn_lexer.specs.declared.front.LexemeKind.TheVariants.{Blank, Ident, Punct, Open, Close}
use Rattle.syn_lexer.specs.declared.error.LexError.TheVariants.{UnknownCharacter}

-- the characters of punctuation (Rust Reference, "Punctuation"), and the `'` of a lifetime
abbrev pub is_punct : ℕ → Bool
is_punct c = list_any (λ p. c == p) (codes "~!@#$%^&*-=+|;:,<.>/?'")

-- of a punct, by what follows at once: a punct that begins no comment makes it joint
abbrev pub spacing_before : Text → Spacing
spacing_before z = if is_punct (slice_index z 0) && not (begins_comment z) then Joint else Alone

-- delimiters (Rust Reference, "Delimiters") and puncts are one character
unfoldable pub single_kind : Text → Option LexemeKind
single_kind z =
    let c = slice_index z 0 in
    -- ( ) [ ] { }
    if c == 40 then Some (Open Parenthesis) else (if c == 41 then Some (Close Parenthesis)
    else (if c == 91 then Some (Open Bracket) else (if c == 93 then Some (Close Bracket)
    else (if c == 123 then Some (Open Brace) else (if c == 125 then Some (Close Brace)
    else (if is_punct c then Some (Punct c (spacing_before (drop 1 z))) else None))))))

abbrev pub one_character : Option LexemeKind → Reading
one_character None = Err (UnknownCharacter, 1)
one_character (Some kind) = Ok (kind, 1)

abbrev pub single : Text → Reading
single z = one_character (single_kind z)

-- an identifier, a delimiter or a punct
abbrev pub plain : Text → Reading
plain z = if starts_word z then Ok (Ident, word_len z) else single z

-- what is no blank: a prefix belongs to the string or byte that it begins, and else to an identifier
unfoldable pub token : Text → Reading
token z =
    if begins_string z then string z
    else (if begins_raw_string z then raw_string z
    else (if begins_byte z then byte z
    else (if begins_raw_word z then raw_word z
    else (if starts_word z then Ok (Ident, word_len z)
    else (if is_ascii_digit (slice_index z 0) then number z
    else (if slice_index z 0 == single_quote then character_or_lifetime z else single z))))))

-- what is at the front of a text that has characters
unfoldable pub reading : Text → Reading
reading z =
    if is_white_space (slice_index z 0) then Ok (Blank, white_space_len z)
    else (if begins_line_comment z then line_comment z
    else (if begins_block_comment z then block_comment z else token z))

abbrev pub of_reading : Reading → Option (LexemeKind × ℕ)
of_reading (Ok read) = Some read
of_reading (Err e) = None

-- the kind of the longest lexeme at the front and how many characters it is; none where the text is refused
unfoldable pub front : Text → Option (LexemeKind × ℕ)
front [] = None
front (c ∷ z) = of_reading (reading (c ∷ z))
