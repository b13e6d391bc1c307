-- Lists of tokens that a text falls into: those that their own text gives again, spacing included. A text is read
-- lexeme by lexeme, each the longest at the front (Rust Reference, "Lexical structure", "Tokens").
use Rattle.std.specs.Prelude.{◌≡◌, ◌↔◌, ℕ, Bool, true, false, not, ◌&&◌, ◌==◌, if◌then◌else◌, List, [], ◌∷◌, length, chars, codes, Option, Some, None}
use Rattle.std.specs.Str.{is_utf8, IsUtf8}
use Rattle.syn_lexer.specs.Text.{Text, begins, single_quote}
use Rattle.syn_lexer.specs.Blanks.{begins_comment}
use Rattle.syn_lexer.specs.Lex.{front, is_punct}
use Rattle.syn_lexer.specs.declared.front.Delimiter.{Delimiter}
use Rattle.syn_lexer.specs.declared.front.Delimiter.TheVariants as delimiter
use Rattle.syn_lexer.specs.declared.front.LexemeKind.{LexemeKind}
use Rattle.syn_lexer.specs.declared.front.LexemeKind.TheVariants as kind
use Rattle.syn_lexer.specs.declared.front.Spacing.TheVariants.{Alone, Joint}
use Rattle.syn_tokens.specs.Lex.{Spells}
use Rattle.syn_tokens.specs.Text.{text}
use Rattle.syn_tokens.specs.Tok.{Tok, Inside, toks, ident, punct, literal, group, nothing, first}

abbrev pub is_ident : LexemeKind → Bool
is_ident kind.Ident = true
is_ident _ = false

abbrev pub is_literal : LexemeKind → Bool
is_literal kind.Literal = true
is_literal _ = false

abbrev pub is_all : (LexemeKind → Bool) → Text → Option (LexemeKind × ℕ) → Bool
is_all test z None = false
is_all test z (Some p) = test p.0 && p.1 == length z

-- the longest lexeme at the front passes this test, and is all of the text
abbrev pub is_whole : (LexemeKind → Bool) → Text → Bool
is_whole test z = is_all test z (front z)

-- bytes that are the UTF-8 of an identifier or a reserved word, raw or not (Rust Reference, "Identifiers", "Keywords")
abbrev pub is_ident_text : List ℕ → Bool
is_ident_text s = is_utf8 s && is_whole is_ident (chars s)

-- bytes that are the UTF-8 of a literal with its suffix (Rust Reference, "Literals")
abbrev pub is_literal_text : List ℕ → Bool
is_literal_text s = is_utf8 s && is_whole is_literal (chars s)

-- An identifier with no `r#` comes first: after the `'` of a lifetime (Rust Reference, "Lifetimes and loop labels").
abbrev pub sees_plain_ident : List Tok → Bool
sees_plain_ident (ident s ∷ ts) = not (begins (codes "r#") s)
sees_plain_ident _ = false

-- What may follow a punct at once: another one that begins no comment with it, or a literal that begins with `'`
-- (Rust Reference, "Punctuation", "Comments").
abbrev pub joins : ℕ → List Tok → Bool
joins c (punct d s ∷ ts) = not (begins_comment (c ∷ d ∷ []))
joins c (literal s ∷ ts) = begins (codes "'") s
joins c _ = false

-- a group with delimiters that are written (Rust Reference, "Delimiters")
abbrev pub is_written : Delimiter → Bool
is_written delimiter.None = false
is_written _ = true

-- The token stays itself if its text stands before the text of these tokens.
abbrev mutual
  pub stays : Tok → List Tok → Bool
  stays (ident s) ts = is_ident_text s
  stays (literal s) ts = is_literal_text s
  -- `'` begins a character or a lifetime
  stays (punct c Alone) ts = is_punct c && not (c == single_quote)
  stays (punct c Joint) ts = if c == single_quote then sees_plain_ident ts else is_punct c && joins c ts
  stays (group d i) ts = is_written d && inside_is_lexed i

  pub inside_is_lexed : Inside → Bool
  inside_is_lexed nothing = true
  inside_is_lexed (first t i) = stays t (toks i) && inside_is_lexed i

-- the list is one that a text falls into
abbrev pub is_lexed : List Tok → Bool
is_lexed [] = true
is_lexed (t ∷ ts) = stays t ts && is_lexed ts

-- ---- laws

-- some text falls into these tokens
abbrev pub IsOfText : List Tok → Type 0
IsOfText ts = (bytes : List ℕ) × IsUtf8 bytes × Spells (chars bytes) ts

-- the lists that a text falls into are just these
abbrev pub IsExact : Type 0
IsExact = (ts : List Tok) → (is_lexed ts ≡ true) ↔ IsOfText ts

-- what a text falls into, its own text falls into again
abbrev pub IsReadAgain : Type 0
IsReadAgain = (ts : List Tok) → IsOfText ts → Spells (chars (text ts)) ts
