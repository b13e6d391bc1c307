-- How a text falls into token trees. A text is a list of characters.
use Rattle.std.specs.Prelude.{◌≡◌, ℕ, zero, suc, ◌-◌, if◌then◌else◌, List, [], ◌∷◌, ◌++◌, length, take, drop, Option, Some, None, Ok, Err, encode_utf8_all}
use Rattle.syn_lexer.specs.Text.{Text, Reading}
use Rattle.syn_lexer.specs.Lex.{front, reading}
use Rattle.syn_lexer.specs.declared.error.LexError.{LexError}
use Rattle.syn_lexer.specs.declared.error.LexError.TheVariants.{UnclosedDelimiter, UnexpectedClosingDelimiter, UnknownCharacter}
use Rattle.syn_lexer.specs.declared.front.Delimiter.{Delimiter}
use Rattle.syn_lexer.specs.declared.front.LexemeKind.{LexemeKind}
use Rattle.syn_lexer.specs.declared.front.Spacing.TheVariants.{Joint}
use Rattle.syn_lexer.specs.declared.front.LexemeKind.TheVariants.{Blank, Ident, Literal, Lifetime, Punct, Open, Close}
use Rattle.syn_tokens.specs.declared.error.ErrorKind.{ErrorKind}
use Rattle.syn_tokens.specs.declared.error.ErrorKind.TheVariants.{Lex}
use Rattle.syn_tokens.specs.Front.{same_delimiter}
use Rattle.syn_tokens.specs.Tok.{Tok, Inside, ident, punct, literal, group, nothing, first}

-- what a text is cut into: tokens, and the delimiters of groups
pub data Piece : Type 0 where
  leaf : Tok → Piece
  opens : Delimiter → Piece
  closes : Delimiter → Piece

-- ---- the pieces of a text

-- a lexeme with this text; white space and comments are left out
abbrev pub lexeme_pieces : LexemeKind → Text → List Piece
lexeme_pieces Blank z = []
lexeme_pieces Ident z = leaf (ident (encode_utf8_all z)) ∷ []
lexeme_pieces Literal z = leaf (literal (encode_utf8_all z)) ∷ []
-- the joint `'`, and the identifier after it
lexeme_pieces Lifetime z = leaf (punct 39 Joint) ∷ leaf (ident (encode_utf8_all (drop 1 z))) ∷ []
lexeme_pieces (Punct c s) z = leaf (punct c s) ∷ []
lexeme_pieces (Open d) z = opens d ∷ []
lexeme_pieces (Close d) z = closes d ∷ []

abbrev pub then_pieces : List Piece → Option (List Piece) → Option (List Piece)
then_pieces ps None = None
then_pieces ps (Some qs) = Some (ps ++ qs)

abbrev pub lexeme_then : Text → Option (LexemeKind × ℕ) → (ℕ → Option (List Piece)) → Option (List Piece)
lexeme_then z None behind = None
lexeme_then z (Some p) behind = then_pieces (lexeme_pieces p.0 (take p.1 z)) (behind (p.1 - 1))

-- Lexeme by lexeme, each the longest at the front. The number counts the characters that are left of a lexeme.
abbrev pub pieces_from : ℕ → Text → Option (List Piece)
pieces_from left [] = Some []
pieces_from (suc left) (c ∷ z) = pieces_from left z
pieces_from zero (c ∷ z) = lexeme_then (c ∷ z) (front (c ∷ z)) (λ left. pieces_from left z)

unfoldable pub pieces : Text → Option (List Piece)
pieces = pieces_from 0

-- ---- the pieces of token trees

abbrev mutual
  pub pieces_of : Tok → List Piece
  pieces_of (ident s) = leaf (ident s) ∷ []
  pieces_of (punct c s) = leaf (punct c s) ∷ []
  pieces_of (literal s) = leaf (literal s) ∷ []
  pieces_of (group d i) = opens d ∷ (pieces_inside i ++ closes d ∷ [])

  pub pieces_inside : Inside → List Piece
  pieces_inside nothing = []
  pieces_inside (first t i) = pieces_of t ++ pieces_inside i

abbrev pub flat : List Tok → List Piece
flat [] = []
flat (t ∷ ts) = pieces_of t ++ flat ts

-- the text falls into the pieces of these trees: so each opening delimiter has its closing one
abbrev pub Spells : Text → List Tok → Type 0
Spells z ts = pieces z ≡ Some (flat ts)

-- ---- why a text is refused

-- the delimiters that are open after a lexeme, the innermost first; none where it closes what is not open
abbrev pub open_behind : LexemeKind → List Delimiter → Option (List Delimiter)
open_behind (Open d) st = Some (d ∷ st)
open_behind (Close d) [] = None
open_behind (Close d) (e ∷ st) = if same_delimiter e d then Some st else None
open_behind _ st = Some st

abbrev pub refusal_behind : Option (List Delimiter) → (List Delimiter → Option LexError) → Option LexError
refusal_behind None behind = Some UnexpectedClosingDelimiter
refusal_behind (Some st) behind = behind st

abbrev pub refusal_at : List Delimiter → Reading → (ℕ → List Delimiter → Option LexError) → Option LexError
refusal_at st (Err e) behind = Some e.0
refusal_at st (Ok p) behind = refusal_behind (open_behind p.0 st) (behind (p.1 - 1))

abbrev pub refusal_at_end : List Delimiter → Option LexError
refusal_at_end [] = None
refusal_at_end (d ∷ st) = Some UnclosedDelimiter

-- Lexeme by lexeme, as the pieces are: the first one that is refused or closes what is not open, then the end.
abbrev pub refusal_from : List Delimiter → ℕ → Text → Option LexError
refusal_from st left [] = refusal_at_end st
refusal_from st (suc left) (c ∷ z) = refusal_from st left z
refusal_from st zero (c ∷ z) = refusal_at st (reading (c ∷ z)) (λ left inner. refusal_from inner left z)

-- why a text falls into no trees, the first reason in it
unfoldable pub refusal : Text → Option LexError
refusal = refusal_from [] 0

abbrev pub IsRefusedAs : Option LexError → ErrorKind → Type 0
IsRefusedAs None kind = ⊥
IsRefusedAs (Some e) kind = kind ≡ Lex e

-- what is no single token is refused as the text is, and else as an unknown character
abbrev pub or_unknown : Option LexError → LexError
or_unknown None = UnknownCharacter
or_unknown (Some e) = e

-- ---- texts that are one token

-- the longest lexeme at the front is an identifier or a reserved word, and is all of the text
abbrev pub IsIdentText : Text → Type 0
IsIdentText z = front z ≡ Some (Ident, length z)

-- the longest lexeme at the front is a literal, and is all of the text
abbrev pub IsLiteralText : Text → Type 0
IsLiteralText z = front z ≡ Some (Literal, length z)
