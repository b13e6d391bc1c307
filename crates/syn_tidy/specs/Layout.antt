-- Layouts: the texts that write out a list of tokens, with any white space between them, and some where it has to stand.
use Rattle.std.specs.Prelude.{◌≡◌, Bool, true, false, List, [], ◌∷◌, ◌++◌, chars}
use Rattle.std.specs.List.{list_all}
use Rattle.syn_lexer.specs.Text.{Text}
use Rattle.syn_lexer.specs.Blanks.{is_white_space}
use Rattle.syn_tokens.specs.Lex.{Spells}
use Rattle.syn_tokens.specs.Tok.{Tok, Inside, ident, punct, literal, group, nothing, first, inside}
use Rattle.syn_tokens.specs.Text.{is_joint, opening, closing}
use Rattle.syn_text.specs.Lexed.{is_lexed}
use Rattle.syn_text.specs.Must.{must}

-- white space, any or none, and then the text
abbrev pub IsSpaced : Text → Text → Type 0
IsSpaced y z = (white : Text) × (list_all is_white_space white ≡ true) × (z ≡ white ++ y)

-- a space, if one is wanted, and then the text
abbrev pub space_before : Bool → Text → Text
space_before true z = 32 ∷ z
space_before false z = z

-- Behind the token is white space, and then the text: none where the token is a joint punct, and some where it has to be.
abbrev pub IsGap : Tok → Text → Text → Type 0
IsGap t y z = IsSpaced y z × (is_joint t ≡ true → z ≡ y) × (must t z ≡ false)

abbrev mutual
  -- the text of a token, and then this text
  pub IsTree : Tok → Text → Text → Type 0
  IsTree (ident s) y z = z ≡ chars s ++ y
  IsTree (punct c s) y z = z ≡ c ∷ y
  IsTree (literal s) y z = z ≡ chars s ++ y
  -- white space at both ends of what the delimiters enclose, any or none
  IsTree (group d i) y z = (u : Text) × (v : Text) × (z ≡ opening d ++ v) × IsSpaced u v × IsList i (closing d ++ y) u

  -- tokens, each with a gap behind it, and then this text
  pub IsList : Inside → Text → Text → Type 0
  IsList nothing y z = IsSpaced y z
  IsList (first t i) y z = (u : Text) × (v : Text) × IsTree t v z × IsGap t u v × IsList i y u

-- the text lays the list out, with white space before its first token or none
abbrev pub IsLayout : List Tok → Text → Type 0
IsLayout ts z = (u : Text) × IsSpaced u z × IsList (inside ts) [] u

-- ---- a law

-- Given a list that some text falls into, each layout of it falls into this list, spacing included.
abbrev pub AreReadAgain : Type 0
AreReadAgain = (ts : List Tok) (z : Text) → is_lexed ts ≡ true → IsLayout ts z → Spells z ts
