-- The text of tokens.
use Rattle.std.specs.Prelude.{ℕ, Bool, true, false, ◌||◌, if◌then◌else◌, nat_eq, length, List, [], ◌∷◌, ◌++◌, encode_utf8, ◌≤◌, ◌-◌, take, drop}
use Rattle.syn_lexer.specs.declared.front.Delimiter.{Delimiter}
use Rattle.syn_lexer.specs.declared.front.Delimiter.TheVariants as delimiter
use Rattle.syn_lexer.specs.declared.front.Spacing.TheVariants as spacing
use Rattle.syn_tokens.specs.Tok.{Tok, Inside, toks, ident, punct, literal, group, nothing, first}
use Rattle.std.specs.Rc.{rc_str_bytes}
use Rattle.std.specs.Str.{IsCharBoundary}
use Rattle.syn_tokens.specs.Sign.{word_text}
use Rattle.syn_tokens.specs.declared.text.Kept.{Kept}
use Rattle.syn_tokens.specs.declared.text.Kept.TheVariants.{Part, Word}

abbrev pub is_joint : Tok → Bool
is_joint (punct c spacing.Joint) = true
is_joint t = false

-- one space between neighbours, but none after a joint punct
abbrev pub gap : Tok → List Tok → List ℕ
gap t ts = if is_joint t || nat_eq (length ts) 0 then [] else 32 ∷ []

abbrev pub opening : Delimiter → List ℕ
opening delimiter.Parenthesis = 40 ∷ []
opening delimiter.Bracket = 91 ∷ []
opening delimiter.Brace = 123 ∷ []
opening delimiter.None = []

abbrev pub closing : Delimiter → List ℕ
closing delimiter.Parenthesis = 41 ∷ []
closing delimiter.Bracket = 93 ∷ []
closing delimiter.Brace = 125 ∷ []
closing delimiter.None = []

-- one space at both ends of what a brace encloses
abbrev pub margin : Delimiter → Inside → List ℕ
margin d nothing = []
margin delimiter.Brace (first t i) = 32 ∷ []
margin d (first t i) = []

abbrev mutual
  pub text_of : Tok → List ℕ
  text_of (ident s) = s
  text_of (punct c s) = encode_utf8 c
  text_of (literal s) = s
  text_of (group d i) = opening d ++ margin d i ++ text_inside i ++ margin d i ++ closing d

  pub text_inside : Inside → List ℕ
  text_inside nothing = []
  text_inside (first t i) = text_of t ++ gap t (toks i) ++ text_inside i

abbrev pub text : List Tok → List ℕ
text [] = []
text (t ∷ ts) = text_of t ++ gap t ts ++ text ts

-- ---- what a text is that shares another

abbrev pub source_bytes : Kept → List ℕ
source_bytes (Word k) = word_text k
source_bytes (Part whole lo hi) = take (hi - lo) (drop lo (rc_str_bytes whole))

abbrev pub IsTextSource : Kept → Type 0
IsTextSource (Word k) = Unit {0}
IsTextSource (Part whole lo hi) = (lo ≤ hi) × IsCharBoundary (rc_str_bytes whole) lo × IsCharBoundary (rc_str_bytes whole) hi
