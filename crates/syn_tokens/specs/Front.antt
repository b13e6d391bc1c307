-- What comes first in a list of tokens.
use Rattle.std.specs.Prelude.{Bool, true, false, ◌==◌, if◌then◌else◌, is_some, List, [], ◌∷◌, Option, Some, None}
use Rattle.syn_tokens.specs.Tok.{Tok, ident, punct, group, toks}
use Rattle.syn_lexer.specs.declared.front.Delimiter.{Delimiter}
use Rattle.syn_lexer.specs.declared.front.Delimiter.TheVariants as delimiter
use Rattle.syn_lexer.specs.declared.front.Spacing.TheVariants.{Alone, Joint}

abbrev pub is_empty : List Tok → Bool
is_empty [] = true
is_empty (t ∷ ts) = false

abbrev pub same_delimiter : Delimiter → Delimiter → Bool
same_delimiter delimiter.Parenthesis delimiter.Parenthesis = true
same_delimiter delimiter.Brace delimiter.Brace = true
same_delimiter delimiter.Bracket delimiter.Bracket = true
same_delimiter delimiter.None delimiter.None = true
same_delimiter _ _ = false

abbrev pub group_of : Delimiter → Tok → List Tok → Option (List Tok × List Tok)
group_of d (group found i) ts = if same_delimiter found d then Some (toks i, ts) else None
group_of d _ ts = None

-- the inside of a group with this delimiter, if it comes first, and what is after it
unfoldable pub group_at : Delimiter → List Tok → Option (List Tok × List Tok)
group_at d [] = None
group_at d (t ∷ ts) = group_of d t ts

-- a group with this delimiter comes first
abbrev pub sees_group : Delimiter → List Tok → Bool
sees_group d ts = is_some (group_at d ts)

-- Past one token tree; a lifetime, a joint quote and a word, counts as one.
abbrev pub past_one : List Tok → List Tok
past_one [] = []
past_one (punct c Alone ∷ ts) = ts
past_one (punct c Joint ∷ []) = []
past_one (punct c Joint ∷ ident s ∷ ts) = if c == 39 then ts else ident s ∷ ts
past_one (punct c Joint ∷ t ∷ ts) = t ∷ ts
past_one (t ∷ ts) = ts
