-- Floats after a dot: `x.0.1` is cut into the tokens `x`, `.` and `0.1`, and is read as `x . 0 . 1` (Rust Reference,
-- "Tuple indexing expressions").
use Rattle.std.specs.Prelude.{◌≡◌, ℕ, Bool, true, false, not, ◌&&◌, ◌==◌, if◌then◌else◌, List, [], ◌∷◌, ◌++◌, map}
use Rattle.std.specs.Char.{is_ascii_digit}
use Rattle.syn_lexer.specs.declared.front.Spacing.{Spacing}
use Rattle.syn_lexer.specs.declared.front.Spacing.TheVariants.{Alone, Joint}
use Rattle.syn_tokens.specs.Tok.{Tok, ident, punct, literal, group}

abbrev pub dot : Tok
dot = punct 46 Alone

-- a part of a float as a literal; none after a last dot
abbrev pub part : List ℕ → List Tok
part [] = []
part (b ∷ s) = literal (b ∷ s) ∷ []

-- the parts of a text with dots between, and a last dot where it ends with one; the first list is what was passed over
-- since the last dot
abbrev pub parts_from : List ℕ → List ℕ → List Tok
parts_from passed [] = part passed
parts_from passed (b ∷ s) = if b == 46 then literal passed ∷ dot ∷ parts_from [] s else parts_from (passed ++ b ∷ []) s

abbrev pub begins_number : List ℕ → Bool
begins_number [] = false
begins_number (b ∷ s) = is_ascii_digit b

-- a number at its dots; only floats have dots, and other literals stay
abbrev pub float_parts : List ℕ → List Tok
float_parts s = if begins_number s then parts_from [] s else literal s ∷ []

abbrev pub is_joint : Spacing → Bool
is_joint Joint = true
is_joint Alone = false

-- A dot is single where it is no part of `..`: it is not joined to a dot after it, and no joint dot is before it.
-- The tests say of the token before the list whether it is a joint dot, and whether it is a dot without one before it.
abbrev pub split_from : Bool → Bool → List Tok → List Tok
split_from joint single [] = []
split_from joint single (punct c s ∷ ts) = punct c s ∷ split_from (c == 46 && is_joint s) (c == 46 && not joint) ts
split_from joint single (literal s ∷ ts) = (if single then float_parts s else literal s ∷ []) ++ split_from false false ts
split_from joint single (ident s ∷ ts) = ident s ∷ split_from false false ts
split_from joint single (group d i ∷ ts) = group d i ∷ split_from false false ts

-- Each float that directly follows a single dot is replaced by its parts. What a group encloses is split where it is
-- read, and a dot that comes from a float splits no further one.
unfoldable pub split_floats : List Tok → List Tok
split_floats = split_from false false

-- ---- back again

-- a token of a split list, which remembers where it comes from
pub data Split : Type 0 where
  -- a token of the list itself
  whole : Tok → Split
  -- of a float: one token, with others after it
  piece : Tok → Split
  -- of this float: its last token
  last : List ℕ → Tok → Split

abbrev pub token_of : Split → Tok
token_of (whole t) = t
token_of (piece t) = t
token_of (last s t) = t

-- the tokens of a float, the last of which remembers it
abbrev pub pieces_of : List ℕ → List Tok → List Split
pieces_of s [] = []
pieces_of s (t ∷ []) = last s t ∷ []
pieces_of s (t ∷ u ∷ ts) = piece t ∷ pieces_of s (u ∷ ts)

abbrev pub remember_from : Bool → Bool → List Tok → List Split
remember_from joint single [] = []
remember_from joint single (punct c s ∷ ts) = whole (punct c s) ∷ remember_from (c == 46 && is_joint s) (c == 46 && not joint) ts
remember_from joint single (literal s ∷ ts) = (if single then pieces_of s (float_parts s) else whole (literal s) ∷ []) ++ remember_from false false ts
remember_from joint single (ident s ∷ ts) = whole (ident s) ∷ remember_from false false ts
remember_from joint single (group d i ∷ ts) = whole (group d i) ∷ remember_from false false ts

-- a split list that remembers its floats
unfoldable pub remember_floats : List Tok → List Split
remember_floats = remember_from false false

-- the list before it was split
unfoldable pub join_floats : List Split → List Tok
join_floats [] = []
join_floats (whole t ∷ ts) = t ∷ join_floats ts
join_floats (piece t ∷ ts) = join_floats ts
join_floats (last s t ∷ ts) = literal s ∷ join_floats ts

-- the split list that remembers has the tokens of the split list, and is the list again once it is joined
abbrev pub JoinsAgain : Type 0
JoinsAgain = (ts : List Tok) → (map token_of (remember_floats ts) ≡ split_floats ts) × (join_floats (remember_floats ts) ≡ ts)
