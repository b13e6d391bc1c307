-- The indices in a float after a dot, from its text.
use Rattle.std.specs.Prelude.{◌≡◌, ℕ, Bool, if◌then◌else◌, is_some, List, [], ◌∷◌, Option, Some, None}
use Rattle.syn_tokens.specs.Tok.{Tok, literal}
use Rattle.syn_tokens.specs.Floats.{dot, part, parts_from}
use Rattle.syn_tokens.specs.declared.error.ErrorKind.{ErrorKind}
use Rattle.syn_tokens.specs.declared.error.ErrorKind.TheVariants.{ExpectedMember, ExpectedUnsuffixedInteger}
use Rattle.syn_lower_spec.specs.Text.{Text, is_number}
use Rattle.syn_lower_spec.specs.Pat.{index_of, integer_value}
use Rattle.syn_expr_tokens.specs.Refusal.{by_value}

-- a text at its dots
abbrev pub cut : Text → List Tok
cut text = parts_from [] text

abbrev pub last_part : Text → List Tok
last_part text = part text

-- a text is a part, a dot and more
abbrev pub Splits : Text → Text → Text → Type 0
Splits text first more = cut text ≡ literal first ∷ dot ∷ cut more

abbrev pub with_index : Option ℕ → List ℕ → List ℕ
with_index None is = []
with_index (Some n) is = n ∷ is

-- the indices that the first parts are
abbrev pub front_indices : List Tok → List ℕ
front_indices [] = []
front_indices (literal s ∷ []) = with_index (index_of s) []
front_indices (literal s ∷ d ∷ more) = with_index (index_of s) (front_indices more)
front_indices _ = []

abbrev pub end_of : Option (List ℕ × Bool) → Option Bool
end_of None = None
end_of (Some p) = Some p.1

-- as what the parts are refused: by the first that is no index
abbrev pub refusal_of : List Tok → ErrorKind
refusal_of (literal s ∷ []) = by_value (integer_value s)
refusal_of (literal s ∷ d ∷ more) = if is_some (index_of s) then refusal_of more else by_value (integer_value s)
refusal_of _ = ExpectedUnsuffixedInteger

-- as what a token after a dot is refused that begins no member
abbrev pub refusal_at : List Tok → ErrorKind
refusal_at (literal s ∷ l) = if is_number s then refusal_of (cut s) else ExpectedMember
refusal_at _ = ExpectedMember
