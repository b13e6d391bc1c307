-- What spells an index alone, why no member, index or label is read, and where modifiers are refused.
use Rattle.std.specs.Prelude.{◌≡◌, ◌⊎◌, ℕ, Bool, true, false, ◌==◌, if◌then◌else◌, List, ◌∷◌, Option, Some, None}
use Rattle.syn_tokens.specs.Tok.{Tok, literal}
use Rattle.syn_tokens.specs.declared.error.ErrorKind.{ErrorKind}
use Rattle.syn_tokens.specs.declared.error.ErrorKind.TheVariants.{ExpectedMember, ExpectedToken, ExpectedUnsuffixedInteger, IndexOutOfRange}
use Rattle.syn_tokens.specs.declared.error.Expected.TheVariants as expected
use Rattle.syn_tokens.specs.declared.error.Wanted.TheVariants as wanted
use Rattle.syn_lower_spec.specs.declared.label.LitKind.{LitKind}
use Rattle.syn_lower_spec.specs.declared.label.LitKind.TheVariants as kind
use Rattle.syn_lower_spec.specs.Text.{kind_of}
use Rattle.syn_lower_spec.specs.Form.{Form, Outcome, leaf}
use Rattle.syn_lower_spec.specs.Pat.{index_of, integer_value}
use Rattle.syn_lower_spec.specs.Mark.{lifetime_at}
use Rattle.syn_tokens.specs.declared.tree.Span.{Span}
use Rattle.syn_lower_leaves.specs.Reads.{wanted_lifetime}
use Rattle.syn_lower_leaves.specs.View.{mapped}
use Rattle.syn_expr_tokens.specs.declared.modifiers.ClosureModifiers.{ClosureModifiers}

abbrev pub found_if : Option ℕ → List Tok → Outcome ℕ
found_if None l = None
found_if (Some n) l = Some (n, l)

abbrev pub find_index : List Tok → Outcome ℕ
find_index (literal text ∷ l) = found_if (index_of text) l
find_index _ = None

unfoldable pub index : Form ℕ
index = leaf (λ n m. n == m) find_index

-- an integer that has a value is too large for an index, and another has a suffix
abbrev pub by_value : Option ℕ → ErrorKind
by_value None = ExpectedUnsuffixedInteger
by_value (Some n) = IndexOutOfRange

abbrev pub index_refusal : List Tok → ErrorKind
index_refusal (literal text ∷ l) = by_value (integer_value text)
index_refusal _ = ExpectedUnsuffixedInteger

abbrev pub is_integer : Option LitKind → Bool
is_integer (Some kind.Int) = true
is_integer _ = false

abbrev pub member_refusal : List Tok → ErrorKind
member_refusal (literal text ∷ l) = if is_integer (kind_of text) then by_value (integer_value text) else ExpectedMember
member_refusal _ = ExpectedMember

-- `:` is expected, by its place in the table of signs
abbrev pub wanted_colon : ErrorKind
wanted_colon = ExpectedToken (expected.One (wanted.Sign 6))

abbrev pub label_refusal : List Tok → ErrorKind
label_refusal l = if lifetime_at l then wanted_colon else wanted_lifetime

-- the kinds that these are
abbrev pub MayRefuseIndex : ErrorKind → Type 0
MayRefuseIndex k = (k ≡ ExpectedUnsuffixedInteger) ⊎ (k ≡ IndexOutOfRange)

abbrev pub MayRefuseMember : ErrorKind → Type 0
MayRefuseMember k = (k ≡ ExpectedMember) ⊎ MayRefuseIndex k

abbrev pub MayRefuseLabel : ErrorKind → Type 0
MayRefuseLabel k = (k ≡ wanted_lifetime) ⊎ (k ≡ wanted_colon)

-- the first of two places
abbrev pub first_place : Option Span → Option Span → Option Span
first_place None o = o
first_place (Some s) o = Some s

-- where the first modifier of a closure is: `static`, else `use`
abbrev pub modifier_span : ClosureModifiers → Option Span
modifier_span x = first_place (mapped (λ t. t.span) x.static_token) (mapped (λ t. t.span) x.use_token)
