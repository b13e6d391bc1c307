-- What a reader reads from, and what a read does to it.
use Rattle.std.specs.Prelude.{◌≡◌, ◌⊎◌, ℕ, Bool, true, false, ◌||◌, not, is_some, List, ◌++◌, Option, Some, None, Result, Ok, Err, refl}
use Rattle.std.specs.Coded.{Coded, code_by, coded×, coded_ℕ, coded_option}
use Rattle.syn_tokens.specs.Tok.{Tok}
use Rattle.syn_tokens.specs.TokCode.{toks_code}
use Rattle.syn_tokens.specs.Front.{is_empty, group_at}
use Rattle.syn_lexer.specs.declared.front.Delimiter.{Delimiter}
use Rattle.syn_tokens.specs.declared.error.Error.{Error}
use Rattle.syn_tokens.specs.declared.error.ErrorKind.{ErrorKind}
use Rattle.syn_tokens.specs.declared.error.ErrorKind.TheVariants.{OutOfMemory, ExpectedToken, UnexpectedToken}
use Rattle.syn_tokens.specs.declared.error.Expected.TheVariants as expected
use Rattle.syn_tokens.specs.declared.error.Wanted.TheVariants as wanted
use Rattle.syn_tokens.specs.declared.tree.Span.{Span}

pub record Input : Type 0 where
  -- the tokens that are left
  pub rest : List Tok
  -- the note: where the first token is that a group which was read kept, and nothing read
  pub noted : Option Span

abbrev span_code : Coded Span
span_code = code_by (ℕ × ℕ) (coded× coded_ℕ coded_ℕ) (λ s. (s.lo, s.hi)) (λ p. record { lo = p.0; hi = p.1 }) (λ _. refl)

abbrev pub input_code : Coded Input
input_code = code_by (List Tok × Option Span) (coded× toks_code (coded_option span_code)) (λ i. (i.rest, i.noted)) (λ p. record { rest = p.0; noted = p.1 }) (λ _. refl)

abbrev pub start_of : List Tok → Input
start_of ts = record { rest = ts; noted = None }

-- the list ends in this rest
pub record IsTail (rest list : List Tok) : Type 0 where
  pub front : List Tok
  pub is : list ≡ front ++ rest

-- the list begins with this front
pub record IsFront (front list : List Tok) : Type 0 where
  pub more : List Tok
  pub is : list ≡ front ++ more

-- A read leaves a rest of the list, and a note stays.
pub record IsAfter (old new : Input) : Type 0 where
  pub front : List Tok
  pub is : old.rest ≡ front ++ new.rest
  pub noted : (s : Span) → old.noted ≡ Some s → new.noted ≡ Some s

-- A reader that keeps the note promises this whatever is noted; another one only where nothing is.
abbrev pub IfClear : Bool → Option Span → Type 0 → Type 0
IfClear true noted P = P
IfClear false noted P = noted ≡ None → P

-- Where a value that is seen so comes before a rest, it is read, that rest is left and nothing more is noted, unless memory
-- runs out.
abbrev pub Reaches : {A B : Type 0} → (A → B) → B → List Tok → Option Span → Result A Error → Input → Type 0
Reaches seen s rest noted (Ok v) new = (seen v ≡ s) × (new.rest ≡ rest) × (new.noted ≡ noted)
Reaches seen s rest noted (Err e) new = e.kind ≡ OutOfMemory

-- A value that is seen so is given, unless memory runs out.
abbrev pub Gives : {A B : Type 0} → (A → B) → B → Result A Error → Type 0
Gives seen s (Ok v) = seen v ≡ s
Gives seen s (Err e) = e.kind ≡ OutOfMemory

-- a group with this delimiter is expected
abbrev pub wanted_group : Delimiter → ErrorKind
wanted_group d = ExpectedToken (expected.One (wanted.Delimiter d))

-- A group with this delimiter comes first: its inside is read on its own, with no note, and the rest is what is
-- after it. Where none stands nothing changes.
abbrev pub Enters : {A : Type 0} → Delimiter → Input → Result (A × Input) Error → Input → Type 0
Enters d old (Ok p) new = (group_at d old.rest ≡ Some (p.1.rest, new.rest)) × (p.1.noted ≡ None) × (new.noted ≡ old.noted)
Enters d old (Err e) new = (group_at d old.rest ≡ None) × (new ≡ old) × (e.kind ≡ wanted_group d)

-- the same, where no group is no refusal
abbrev pub Opens : {A : Type 0} → Delimiter → Input → Option (A × Input) → Input → Type 0
Opens d old (Some p) new = (group_at d old.rest ≡ Some (p.1.rest, new.rest)) × (p.1.noted ≡ None) × (new.noted ≡ old.noted)
Opens d old None new = (group_at d old.rest ≡ None) × (new ≡ old)

-- whether a content that is closed is noted
abbrev pub has_left : Input → Bool
has_left i = is_some i.noted || not (is_empty i.rest)

-- of two notes the first, if there is one
abbrev pub first_note : Option Span → Option Span → Option Span
first_note first None = first
first_note None (Some s) = Some s
first_note (Some r) (Some s) = Some r

-- The token at this place was left over: it is the one that is noted, else one that comes after what was read.
abbrev pub IsLeftAt : {A : Type 0} → (A → List Tok → Type 0) → List Tok → Option Span → Span → Type 0
IsLeftAt spells rest (Some s) place = place ≡ s
IsLeftAt {A} spells rest None place = (s : A) × spells s rest × (is_empty rest ≡ false)

-- A whole list is refused: as its reader refuses it, or at a token that the reader left over, with a note that it may make.
abbrev pub IsRefused : {A : Type 0} → (ErrorKind → Type 0) → (A → List Tok → Type 0) → (Input → Type 0) → Error → Type 0
IsRefused refuses spells notes e = refuses e.kind ⊎ ((e.kind ≡ UnexpectedToken) × ((i : Input) × notes i × IsLeftAt spells i.rest i.noted e.span))
