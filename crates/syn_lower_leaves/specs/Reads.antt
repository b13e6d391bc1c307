-- What a reader ensures.
use Rattle.std.specs.Prelude.{◌≡◌, ◌≢◌, true, false, List, drop, Option, Some, None, Result, Ok, Err, ◌∷◌}
use Rattle.syn_tokens.specs.declared.error.Error.{Error}
use Rattle.syn_tokens.specs.declared.error.ErrorKind.{ErrorKind}
use Rattle.syn_tokens.specs.declared.error.ErrorKind.TheVariants.{OutOfMemory, ExpectedToken}
use Rattle.syn_tokens.specs.declared.error.Expected.TheVariants as expected
use Rattle.syn_tokens.specs.declared.error.Wanted.TheVariants as wanted
use Rattle.syn_tokens.specs.Tok.{Tok, punct}
use Rattle.syn_tokens.specs.Input.{Input}
use Rattle.syn_lower_spec.specs.Form.{Outcome, Mark}
use Rattle.syn_lexer.specs.declared.front.Spacing.TheVariants as spacing

-- What was read, as it is seen, and what is after it, unless memory runs out.
abbrev pub Reads : {A B : Type 0} → (A → B) → Outcome B → Result A Error → List Tok → Type 0
Reads view outcome (Ok a) new = outcome ≡ Some (view a, new)
Reads view outcome (Err e) new = e.kind ≢ OutOfMemory → outcome ≡ None

-- A token is taken where it comes first; else nothing changes.
abbrev pub Takes : {A : Type 0} → Mark → Input → Option A → Input → Type 0
Takes m old (Some t) new = (m.at old.rest ≡ true) × (new ≡ record old { rest = drop m.count old.rest })
Takes m old None new = (m.at old.rest ≡ false) × (new ≡ old)

-- A lifetime is expected.
abbrev pub wanted_lifetime : ErrorKind
wanted_lifetime = ExpectedToken (expected.One wanted.Lifetime)

-- ---- tokens as a part keeps them

-- a sign in front by itself, however it was joined
abbrev pub first_alone : List Tok → List Tok
first_alone (punct c s ∷ l) = punct c spacing.Alone ∷ l
first_alone l = l
