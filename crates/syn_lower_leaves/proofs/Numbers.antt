-- A number's text begins with a digit, so that its sign is told apart.
use Rattle.std.proofs.Common.{◌≡◌, ℕ, Bool, true, false, ◌==◌, [], ◌∷◌, Option, Some, None, refl, ap, arith, ◌&&◌, not, is_some}
use Rattle.std.specs.Prelude.{if◌then◌else◌}
use Rattle.std.proofs.lemmas.Grind.{common_steps}
use Rattle.syn_tokens.specs.Tok.{literal}
use Rattle.syn_lower_spec.specs.declared.label.LitKind.TheVariants as kind
use Rattle.syn_lower_spec.specs.Text.{Text, is_number, kind_of}
use Rattle.syn_lower_spec.specs.Own.{alone, lit_own, number_own}
use Rattle.syn_lower_leaves.specs.Signed.{number_printed}
use Rattle.syn_lower_leaves.specs.View.{signed}
use Rattle.syn_lower_spec.specs.declared.label.LitKind.{LitKind}
use Rattle.syn_lower_spec.specs.Fits.{has_kind, number_fits}

pub no_sign : (c : ℕ) (text : Text) → is_number (c ∷ text) ≡ true → (c == 45) ≡ false
unfolding is_number
no_sign c text h = grind (arith, common_steps)

number_own-signed : {M : Type 0} (m : Option M) (text : Text) → is_number text ≡ true → number_own (signed m text) [] ≡ number_printed m text
unfolding is_number
number_own-signed None [] h = refl
number_own-signed None (c ∷ text) h = ap (λ (b : Bool). if b then alone 45 ∷ literal text ∷ [] else literal (c ∷ text) ∷ []) (no_sign c text h)
number_own-signed (Some m) text h = refl

pub int_own : {M : Type 0} (m : Option M) (text : Text) → is_number text ≡ true → lit_own (record { kind = kind.Int; text = signed m text }) [] ≡ number_printed m text
unfolding lit_own
int_own m text h = number_own-signed m text h

pub float_own : {M : Type 0} (m : Option M) (text : Text) → is_number text ≡ true → lit_own (record { kind = kind.Float; text = signed m text }) [] ≡ number_printed m text
unfolding lit_own
float_own m text h = number_own-signed m text h

pub ruleset numbers = (int_own, float_own)

-- ---- whether a number is read back, by the kind of its text

-- with its sign
pub signed_by : {M : Type 0} (m : Option M) (text : Text) (k : LitKind) → is_number text ≡ true → number_fits k (signed m text) ≡ has_kind (kind_of text) k
unfolding is_number kind_of
signed_by None [] k h = absurd cc
signed_by None (c ∷ text) k h = rw (no_sign c text h) refl
signed_by (Some m) text k h = rw h refl

-- without one
pub unsigned_by : {M : Type 0} (m : Option M) (text : Text) (k : LitKind) → has_kind (kind_of (signed m text)) k ≡ (not (is_some m) && has_kind (kind_of text) k)
unfolding is_number kind_of
unsigned_by None text k = refl
unsigned_by (Some m) text k = refl
