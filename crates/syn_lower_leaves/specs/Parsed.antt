-- What is answered where a number is parsed.
use Rattle.std.specs.Prelude.{◌≡◌, ℕ, ℤ, pos, neg_ℤ, FitsSigned, Option, Some, None, Result, Ok, Err}
use Rattle.std.specs.Int.{w128}
use Rattle.syn_lower_leaves.specs.declared.error.LitError.{LitError}
use Rattle.syn_lower_leaves.specs.declared.error.LitErrorKind.TheVariants.{OutOfRange}

-- A number is parsed as a type takes its value as a `u128`, and after a sign as an `i128`. It is refused where neither holds
-- the value, and where the type refuses it.
abbrev pub Parses : {N E F M : Type 0} → (ℕ → Result N E → Type 0) → (ℤ → Result N F → Type 0) → Option M → Option ℕ → Result N LitError → Type 0
Parses {N} {E} {F} {M} takes takes_signed m None (Ok n) = ⊥
Parses {N} {E} {F} {M} takes takes_signed m None (Err e) = e.kind ≡ OutOfRange
Parses {N} {E} {F} {M} takes takes_signed None (Some v) (Ok n) = takes v (Ok n)
Parses {N} {E} {F} {M} takes takes_signed None (Some v) (Err e) = (e.kind ≡ OutOfRange) × (f : E) × takes v (Err f)
Parses {N} {E} {F} {M} takes takes_signed (Some m) (Some v) (Ok n) = takes_signed (neg_ℤ (pos v)) (Ok n)
Parses {N} {E} {F} {M} takes takes_signed (Some m) (Some v) (Err e) =
    (e.kind ≡ OutOfRange) × (FitsSigned w128 (neg_ℤ (pos v)) → (f : F) × takes_signed (neg_ℤ (pos v)) (Err f))
