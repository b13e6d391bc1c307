-- Which ASCII characters are of words, and which words differ.
use Rattle.std.proofs.Common.{◌≡◌, ℕ, List, length, ap, refl, Bool, true, false}
use Rattle.std.specs.Prelude.{◌≢◌}
use Rattle.std.specs.Str.{bytes_eq}
use Rattle.std.proofs.lemmas.Slice.Eq.{bytes_eq-Decides}
use Rattle.unicode_ident.proofs.IdentLemmas.{is_xid_start-ascii, is_xid_continue-ascii}

pub ruleset words = (is_xid_start-ascii, is_xid_continue-ascii)

never_true : (b : Bool) → b ≢ true → b ≡ false
never_true true never = absurd (never refl)
never_true false never = refl

-- words of different lengths differ
pub differ_in_length : (v w : List ℕ) → length v ≢ length w → bytes_eq v w ≡ false
differ_in_length v w other = never_true (bytes_eq v w) (λ same. other (ap length ((bytes_eq-Decides v w).0 same)))

pub ruleset lengths = differ_in_length
