-- The digits of an index are those that std writes.
use Rattle.std.proofs.Common.{◌≡◌, ℕ, zero, suc, ◌+◌, ◌/◌, ◌%◌, ◌^◌, ◌<◌, ◌≤◌, true, false, [], ◌∷◌, ◌++◌, refl, sym, ◌∙◌, arith}
use Rattle.std.specs.Prelude.{nat_lt}
use Rattle.std.proofs.lemmas.Bool.Decides.{nat_tests}
use Rattle.std.proofs.lemmas.List.{append-nil, append_assoc}
use Rattle.std.proofs.lemmas.Fmt.{decimal_by_steps}
use Rattle.std.specs.Fmt.{decimal}
use native.Mathlib.Nat.{pow-zero, pow-suc}
use Rattle.syn_lower_spec.specs.Text.{Text}
use Rattle.syn_lower_spec.specs.PatOwn.{digits_before, index_text}
use Rattle.syn_lower_spec.specs.PatLaws.{IndicesAreDecimal}

small : (m : ℕ) → m < 10 → nat_lt m 10 ≡ true
small m l = grind (arith, nat_tests)

large : (m : ℕ) → 10 ≤ m → nat_lt m 10 ≡ false
large m l = grind (arith, nat_tests)

first : (m : ℕ) → m < 10 → (k : ℕ) (r : Text) → m < 10 ^ suc k → digits_before (suc k) m r ≡ (48 + m) ∷ r
first m l k r h = rw (small m l) refl

later : (m : ℕ) (ds : Text) → 10 ≤ m → ((k : ℕ) (r : Text) → m / 10 < 10 ^ suc k → digits_before (suc k) (m / 10) r ≡ ds ++ r)
    → (k : ℕ) (r : Text) → m < 10 ^ suc k → digits_before (suc k) m r ≡ (ds ++ ((48 + m % 10) ∷ [])) ++ r
later m ds l h zero r s = absurd (omega (arith, pow-zero 10, pow-suc 10 0))
later m ds l h (suc k) r s =
    rw (large m l) (h k ((48 + m % 10) ∷ r) (omega (arith, pow-suc 10 (suc k))) ∙ sym (append_assoc ds ((48 + m % 10) ∷ []) r))

digits : (n : ℕ) → n < 2 ^ 64 → (k : ℕ) (r : Text) → n < 10 ^ suc k → digits_before (suc k) n r ≡ decimal n ++ r
digits n s = decimal_by_steps (λ m ds. (k : ℕ) (r : Text) → m < 10 ^ suc k → digits_before (suc k) m r ≡ ds ++ r) first later n s

pub indices_are_decimal : IndicesAreDecimal
unfolding index_text
indices_are_decimal n s = digits n (omega arith) 9 [] (omega arith) ∙ append-nil (decimal n)
