-- The value of a decimal number is that number.
use Rattle.std.proofs.Common.{◌≡◌, ℕ, ◌+◌, ◌*◌, ◌/◌, ◌%◌, ◌^◌, ◌<◌, ◌≤◌, Bool, true, false, ◌||◌, ◌&&◌, ◌==◌, [], ◌∷◌, ◌++◌, refl, sym, ap, ◌∙◌, arith}
use Rattle.std.specs.Prelude.{nat_lt}
use Rattle.std.specs.Char.{is_ascii_digit}
use Rattle.std.specs.Fmt.{decimal}
use Rattle.std.specs.List.{list_all}
use Rattle.std.proofs.lemmas.Bool.Decides.{nat_tests}
use Rattle.std.proofs.lemmas.Fmt.{decimal_by_steps_wide}
use Rattle.std.proofs.lemmas.List.{append-nil, append_assoc}
use Rattle.std.proofs.lemmas.List.Folds.{list_all-append}
use Rattle.syn_lower_spec.specs.Text.{Text, has_radix}
use Rattle.syn_lower_spec.specs.Pat.{digit_value}
use Rattle.syn_lower_leaves.specs.Value.{digits_value, int_value}

by_digit : (v c d : ℕ) (r : Text) → (c == 95) ≡ false → nat_lt (digit_value c) 10 ≡ true → digit_value c ≡ d
    → digits_value 10 v (c ∷ r) ≡ digits_value 10 (v * 10 + d) r
by_digit v c d r e f g = rw (e, f, g) refl

no_underscore : (d : ℕ) → d < 10 → (48 + d == 95) ≡ false
no_underscore d h = grind (arith, nat_tests)

its_value : (d : ℕ) → d < 10 → digit_value (48 + d) ≡ d
its_value d h = grind (arith, nat_tests)

below_ten : (d : ℕ) → d < 10 → nat_lt (digit_value (48 + d)) 10 ≡ true
below_ten d h = rw (its_value d h) grind (arith, nat_tests)

one_digit : (v d : ℕ) (r : Text) → d < 10 → digits_value 10 v ((48 + d) ∷ r) ≡ digits_value 10 (v * 10 + d) r
one_digit v d r h = by_digit v (48 + d) d r (no_underscore d h) (below_ten d h) (its_value d h)

is_digit : (d : ℕ) → d < 10 → is_ascii_digit (48 + d) ≡ true
is_digit d h = grind (arith, nat_tests)

-- digits, one at least, that have this value
record Digits (n : ℕ) (ds : Text) : Type 0 where
  value : (r : Text) → digits_value 10 0 (ds ++ r) ≡ digits_value 10 n r
  all : list_all is_ascii_digit ds ≡ true

one : (n : ℕ) → n < 10 → Digits n ((48 + n) ∷ [])
one n h = record { value = λ r. one_digit 0 n r h ∙ ap (λ m. digits_value 10 m r) (omega arith); all = rw (is_digit n h) refl }

more : (n : ℕ) (ds : Text) → 10 ≤ n → Digits (n / 10) ds → Digits n (ds ++ ((48 + n % 10) ∷ []))
more n ds h d = record {
  value = λ r. ap (digits_value 10 0) (append_assoc ds ((48 + n % 10) ∷ []) r) ∙ (d.value ((48 + n % 10) ∷ r) ∙ (one_digit (n / 10) (n % 10) r (omega arith) ∙ ap (λ m. digits_value 10 m r) (omega arith)));
  all = list_all-append is_ascii_digit ds _ ∙ rw (d.all, is_digit (n % 10) (omega arith)) refl;
}

digits : (n : ℕ) → n < 10 ^ 64 → Digits n (decimal n)
digits n h = decimal_by_steps_wide Digits one more n h

-- ---- no prefix

no_letter : (c : ℕ) → is_ascii_digit c ≡ true → (c == 120 || (c == 111 || c == 98)) ≡ false
no_letter c h = grind (arith, nat_tests)

halves : (a b : Bool) → (a && b) ≡ true → (a ≡ true) × (b ≡ true)
halves true b h = (refl, h)
halves false b h = absurd cc

no_and : (a b : Bool) → b ≡ false → (a && b) ≡ false
no_and true b h = h
no_and false b h = refl

no_radix : (ds : Text) → list_all is_ascii_digit ds ≡ true → has_radix ds ≡ false
no_radix [] h = refl
no_radix (a ∷ []) h = no_and (a == 48) _ refl
no_radix (a ∷ b ∷ ds) h = no_and (a == 48) _ (no_letter b (halves (is_ascii_digit b) _ (halves (is_ascii_digit a) _ h).1).0)

pub decimal_value : (n : ℕ) → n < 10 ^ 64 → int_value (decimal n) ≡ n
unfolding int_value
decimal_value n h =
    let d = digits n h in
    rw (no_radix (decimal n) d.all) (ap (digits_value 10 0) (sym (append-nil (decimal n))) ∙ d.value [])
