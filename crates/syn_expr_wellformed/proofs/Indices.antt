-- Each index is read back from its own digits.
use Rattle.std.proofs.Common.{◌≡◌, ℕ, zero, suc, ◌+◌, ◌-◌, ◌*◌, ◌/◌, ◌%◌, ◌^◌, ◌<◌, ◌≤◌, Bool, true, false, [], ◌∷◌, refl, ap, ◌∙◌, arith}
use Rattle.std.specs.Prelude.{nat_lt, nat_le, ◌==◌, ◌||◌, Some}
use Rattle.std.specs.Char.{is_ascii_digit}
use Rattle.std.proofs.lemmas.Bool.Decides.{nat_tests}
use Rattle.std.proofs.Math.Bool.{and-false}
use native.Mathlib.Nat.{pow-zero, pow-suc}
use Rattle.syn_lower_spec.specs.Text.{Text, byte_at, is_number}
use Rattle.syn_lower_spec.specs.Pat.{an_index, digit_value, digits_value, index_of}
use Rattle.syn_lower_spec.specs.PatFits.{member_fits}
use Rattle.syn_lower_spec.specs.PatOwn.{digits_before, index_text}

-- ---- a digit

digit_is : (d : ℕ) → d < 10 → digit_value (48 + d) ≡ d
digit_is d h =
    let a : nat_le 48 (48 + d) ≡ true = grind (arith, nat_tests) in
    let b : nat_le (48 + d) 57 ≡ true = grind (arith, nat_tests, h) in
    let c : (48 + d) - 48 ≡ d = omega arith in
    rw (a, b) c

digit_step : (d found : ℕ) (r : Text) → d < 10 → digits_value 10 found ((48 + d) ∷ r) ≡ digits_value 10 (found * 10 + d) r
digit_step d found r h =
    let a : (48 + d == 95) ≡ false = grind (arith, nat_tests, h) in
    let b = digit_is d h in
    let c : nat_lt d 10 ≡ true = grind (arith, nat_tests, h) in
    rw (a, b, c) refl

is_digit : (d : ℕ) → d < 10 → is_ascii_digit (48 + d) ≡ true
is_digit d h = grind (arith, nat_tests, h)

-- `x`, `o` or `b`, after which the digits of another base stand
abbrev begins_radix : ℕ → Bool
begins_radix c = c == 120 || (c == 111 || c == 98)

no_radix : (d : ℕ) → d < 10 → begins_radix (48 + d) ≡ false
no_radix d h =
    let a : (48 + d == 120) ≡ false = grind (arith, nat_tests, h) in
    let b : (48 + d == 111) ≡ false = grind (arith, nat_tests, h) in
    let c : (48 + d == 98) ≡ false = grind (arith, nat_tests, h) in
    rw (a, b, c) refl

-- ---- digits before others

value_by : (b : Bool) (k n : ℕ) (r : Text) → nat_lt n 10 ≡ b → n < 10 ^ suc k → ((m : ℕ) (s : Text) → m < 10 ^ k → digits_value 10 0 (digits_before k m s) ≡ digits_value 10 m s)
    → digits_value 10 0 (digits_before (suc k) n r) ≡ digits_value 10 n r
value_by true k n r e h f =
    let l : n < 10 = grind (arith, nat_tests, e) in
    let q : 0 * 10 + n ≡ n = omega arith in
    rw e (digit_step n 0 r l ∙ ap (λ v. digits_value 10 v r) q)
value_by false k n r e h f =
    let m : n / 10 < 10 ^ k = omega (arith, h, pow-suc 10 k) in
    let d : n % 10 < 10 = omega arith in
    let q : (n / 10) * 10 + n % 10 ≡ n = omega arith in
    rw e (f (n / 10) ((48 + n % 10) ∷ r) m ∙ (digit_step (n % 10) (n / 10) r d ∙ ap (λ v. digits_value 10 v r) q))

value_before : (k n : ℕ) (r : Text) → n < 10 ^ k → digits_value 10 0 (digits_before k n r) ≡ digits_value 10 n r
value_before zero n r h = let z : n ≡ 0 = omega (arith, h, pow-zero 10) in rw z refl
value_before (suc k) n r h = value_by (nat_lt n 10) k n r refl h (value_before k)

first_by : (b : Bool) (k n : ℕ) (r : Text) → nat_lt n 10 ≡ b → ((m : ℕ) (s : Text) → is_ascii_digit (byte_at s 0) ≡ true → is_ascii_digit (byte_at (digits_before k m s) 0) ≡ true)
    → is_ascii_digit (byte_at (digits_before (suc k) n r) 0) ≡ true
first_by true k n r e f = let l : n < 10 = grind (arith, nat_tests, e) in rw e (is_digit n l)
first_by false k n r e f = let d : n % 10 < 10 = omega arith in rw e (f (n / 10) ((48 + n % 10) ∷ r) (is_digit (n % 10) d))

first_digit : (k n : ℕ) (r : Text) → is_ascii_digit (byte_at r 0) ≡ true → is_ascii_digit (byte_at (digits_before k n r) 0) ≡ true
first_digit zero n r h = h
first_digit (suc k) n r h = first_by (nat_lt n 10) k n r refl (first_digit k)

second_by : (b : Bool) (k n : ℕ) (r : Text) → nat_lt n 10 ≡ b → begins_radix (byte_at r 0) ≡ false
    → ((m : ℕ) (s : Text) → begins_radix (byte_at s 0) ≡ false → begins_radix (byte_at s 1) ≡ false → begins_radix (byte_at (digits_before k m s) 1) ≡ false)
    → begins_radix (byte_at (digits_before (suc k) n r) 1) ≡ false
second_by true k n r e h f = rw e h
second_by false k n r e h f = let d : n % 10 < 10 = omega arith in rw e (f (n / 10) ((48 + n % 10) ∷ r) (no_radix (n % 10) d) h)

second_digit : (k n : ℕ) (r : Text) → begins_radix (byte_at r 0) ≡ false → begins_radix (byte_at r 1) ≡ false → begins_radix (byte_at (digits_before k n r) 1) ≡ false
second_digit zero n r h i = i
second_digit (suc k) n r h i = second_by (nat_lt n 10) k n r refl h (second_digit k)

-- ---- an index

index_back : (n : ℕ) → n ≤ 4294967295 → index_of (index_text n) ≡ Some n
unfolding index_of index_text is_number
index_back n h =
    let a = first_by (nat_lt n 10) 9 n [] refl (first_digit 9) in
    let b = second_digit 10 n [] refl refl in
    let c = and-false (byte_at (digits_before 10 n []) 0 == 48) in
    let v = value_before 10 n [] (omega (arith, h)) in
    let m : nat_le n 4294967295 ≡ true = grind (arith, nat_tests, h) in
    rw (a, b, c, v, m) refl

pub index_fits : (n : ℕ) → n < 4294967296 → member_fits (an_index n) ≡ true
index_fits n h = let q : (n == n) ≡ true = grind (arith, nat_tests) in rw (index_back n (omega (arith, h)), q) refl

pub ruleset indices = (index_fits)
