-- The values of digits, and where a text may be cut.
use Rattle.std.proofs.Common.{◌≡◌, ℕ, zero, suc, ◌+◌, ◌*◌, ◌^◌, ◌==◌, ◌<◌, ◌≤◌, Bool, true, false, [], ◌∷◌, List, ◌++◌, Some, None, sym, ap, ◌∙◌, append_assoc, arith}
use Rattle.std.specs.Prelude.{nat_lt, if◌then◌else◌, filter, encode_utf8, encode_utf8_all}
use Rattle.std.proofs.lemmas.Bool.Decides.{nat_tests}
use native.Mathlib.Nat.{mul-suc}
use Rattle.syn_lower_spec.specs.Text.{Text}
use Rattle.syn_lower_spec.specs.Pat.{digit_value}
use Rattle.syn_lower_leaves.specs.Value.{digits_value, in_u128, is_no_underscore}

-- ---- a value that is too large stays so

grown : (v b d m : ℕ) → 0 < b → m ≤ v → m ≤ v * b + d
grown v zero d m h l = elim h [ ]
grown v (suc b) d m h l = omega (arith, mul-suc v b)

at_least : (s d : Bool) (m x y z : ℕ) → m ≤ x → m ≤ y → m ≤ z → m ≤ (if s then x else (if d then y else z))
at_least true d m x y z e f g = e
at_least false true m x y z e f g = f
at_least false false m x y z e f g = g

large : (b v m : ℕ) (z : Text) → 0 < b → m ≤ v → m ≤ digits_value b v z
large b v m [] h l = l
large b v m (c ∷ z) h l =
    at_least (c == 95) (nat_lt (digit_value c) b) m _ _ _ (large b v m z h l) (large b (v * b + digit_value c) m z h (grown v b (digit_value c) m h l)) l

none_at : (n : ℕ) → 2 ^ 128 ≤ n → in_u128 n ≡ None
unfolding in_u128
none_at n h = grind (arith, nat_tests)

is_large : (n : ℕ) → in_u128 n ≡ None → 2 ^ 128 ≤ n
unfolding in_u128
is_large n h = grind (arith, nat_tests)

pub too_large : (b v : ℕ) (z : Text) → 0 < b → in_u128 v ≡ None → in_u128 (digits_value b v z) ≡ None
too_large b v z h e = none_at (digits_value b v z) (large b v (2 ^ 128) z h (is_large v e))

pub held : (n : ℕ) → n < 2 ^ 128 → in_u128 n ≡ Some n
unfolding in_u128
held n h = grind (arith, nat_tests)

-- the digits were read
pub all_read : (v x : ℕ) → v < 2 ^ 128 → v ≡ x → Some v ≡ in_u128 x
all_read v x h e = rw (← e) (sym (held v h))

-- one digit more is too much
pub too_many : (b v x : ℕ) (z : Text) → 0 < b → in_u128 v ≡ None → digits_value b v z ≡ x → None ≡ in_u128 x
too_many b v x z h n e = sym (ap in_u128 (sym e) ∙ too_large b v z h n)

pub ruleset numbers = (too_large, held)

-- ---- digits are of ASCII

pub is_narrow : (b c : ℕ) → b ≤ 16 → digit_value c < b → c < 128
is_narrow b c h d = grind (arith, nat_tests)

pub ruleset narrows = (is_narrow)

-- ---- characters that are kept

is_put : (c : ℕ) (b : Bool) (out whole : List ℕ) (rest : Text) → is_no_underscore c ≡ b → whole ≡ out ++ encode_utf8_all (filter is_no_underscore (c ∷ rest))
    → whole ≡ out ++ encode_utf8_all (if b then c ∷ filter is_no_underscore rest else filter is_no_underscore rest)
is_put c b out whole rest h e = rw (← h) e

pub kept : (c : ℕ) (out whole : List ℕ) (rest : Text) → is_no_underscore c ≡ true → whole ≡ out ++ encode_utf8_all (filter is_no_underscore (c ∷ rest))
    → whole ≡ (out ++ encode_utf8 c) ++ encode_utf8_all (filter is_no_underscore rest)
kept c out whole rest h e = is_put c true out whole rest h e ∙ sym (append_assoc out (encode_utf8 c) (encode_utf8_all (filter is_no_underscore rest)))

pub left_out : (c : ℕ) (out whole : List ℕ) (rest : Text) → is_no_underscore c ≡ false → whole ≡ out ++ encode_utf8_all (filter is_no_underscore (c ∷ rest))
    → whole ≡ out ++ encode_utf8_all (filter is_no_underscore rest)
left_out c out whole rest h e = is_put c false out whole rest h e

pub ruleset keeps = (kept, left_out)
