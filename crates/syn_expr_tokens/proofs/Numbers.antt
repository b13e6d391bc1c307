-- The value of digits, as it is read from left to right.
use Rattle.std.proofs.Common.{◌≡◌, ℕ, zero, suc, ◌+◌, ◌*◌, ◌<◌, Bool, true, false, not, ◌||◌, ◌&&◌, ◌==◌, [], ◌∷◌, Option, Some, None, is_some, refl, arith}
use Rattle.std.specs.Prelude.{nat_lt, if◌then◌else◌}
use Rattle.std.specs.List.{list_all, prefix_len}
use Rattle.std.specs.Char.{is_ascii_digit}
use Rattle.std.proofs.lemmas.Bool.Decides.{nat_tests}
use Rattle.std.proofs.Math.Numerals.{one-add}
use native.Mathlib.Nat.{mul-suc}
use Rattle.syn_lower_spec.specs.declared.label.LitKind.{LitKind}
use Rattle.syn_lower_spec.specs.declared.label.LitKind.TheVariants as kind
use Rattle.syn_lower_spec.specs.Text.{Text, is_digit, is_number, has_radix, begins_fraction, byte_at, kind_of, is_float_text}
use Rattle.syn_lower_spec.specs.Pat.{digit_value, digits_value, within, index_of}
use Rattle.syn_expr_tokens.specs.View.{is_digit_of}
use Rattle.syn_expr_tokens.specs.Refusal.{is_integer}

grown : (v b d : ℕ) → 0 < b → 4294967295 < v → 4294967295 < v * b + d
grown v zero d h l = elim h [ ]
grown v (suc b) d h l = omega (arith, mul-suc v b)

stays : (s d : Bool) (o p : Option ℕ) → within o ≡ None → within p ≡ None → within (if s then o else (if d then p else None)) ≡ None
stays true d o p e f = e
stays false true o p e f = f
stays false false o p e f = refl

-- Once it is too large it stays so.
pub too_large : (b v : ℕ) (text : Text) → 0 < b → 4294967295 < v → within (digits_value b v text) ≡ None
too_large b v [] h l = grind (arith, nat_tests)
too_large b v (c ∷ text) h l =
    stays (c == 95) (nat_lt (digit_value c) b) _ _ (too_large b v text h l) (too_large b (v * b + digit_value c) text h (grown v b (digit_value c) h l))

by_digit : (s d x : Bool) (o p : Option ℕ) → is_some o ≡ x → is_some p ≡ x → is_some (if s then o else (if d then p else None)) ≡ (s || d) && x
by_digit true d x o p e f = e
by_digit false true x o p e f = f
by_digit false false x o p e f = refl

-- Digits have a value, however large.
pub all_digits : (b v : ℕ) (text : Text) → is_some (digits_value b v text) ≡ list_all (is_digit_of b) text
all_digits b v [] = refl
all_digits b v (c ∷ text) =
    by_digit (c == 95) (nat_lt (digit_value c) b) _ _ _ (all_digits b v text) (all_digits b (v * b + digit_value c) text)

-- ---- what is an index is an integer

digit_of_ten : (c : ℕ) → (c == 95) ≡ false → nat_lt (digit_value c) 10 ≡ true → is_ascii_digit c ≡ true
digit_of_ten c e f = grind (arith, nat_tests)

seen : (c : ℕ) (text : Text) → is_digit c ≡ true → byte_at text (prefix_len is_digit text) ≡ 0 → byte_at (c ∷ text) (prefix_len is_digit (c ∷ text)) ≡ 0
seen c text e h = rw (e, one-add) h

underscore : (c : ℕ) → (c == 95) ≡ true → is_digit c ≡ true
underscore c e = grind (arith, nat_tests)

ends : (s d : Bool) (c : ℕ) (text : Text) (o p : Option ℕ) → (c == 95) ≡ s → nat_lt (digit_value c) 10 ≡ d
    → (is_some o ≡ true → byte_at text (prefix_len is_digit text) ≡ 0) → (is_some p ≡ true → byte_at text (prefix_len is_digit text) ≡ 0)
    → is_some (if s then o else (if d then p else None)) ≡ true → byte_at (c ∷ text) (prefix_len is_digit (c ∷ text)) ≡ 0
ends true d c text o p e f g h k = seen c text (underscore c e) (g k)
ends false true c text o p e f g h k = seen c text (rw (digit_of_ten c e f) refl) (h k)
ends false false c text o p e f g h k = absurd cc

-- After digits that have a value nothing stands.
all_of_it : (v : ℕ) (text : Text) → is_some (digits_value 10 v text) ≡ true → byte_at text (prefix_len is_digit text) ≡ 0
all_of_it v [] h = refl
all_of_it v (c ∷ text) h =
    ends (c == 95) (nat_lt (digit_value c) 10) c text _ _ refl refl (all_of_it v text) (all_of_it (v * 10 + digit_value c) text) h

none : (o : Option ℕ) → (is_some o ≡ true → ⊥) → within o ≡ None
none None h = refl
none (Some n) h = absurd (h refl)

by_kind : (n r f : Bool) (o p : Option ℕ) (q : Option LitKind) → (is_some p ≡ true → f ≡ false)
    → is_integer (if n then Some (if not r && f then kind.Float else kind.Int) else q) ≡ false → within (if n then (if r then o else p) else None) ≡ None
by_kind true true f o p q g h = absurd cc
by_kind true false true o p q g h = none p (λ k. let e = g k in cc)
by_kind true false false o p q g h = absurd cc
by_kind false r f o p q g h = refl

pub no_integer : (text : Text) → is_integer (kind_of text) ≡ false → index_of text ≡ None
unfolding kind_of is_float_text index_of
no_integer text h =
    by_kind (is_number text) (has_radix text) (begins_fraction (byte_at text (prefix_len is_digit text))) _ _ _ (λ k. rw (all_of_it 0 text k) refl) h

pub ruleset numbers = (too_large)
