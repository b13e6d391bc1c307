-- What `LitInt::base10_parse` answers as a signed type: the value with its sign where the type holds it, else a refusal. Where
-- `number.base10_parse::<i64>()` is called, the fact is `parsed_signed w64 _ _ _ _ _ _ c.base10_parse.ensures`.
use Rattle.std.proofs.Common.{◌≡◌, ℕ, ◌==◌, true, false, Option, Some, None, Result, arith}
use Rattle.std.specs.Prelude.{ℤ, pos, neg_ℤ, FitsSigned, OkIff}
use Rattle.std.specs.Int.{Width, w8, w16, w32, w64, w128}
use Rattle.std.proofs.lemmas.Grind.{common_steps}
use Rattle.syn_lower_spec.specs.Text.{Text, byte_at, is_number}
use Rattle.syn_lower_leaves.specs.Parsed.{Parses}
use Rattle.syn_lower_leaves.specs.Value.{in_u128}
use Rattle.syn_lower_leaves.specs.declared.error.LitError.{LitError}

abbrev pub with_sign : {M : Type 0} → Option M → ℕ → ℤ
with_sign None n = pos n
with_sign (Some m) n = neg_ℤ (pos n)

widened : (w : Width) (z : ℤ) → FitsSigned w z → FitsSigned w128 z
widened w8 z h = grind (arith, common_steps)
widened w16 z h = grind (arith, common_steps)
widened w32 z h = grind (arith, common_steps)
widened w64 z h = grind (arith, common_steps)
widened w128 z h = h

module _ (w : Width) (E F M : Type 0) where
  pub parsed_signed : (m : Option M) (n : ℕ) (r : Result ℤ LitError)
      → Parses {E = E} {F = F} (λ x y. OkIff y (FitsSigned w (pos x)) (pos x)) (λ x y. OkIff y (FitsSigned w x) x) m (in_u128 n) r → OkIff r (FitsSigned w (with_sign m n)) (with_sign m n)
  unfolding in_u128
  parsed_signed m n r h = let wide = widened w in grind (arith, common_steps)

-- the token of a number doesn't begin with a sign
pub no_sign : (token : Text) → is_number token ≡ true → (byte_at token 0 == 45) ≡ false
unfolding is_number
no_sign token h = grind (arith, common_steps)
