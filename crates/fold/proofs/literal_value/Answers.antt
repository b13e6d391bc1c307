use Rattle.std.proofs.Common.{◌≡◌, ◌==◌, Bool, true, false, if◌then◌else◌, length, Option, Some, None, Result, refl, arith, ◌∙◌}
use Rattle.std.specs.Prelude.{ℤ, FitsSigned, OkIff}
use Rattle.std.specs.Result.{result_ok}
use Rattle.std.specs.Int.{w64}
use Rattle.std.proofs.lemmas.Grind.{common_steps}
use Rattle.syn_lower_spec.specs.Text.{is_number}
use Rattle.syn_lower_leaves.specs.View.{signed}
use Rattle.syn_expr.specs.Prelude.{LitError, Text, int_suffix, int_value}
use Rattle.syn_expr.proofs.Integers.{no_sign, parsed_signed, with_sign}
use Rattle.fold.specs.Fold.{checked, integer}
use Rattle.fold.proofs.literal_value.Goals as goal

taken : (z : ℤ) (r : Result ℤ LitError) → OkIff r (FitsSigned w64 z) z → result_ok r ≡ checked z
taken z r h = grind (arith, common_steps)

value_of_integer : {M : Type 0} (m : Option M) (token : Text) → is_number token ≡ true → (b : Bool) → (length (int_suffix token) == 0) ≡ b
    → integer (signed m token) ≡ (if b then Some (with_sign m (int_value token)) else None)
value_of_integer None token number b is = rw (no_sign token number, is) refl
value_of_integer (Some m) token number true is = rw is refl
value_of_integer (Some m) token number false is = rw is refl

pub returns-in-Int : goal.returns-in-Int
returns-in-Int c =
    let n = c.in-Int.number in
    rw (c.in-Int.is, value_of_integer n.minus_token n.token n.number true (cc)) (c.ok.ensures.value ∙ taken _ _ (parsed_signed w64 _ _ _ n.minus_token (int_value n.token) _ c.base10_parse.ensures))

pub returns-in_default : goal.returns-in_default
returns-in_default c =
    let n = c.in-Int.number in
    rw (c.in-Int.is, value_of_integer n.minus_token n.token n.number false (cc)) refl
