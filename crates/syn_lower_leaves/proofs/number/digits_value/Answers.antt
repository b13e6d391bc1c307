use Rattle.std.proofs.Common.{◌≡◌, ◌+◌, ◌*◌, None, drop, sym, ◌∙◌, arith}
use Rattle.std.proofs.lemmas.Grind.{common_steps}
use Rattle.syn_lower_leaves.specs.Value.{digits_value, in_u128}
use Rattle.syn_lower_leaves.proofs.Digits.{all_read, too_many}
use Rattle.syn_lower_leaves.proofs.number.digits_value.Goals as goal

-- A character that is no digit ends them.
pub returns-then-digit-base : goal.returns-then-digit-base
returns-then-digit-base c =
    let e : digits_value c.args.base c.digits.found c.digits.rest.now ≡ c.digits.found = grind (arith, common_steps) in
    all_read c.digits.found _ c.digits.invariant.1 (sym e ∙ c.digits.invariant.0)

pub returns : goal.returns
returns c =
    let e : digits_value c.args.base c.digits.found c.digits.rest.now ≡ c.digits.found = grind (arith, common_steps) in
    all_read c.digits.found _ c.digits.invariant.1 (sym e ∙ c.digits.invariant.0)

pub returns-in-None : goal.returns-in-None
returns-in-None c =
    let e : digits_value c.args.base c.digits.found c.digits.rest.now ≡ digits_value c.args.base (c.digits.found * c.args.base + c.digit_value-digit.result) (drop 1 c.digits.rest.now) = grind (arith, common_steps) in
    let n : in_u128 (c.digits.found * c.args.base + c.digit_value-digit.result) ≡ None = sym c.with_digit.ensures.value ∙ c.in-None.is in
    too_many c.args.base (c.digits.found * c.args.base + c.digit_value-digit.result) _ (drop 1 c.digits.rest.now) c.requires.some n (sym e ∙ c.digits.invariant.0)
