use Rattle.std.proofs.Common.{◌^◌, ◌<◌, arith}
use Rattle.syn_lower_leaves.proofs.Quotes.{few}
use Rattle.syn_lower_leaves.proofs.quoted.braced.Goals as goal

pub overflow_mul-found : goal.overflow_mul-found
overflow_mul-found c =
    let small : c.digits.found < 2 ^ 20 = few c.digits.digits c.digits.found (omega arith) c.digits.invariant.3 in omega arith

pub overflow_add-found : goal.overflow_add-found
overflow_add-found c =
    let small : c.digits.found < 2 ^ 20 = few c.digits.digits c.digits.found (omega arith) c.digits.invariant.3 in omega arith
