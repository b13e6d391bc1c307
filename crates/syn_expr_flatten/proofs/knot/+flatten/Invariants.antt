-- What an operand is flattened by is lent the operand itself; all else is lent parts.
use Rattle.std.proofs.Common.{◌+◌, ◌*◌}
use Rattle.syn_expr_flatten.proofs.knot.+flatten.Given as goal

abbrev pub decreases-flattened : goal.decreases-flattened
decreases-flattened l = 2 * goal.size-flattened l

abbrev pub decreases-operand : goal.decreases-operand
decreases-operand l = 2 * goal.size-operand l + 1

abbrev pub decreases-pattern : goal.decreases-pattern
decreases-pattern l = 2 * goal.size-pattern l

abbrev pub decreases-arm : goal.decreases-arm
decreases-arm l = 2 * goal.size-arm l
