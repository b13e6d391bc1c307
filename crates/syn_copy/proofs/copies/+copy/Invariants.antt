-- What copies an expression or a pattern may borrow what holds it and nothing else; all other functions borrow parts.
use Rattle.std.proofs.Common.{◌+◌, ◌*◌}
use Rattle.syn_copy.proofs.copies.+copy.Given as goal

abbrev pub decreases-copied_expr : goal.decreases-copied_expr
decreases-copied_expr l = 2 * goal.size-copied_expr l + 1

abbrev pub decreases-copied_pat : goal.decreases-copied_pat
decreases-copied_pat l = 2 * goal.size-copied_pat l + 1

abbrev pub decreases-copied_arm : goal.decreases-copied_arm
decreases-copied_arm l = 2 * goal.size-copied_arm l

abbrev pub decreases-copied_closure : goal.decreases-copied_closure
decreases-copied_closure l = 2 * goal.size-copied_closure l

abbrev pub decreases-copied_for_loop : goal.decreases-copied_for_loop
decreases-copied_for_loop l = 2 * goal.size-copied_for_loop l

abbrev pub decreases-copied_guard : goal.decreases-copied_guard
decreases-copied_guard l = 2 * goal.size-copied_guard l

abbrev pub decreases-copied_let : goal.decreases-copied_let
decreases-copied_let l = 2 * goal.size-copied_let l

abbrev pub decreases-copied_match : goal.decreases-copied_match
decreases-copied_match l = 2 * goal.size-copied_match l
