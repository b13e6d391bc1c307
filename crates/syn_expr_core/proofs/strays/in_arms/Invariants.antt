use Rattle.std.proofs.Common.{◌≡◌, ◌++◌, map, length}
use Rattle.syn_expr_core.specs.Strays.{arms_strays, found_trees}
use Rattle.syn_expr_core.specs.View.{arm_of}
use Rattle.syn_expr_core.proofs.strays.in_arms.Given as goal

abbrev pub invariant-arms : goal.invariant-arms
invariant-arms l =
    found_trees l.found.items ++ arms_strays (map arm_of l.arms) ≡ found_trees l.fn.found.items ++ arms_strays (map arm_of l.fn.arms)

abbrev pub decreases-arms : goal.decreases-arms
decreases-arms l = length l.arms
