use Rattle.syn_expr_copy.proofs.list.drop_each.Given as goal

abbrev pub decreases-loop-y : goal.decreases-loop-y
decreases-loop-y g l = goal.left-loop-y g l
