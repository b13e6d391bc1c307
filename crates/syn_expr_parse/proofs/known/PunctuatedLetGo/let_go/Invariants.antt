use Rattle.syn_expr_parse.proofs.known.PunctuatedLetGo.let_go.Given as goal

abbrev pub decreases-loop-x : goal.decreases-loop-x
decreases-loop-x g l = goal.left-loop-x g l
