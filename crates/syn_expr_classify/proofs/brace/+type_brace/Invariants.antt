-- A walk goes down the types at the right end, each inside of the one before.
use Rattle.syn_lower.specs.Ends.{depth}
use Rattle.syn_lower.specs.View.{type_of}
use Rattle.syn_expr_classify.proofs.brace.+type_brace.Given as goal

abbrev pub decreases-type_brace : goal.decreases-type_brace
decreases-type_brace l = depth (type_of l.ty.now)
