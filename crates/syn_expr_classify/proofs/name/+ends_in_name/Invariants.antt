-- A walk goes down the types at the right end, each inside of the one before.
use Rattle.syn_lower.specs.Ends.{depth}
use Rattle.syn_lower.specs.View.{type_of}
use Rattle.syn_expr_classify.proofs.name.+ends_in_name.Given as goal

abbrev pub decreases-ends_in_name : goal.decreases-ends_in_name
decreases-ends_in_name l = depth (type_of l.ty.now)
