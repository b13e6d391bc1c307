use Rattle.syn_expr_spec.proofs.Conditions.{conditions_have_no_structures}
use Rattle.syn_expr_spec.proofs.trees.conditions_have_no_structures.Goals as goal

pub returns : goal.returns
returns c = conditions_have_no_structures
