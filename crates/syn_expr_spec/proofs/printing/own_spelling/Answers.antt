use Rattle.syn_expr_spec.proofs.StoodFilled.{own_spelling}
use Rattle.syn_expr_spec.proofs.printing.own_spelling.Goals as goal

pub returns : goal.returns
returns c = own_spelling
