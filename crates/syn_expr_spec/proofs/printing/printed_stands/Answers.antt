use Rattle.syn_expr_spec.proofs.Promise.{printed_stands}
use Rattle.syn_expr_spec.proofs.printing.printed_stands.Goals as goal

pub returns : goal.returns
returns c = printed_stands
