use Rattle.syn_expr_spec.proofs.LastFormed.{trailing_brace_is_last}
use Rattle.syn_expr_spec.proofs.queries.trailing_brace_is_last.Goals as goal

pub returns : goal.returns
returns c = trailing_brace_is_last
