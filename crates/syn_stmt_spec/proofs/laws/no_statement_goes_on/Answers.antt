use Rattle.syn_stmt_spec.proofs.Starts.{none_goes_on}
use Rattle.syn_stmt_spec.proofs.laws.no_statement_goes_on.Goals as goal

pub returns : goal.returns
returns c = none_goes_on
