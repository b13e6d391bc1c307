use Rattle.syn_expr_spec.proofs.WorkedRows.{worked_rows}
use Rattle.syn_expr_spec.proofs.laws.worked_rows.Goals as goal

pub returns : goal.returns
returns c = worked_rows
