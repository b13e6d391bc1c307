use Rattle.syn_expr_spec.proofs.WorkedRows.{query_rows}
use Rattle.syn_expr_spec.proofs.queries.query_rows.Goals as goal

pub returns : goal.returns
returns c = query_rows
