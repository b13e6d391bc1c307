-- The worked rows, computed.
use Rattle.syn_expr_spec.specs.Rows.{PlainRows1, PlainRows2, PlainRows3, PlainRows4, PlainBareRows1, CondRows1, StmtRows1, ArmRows1, CondBareRows1, GroupRows, WorkedRows}
use Rattle.syn_expr_spec.proofs.Computing.{computing}
use Rattle.syn_expr_spec.specs.QueryRows.{QueryRows}

plain_rows1 : PlainRows1
unfolding computing
plain_rows1 = search

plain_rows2 : PlainRows2
unfolding computing
plain_rows2 = search

plain_rows3 : PlainRows3
unfolding computing
plain_rows3 = search

plain_rows4 : PlainRows4
unfolding computing
plain_rows4 = search

plain_bare_rows1 : PlainBareRows1
unfolding computing
plain_bare_rows1 = search

cond_rows1 : CondRows1
unfolding computing
cond_rows1 = search

stmt_rows1 : StmtRows1
unfolding computing
stmt_rows1 = search

arm_rows1 : ArmRows1
unfolding computing
arm_rows1 = search

cond_bare_rows1 : CondBareRows1
unfolding computing
cond_bare_rows1 = search

group_rows : GroupRows
unfolding computing
group_rows = search

pub worked_rows : WorkedRows
worked_rows = record {
  plain_rows1 = plain_rows1;
  plain_rows2 = plain_rows2;
  plain_rows3 = plain_rows3;
  plain_rows4 = plain_rows4;
  plain_bare_rows1 = plain_bare_rows1;
  cond_rows1 = cond_rows1;
  stmt_rows1 = stmt_rows1;
  arm_rows1 = arm_rows1;
  cond_bare_rows1 = cond_bare_rows1;
  group_rows = group_rows;
}

-- ---- the rows of the queries, computed

pub query_rows : QueryRows
unfolding computing
query_rows = search
