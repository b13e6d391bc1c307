use Rattle.std.proofs.Common.{rules}
use Rattle.syn_expr_spec.proofs.Alone.{macro_exact}
use Rattle.syn_expr_ast.proofs.Exactly.{reads_ahead, refuses_ahead}
use Rattle.syn_expr_ast.proofs.alone.mac.Goals as goal

pub returns : goal.returns
returns c = reads_ahead macro_exact _ _ _ _ c.in_ok-ahead.ensures.value (rw c.advance_to.ensures.rest c.in-Ok.ensures.value) (search rules)

pub returns-in-Err : goal.returns-in-Err
returns-in-Err c = refuses_ahead macro_exact _ _ _ c.in_ok-ahead.ensures.value c.in-Err.ensures.value
