use Rattle.std.proofs.Common.{rules}
use Rattle.syn_expr_ast.proofs.LeafAlone.{attributed_leaf_exact}
use Rattle.syn_expr_ast.proofs.Exactly.{reads_ahead, refuses_ahead}
use Rattle.syn_expr_ast.proofs.alone.attributed_leaf.Goals as goal

pub returns : goal.returns
returns g c = reads_ahead (attributed_leaf_exact _ c.requires.plain) _ _ _ _ c.in_ok-ahead.ensures.value (rw c.advance_to.ensures.rest c.in-Ok.ensures.value) (search rules)

pub returns-in-Err : goal.returns-in-Err
returns-in-Err g c = refuses_ahead (attributed_leaf_exact _ c.requires.plain) _ _ _ c.in_ok-ahead.ensures.value c.in-Err.ensures.value
