use Rattle.std.proofs.Common.{rules}
use Rattle.syn_expr_spec.proofs.Alone.{attributed_exact, operand_exact}
use Rattle.syn_expr_ast.proofs.Exactly.{reads_ahead, refuses_ahead}
use Rattle.syn_expr_core.proofs.alone.attributed_operand.Goals as goal

pub returns : goal.returns
returns g c = reads_ahead (attributed_exact _ _ (operand_exact _ c.requires.atoms) c.requires.atoms c.requires.attributed) _ _ _ _ c.in_ok-ahead.ensures.value (rw c.advance_to.ensures.rest c.in-Ok.ensures.value) (search rules)

pub returns-in-Err : goal.returns-in-Err
returns-in-Err g c = refuses_ahead (attributed_exact _ _ (operand_exact _ c.requires.atoms) c.requires.atoms c.requires.attributed) _ _ _ c.in_ok-ahead.ensures.value c.in-Err.ensures.value
