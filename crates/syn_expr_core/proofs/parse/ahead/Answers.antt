use Rattle.std.proofs.Common.{rules}
use Rattle.syn_expr_spec.proofs.Alone.{expr_exact}
use Rattle.syn_expr_ast.proofs.Exactly.{reads_ahead, refuses_ahead}
use Rattle.syn_expr_core.proofs.parse.ahead.Goals as goal

pub returns-clause-exact : goal.returns-clause-exact
returns-clause-exact c = reads_ahead (expr_exact _) _ _ _ _ c.in_ok-ahead.ensures.value (rw (c.into_inner.ensures, c.advance_to.ensures.rest) c.in-Ok.ensures.value) (search rules)

pub returns-in-Err-clause-exact : goal.returns-in-Err-clause-exact
returns-in-Err-clause-exact c = refuses_ahead (expr_exact _) _ _ _ c.in_ok-ahead.ensures.value (λ ne. c.in-Err.ensures.value (λ m. ne (c.refusal.ensures.memory m)))
