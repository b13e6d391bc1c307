use Rattle.std.proofs.Common.{◌≤◌}
use Rattle.syn_expr_core.specs.declared.expr.Expr.{size-Expr}
use Rattle.syn_expr_core.proofs.+expr_drop.Given as goal

abbrev pub invariant-expr::Expr::drop-loop-x : goal.invariant-expr::Expr::drop-loop-x
invariant-expr::Expr::drop-loop-x l = size-Expr l.self ≤ size-Expr l.fn.self
