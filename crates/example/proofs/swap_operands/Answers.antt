use Rattle.syn_expr.specs.Expr as ex
use Rattle.example.proofs.Operands.{exchanged, left_alone}
use Rattle.example.proofs.swap_operands.Goals as goal

pub returns-in-Binary : goal.returns-in-Binary
returns-in-Binary c =
    let o = c.in-Binary.operation in
    rw (c.swap.ensures.x_after, c.swap.ensures.y_after, c.in-Binary.is, ex.outs-Binary o) (exchanged o)

pub returns-in_default : goal.returns-in_default
returns-in_default c = left_alone _ c.in_default.not-Binary
