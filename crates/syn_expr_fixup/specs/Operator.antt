-- An operator of a level, by what its first token begins.
use Rattle.std.specs.Prelude.{Bool, if◌then◌else◌, Option, Some, None}
use Rattle.syn_expr_spec.specs.declared.kinds.BinKind.TheVariants as bin
use Rattle.syn_expr_spec.specs.declared.kinds.Infix.{Infix}
use Rattle.syn_expr_spec.specs.declared.kinds.Infix.TheVariants as inf
use Rattle.syn_expr_spec.specs.declared.kinds.Precedence.{Precedence}
use Rattle.syn_expr_spec.specs.declared.kinds.Precedence.TheVariants as lev
use Rattle.syn_expr_spec.specs.declared.kinds.Limits.TheVariants as limits

-- `b`: an expression; `g`: generic arguments
abbrev pub operator_at : Precedence → Bool → Bool → Option Infix
operator_at lev.Assign b g = Some (if g then inf.Binary bin.ShlAssign else inf.Assign)
operator_at lev.Range b g = Some (inf.Range limits.HalfOpen)
operator_at lev.Or b g = Some (inf.Binary bin.Or)
operator_at lev.And b g = Some (inf.Binary bin.And)
operator_at lev.Compare b g = Some (inf.Binary (if b then bin.Lt else bin.Eq))
operator_at lev.BitOr b g = Some (inf.Binary bin.BitOr)
operator_at lev.BitXor b g = Some (inf.Binary bin.BitXor)
operator_at lev.BitAnd b g = Some (inf.Binary bin.BitAnd)
operator_at lev.Shift b g = Some (inf.Binary (if b then bin.Shl else bin.Shr))
operator_at lev.Sum b g = Some (inf.Binary (if b then bin.Sub else bin.Add))
operator_at lev.Product b g = Some (inf.Binary (if b then bin.Mul else bin.Div))
operator_at lev.Cast b g = Some inf.Cast
operator_at _ b g = None
