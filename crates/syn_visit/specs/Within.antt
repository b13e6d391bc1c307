-- Calls that may be passed each expression in a pattern, and each operand of an arm.
use Rattle.std.specs.Prelude.{◌<◌}
use denote.Ref.{Bor, MutBor}
use Rattle.syn_expr_core.specs.declared.control.Arm.{Arm, out-Arm}
use Rattle.syn_expr_core.specs.declared.expr.Expr.{Expr, size-Expr}
use Rattle.syn_expr_core.specs.declared.pat.Pat.{Pat, size-Pat}
use Rattle.syn_visit_kinds.specs.Calls.{Takes}
use Rattle.syn_visit_kinds.specs.Walk.{Sees}

abbrev pub SeesWithin : {S : Type 0} → (Bor Expr → MutBor S → Type 0) → Pat → Type 0
SeesWithin pre x = (child : Expr) → size-Expr child < size-Pat x → Sees pre child

abbrev pub TakesWithin : (MutBor Expr → Type 0) → Pat → Type 0
TakesWithin pre x = (child : Expr) → size-Expr child < size-Pat x → Takes pre child

pub record SeesArm {S : Type 0} (pre : Bor Expr → MutBor S → Type 0) (x : Arm) : Type 0 where
  pub pat : SeesWithin pre (out-Arm x).pat
  pub body : Sees pre (out-Arm x).body.value

pub record TakesArm (pre : MutBor Expr → Type 0) (x : Arm) : Type 0 where
  pub pat : TakesWithin pre (out-Arm x).pat
  pub body : Takes pre (out-Arm x).body.value
