-- A `match` in place: its attributes are put first, then what it looks at, and then its arms.
use Rattle.std.proofs.Common.{◌≡◌, Option, subst, sym, ap, ◌∙◌}
use Rattle.std.specs.declared.vec.Vec.{Vec}
use Rattle.std.specs.declared.boxed.Box.{Box}
use Rattle.std.specs.declared.alloc.Global.{Global}
use Rattle.syn_lower_leaves.specs.declared.attr.Attribute.{Attribute}
use Rattle.syn_expr_core.specs.declared.expr.Expr.{Expr}
use Rattle.syn_expr_core.specs.declared.control.Arm.{Arm}
use Rattle.syn_expr_core.specs.declared.control.ExprMatch.{ExprMatch, out-ExprMatch, roll-ExprMatch, out-roll-ExprMatch}
use Rattle.syn_expr_core.specs.View.{arm_of, match_of, tree_of}
use Rattle.syn_visit_kinds.specs.Calls.{Each}
use Rattle.syn_expr_flatten.specs.Flat.{IsFlat, IsFlatBehind}
use Rattle.syn_expr_flatten.specs.Pats.{IsFlatArm}
use Rattle.syn_expr_flatten.proofs.Both.{Joined}
use Rattle.syn_expr_flatten.proofs.Made.{match_made}

-- a `match` of which the attributes were put first, then what it looks at
abbrev pub attributed : ExprMatch → Vec Attribute Global → ExprMatch
attributed x v = roll-ExprMatch (record (out-ExprMatch x) { attrs = v })

abbrev pub looking : ExprMatch → Vec Attribute Global → Box Expr Global → ExprMatch
looking x v b = roll-ExprMatch (record (out-ExprMatch (attributed x v)) { expr = b })

pub arms_same : (x : ExprMatch) (v : Vec Attribute Global) (b : Box Expr Global) → (out-ExprMatch (looking x v b)).arms.items ≡ (out-ExprMatch x).arms.items
arms_same x v b =
    ap (λ m. m.arms.items) (out-roll-ExprMatch (record (out-ExprMatch (attributed x v)) { expr = b }))
    ∙ ap (λ m. m.arms.items) (out-roll-ExprMatch (record (out-ExprMatch x) { attrs = v }))

pub match_left : (ats : Option (Vec Attribute Global)) (x : ExprMatch) (v : Vec Attribute Global) (b : Box Expr Global) (more : Vec Arm Global)
    → Joined ats (out-ExprMatch x).attrs v → IsFlat (tree_of (out-ExprMatch (attributed x v)).expr.value) (tree_of b.value)
    → Each (λ p q. IsFlatArm (arm_of p) (arm_of q)) (out-ExprMatch (looking x v b)).arms.items more.items
    → IsFlatBehind ats (match_of x) (match_of (roll-ExprMatch (record (out-ExprMatch (looking x v b)) { arms = more })))
match_left ats x v b more joined expr all =
    let first = out-roll-ExprMatch (record (out-ExprMatch x) { attrs = v }) in
    let second = out-roll-ExprMatch (record (out-ExprMatch (attributed x v)) { expr = b }) in
    let flat = subst (λ m. IsFlat (tree_of m.expr.value) (tree_of b.value)) first expr in
    let each = subst (λ l. Each (λ p q. IsFlatArm (arm_of p) (arm_of q)) l more.items) (arms_same x v b) all in
    let whole = match_made ats x v b more joined flat each in
    subst (λ m. IsFlatBehind ats (match_of x) (match_of (roll-ExprMatch (record m { arms = more })))) (sym second)
    (subst (λ m. IsFlatBehind ats (match_of x) (match_of (roll-ExprMatch (record m { expr = b; arms = more })))) (sym first) whole)
