-- What the code makes anew of what holds both expressions and patterns.
use Rattle.std.proofs.Common.{◌≡◌, [], ◌++◌, Option, Result, IfOk, refl, subst, sym, ap, ◌∙◌}
use Rattle.std.specs.declared.alloc.AllocError.{AllocError}
use Rattle.std.specs.declared.vec.Vec.{Vec}
use Rattle.std.specs.declared.boxed.Box.{Box}
use Rattle.std.specs.declared.alloc.Global.{Global}
use Rattle.syn_lower.specs.View.{values, trails}
use Rattle.syn_lower_leaves.specs.declared.attr.Attribute.{Attribute}
use Rattle.syn_lower_leaves.specs.declared.punctuated.Punctuated.{Punctuated}
use Rattle.syn_expr_spec.specs.Tree.{Tree}
use Rattle.syn_pat.specs.View.{PatView}
use Rattle.syn_expr_ast.specs.Attrs.{attrs_of}
use Rattle.syn_expr_core.specs.declared.expr.Expr.{Expr}
use Rattle.syn_expr_core.specs.declared.pat.Pat.{Pat}
use Rattle.syn_expr_core.specs.declared.closure.ExprClosure.{ExprClosure, out-ExprClosure, roll-ExprClosure, out-roll-ExprClosure}
use Rattle.syn_expr_core.specs.declared.control.Arm.{Arm, out-Arm, roll-Arm, out-roll-Arm}
use Rattle.syn_expr_core.specs.declared.control.ExprForLoop.{ExprForLoop, out-ExprForLoop, roll-ExprForLoop, out-roll-ExprForLoop}
use Rattle.syn_expr_core.specs.declared.control.ExprLet.{ExprLet, out-ExprLet, roll-ExprLet, out-roll-ExprLet}
use Rattle.syn_expr_core.specs.declared.control.ExprMatch.{ExprMatch, out-ExprMatch, roll-ExprMatch, out-roll-ExprMatch}
use Rattle.syn_expr_core.specs.declared.pat.PatGuard.{PatGuard, out-PatGuard, roll-PatGuard, out-roll-PatGuard}
use Rattle.syn_expr_core.specs.View.{arm_layer, arm_of, arm_parts, let_layer, let_of, let_parts, match_layer, match_of, match_parts, closure_layer, closure_of, closure_parts, for_loop_layer, for_loop_of, for_loop_parts, guard_layer, guard_of, guard_parts, pat_of, tree_of, views}
use Rattle.syn_expr_core.proofs.TreeOf.{arm-is, let_expr-is, match_expr-is, closure-is, for_loop-is, guard-is}
use Rattle.syn_visit_kinds.specs.Calls.{Each}
use Rattle.syn_expr_flatten.specs.Flat.{IsFlat, IsFlatBehind, before}
use Rattle.syn_expr_flatten.specs.Pats.{IsFlatArm, IsFlatPat}
use Rattle.syn_expr_flatten.proofs.Both.{ArePats, Joined, arm_flat, closure_behind, for_loop_behind, guard_flat, let_behind, match_behind}

-- what is related by what both are
pub related : {A B : Type 0} (R : A → B → Type 0) {x x' : A} {y y' : B} → x ≡ x' → y ≡ y' → R x' y' → R x y
related R {x = x} {y' = y'} p q r = subst (R x) (sym q) (subst (λ z. R z y') (sym p) r)

pub guard_made : (x : PatGuard) (p : Box Pat Global) (b : Box Expr Global)
    → IsFlatPat (pat_of (out-PatGuard x).pat.value) (pat_of p.value) → IsFlat (tree_of (out-PatGuard x).guard.value) (tree_of b.value)
    → IsFlatPat (guard_of x) (guard_of (roll-PatGuard (record (out-PatGuard x) { pat = p; guard = b })))
guard_made x p b pat guard =
    related IsFlatPat (guard-is x) (guard-is _ ∙ ap (guard_layer views) (out-roll-PatGuard (record (out-PatGuard x) { pat = p; guard = b }))) (guard_flat tree_of pat_of (guard_parts (out-PatGuard x)) p b pat guard)

pub arm_made : (x : Arm) (p : Pat) (b : Box Expr Global) → IsFlatPat (pat_of (out-Arm x).pat) (pat_of p) → IsFlat (tree_of (out-Arm x).body.value) (tree_of b.value)
    → IsFlatArm (arm_of x) (arm_of (roll-Arm (record (out-Arm x) { pat = p; body = b })))
arm_made x p b pat body =
    related IsFlatArm (arm-is x) (arm-is _ ∙ ap (arm_layer views) (out-roll-Arm (record (out-Arm x) { pat = p; body = b }))) (arm_flat tree_of pat_of (arm_parts (out-Arm x)) p b pat body)

pub closure_made : (ats : Option (Vec Attribute Global)) (x : ExprClosure) (v : Vec Attribute Global) (ps : Punctuated Pat _) (b : Box Expr Global)
    → attrs_of v ≡ before ats ++ attrs_of (out-ExprClosure x).attrs → ArePats pat_of (values (out-ExprClosure x).inputs) (values ps) → trails ps ≡ trails (out-ExprClosure x).inputs
    → IsFlat (tree_of (out-ExprClosure x).body.value) (tree_of b.value)
    → IsFlatBehind ats (closure_of x) (closure_of (roll-ExprClosure (record (out-ExprClosure x) { attrs = v; inputs = ps; body = b })))
closure_made ats x v ps b joined inputs same body =
    related (IsFlatBehind ats) (closure-is x) (closure-is _ ∙ ap (closure_layer views) (out-roll-ExprClosure (record (out-ExprClosure x) { attrs = v; inputs = ps; body = b })))
    (closure_behind tree_of pat_of ats (closure_parts (out-ExprClosure x)) v ps b joined inputs same body)

pub for_loop_made : (ats : Option (Vec Attribute Global)) (x : ExprForLoop) (v : Vec Attribute Global) (p : Box Pat Global) (b : Box Expr Global)
    → Joined ats (out-ExprForLoop x).attrs v → IsFlatPat (pat_of (out-ExprForLoop x).pat.value) (pat_of p.value) → IsFlat (tree_of (out-ExprForLoop x).expr.value) (tree_of b.value)
    → IsFlatBehind ats (for_loop_of x) (for_loop_of (roll-ExprForLoop (record (out-ExprForLoop x) { attrs = v; pat = p; expr = b })))
for_loop_made ats x v p b joined pat expr =
    related (IsFlatBehind ats) (for_loop-is x) (for_loop-is _ ∙ ap (for_loop_layer views) (out-roll-ExprForLoop (record (out-ExprForLoop x) { attrs = v; pat = p; expr = b })))
    (for_loop_behind tree_of pat_of ats (for_loop_parts (out-ExprForLoop x)) v p b joined pat expr)

pub let_made : (ats : Option (Vec Attribute Global)) (x : ExprLet) (v : Vec Attribute Global) (p : Box Pat Global) (b : Box Expr Global)
    → attrs_of v ≡ before ats ++ attrs_of (out-ExprLet x).attrs → IsFlatPat (pat_of (out-ExprLet x).pat.value) (pat_of p.value) → IsFlat (tree_of (out-ExprLet x).expr.value) (tree_of b.value)
    → IsFlatBehind ats (let_of x) (let_of (roll-ExprLet (record (out-ExprLet x) { attrs = v; pat = p; expr = b })))
let_made ats x v p b joined pat expr =
    related (IsFlatBehind ats) (let_expr-is x) (let_expr-is _ ∙ ap (let_layer views) (out-roll-ExprLet (record (out-ExprLet x) { attrs = v; pat = p; expr = b })))
    (let_behind tree_of pat_of ats (let_parts (out-ExprLet x)) v p b joined pat expr)

pub match_made : (ats : Option (Vec Attribute Global)) (x : ExprMatch) (v : Vec Attribute Global) (b : Box Expr Global) (more : Vec Arm Global)
    → Joined ats (out-ExprMatch x).attrs v → IsFlat (tree_of (out-ExprMatch x).expr.value) (tree_of b.value) → Each (λ p q. IsFlatArm (arm_of p) (arm_of q)) (out-ExprMatch x).arms.items more.items
    → IsFlatBehind ats (match_of x) (match_of (roll-ExprMatch (record (out-ExprMatch x) { attrs = v; expr = b; arms = more })))
match_made ats x v b more joined expr all =
    related (IsFlatBehind ats) (match_expr-is x) (match_expr-is _ ∙ ap (match_layer views) (out-roll-ExprMatch (record (out-ExprMatch x) { attrs = v; expr = b; arms = more })))
    (match_behind tree_of arm_of ats (match_parts (out-ExprMatch x)) v b more joined expr all)

-- ---- what an arm of the knot answers: x was matched, and y is left

pub arm : (ats : Option (Vec Attribute Global)) (r : Result (Unit {0}) AllocError) (x y : Expr) {t u : Tree} → tree_of x ≡ t → tree_of y ≡ u
    → IfOk r (λ a. IsFlatBehind ats t u) → IfOk r (λ a. IsFlatBehind ats (tree_of x) (tree_of y))
arm ats r x y {t = t} old new flat = subst (λ z. IfOk r (λ a. IsFlatBehind ats z (tree_of y))) (sym old) (subst (λ z. IfOk r (λ a. IsFlatBehind ats t z)) (sym new) flat)

pub case : (r : Result (Unit {0}) AllocError) (x y : Pat) {p q : PatView} → pat_of x ≡ p → pat_of y ≡ q → IfOk r (λ a. IsFlatPat p q) → IfOk r (λ a. IsFlatPat (pat_of x) (pat_of y))
case r x y {p = p} old new flat = subst (λ z. IfOk r (λ a. IsFlatPat z (pat_of y))) (sym old) (subst (λ z. IfOk r (λ a. IsFlatPat p z)) (sym new) flat)

-- a pattern that holds no other
pub bare : (x : Pat) (u : PatView) → pat_of x ≡ u → u.guards ≡ [] → IsFlatPat (pat_of x) (pat_of x)
unfolding Each
bare x u is none = related IsFlatPat is is (refl, subst (λ l. Each IsFlat l l) (sym none) tt)
