-- What an expression holds in places of their own: the condition of an `if`, of a loop and of a `match` has its braces after
-- it, and a closure with an output has its body alone.
use Rattle.std.proofs.Common.{◌≡◌, true, List, [], ◌∷◌, Option, Some, None, refl, ap, sym, ◌∙◌, subst}
use Rattle.std.specs.Prelude.{map}
use Rattle.std.specs.declared.boxed.Box.{Box}
use Rattle.std.specs.declared.alloc.Global.{Global}
use Rattle.syn_lower_spec.specs.Tree.{AttributeTree, ReturnTree, default, given}
use Rattle.syn_expr_spec.specs.declared.kinds.Limits.{Limits}
use Rattle.syn_expr_spec.specs.Tree as e
use Rattle.syn_expr_spec.specs.Tree.{Tree, Body, Jump, ClosureHead, prefixed, frame, none, child, attributed_with}
use Rattle.syn_lower.specs.View.{mapped, return_of, values}
use Rattle.syn_expr_tokens.specs.View.{label_of}
use Rattle.syn_pat.specs.View.{PatView}
use Rattle.syn_expr_ast.specs.Attrs.{attrs_of, outer_of, inner_of}
use Rattle.syn_expr_ast.specs.Both.{closure_head_of, expr_closure_of, expr_for_loop_of, expr_let_of, expr_match_of}
use Rattle.syn_expr_ast.specs.Pats.{ArmView, strays, guards, closure_by, arms}
use Rattle.syn_expr_ast.specs.declared.pattern.ExprClosureOf.{ExprClosureOf}
use Rattle.syn_expr_ast.specs.declared.pattern.ExprForLoopOf.{ExprForLoopOf}
use Rattle.syn_expr_ast.specs.declared.pattern.ExprLetOf.{ExprLetOf}
use Rattle.syn_expr_ast.specs.declared.pattern.ExprMatchOf.{ExprMatchOf}
use Rattle.syn_expr_ast.specs.View.{body_of, else_of, range_between, jump_with}
use Rattle.syn_expr_classify.specs.Frames.{is_body, is_loop, bare_holds, frames_hold}
use Rattle.syn_expr_core.specs.declared.expr.Expr.{Expr, out-Expr}
use Rattle.syn_expr_core.specs.declared.expr.Expr.TheOpen.{Expr-F}
use Rattle.syn_expr_core.specs.declared.pat.Pat.{Pat}
use Rattle.syn_expr_core.specs.declared.pat.PatGuard.{PatGuard}
use Rattle.syn_expr_core.specs.declared.closure.ExprClosure.{ExprClosure, out-ExprClosure}
use Rattle.syn_expr_core.specs.declared.control.Arm.{Arm}
use Rattle.syn_expr_core.specs.declared.control.ExprForLoop.{ExprForLoop, out-ExprForLoop}
use Rattle.syn_expr_core.specs.declared.control.ExprLet.{ExprLet, out-ExprLet}
use Rattle.syn_expr_core.specs.declared.control.ExprMatch.{ExprMatch, out-ExprMatch}
use Rattle.syn_expr_core.specs.View.{closure_parts, for_loop_parts, let_parts, match_parts, tree_layer, tree_of, pat_of, closure_of, arm_of, for_loop_of, let_of, match_of, views}
use Rattle.syn_expr_core.proofs.TreeOf.{tree_out, closure-is, for_loop-is, let_expr-is, match_expr-is}

record IsFramed (t : Tree) : Type 0 where
  holds : frames_hold t ≡ true

-- ---- trees without attributes before them

record IsBare (t : Tree) : Type 0 where
  holds : bare_holds t ≡ true

pub bare_framed : (t : Tree) → bare_holds t ≡ true → frames_hold t ≡ true
bare_framed (e.attributed a more t) h = absurd cc
bare_framed (e.leaf k) h = h
bare_framed (e.paren m t) h = h
bare_framed (prefixed k gs t) h = h
bare_framed (e.infixed x k y) h = h
bare_framed (e.postfixed x k) h = h
bare_framed (e.tail b k ks) h = h
bare_framed (frame k ks) h = h

behind : (ats : List AttributeTree) (t : Tree) → IsBare t → IsFramed (attributed_with ats t)
behind [] t h = record { holds = bare_framed t h.holds }
behind (a ∷ more) t h = record { holds = h.holds }

body_last : (gs : List Tree) (t : Tree) → is_body (strays gs (child e.output_block e.no_ending t none)) ≡ true
body_last [] t = refl
body_last (g ∷ gs) t = body_last gs t

closure_by_bare : (r : ReturnTree) (h : ClosureHead) (gs : List Tree) (t : Tree) → IsBare (closure_by r h gs t)
closure_by_bare default h gs t = record { holds = refl }
closure_by_bare (given ty) h gs t = record { holds = body_last gs t }

loop_last : (gs : List Tree) (b : Body) (t : Tree) → is_loop (strays gs (child e.loop_head (e.braced b) t none)) ≡ true
loop_last [] b t = refl
loop_last (g ∷ gs) b t = loop_last gs b t

if_bare : {E S : Type 0} (f : E → Tree) (b : Body) (t : Tree) (o : Option (S × Box E Global)) → IsBare (frame e.if_expr (child e.condition (e.braced b) t (else_of f o)))
if_bare f b t None = record { holds = refl }
if_bare f b t (Some q) = record { holds = refl }

range_bare : (op : Limits) (x y : Option Tree) → IsBare (range_between op x y)
range_bare op None None = record { holds = refl }
range_bare op None (Some y) = record { holds = refl }
range_bare op (Some x) None = record { holds = refl }
range_bare op (Some x) (Some y) = record { holds = refl }

jump_bare : (j : Jump) (x : Option Tree) → IsBare (jump_with j x)
jump_bare j None = record { holds = refl }
jump_bare j (Some x) = record { holds = refl }

-- ---- those that hold patterns

closure_kind : {E P : Type 0} (f : E → Tree) (g : P → PatView) (x : ExprClosureOf E P) → IsFramed (expr_closure_of f g x)
closure_kind f g x =
    let head = closure_head_of g x in
    let inputs = guards (map g (values x.inputs)) in
    behind (attrs_of x.attrs) (closure_by (return_of x.output) head inputs (f x.body.value)) (closure_by_bare (return_of x.output) head inputs (f x.body.value))

for_loop_kind : {E P : Type 0} (f : E → Tree) (g : P → PatView) (x : ExprForLoopOf E P) → IsFramed (expr_for_loop_of f g x)
for_loop_kind f g x =
    let p = g x.pat.value in
    let b = body_of (inner_of x.attrs) x.body.stmts in
    behind (outer_of x.attrs) (frame (e.for_loop (mapped label_of x.label) p.tree) (strays p.guards (child e.loop_head (e.braced b) (f x.expr.value) none))) (record { holds = loop_last p.guards b (f x.expr.value) })

let_kind : {E P : Type 0} (f : E → Tree) (g : P → PatView) (x : ExprLetOf E P) → IsFramed (expr_let_of f g x)
let_kind f g x = let p = g x.pat.value in behind (attrs_of x.attrs) (prefixed (e.let_expr p.tree) (strays p.guards none) (f x.expr.value)) (record { holds = refl })

match_kind : {E A : Type 0} (f : E → Tree) (a : A → ArmView) (x : ExprMatchOf E A) → IsFramed (expr_match_of f a x)
match_kind f a x = behind (outer_of x.attrs) (frame e.match_expr (child e.scrutinee (e.opened (inner_of x.attrs)) (f x.expr.value) (arms (map a x.arms.items)))) (record { holds = refl })

closure_framed : (x : ExprClosure) → IsFramed (closure_of x)
closure_framed x = subst (λ t. IsFramed t) (sym (closure-is x)) (closure_kind tree_of pat_of (closure_parts (out-ExprClosure x)))

for_loop_framed : (x : ExprForLoop) → IsFramed (for_loop_of x)
for_loop_framed x = subst (λ t. IsFramed t) (sym (for_loop-is x)) (for_loop_kind tree_of pat_of (for_loop_parts (out-ExprForLoop x)))

let_framed : (x : ExprLet) → IsFramed (let_of x)
let_framed x = subst (λ t. IsFramed t) (sym (let_expr-is x)) (let_kind tree_of pat_of (let_parts (out-ExprLet x)))

match_framed : (x : ExprMatch) → IsFramed (match_of x)
match_framed x = subst (λ t. IsFramed t) (sym (match_expr-is x)) (match_kind tree_of arm_of (match_parts (out-ExprMatch x)))

-- ---- each kind

layer_framed : (l : Expr-F Expr Pat ExprClosure Arm ExprForLoop ExprLet ExprMatch PatGuard) → IsFramed (tree_layer views l)
layer_framed (Expr-F.Array x) = behind (attrs_of x.attrs) _ (record { holds = refl })
layer_framed (Expr-F.Assign x) = behind (attrs_of x.attrs) _ (record { holds = refl })
layer_framed (Expr-F.Async x) = behind (attrs_of x.attrs) _ (record { holds = refl })
layer_framed (Expr-F.Await x) = behind (attrs_of x.attrs) _ (record { holds = refl })
layer_framed (Expr-F.Binary x) = behind (attrs_of x.attrs) _ (record { holds = refl })
layer_framed (Expr-F.Block x) = behind (outer_of x.attrs) _ (record { holds = refl })
layer_framed (Expr-F.Break x) = behind (attrs_of x.attrs) _ (jump_bare _ _)
layer_framed (Expr-F.Call x) = behind (attrs_of x.attrs) _ (record { holds = refl })
layer_framed (Expr-F.Cast x) = behind (attrs_of x.attrs) _ (record { holds = refl })
layer_framed (Expr-F.Closure x) = closure_framed x
layer_framed (Expr-F.Expr::Const x) = behind (outer_of x.attrs) _ (record { holds = refl })
layer_framed (Expr-F.Continue x) = behind (attrs_of x.attrs) _ (record { holds = refl })
layer_framed (Expr-F.Field x) = behind (attrs_of x.attrs) _ (record { holds = refl })
layer_framed (Expr-F.ForLoop x) = for_loop_framed x
layer_framed (Expr-F.Group x) = behind (attrs_of x.attrs) _ (record { holds = refl })
layer_framed (Expr-F.If x) = behind (attrs_of x.attrs) _ (if_bare tree_of _ _ x.else_branch)
layer_framed (Expr-F.Index x) = behind (attrs_of x.attrs) _ (record { holds = refl })
layer_framed (Expr-F.Infer x) = behind (attrs_of x.attrs) _ (record { holds = refl })
layer_framed (Expr-F.Let x) = let_framed x
layer_framed (Expr-F.Expr::Lit x) = behind (attrs_of x.attrs) _ (record { holds = refl })
layer_framed (Expr-F.Loop x) = behind (outer_of x.attrs) _ (record { holds = refl })
layer_framed (Expr-F.Expr::Macro x) = behind (attrs_of x.attrs) _ (record { holds = refl })
layer_framed (Expr-F.Match x) = match_framed x
layer_framed (Expr-F.MethodCall x) = behind (attrs_of x.attrs) _ (record { holds = refl })
layer_framed (Expr-F.Expr::Paren x) = behind (attrs_of x.attrs) _ (record { holds = refl })
layer_framed (Expr-F.Expr::Path x) = behind (attrs_of x.attrs) _ (record { holds = refl })
layer_framed (Expr-F.Expr::Range x) = behind (attrs_of x.attrs) _ (range_bare _ _ _)
layer_framed (Expr-F.RawAddr x) = behind (attrs_of x.attrs) _ (record { holds = refl })
layer_framed (Expr-F.Expr::Reference x) = behind (attrs_of x.attrs) _ (record { holds = refl })
layer_framed (Expr-F.Repeat x) = behind (attrs_of x.attrs) _ (record { holds = refl })
layer_framed (Expr-F.Return x) = behind (attrs_of x.attrs) _ (jump_bare _ _)
layer_framed (Expr-F.Expr::Struct x) = behind (attrs_of x.attrs) _ (record { holds = refl })
layer_framed (Expr-F.Try x) = behind (attrs_of x.attrs) _ (record { holds = refl })
layer_framed (Expr-F.TryBlock x) = behind (attrs_of x.attrs) _ (record { holds = refl })
layer_framed (Expr-F.Expr::Tuple x) = behind (attrs_of x.attrs) _ (record { holds = refl })
layer_framed (Expr-F.Unary x) = behind (attrs_of x.attrs) _ (record { holds = refl })
layer_framed (Expr-F.Unsafe x) = behind (outer_of x.attrs) _ (record { holds = refl })
layer_framed (Expr-F.While x) = behind (outer_of x.attrs) _ (record { holds = refl })
layer_framed (Expr-F.Yield x) = behind (attrs_of x.attrs) _ (jump_bare _ _)
layer_framed (Expr-F.Verbatim x) = record { holds = refl }

pub tree_framed : (x : Expr) → frames_hold (tree_of x) ≡ true
tree_framed x = ap frames_hold (tree_out x) ∙ (layer_framed (out-Expr x)).holds
