-- What holds both expressions and patterns as a tree, without its places, by the trees of the expressions and the views of
-- the patterns in it.
use Rattle.std.specs.Prelude.{map, is_some}
use Rattle.syn_expr_spec.specs.Tree as e
use Rattle.syn_expr_spec.specs.Tree.{Tree, prefixed, frame, none, child, attributed_with}
use Rattle.syn_lower.specs.View.{mapped, lifetimes_of, return_of}
unfoldable use Rattle.syn_lower.specs.View.{values, trails}
use Rattle.syn_pat.specs.View.{PatView, pat_guard_of}
use Rattle.syn_expr_tokens.specs.View.{label_of}
use Rattle.syn_expr_ast.specs.Attrs.{attrs_of, outer_of, inner_of}
use Rattle.syn_expr_ast.specs.Pats.{ArmView, strays, trees, guards, closure_by, arms}
use Rattle.syn_expr_ast.specs.View.{body_of}
use Rattle.syn_expr_ast.specs.declared.pattern.ExprClosureOf.{ExprClosureOf}
use Rattle.syn_expr_ast.specs.declared.pattern.ExprForLoopOf.{ExprForLoopOf}
use Rattle.syn_expr_ast.specs.declared.pattern.ExprLetOf.{ExprLetOf}
use Rattle.syn_expr_ast.specs.declared.pattern.ExprMatchOf.{ExprMatchOf}
use Rattle.syn_expr_ast.specs.declared.pattern.ArmOf.{ArmOf}
use Rattle.syn_expr_ast.specs.declared.pattern.PatGuardOf.{PatGuardOf}

abbrev pub closure_head_of : {E P : Type 0} → (P → PatView) → ExprClosureOf E P → e.ClosureHead
closure_head_of g x = record {
  lifetimes = mapped lifetimes_of x.lifetimes;
  constness = is_some x.constness;
  movability = is_some x.modifiers.static_token;
  asyncness = is_some x.asyncness;
  capture = is_some x.capture;
  usage = is_some x.modifiers.use_token;
  inputs = trees (map g (values x.inputs));
  trailing = trails x.inputs;
  output = return_of x.output;
}

abbrev pub expr_closure_of : {E P : Type 0} → (E → Tree) → (P → PatView) → ExprClosureOf E P → Tree
expr_closure_of f g x =
    attributed_with (attrs_of x.attrs) (closure_by (return_of x.output) (closure_head_of g x) (guards (map g (values x.inputs))) (f x.body.value))

abbrev pub expr_for_loop_of : {E P : Type 0} → (E → Tree) → (P → PatView) → ExprForLoopOf E P → Tree
expr_for_loop_of f g x =
    let p = g x.pat.value in
    attributed_with (outer_of x.attrs) (frame (e.for_loop (mapped label_of x.label) p.tree)
    (strays p.guards (child e.loop_head (e.braced (body_of (inner_of x.attrs) x.body.stmts)) (f x.expr.value) none)))

abbrev pub expr_let_of : {E P : Type 0} → (E → Tree) → (P → PatView) → ExprLetOf E P → Tree
expr_let_of f g x = let p = g x.pat.value in attributed_with (attrs_of x.attrs) (prefixed (e.let_expr p.tree) (strays p.guards none) (f x.expr.value))

abbrev pub expr_match_of : {E A : Type 0} → (E → Tree) → (A → ArmView) → ExprMatchOf E A → Tree
expr_match_of f a x = attributed_with (outer_of x.attrs) (frame e.match_expr (child e.scrutinee (e.opened (inner_of x.attrs)) (f x.expr.value) (arms (map a x.arms.items))))

abbrev pub arm_of : {E P : Type 0} → (E → Tree) → (P → PatView) → ArmOf E P → ArmView
arm_of f g x = record { attrs = attrs_of x.attrs; pat = g x.pat; body = f x.body.value; comma = is_some x.comma }

abbrev pub guarded_of : {E P : Type 0} → (E → Tree) → (P → PatView) → PatGuardOf E P → PatView
guarded_of f g x = pat_guard_of x.attrs (g x.pat.value) (f x.guard.value)
