-- What holds both expressions and patterns, made anew of what was flattened.
use Rattle.std.proofs.Common.{◌≡◌, Bool, List, [], ◌∷◌, ◌++◌, map, Option, is_some, refl, ap, ◌∙◌}
use Rattle.std.specs.declared.vec.Vec.{Vec}
use Rattle.std.specs.declared.boxed.Box.{Box}
use Rattle.std.specs.declared.alloc.Global.{Global}
use Rattle.syn_lower_spec.specs.Tree.{AttributeTree}
use Rattle.syn_lower_spec.specs.Pat as t
use Rattle.syn_lower_spec.specs.Pat.{PatTree}
use Rattle.syn_lower.specs.View.{mapped, lifetimes_of, return_of, values, trails}
use Rattle.syn_lower_leaves.specs.declared.attr.Attribute.{Attribute}
use Rattle.syn_lower_leaves.specs.declared.punctuated.Punctuated.{Punctuated}
use Rattle.syn_expr_spec.specs.Tree as e
use Rattle.syn_expr_spec.specs.Tree.{Tree, ClosureHead, prefixed, frame, child, none, body_of, inners, outers}
use Rattle.syn_expr_tokens.specs.View.{label_of}
use Rattle.syn_pat.specs.View.{PatView}
use Rattle.syn_expr_ast.specs.Attrs.{attrs_of, outer_of, inner_of}
use Rattle.syn_expr_ast.specs.Both.{arm_of, expr_closure_of, expr_for_loop_of, expr_let_of, expr_match_of, guarded_of}
use Rattle.syn_expr_ast.specs.Pats.{ArmView, arms, closure_by, guards, strays, trees}
use Rattle.syn_expr_ast.specs.declared.pattern.ArmOf.{ArmOf}
use Rattle.syn_expr_ast.specs.declared.pattern.ExprClosureOf.{ExprClosureOf}
use Rattle.syn_expr_ast.specs.declared.pattern.ExprForLoopOf.{ExprForLoopOf}
use Rattle.syn_expr_ast.specs.declared.pattern.ExprLetOf.{ExprLetOf}
use Rattle.syn_expr_ast.specs.declared.pattern.ExprMatchOf.{ExprMatchOf}
use Rattle.syn_expr_ast.specs.declared.pattern.PatGuardOf.{PatGuardOf}
use Rattle.syn_visit_kinds.specs.Calls.{Each}
use Rattle.syn_expr_flatten.specs.Flat.{IsFlat, IsFlatBehind, before}
use Rattle.syn_expr_flatten.specs.Pats.{IsFlatArm, IsFlatPat}
use Rattle.syn_expr_flatten.proofs.Arms.{arms_flat, closure_flat, closure_plain}
use Rattle.syn_expr_flatten.proofs.Braced.{at_braces, for_loop_braced, match_braced}
use Rattle.syn_visit_kinds.proofs.Elementwise.{each_both, each_one}
use Rattle.syn_expr_flatten.proofs.Children.{frame_flat, child_flat, prefixes_flat, none_flat, strays_flat}
use Rattle.syn_expr_flatten.proofs.Nodes.{at_node, same_flat}
use Rattle.syn_expr_flatten.proofs.Pats.{attributed}

-- these attributes, and those of parentheses before them
abbrev pub Joined : Option (Vec Attribute Global) → Vec Attribute Global → Vec Attribute Global → Type 0
Joined ats old new = (outer_of new ≡ outers (before ats) ++ outer_of old) × (inner_of new ≡ inners (before ats) ++ inner_of old)

module _ {P : Type 0} (g : P → PatView) where
  abbrev pub ArePats : List P → List P → Type 0
  ArePats xs ys = Each (λ x y. IsFlatPat (g x) (g y)) xs ys

  same_inputs : (xs ys : List P) → ArePats xs ys → trees (map g ys) ≡ trees (map g xs)
  unfolding Each
  same_inputs [] [] h = refl
  same_inputs (x ∷ xs) (y ∷ ys) h = ap (λ p. p ∷ trees (map g ys)) h.0.0 ∙ ap (λ l. (g x).tree ∷ l) (same_inputs xs ys h.1)
  same_inputs [] (y ∷ ys) h = absurd h
  same_inputs (x ∷ xs) [] h = absurd h

  inputs_flat : (xs ys : List P) → ArePats xs ys → Each IsFlat (guards (map g xs)) (guards (map g ys))
  unfolding Each
  inputs_flat [] [] h = tt
  inputs_flat (x ∷ xs) (y ∷ ys) h = each_both IsFlat (g x).guards (guards (map g xs)) (g y).guards (guards (map g ys)) h.0.1 (inputs_flat xs ys h.1)
  inputs_flat [] (y ∷ ys) h = absurd h
  inputs_flat (x ∷ xs) [] h = absurd h

module _ {E P : Type 0} (f : E → Tree) (g : P → PatView) where
  pub closure_behind : (ats : Option (Vec Attribute Global)) (x : ExprClosureOf E P) (v : Vec Attribute Global) (ps : Punctuated P _) (b : Box E Global)
      → attrs_of v ≡ before ats ++ attrs_of x.attrs → ArePats g (values x.inputs) (values ps) → trails ps ≡ trails x.inputs → IsFlat (f x.body.value) (f b.value)
      → IsFlatBehind ats (expr_closure_of f g x) (expr_closure_of f g (record x { attrs = v; inputs = ps; body = b }))
  closure_behind ats x v ps b joined inputs same body =
      let head : List PatTree → Bool → ClosureHead = λ l c. record {
        lifetimes = mapped lifetimes_of x.lifetimes;
        constness = is_some x.constness;
        movability = is_some x.modifiers.static_token;
        asyncness = is_some x.asyncness;
        capture = is_some x.capture;
        usage = is_some x.modifiers.use_token;
        inputs = l;
        trailing = c;
        output = return_of x.output;
      } in
      let whole : ClosureHead → Tree = λ h. closure_by (return_of x.output) h (guards (map g (values ps))) (f b.value) in
      at_node ats _ _ _ _ (closure_plain (return_of x.output) _ _ _) joined (same_flat _ _ _
      (ap (λ l. whole (head l (trails ps))) (same_inputs g (values x.inputs) (values ps) inputs) ∙ ap (λ c. whole (head (trees (map g (values x.inputs))) c)) same)
      (closure_flat (return_of x.output) _ _ _ _ _ (inputs_flat g (values x.inputs) (values ps) inputs) body))

  pub for_loop_behind : (ats : Option (Vec Attribute Global)) (x : ExprForLoopOf E P) (v : Vec Attribute Global) (p : Box P Global) (b : Box E Global)
      → Joined ats x.attrs v → IsFlatPat (g x.pat.value) (g p.value) → IsFlat (f x.expr.value) (f b.value)
      → IsFlatBehind ats (expr_for_loop_of f g x) (expr_for_loop_of f g (record x { attrs = v; pat = p; expr = b }))
  for_loop_behind ats x v p b joined pat expr =
      let label = mapped label_of x.label in
      let was : List AttributeTree → Tree = λ l. frame (e.for_loop label (g x.pat.value).tree) (strays (g x.pat.value).guards (child e.loop_head (e.braced (body_of l x.body.stmts)) (f x.expr.value) none)) in
      let now : PatTree → Tree = λ q. frame (e.for_loop label q) (strays (g p.value).guards (child e.loop_head (e.braced (body_of (inner_of v) x.body.stmts)) (f b.value) none)) in
      at_braces ats x.attrs v was _ (for_loop_braced label (g x.pat.value).tree (g x.pat.value).guards x.body.stmts (f x.expr.value)) joined.0 joined.1 (same_flat _ _ _ (ap now pat.0)
      (frame_flat _ _ _ (strays_flat _ _ _ _ pat.1 (child_flat _ _ _ _ _ _ expr none_flat))))

  pub let_behind : (ats : Option (Vec Attribute Global)) (x : ExprLetOf E P) (v : Vec Attribute Global) (p : Box P Global) (b : Box E Global)
      → attrs_of v ≡ before ats ++ attrs_of x.attrs → IsFlatPat (g x.pat.value) (g p.value) → IsFlat (f x.expr.value) (f b.value)
      → IsFlatBehind ats (expr_let_of f g x) (expr_let_of f g (record x { attrs = v; pat = p; expr = b }))
  let_behind ats x v p b joined pat expr =
      at_node ats _ _ _ _ refl joined (same_flat _ _ _
      (ap (λ q. prefixed (e.let_expr q) (strays (g p.value).guards none) (f b.value)) pat.0)
      (prefixes_flat _ _ _ _ _ (strays_flat _ _ _ _ pat.1 none_flat) expr))

  pub arm_flat : (x : ArmOf E P) (p : P) (b : Box E Global) → IsFlatPat (g x.pat) (g p) → IsFlat (f x.body.value) (f b.value)
      → IsFlatArm (arm_of f g x) (arm_of f g (record x { pat = p; body = b }))
  arm_flat x p b pat body = (refl, pat, body, refl)

  pub guard_flat : (x : PatGuardOf E P) (p : Box P Global) (b : Box E Global) → IsFlatPat (g x.pat.value) (g p.value) → IsFlat (f x.guard.value) (f b.value)
      → IsFlatPat (guarded_of f g x) (guarded_of f g (record x { pat = p; guard = b }))
  guard_flat x p b pat guard = attributed x.attrs _ _ _ _ (ap t.guarded pat.0) (each_both IsFlat (g x.pat.value).guards (f x.guard.value ∷ []) (g p.value).guards (f b.value ∷ []) pat.1 (each_one IsFlat (f x.guard.value) (f b.value) guard))

module _ {E A : Type 0} (f : E → Tree) (a : A → ArmView) where
  pub match_behind : (ats : Option (Vec Attribute Global)) (x : ExprMatchOf E A) (v : Vec Attribute Global) (b : Box E Global) (more : Vec A Global)
      → Joined ats x.attrs v → IsFlat (f x.expr.value) (f b.value) → Each (λ p q. IsFlatArm (a p) (a q)) x.arms.items more.items
      → IsFlatBehind ats (expr_match_of f a x) (expr_match_of f a (record x { attrs = v; expr = b; arms = more }))
  match_behind ats x v b more joined expr all =
      at_braces ats x.attrs v (λ l. frame e.match_expr (child e.scrutinee (e.opened l) (f x.expr.value) (arms (map a x.arms.items)))) _
      (match_braced (f x.expr.value) (arms (map a x.arms.items))) joined.0 joined.1 (frame_flat _ _ _ (child_flat _ _ _ _ _ _ expr (arms_flat a _ _ all)))
