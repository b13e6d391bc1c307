-- What holds both expressions and patterns, as calls left these.
use Rattle.std.proofs.Common.{◌≡◌, Bool, List, [], ◌∷◌, ◌++◌, map, flat_map, is_some, Result, refl, sym, subst, ap, ◌∙◌}
use Rattle.std.specs.declared.vec.Vec.{Vec}
use Rattle.std.specs.declared.boxed.Box.{Box}
use Rattle.std.specs.declared.alloc.Global.{Global}
use Rattle.syn_lower_spec.specs.Pat as t
use Rattle.syn_lower_spec.specs.Pat.{PatTree}
use Rattle.syn_lower.specs.View.{mapped, lifetimes_of, return_of, values, trails}
use Rattle.syn_lower_leaves.specs.declared.punctuated.Punctuated.{Punctuated}
use Rattle.syn_expr_spec.specs.Tree as e
use Rattle.syn_expr_spec.specs.Tree.{Tree, ClosureHead, prefixed, frame, child, none, body_of}
use Rattle.syn_expr_tokens.specs.View.{label_of}
use Rattle.syn_pat.specs.View.{PatView, attributed_by, attributes_of}
use Rattle.syn_expr_ast.specs.Attrs.{attrs_of, inner_of, outer_of}
use Rattle.syn_expr_ast.specs.Both.{arm_of, expr_closure_of, expr_for_loop_of, expr_let_of, expr_match_of, guarded_of}
use Rattle.syn_expr_ast.specs.Pats.{ArmView, closure_by, guards, strays, trees}
use Rattle.syn_expr_ast.specs.declared.pattern.ArmOf.{ArmOf}
use Rattle.syn_expr_ast.specs.declared.pattern.ExprClosureOf.{ExprClosureOf}
use Rattle.syn_expr_ast.specs.declared.pattern.ExprForLoopOf.{ExprForLoopOf}
use Rattle.syn_expr_ast.specs.declared.pattern.ExprLetOf.{ExprLetOf}
use Rattle.syn_expr_ast.specs.declared.pattern.ExprMatchOf.{ExprMatchOf}
use Rattle.syn_expr_ast.specs.declared.pattern.PatGuardOf.{PatGuardOf}
use Rattle.syn_visit_kinds.specs.Changes.{Changed, ChangedGuards, ChangedIn, SameAround}
use Rattle.syn_visit_kinds.specs.Nodes.{map_children}
use Rattle.syn_visit_kinds.specs.Parts.{ChangedArm, arm_operands, map_arm}
use Rattle.syn_visit_kinds.proofs.Around.{arms_among, attributed_around, child_among, closure_around, frame_around, same_in, strays_among}
use Rattle.syn_visit_kinds.proofs.Changes.{changed_alike, changed_flat, changed_same}
use Rattle.syn_visit_kinds.proofs.OperandsOf.{closure_viewed, for_loop_operands, let_operands, match_viewed}

module _ {E P R : Type 0} (f : E → Tree) (g : P → PatView) {call : Tree → Result (Unit {0}) R → Tree → Type 0} {a r : Result (Unit {0}) R} where
  pub closure_changed : (x : ExprClosureOf E P) (ps : Punctuated P _) (b : Box E Global) → Changed (ChangedGuards call) (map g (values x.inputs)) a (map g (values ps)) → trails ps ≡ trails x.inputs
      → Changed call (guards (map g (values x.inputs)) ++ f x.body.value ∷ []) r (guards (map g (values ps)) ++ f b.value ∷ [])
      → ChangedIn call (expr_closure_of f g x) r (expr_closure_of f g (record x { inputs = ps; body = b }))
  closure_changed x ps b pats same c =
      let head : List PatTree → Bool → ClosureHead = λ l c. record {
        lifetimes = mapped lifetimes_of x.lifetimes;
        constness = is_some x.constness;
        movability = is_some x.modifiers.static_token;
        asyncness = is_some x.asyncness;
        capture = is_some x.capture;
        usage = is_some x.modifiers.use_token;
        inputs = l;
        trailing = c;
        output = return_of x.output;
      } in
      let olds : List PatView = map g (values x.inputs) in
      let news : List PatView = map g (values ps) in
      record {
        operands = changed_same (closure_viewed f g x).are (closure_viewed f g (record x { inputs = ps; body = b })).are c;
        around =
            let whole : List PatTree → Bool → Tree = λ l z. closure_by (return_of x.output) (head l z) (guards news) (f b.value) in
            let start : Tree = closure_by (return_of x.output) (head (trees olds) (trails x.inputs)) (guards olds) (f x.body.value) in
            let trees_same : trees news ≡ trees olds = changed_alike (λ (v : PatView). v.tree) (λ v s w h. h.tree) pats in
            let there : whole (trees news) (trails ps) ≡ whole (trees olds) (trails x.inputs) = ap (λ l. whole l (trails ps)) trees_same ∙ ap (whole (trees olds)) same in
            attributed_around (attrs_of x.attrs) start (whole (trees news) (trails ps))
            (subst (SameAround start) (sym there)
            (closure_around (return_of x.output) (head (trees olds) (trails x.inputs)) (guards olds) (guards news) (f x.body.value) (f b.value) (changed_flat (λ (v : PatView). v.guards) (λ v s w h. h.guards) pats)));
      }

  pub for_loop_changed : (x : ExprForLoopOf E P) (p : Box P Global) (b : Box E Global) → ChangedGuards call (g x.pat.value) a (g p.value)
      → Changed call ((g x.pat.value).guards ++ f x.expr.value ∷ []) r ((g p.value).guards ++ f b.value ∷ []) → ChangedIn call (expr_for_loop_of f g x) r (expr_for_loop_of f g (record x { pat = p; expr = b }))
  for_loop_changed x p b pat c = record {
    operands = changed_same (for_loop_operands f g x).are (for_loop_operands f g (record x { pat = p; expr = b })).are c;
    around =
        let end = e.braced (body_of (inner_of x.attrs) x.body.stmts) in
        let head = e.for_loop (mapped label_of x.label) in
        let olds = strays (g x.pat.value).guards (child e.loop_head end (f x.expr.value) none) in
        let news = strays (g p.value).guards (child e.loop_head end (f b.value) none) in
        attributed_around (outer_of x.attrs) (frame (head (g x.pat.value).tree) olds) (frame (head (g p.value).tree) news)
        (subst (λ q. SameAround (frame (head (g x.pat.value).tree) olds) (frame (head q) news)) (sym pat.tree)
        (frame_around (head (g x.pat.value).tree) olds news (strays_among (g x.pat.value).guards (g p.value).guards _ _ pat.guards (record { same = λ k. refl }))));
  }

  pub let_changed : (x : ExprLetOf E P) (p : Box P Global) (b : Box E Global) → ChangedGuards call (g x.pat.value) a (g p.value)
      → Changed call ((g x.pat.value).guards ++ f x.expr.value ∷ []) r ((g p.value).guards ++ f b.value ∷ []) → ChangedIn call (expr_let_of f g x) r (expr_let_of f g (record x { pat = p; expr = b }))
  let_changed x p b pat c = record {
    operands = changed_same (let_operands f g x).are (let_operands f g (record x { pat = p; expr = b })).are c;
    around =
        let olds = strays (g x.pat.value).guards none in
        let news = strays (g p.value).guards none in
        let among = strays_among (g x.pat.value).guards (g p.value).guards none none pat.guards (record { same = λ k. refl }) in
        attributed_around (attrs_of x.attrs) (prefixed (e.let_expr (g x.pat.value).tree) olds (f x.expr.value)) (prefixed (e.let_expr (g p.value).tree) news (f b.value))
        (record { same = λ k. ap (λ q. prefixed (e.let_expr q) (map_children (λ _. k) news) k) pat.tree ∙ ap (λ l. prefixed (e.let_expr (g x.pat.value).tree) l k) (among.same k) });
  }

  pub arm_changed : (x : ArmOf E P) (p : P) (b : Box E Global) → ChangedGuards call (g x.pat) a (g p) → Changed call ((g x.pat).guards ++ f x.body.value ∷ []) r ((g p).guards ++ f b.value ∷ [])
      → ChangedArm call (arm_of f g x) r (arm_of f g (record x { pat = p; body = b }))
  arm_changed x p b pat c = record {
    operands = c;
    around = λ k.
        let whole : PatTree → List Tree → ArmView = λ q gs. record { attrs = attrs_of x.attrs; pat = record { tree = q; guards = gs }; body = k; comma = is_some x.comma } in
        ap (λ q. whole q (map (λ (_ : Tree). k) (g p).guards)) pat.tree ∙ ap (whole (g x.pat).tree) (same_in k pat.guards);
  }

  pub guard_changed : (x : PatGuardOf E P) (p : Box P Global) (b : Box E Global) → ChangedGuards call (g x.pat.value) a (g p.value)
      → Changed call ((g x.pat.value).guards ++ f x.guard.value ∷ []) r ((g p.value).guards ++ f b.value ∷ []) → ChangedGuards call (guarded_of f g x) r (guarded_of f g (record x { pat = p; guard = b }))
  guard_changed x p b pat c = record { guards = c; tree = ap (λ q. attributed_by (attributes_of x.attrs) (t.guarded q)) pat.tree }

module _ {E A R : Type 0} (f : E → Tree) (a : A → ArmView) {call : Tree → Result (Unit {0}) R → Tree → Type 0} {r : Result (Unit {0}) R} where
  pub match_changed : (x : ExprMatchOf E A) (b : Box E Global) (more : Vec A Global) → ((k : Tree) → map (map_arm (λ _. k)) (map a more.items) ≡ map (map_arm (λ _. k)) (map a x.arms.items))
      → Changed call (f x.expr.value ∷ flat_map arm_operands (map a x.arms.items)) r (f b.value ∷ flat_map arm_operands (map a more.items)) → ChangedIn call (expr_match_of f a x) r (expr_match_of f a (record x { expr = b; arms = more }))
  match_changed x b more same c = record {
    operands = changed_same (match_viewed f a x).are (match_viewed f a (record x { expr = b; arms = more })).are c;
    around =
        attributed_around (outer_of x.attrs) _ _
        (frame_around e.match_expr _ _ (child_among e.scrutinee (e.opened (inner_of x.attrs)) (f x.expr.value) (f b.value) _ _ (arms_among (map a x.arms.items) (map a more.items) same)));
  }
