-- What calls left of an expression, of a pattern, and of what holds both.
use Rattle.std.specs.Prelude.{Result, Ok}
use Rattle.std.proofs.Common.{◌≡◌, List, [], ◌∷◌, ◌++◌, map, flat_map, refl, sym, ap, ◌∙◌, subst}
use Rattle.std.specs.declared.vec.Vec.{Vec}
use Rattle.std.specs.declared.boxed.Box.{Box}
use Rattle.std.specs.declared.alloc.Global.{Global}
use denote.Ref.{Bor, MutBor}
use Rattle.syn_lower_spec.specs.Tree.{AttributeTree}
use Rattle.syn_tokens.specs.Tok.{Tok}
use Rattle.syn_lower.specs.View.{values, trails}
use Rattle.syn_lower_leaves.specs.declared.punctuated.Punctuated.{Punctuated}
use Rattle.syn_expr_spec.specs.Tree.{Tree, Leaf, leaf, verbatim, attributed_with}
use Rattle.syn_pat.specs.View.{PatView}
use Rattle.syn_expr_ast.specs.Pats.{guards}
use Rattle.syn_expr_core.specs.declared.expr.Expr.{Expr}
use Rattle.syn_expr_core.specs.declared.pat.Pat.{Pat}
use Rattle.syn_expr_core.specs.declared.closure.ExprClosure.{ExprClosure, out-ExprClosure, roll-ExprClosure, out-roll-ExprClosure}
use Rattle.syn_expr_core.specs.declared.control.Arm.{Arm, out-Arm, roll-Arm, out-roll-Arm}
use Rattle.syn_expr_core.specs.declared.control.ExprForLoop.{ExprForLoop, out-ExprForLoop, roll-ExprForLoop, out-roll-ExprForLoop}
use Rattle.syn_expr_core.specs.declared.control.ExprLet.{ExprLet, out-ExprLet, roll-ExprLet, out-roll-ExprLet}
use Rattle.syn_expr_core.specs.declared.control.ExprMatch.{ExprMatch, out-ExprMatch, roll-ExprMatch, out-roll-ExprMatch}
use Rattle.syn_expr_core.specs.declared.pat.PatGuard.{PatGuard, out-PatGuard, roll-PatGuard, out-roll-PatGuard}
use Rattle.syn_expr_core.specs.View.{arm_layer, arm_of, arm_parts, let_layer, let_of, let_parts, match_layer, match_of, match_parts, closure_layer, closure_of, closure_parts, for_loop_layer, for_loop_of, for_loop_parts, guard_layer, guard_of, guard_parts, pat_of, tree_of, views}
use Rattle.syn_expr_core.proofs.TreeOf.{arm-is, let_expr-is, match_expr-is, closure-is, for_loop-is, guard-is}
use Rattle.syn_visit_kinds.specs.Changes.{Change, ChangeWith, Changed, ended, went, ChangedGuards, ChangedIn, PassesGuards, Rewritten}
use Rattle.syn_visit_kinds.specs.Parts.{ChangedArm, arm_operands, map_arm}
use Rattle.syn_visit_kinds.proofs.Both as both
use Rattle.syn_visit_kinds.proofs.Changes.{change_known_with, changed_alike, changed_flat, changed_map, changed_same}
use Rattle.syn_visit_kinds.proofs.OperandsOf.{attributed_operands}

module _ {R : Type 0} {call : Tree → Result (Unit {0}) R → Tree → Type 0} where
  -- of equal nodes, and of equal patterns
  pub in_same : {t t' u u' : Tree} {r : Result (Unit {0}) R} → t ≡ t' → u ≡ u' → ChangedIn call t' r u' → ChangedIn call t r u
  in_same {t' = t'} {u = u} {r = r} old new c = subst (λ z. ChangedIn call z r u) (sym old) (subst (λ z. ChangedIn call t' r z) (sym new) c)

  pub guards_same : {v v' w w' : PatView} {r : Result (Unit {0}) R} → v ≡ v' → w ≡ w' → ChangedGuards call v' r w' → ChangedGuards call v r w
  guards_same {v' = v'} {w = w} {r = r} old new c = subst (λ z. ChangedGuards call z r w) (sym old) (subst (λ z. ChangedGuards call v' r z) (sym new) c)

  -- what holds no expression
  pub leaf_in : (x : Expr) (ats : List AttributeTree) (k : Leaf) → tree_of x ≡ attributed_with ats (leaf k) → ChangedIn call (tree_of x) (Ok tt) (tree_of x)
  leaf_in x ats k is = in_same is is (record { operands = changed_same (attributed_operands ats (leaf k)) (attributed_operands ats (leaf k)) ended; around = record { same = λ k. refl } })

  pub verbatim_in : (x : Expr) (ts : List Tok) → tree_of x ≡ leaf (verbatim ts) → ChangedIn call (tree_of x) (Ok tt) (tree_of x)
  verbatim_in x ts is = in_same is is (record { operands = ended; around = record { same = λ k. refl } })

  pub bare_in : (x : Pat) {v : PatView} → pat_of x ≡ v → v.guards ≡ [] → ChangedGuards call (pat_of x) (Ok tt) (pat_of x)
  bare_in x is none = guards_same is is (record { guards = changed_same none none ended; tree = refl })

-- ---- a function was passed to what goes through something: so it is known what that passes on

module _ {C R : Type 0} {c : C} (of : C → MutBor Expr → Result (Unit {0}) R → MutBor Expr → Type 0) where
  module _ {post : MutBor Pat → Bor C → Result (Unit {0}) R → MutBor Pat → Type 0}
      (says : (old : MutBor Pat) (with : Bor C) (r : Result (Unit {0}) R) (new : MutBor Pat) → post old with r new → ChangedGuards (Change tree_of (of with.now)) (pat_of old.now) r (pat_of new.now)) where
    pub pat_changed : (x : Pat) (r : Result (Unit {0}) R) (y : Pat) → ChangeWith (λ z. z) post c x r y → ChangedGuards (Change tree_of (of c)) (pat_of x) r (pat_of y)
    pat_changed = change_known_with (λ d x r y. ChangedGuards (Change tree_of (of d)) (pat_of x) r (pat_of y)) says

    pub passes_guards : PassesGuards pat_of (Change tree_of (of c)) post c
    passes_guards = λ old new with r is met. subst (λ d. ChangedGuards (Change tree_of (of d)) (pat_of old.now) r (pat_of new.now)) is (says old with r new met)

  pub node_changed : {post : MutBor Expr → Bor C → Result (Unit {0}) R → MutBor Expr → Type 0}
      → ((old : MutBor Expr) (with : Bor C) (r : Result (Unit {0}) R) (new : MutBor Expr) → post old with r new → Rewritten (Change tree_of (of with.now)) (tree_of old.now ∷ []) r (tree_of new.now ∷ []))
      → (x : Tree) (r : Result (Unit {0}) R) (y : Tree) → ChangeWith tree_of post c x r y → Rewritten (Change tree_of (of c)) (x ∷ []) r (y ∷ [])
  node_changed says = change_known_with (λ d x r y. Rewritten (Change tree_of (of d)) (x ∷ []) r (y ∷ [])) says

pub guards_by : {C R : Type 0} {call : Tree → Result (Unit {0}) R → Tree → Type 0} {post : MutBor Pat → Bor C → Result (Unit {0}) R → MutBor Pat → Type 0} {c : C} {x y : Pat} {r : Result (Unit {0}) R}
    → PassesGuards pat_of call post c → ChangeWith (λ z. z) post c x r y → ChangedGuards call (pat_of x) r (pat_of y)
guards_by {call = call} {y = y} {r = r} passes d =
    subst (λ a. ChangedGuards call (pat_of a) r (pat_of y)) d.shows (subst (λ b. ChangedGuards call (pat_of d.old.now) r (pat_of b)) d.leaves (passes d.old d.new d.with r d.passes d.met))

-- ---- what holds both

module _ {R : Type 0} {call : Tree → Result (Unit {0}) R → Tree → Type 0} {a r : Result (Unit {0}) R} where
  pub guard_changed : (x : PatGuard) (p : Box Pat Global) (b : Box Expr Global) → ChangedGuards call (pat_of (out-PatGuard x).pat.value) a (pat_of p.value)
      → Changed call ((pat_of (out-PatGuard x).pat.value).guards ++ tree_of (out-PatGuard x).guard.value ∷ []) r ((pat_of p.value).guards ++ tree_of b.value ∷ [])
      → ChangedGuards call (guard_of x) r (guard_of (roll-PatGuard (record (out-PatGuard x) { pat = p; guard = b })))
  guard_changed x p b pat c =
      guards_same (guard-is x) (guard-is _ ∙ ap (guard_layer views) (out-roll-PatGuard (record (out-PatGuard x) { pat = p; guard = b }))) (both.guard_changed tree_of pat_of (guard_parts (out-PatGuard x)) p b pat c)

  pub arm_changed : (x : Arm) (p : Pat) (b : Box Expr Global) → ChangedGuards call (pat_of (out-Arm x).pat) a (pat_of p)
      → Changed call ((pat_of (out-Arm x).pat).guards ++ tree_of (out-Arm x).body.value ∷ []) r ((pat_of p).guards ++ tree_of b.value ∷ [])
      → ChangedArm call (arm_of x) r (arm_of (roll-Arm (record (out-Arm x) { pat = p; body = b })))
  arm_changed x p b pat c =
      subst (λ z. ChangedArm call z r (arm_of (roll-Arm (record (out-Arm x) { pat = p; body = b })))) (sym (arm-is x))
      (subst (λ z. ChangedArm call (arm_layer views (out-Arm x)) r z) (sym (arm-is _ ∙ ap (arm_layer views) (out-roll-Arm (record (out-Arm x) { pat = p; body = b }))))
      (both.arm_changed tree_of pat_of (arm_parts (out-Arm x)) p b pat c))

  pub closure_changed : (x : ExprClosure) (ps : Punctuated Pat _) (b : Box Expr Global) → Changed (ChangedGuards call) (map pat_of (values (out-ExprClosure x).inputs)) a (map pat_of (values ps)) → trails ps ≡ trails (out-ExprClosure x).inputs
      → Changed call (guards (map pat_of (values (out-ExprClosure x).inputs)) ++ tree_of (out-ExprClosure x).body.value ∷ []) r (guards (map pat_of (values ps)) ++ tree_of b.value ∷ [])
      → ChangedIn call (closure_of x) r (closure_of (roll-ExprClosure (record (out-ExprClosure x) { inputs = ps; body = b })))
  closure_changed x ps b pats same c =
      in_same (closure-is x) (closure-is _ ∙ ap (closure_layer views) (out-roll-ExprClosure (record (out-ExprClosure x) { inputs = ps; body = b })))
      (both.closure_changed tree_of pat_of (closure_parts (out-ExprClosure x)) ps b pats same c)

  pub for_loop_changed : (x : ExprForLoop) (p : Box Pat Global) (b : Box Expr Global) → ChangedGuards call (pat_of (out-ExprForLoop x).pat.value) a (pat_of p.value)
      → Changed call ((pat_of (out-ExprForLoop x).pat.value).guards ++ tree_of (out-ExprForLoop x).expr.value ∷ []) r ((pat_of p.value).guards ++ tree_of b.value ∷ [])
      → ChangedIn call (for_loop_of x) r (for_loop_of (roll-ExprForLoop (record (out-ExprForLoop x) { pat = p; expr = b })))
  for_loop_changed x p b pat c =
      in_same (for_loop-is x) (for_loop-is _ ∙ ap (for_loop_layer views) (out-roll-ExprForLoop (record (out-ExprForLoop x) { pat = p; expr = b })))
      (both.for_loop_changed tree_of pat_of (for_loop_parts (out-ExprForLoop x)) p b pat c)

  pub let_changed : (x : ExprLet) (p : Box Pat Global) (b : Box Expr Global) → ChangedGuards call (pat_of (out-ExprLet x).pat.value) a (pat_of p.value)
      → Changed call ((pat_of (out-ExprLet x).pat.value).guards ++ tree_of (out-ExprLet x).expr.value ∷ []) r ((pat_of p.value).guards ++ tree_of b.value ∷ [])
      → ChangedIn call (let_of x) r (let_of (roll-ExprLet (record (out-ExprLet x) { pat = p; expr = b })))
  let_changed x p b pat c =
      in_same (let_expr-is x) (let_expr-is _ ∙ ap (let_layer views) (out-roll-ExprLet (record (out-ExprLet x) { pat = p; expr = b }))) (both.let_changed tree_of pat_of (let_parts (out-ExprLet x)) p b pat c)

-- ---- a `match` in place: what it looks at is changed first, then its arms

abbrev pub looking : ExprMatch → Box Expr Global → ExprMatch
looking x b = roll-ExprMatch (record (out-ExprMatch x) { expr = b })

pub arms_same : (x : ExprMatch) (b : Box Expr Global) → (out-ExprMatch (looking x b)).arms.items ≡ (out-ExprMatch x).arms.items
arms_same x b = ap (λ m. m.arms.items) (out-roll-ExprMatch (record (out-ExprMatch x) { expr = b }))

module _ {R : Type 0} {call : Tree → Result (Unit {0}) R → Tree → Type 0} {r : Result (Unit {0}) R} where
  pub match_changed : (x : ExprMatch) (b : Box Expr Global) (more : Vec Arm Global) → ((k : Tree) → map (map_arm (λ _. k)) (map arm_of more.items) ≡ map (map_arm (λ _. k)) (map arm_of (out-ExprMatch x).arms.items))
      → Changed call (tree_of (out-ExprMatch x).expr.value ∷ flat_map arm_operands (map arm_of (out-ExprMatch x).arms.items)) r (tree_of b.value ∷ flat_map arm_operands (map arm_of more.items))
      → ChangedIn call (match_of x) r (match_of (roll-ExprMatch (record (out-ExprMatch x) { expr = b; arms = more })))
  match_changed x b more same c =
      in_same (match_expr-is x) (match_expr-is _ ∙ ap (match_layer views) (out-roll-ExprMatch (record (out-ExprMatch x) { expr = b; arms = more })))
      (both.match_changed tree_of arm_of (match_parts (out-ExprMatch x)) b more same c)

  pub arms_changed : (x : ExprMatch) (b : Box Expr Global) (more : Vec Arm Global) → call (tree_of (out-ExprMatch x).expr.value) (Ok tt) (tree_of b.value)
      → Changed (λ p s q. ChangedArm call (arm_of p) s (arm_of q)) (out-ExprMatch (looking x b)).arms.items r more.items
      → ChangedIn call (match_of x) r (match_of (roll-ExprMatch (record (out-ExprMatch (looking x b)) { arms = more })))
  arms_changed x b more expr all =
      subst (λ m. Changed (λ p s q. ChangedArm call (arm_of p) s (arm_of q)) m.arms.items r more.items → ChangedIn call (match_of x) r (match_of (roll-ExprMatch (record m { arms = more }))))
      (sym (out-roll-ExprMatch (record (out-ExprMatch x) { expr = b })))
      (λ found.
      let each : Changed (ChangedArm call) (map arm_of (out-ExprMatch x).arms.items) r (map arm_of more.items) = changed_map arm_of (λ p s q h. h) found in
      match_changed x b more (λ k. changed_alike (map_arm (λ _. k)) (λ p s q h. h.around k) each) (went expr (changed_flat arm_operands (λ p s q h. h.operands) each)))
      all
