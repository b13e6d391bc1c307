-- What was passed of the operands of a node, and of the guards in a pattern.
use Rattle.std.specs.Option.{option_to_list}
use Rattle.std.specs.Prelude.{IsErr, IsErrAnd}
use Rattle.std.proofs.Common.{◌≡◌, Bool, List, [], ◌∷◌, ◌++◌, map, flat_map, Option, Some, None, Result, Ok, Err, refl, sym, ap, ◌∙◌, subst}
use Rattle.std.proofs.lemmas.List.{append-nil}
use Rattle.std.specs.declared.boxed.Box.{Box}
use Rattle.std.specs.declared.alloc.Global.{Global}
use denote.Ref.{Bor, MutBor}
use Rattle.syn_lower_spec.specs.Tree.{AttributeTree}
use Rattle.syn_tokens.specs.Tok.{Tok}
use Rattle.syn_expr_spec.specs.Tree.{Tree, Leaf, leaf, verbatim, attributed_with}
use Rattle.syn_pat.specs.View.{PatView, field_guards, sub_guards}
use Rattle.syn_pat.specs.declared.pat.FieldPatKindOf.{FieldPatKindOf}
use Rattle.syn_pat.specs.declared.pat.FieldPatKindOf.TheVariants as field
use Rattle.syn_pat.specs.declared.pat.FieldPatOf.{FieldPatOf}
use Rattle.syn_expr_core.specs.View.{arm_of, closure_of, closure_parts, for_loop_of, for_loop_parts, guard_of, let_of, let_parts, match_of, match_parts, pat_of, tree_of}
use Rattle.syn_expr_core.specs.declared.expr.Expr.{Expr}
use Rattle.syn_expr_core.specs.declared.pat.Pat.{Pat}
use Rattle.syn_expr_core.specs.declared.pat.PatGuard.{PatGuard, out-PatGuard}
use Rattle.syn_expr_core.specs.declared.closure.ExprClosure.{ExprClosure, out-ExprClosure}
use Rattle.syn_expr_core.specs.declared.control.Arm.{Arm, out-Arm}
use Rattle.syn_expr_core.specs.declared.control.ExprForLoop.{ExprForLoop, out-ExprForLoop}
use Rattle.syn_expr_core.specs.declared.control.ExprLet.{ExprLet, out-ExprLet}
use Rattle.syn_expr_core.specs.declared.control.ExprMatch.{ExprMatch, out-ExprMatch}
use Rattle.syn_expr_core.proofs.TreeOf.{arm-is, closure-is, for_loop-is, guard-is, let_expr-is, match_expr-is}
use Rattle.syn_lower.specs.View.{values}
use Rattle.syn_visit_kinds.specs.Nodes.{all_nodes, nodes_below, operands_in}
use Rattle.syn_visit_kinds.specs.Parts.{arm_operands, else_operand, field_pattern}
use Rattle.syn_visit_kinds.specs.Tested.{Added, Tested, Told, ToldWith}
use Rattle.syn_visit_kinds.specs.Walk.{Walk, ended, Saw, SawWith, Shown}
use Rattle.syn_visit_kinds.proofs.OperandsOf.{attributed_operands, closure_expr_operands, for_loop_operands, let_operands, match_operands}
use Rattle.syn_visit_kinds.proofs.Levels.{below_nodes}
use Rattle.syn_visit_kinds.proofs.Tested.{told_known_with, tested_flat}
use Rattle.syn_visit_kinds.proofs.Walk.{first_stops, known_with, walk_both, walk_flat, walk_same, walk_shown}

-- ---- a list in two parts

module _ {A S R : Type 0} {call : A → S → Result (Unit {0}) R → S → Type 0} where
  pub parts_walk : {ts us vs : List A} {s m z : S} {r : Result (Unit {0}) R} → ts ≡ us ++ vs → Walk call us s (Ok tt) m → Walk call vs m r z → Walk call ts s r z
  parts_walk is w more = walk_same (sym is) (walk_both w more)

  pub parts_stop : {ts us : List A} (vs : List A) {s z : S} {e : R} (r : Result (Unit {0}) R) → ts ≡ us ++ vs → IsErr r × IsErrAnd r (λ f. f ≡ e) → Walk call us s (Err e) z → Walk call ts s r z
  parts_stop vs r is err w = walk_same (sym is) (first_stops vs r err w)

-- ---- what was matched

module _ {S R : Type 0} {call : Expr → S → Result (Unit {0}) R → S → Type 0} {s z : S} {r : Result (Unit {0}) R} where
  pub shown_as : (x : Expr) → call x s r z → Shown tree_of call (tree_of x) s r z
  shown_as x saw = record { one = x; shows = refl; saw = saw }

  pub at_arm : (x : Expr) {t : Tree} {xs : List Expr} → tree_of x ≡ t → Walk call xs s r z → operands_in t ≡ map tree_of xs → Walk (Shown tree_of call) (operands_in (tree_of x)) s r z
  at_arm x is w all = walk_same (sym (ap operands_in is ∙ all)) (walk_shown tree_of w)

module _ {S R : Type 0} {to : Tree → S → Result (Unit {0}) R → S → Type 0} {s z : S} {r : Result (Unit {0}) R} where
  pub at_member : (x : Expr) {t : Tree} → tree_of x ≡ t → Walk to (operands_in t) s r z → Walk to (operands_in (tree_of x)) s r z
  at_member x is w = walk_same (sym (ap operands_in is)) w

  pub at_case : (x : Pat) {v : PatView} → pat_of x ≡ v → Walk to v.guards s r z → Walk to (pat_of x).guards s r z
  at_case x is w = walk_same (sym (ap (λ (v : PatView). v.guards) is)) w

-- what holds no expression
module _ {S R : Type 0} {to : Tree → S → Result (Unit {0}) R → S → Type 0} {s : S} where
  pub at_leaf : (x : Expr) (ats : List AttributeTree) (k : Leaf) → tree_of x ≡ attributed_with ats (leaf k) → Walk to (operands_in (tree_of x)) s (Ok tt) s
  at_leaf x ats k is = walk_same (sym (ap operands_in is ∙ attributed_operands ats (leaf k))) ended

  pub at_verbatim : (x : Expr) (ts : List Tok) → tree_of x ≡ leaf (verbatim ts) → Walk to (operands_in (tree_of x)) s (Ok tt) s
  at_verbatim x ts is = walk_same (sym (ap operands_in is)) ended

-- ---- patterns in patterns

-- a function was passed to what goes through something: so it is known what that passes on
module _ {E C S R : Type 0} (list : E → List Tree) (of : C → Bor Expr → MutBor S → Result (Unit {0}) R → MutBor S → Type 0) {c : C} {post : Bor E → Bor C → MutBor S → Result (Unit {0}) R → MutBor S → Type 0}
    (says : (one : Bor E) (with : Bor C) (old : MutBor S) (r : Result (Unit {0}) R) (new : MutBor S) → post one with old r new → Walk (Shown tree_of (Saw (of with.now))) (list one.now) old.now r new.now) where
  passed_on : (x : E) (s : S) (r : Result (Unit {0}) R) (z : S) → SawWith post c x s r z → Walk (Shown tree_of (Saw (of c))) (list x) s r z
  passed_on x s r z call =
      known_with (λ y a b t. Walk (Shown tree_of (Saw (of c))) (list y) a b t)
      (λ one with old b new is met. subst (λ d. Walk (Shown tree_of (Saw (of d))) (list one.now) old.now b new.now) is (says one with old b new met)) x s r z call

-- the guards of a pattern
pub pattern_seen : {C S R : Type 0} {c : C} {post : Bor Pat → Bor C → MutBor S → Result (Unit {0}) R → MutBor S → Type 0} {x : Pat} {s z : S} {r : Result (Unit {0}) R}
    → SawWith post c x s r z → (of : C → Bor Expr → MutBor S → Result (Unit {0}) R → MutBor S → Type 0)
    → ((one : Bor Pat) (with : Bor C) (old : MutBor S) (b : Result (Unit {0}) R) (new : MutBor S) → post one with old b new → Walk (Shown tree_of (Saw (of with.now))) (pat_of one.now).guards old.now b new.now)
    → Walk (Shown tree_of (Saw (of c))) (pat_of x).guards s r z
pattern_seen call of says = passed_on (λ y. (pat_of y).guards) of says _ _ _ _ call

-- all nodes of an expression
pub nodes_seen : {C S R : Type 0} {c : C} {post : Bor Expr → Bor C → MutBor S → Result (Unit {0}) R → MutBor S → Type 0} {y : Tree} {s z : S} {r : Result (Unit {0}) R}
    → Shown tree_of (SawWith post c) y s r z → (of : C → Bor Expr → MutBor S → Result (Unit {0}) R → MutBor S → Type 0)
    → ((one : Bor Expr) (with : Bor C) (old : MutBor S) (b : Result (Unit {0}) R) (new : MutBor S) → post one with old b new → Walk (Shown tree_of (Saw (of with.now))) (all_nodes (tree_of one.now)) old.now b new.now)
    → Walk (Shown tree_of (Saw (of c))) (all_nodes y) s r z
nodes_seen {c = c} {s = s} {z = z} {r = r} shown of says = subst (λ u. Walk (Shown tree_of (Saw (of c))) (all_nodes u) s r z) shown.shows (passed_on (λ e. all_nodes (tree_of e)) of says shown.one s r z shown.saw)

-- each such call is passed the guards of its pattern
abbrev Guards : {S R : Type 0} → (Pat → S → Result (Unit {0}) R → S → Type 0) → (Tree → S → Result (Unit {0}) R → S → Type 0) → Type 0
Guards {S} {R} from to = (x : Pat) (a : S) (b : Result (Unit {0}) R) (t : S) → from x a b t → Walk to (pat_of x).guards a b t

module _ {S R : Type 0} {from : Pat → S → Result (Unit {0}) R → S → Type 0} {to : Tree → S → Result (Unit {0}) R → S → Type 0} {s z : S} {r : Result (Unit {0}) R} where
  pub many_walk : {xs : List Pat} → Walk from xs s r z → Guards from to → Walk to (flat_map (λ y. (pat_of y).guards) xs) s r z
  many_walk w each = walk_flat (λ (y : Pat). (pat_of y).guards) w each

  one_walk : {x : Pat} → Walk from (x ∷ []) s r z → Guards from to → Walk to (pat_of x).guards s r z
  one_walk {x = x} w each = walk_same (append-nil (pat_of x).guards) (many_walk w each)

  pub sub_walk : {A : Type 0} (o : Option (A × Box Pat Global)) → Walk from (else_operand o) s r z → Guards from to → Walk to (sub_guards pat_of o) s r z
  sub_walk None w each = many_walk w each
  sub_walk (Some q) w each = one_walk w each

  field_walk : (k : FieldPatKindOf Pat) → Walk from (field_pattern k) s r z → Guards from to → Walk to (field_guards pat_of k) s r z
  field_walk (field.Short x) w each = many_walk w each
  field_walk (field.Full x) w each = one_walk w each

module _ {S R : Type 0} {from : Pat → S → Result (Unit {0}) R → S → Type 0} {to : Tree → S → Result (Unit {0}) R → S → Type 0} {s z : S} {r : Result (Unit {0}) R} where
  pub fields_walk : {xs : List (FieldPatOf Pat)} → Walk (λ y. Walk from (field_pattern y.kind)) xs s r z → Guards from to → Walk to (flat_map (λ y. field_guards pat_of y.kind) xs) s r z
  fields_walk w each = walk_flat (λ (y : FieldPatOf Pat). field_guards pat_of y.kind) w (λ y a b t h. field_walk y.kind h each)

-- ---- the operands of what holds both

pub closure_are : (x : ExprClosure) → operands_in (closure_of x) ≡ flat_map (λ y. (pat_of y).guards) (values (out-ExprClosure x).inputs) ++ tree_of (out-ExprClosure x).body.value ∷ []
closure_are x = ap operands_in (closure-is x) ∙ (closure_expr_operands tree_of pat_of (closure_parts (out-ExprClosure x))).are

pub for_loop_are : (x : ExprForLoop) → operands_in (for_loop_of x) ≡ (pat_of (out-ExprForLoop x).pat.value).guards ++ tree_of (out-ExprForLoop x).expr.value ∷ []
for_loop_are x = ap operands_in (for_loop-is x) ∙ (for_loop_operands tree_of pat_of (for_loop_parts (out-ExprForLoop x))).are

pub let_are : (x : ExprLet) → operands_in (let_of x) ≡ (pat_of (out-ExprLet x).pat.value).guards ++ tree_of (out-ExprLet x).expr.value ∷ []
let_are x = ap operands_in (let_expr-is x) ∙ (let_operands tree_of pat_of (let_parts (out-ExprLet x))).are

pub match_are : (x : ExprMatch) → operands_in (match_of x) ≡ tree_of (out-ExprMatch x).expr.value ∷ flat_map (λ a. arm_operands (arm_of a)) (out-ExprMatch x).arms.items
match_are x = ap operands_in (match_expr-is x) ∙ (match_operands tree_of arm_of (match_parts (out-ExprMatch x))).are

pub arm_are : (x : Arm) → arm_operands (arm_of x) ≡ (pat_of (out-Arm x).pat).guards ++ tree_of (out-Arm x).body.value ∷ []
arm_are x = ap arm_operands (arm-is x)

pub guard_are : (x : PatGuard) → (guard_of x).guards ≡ (pat_of (out-PatGuard x).pat.value).guards ++ tree_of (out-PatGuard x).guard.value ∷ []
guard_are x = ap (λ (v : PatView). v.guards) (guard-is x)

-- ---- what a test answered, as it is handed on

pub told_by : {E : Type 0} (post : Bor E → Bool → Type 0) (one : Bor E) {a b : Bool} → b ≡ a → post one a → Told (λ y. y) post one.now b
told_by post one is met = record { one = one; shows = refl; met = subst (post one) (sym is) met }

-- all nodes below, where a test of all nodes is passed the operands
pub nodes_tested : {C : Type 0} {c : C} {post : Bor Expr → Bor C → Bool → Type 0} (of : C → Bor Expr → Bool → Type 0)
    → ((one : Bor Expr) (with : Bor C) (b : Bool) → post one with b → Tested (Told tree_of (of with.now)) (all_nodes (tree_of one.now)) b)
    → (t : Tree) {b : Bool} → Tested (ToldWith tree_of post c) (operands_in t) b → Tested (Told tree_of (of c)) (nodes_below t) b
nodes_tested {c = c} of says t {b = b} w =
    subst (λ l. Tested (Told tree_of (of c)) l b) (sym (below_nodes t)) (tested_flat all_nodes (told_known_with (λ d y a. Tested (Told tree_of (of d)) (all_nodes y) a) says) w)

-- ---- what was asked, and what it adds

module _ {K : Type 0} (post : Bor Expr → Option K → Type 0) (one : Bor Expr) {a : Option K} {before : List K} where
  pub added_one : {k : K} {after : List K} → post one a → a ≡ Some k → after ≡ before ++ k ∷ [] → Added post one.now before after
  added_one met is adds = record { answer = a; told = record { one = one; shows = refl; met = met }; adds = adds ∙ ap (λ o. before ++ option_to_list o) (sym is) }

  pub added_none : post one a → a ≡ None → Added post one.now before before
  added_none met is = record { answer = a; told = record { one = one; shows = refl; met = met }; adds = sym (ap (λ o. before ++ option_to_list o) is ∙ append-nil before) }
