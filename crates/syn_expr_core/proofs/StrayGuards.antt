-- Guards in patterns where none may stand, by the kind of the expression.
use Rattle.std.proofs.Common.{◌≡◌, ℕ, ◌≤◌, Bool, List, [], ◌∷◌, ◌++◌, ◌==◌, drop, length, map, flat_map, Option, None, Some, true, false, refl, sym, ap, ◌∙◌, append_assoc, rules}
use denote.Ref.{Bor}
use Rattle.std.proofs.lemmas.List.{append-nil, drop_all, map-append}
use Rattle.std.proofs.lemmas.Grind.{flat_map-append}
use Rattle.std.proofs.lemmas.List.Folds.{flat_map-map}
use Rattle.std.specs.declared.alloc.Global.{Global}
use Rattle.std.specs.declared.boxed.Box.{Box}
use Rattle.syn_lower_spec.specs.Pat.{PatTree, guarded}
use Rattle.syn_lower_spec.specs.Tree.{AttributeTree, ReturnTree, default, given}
use Rattle.syn_lower_leaves.specs.View.{attribute_of, last_of}
use Rattle.syn_lower_leaves.specs.declared.attr.Attribute.{Attribute}
use Rattle.syn_lower_leaves.specs.declared.punctuated.Punctuated.{Punctuated}
use Rattle.syn_expr_spec.specs.Tree as e
use Rattle.syn_expr_spec.specs.Tree.{Tree, Children, ClosureHead, Jump, none, child, attributed_with}
use Rattle.syn_expr_spec.specs.declared.kinds.Limits.{Limits}
use Rattle.syn_expr_ast.specs.Both.{closure_head_of}
use Rattle.syn_expr_ast.specs.Pats.{ArmView, strays, guard_children, arm_children, arms, closure_by}
use Rattle.syn_expr_ast.specs.View.{FieldView, attrs_of, body_of, inner_of, mapped, outer_of, elements, fields, option_child, else_of, range_between, jump_with}
use Rattle.syn_expr_tokens.specs.View.{label_of}
use Rattle.syn_lower.specs.View.{return_of}
use Rattle.syn_pat.specs.View.{attributes_of, attributed_by, guards_in}
use Rattle.syn_expr_fixup.specs.Strays.{trees_in, strays_in, strays_at}
use Rattle.syn_expr_core.specs.Strays.{but_last_guard, strays_by, arm_strays, arms_strays, found_trees}
use Rattle.syn_expr_core.specs.View.{values, arm_of, closure_parts, for_loop_parts, guard_of, let_parts, match_parts, pat_layer, pat_of, tree_layer, tree_of, views}
use Rattle.syn_expr_core.specs.declared.closure.ExprClosure.{ExprClosure, out-ExprClosure}
use Rattle.syn_expr_core.specs.declared.control.ExprForLoop.{ExprForLoop, out-ExprForLoop}
use Rattle.syn_expr_core.specs.declared.control.ExprLet.{ExprLet, out-ExprLet}
use Rattle.syn_expr_core.specs.declared.control.ExprMatch.{ExprMatch, out-ExprMatch}
use Rattle.syn_expr_core.specs.declared.expr.Expr.{Expr, out-Expr, roll-Expr, roll-out-Expr}
use Rattle.syn_expr_core.specs.declared.expr.Expr.TheOpen.{Expr-F, Pat-F}
use Rattle.syn_expr_core.specs.declared.expr.Expr.TheVariants as ex
use Rattle.syn_expr_core.specs.declared.pat.Pat.{Pat, out-Pat, roll-Pat, roll-out-Pat}
use Rattle.syn_expr_core.specs.declared.pat.Pat.TheVariants as pt
use Rattle.syn_expr_core.specs.declared.pat.PatGuard.{PatGuard, out-PatGuard}
use Rattle.syn_expr_core.proofs.Guards.{not_empty}
use Rattle.syn_expr_core.proofs.TreeOf.{closure-is, for_loop-is, let_expr-is, match_expr-is, guard-is, pat_out, tree_out, tree-Closure, tree-ForLoop, tree-Let, tree-Match}

-- ---- of lists with puncts: one without a punct is the last

guards_some : {A B P : Type 0} (f : A → List B) (p : Punctuated A P) (b : Box A Global) → p.last ≡ Some b → flat_map f (values p) ≡ flat_map (λ q. f q.0) p.inner.items ++ f b.value
unfolding values
guards_some f p b h =
    ap (λ o. flat_map f (map (λ q. q.0) p.inner.items ++ last_of o)) h
    ∙ flat_map-append f (map (λ q. q.0) p.inner.items) (b.value ∷ [])
    ∙ ap (λ l. l ++ (f b.value ++ [])) (flat_map-map f (λ q. q.0) p.inner.items)
    ∙ ap (λ l. flat_map (λ q. f q.0) p.inner.items ++ l) (append-nil (f b.value))

guards_none : {A B P : Type 0} (f : A → List B) (p : Punctuated A P) → p.last ≡ None → flat_map f (values p) ≡ flat_map (λ q. f q.0) p.inner.items
unfolding values
guards_none f p h =
    ap (λ o. flat_map f (map (λ q. q.0) p.inner.items ++ last_of o)) h
    ∙ ap (flat_map f) (append-nil (map (λ q. q.0) p.inner.items))
    ∙ flat_map-map f (λ q. q.0) p.inner.items

-- after a loop over the pairs
pub after_pairs : {A B P : Type 0} (f : A → List B) (qs : List (A × P)) (i : ℕ) (before now : List B) → length qs ≤ i
    → now ++ flat_map (λ q. f q.0) (drop i qs) ≡ before ++ flat_map (λ q. f q.0) qs → now ≡ before ++ flat_map (λ q. f q.0) qs
after_pairs f qs i before now end h = sym (append-nil now) ∙ ap (λ l. now ++ flat_map (λ q. f q.0) l) (sym (drop_all i qs end)) ∙ h

-- and after the value behind them
pub after_last : {A B P : Type 0} (f : A → List B) (p : Punctuated A P) (b : Box A Global) (x : A) (before now : List B) → p.last ≡ Some b → x ≡ b.value
    → now ≡ before ++ flat_map (λ q. f q.0) p.inner.items → now ++ f x ≡ before ++ flat_map f (values p)
after_last f p b x before now last value h =
    ap (λ l. l ++ f x) h
    ∙ append_assoc before (flat_map (λ q. f q.0) p.inner.items) (f x)
    ∙ ap (λ y. before ++ (flat_map (λ q. f q.0) p.inner.items ++ f y)) value
    ∙ ap (λ l. before ++ l) (sym (guards_some f p b last))

pub without_last : {A B P : Type 0} (f : A → List B) (p : Punctuated A P) (before now : List B) → p.last ≡ None
    → now ≡ before ++ flat_map (λ q. f q.0) p.inner.items → now ≡ before ++ flat_map f (values p)
without_last f p before now last h = h ∙ ap (λ l. before ++ l) (sym (guards_none f p last))

-- ---- of what was found

pub found-more : (xs : List (Bor Expr)) (x : Bor Expr) → found_trees (xs ++ x ∷ []) ≡ found_trees xs ++ tree_of x.now ∷ []
found-more xs x = map-append (λ y. tree_of y.now) xs (x ∷ [])

pub none_more : (found gs : List Tree) → gs ≡ [] → found ≡ found ++ gs
none_more found gs empty = sym (append-nil found) ∙ ap (λ l. found ++ l) (sym empty)

pub ruleset found = (found-more, none_more)

-- ---- of trees

behind_attributes : (ats : List AttributeTree) (t : Tree) → strays_at (attributed_with ats t) ≡ strays_at t
behind_attributes [] t = refl
behind_attributes (a ∷ more) t = refl

strays_first : (gs : List Tree) (ks : Children) → strays_in (strays gs ks) ≡ gs ++ strays_in ks
strays_first [] ks = refl
strays_first (g ∷ gs) ks = ap (λ l. g ∷ l) (strays_first gs ks)

strays_alone : (gs : List Tree) → trees_in (strays gs none) ≡ gs
strays_alone [] = refl
strays_alone (g ∷ gs) = ap (λ l. g ∷ l) (strays_alone gs)

elements_free : (ts : List Tree) (b : Bool) → strays_in (elements ts b) ≡ []
elements_free [] b = refl
elements_free (t ∷ ts) b = elements_free ts b

rest_free : (d : Bool) (o : Option Tree) → strays_in (option_child (e.rest d) o) ≡ []
rest_free d None = refl
rest_free d (Some t) = refl

fields_free : (xs : List FieldView) (b d : Bool) (o : Option Tree) → strays_in (fields xs b (option_child (e.rest d) o)) ≡ []
fields_free [] b d o = rest_free d o
fields_free (x ∷ xs) b d o = fields_free xs b d o

else_free : {E S : Type 0} (f : E → Tree) (o : Option (S × Box E Global)) → strays_in (else_of f o) ≡ []
else_free f None = refl
else_free f (Some q) = refl

range_free : (op : Limits) (x y : Option Tree) → strays_at (range_between op x y) ≡ []
range_free op None None = refl
range_free op None (Some y) = refl
range_free op (Some x) None = refl
range_free op (Some x) (Some y) = refl

jump_free : (j : Jump) (x : Option Tree) → strays_at (jump_with j x) ≡ []
jump_free j None = refl
jump_free j (Some x) = refl

closure_strays : (r : ReturnTree) (h : ClosureHead) (gs : List Tree) (t : Tree) → strays_at (closure_by r h gs t) ≡ gs
closure_strays default h gs t = strays_alone gs
closure_strays (given ty) h gs t = strays_first gs (child e.output_block e.no_ending t none) ∙ append-nil gs

-- ---- of arms

guard_strays : (ats : List AttributeTree) (p : PatTree) (g : Tree) (gs : List Tree) (ks : Children) → strays_in (guard_children (e.guard ats p) g gs ks) ≡ but_last_guard g gs ++ strays_in ks
guard_strays ats p g [] ks = refl
guard_strays ats p g (h ∷ gs) ks = ap (λ l. g ∷ l) (guard_strays ats p h gs ks)

arm_is : (x : ArmView) (p : PatTree) (gs : List Tree) (more : Children) → strays_in (arm_children x p gs more) ≡ strays_by p gs ++ strays_in more
arm_is x (guarded p) [] more = refl
arm_is x (guarded p) (g ∷ gs) more = guard_strays x.attrs p g gs _
arm_is x p gs more = strays_first gs _

arms_are : (xs : List ArmView) → strays_in (arms xs) ≡ arms_strays xs
arms_are [] = refl
arms_are (x ∷ xs) = arm_is x x.pat.tree x.pat.guards (arms xs) ∙ ap (λ l. arm_strays x ++ l) (arms_are xs)

-- ---- of a pattern with a guard, and of another one

others_first : (h : Tree) (gs : List Tree) (g : Tree) → but_last_guard h (gs ++ g ∷ []) ≡ h ∷ gs
others_first h [] g = refl
others_first h (x ∷ gs) g = ap (λ l. h ∷ l) (others_first x gs g)

own_last : (p : PatTree) (gs : List Tree) (g : Tree) → strays_by (guarded p) (gs ++ g ∷ []) ≡ gs
own_last p [] g = refl
own_last p (x ∷ gs) g = others_first x gs g

own_bare : (ats : List Attribute) (p : PatTree) (gs : List Tree) (g : Tree) → (length ats == 0) ≡ true → strays_by (attributed_by (map attribute_of ats) (guarded p)) (gs ++ g ∷ []) ≡ gs
own_bare [] p gs g h = own_last p gs g
own_bare (a ∷ ats) p gs g h = absurd (not_empty a ats h)

own_attributed : (ats : List Attribute) (p : PatTree) (gs : List Tree) → (length ats == 0) ≡ false → strays_by (attributed_by (map attribute_of ats) p) gs ≡ gs
own_attributed [] p gs h = absurd cc
own_attributed (a ∷ ats) p gs h = refl

pub bare-guard : (x : PatGuard) → (length (out-PatGuard x).attrs.items == 0) ≡ true → strays_by (guard_of x).tree (guard_of x).guards ≡ (pat_of (out-PatGuard x).pat.value).guards
bare-guard x h = ap (λ v. strays_by v.tree v.guards) (guard-is x) ∙ own_bare (out-PatGuard x).attrs.items _ _ _ h

pub attributed-guard : (x : PatGuard) → (length (out-PatGuard x).attrs.items == 0) ≡ false → strays_by (guard_of x).tree (guard_of x).guards ≡ (guard_of x).guards
attributed-guard x h = ap (λ v. strays_by v.tree v.guards) (guard-is x) ∙ own_attributed (out-PatGuard x).attrs.items _ _ h ∙ ap (λ v. v.guards) (sym (guard-is x))

-- the guards in the pattern of one with a guard, and then that guard
pub then_own : (x : PatGuard) (y : Pat) (g : Expr) (before now : List Tree) → y ≡ (out-PatGuard x).pat.value → g ≡ (out-PatGuard x).guard.value
    → now ≡ before ++ (pat_of y).guards → now ++ tree_of g ∷ [] ≡ before ++ (guard_of x).guards
then_own x y g before now inner own h =
    ap (λ l. l ++ tree_of g ∷ []) h
    ∙ append_assoc before (pat_of y).guards (tree_of g ∷ [])
    ∙ ap (λ q. before ++ ((pat_of q).guards ++ tree_of g ∷ [])) inner
    ∙ ap (λ e. before ++ ((pat_of (out-PatGuard x).pat.value).guards ++ tree_of e ∷ [])) own
    ∙ ap (λ v. before ++ v.guards) (sym (guard-is x))

behind_bare : (ats : List AttributeTree) (p : PatTree) (gs : List Tree) → strays_by p gs ≡ gs → strays_by (attributed_by ats p) gs ≡ gs
behind_bare [] p gs h = h
behind_bare (a ∷ more) p gs h = refl

other_kind : (x : Pat) → ((y : PatGuard) → x ≡ pt.Guard y → ⊥) → strays_by (pat_layer views (out-Pat x)).tree (pat_layer views (out-Pat x)).guards ≡ (pat_layer views (out-Pat x)).guards
other_kind x not_guard =
    elim (out-Pat x) as (λ l. roll-Pat l ≡ x → strays_by (pat_layer views l).tree (pat_layer views l).guards ≡ (pat_layer views l).guards) [
      | Pat-F.Pat::Const y ↦ λ r. behind_bare (attributes_of y.attrs) _ _ refl
      | Pat-F.Ident y ↦ λ r. behind_bare (attributes_of y.attrs) _ _ refl
      | Pat-F.Pat::Lit y ↦ λ r. behind_bare (attributes_of y.attrs) _ _ refl
      | Pat-F.Pat::Macro y ↦ λ r. behind_bare (attributes_of y.attrs) _ _ refl
      | Pat-F.Or y ↦ λ r. behind_bare (attributes_of y.attrs) _ _ refl
      | Pat-F.Pat::Paren y ↦ λ r. behind_bare (attributes_of y.attrs) _ _ refl
      | Pat-F.Pat::Path y ↦ λ r. behind_bare (attributes_of y.attrs) _ _ refl
      | Pat-F.Pat::Range y ↦ λ r. behind_bare (attributes_of y.attrs) _ _ refl
      | Pat-F.Pat::Reference y ↦ λ r. behind_bare (attributes_of y.attrs) _ _ refl
      | Pat-F.Rest y ↦ λ r. behind_bare (attributes_of y.attrs) _ _ refl
      | Pat-F.Slice y ↦ λ r. behind_bare (attributes_of y.attrs) _ _ refl
      | Pat-F.Pat::Struct y ↦ λ r. behind_bare (attributes_of y.attrs) _ _ refl
      | Pat-F.Pat::Tuple y ↦ λ r. behind_bare (attributes_of y.attrs) _ _ refl
      | Pat-F.TupleStruct y ↦ λ r. behind_bare (attributes_of y.attrs) _ _ refl
      | Pat-F.Typed y ↦ λ r. behind_bare (attributes_of y.attrs) _ _ refl
      | Pat-F.Wild y ↦ λ r. behind_bare (attributes_of y.attrs) _ _ refl
      | Pat-F.Guard y ↦ λ r. absurd (not_guard y (sym r ∙ pt.rolls-Guard y))
    ] (roll-out-Pat x)

pub no-guard-own : (x : Pat) → ((y : PatGuard) → x ≡ pt.Guard y → ⊥) → strays_by (pat_of x).tree (pat_of x).guards ≡ (pat_of x).guards
no-guard-own x not_guard = ap (λ v. strays_by v.tree v.guards) (pat_out x) ∙ other_kind x not_guard ∙ ap (λ v. v.guards) (sym (pat_out x))

-- ---- of each kind

pub closure-strays : (x : ExprClosure) → strays_at (tree_of (ex.Closure x)) ≡ guards_in pat_of (values (out-ExprClosure x).inputs)
closure-strays x =
    let p = closure_parts (out-ExprClosure x) in
    let gs = flat_map (λ v. v.guards) (map pat_of (values p.inputs)) in
    ap strays_at (tree-Closure x ∙ closure-is x)
    ∙ behind_attributes (attrs_of p.attrs) (closure_by (return_of p.output) (closure_head_of pat_of p) gs (tree_of p.body.value))
    ∙ closure_strays (return_of p.output) (closure_head_of pat_of p) gs (tree_of p.body.value)
    ∙ flat_map-map (λ v. v.guards) pat_of (values p.inputs)

pub for_loop-strays : (x : ExprForLoop) → strays_at (tree_of (ex.ForLoop x)) ≡ (pat_of (out-ExprForLoop x).pat.value).guards
for_loop-strays x =
    let p = for_loop_parts (out-ExprForLoop x) in
    let gs = (pat_of p.pat.value).guards in
    let ks = child e.loop_head (e.braced (body_of (inner_of p.attrs) p.body.stmts)) (tree_of p.expr.value) none in
    ap strays_at (tree-ForLoop x ∙ for_loop-is x)
    ∙ behind_attributes (outer_of p.attrs) (e.frame (e.for_loop (mapped label_of p.label) (pat_of p.pat.value).tree) (strays gs ks))
    ∙ strays_first gs ks
    ∙ append-nil gs

pub let-strays : (x : ExprLet) → strays_at (tree_of (ex.Let x)) ≡ (pat_of (out-ExprLet x).pat.value).guards
let-strays x =
    let p = let_parts (out-ExprLet x) in
    let gs = (pat_of p.pat.value).guards in
    ap strays_at (tree-Let x ∙ let_expr-is x)
    ∙ behind_attributes (attrs_of p.attrs) (e.prefixed (e.let_expr (pat_of p.pat.value).tree) (strays gs none) (tree_of p.expr.value))
    ∙ strays_alone gs

pub match-strays : (x : ExprMatch) → strays_at (tree_of (ex.Match x)) ≡ arms_strays (map arm_of (out-ExprMatch x).arms.items)
match-strays x =
    let p = match_parts (out-ExprMatch x) in
    let xs = map arm_of p.arms.items in
    ap strays_at (tree-Match x ∙ match_expr-is x)
    ∙ behind_attributes (outer_of p.attrs) (e.frame e.match_expr (child e.scrutinee (e.opened (inner_of p.attrs)) (tree_of p.expr.value) (arms xs)))
    ∙ arms_are xs

pub no-strays : (x : Expr)
    → ((y : ExprClosure) → x ≡ ex.Closure y → ⊥)
    → ((y : ExprForLoop) → x ≡ ex.ForLoop y → ⊥)
    → ((y : ExprLet) → x ≡ ex.Let y → ⊥)
    → ((y : ExprMatch) → x ≡ ex.Match y → ⊥)
    → strays_at (tree_of x) ≡ []
no-strays x not_closure not_for_loop not_let not_match =
    ap strays_at (tree_out x) ∙ elim (out-Expr x) as (λ l. roll-Expr l ≡ x → strays_at (tree_layer views l) ≡ []) [
      | Expr-F.Closure y ↦ λ r. absurd (not_closure y (sym r ∙ ex.rolls-Closure y))
      | Expr-F.ForLoop y ↦ λ r. absurd (not_for_loop y (sym r ∙ ex.rolls-ForLoop y))
      | Expr-F.Let y ↦ λ r. absurd (not_let y (sym r ∙ ex.rolls-Let y))
      | Expr-F.Match y ↦ λ r. absurd (not_match y (sym r ∙ ex.rolls-Match y))
      | Expr-F.Array y ↦ λ r. search (rules, behind_attributes, elements_free)
      | Expr-F.Expr::Tuple y ↦ λ r. search (rules, behind_attributes, elements_free)
      | Expr-F.Call y ↦ λ r. search (rules, behind_attributes, elements_free)
      | Expr-F.MethodCall y ↦ λ r. search (rules, behind_attributes, elements_free)
      | Expr-F.Expr::Struct y ↦ λ r. search (rules, behind_attributes, fields_free)
      | Expr-F.If y ↦ λ r. search (rules, behind_attributes, else_free)
      | Expr-F.Expr::Range y ↦ λ r. search (rules, behind_attributes, range_free)
      | Expr-F.Break y ↦ λ r. search (rules, behind_attributes, jump_free)
      | Expr-F.Return y ↦ λ r. search (rules, behind_attributes, jump_free)
      | Expr-F.Yield y ↦ λ r. search (rules, behind_attributes, jump_free)
      | Expr-F.Verbatim y ↦ λ r. refl
      | _ ↦ λ r. search (rules, behind_attributes)
    ] (roll-out-Expr x)

pub ruleset guards = (bare-guard, attributed-guard, no-guard-own)

pub ruleset nodes = (closure-strays, for_loop-strays, let-strays, match-strays, no-strays)
