-- What is told of a pattern by its kind.
use Rattle.std.proofs.Common.{◌≡◌, Bool, true, false, ◌&&◌, ◌==◌, List, [], ◌∷◌, ◌++◌, length, map, None, refl, sym, ap, ◌∙◌}
use Rattle.syn_lower_spec.specs.Form.{is_nil}
use Rattle.syn_lower_spec.specs.Tree.{AttributeTree}
use Rattle.syn_lower_spec.specs.Pat as t
use Rattle.syn_lower_spec.specs.Pat.{PatTree, guarded}
use Rattle.syn_lower_spec.specs.Fits.{type_fits}
use Rattle.syn_lower_spec.specs.PatFits.{attributes_outer, pat_fits, typed_fits, closure_arg_fits}
use Rattle.syn_expr_spec.specs.Tree.{Tree}
use Rattle.syn_lower.specs.View.{type_of}
use Rattle.syn_lower_leaves.specs.View.{attribute_of}
use Rattle.syn_lower_leaves.specs.declared.attr.Attribute.{Attribute}
use Rattle.syn_pat.specs.View as of
use Rattle.syn_pat.specs.View.{PatView, attributes_of, attributed_by}
use Rattle.syn_pat.specs.declared.pat.PatIdentOf.{PatIdentOf}
use Rattle.syn_pat.specs.declared.pat.PatRest.{PatRest}
use Rattle.syn_pat.specs.declared.pat.PatTypeOf.{PatTypeOf}
use Rattle.syn_expr_fixup.specs.Below.{guard_by}
use Rattle.syn_expr_core.specs.declared.pat.Pat.{Pat, out-Pat, roll-Pat, roll-out-Pat}
use Rattle.syn_expr_core.specs.declared.pat.Pat.TheVariants as pt
use Rattle.syn_expr_core.specs.declared.expr.Expr.TheOpen.{Pat-F}
use Rattle.syn_expr_core.specs.declared.pat.PatGuard.{PatGuard, out-PatGuard}
use Rattle.syn_expr_core.specs.View.{pat_layer, tree_of, pat_of, guard_of, views}
use Rattle.syn_expr_core.proofs.TreeOf.{pat_out, guard-is}
use Rattle.syn_expr_core.proofs.Guards.{no-guard, not_empty}
use Rattle.syn_expr_wellformed.specs.declared.patterns.PatSort.TheVariants as sort
use Rattle.syn_expr_wellformed.specs.Alone.{fits_alone, argument_fits, attributes_at, behind, fits_behind, argument_behind, sort_at}
use Rattle.syn_expr_wellformed.specs.Walk.{arm_pattern}
use Rattle.syn_expr_wellformed.proofs.Closures.{swap}

-- ---- attributes

pub attrs-shown : (ats : List AttributeTree) (p : PatTree) → attributes_at p ≡ [] → attributes_at (attributed_by ats p) ≡ ats
attrs-shown [] p h = h
attrs-shown (a ∷ more) p h = refl

-- ---- sorts

other_by : (ats : List AttributeTree) (p : PatTree) → sort_at p ≡ sort.Other → sort_at (attributed_by ats p) ≡ sort.Other
other_by [] p h = h
other_by (a ∷ more) p h = refl

other_kind : (x : Pat) → ((y : PatRest) → x ≡ pt.Rest y → ⊥) → ((y : PatIdentOf Pat) → x ≡ pt.Ident y → ⊥) → sort_at (pat_layer views (out-Pat x)).tree ≡ sort.Other
other_kind x not_rest not_ident =
    elim (out-Pat x) as (λ l. roll-Pat l ≡ x → sort_at (pat_layer views l).tree ≡ sort.Other) [
      | Pat-F.Pat::Const y ↦ λ r. other_by (attributes_of y.attrs) _ refl
      | Pat-F.Ident y ↦ λ r. absurd (not_ident y (sym r ∙ pt.rolls-Ident y))
      | Pat-F.Pat::Lit y ↦ λ r. other_by (attributes_of y.attrs) _ refl
      | Pat-F.Pat::Macro y ↦ λ r. other_by (attributes_of y.attrs) _ refl
      | Pat-F.Or y ↦ λ r. other_by (attributes_of y.attrs) _ refl
      | Pat-F.Pat::Paren y ↦ λ r. other_by (attributes_of y.attrs) _ refl
      | Pat-F.Pat::Path y ↦ λ r. other_by (attributes_of y.attrs) _ refl
      | Pat-F.Pat::Range y ↦ λ r. other_by (attributes_of y.attrs) _ refl
      | Pat-F.Pat::Reference y ↦ λ r. other_by (attributes_of y.attrs) _ refl
      | Pat-F.Rest y ↦ λ r. absurd (not_rest y (sym r ∙ pt.rolls-Rest y))
      | Pat-F.Slice y ↦ λ r. other_by (attributes_of y.attrs) _ refl
      | Pat-F.Pat::Struct y ↦ λ r. other_by (attributes_of y.attrs) _ refl
      | Pat-F.Pat::Tuple y ↦ λ r. other_by (attributes_of y.attrs) _ refl
      | Pat-F.TupleStruct y ↦ λ r. other_by (attributes_of y.attrs) _ refl
      | Pat-F.Typed y ↦ λ r. other_by (attributes_of y.attrs) _ refl
      | Pat-F.Wild y ↦ λ r. other_by (attributes_of y.attrs) _ refl
      | Pat-F.Guard y ↦ λ r. ap (λ v. sort_at v.tree) (guard-is y) ∙ other_by (attributes_of (out-PatGuard y).attrs) _ refl
    ] (roll-out-Pat x)

pub sort-other : (x : Pat) → ((y : PatRest) → x ≡ pt.Rest y → ⊥) → ((y : PatIdentOf Pat) → x ≡ pt.Ident y → ⊥) → sort_at (pat_of x).tree ≡ sort.Other
sort-other x not_rest not_ident = ap (λ v. sort_at v.tree) (pat_out x) ∙ other_kind x not_rest not_ident

pub ruleset shapes = (attrs-shown, sort-other)

-- ---- arguments of closures

typed_by : (ats : List AttributeTree) (p : PatTree) (gs : List Tree) → behind p ≡ p → typed_fits p ≡ pat_fits false p
    → (typed_fits (behind (attributed_by ats p)) && is_nil gs) ≡ (pat_fits false (behind (attributed_by ats p)) && is_nil gs)
typed_by [] p gs h i = ap (λ q. typed_fits q && is_nil gs) h ∙ (ap (λ b. b && is_nil gs) i ∙ ap (λ q. pat_fits false q && is_nil gs) (sym h))
typed_by (a ∷ more) p gs h i = ap (λ b. b && is_nil gs) i

untyped_kind : (x : Pat) → ((y : PatTypeOf Pat) → x ≡ pt.Typed y → ⊥) → argument_behind (pat_layer views (out-Pat x)) ≡ fits_behind false (pat_layer views (out-Pat x))
untyped_kind x not_typed =
    elim (out-Pat x) as (λ l. roll-Pat l ≡ x → argument_behind (pat_layer views l) ≡ fits_behind false (pat_layer views l)) [
      | Pat-F.Pat::Const y ↦ λ r. typed_by (attributes_of y.attrs) _ [] refl refl
      | Pat-F.Ident y ↦ λ r. typed_by (attributes_of y.attrs) _ _ refl refl
      | Pat-F.Pat::Lit y ↦ λ r. typed_by (attributes_of y.attrs) _ [] refl refl
      | Pat-F.Pat::Macro y ↦ λ r. typed_by (attributes_of y.attrs) _ [] refl refl
      | Pat-F.Or y ↦ λ r. typed_by (attributes_of y.attrs) _ _ refl refl
      | Pat-F.Pat::Paren y ↦ λ r. typed_by (attributes_of y.attrs) _ _ refl refl
      | Pat-F.Pat::Path y ↦ λ r. typed_by (attributes_of y.attrs) _ [] refl refl
      | Pat-F.Pat::Range y ↦ λ r. typed_by (attributes_of y.attrs) _ [] refl refl
      | Pat-F.Pat::Reference y ↦ λ r. typed_by (attributes_of y.attrs) _ _ refl refl
      | Pat-F.Rest y ↦ λ r. typed_by (attributes_of y.attrs) _ [] refl refl
      | Pat-F.Slice y ↦ λ r. typed_by (attributes_of y.attrs) _ _ refl refl
      | Pat-F.Pat::Struct y ↦ λ r. typed_by (attributes_of y.attrs) _ _ refl refl
      | Pat-F.Pat::Tuple y ↦ λ r. typed_by (attributes_of y.attrs) _ _ refl refl
      | Pat-F.TupleStruct y ↦ λ r. typed_by (attributes_of y.attrs) _ _ refl refl
      | Pat-F.Typed y ↦ λ r. absurd (not_typed y (sym r ∙ pt.rolls-Typed y))
      | Pat-F.Wild y ↦ λ r. typed_by (attributes_of y.attrs) _ [] refl refl
      | Pat-F.Guard y ↦ λ r. rw (guard-is y) (typed_by (attributes_of (out-PatGuard y).attrs) _ _ refl refl)
    ] (roll-out-Pat x)

pub argument-untyped : (x : Pat) → ((y : PatTypeOf Pat) → x ≡ pt.Typed y → ⊥) → argument_behind (pat_of x) ≡ fits_behind false (pat_of x)
argument-untyped x not_typed = ap argument_behind (pat_out x) ∙ (untyped_kind x not_typed ∙ ap (fits_behind false) (sym (pat_out x)))

typed_view : (ats : List AttributeTree) (p : PatTree) (x : _) (gs : List Tree) → (typed_fits (behind (attributed_by ats (t.typed p x))) && is_nil gs) ≡ ((pat_fits false p && is_nil gs) && type_fits true x)
typed_view [] p x gs = swap (pat_fits false p) (is_nil gs) (type_fits true x)
typed_view (a ∷ more) p x gs = swap (pat_fits false p) (is_nil gs) (type_fits true x)

pub argument-typed : (x : PatTypeOf Pat) → argument_behind (of.pat_type_of pat_of x) ≡ (fits_alone false (pat_of x.pat.value) && type_fits true (type_of x.ty.value))
argument-typed x = typed_view (attributes_of x.attrs) (pat_of x.pat.value).tree (type_of x.ty.value) (pat_of x.pat.value).guards

pub ruleset arguments = (argument-untyped, argument-typed)

argument_is : (p : PatTree) (gs : List Tree) → (closure_arg_fits p && is_nil gs) ≡ (attributes_outer (attributes_at p) && (typed_fits (behind p) && is_nil gs))
argument_is t.wild gs = refl
argument_is t.rest gs = refl
argument_is (t.range s c e) gs = refl
argument_is (t.a_lit x) gs = refl
argument_is (t.a_binding b m w s) gs = refl
argument_is (t.a_path q p) gs = refl
argument_is (t.a_mac m) gs = refl
argument_is (t.a_struct p fs e d) gs = refl
argument_is (t.tuple_struct p ps e) gs = refl
argument_is (t.a_tuple ps e) gs = refl
argument_is (t.a_paren p) gs = refl
argument_is (t.a_slice ps e) gs = refl
argument_is (t.a_reference m p) gs = refl
argument_is (t.a_block ts) gs = refl
argument_is (t.alternatives l ps e) gs = refl
argument_is (t.guarded p) gs = refl
argument_is (t.typed p x) gs = refl
argument_is (t.attributed a more p) gs = by (attributes_outer (a ∷ more))
  where
    by : (b : Bool) → ((b && typed_fits p) && is_nil gs) ≡ (b && (typed_fits p && is_nil gs))
    by true = refl
    by false = refl

pub argument-attributed : (v : PatView) → argument_fits v ≡ (attributes_outer (attributes_at v.tree) && argument_behind v)
argument-attributed v = argument_is v.tree v.guards

pub ruleset attributed = (argument-attributed)

-- ---- arms

arm_other : (p : PatTree) (gs : List Tree) → guard_by p gs ≡ None → arm_pattern p gs ≡ (pat_fits true p && is_nil gs)
arm_other (guarded p) [] h = refl
arm_other (guarded p) (g ∷ gs) h = absurd cc
arm_other t.wild gs h = refl
arm_other t.rest gs h = refl
arm_other (t.range s c e) gs h = refl
arm_other (t.a_lit x) gs h = refl
arm_other (t.a_binding b m w s) gs h = refl
arm_other (t.a_path q p) gs h = refl
arm_other (t.a_mac m) gs h = refl
arm_other (t.a_struct p fs e d) gs h = refl
arm_other (t.tuple_struct p ps e) gs h = refl
arm_other (t.a_tuple ps e) gs h = refl
arm_other (t.a_paren p) gs h = refl
arm_other (t.a_slice ps e) gs h = refl
arm_other (t.a_reference m p) gs h = refl
arm_other (t.a_block ts) gs h = refl
arm_other (t.alternatives l ps e) gs h = refl
arm_other (t.typed p x) gs h = refl
arm_other (t.attributed a more p) gs h = refl

pub arm-other : (x : Pat) → ((y : PatGuard) → x ≡ pt.Guard y → ⊥) → arm_pattern (pat_of x).tree (pat_of x).guards ≡ fits_alone true (pat_of x)
arm-other x not_guard = arm_other (pat_of x).tree (pat_of x).guards (no-guard x not_guard)

-- the guard of the arm is the last of those in its pattern
own_alone : (p : PatTree) (gs : List Tree) (g : Tree) → arm_pattern (guarded p) (gs ++ g ∷ []) ≡ (pat_fits true p && is_nil gs)
own_alone p [] g = refl
own_alone p (h ∷ gs) g = ap (λ b. pat_fits true p && b) (by gs)
  where
    by : (xs : List Tree) → is_nil (xs ++ g ∷ []) ≡ false
    by [] = refl
    by (x ∷ xs) = refl

arm_bare : (ats : List Attribute) (p : PatTree) (gs : List Tree) (g : Tree) → (length ats == 0) ≡ true → arm_pattern (attributed_by (map attribute_of ats) (guarded p)) (gs ++ g ∷ []) ≡ (pat_fits true p && is_nil gs)
arm_bare [] p gs g h = own_alone p gs g
arm_bare (a ∷ ats) p gs g h = absurd (not_empty a ats h)

arm_behind : (ats : List Attribute) (p : PatTree) (gs : List Tree) → (length ats == 0) ≡ false → arm_pattern (attributed_by (map attribute_of ats) p) gs ≡ false
arm_behind [] p gs h = absurd cc
arm_behind (a ∷ ats) p gs h = refl

pub arm-bare : (x : PatGuard) → (length (out-PatGuard x).attrs.items == 0) ≡ true → arm_pattern (guard_of x).tree (guard_of x).guards ≡ fits_alone true (pat_of (out-PatGuard x).pat.value)
arm-bare x h =
    let v = pat_of (out-PatGuard x).pat.value in
    ap (λ w. arm_pattern w.tree w.guards) (guard-is x) ∙ arm_bare (out-PatGuard x).attrs.items v.tree v.guards (tree_of (out-PatGuard x).guard.value) h

pub arm-behind : (x : PatGuard) → (length (out-PatGuard x).attrs.items == 0) ≡ false → arm_pattern (guard_of x).tree (guard_of x).guards ≡ false
arm-behind x h =
    let v = pat_of (out-PatGuard x).pat.value in
    ap (λ w. arm_pattern w.tree w.guards) (guard-is x) ∙ arm_behind (out-PatGuard x).attrs.items (guarded v.tree) (v.guards ++ tree_of (out-PatGuard x).guard.value ∷ []) h

pub ruleset guards = (arm-other, arm-bare, arm-behind)
