-- The guard of an arm: that of its pattern as a whole, where no attributes come before it.
use Rattle.std.proofs.Common.{◌≡◌, true, false, ◌==◌, List, [], ◌∷◌, ◌++◌, length, map, Some, None, refl, sym, ap, ◌∙◌, arith}
use Rattle.std.proofs.lemmas.Bool.{eqb-true}
use Rattle.syn_lower_spec.specs.Tree.{AttributeTree}
use Rattle.syn_lower_spec.specs.Pat.{PatTree, guarded}
use Rattle.syn_expr_spec.specs.Tree.{Tree}
use Rattle.syn_lower_leaves.specs.View.{attribute_of}
use Rattle.syn_lower_leaves.specs.declared.attr.Attribute.{Attribute}
use Rattle.syn_pat.specs.View.{attributes_of, attributed_by}
use Rattle.syn_expr_print.specs.Framed.{guarded_by}
use Rattle.syn_expr_fixup.specs.Below.{last_guard, guard_by}
use Rattle.syn_expr_core.specs.declared.pat.Pat.{Pat, out-Pat, roll-Pat, roll-out-Pat}
use Rattle.syn_expr_core.specs.declared.pat.Pat.TheVariants as pt
use Rattle.syn_expr_core.specs.declared.expr.Expr.TheOpen.{Pat-F}
use Rattle.syn_expr_core.specs.declared.pat.PatGuard.{PatGuard, out-PatGuard}
use Rattle.syn_expr_core.specs.View.{pat_layer, tree_of, pat_of, guard_of, views}
use Rattle.syn_expr_core.proofs.TreeOf.{pat_out, pat-Guard, guard-is}

-- the guard of an arm whose pattern has this tree and these guards, and whether there is one: none
abbrev IsBare : PatTree → List Tree → Type 0
IsBare p gs = (guarded_by p gs ≡ false) × (guard_by p gs ≡ None)

bare_behind : (ats : List AttributeTree) (p : PatTree) (gs : List Tree) → IsBare p gs → IsBare (attributed_by ats p) gs
bare_behind [] p gs h = h
bare_behind (a ∷ more) p gs h = (refl, refl)

-- ---- a pattern with a guard

pub not_empty : (a : Attribute) (ats : List Attribute) → (length (a ∷ ats) == 0) ≡ true → ⊥
not_empty a ats h = let e : length (a ∷ ats) ≡ 0 = eqb-true (length (a ∷ ats)) 0 h in omega arith

pub last_end : (h : Tree) (gs : List Tree) (g : Tree) → last_guard h (gs ++ g ∷ []) ≡ g
last_end h [] g = refl
last_end h (x ∷ gs) g = last_end x gs g

if_first : (ats : List Attribute) (p : PatTree) (gs : List Tree) (g : Tree) → (length ats == 0) ≡ true → guarded_by (attributed_by (map attribute_of ats) (guarded p)) (gs ++ g ∷ []) ≡ true
if_first [] p [] g h = refl
if_first [] p (x ∷ gs) g h = refl
if_first (a ∷ ats) p gs g h = absurd (not_empty a ats h)

if_later : (ats : List Attribute) (p : PatTree) (gs : List Tree) → (length ats == 0) ≡ false → guarded_by (attributed_by (map attribute_of ats) p) gs ≡ false
if_later [] p gs h = absurd cc
if_later (a ∷ ats) p gs h = refl

guard_first : (ats : List Attribute) (p : PatTree) (gs : List Tree) (g : Tree) → (length ats == 0) ≡ true → guard_by (attributed_by (map attribute_of ats) (guarded p)) (gs ++ g ∷ []) ≡ Some g
guard_first [] p [] g h = refl
guard_first [] p (x ∷ gs) g h = ap Some (last_end x gs g)
guard_first (a ∷ ats) p gs g h = absurd (not_empty a ats h)

guard_later : (ats : List Attribute) (p : PatTree) (gs : List Tree) → (length ats == 0) ≡ false → guard_by (attributed_by (map attribute_of ats) p) gs ≡ None
guard_later [] p gs h = absurd cc
guard_later (a ∷ ats) p gs h = refl

pub first-if : (x : PatGuard) → (length (out-PatGuard x).attrs.items == 0) ≡ true → guarded_by (guard_of x).tree (guard_of x).guards ≡ true
first-if x h = ap (λ v. guarded_by v.tree v.guards) (guard-is x) ∙ if_first (out-PatGuard x).attrs.items _ _ _ h

pub later-if : (x : PatGuard) → (length (out-PatGuard x).attrs.items == 0) ≡ false → guarded_by (guard_of x).tree (guard_of x).guards ≡ false
later-if x h = ap (λ v. guarded_by v.tree v.guards) (guard-is x) ∙ if_later (out-PatGuard x).attrs.items _ _ h

pub first-guard : (x : PatGuard) → (length (out-PatGuard x).attrs.items == 0) ≡ true → guard_by (guard_of x).tree (guard_of x).guards ≡ Some (tree_of (out-PatGuard x).guard.value)
first-guard x h = ap (λ v. guard_by v.tree v.guards) (guard-is x) ∙ guard_first (out-PatGuard x).attrs.items _ _ _ h

pub later-guard : (x : PatGuard) → (length (out-PatGuard x).attrs.items == 0) ≡ false → guard_by (guard_of x).tree (guard_of x).guards ≡ None
later-guard x h = ap (λ v. guard_by v.tree v.guards) (guard-is x) ∙ guard_later (out-PatGuard x).attrs.items _ _ h

-- ---- a pattern of another kind

other_kind : (x : Pat) → ((y : PatGuard) → x ≡ pt.Guard y → ⊥) → IsBare (pat_layer views (out-Pat x)).tree (pat_layer views (out-Pat x)).guards
other_kind x not_guard =
    elim (out-Pat x) as (λ l. roll-Pat l ≡ x → IsBare (pat_layer views l).tree (pat_layer views l).guards) [
      | Pat-F.Pat::Const y ↦ λ r. bare_behind (attributes_of y.attrs) _ _ (refl, refl)
      | Pat-F.Ident y ↦ λ r. bare_behind (attributes_of y.attrs) _ _ (refl, refl)
      | Pat-F.Pat::Lit y ↦ λ r. bare_behind (attributes_of y.attrs) _ _ (refl, refl)
      | Pat-F.Pat::Macro y ↦ λ r. bare_behind (attributes_of y.attrs) _ _ (refl, refl)
      | Pat-F.Or y ↦ λ r. bare_behind (attributes_of y.attrs) _ _ (refl, refl)
      | Pat-F.Pat::Paren y ↦ λ r. bare_behind (attributes_of y.attrs) _ _ (refl, refl)
      | Pat-F.Pat::Path y ↦ λ r. bare_behind (attributes_of y.attrs) _ _ (refl, refl)
      | Pat-F.Pat::Range y ↦ λ r. bare_behind (attributes_of y.attrs) _ _ (refl, refl)
      | Pat-F.Pat::Reference y ↦ λ r. bare_behind (attributes_of y.attrs) _ _ (refl, refl)
      | Pat-F.Rest y ↦ λ r. bare_behind (attributes_of y.attrs) _ _ (refl, refl)
      | Pat-F.Slice y ↦ λ r. bare_behind (attributes_of y.attrs) _ _ (refl, refl)
      | Pat-F.Pat::Struct y ↦ λ r. bare_behind (attributes_of y.attrs) _ _ (refl, refl)
      | Pat-F.Pat::Tuple y ↦ λ r. bare_behind (attributes_of y.attrs) _ _ (refl, refl)
      | Pat-F.TupleStruct y ↦ λ r. bare_behind (attributes_of y.attrs) _ _ (refl, refl)
      | Pat-F.Typed y ↦ λ r. bare_behind (attributes_of y.attrs) _ _ (refl, refl)
      | Pat-F.Wild y ↦ λ r. bare_behind (attributes_of y.attrs) _ _ (refl, refl)
      | Pat-F.Guard y ↦ λ r. absurd (not_guard y (sym r ∙ pt.rolls-Guard y))
    ] (roll-out-Pat x)

pub no-if : (x : Pat) → ((y : PatGuard) → x ≡ pt.Guard y → ⊥) → guarded_by (pat_of x).tree (pat_of x).guards ≡ false
no-if x not_guard = ap (λ v. guarded_by v.tree v.guards) (pat_out x) ∙ (other_kind x not_guard).0

pub no-guard : (x : Pat) → ((y : PatGuard) → x ≡ pt.Guard y → ⊥) → guard_by (pat_of x).tree (pat_of x).guards ≡ None
no-guard x not_guard = ap (λ v. guard_by v.tree v.guards) (pat_out x) ∙ (other_kind x not_guard).1

pub ruleset guards = (first-if, later-if, first-guard, later-guard, no-if, no-guard, pat-Guard)
