-- What is printed of a pattern by itself: of one with a guard its attributes, what comes before the guard, `if` and the guard;
-- of one of another kind its own tokens.
use Rattle.std.proofs.Common.{◌≡◌, List, [], ◌∷◌, ◌++◌, map, Some, None, refl, sym, ap, ◌∙◌, append_assoc}
use Rattle.std.proofs.lemmas.List.{append-nil}
use Rattle.std.specs.Prelude.{codes}
use Rattle.std.specs.declared.vec.Vec.{Vec}
use Rattle.std.specs.declared.alloc.Global.{Global}
use Rattle.syn_tokens.specs.Tok.{ident}
use Rattle.syn_lower_spec.specs.Tree.{AttributeTree}
use Rattle.syn_lower_spec.specs.Pat.{PatTree, guarded}
use Rattle.syn_lower_spec.specs.PatOwn.{pat_own}
use Rattle.syn_expr_spec.specs.Next.{enclosed}
use Rattle.syn_expr_spec.specs.Tree.{Tree}
use Rattle.syn_lower_leaves.specs.View.{attribute_of}
use Rattle.syn_lower_leaves.specs.declared.attr.Attribute.{Attribute}
use Rattle.syn_pat.specs.View.{PatView, attributes_of, attributed_by, pat_guard_of}
use Rattle.syn_pat.specs.Printed.{attributes_printed}
use Rattle.syn_pat.proofs.Prints.{guard_print}
use Rattle.syn_expr_fixup.specs.Below.{guard_by}
use Rattle.syn_expr_ast.specs.Printed.{whole}
use Rattle.syn_expr_print.specs.Placed.{guard_spelled}
use Rattle.syn_expr_core.specs.declared.pat.Pat.{Pat, out-Pat, roll-Pat, roll-out-Pat}
use Rattle.syn_expr_core.specs.declared.pat.Pat.TheVariants as pt
use Rattle.syn_expr_core.specs.declared.expr.Expr.TheOpen.{Pat-F}
use Rattle.syn_expr_core.specs.declared.pat.PatGuard.{PatGuard, out-PatGuard}
use Rattle.syn_expr_core.specs.Guarded.{guard_behind, pat_spelled}
use Rattle.syn_expr_core.specs.View.{pat_layer, tree_of, pat_of, guard_of, views}
use Rattle.syn_expr_core.proofs.Guards.{last_end}
use Rattle.syn_expr_core.proofs.TreeOf.{pat_out, pat-Guard, guard-is}

-- ---- a pattern with a guard

last_behind : (ats : List Attribute) (p : PatTree) (gs : List Tree) (g : Tree) → guard_behind (attributed_by (map attribute_of ats) (guarded p)) (gs ++ g ∷ []) ≡ Some g
last_behind [] p [] g = refl
last_behind [] p (x ∷ gs) g = ap Some (last_end x gs g)
last_behind (a ∷ ats) p [] g = refl
last_behind (a ∷ ats) p (x ∷ gs) g = ap Some (last_end x gs g)

with_guard : (attrs : Vec Attribute Global) (p : PatView) (g : Tree) → pat_spelled (pat_guard_of attrs p g) ≡ attributes_printed attrs ++ (pat_own p.tree [] ++ ident (codes "if") ∷ whole enclosed g)
unfolding pat_spelled
with_guard attrs p g =
    ap (λ ts. ts ++ guard_spelled (guard_behind (pat_guard_of attrs p g).tree (pat_guard_of attrs p g).guards)) (guard_print attrs p g)
    ∙ ap (λ o. (attributes_printed attrs ++ pat_own p.tree []) ++ guard_spelled o) (last_behind attrs.items p.tree p.guards g)
    ∙ append_assoc (attributes_printed attrs) (pat_own p.tree []) (ident (codes "if") ∷ whole enclosed g)

pub spelled-guarded : (x : PatGuard) → pat_spelled (guard_of x) ≡ attributes_printed (out-PatGuard x).attrs ++ (pat_own (pat_of (out-PatGuard x).pat.value).tree [] ++ ident (codes "if") ∷ whole enclosed (tree_of (out-PatGuard x).guard.value))
spelled-guarded x = ap pat_spelled (guard-is x) ∙ with_guard (out-PatGuard x).attrs (pat_of (out-PatGuard x).pat.value) (tree_of (out-PatGuard x).guard.value)

-- ---- a pattern of another kind

abbrev IsUnguarded : PatTree → List Tree → Type 0
IsUnguarded p gs = guard_behind p gs ≡ None

none_behind : (ats : List AttributeTree) (p : PatTree) (gs : List Tree) → (guard_by p gs ≡ None) × IsUnguarded p gs → IsUnguarded (attributed_by ats p) gs
none_behind [] p gs h = h.1
none_behind (a ∷ more) p gs h = h.0

other_behind : (x : Pat) → ((y : PatGuard) → x ≡ pt.Guard y → ⊥) → IsUnguarded (pat_layer views (out-Pat x)).tree (pat_layer views (out-Pat x)).guards
other_behind x not_guard =
    elim (out-Pat x) as (λ l. roll-Pat l ≡ x → IsUnguarded (pat_layer views l).tree (pat_layer views l).guards) [
      | Pat-F.Pat::Const y ↦ λ r. none_behind (attributes_of y.attrs) _ _ (refl, refl)
      | Pat-F.Ident y ↦ λ r. none_behind (attributes_of y.attrs) _ _ (refl, refl)
      | Pat-F.Pat::Lit y ↦ λ r. none_behind (attributes_of y.attrs) _ _ (refl, refl)
      | Pat-F.Pat::Macro y ↦ λ r. none_behind (attributes_of y.attrs) _ _ (refl, refl)
      | Pat-F.Or y ↦ λ r. none_behind (attributes_of y.attrs) _ _ (refl, refl)
      | Pat-F.Pat::Paren y ↦ λ r. none_behind (attributes_of y.attrs) _ _ (refl, refl)
      | Pat-F.Pat::Path y ↦ λ r. none_behind (attributes_of y.attrs) _ _ (refl, refl)
      | Pat-F.Pat::Range y ↦ λ r. none_behind (attributes_of y.attrs) _ _ (refl, refl)
      | Pat-F.Pat::Reference y ↦ λ r. none_behind (attributes_of y.attrs) _ _ (refl, refl)
      | Pat-F.Rest y ↦ λ r. none_behind (attributes_of y.attrs) _ _ (refl, refl)
      | Pat-F.Slice y ↦ λ r. none_behind (attributes_of y.attrs) _ _ (refl, refl)
      | Pat-F.Pat::Struct y ↦ λ r. none_behind (attributes_of y.attrs) _ _ (refl, refl)
      | Pat-F.Pat::Tuple y ↦ λ r. none_behind (attributes_of y.attrs) _ _ (refl, refl)
      | Pat-F.TupleStruct y ↦ λ r. none_behind (attributes_of y.attrs) _ _ (refl, refl)
      | Pat-F.Typed y ↦ λ r. none_behind (attributes_of y.attrs) _ _ (refl, refl)
      | Pat-F.Wild y ↦ λ r. none_behind (attributes_of y.attrs) _ _ (refl, refl)
      | Pat-F.Guard y ↦ λ r. absurd (not_guard y (sym r ∙ pt.rolls-Guard y))
    ] (roll-out-Pat x)

pub spelled-other : (x : Pat) → ((y : PatGuard) → x ≡ pt.Guard y → ⊥) → pat_spelled (pat_of x) ≡ pat_own (pat_of x).tree []
unfolding pat_spelled
spelled-other x not_guard =
    ap (λ o. pat_own (pat_of x).tree [] ++ guard_spelled o) (ap (λ v. guard_behind v.tree v.guards) (pat_out x) ∙ other_behind x not_guard)
    ∙ append-nil (pat_own (pat_of x).tree [])

pub ruleset by_itself = (spelled-guarded, spelled-other, pat-Guard)
