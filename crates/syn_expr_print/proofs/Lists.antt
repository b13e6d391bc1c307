-- Lists of operands with commas, by the pairs that they hold.
use Rattle.std.specs.Prelude.{not, ◌&&◌, Option, Some, None, is_some, map}
use Rattle.std.proofs.Common.{◌≡◌, true, false, List, [], ◌∷◌, ◌++◌, refl, ap}
use Rattle.std.specs.declared.boxed.Box.{Box}
use Rattle.std.specs.declared.alloc.Global.{Global}
use Rattle.syn_lower_leaves.specs.View.{values, trails, last_of, is_some_pair}
use Rattle.syn_lower_leaves.specs.declared.punctuated.Punctuated.{Punctuated}
use Rattle.syn_expr_spec.specs.Tree as e
use Rattle.syn_expr_spec.specs.Tree.{Tree, Children, none, child}
use Rattle.syn_expr_ast.specs.View.{elements}

-- the last element, after which no comma stands
abbrev pub last_child : {E : Type 0} → (E → Tree) → Option (Box E Global) → Children
last_child f None = none
last_child f (Some x) = child e.element e.no_ending (f x.value) none

-- elements with the commas after them, before others
abbrev pub pair_children : {E P : Type 0} → (E → Tree) → List (E × P) → Children → Children
pair_children f [] ks = ks
pair_children f (q ∷ more) ks = child e.element e.comma (f q.0) (pair_children f more ks)

lists-last : {E P : Type 0} (f : E → Tree) (ps : List (E × P)) (x : E) → elements (map f (map (λ q. q.0) ps ++ x ∷ [])) false ≡ pair_children f ps (child e.element e.no_ending (f x) none)
lists-last f [] x = refl
lists-last f (q ∷ []) x = refl
lists-last f (q ∷ (r ∷ more)) x = ap (λ ks. child e.element e.comma (f q.0) ks) (lists-last f (r ∷ more) x)

lists-trailing : {E P : Type 0} (f : E → Tree) (ps : List (E × P)) → elements (map f (map (λ q. q.0) ps ++ [])) true ≡ pair_children f ps none
lists-trailing f [] = refl
lists-trailing f (q ∷ []) = refl
lists-trailing f (q ∷ (r ∷ more)) = ap (λ ks. child e.element e.comma (f q.0) ks) (lists-trailing f (r ∷ more))

lists-by : {E P : Type 0} (f : E → Tree) (ps : List (E × P)) (o : Option (Box E Global))
    → elements (map f (map (λ q. q.0) ps ++ last_of o)) (is_some_pair ps && not (is_some o)) ≡ pair_children f ps (last_child f o)
lists-by f [] None = refl
lists-by f [] (Some x) = refl
lists-by f (q ∷ ps) None = lists-trailing f (q ∷ ps)
lists-by f (q ∷ ps) (Some x) = lists-last f (q ∷ ps) x.value

pub lists-elements : {E P : Type 0} (f : E → Tree) (p : Punctuated E P) → elements (map f (values p)) (trails p) ≡ pair_children f p.inner.items (last_child f p.last)
unfolding values trails
lists-elements f p = lists-by f p.inner.items p.last
