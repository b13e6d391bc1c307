-- Trees tell what they are made of: attributes before a node and in its braces, and operands in places of their own.
use Rattle.std.proofs.Common.{◌≡◌, ◌↔◌, Bool, true, false, not, ◌&&◌, List, [], ◌∷◌, ◌++◌, map, Option, Some, None, is_some, refl, sym, ◌∙◌, ap}
use Rattle.std.specs.Cmp.Lexicographic.{pointwise}
use Rattle.std.specs.Option.{option_eq}
use Rattle.std.specs.declared.vec.Vec.{Vec}
use Rattle.std.specs.declared.boxed.Box.{Box}
use Rattle.std.specs.declared.alloc.Global.{Global}
use Rattle.syn_lower_spec.specs.Tree.{AttributeTree}
use Rattle.syn_expr_spec.specs.Tree as e
use Rattle.syn_expr_spec.specs.Tree.{Tree, Children, Ending, attributed_with, attributed, from_inner, none, child, outers}
use Rattle.syn_lower_spec.specs.Equal.{IsEqualityOf}
use Rattle.syn_lower_leaves.specs.declared.attr.Attribute.{Attribute}
use Rattle.syn_lower_leaves.specs.contracts.attr.AttributePartialEq.TheImpl as attribute_test
use Rattle.syn_lower_leaves.proofs.Ties.{both_tie, on_tie, into_tie, list_tie, pair_path}
use Rattle.syn_lower_leaves.proofs.LeafTies.{attribute_tie}
use Rattle.syn_lower_leaves.specs.View.{values, trails, is_some_pair, last_of}
use Rattle.syn_lower_leaves.specs.declared.punctuated.Punctuated.{Punctuated}
use Rattle.syn_laws.proofs.ListTies.{punctuated_tie}
use Rattle.syn_expr_ast.specs.Attrs.{attrs_of, outer_of, inner_of}
use Rattle.syn_expr_ast.specs.View.{elements, boxed}
use Rattle.syn_expr_ast.proofs.Attributes.{parts_tell}

-- ---- attributes

abbrev pub Attrs : Type 0
Attrs = Vec Attribute Global

abbrev pub attrs_test : Attrs → Attrs → Bool
attrs_test x y = pointwise attribute_test.ghosts.eq x.items y.items

pub attrs_tie : IsEqualityOf attrs_of attrs_test
unfolding attrs_of
attrs_tie = on_tie {C = Attrs} (λ v. v.items) (list_tie attribute_tie)

-- no attributes come before it
abbrev pub is_core : Tree → Bool
is_core (attributed a more t) = false
is_core _ = true

attributed_with_once : (a b : List AttributeTree) (t u : Tree) → is_core t ≡ true → is_core u ≡ true → attributed_with a t ≡ attributed_with b u → (a ≡ b) × (t ≡ u)
attributed_with_once [] [] t u p q h = (refl, h)
attributed_with_once [] (b ∷ bs) t u p q h = absurd (let k : true ≡ false = sym p ∙ ap is_core h in cc)
attributed_with_once (a ∷ ms) [] t u p q h = absurd (let k : false ≡ true = ap is_core h ∙ q in cc)
attributed_with_once (a ∷ ms) (b ∷ bs) t u p q h = (cc, cc)

-- a node after its attributes
pub behind_tie : {A : Type 0} (attrs : A → Attrs) {core : A → Tree} {F : A → A → Bool} → ((x : A) → is_core (core x) ≡ true) → IsEqualityOf core F
    → IsEqualityOf (λ x. attributed_with (attrs_of (attrs x)) (core x)) (λ x y. attrs_test (attrs x) (attrs y) && F x y)
behind_tie {A} attrs {core} plain t =
    into_tie {f = λ x. (attrs_of (attrs x), core x)} (λ x. attributed_with (attrs_of (attrs x)) (core x)) (λ x y h i. attributed_with (h i).0 (h i).1)
    (λ x y h. let r = attributed_with_once (attrs_of (attrs x)) (attrs_of (attrs y)) (core x) (core y) (plain x) (plain y) h in pair_path r.0 r.1) (both_tie (on_tie attrs attrs_tie) t)

-- a node after its outer attributes, with the inner ones in its braces
pub around_tie : {A B : Type 0} (attrs : A → Attrs) {g : A → B} {F : A → A → Bool} (make : List AttributeTree → B → Tree) → ((a : List AttributeTree) (p : B) → is_core (make a p) ≡ true)
    → ((a b : List AttributeTree) (p q : B) → make a p ≡ make b q → (a ≡ b) × (p ≡ q)) → IsEqualityOf g F
    → IsEqualityOf (λ x. attributed_with (outer_of (attrs x)) (make (inner_of (attrs x)) (g x))) (λ x y. attrs_test (attrs x) (attrs y) && F x y)
unfolding attrs_of outer_of inner_of
around_tie {A} {B} attrs {g} make plain once t =
    into_tie {f = λ x. (attrs_of (attrs x), g x)} (λ x. attributed_with (outer_of (attrs x)) (make (inner_of (attrs x)) (g x))) (λ x y h i. attributed_with (outers (h i).0) (make (from_inner (h i).0) (h i).1))
    (λ x y h.
    let r = attributed_with_once (outer_of (attrs x)) (outer_of (attrs y)) (make (inner_of (attrs x)) (g x)) (make (inner_of (attrs y)) (g y)) (plain (inner_of (attrs x)) (g x)) (plain (inner_of (attrs y)) (g y)) h in
    let s = once (inner_of (attrs x)) (inner_of (attrs y)) (g x) (g y) r.1 in
    pair_path (parts_tell (attrs_of (attrs x)) (attrs_of (attrs y)) r.0 s.0) s.1)
    (both_tie (on_tie attrs attrs_tie) t)

-- ---- operands with commas

unfoldable pub is_comma : Ending → Bool
is_comma e.comma = true
is_comma _ = false

trees_in : Children → List Tree
trees_in none = []
trees_in (child k d t ks) = t ∷ trees_in ks

comma_in : Children → Bool
comma_in none = false
comma_in (child k d t none) = is_comma d
comma_in (child k d t (child a b c f)) = comma_in (child a b c f)

trees_elements : (xs : List Tree) (b : Bool) → trees_in (elements xs b) ≡ xs
unfolding trees_in
trees_elements [] b = refl
trees_elements (x ∷ xs) b = ap (λ l. x ∷ l) (trees_elements xs b)

comma_elements : (xs : List Tree) (b : Bool) → comma_in (elements xs b) ≡ (is_some_pair xs && b)
unfolding comma_in is_comma
comma_elements [] b = refl
comma_elements (x ∷ []) true = refl
comma_elements (x ∷ []) false = refl
comma_elements (x ∷ y ∷ ys) b = comma_elements (y ∷ ys) b

-- a comma ends no empty list
pub trailed : {A P B : Type 0} (f : A → B) (p : Punctuated A P) → trails p ≡ (is_some_pair (map f (values p)) && trails p)
unfolding values trails
trailed {A} {P} f p = by p.inner.items
  where
    by : (l : List (A × P)) → (is_some_pair l && not (is_some p.last)) ≡ (is_some_pair (map f (map (λ q. q.0) l ++ last_of p.last)) && (is_some_pair l && not (is_some p.last)))
    by [] = by_last (is_some_pair (map f (last_of p.last)))
      where
        by_last : (b : Bool) → false ≡ (b && false)
        by_last true = refl
        by_last false = refl
    by (q ∷ qs) = refl

abbrev pub PunctTest : {A P : Type 0} → (A → A → Bool) → Punctuated A P → Punctuated A P → Bool
PunctTest E x y = pointwise (λ a b. E a.0 b.0 && true) x.inner.items y.inner.items && option_eq (λ a b. E a.value b.value) x.last y.last

pub elements_tie : {A P : Type 0} {f : A → Tree} {E : A → A → Bool} → IsEqualityOf f E → IsEqualityOf {A = Punctuated A P} (λ p. elements (map f (values p)) (trails p)) (PunctTest E)
elements_tie {A} {P} {f} t =
    into_tie {f = λ (p : Punctuated A P). (map f (values p), trails p)} (λ p. elements (map f (values p)) (trails p)) (λ x y h i. elements (h i).0 (h i).1)
    (λ x y h.
    pair_path (sym (trees_elements (map f (values x)) (trails x)) ∙ (ap trees_in h ∙ trees_elements (map f (values y)) (trails y)))
    (trailed f x ∙ (sym (comma_elements (map f (values x)) (trails x)) ∙ (ap comma_in h ∙ (comma_elements (map f (values y)) (trails y) ∙ sym (trailed f y))))))
    (punctuated_tie t)

-- ---- an operand that may be missing

pub boxed_tie : {A T : Type 0} {f : A → T} {E : A → A → Bool} → IsEqualityOf f E → IsEqualityOf {A = Option (Box A Global)} (boxed f) (option_eq (λ a b. E a.value b.value))
boxed_tie {A} {T} {f} {E} t = record { same = go }
  where
    go : (x y : Option (Box A Global)) → (option_eq (λ (a b : Box A Global). E a.value b.value) x y ≡ true) ↔ (boxed f x ≡ boxed f y)
    go None None = (λ h. refl, λ h. refl)
    go None (Some y) = (λ h. absurd cc, λ h. absurd cc)
    go (Some x) None = (λ h. absurd cc, λ h. absurd cc)
    go (Some x) (Some y) = (λ h. let k = (t.same x.value y.value).0 h in cc, λ h. (t.same x.value y.value).1 cc)
