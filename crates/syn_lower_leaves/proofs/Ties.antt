-- The equality of what holds others, by the equality of these.
use Rattle.std.proofs.Common.{◌≡◌, ◌==◌, ◌↔◌, ◌⊎◌, ℕ, ◌≤◌, suc, zero, ◌+◌, Bool, true, false, ◌&&◌, List, [], ◌∷◌, map, Option, Some, None, is_some, refl, sym, ◌∙◌, ap, arith}
use Rattle.std.specs.Option.{option_eq}
use Rattle.std.specs.Cmp.{unsigned_Decides}
use mathlib.Core.HLevel.{Discrete}
use mathlib.Core.Logic.{inl, inr, ⊎_elim}
use denote.Hole.Compared.{Rel, Agree, within, compared, Local, settled}
use Rattle.std.specs.Cmp.Lexicographic.{pointwise}
use Rattle.std.proofs.lemmas.Slice.Eq.{bytes_eq-Decides}
use Rattle.syn_lower_spec.proofs.Same.{both_true}
use Rattle.syn_lower_spec.specs.Equal.{IsEqualityOf}
use Rattle.syn_lower_leaves.specs.View.{mapped}

both_of : (a b : Bool) → a ≡ true → b ≡ true → (a && b) ≡ true
both_of true b h k = k
both_of false b h k = absurd cc

pub both_tie : {A B C : Type 0} {f : A → B} {g : A → C} {E F : A → A → Bool} → IsEqualityOf f E → IsEqualityOf g F → IsEqualityOf {B = B × C} (λ x. (f x, g x)) (λ x y. E x y && F x y)
both_tie {A} {B} {C} {f} {g} {E} {F} t u = record {
  same = λ x y. (
    λ h. let p = (t.same x y).0 (both_true (E x y) (F x y) h).0 in let q = (u.same x y).0 (both_true (E x y) (F x y) h).1 in λ i. (p i, q i),
    λ e. both_of (E x y) (F x y) ((t.same x y).1 (ap (λ p. p.0) e)) ((u.same x y).1 (ap (λ p. p.1) e)),
  );
}

pub on_tie : {A B C : Type 0} (p : C → A) {f : A → B} {E : A → A → Bool} → IsEqualityOf f E → IsEqualityOf (λ x. f (p x)) (λ x y. E (p x) (p y))
on_tie p t = record { same = λ x y. t.same (p x) (p y) }

-- by another view, which tells as much
pub into_tie : {A B C : Type 0} {f : A → B} {E : A → A → Bool} (g : A → C) → ((x y : A) → f x ≡ f y → g x ≡ g y) → ((x y : A) → g x ≡ g y → f x ≡ f y) → IsEqualityOf f E → IsEqualityOf g E
into_tie g h k t = record { same = λ x y. (λ e. h x y ((t.same x y).0 e), λ e. (t.same x y).1 (k x y e)) }

-- by what is made of the view, one to one
pub made_tie : {A B C : Type 0} (c : B → C) → ((p q : B) → c p ≡ c q → p ≡ q) → {f : A → B} {E : A → A → Bool} → IsEqualityOf f E → IsEqualityOf (λ x. c (f x)) E
made_tie c k {f} t = record { same = λ x y. (λ e. ap c ((t.same x y).0 e), λ e. (t.same x y).1 (k (f x) (f y) e)) }

pub option_tie : {A B : Type 0} {f : A → B} {E : A → A → Bool} → IsEqualityOf f E → IsEqualityOf (mapped f) (option_eq E)
option_tie {A} {B} {f} {E} t = record { same = go }
  where
    go : (x y : Option A) → (option_eq E x y ≡ true) ↔ (mapped f x ≡ mapped f y)
    go None None = (λ h. refl, λ e. refl)
    go None (Some y) = (λ h. absurd cc, λ e. absurd cc)
    go (Some x) None = (λ h. absurd cc, λ e. absurd cc)
    go (Some x) (Some y) = (λ h. let e = (t.same x y).0 h in cc, λ e. (t.same x y).1 cc)

-- a token that may be missing
pub some_tie : {A : Type 0} → IsEqualityOf {A = Option A} is_some (option_eq (λ x y. true))
some_tie {A} = record { same = go }
  where
    go : (x y : Option A) → (option_eq (λ x y. true) x y ≡ true) ↔ (is_some x ≡ is_some y)
    go None None = (λ h. refl, λ e. refl)
    go None (Some y) = (λ h. absurd cc, λ e. absurd cc)
    go (Some x) None = (λ h. absurd cc, λ e. absurd cc)
    go (Some x) (Some y) = (λ h. refl, λ e. refl)

pub list_tie : {A B : Type 0} {f : A → B} {E : A → A → Bool} → IsEqualityOf f E → IsEqualityOf (map f) (pointwise E)
list_tie {A} {B} {f} {E} t = record { same = λ x y. (go x y, back x y) }
  where
    go : (x y : List A) → pointwise E x y ≡ true → map f x ≡ map f y
    go [] [] h = refl
    go [] (y ∷ ys) h = absurd cc
    go (x ∷ xs) [] h = absurd cc
    go (x ∷ xs) (y ∷ ys) h = let p = (t.same x y).0 (both_true (E x y) (pointwise E xs ys) h).0 in let q = go xs ys (both_true (E x y) (pointwise E xs ys) h).1 in cc

    back : (x y : List A) → map f x ≡ map f y → pointwise E x y ≡ true
    back [] [] e = refl
    back [] (y ∷ ys) e = absurd cc
    back (x ∷ xs) [] e = absurd cc
    back (x ∷ xs) (y ∷ ys) e = both_of (E x y) (pointwise E xs ys) ((t.same x y).1 cc) (back xs ys cc)

-- a text
pub text_tie : IsEqualityOf (λ x. x) (pointwise ◌==◌)
text_tie = record { same = λ x y. bytes_eq-Decides x y }

-- a number
pub number_tie : IsEqualityOf (λ x. x) (λ x y. x == y)
number_tie = record { same = λ x y. unsigned_Decides x y }

pub pair_path : {A B : Type 0} {p q : A × B} → p.0 ≡ q.0 → p.1 ≡ q.1 → p ≡ q
pair_path e f = λ i. (e i, f i)

pub and_true_tie : {A B : Type 0} {f : A → B} {E : A → A → Bool} → IsEqualityOf f E → IsEqualityOf f (λ x y. E x y && true)
and_true_tie {A} {B} {f} {E} t = record { same = λ x y. (λ h. (t.same x y).0 (both_true (E x y) true h).0, λ e. both_of (E x y) true ((t.same x y).1 e) refl) }

-- one value alone
pub constant_tie : {A B : Type 0} (b : B) → IsEqualityOf {A = A} (λ x. b) (λ x y. true)
constant_tie b = record { same = λ x y. (λ h. refl, λ e. refl) }

-- by a view that is the same at each value
pub along : {A B : Type 0} {f g : A → B} {E : A → A → Bool} → ((x : A) → g x ≡ f x) → IsEqualityOf f E → IsEqualityOf g E
along p t = record { same = λ x y. (λ h. p x ∙ ((t.same x y).0 h ∙ sym (p y)), λ e. (t.same x y).1 (sym (p x) ∙ (e ∙ p y))) }

-- by a test that answers the same
pub by_test : {A B : Type 0} {f : A → B} {E F : A → A → Bool} → ((x y : A) → F x y ≡ E x y) → IsEqualityOf f E → IsEqualityOf f F
by_test p t = record { same = λ x y. (λ h. (t.same x y).0 (sym (p x y) ∙ h), λ e. p x y ∙ (t.same x y).1 e) }

-- ---- by the variants of an enum

module _ {T : Type 0} (kind : T → ℕ) where
  pub record Ranked {A : Type 0} (k : ℕ) (view : A → T) (E : A → A → Bool) : Type 0 where
    pub tie : IsEqualityOf view E
    pub above : (x : A) → k ≤ kind (view x)

  abbrev pub sides : {A B : Type 0} → (A → A → Bool) → (B → B → Bool) → A ⊎ B → A ⊎ B → Bool
  sides E F c d = ⊎_elim (λ x. ⊎_elim (λ y. E x y) (λ _. false) d) (λ x. ⊎_elim (λ _. false) (λ y. F x y) d) c

  pub rank_end : {k : ℕ} {view : ⊥ → T} → Ranked k view (λ c d. absurd c)
  rank_end = record { tie = record { same = λ x y. absurd x }; above = λ x. absurd x }

  pub rank_more : {A B : Type 0} {k : ℕ} {view : A ⊎ B → T} {E : A → A → Bool} {F : B → B → Bool} → IsEqualityOf (λ x. view (inl x)) E → ((x : A) → kind (view (inl x)) ≡ k)
      → Ranked (suc k) (λ y. view (inr y)) F → Ranked k view (sides E F)
  rank_more {A} {B} {k} {view} {E} {F} t h r = record { tie = record { same = go }; above = up }
    where
      differ : (x : A) (y : B) → view (inl x) ≡ view (inr y) → ⊥
      differ x y e = let a = r.above y in let b = h x in let c = ap kind e in omega arith

      go : (c d : A ⊎ B) → (sides E F c d ≡ true) ↔ (view c ≡ view d)
      go (inl x) (inl y) = t.same x y
      go (inl x) (inr y) = (λ e. absurd cc, λ e. absurd (differ x y e))
      go (inr x) (inl y) = (λ e. absurd cc, λ e. absurd (differ y x (sym e)))
      go (inr x) (inr y) = r.tie.same x y

      up : (c : A ⊎ B) → k ≤ kind (view c)
      up (inl x) = let b = h x in omega arith
      up (inr y) = let a = r.above y in omega arith

-- ---- in a cycle

-- a decision of the trees is a test of the values
pub decides : {P : Type 0} → Dec P → Bool
decides (yes p) = true
decides (no n) = false

pub decided_tie : {A B : Type 0} (f : A → B) (d : Discrete B) → IsEqualityOf f (λ x y. decides (d (f x) (f y)))
unfolding decides
decided_tie {A} {B} f d = record { same = λ x y. go (f x) (f y) (d (f x) (f y)) }
  where
    go : (x y : B) (e : Dec (x ≡ y)) → (decides e ≡ true) ↔ (x ≡ y)
    go x y (yes p) = (λ h. p, λ h. refl)
    go x y (no n) = (λ h. absurd cc, λ h. absurd (n h))

-- two tests of the same are the same
pub one_test : {A B : Type 0} {f : A → B} {E F : A → A → Bool} → IsEqualityOf f E → IsEqualityOf f F → (x y : A) → E x y ≡ F x y
one_test {A} {B} {f} {E} {F} t u x y = go (E x y) (F x y) (λ h. (u.same x y).1 ((t.same x y).0 h)) (λ h. (t.same x y).1 ((u.same x y).0 h))
  where
    go : (a b : Bool) → (a ≡ true → b ≡ true) → (b ≡ true → a ≡ true) → a ≡ b
    go true b h k = sym (h refl)
    go false true h k = k refl
    go false false h k = refl

-- what a step makes of itself is the comparison that the step gives
module _ (I : Type 0) (D : I → Type 0) (μ : (j : I) → D j → ℕ) (step : Rel I D μ Bool → Rel I D μ Bool) (local : Local I D μ Bool true step) (R : Rel I D μ Bool) (fixed : (j : I) (x y : D j) → R j x y ≡ step R j x y) where
  reaches : (n : ℕ) → Agree I D μ Bool (within I D μ Bool true step n) R n
  unfolding within
  reaches zero j x y p q = absurd (omega arith)
  reaches (suc n) j x y p q = local (within I D μ Bool true step n) R n (reaches n) j x y (omega arith) (omega arith) ∙ sym (fixed j x y)

  pub is_compared : (j : I) (x y : D j) → compared I D μ Bool true step j x y ≡ R j x y
  is_compared j x y = sym (settled I D μ Bool true step local (suc (μ j x + μ j y)) j x y (omega arith) (omega arith)) ∙ reaches (suc (μ j x + μ j y)) j x y (omega arith) (omega arith)
