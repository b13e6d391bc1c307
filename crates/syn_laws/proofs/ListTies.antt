-- The equality of lists with puncts, by that of their values.
use Rattle.std.proofs.Common.{◌≡◌, Bool, true, false, not, ◌&&◌, List, [], ◌∷◌, ◌++◌, map, Option, Some, None, is_some, refl, sym, ◌∙◌, ap, append-nil}
use Rattle.std.proofs.lemmas.List.{map-append}
use Rattle.std.proofs.lemmas.Simd.{map-map}
use Rattle.std.specs.Option.{option_eq}
use Rattle.std.specs.Cmp.Lexicographic.{pointwise}
use Rattle.std.specs.declared.boxed.Box.{Box}
use Rattle.std.specs.declared.alloc.Global.{Global}
use Rattle.syn_lower_spec.specs.Equal.{IsEqualityOf}
use Rattle.syn_lower.specs.View.{mapped, values, trails, last_of, is_some_pair}
use Rattle.syn_lower_leaves.specs.declared.punctuated.Punctuated.{Punctuated}
use Rattle.syn_lower_leaves.proofs.Ties.{both_tie, on_tie, into_tie, option_tie, list_tie, pair_path, and_true_tie}
use Rattle.syn_expr_core.proofs.TreeOf.{pairs_same}

abbrev opt : {B : Type 0} → Option B → List B
opt None = []
opt (Some b) = b ∷ []

snoc : {B : Type 0} (xs ys : List B) (x y : B) → xs ++ x ∷ [] ≡ ys ++ y ∷ [] → (xs ≡ ys) × (x ≡ y)
snoc [] [] x y e = (refl, cc)
snoc [] (b ∷ []) x y e = absurd cc
snoc [] (b ∷ c ∷ ys) x y e = absurd cc
snoc (a ∷ []) [] x y e = absurd cc
snoc (a ∷ c ∷ xs) [] x y e = absurd cc
snoc (a ∷ xs) (b ∷ ys) x y e = let r = snoc xs ys x y cc in let p : xs ≡ ys = r.0 in let q : a ≡ b = cc in (cc, r.1)

no_end : {B : Type 0} (xs ys : List B) (y : B) → xs ≡ ys ++ y ∷ [] → (is_some_pair xs && true) ≡ (is_some_pair ys && false) → ⊥
no_end [] [] y e h = cc
no_end [] (b ∷ ys) y e h = cc
no_end (a ∷ xs) [] y e h = cc
no_end (a ∷ xs) (b ∷ ys) y e h = cc

joined : {B : Type 0} (xs ys : List B) (o p : Option B) → xs ++ opt o ≡ ys ++ opt p → (is_some_pair xs && not (is_some o)) ≡ (is_some_pair ys && not (is_some p)) → (xs ≡ ys) × (o ≡ p)
joined xs ys None None e h = (sym (append-nil xs) ∙ (e ∙ append-nil ys), refl)
joined xs ys None (Some y) e h = absurd (no_end xs ys y (sym (append-nil xs) ∙ e) h)
joined xs ys (Some x) None e h = absurd (no_end ys xs x (sym (append-nil ys) ∙ sym e) (sym h))
joined xs ys (Some x) (Some y) e h = let r = snoc xs ys x y e in let q : x ≡ y = r.1 in (r.0, cc)

module _ {A P B : Type 0} (f : A → B) where
  abbrev fronts : Punctuated A P → List B
  fronts p = map (λ q. f q.0) p.inner.items

  abbrev ends : Punctuated A P → Option B
  ends p = mapped (λ b. f b.value) p.last

  abbrev halves : Punctuated A P → List B × Option B
  halves p = (fronts p, ends p)

  abbrev seen : Punctuated A P → List B × Bool
  seen p = (map f (values p), trails p)

  shown : (p : Punctuated A P) → map f (values p) ≡ fronts p ++ opt (ends p)
  unfolding values
  shown p = map-append f (map (λ q. q.0) p.inner.items) (last_of p.last) ∙ (ap (λ l. l ++ map f (last_of p.last)) (map-map f (λ q. q.0) p.inner.items) ∙ ap (λ l. fronts p ++ l) (last p.last))
    where
      last : (o : Option (Box A Global)) → map f (last_of o) ≡ opt (mapped (λ b. f b.value) o)
      last None = refl
      last (Some b) = refl

  trailing : (p : Punctuated A P) → trails p ≡ (is_some_pair (fronts p) && not (is_some (ends p)))
  unfolding trails
  trailing p = sym (ap (λ b. b && not (is_some p.last)) (pairs_same (λ q. f q.0) p.inner.items)) ∙ ap (λ b. is_some_pair (fronts p) && not b) (last p.last)
    where
      last : (o : Option (Box A Global)) → is_some o ≡ is_some (mapped (λ b. f b.value) o)
      last None = refl
      last (Some b) = refl

pub punctuated_tie : {A P B : Type 0} {f : A → B} {E : A → A → Bool} → IsEqualityOf f E
    → IsEqualityOf {A = Punctuated A P} {B = List B × Bool} (λ p. (map f (values p), trails p)) (λ x y. pointwise (λ a b. E a.0 b.0 && true) x.inner.items y.inner.items && option_eq (λ a b. E a.value b.value) x.last y.last)
punctuated_tie {A} {P} {B} {f} {E} t = into_tie (seen f) there back it
  where
    pair : IsEqualityOf {A = A × P} (λ q. f q.0) (λ a b. E a.0 b.0 && true)
    pair = and_true_tie (on_tie {C = A × P} (λ q. q.0) t)

    it : IsEqualityOf {A = Punctuated A P} (halves f) (λ x y. pointwise (λ a b. E a.0 b.0 && true) x.inner.items y.inner.items && option_eq (λ a b. E a.value b.value) x.last y.last)
    it = both_tie (on_tie {C = Punctuated A P} (λ p. p.inner.items) (list_tie pair)) (on_tie {C = Punctuated A P} (λ p. p.last) (option_tie (on_tie {C = Box A Global} (λ b. b.value) t)))

    there : (x y : Punctuated A P) → halves f x ≡ halves f y → seen f x ≡ seen f y
    there x y e = let a = ap (λ p. p.0) e in let b = ap (λ p. p.1) e in
        pair_path (shown f x ∙ ((λ i. a i ++ opt (b i)) ∙ sym (shown f y))) (trailing f x ∙ ((λ i. is_some_pair (a i) && not (is_some (b i))) ∙ sym (trailing f y)))

    back : (x y : Punctuated A P) → seen f x ≡ seen f y → halves f x ≡ halves f y
    back x y e = let a = ap (λ p. p.0) e in let b = ap (λ p. p.1) e in
        let r = joined (fronts f x) (fronts f y) (ends f x) (ends f y) (sym (shown f x) ∙ (a ∙ shown f y)) (sym (trailing f x) ∙ (b ∙ trailing f y)) in pair_path r.0 r.1
