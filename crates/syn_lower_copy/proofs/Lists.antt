-- Lists that were copied in two parts.
use Rattle.std.proofs.Common.{◌≡◌, not, ◌&&◌, List, [], ◌∷◌, ◌++◌, map, Option, Some, None, is_some, refl, ap, ◌∙◌, sym}
use Rattle.std.specs.declared.boxed.Box.{Box}
use Rattle.std.specs.declared.alloc.Global.{Global}
use Rattle.std.proofs.lemmas.List.{map-append}
use Rattle.syn_lower_leaves.specs.View.{values, trails, last_of, is_some_pair}
use Rattle.syn_lower_leaves.specs.declared.punctuated.Punctuated.{Punctuated}

module _ {A S : Type 0} (f : A → S) where
  some_last : (x y : Option (Box A Global)) → map f (last_of y) ≡ map f (last_of x) → is_some y ≡ is_some x
  some_last None None h = refl
  some_last (Some x) (Some y) h = refl
  some_last None (Some y) h = absurd cc
  some_last (Some x) None h = absurd cc

module _ {A P S : Type 0} (f : A → S) where
  firsts : (xs : List (A × P)) → map f (map (λ q. q.0) xs) ≡ map (λ q. f q.0) xs
  firsts [] = refl
  firsts (x ∷ xs) = ap (λ l. f x.0 ∷ l) (firsts xs)

  values_map : (x : Punctuated A P) → map f (values x) ≡ map (λ q. f q.0) x.inner.items ++ map f (last_of x.last)
  unfolding values
  values_map x = map-append f (map (λ q. q.0) x.inner.items) (last_of x.last) ∙ ap (λ l. l ++ map f (last_of x.last)) (firsts x.inner.items)

  pub values_copied : (x y : Punctuated A P) → map (λ q. f q.0) y.inner.items ≡ map (λ q. f q.0) x.inner.items → map f (last_of y.last) ≡ map f (last_of x.last) → map f (values y) ≡ map f (values x)
  values_copied x y p q = values_map y ∙ ap (λ l. l ++ map f (last_of y.last)) p ∙ ap (λ l. map (λ q. f q.0) x.inner.items ++ l) q ∙ sym (values_map x)

  some_pair : (xs ys : List (A × P)) → map (λ q. f q.0) ys ≡ map (λ q. f q.0) xs → is_some_pair ys ≡ is_some_pair xs
  some_pair [] [] h = refl
  some_pair (x ∷ xs) (y ∷ ys) h = refl
  some_pair [] (y ∷ ys) h = absurd cc
  some_pair (x ∷ xs) [] h = absurd cc

  pub trails_copied : (x y : Punctuated A P) → map (λ q. f q.0) y.inner.items ≡ map (λ q. f q.0) x.inner.items → map f (last_of y.last) ≡ map f (last_of x.last) → trails y ≡ trails x
  unfolding trails
  trails_copied x y p q = ap (λ b. b && not (is_some y.last)) (some_pair x.inner.items y.inner.items p) ∙ ap (λ b. is_some_pair x.inner.items && not b) (some_last f x.last y.last q)
