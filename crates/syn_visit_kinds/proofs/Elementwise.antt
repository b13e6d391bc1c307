-- Lists that are related element by element.
use Rattle.std.proofs.Common.{List, [], ◌∷◌, ◌++◌}
use Rattle.syn_visit_kinds.specs.Calls.{Each}

module _ {A B : Type 0} (R : A → B → Type 0) where
  pub each_none : Each R [] []
  unfolding Each
  each_none = tt

  pub each_one : (x : A) (y : B) → R x y → Each R (x ∷ []) (y ∷ [])
  unfolding Each
  each_one x y h = (h, tt)

  pub each_both : (xs xs' : List A) (ys ys' : List B) → Each R xs ys → Each R xs' ys' → Each R (xs ++ xs') (ys ++ ys')
  unfolding Each
  each_both [] xs' [] ys' h k = k
  each_both (x ∷ xs) xs' (y ∷ ys) ys' h k = (h.0, each_both xs xs' ys ys' h.1 k)
  each_both [] xs' (y ∷ ys) ys' h k = absurd h
  each_both (x ∷ xs) xs' [] ys' h k = absurd h

pub ruleset each = (each_none, each_one)

-- where one relation follows of the other
pub each_by : {A B : Type 0} (R S : A → B → Type 0) → ((x : A) (y : B) → R x y → S x y) → (xs : List A) (ys : List B) → Each R xs ys → Each S xs ys
unfolding Each
each_by R S f [] [] h = h
each_by R S f (x ∷ xs) (y ∷ ys) h = (f x y h.0, each_by R S f xs ys h.1)
each_by R S f [] (y ∷ ys) h = absurd h
each_by R S f (x ∷ xs) [] h = absurd h
