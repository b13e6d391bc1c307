-- Two lists whose first elements are related one by one, and whose other elements are the same.
use Rattle.std.specs.Prelude.{⊤, IsErr, IsErrAnd}
use Rattle.std.proofs.Common.{◌≡◌, ℕ, zero, suc, ◌+◌, ◌<◌, ◌≤◌, List, [], ◌∷◌, length, slice_index_or, slice_set, Contains, take, drop, ◌++◌, Result, Ok, Err, refl, sym, subst, ap, ◌∙◌, arith}
use Rattle.std.proofs.lemmas.List.{append-nil, drop_all, take_all}
use Rattle.std.proofs.lemmas.List.Elements.{Contains-get_or}
use Rattle.syn_visit_kinds.specs.Calls.{Each}
use Rattle.syn_visit_kinds.specs.Changes.{Changed, refused, went}
use Rattle.syn_visit_kinds.proofs.Changes.{changed_same, each_changed, handed_on}

unfoldable pub Upto : {A : Type 0} → (A → A → Type 0) → ℕ → List A → List A → Type 0
Upto R zero xs ys = ys ≡ xs
Upto R (suc n) [] [] = ⊤
Upto R (suc n) (x ∷ xs) (y ∷ ys) = R x y × Upto R n xs ys
Upto R (suc n) _ _ = ⊥

-- as a `Vec` is left by a loop that writes its elements
whole : {A : Type 0} (len : ℕ) (xs ys : List A) → length ys ≡ length xs → len ≡ length xs → take len (ys ++ drop (length ys) xs) ≡ ys
whole len xs ys same all =
    let gone : drop (length ys) xs ≡ [] = drop_all (length ys) xs (omega (arith, same)) in
    ap (λ l. take len (ys ++ l)) gone ∙ ap (take len) (append-nil ys) ∙ take_all len ys (omega (arith, same, all))

set_length : {A : Type 0} (ys : List A) (n : ℕ) (z : A) → length (slice_set ys n z) ≡ length ys
set_length [] n z = refl
set_length (y ∷ ys) zero z = refl
set_length (y ∷ ys) (suc n) z = ap suc (set_length ys n z)

module _ {A : Type 0} (R : A → A → Type 0) where
  pub upto_none : (xs : List A) → Upto R 0 xs xs
  unfolding Upto
  upto_none xs = refl

  first : (ys : List A) (z d : A) → 0 < length ys → R (slice_index_or ys 0 d) z → Upto R 1 ys (slice_set ys 0 z)
  unfolding Upto
  first [] z d lt r = absurd (omega arith)
  first (y ∷ ys) z d lt r = (r, refl)

  one_more : (n : ℕ) (xs ys : List A) (z d : A) → n < length ys → Upto R n xs ys → R (slice_index_or ys n d) z → Upto R (suc n) xs (slice_set ys n z)
  unfolding Upto
  one_more zero xs ys z d lt h r = subst (λ l. Upto R 1 l (slice_set ys 0 z)) h (first ys z d lt r)
  one_more (suc n) [] [] z d lt h r = absurd (omega arith)
  one_more (suc n) (x ∷ xs) (y ∷ ys) z d lt h r = (h.0, one_more n xs ys z d (omega arith) h.1 r)
  one_more (suc n) [] (y ∷ ys) z d lt h r = absurd h
  one_more (suc n) (x ∷ xs) [] z d lt h r = absurd h

  pub upto_more : (n : ℕ) (xs ys : List A) (z d : A) → n < length ys → Upto R n xs ys → R (slice_index_or ys n d) z → Upto R (n + 1) xs (slice_set ys n z)
  upto_more n xs ys z d lt h r = let on : suc n ≡ n + 1 = omega arith in subst (λ k. Upto R k xs (slice_set ys n z)) on (one_more n xs ys z d lt h r)

  pub upto_all : (n : ℕ) (xs ys : List A) → length ys ≤ n → Upto R n xs ys → Each R xs ys
  unfolding Upto Each
  upto_all zero xs [] le h = subst (λ l. Each R l []) h tt
  upto_all zero xs (y ∷ ys) le h = absurd (omega arith)
  upto_all (suc n) [] [] le h = tt
  upto_all (suc n) (x ∷ xs) (y ∷ ys) le h = (h.0, upto_all n xs ys (omega arith) h.1)
  upto_all (suc n) [] (y ∷ ys) le h = absurd h
  upto_all (suc n) (x ∷ xs) [] le h = absurd h

  -- the element that comes next is still what it was
  next : (n : ℕ) (xs ys : List A) (d : A) → Upto R n xs ys → slice_index_or xs n d ≡ slice_index_or ys n d
  unfolding Upto
  next zero xs ys d h = ap (λ l. slice_index_or l 0 d) (sym h)
  next (suc n) [] [] d h = refl
  next (suc n) (x ∷ xs) (y ∷ ys) d h = next n xs ys d h.1
  next (suc n) [] (y ∷ ys) d h = absurd h
  next (suc n) (x ∷ xs) [] d h = absurd h

  pub upto_next : (n : ℕ) (xs ys : List A) (d : A) → n < length xs → Upto R n xs ys → Contains xs (slice_index_or ys n d)
  upto_next n xs ys d lt h = subst (λ y. Contains xs y) (next n xs ys d h) (Contains-get_or xs n d lt)

  pub upto_whole : (n len : ℕ) (xs ys : List A) → length ys ≡ length xs → len ≡ length xs → length xs ≤ n → Upto R n xs ys → Each R xs (take len (ys ++ drop (length ys) xs))
  upto_whole n len xs ys same all le h = subst (Each R xs) (sym (whole len xs ys same all)) (upto_all n xs ys (omega (arith, same)) h)

-- where each is passed to a call in turn
module _ {A R : Type 0} (call : A → Result (Unit {0}) R → A → Type 0) where
  abbrev Passed : A → A → Type 0
  Passed x y = call x (Ok tt) y

  stops : (n : ℕ) (xs ys : List A) (z d : A) (e : R) → n < length ys → Upto Passed n xs ys → call (slice_index_or ys n d) (Err e) z → Changed call xs (Err e) (slice_set ys n z)
  unfolding Upto
  stops zero xs [] z d e lt h r = absurd (omega arith)
  stops zero xs (y ∷ ys) z d e lt h r = changed_same (sym h) refl (refused r)
  stops (suc n) [] [] z d e lt h r = absurd (omega arith)
  stops (suc n) (x ∷ xs) (y ∷ ys) z d e lt h r = went h.0 (stops n xs ys z d e (omega arith) h.1 r)
  stops (suc n) [] (y ∷ ys) z d e lt h r = absurd h
  stops (suc n) (x ∷ xs) [] z d e lt h r = absurd h

  pub upto_ends : (n len : ℕ) (xs ys : List A) → length ys ≡ length xs → len ≡ length xs → length xs ≤ n → Upto Passed n xs ys → Changed call xs (Ok tt) (take len (ys ++ drop (length ys) xs))
  upto_ends n len xs ys same all le h = each_changed _ _ (upto_whole Passed n len xs ys same all le h)

  pub upto_stops : (n len : ℕ) (xs ys : List A) (z d : A) (e : R) (r : Result (Unit {0}) R) → n < length ys → length ys ≡ length xs → len ≡ length xs → Upto Passed n xs ys → call (slice_index_or ys n d) (Err e) z
      → IsErr r × IsErrAnd r (λ f. f ≡ e) → Changed call xs r (take len (slice_set ys n z ++ drop (length (slice_set ys n z)) xs))
  upto_stops n len xs ys z d e r lt same all h stop is =
      changed_same refl (whole len xs (slice_set ys n z) (set_length ys n z ∙ same) all) (handed_on r is (stops n xs ys z d e lt h stop))

pub ruleset upto = (upto_none)
