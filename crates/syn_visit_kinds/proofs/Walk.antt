-- Walks one after the other, and what follows of them.
use Rattle.std.specs.Prelude.{IsErr, IsErrAnd}
use Rattle.std.proofs.Common.{◌≡◌, ℕ, ◌+◌, ◌<◌, ◌≤◌, List, [], ◌∷◌, ◌++◌, map, flat_map, length, get_or, drop, Result, Ok, Err, refl, sym, subst}
use Rattle.std.proofs.lemmas.List.{drop_all, drop_more}
use Rattle.std.proofs.lemmas.Result.{err_from_is_err_and}
use denote.Ref.{Bor, MutBor}
use Rattle.syn_lower_leaves.specs.View.{values, last_of}
use Rattle.syn_lower_leaves.specs.declared.punctuated.Punctuated.{Punctuated}
use Rattle.syn_visit_kinds.specs.Walk.{Walk, ended, refused, went, Saw, SawWith, Shown}

module _ {A S R : Type 0} {call : A → S → Result (Unit {0}) R → S → Type 0} where
  pub walk_one : {x : A} {s z : S} (r : Result (Unit {0}) R) → call x s r z → Walk call (x ∷ []) s r z
  walk_one (Ok u) h = went h ended
  walk_one (Err e) h = refused h

  -- of an equal list
  pub walk_same : {xs ys : List A} {s z : S} {r : Result (Unit {0}) R} → xs ≡ ys → Walk call xs s r z → Walk call ys s r z
  walk_same {s = s} {z = z} {r = r} is w = subst (λ l. Walk call l s r z) is w

  by_result : {xs ys : List A} {s m z : S} {a r : Result (Unit {0}) R} → Walk call xs s a m → a ≡ Ok tt → Walk call ys m r z → Walk call (xs ++ ys) s r z
  by_result ended is more = more
  by_result (refused h) is more = absurd (cc)
  by_result (went h w) is more = went h (by_result w is more)

  pub walk_both : {xs ys : List A} {s m z : S} {r : Result (Unit {0}) R} → Walk call xs s (Ok tt) m → Walk call ys m r z → Walk call (xs ++ ys) s r z
  walk_both w more = by_result w refl more

  stops_by_result : {xs : List A} (ys : List A) {s z : S} {a : Result (Unit {0}) R} {e : R} → Walk call xs s a z → a ≡ Err e → Walk call (xs ++ ys) s a z
  stops_by_result ys ended is = absurd (cc)
  stops_by_result ys (refused h) is = refused h
  stops_by_result ys (went h w) is = went h (stops_by_result ys w is)

  -- where the first ones end with an error
  pub walk_stops : {xs : List A} (ys : List A) {s z : S} {e : R} → Walk call xs s (Err e) z → Walk call (xs ++ ys) s (Err e) z
  walk_stops ys w = stops_by_result ys w refl

  -- as `?` hands an error on
  pub handed_on : {xs : List A} {s z : S} {e : R} (r : Result (Unit {0}) R) → IsErrAnd r (λ f. f ≡ e) → Walk call xs s (Err e) z → Walk call xs s r z
  handed_on {xs = xs} {s = s} {z = z} r is w = let got = err_from_is_err_and r is in subst (λ a. Walk call xs s a z) (sym got.1) (subst (λ f. Walk call xs s (Err f) z) (sym got.2) w)

  pub first_stops : {xs : List A} (ys : List A) {s z : S} {e : R} (r : Result (Unit {0}) R) → IsErr r × IsErrAnd r (λ f. f ≡ e) → Walk call xs s (Err e) z → Walk call (xs ++ ys) s r z
  first_stops ys r is w = handed_on r is.1 (walk_stops ys w)

  pub next_stops : {x : A} (xs : List A) {s z : S} (e : R) (r : Result (Unit {0}) R) → IsErr r × IsErrAnd r (λ f. f ≡ e) → call x s (Err e) z → Walk call (x ∷ xs) s r z
  next_stops xs e r is h = handed_on r is.1 (refused h)

  -- in a loop over a list: x is the element at i
  pub loop_next : (xs : List A) (i : ℕ) (x : A) {s m z : S} {r : Result (Unit {0}) R} → i < length xs → x ≡ get_or xs i x → call x s (Ok tt) m → Walk call (drop (i + 1) xs) m r z → Walk call (drop i xs) s r z
  loop_next xs i x {s = s} {m = m} lt is h more = walk_same (sym (drop_more xs i x lt)) (went (subst (λ y. call y s (Ok tt) m) is h) more)

  pub loop_stops : (xs : List A) (i : ℕ) (x : A) {s z : S} (e : R) (r : Result (Unit {0}) R) → i < length xs → x ≡ get_or xs i x → IsErr r × IsErrAnd r (λ f. f ≡ e) → call x s (Err e) z → Walk call (drop i xs) s r z
  loop_stops xs i x {s = s} {z = z} e r lt is err h = walk_same (sym (drop_more xs i x lt)) (next_stops (drop (i + 1) xs) e r err (subst (λ y. call y s (Err e) z) is h))

  pub loop_ends : (xs : List A) (i : ℕ) {s : S} → length xs ≤ i → Walk call (drop i xs) s (Ok tt) s
  loop_ends xs i le = walk_same (sym (drop_all i xs le)) ended

-- the same of what f makes of each
pub walk_map : {A B S R : Type 0} (f : A → B) {call : B → S → Result (Unit {0}) R → S → Type 0} {xs : List A} {s z : S} {r : Result (Unit {0}) R} → Walk (λ x. call (f x)) xs s r z → Walk call (map f xs) s r z
walk_map f ended = ended
walk_map f (refused h) = refused h
walk_map f (went h w) = went h (walk_map f w)

-- where each call is many
pub walk_flat : {A B S R : Type 0} (f : A → List B) {from : A → S → Result (Unit {0}) R → S → Type 0} {to : B → S → Result (Unit {0}) R → S → Type 0}
    {xs : List A} {s z : S} {r : Result (Unit {0}) R} → Walk from xs s r z → ((x : A) (a : S) (b : Result (Unit {0}) R) (t : S) → from x a b t → Walk to (f x) a b t)
    → Walk to (flat_map f xs) s r z
walk_flat f ended each = ended
walk_flat f (refused {xs = xs} h) each = walk_stops (flat_map f xs) (each _ _ _ _ h)
walk_flat f (went h w) each = walk_both (each _ _ _ _ h) (walk_flat f w each)

-- ---- lists

pub walk_values : {A P S R : Type 0} {call : A → S → Result (Unit {0}) R → S → Type 0} (x : Punctuated A P) {s m z : S} {r : Result (Unit {0}) R}
    → Walk (λ q. call q.0) x.inner.items s (Ok tt) m → Walk call (last_of x.last) m r z → Walk call (values x) s r z
unfolding values
walk_values x w more = walk_both (walk_map (λ q. q.0) w) more

pub values_stop : {A P S R : Type 0} {call : A → S → Result (Unit {0}) R → S → Type 0} (x : Punctuated A P) {s z : S} {e : R} (r : Result (Unit {0}) R)
    → IsErr r × IsErrAnd r (λ f. f ≡ e) → Walk (λ q. call q.0) x.inner.items s (Err e) z → Walk call (values x) s r z
unfolding values
values_stop x r is w = first_stops (last_of x.last) r is (walk_map (λ q. q.0) w)

-- ---- what is shown

pub walk_shown : {A B S R : Type 0} (h : A → B) {call : A → S → Result (Unit {0}) R → S → Type 0} {xs : List A} {s z : S} {r : Result (Unit {0}) R}
    → Walk call xs s r z → Walk (Shown h call) (map h xs) s r z
walk_shown h ended = ended
walk_shown h (refused saw) = refused (record { one = _; shows = refl; saw = saw })
walk_shown h (went saw w) = went (record { one = _; shows = refl; saw = saw }) (walk_shown h w)

-- ---- calls of a function

-- what is known of the value that was passed and of the states before and after
module _ {E S R : Type 0} {post : Bor E → MutBor S → Result (Unit {0}) R → MutBor S → Type 0} (Q : E → S → Result (Unit {0}) R → S → Type 0)
    (says : (one : Bor E) (old : MutBor S) (r : Result (Unit {0}) R) (new : MutBor S) → post one old r new → Q one.now old.now r new.now) where
  pub known : (x : E) (s : S) (r : Result (Unit {0}) R) (z : S) → Saw post x s r z → Q x s r z
  known x s r z call =
      subst (λ a. Q a s r z) call.shows (subst (λ a. Q call.one.now a r z) call.begins (subst (Q call.one.now call.old.now r) call.leaves (says call.one call.old r call.new call.met)))

module _ {E C S R : Type 0} {post : Bor E → Bor C → MutBor S → Result (Unit {0}) R → MutBor S → Type 0} {c : C} (Q : E → S → Result (Unit {0}) R → S → Type 0)
    (says : (one : Bor E) (with : Bor C) (old : MutBor S) (r : Result (Unit {0}) R) (new : MutBor S) → with.now ≡ c → post one with old r new → Q one.now old.now r new.now) where
  pub known_with : (x : E) (s : S) (r : Result (Unit {0}) R) (z : S) → SawWith post c x s r z → Q x s r z
  known_with x s r z call =
      subst (λ a. Q a s r z) call.shows (subst (λ a. Q call.one.now a r z) call.begins (subst (Q call.one.now call.old.now r) call.leaves (says call.one call.with call.old r call.new call.passes call.met)))

-- the same of each of a list
pub walk_known : {E S R : Type 0} {post : Bor E → MutBor S → Result (Unit {0}) R → MutBor S → Type 0} {to : E → S → Result (Unit {0}) R → S → Type 0} {xs : List E} {s z : S} {r : Result (Unit {0}) R}
    → Walk (Saw post) xs s r z → ((one : Bor E) (old : MutBor S) (b : Result (Unit {0}) R) (new : MutBor S) → post one old b new → to one.now old.now b new.now) → Walk to xs s r z
walk_known ended says = ended
walk_known {to = to} (refused h) says = refused (known to says _ _ _ _ h)
walk_known {to = to} (went h w) says = went (known to says _ _ _ _ h) (walk_known w says)

-- the same of what is shown
pub shown_known : {E B S R : Type 0} {h : E → B} {post : Bor E → MutBor S → Result (Unit {0}) R → MutBor S → Type 0} {to : E → S → Result (Unit {0}) R → S → Type 0} {ys : List B} {s z : S} {r : Result (Unit {0}) R}
    → Walk (Shown h (Saw post)) ys s r z → ((one : Bor E) (old : MutBor S) (b : Result (Unit {0}) R) (new : MutBor S) → post one old b new → to one.now old.now b new.now) → Walk (Shown h to) ys s r z
shown_known ended says = ended
shown_known {to = to} (refused h) says = refused (record { one = h.one; shows = h.shows; saw = known to says _ _ _ _ h.saw })
shown_known {to = to} (went h w) says = went (record { one = h.one; shows = h.shows; saw = known to says _ _ _ _ h.saw }) (shown_known w says)
