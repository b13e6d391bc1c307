-- What follows of calls that were passed one thing after the other.
use Rattle.std.specs.Prelude.{IsErr, IsErrAnd, IfErr, IfOk, ◌&&◌, not}
use Rattle.std.proofs.Common.{◌≡◌, true, List, [], ◌∷◌, ◌++◌, map, flat_map, Option, Some, None, is_some, Result, Ok, Err, refl, sym, ap, ◌∙◌, subst}
use Rattle.std.proofs.lemmas.Result.{err_from_is_err_and}
use Rattle.std.specs.declared.boxed.Box.{Box}
use Rattle.std.specs.declared.alloc.Global.{Global}
use denote.Ref.{Bor, MutBor}
use Rattle.syn_lower_leaves.specs.View.{values, trails, last_of, is_some_pair}
use Rattle.syn_lower_leaves.specs.declared.punctuated.Punctuated.{Punctuated}
use Rattle.syn_visit_kinds.specs.Calls.{Each, Leaves, LeavesWith, Refused, RefusedWith}
use Rattle.syn_visit_kinds.specs.Changes.{Change, ChangeWith, Changed, ended, refused, went}

module _ {A R : Type 0} {call : A → Result (Unit {0}) R → A → Type 0} where
  pub changed_one : {x y : A} (r : Result (Unit {0}) R) → call x r y → Changed call (x ∷ []) r (y ∷ [])
  changed_one (Ok u) h = went h ended
  changed_one (Err e) h = refused h

  -- of equal lists
  pub changed_same : {xs ys ts us : List A} {r : Result (Unit {0}) R} → ts ≡ xs → us ≡ ys → Changed call xs r ys → Changed call ts r us
  changed_same {xs = xs} {ys = ys} {us = us} {r = r} old new c = subst (λ l. Changed call l r us) (sym old) (subst (λ l. Changed call xs r l) (sym new) c)

  by_result : {xs ts ys us : List A} {a r : Result (Unit {0}) R} → Changed call xs a ys → a ≡ Ok tt → Changed call ts r us → Changed call (xs ++ ts) r (ys ++ us)
  by_result ended is more = more
  by_result (refused h) is more = absurd (cc)
  by_result (went h c) is more = went h (by_result c is more)

  pub changed_both : {xs ts ys us : List A} {r : Result (Unit {0}) R} → Changed call xs (Ok tt) ys → Changed call ts r us → Changed call (xs ++ ts) r (ys ++ us)
  changed_both c more = by_result c refl more

  stops_by_result : {xs ys : List A} (ts : List A) {a : Result (Unit {0}) R} {e : R} → Changed call xs a ys → a ≡ Err e → Changed call (xs ++ ts) a (ys ++ ts)
  stops_by_result ts ended is = absurd (cc)
  stops_by_result ts (refused h) is = refused h
  stops_by_result ts (went h c) is = went h (stops_by_result ts c is)

  -- as `?` hands an error on
  pub handed_on : {xs ys : List A} {e : R} (r : Result (Unit {0}) R) → IsErr r × IsErrAnd r (λ f. f ≡ e) → Changed call xs (Err e) ys → Changed call xs r ys
  handed_on {xs = xs} {ys = ys} r is c = let got = err_from_is_err_and r is.1 in subst (λ a. Changed call xs a ys) (sym got.1) (subst (λ f. Changed call xs (Err f) ys) (sym got.2) c)

  -- where the first ones end with an error
  pub changed_stops : {xs ys : List A} (ts : List A) {e : R} (r : Result (Unit {0}) R) → IsErr r × IsErrAnd r (λ f. f ≡ e) → Changed call xs (Err e) ys → Changed call (xs ++ ts) r (ys ++ ts)
  changed_stops ts r is c = handed_on r is (stops_by_result ts c refl)

  pub next_stops : {x y : A} (ts : List A) (e : R) (r : Result (Unit {0}) R) → IsErr r × IsErrAnd r (λ f. f ≡ e) → call x (Err e) y → Changed call (x ∷ ts) r (y ∷ ts)
  next_stops ts e r is h = changed_stops ts r is (refused {xs = []} h)

  -- what each call leaves as it was
  pub changed_alike : {B : Type 0} (g : A → B) → ((x : A) (r : Result (Unit {0}) R) (y : A) → call x r y → g y ≡ g x) → {xs ys : List A} {r : Result (Unit {0}) R}
      → Changed call xs r ys → map g ys ≡ map g xs
  changed_alike g same ended = refl
  changed_alike g same (refused {xs = xs} h) = ap (λ b. b ∷ map g xs) (same _ _ _ h)
  changed_alike g same (went {x = x} {ys = ys} h c) = ap (λ b. b ∷ map g ys) (same _ _ _ h) ∙ ap (λ l. g x ∷ l) (changed_alike g same c)

  -- the answer is one of a call
  pub changed_refused : (P : R → Type 0) → ((x : A) (e : R) (y : A) → call x (Err e) y → P e) → {xs ys : List A} {r : Result (Unit {0}) R} → Changed call xs r ys → IfErr r P
  changed_refused P says ended = tt
  changed_refused P says (refused h) = says _ _ _ h
  changed_refused P says (went h c) = changed_refused P says c

  -- where each call leaves what k makes
  pub changed_all : (k : A → A) → ((x y : A) → call x (Ok tt) y → y ≡ k x) → {xs ys : List A} {r : Result (Unit {0}) R} → Changed call xs r ys → IfOk r (λ _. ys ≡ map k xs)
  changed_all k says ended = refl
  changed_all k says (refused h) = tt
  changed_all k says (went {x = x} {y = y} {xs = xs} {ys = ys} {r = r} h c) = more r (changed_all k says c)
    where
      more : (r : Result (Unit {0}) R) → IfOk r (λ _. ys ≡ map k xs) → IfOk r (λ _. y ∷ ys ≡ k x ∷ map k xs)
      more (Ok u) is = ap (λ b. b ∷ ys) (says x y h) ∙ ap (λ l. k x ∷ l) is
      more (Err e) is = tt

  -- one by one
  pub changed_each : {xs ys : List A} {r : Result (Unit {0}) R} → Changed call xs r ys → IfOk r (λ _. Each (λ x y. call x (Ok tt) y) xs ys)
  unfolding Each
  changed_each ended = tt
  changed_each (refused h) = tt
  changed_each (went {x = x} {y = y} {xs = xs} {ys = ys} {r = r} h c) = more r (changed_each c)
    where
      more : (r : Result (Unit {0}) R) → IfOk r (λ _. Each (λ x y. call x (Ok tt) y) xs ys) → IfOk r (λ _. call x (Ok tt) y × Each (λ x y. call x (Ok tt) y) xs ys)
      more (Ok u) all = (h, all)
      more (Err e) all = tt

  pub each_changed : (xs ys : List A) → Each (λ x y. call x (Ok tt) y) xs ys → Changed call xs (Ok tt) ys
  unfolding Each
  each_changed [] [] all = ended
  each_changed (x ∷ xs) (y ∷ ys) all = went all.0 (each_changed xs ys all.1)
  each_changed [] (y ∷ ys) all = absurd all
  each_changed (x ∷ xs) [] all = absurd all

-- where one relation follows of the other
pub changed_by : {A R : Type 0} {from to : A → Result (Unit {0}) R → A → Type 0} → ((x : A) (r : Result (Unit {0}) R) (y : A) → from x r y → to x r y) → {xs ys : List A} {r : Result (Unit {0}) R}
    → Changed from xs r ys → Changed to xs r ys
changed_by says ended = ended
changed_by says (refused h) = refused (says _ _ _ h)
changed_by says (went h c) = went (says _ _ _ h) (changed_by says c)

-- the same of what f makes of each
pub changed_map : {A B R : Type 0} (f : A → B) {from : A → Result (Unit {0}) R → A → Type 0} {to : B → Result (Unit {0}) R → B → Type 0}
    → ((x : A) (r : Result (Unit {0}) R) (y : A) → from x r y → to (f x) r (f y)) → {xs ys : List A} {r : Result (Unit {0}) R} → Changed from xs r ys → Changed to (map f xs) r (map f ys)
changed_map f says ended = ended
changed_map f says (refused h) = refused (says _ _ _ h)
changed_map f says (went h c) = went (says _ _ _ h) (changed_map f says c)

-- where each call is many
pub changed_flat : {A B R : Type 0} (f : A → List B) {from : A → Result (Unit {0}) R → A → Type 0} {to : B → Result (Unit {0}) R → B → Type 0}
    → ((x : A) (r : Result (Unit {0}) R) (y : A) → from x r y → Changed to (f x) r (f y)) → {xs ys : List A} {r : Result (Unit {0}) R} → Changed from xs r ys → Changed to (flat_map f xs) r (flat_map f ys)
changed_flat f says ended = ended
changed_flat f says (refused {xs = xs} h) = stops_by_result (flat_map f xs) (says _ _ _ h) refl
changed_flat f says (went h c) = changed_both (says _ _ _ h) (changed_flat f says c)

-- ---- calls of a function

module _ {E T R : Type 0} {h : E → T} {post : MutBor E → Result (Unit {0}) R → MutBor E → Type 0} where
  -- what is known of the value that was passed and of the one that was left there
  pub change_known : (Q : T → Result (Unit {0}) R → T → Type 0) → ((old : MutBor E) (r : Result (Unit {0}) R) (new : MutBor E) → post old r new → Q (h old.now) r (h new.now))
      → (x : T) (r : Result (Unit {0}) R) (y : T) → Change h post x r y → Q x r y
  change_known Q says x r y c = subst (λ a. Q a r y) c.shows (subst (Q (h c.old.now) r) c.leaves (says c.old r c.new c.met))

  pub change_leaves : (k : T → T) → Leaves h k post → (x y : T) → Change h post x (Ok tt) y → y ≡ k x
  change_leaves k leaves x y c = sym c.leaves ∙ leaves c.old c.new (Ok tt) c.met ∙ ap k c.shows

module _ {E C T R : Type 0} {h : E → T} {post : MutBor E → Bor C → Result (Unit {0}) R → MutBor E → Type 0} {c : C} where
  pub change_known_with : (Q : C → T → Result (Unit {0}) R → T → Type 0)
      → ((old : MutBor E) (with : Bor C) (r : Result (Unit {0}) R) (new : MutBor E) → post old with r new → Q with.now (h old.now) r (h new.now))
      → (x : T) (r : Result (Unit {0}) R) (y : T) → ChangeWith h post c x r y → Q c x r y
  change_known_with Q says x r y d =
      subst (λ a. Q a x r y) d.passes (subst (λ a. Q d.with.now a r y) d.shows (subst (Q d.with.now (h d.old.now) r) d.leaves (says d.old d.with r d.new d.met)))

  pub change_leaves_with : (k : T → T) → LeavesWith h k post c → (x y : T) → ChangeWith h post c x (Ok tt) y → y ≡ k x
  change_leaves_with k leaves x y d = sym d.leaves ∙ leaves d.old d.new d.with (Ok tt) d.passes d.met ∙ ap k d.shows

-- as h shows it
pub change_shown : {E T R : Type 0} {post : MutBor E → Result (Unit {0}) R → MutBor E → Type 0} (h : E → T) → (x : E) (r : Result (Unit {0}) R) (y : E) → Change (λ z. z) post x r y → Change h post (h x) r (h y)
change_shown h x r y c = record { old = c.old; new = c.new; shows = ap h c.shows; leaves = ap h c.leaves; met = c.met }

-- where a call makes another
pub change_through : {E C T R : Type 0} {h : E → T} {post : MutBor E → Result (Unit {0}) R → MutBor E → Type 0} {of : MutBor E → Bor C → Result (Unit {0}) R → MutBor E → Type 0} {c : C}
    → ((old : MutBor E) (r : Result (Unit {0}) R) (new : MutBor E) → post old r new → ChangeWith (λ z. z) of c old.now r new.now)
    → (x : T) (r : Result (Unit {0}) R) (y : T) → Change h post x r y → ChangeWith h of c x r y
change_through {h = h} says x r y c =
    let made = says c.old r c.new c.met in
    record { old = made.old; new = made.new; with = made.with; shows = ap h made.shows ∙ c.shows; leaves = ap h made.leaves ∙ c.leaves; passes = made.passes; met = made.met }

-- ---- an answer, as a call's clauses say it

module _ {E T R : Type 0} {h : E → T} {post : MutBor E → Result (Unit {0}) R → MutBor E → Type 0} where
  pub refusal : (x : T) (e : R) (y : T) → Change h post x (Err e) y → Refused post e
  refusal x e y c = record { old = c.old; new = c.new; met = c.met }

  pub change_ok : {x y : T} (r : Result (Unit {0}) R) → Change h post x r y → IfOk r (λ _. Change h post x (Ok tt) y)
  change_ok (Ok u) c = c
  change_ok (Err e) c = tt

  pub change_refused : {x y : T} (r : Result (Unit {0}) R) → Change h post x r y → IfErr r (Refused post)
  change_refused (Ok u) c = tt
  change_refused {x = x} {y = y} (Err e) c = refusal x e y c

  pub some_refused : {xs ys : List T} {r : Result (Unit {0}) R} → Changed (Change h post) xs r ys → IfErr r (Refused post)
  some_refused c = changed_refused (Refused post) refusal c

module _ {E C T R : Type 0} {h : E → T} {post : MutBor E → Bor C → Result (Unit {0}) R → MutBor E → Type 0} {c : C} where
  refusal_with : (x : T) (e : R) (y : T) → ChangeWith h post c x (Err e) y → RefusedWith post c e
  refusal_with x e y d = record { old = d.old; new = d.new; with = d.with; passes = d.passes; met = d.met }

  pub change_ok_with : {x y : T} (r : Result (Unit {0}) R) → ChangeWith h post c x r y → IfOk r (λ _. ChangeWith h post c x (Ok tt) y)
  change_ok_with (Ok u) d = d
  change_ok_with (Err e) d = tt

  pub change_refused_with : {x y : T} (r : Result (Unit {0}) R) → ChangeWith h post c x r y → IfErr r (RefusedWith post c)
  change_refused_with (Ok u) d = tt
  change_refused_with {x = x} {y = y} (Err e) d = refusal_with x e y d

  pub some_refused_with : {xs ys : List T} {r : Result (Unit {0}) R} → Changed (ChangeWith h post c) xs r ys → IfErr r (RefusedWith post c)
  some_refused_with d = changed_refused (RefusedWith post c) refusal_with d

-- ---- lists with puncts

module _ {A P R : Type 0} {call : A → Result (Unit {0}) R → A → Type 0} (x y : Punctuated A P) where
  pub values_changed : {r : Result (Unit {0}) R} → Changed (λ p a q. call p.0 a q.0) x.inner.items (Ok tt) y.inner.items → Changed call (last_of x.last) r (last_of y.last) → Changed call (values x) r (values y)
  unfolding values
  values_changed c last = changed_both (changed_map (λ q. q.0) (λ p a q h. h) c) last

  pub values_stop : {e : R} (r : Result (Unit {0}) R) → IsErr r × IsErrAnd r (λ f. f ≡ e) → Changed (λ p a q. call p.0 a q.0) x.inner.items (Err e) y.inner.items → x.last ≡ y.last → Changed call (values x) r (values y)
  unfolding values
  values_stop r is c same =
      changed_same refl (ap (λ l. map (λ q. q.0) y.inner.items ++ last_of l) (sym same)) (changed_stops (last_of x.last) r is (changed_map (λ q. q.0) (λ p a q h. h) c))

some_changed : {A R : Type 0} {call : A → Result (Unit {0}) R → A → Type 0} {xs ys : List A} {r : Result (Unit {0}) R} → Changed call xs r ys → is_some_pair ys ≡ is_some_pair xs
some_changed ended = refl
some_changed (refused h) = refl
some_changed (went h c) = refl

last_same : {A : Type 0} (x y : Option (Box A Global)) → map (λ (_ : A). true) (last_of y) ≡ map (λ (_ : A). true) (last_of x) → is_some y ≡ is_some x
last_same None None same = refl
last_same (Some x) (Some y) same = refl
last_same _ _ same = absurd (cc)

pub trails_stop : {A P R : Type 0} {of : A × P → Result (Unit {0}) R → A × P → Type 0} (x y : Punctuated A P) {r : Result (Unit {0}) R} → Changed of x.inner.items r y.inner.items → y.last ≡ x.last → trails y ≡ trails x
unfolding trails
trails_stop x y c same = ap (λ l. is_some_pair y.inner.items && not (is_some l)) same ∙ ap (λ b. b && not (is_some x.last)) (some_changed c)

pub trails_same : {A P R S : Type 0} {of : A × P → Result (Unit {0}) R → A × P → Type 0} {to : A → Result (Unit {0}) S → A → Type 0} (x y : Punctuated A P) {r : Result (Unit {0}) R} {s : Result (Unit {0}) S}
    → Changed of x.inner.items r y.inner.items → Changed to (last_of x.last) s (last_of y.last) → trails y ≡ trails x
unfolding trails
trails_same x y c last =
    ap (λ b. is_some_pair y.inner.items && not b) (last_same x.last y.last (changed_alike (λ _. true) (λ a b z h. refl) last)) ∙ ap (λ b. b && not (is_some x.last)) (some_changed c)
