-- What was tested, one level at a time.
use Rattle.std.specs.List.{list_any}
use Rattle.std.specs.Prelude.{is_err}
use Rattle.std.proofs.Common.{◌≡◌, Bool, true, false, ◌||◌, List, ◌∷◌, ◌++◌, flat_map, Result, refl, sym, ap, ◌∙◌, subst}
use denote.Ref.{Bor, MutBor}
use Rattle.syn_visit_kinds.specs.Calls.{Tells, TellsWith}
use Rattle.syn_visit_kinds.specs.Tested.{Tested, ended, passed, failed, Told, ToldWith}
use Rattle.syn_visit_kinds.specs.Walk as w
use Rattle.syn_visit_kinds.specs.Walk.{Walk, Saw, Shown}
use Rattle.syn_visit_kinds.proofs.Walk.{shown_known}

-- where one relation follows of the other
pub tested_by : {A : Type 0} {from to : A → Bool → Type 0} → ((x : A) (b : Bool) → from x b → to x b) → {xs : List A} {b : Bool} → Tested from xs b → Tested to xs b
tested_by says ended = ended
tested_by says (passed h) = passed (says _ _ h)
tested_by says (failed h more) = failed (says _ _ h) (tested_by says more)

module _ {A : Type 0} {test : A → Bool → Type 0} where
  more_by : {xs ys : List A} {a b : Bool} → Tested test xs a → a ≡ false → Tested test ys b → Tested test (xs ++ ys) b
  more_by ended is more = more
  more_by (passed h) is more = absurd (cc)
  more_by (failed h t) is more = failed h (more_by t is more)

  ends_by : {xs : List A} (ys : List A) {a : Bool} → Tested test xs a → a ≡ true → Tested test (xs ++ ys) a
  ends_by ys ended is = absurd (cc)
  ends_by ys (passed h) is = passed h
  ends_by ys (failed h t) is = failed h (ends_by ys t is)

  -- an equal answer
  pub tested_same : {xs : List A} {a b : Bool} → b ≡ a → Tested test xs a → Tested test xs b
  tested_same {xs = xs} is t = subst (Tested test xs) (sym is) t

  -- the first passes, or those after it are tested
  pub first_passes : {x : A} {xs : List A} {a : Bool} → test x a → a ≡ true → Tested test (x ∷ xs) a
  first_passes {x = x} h is = tested_same is (passed (subst (test x) is h))

  pub first_fails : {x : A} {xs : List A} {a b : Bool} → test x a → a ≡ false → Tested test xs b → Tested test (x ∷ xs) b
  first_fails {x = x} h is more = failed (subst (test x) is h) more

-- where each test is of many
pub tested_flat : {A B : Type 0} (f : A → List B) {from : A → Bool → Type 0} {to : B → Bool → Type 0} → ((x : A) (b : Bool) → from x b → Tested to (f x) b) → {xs : List A} {b : Bool}
    → Tested from xs b → Tested to (flat_map f xs) b
tested_flat f says ended = ended
tested_flat f says (passed {xs = xs} h) = ends_by (flat_map f xs) (says _ _ h) refl
tested_flat f says (failed h t) = more_by (says _ _ h) refl (tested_flat f says t)

-- where p has the answer
pub tested_any : {A : Type 0} {test : A → Bool → Type 0} (p : A → Bool) → ((x : A) (b : Bool) → test x b → b ≡ p x) → {xs : List A} {b : Bool} → Tested test xs b → b ≡ list_any p xs
tested_any p says ended = refl
tested_any p says (passed {xs = xs} h) = ap (λ c. c || list_any p xs) (says _ _ h)
tested_any p says (failed {xs = xs} h t) = tested_any p says t ∙ ap (λ c. c || list_any p xs) (says _ _ h)

-- what is known of a call's answer
pub told_known : {E T A : Type 0} {h : E → T} {post : Bor E → A → Type 0} (Q : T → A → Type 0) → ((one : Bor E) (a : A) → post one a → Q (h one.now) a) → (x : T) (a : A) → Told h post x a → Q x a
told_known Q says x a t = subst (λ y. Q y a) t.shows (says t.one a t.met)

pub told_known_with : {E C T A : Type 0} {h : E → T} {post : Bor E → Bor C → A → Type 0} {c : C} (Q : C → T → A → Type 0) → ((one : Bor E) (with : Bor C) (a : A) → post one with a → Q with.now (h one.now) a)
    → (x : T) (a : A) → ToldWith h post c x a → Q c x a
told_known_with Q says x a t = subst (λ d. Q d x a) t.passes (subst (λ y. Q t.with.now y a) t.shows (says t.one t.with a t.met))

pub told_tells : {E T A : Type 0} {h : E → T} {post : Bor E → A → Type 0} (q : T → A) → Tells (λ y. q (h y)) post → (x : T) (a : A) → Told h post x a → a ≡ q x
told_tells q tells x a t = tells t.one a t.met ∙ ap q t.shows

pub told_tells_with : {E C T A : Type 0} {h : E → T} {post : Bor E → Bor C → A → Type 0} {c : C} (q : T → A) → TellsWith (λ y. q (h y)) post c → (x : T) (a : A) → ToldWith h post c x a → a ≡ q x
told_tells_with q tells x a t = tells t.one t.with a t.passes t.met ∙ ap q t.shows

-- where a call makes another
pub told_through : {E C T A : Type 0} {h : E → T} {post : Bor E → A → Type 0} {of : Bor E → Bor C → A → Type 0} {c : C} → ((one : Bor E) (a : A) → post one a → ToldWith (λ y. y) of c one.now a)
    → (x : T) (a : A) → Told h post x a → ToldWith h of c x a
told_through {h = h} says x a t =
    let made = says t.one a t.met in
    record { one = made.one; with = made.with; shows = ap h made.shows ∙ t.shows; passes = made.passes; met = made.met }

-- ---- a walk that ends where a test passes

module _ {E T : Type 0} (h : E → T) {test : Bor E → Bool → Type 0} where
  told : {y : T} {b : Bool} (one : E) → h one ≡ y → Told (λ x. x) test one b → Told h test y b
  told one shows t = record { one = t.one; shows = ap h t.shows ∙ shows; met = t.met }

  tested : {S R : Type 0} {ys : List T} {s z : S} {r : Result (Unit {0}) R} → Walk (Shown h (λ x a b t. Told (λ y. y) test x (is_err b))) ys s r z → Tested (Told h test) ys (is_err r)
  tested w.ended = ended
  tested (w.refused shown) = passed (told shown.one shown.shows shown.saw)
  tested (w.went shown more) = failed (told shown.one shown.shows shown.saw) (tested more)

  pub walk_tested : {S R : Type 0} {post : Bor E → MutBor S → Result (Unit {0}) R → MutBor S → Type 0} {ys : List T} {s z : S} {r : Result (Unit {0}) R} → Walk (Shown h (Saw post)) ys s r z
      → ((one : Bor E) (old : MutBor S) (b : Result (Unit {0}) R) (new : MutBor S) → post one old b new → Told (λ y. y) test one.now (is_err b)) → Tested (Told h test) ys (is_err r)
  walk_tested walk says = tested (shown_known {to = λ x a b t. Told (λ y. y) test x (is_err b)} walk says)
