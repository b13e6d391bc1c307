-- Calls that are passed one thing after the other, along with a state of the caller's.
use Rattle.std.specs.Prelude.{◌≡◌, List, [], ◌∷◌, Result, Ok, Err}
use denote.Ref.{Bor, MutBor}

-- Each of a list is passed from left to right, the first along with the state s, each other along with what the one before it
-- left. Where a call answers an error, that is the answer, and no more is passed; else the answer is `Ok`. The last call leaves z.
pub data Walk {A S R : Type 0} (call : A → S → Result (Unit {0}) R → S → Type 0) : List A → S → Result (Unit {0}) R → S → Type 0 where
  ended : {s : S} → Walk call [] s (Ok tt) s
  refused : {x : A} {xs : List A} {s z : S} {e : R} → call x s (Err e) z → Walk call (x ∷ xs) s (Err e) z
  went : {x : A} {xs : List A} {s m z : S} {r : Result (Unit {0}) R} → call x s (Ok tt) m → Walk call xs m r z → Walk call (x ∷ xs) s r z

-- the same of what h shows of something
pub record Shown {A B S R : Type 0} (h : A → B) (call : A → S → Result (Unit {0}) R → S → Type 0) (y : B) (s : S) (r : Result (Unit {0}) R) (z : S) : Type 0 where
  pub one : A
  pub shows : h one ≡ y
  pub saw : call one s r z

-- ---- calls of a function

-- a call that may be passed x, whatever the state is
abbrev pub Sees : {E S : Type 0} → (Bor E → MutBor S → Type 0) → E → Type 0
Sees pre x = (borrowed : Bor _) (state : MutBor _) → borrowed.now ≡ x → pre borrowed state

-- a call that was passed x and the state s may have answered r, and left z
pub record Saw {E S R : Type 0} (post : Bor E → MutBor S → Result (Unit {0}) R → MutBor S → Type 0) (x : E) (s : S) (r : Result (Unit {0}) R) (z : S) : Type 0 where
  pub one : Bor E
  pub old : MutBor S
  pub new : MutBor S
  pub shows : one.now ≡ x
  pub begins : old.now ≡ s
  pub leaves : new.now ≡ z
  pub met : post one old r new

-- the same of calls that are passed something else besides
abbrev pub SeesWith : {E C S : Type 0} → (Bor E → Bor C → MutBor S → Type 0) → C → E → Type 0
SeesWith pre c x = (borrowed : Bor _) (with : Bor _) (state : MutBor _) → borrowed.now ≡ x → with.now ≡ c → pre borrowed with state

pub record SawWith {E C S R : Type 0} (post : Bor E → Bor C → MutBor S → Result (Unit {0}) R → MutBor S → Type 0) (c : C) (x : E) (s : S) (r : Result (Unit {0}) R) (z : S) : Type 0 where
  pub one : Bor E
  pub with : Bor C
  pub old : MutBor S
  pub new : MutBor S
  pub shows : one.now ≡ x
  pub passes : with.now ≡ c
  pub begins : old.now ≡ s
  pub leaves : new.now ≡ z
  pub met : post one with old r new
