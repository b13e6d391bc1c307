-- Calls that are passed a part of an expression. What they require and promise depends on that part alone.
use Rattle.std.specs.Prelude.{◌≡◌, Result, Ok, Err, IfOk, ⊤, List, [], ◌∷◌}
use denote.Ref.{Bor, MutBor}
use Rattle.syn_visit_kinds.specs.Changes.{Change, ChangeWith}

-- ---- calls that change what they are passed

-- a call that may be passed x
abbrev pub Takes : {E : Type 0} → (MutBor E → Type 0) → E → Type 0
Takes pre x = (borrowed : MutBor _) → borrowed.now ≡ x → pre borrowed

-- a call that leaves of what it is passed what k makes of it, both as h shows them
abbrev pub Leaves : {E T R : Type 0} → (E → T) → (T → T) → (MutBor E → Result (Unit {0}) R → MutBor E → Type 0) → Type 0
Leaves h k post = (old new : MutBor _) (r : _) → post old r new → IfOk r (λ _. h new.now ≡ k (h old.now))

-- a call that was passed x may have answered `Ok`, and left y there
abbrev pub Left : {E R : Type 0} → (MutBor E → Result (Unit {0}) R → MutBor E → Type 0) → E → E → Type 0
Left post x y = Change (λ z. z) post x (Ok tt) y

-- a call may have answered this error
pub record Refused {E R : Type 0} (post : MutBor E → Result (Unit {0}) R → MutBor E → Type 0) (e : R) : Type 0 where
  pub old : MutBor E
  pub new : MutBor E
  pub met : post old (Err e) new

-- ---- the same of calls that are passed something else besides

abbrev pub TakesWith : {E C : Type 0} → (MutBor E → Bor C → Type 0) → C → E → Type 0
TakesWith pre c x = (borrowed : MutBor _) (with : Bor _) → borrowed.now ≡ x → with.now ≡ c → pre borrowed with

abbrev pub LeavesWith : {E C T R : Type 0} → (E → T) → (T → T) → (MutBor E → Bor C → Result (Unit {0}) R → MutBor E → Type 0) → C → Type 0
LeavesWith h k post c = (old new : MutBor _) (with : Bor _) (r : _) → with.now ≡ c → post old with r new → IfOk r (λ _. h new.now ≡ k (h old.now))

abbrev pub LeftWith : {E C R : Type 0} → (MutBor E → Bor C → Result (Unit {0}) R → MutBor E → Type 0) → C → E → E → Type 0
LeftWith post c x y = ChangeWith (λ z. z) post c x (Ok tt) y

pub record RefusedWith {E C R : Type 0} (post : MutBor E → Bor C → Result (Unit {0}) R → MutBor E → Type 0) (c : C) (e : R) : Type 0 where
  pub old : MutBor E
  pub new : MutBor E
  pub with : Bor C
  pub passes : with.now ≡ c
  pub met : post old with (Err e) new

-- ---- calls that look at what they are passed

-- a call that may be passed x
abbrev pub Asks : {E : Type 0} → (Bor E → Type 0) → E → Type 0
Asks pre x = (borrowed : Bor _) → borrowed.now ≡ x → pre borrowed

-- a call whose answer is that of q for what it is passed
abbrev pub Tells : {E A : Type 0} → (E → A) → (Bor E → A → Type 0) → Type 0
Tells q post = (borrowed : Bor _) (r : _) → post borrowed r → r ≡ q borrowed.now

abbrev pub AsksWith : {E C : Type 0} → (Bor E → Bor C → Type 0) → C → E → Type 0
AsksWith pre c x = (borrowed : Bor _) (with : Bor _) → borrowed.now ≡ x → with.now ≡ c → pre borrowed with

abbrev pub TellsWith : {E C A : Type 0} → (E → A) → (Bor E → Bor C → A → Type 0) → C → Type 0
TellsWith q post c = (borrowed : Bor _) (with : Bor _) (r : _) → with.now ≡ c → post borrowed with r → r ≡ q borrowed.now

-- ---- two lists whose elements are related one by one

unfoldable pub Each : {A B : Type 0} → (A → B → Type 0) → List A → List B → Type 0
Each R [] [] = ⊤
Each R (x ∷ xs) (y ∷ ys) = R x y × Each R xs ys
Each R _ _ = ⊥
