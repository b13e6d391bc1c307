-- Readings, taken apart into their steps.
use Rattle.std.specs.Prelude.{◌||◌}
use Rattle.std.proofs.Common.{◌≡◌, ◌≤◌, Bool, true, false, cond, ◌⊎◌, inl, inr, List, [], ◌∷◌, Option, Some, None, refl, ap}
use Rattle.syn_tokens.specs.Tok.{Tok, weight}
use Rattle.syn_lower_spec.specs.Form.{Form, Outcome, and_then}
use Rattle.syn_lower_spec.proofs.Weights.{some_is}
use Rattle.syn_expr_spec.specs.Read.{Reading, all_of, before, only_if}

pub then_some : {A B : Type 0} (o : Outcome A) (f : A → Reading B) (y : B × List Tok) → and_then o f ≡ Some y
    → (p : A × List Tok) × (o ≡ Some p) × (f p.0 p.1 ≡ Some y)
then_some None f y h = absurd cc
then_some (Some p) f y h = (p, refl, h)

pub all_some : {A : Type 0} (o : Outcome A) (x : A) → all_of o ≡ Some x → o ≡ Some (x, [])
all_some None x h = absurd cc
all_some (Some (y, [])) x h = let e : y ≡ x = cc in ap (λ z. Some (z, [])) e
all_some (Some (y, t ∷ l)) x h = absurd cc

pub before_some : {A B : Type 0} (o : Option A) (f : A → B) (l : List Tok) (y : B × List Tok) → before o f l ≡ Some y
    → (x : A) × (o ≡ Some x) × ((f x, l) ≡ y)
before_some None f l y h = absurd cc
before_some (Some x) f l y h = (x, refl, some_is h)

pub only_some : {A : Type 0} (b : Bool) (o : Option A) (y : A) → only_if b o ≡ Some y → (b ≡ true) × (o ≡ Some y)
only_some true o y h = (refl, h)
only_some false o y h = absurd cc

-- which way a choice went
pub chosen : {X : Type 0} (b : Bool) (p q y : X) → cond b p q ≡ y → (b ≡ true) × (p ≡ y) ⊎ (b ≡ false) × (q ≡ y)
chosen true p q y h = inl (refl, h)
chosen false p q y h = inr (refl, h)

pub one_true : (a b : Bool) → (a || b) ≡ true → (a ≡ true) ⊎ (a ≡ false) × (b ≡ true)
one_true true b h = inl refl
one_true false b h = inr (refl, h)

-- What a form reads is there, and what stands it reads; no tokens are added.
pub record Reads {A : Type 0} (f : Form A) : Type 0 where
  pub sound : (l : List Tok) (x : A) (n : List Tok) → f.reads l ≡ Some (x, n) → f.behind x l ≡ Some n
  pub found : (l : List Tok) (x : A) (n : List Tok) → f.behind x l ≡ Some n → f.reads l ≡ Some (x, n)
  pub falls : (l : List Tok) (x : A) (n : List Tok) → f.behind x l ≡ Some n → weight n ≤ weight l
