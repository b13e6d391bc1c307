-- Calls that look at one thing after the other, and what they answer.
use Rattle.std.specs.List.{filter_map}
use Rattle.std.specs.Option.{option_to_list}
use Rattle.std.specs.Prelude.{◌≡◌, Bool, true, false, List, [], ◌∷◌, ◌++◌, Option}
use denote.Ref.{Bor}
use Rattle.syn_visit_kinds.specs.Calls.{Each}

-- a call that was passed what h shows as x may have answered a
pub record Told {E T A : Type 0} (h : E → T) (post : Bor E → A → Type 0) (x : T) (a : A) : Type 0 where
  pub one : Bor E
  pub shows : h one.now ≡ x
  pub met : post one a

-- the same of calls that are passed something else besides
pub record ToldWith {E C T A : Type 0} (h : E → T) (post : Bor E → Bor C → A → Type 0) (c : C) (x : T) (a : A) : Type 0 where
  pub one : Bor E
  pub with : Bor C
  pub shows : h one.now ≡ x
  pub passes : with.now ≡ c
  pub met : post one with a

-- Each of a list is tested from left to right, up to the first that passes. The answer is whether one passes.
pub data Tested {A : Type 0} (test : A → Bool → Type 0) : List A → Bool → Type 0 where
  ended : Tested test [] false
  passed : {x : A} {xs : List A} → test x true → Tested test (x ∷ xs) true
  failed : {x : A} {xs : List A} {b : Bool} → test x false → Tested test xs b → Tested test (x ∷ xs) b

-- Each of a list is asked from left to right, and what the answers hold was found.
pub record Found {A K : Type 0} (ask : A → Option K → Type 0) (xs : List A) (found : List K) : Type 0 where
  pub answers : List (Option K)
  pub asked : Each ask xs answers
  pub are : found ≡ filter_map (λ o. o) answers

-- one of these calls, and what it adds to what was found before
pub record Added {E K : Type 0} (post : Bor E → Option K → Type 0) (x : E) (before after : List K) : Type 0 where
  pub answer : Option K
  pub told : Told (λ y. y) post x answer
  pub adds : after ≡ before ++ option_to_list answer
