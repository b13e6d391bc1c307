-- A walk whose calls ask something of what they are passed, and add to a list what the answer holds. And the error of a walk.
use Rattle.std.proofs.Common.{◌≡◌, List, [], ◌∷◌, ◌++◌, Option, Some, None, Result, Ok, refl, sym, ap, ◌∙◌}
use Rattle.std.proofs.lemmas.List.{append-nil, append_assoc}
use Rattle.std.specs.List.{cons_option, filter_map}
use Rattle.std.specs.Option.{option_to_list}
use Rattle.std.specs.Prelude.{IfErr, IfOk}
use denote.Ref.{Bor, MutBor}
use Rattle.syn_visit_kinds.specs.Calls.{Each}
use Rattle.syn_visit_kinds.specs.Tested.{Added, Found, Told}
use Rattle.syn_visit_kinds.specs.Walk.{Walk, ended, refused, went, Saw, Shown}
use Rattle.syn_visit_kinds.proofs.Walk.{shown_known}

first : {K : Type 0} (o : Option K) (more : List K) → option_to_list o ++ more ≡ cons_option o more
first None more = refl
first (Some k) more = refl

-- what the answers at these hold is added to a list
record Grown {B K : Type 0} (ask : B → Option K → Type 0) (ys : List B) (before after : List K) : Type 0 where
  pub answers : List (Option K)
  pub asked : Each ask ys answers
  pub adds : after ≡ before ++ filter_map (λ o. o) answers

module _ {E B S K : Type 0} (h : E → B) (seen : S → List K) {ask : Bor E → Option K → Type 0} where
  grown_none : (s : S) → Grown (Told h ask) [] (seen s) (seen s)
  unfolding Each
  grown_none s = record { answers = []; asked = tt; adds = sym (append-nil (seen s)) }

  grown_more : {y : B} {ys : List B} {s m z : S} (one : E) → h one ≡ y → Added ask one (seen s) (seen m) → Grown (Told h ask) ys (seen m) (seen z) → Grown (Told h ask) (y ∷ ys) (seen s) (seen z)
  unfolding Each
  grown_more {s = s} one shows call more = record {
    answers = call.answer ∷ more.answers;
    asked = (record { one = call.told.one; shows = ap h call.told.shows ∙ shows; met = call.told.met }, more.asked);
    adds =
        more.adds ∙ ap (λ l. l ++ filter_map (λ o. o) more.answers) call.adds ∙ append_assoc (seen s) (option_to_list call.answer) (filter_map (λ o. o) more.answers)
        ∙ ap (λ l. seen s ++ l) (first call.answer (filter_map (λ o. o) more.answers));
  }

  grown : {R : Type 0} {ys : List B} {s z : S} {r : Result (Unit {0}) R} → Walk (Shown h (λ x a b t. IfOk b (λ _. Added ask x (seen a) (seen t)))) ys s r z → r ≡ Ok tt → Grown (Told h ask) ys (seen s) (seen z)
  grown ended is = grown_none _
  grown (refused shown) is = absurd (cc)
  grown (went shown w) is = grown_more shown.one shown.shows shown.saw (grown w is)

  -- what was found where nothing was before
  pub walk_found : {R : Type 0} {post : Bor E → MutBor S → Result (Unit {0}) R → MutBor S → Type 0} {ys : List B} {s z : S} → Walk (Shown h (Saw post)) ys s (Ok tt) z → seen s ≡ []
      → ((one : Bor E) (old : MutBor S) (b : Result (Unit {0}) R) (new : MutBor S) → post one old b new → IfOk b (λ _. Added ask one.now (seen old.now) (seen new.now)))
      → Found (Told h ask) ys (seen z)
  walk_found w nothing says =
      let all = grown (shown_known {to = λ x a b t. IfOk b (λ _. Added ask x (seen a) (seen t))} w says) refl in
      record { answers = all.answers; asked = all.asked; are = all.adds ∙ ap (λ l. l ++ filter_map (λ o. o) all.answers) nothing }

-- where g has the answer
found_by : {A K : Type 0} {ask : A → Option K → Type 0} (g : A → Option K) → ((x : A) (a : Option K) → ask x a → a ≡ g x) → (xs : List A) (answers : List (Option K)) → Each ask xs answers
    → filter_map (λ o. o) answers ≡ filter_map g xs
unfolding Each
found_by g says [] [] all = refl
found_by g says (x ∷ xs) (a ∷ answers) all = ap (λ o. cons_option o (filter_map (λ o. o) answers)) (says x a all.0) ∙ ap (cons_option (g x)) (found_by g says xs answers all.1)
found_by g says [] (a ∷ answers) all = absurd all
found_by g says (x ∷ xs) [] all = absurd all

pub found_is : {A K : Type 0} {ask : A → Option K → Type 0} (g : A → Option K) → ((x : A) (a : Option K) → ask x a → a ≡ g x) → {xs : List A} {found : List K} → Found ask xs found → found ≡ filter_map g xs
found_is g says {xs = xs} f = f.are ∙ found_by g says xs f.answers f.asked

-- ---- the error of a walk

module _ {E B S R : Type 0} (h : E → B) (N : R → Type 0) where
  fails : {ys : List B} {s z : S} {r : Result (Unit {0}) R} → Walk (Shown h (λ x a b t. IfErr b N)) ys s r z → IfErr r N
  fails ended = tt
  fails (refused shown) = shown.saw
  fails (went shown w) = fails w

  pub walk_fails : {post : Bor E → MutBor S → Result (Unit {0}) R → MutBor S → Type 0} {ys : List B} {s z : S} {r : Result (Unit {0}) R} → Walk (Shown h (Saw post)) ys s r z
      → ((one : Bor E) (old : MutBor S) (b : Result (Unit {0}) R) (new : MutBor S) → post one old b new → IfErr b N) → IfErr r N
  walk_fails w says = fails (shown_known {to = λ x a b t. IfErr b N} w says)
