-- Rewriting, one level at a time; what follows for a node of what was done with its operands.
use Rattle.std.specs.Prelude.{IsErr, IsErrAnd, IfErr, IfOk}
use Rattle.std.proofs.Common.{◌≡◌, List, [], ◌∷◌, ◌++◌, map, Result, Ok, Err, refl, sym, ap, ◌∙◌, subst}
use Rattle.std.proofs.lemmas.Result.{err_from_is_err_and}
use Rattle.syn_expr_spec.specs.Tree.{Tree}
use Rattle.syn_visit_kinds.specs.Nodes.{map_operands, rewrite_tree}
use Rattle.syn_visit_kinds.specs.Changes.{Changed, ended, refused, went, ChangedIn, Rewritten}
use Rattle.syn_visit_kinds.specs.Changes as c
use Rattle.syn_visit_kinds.proofs.Changes.{changed_all, changed_by}
use Rattle.syn_visit_kinds.proofs.Levels.{rewrite_level}
use Rattle.syn_visit_kinds.proofs.Rebuilt.{rebuilt}

-- ---- one node after the other

module _ {R : Type 0} {call : Tree → Result (Unit {0}) R → Tree → Type 0} where
  more_by : {ts us xs ys : List Tree} {a r : Result (Unit {0}) R} → Rewritten call ts a us → a ≡ Ok tt → Rewritten call xs r ys → Rewritten call (ts ++ xs) r (us ++ ys)
  more_by c.ended is more = more
  more_by (c.inside w around) is more = absurd (cc)
  more_by (c.itself w around h) is more = absurd (cc)
  more_by (c.went w around h next) is more = c.went w around h (more_by next is more)

  stops_by : {ts us : List Tree} (xs : List Tree) {a : Result (Unit {0}) R} {e : R} → Rewritten call ts a us → a ≡ Err e → Rewritten call (ts ++ xs) a (us ++ xs)
  stops_by xs c.ended is = absurd (cc)
  stops_by xs (c.inside w around) is = c.inside w around
  stops_by xs (c.itself w around h) is = c.itself w around h
  stops_by xs (c.went w around h next) is = c.went w around h (stops_by xs next is)

  -- each of a list
  pub rewritten_all : {ts us : List Tree} {r : Result (Unit {0}) R} → Changed (λ t a u. Rewritten call (t ∷ []) a (u ∷ [])) ts r us → Rewritten call ts r us
  rewritten_all ended = c.ended
  rewritten_all (refused {xs = xs} h) = stops_by xs h refl
  rewritten_all (went h more) = more_by h refl (rewritten_all more)

  -- a node, where one inside it refuses, and where none does
  pub inside_stops : {t u : Tree} (e : R) (r : Result (Unit {0}) R) → IsErr r × IsErrAnd r (λ f. f ≡ e) → ChangedIn (λ x a y. Rewritten call (x ∷ []) a (y ∷ [])) t (Err e) u → Rewritten call (t ∷ []) r (u ∷ [])
  inside_stops {t = t} {u = u} e r is w =
      let got = err_from_is_err_and r is.1 in
      subst (λ a. Rewritten call (t ∷ []) a (u ∷ [])) (sym got.1) (subst (λ f. Rewritten call (t ∷ []) (Err f) (u ∷ [])) (sym got.2) (c.inside (rewritten_all w.operands) w.around))

  pub then_itself : {t m u : Tree} (r : Result (Unit {0}) R) → ChangedIn (λ x a y. Rewritten call (x ∷ []) a (y ∷ [])) t (Ok tt) m → call m r u → Rewritten call (t ∷ []) r (u ∷ [])
  then_itself (Ok a) w h = c.went (rewritten_all w.operands) w.around h c.ended
  then_itself (Err e) w h = c.itself (rewritten_all w.operands) w.around h

-- ---- where a function is all that a call does

pub in_all : {R : Type 0} {call : Tree → Result (Unit {0}) R → Tree → Type 0} (f : Tree → Tree) → ((x y : Tree) → call x (Ok tt) y → y ≡ f x) → {t u : Tree} (r : Result (Unit {0}) R)
    → ChangedIn call t r u → IfOk r (λ _. u ≡ map_operands f t)
in_all f says {t = t} {u = u} (Err e) w = tt
in_all f says {t = t} {u = u} (Ok a) w = rebuilt f t t u (w.around.same t) (changed_all f says w.operands)

module _ {R : Type 0} {call : Tree → Result (Unit {0}) R → Tree → Type 0} where
  all_by : (f : Tree → Tree) → ((x y : Tree) → call x (Ok tt) y → y ≡ f x) → {ts us : List Tree} {a : Result (Unit {0}) R} → Rewritten call ts a us → a ≡ Ok tt → us ≡ map (rewrite_tree f) ts
  all_by f says c.ended is = refl
  all_by f says (c.inside w around) is = absurd (cc)
  all_by f says (c.itself w around h) is = absurd (cc)
  all_by f says (c.went {t = t} {m = m} {u = u} {ts = ts} {us = us} w around h next) is =
      let below = rebuilt (rewrite_tree f) t t m (around.same t) (all_by f says w refl) in
      ap (λ x. x ∷ us) (says m u h ∙ ap f below ∙ sym (rewrite_level f t)) ∙ ap (λ l. rewrite_tree f t ∷ l) (all_by f says next is)

  pub rewritten_tree : (f : Tree → Tree) → ((x y : Tree) → call x (Ok tt) y → y ≡ f x) → {t u : Tree} (r : Result (Unit {0}) R) → Rewritten call (t ∷ []) r (u ∷ []) → IfOk r (λ _. u ≡ rewrite_tree f t)
  rewritten_tree f says (Err e) w = tt
  rewritten_tree f says (Ok a) w = let is = all_by f says w refl in cc

  -- the answer is one of a call
  pub rewritten_refused : (P : R → Type 0) → ((x : Tree) (e : R) (y : Tree) → call x (Err e) y → P e) → {ts us : List Tree} {r : Result (Unit {0}) R} → Rewritten call ts r us → IfErr r P
  rewritten_refused P says c.ended = tt
  rewritten_refused P says (c.inside w around) = rewritten_refused P says w
  rewritten_refused P says (c.itself w around h) = says _ _ _ h
  rewritten_refused P says (c.went w around h next) = rewritten_refused P says next

-- where one relation follows of the other
pub in_by : {R : Type 0} {from to : Tree → Result (Unit {0}) R → Tree → Type 0} → ((x : Tree) (r : Result (Unit {0}) R) (y : Tree) → from x r y → to x r y) → {t u : Tree} {r : Result (Unit {0}) R}
    → ChangedIn from t r u → ChangedIn to t r u
in_by says w = record { operands = changed_by says w.operands; around = w.around }
