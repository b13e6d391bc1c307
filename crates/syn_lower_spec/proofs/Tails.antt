-- What is left is a tail of the list.
use Rattle.std.proofs.Common.{◌≡◌, ℕ, zero, suc, Bool, true, false, cond, List, [], ◌∷◌, ◌++◌, take, drop, Option, Some, None, refl, ap, sym, ◌∙◌, subst, append_assoc}
use Rattle.std.proofs.lemmas.List.{take-append-drop}
use Rattle.syn_lexer.specs.declared.front.Delimiter.{Delimiter}
use Rattle.syn_tokens.specs.Tok.{Tok, ident, punct, literal, group, toks, weight}
use Rattle.syn_tokens.specs.Front.{group_at, same_delimiter}
use Rattle.syn_tokens.specs.Input.{IsTail}
use Rattle.syn_lower_spec.specs.Form.{Form, Outcome, Test, Mark, and_then, never, when, mark, then_by, both, shown, pure, leaf, inside_reads, inside, case, group_case, flag, maybe, iterate, fix, tail_step, tail, listed, more_step, more, joined, closed_by}
use Rattle.syn_lower_spec.proofs.Weights.{some_is}
use Rattle.syn_lower_spec.proofs.Forms.{bind_some, whole_is}

pub nothing_taken : (l : List Tok) → IsTail l l
nothing_taken l = record { front = []; is = refl }

pub tail_then : {a b c : List Tok} → IsTail b a → IsTail c b → IsTail c a
tail_then {a} {b} {c} g h = record { front = g.front ++ h.front; is = g.is ∙ ap (λ z. g.front ++ z) h.is ∙ sym (append_assoc g.front h.front c) }

pub one_taken : (x : Tok) (l : List Tok) → IsTail l (x ∷ l)
one_taken x l = record { front = x ∷ []; is = refl }

dropped : (n : ℕ) (l : List Tok) → IsTail (drop n l) l
dropped n l = record { front = take n l; is = sym (take-append-drop n l) }

-- what is after a part that is read
pub record Leaves {A : Type 0} (f : Form A) : Type 0 where
  pub leaves : (l : List Tok) (x : A) (n : List Tok) → f.reads l ≡ Some (x, n) → IsTail n l

moved : {A : Type 0} (x y : A) (m n l : List Tok) → ◌≡◌ {A = Outcome A} (Some (x, m)) (Some (y, n)) → IsTail m l → IsTail n l
moved x y m n l h t = subst (λ z. IsTail z l) (ap (λ z. z.1) (some_is h)) t

pub never_leaves : {A : Type 0} → Leaves {A = A} never
never_leaves = record { leaves = λ l x n h. absurd cc }

pub when_leaves : {A : Type 0} {f g : Form A} (at : Test) → Leaves f → Leaves g → Leaves (when at f g)
when_leaves {A} {f} {g} at a c = record { leaves = λ l x n. go (at l) l x n }
  where
    go : (b : Bool) (l : List Tok) (x : A) (n : List Tok) → cond b (f.reads l) (g.reads l) ≡ Some (x, n) → IsTail n l
    go true l x n h = a.leaves l x n h
    go false l x n h = c.leaves l x n h

pub mark_leaves : {A : Type 0} {f : Form A} (m : Mark) → Leaves f → Leaves (mark m f)
mark_leaves {A} {f} m a = record { leaves = λ l x n. go (m.at l) l x n }
  where
    go : (b : Bool) (l : List Tok) (x : A) (n : List Tok) → cond b (f.reads (drop m.count l)) None ≡ Some (x, n) → IsTail n l
    go true l x n h = tail_then (dropped m.count l) (a.leaves (drop m.count l) x n h)
    go false l x n h = absurd cc

pub then_by_leaves : {A B : Type 0} {f : Form A} {g : A → Form B} → Leaves f → ((x : A) → Leaves (g x)) → Leaves (then_by f g)
then_by_leaves {A} {B} {f} {g} a c = record {
  leaves = λ l p n h.
      let (q, e, j) = bind_some (f.reads l) (λ x m. and_then ((g x).reads m) (λ y n. Some ((x, y), n))) (p, n) h in
      let (r, d, i) = bind_some ((g q.0).reads q.1) (λ y n. Some ((q.0, y), n)) (p, n) j in
      let b = c q.0 in
      moved (q.0, r.0) p r.1 n l i (tail_then (a.leaves l q.0 q.1 e) (b.leaves q.1 r.0 r.1 d));
}

pub both_leaves : {A B : Type 0} {f : Form A} {g : Form B} → Leaves f → Leaves g → Leaves (both f g)
both_leaves a c = then_by_leaves a (λ x. c)

pub shown_leaves : {A B : Type 0} {f : Form A} (to : A → B) (from : B → Option A) → Leaves f → Leaves (shown to from f)
shown_leaves {A} {B} {f} to from a = record {
  leaves = λ l y n h.
      let (q, e, j) = bind_some (f.reads l) (λ x n. Some (to x, n)) (y, n) h in
      moved (to q.0) y q.1 n l j (a.leaves l q.0 q.1 e);
}

pub pure_leaves : {A : Type 0} (x : A) (is : A → Bool) → Leaves (pure x is)
pure_leaves {A} x is = record { leaves = λ l y n h. moved x y l n l h (nothing_taken l) }

group_leaves : (d : Delimiter) (l inner n : List Tok) → group_at d l ≡ Some (inner, n) → IsTail n l
unfolding group_at
group_leaves d [] inner n h = absurd cc
group_leaves d (ident s ∷ l) inner n h = absurd cc
group_leaves d (punct c s ∷ l) inner n h = absurd cc
group_leaves d (literal s ∷ l) inner n h = absurd cc
group_leaves d (group found i ∷ l) inner n h = by_bool (same_delimiter found d) h
  where
    by_bool : (b : Bool) → cond {A = Option (List Tok × List Tok)} b (Some (toks i, l)) None ≡ Some (inner, n) → IsTail n (group found i ∷ l)
    by_bool true h = subst (λ z. IsTail z (group found i ∷ l)) (ap (λ z. z.1) (some_is h)) (one_taken (group found i) l)
    by_bool false h = absurd cc

pub inside_leaves : {A : Type 0} (d : Delimiter) (f : Form A) → Leaves (inside d f)
inside_leaves {A} d f = record { leaves = λ l x n. go l (group_at d l) x n refl }
  where
    go : (l : List Tok) (o : Option (List Tok × List Tok)) (x : A) (n : List Tok) → group_at d l ≡ o → inside_reads f o ≡ Some (x, n) → IsTail n l
    go l None x n e h = absurd cc
    go l (Some g) x n e h = subst (λ z. IsTail z l) (whole_is (f.reads g.0) g.1 x n h) (group_leaves d l g.0 g.1 e)

module _ {I : Type 0} {A : I → Type 0} where
  iterate_leaves : {step : ((i : I) → Form (A i)) → (i : I) → Form (A i)} → ((t : (i : I) → Form (A i)) → ((i : I) → Leaves (t i)) → (i : I) → Leaves (step t i)) → (n : ℕ) (i : I) → Leaves (iterate step n i)
  unfolding iterate
  iterate_leaves s zero i = never_leaves
  iterate_leaves {step = step} s (suc n) i = s (iterate step n) (λ j. iterate_leaves s n j) i

  pub fix_leaves : {step : ((i : I) → Form (A i)) → (i : I) → Form (A i)} → ((t : (i : I) → Form (A i)) → ((i : I) → Leaves (t i)) → (i : I) → Leaves (step t i)) → (i : I) → Leaves (fix step i)
  unfolding fix
  fix_leaves {step} s i = record { leaves = λ l x n h. let a = iterate_leaves s (suc (weight l)) i in a.leaves l x n h }

pub tail_leaves : {A : Type 0} {f : Form A} (m : Mark) (stop : Test) → Leaves f → Leaves (tail m stop f)
unfolding tail
tail_leaves {A} {f} m stop a = fix_leaves {A = λ i. List A × Bool} {step = tail_step m stop f} (λ t r i. when_leaves _ (mark_leaves m (when_leaves stop (pure_leaves _ _) (shown_leaves _ _ (both_leaves a (r i))))) (pure_leaves _ _)) tt

pub listed_leaves : {A : Type 0} {f : Form A} (m : Mark) (stop : Test) → Leaves f → Leaves (listed m stop f)
unfolding listed
listed_leaves m stop a = when_leaves stop (pure_leaves _ _) (shown_leaves _ _ (both_leaves a (tail_leaves m stop a)))

pub more_leaves : {A : Type 0} {f : Form A} (m : Mark) → Leaves f → Leaves (more m f)
unfolding more
more_leaves {A} {f} m a = fix_leaves {A = λ i. List A} {step = more_step m f} (λ t r i. when_leaves _ (mark_leaves m (shown_leaves _ _ (both_leaves a (r i)))) (pure_leaves _ _)) tt

pub joined_leaves : {A : Type 0} {f : Form A} (m : Mark) → Leaves f → Leaves (joined m f)
joined_leaves m a = shown_leaves _ _ (both_leaves a (more_leaves m a))

pub closed_by_leaves : {A : Type 0} {f : Form A} (m : Mark) → Leaves f → Leaves (closed_by m f)
closed_by_leaves m a = shown_leaves _ (λ x. Some (x, tt)) (both_leaves a (mark_leaves m (pure_leaves tt (λ u. true))))

-- what is found has some tokens in front of the rest
pub record Found {A : Type 0} (found : List Tok → Outcome A) : Type 0 where
  pub leaves : (l : List Tok) (x : A) (n : List Tok) → found l ≡ Some (x, n) → IsTail n l

pub leaf_leaves : {A : Type 0} (same : A → A → Bool) {found : List Tok → Outcome A} → Found found → Leaves (leaf same found)
leaf_leaves same w = record { leaves = w.leaves }

pub maybe_leaves : {A : Type 0} {f : Form A} (at : Test) → Leaves f → Leaves (maybe at f)
maybe_leaves at a = when_leaves at (shown_leaves _ _ a) (pure_leaves _ _)

pub flag_leaves : (m : Mark) → Leaves (flag m)
flag_leaves m = when_leaves _ (mark_leaves m (pure_leaves _ _)) (pure_leaves _ _)

pub case_leaves : {A : Type 0} {f g : Form A} (m : Mark) → Leaves f → Leaves g → Leaves (case m f g)
case_leaves m a c = when_leaves _ (mark_leaves m a) c

pub group_case_leaves : {A : Type 0} {g : Form A} (d : Delimiter) (f : Form A) → Leaves g → Leaves (group_case d f g)
group_case_leaves d f c = when_leaves _ (inside_leaves d f) c

pub found_group : (d : Delimiter) → Found (λ l. group_at d l)
found_group d = record { leaves = λ l x n h. group_leaves d l x n h }
