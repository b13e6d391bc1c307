-- Laws of forms: what is read is what is there, in each form that is made of such forms.
use Rattle.std.proofs.Common.{◌≡◌, ℕ, zero, suc, ◌≤◌, ◌<◌, Bool, true, false, not, cond, List, [], ◌∷◌, drop, Option, Some, None, refl, ap, sym, ◌∙◌, subst, arith}
use Rattle.syn_lexer.specs.declared.front.Delimiter.{Delimiter}
use Rattle.syn_tokens.specs.Tok.{Tok, weight}
use Rattle.syn_lower_spec.proofs.Weights.{some_is, taken}
use Rattle.syn_tokens.specs.Front.{group_at}
use Rattle.syn_lower_spec.specs.Form.{Form, Outcome, Test, Mark, and_then, then_behind, never, when, mark, then_by, both, shown, pure, whole, inside_reads, ended, inside_behind, inside, case, group_case, is_true, flag, is_none, itself, maybe, is_nil, cons, uncons, end, iterate, fix, tail_step, tail, listed, prepend, split_first, more_step, more, joined, closed_by, leaf, if_same, is_end}

-- f reads exactly what is, and reads as g does in lists of less than k tokens
pub record Alike {A : Type 0} (k : ℕ) (f g : Form A) : Type 0 where
  pub sound : (l : List Tok) (x : A) (n : List Tok) → f.reads l ≡ Some (x, n) → f.behind x l ≡ Some n
  pub complete : (l : List Tok) (x : A) (n : List Tok) → f.behind x l ≡ Some n → f.reads l ≡ Some (x, n)
  pub falls : (l : List Tok) (x : A) (n : List Tok) → f.reads l ≡ Some (x, n) → weight n ≤ weight l
  pub same : (l : List Tok) → weight l < k → f.reads l ≡ g.reads l

pub bind_some : {A B : Type 0} (o : Outcome A) (f : A → List Tok → Outcome B) (y : B × List Tok) → and_then o f ≡ Some y
    → (p : A × List Tok) × (o ≡ Some p) × (f p.0 p.1 ≡ Some y)
bind_some (Some p) f y h = (p, refl, h)
bind_some None f y h = absurd cc

pub behind_some : {A : Type 0} (o : Option A) (f : A → Option (List Tok)) (n : List Tok) → then_behind o f ≡ Some n
    → (m : A) × (o ≡ Some m) × (f m ≡ Some n)
behind_some (Some m) f n h = (m, refl, h)
behind_some None f n h = absurd cc

pub seen_some : {A : Type 0} (o : Option A) (f : A → Option (List Tok)) (n : List Tok) → then_behind o f ≡ Some n
    → (x : A) × (o ≡ Some x) × (f x ≡ Some n)
seen_some (Some m) f n h = (m, refl, h)
seen_some None f n h = absurd cc

pub never_alike : {A : Type 0} (k : ℕ) → Alike {A = A} k never never
never_alike k = record {
  sound = λ l x n h. absurd cc;
  complete = λ l x n h. absurd cc;
  falls = λ l x n h. absurd cc;
  same = λ l h. refl;
}

-- nothing is asked of lists that there are none of
pub alike_zero : {A : Type 0} (f g h : Form A) → Alike 0 f h → Alike 0 f g
alike_zero f g h a = record { sound = a.sound; complete = a.complete; falls = a.falls; same = λ l b. absurd (omega arith) }

pub weaker : {A : Type 0} {k : ℕ} {f g : Form A} → Alike (suc k) f g → Alike k f g
weaker a = record { sound = a.sound; complete = a.complete; falls = a.falls; same = λ l h. a.same l (omega arith) }

pub lower : {A : Type 0} {j k : ℕ} {f g : Form A} → j ≤ k → Alike k f g → Alike j f g
lower h a = record { sound = a.sound; complete = a.complete; falls = a.falls; same = λ l b. a.same l (omega arith) }

pub alone : {A : Type 0} {k : ℕ} {f g : Form A} → Alike k f g → Alike 0 f f
alone a = record { sound = a.sound; complete = a.complete; falls = a.falls; same = λ l b. refl }

-- ---- one of two

pub when_alike : {A : Type 0} {k : ℕ} {f f' g g' : Form A} (at : Test) → Alike k f f' → Alike k g g' → Alike k (when at f g) (when at f' g')
when_alike {A} {k} {f} {f'} {g} {g'} at a c = record {
  sound = λ l x n. sound (at l) l x n;
  complete = λ l x n. complete (at l) l x n;
  falls = λ l x n. falls (at l) l x n;
  same = λ l. same (at l) l;
}
  where
    sound : (b : Bool) (l : List Tok) (x : A) (n : List Tok) → cond b (f.reads l) (g.reads l) ≡ Some (x, n) → cond b (f.behind x l) (g.behind x l) ≡ Some n
    sound true l x n h = a.sound l x n h
    sound false l x n h = c.sound l x n h

    complete : (b : Bool) (l : List Tok) (x : A) (n : List Tok) → cond b (f.behind x l) (g.behind x l) ≡ Some n → cond b (f.reads l) (g.reads l) ≡ Some (x, n)
    complete true l x n h = a.complete l x n h
    complete false l x n h = c.complete l x n h

    falls : (b : Bool) (l : List Tok) (x : A) (n : List Tok) → cond b (f.reads l) (g.reads l) ≡ Some (x, n) → weight n ≤ weight l
    falls true l x n h = a.falls l x n h
    falls false l x n h = c.falls l x n h

    same : (b : Bool) (l : List Tok) → weight l < k → cond b (f.reads l) (g.reads l) ≡ cond b (f'.reads l) (g'.reads l)
    same true l h = a.same l h
    same false l h = c.same l h

-- ---- forms made of themselves

module _ {I : Type 0} {A : I → Type 0} where
  pub record Steps (k : ℕ) (step step' : ((i : I) → Form (A i)) → (i : I) → Form (A i)) : Type 0 where
    pub lowest : (t : (i : I) → Form (A i)) → ((i : I) → Alike 0 (t i) (t i)) → (i : I) → Alike 0 (step t i) (step t i)
    pub next : (j : ℕ) → j < k → (t t' : (i : I) → Form (A i)) → ((i : I) → Alike j (t i) (t' i)) → (i : I) → Alike (suc j) (step t i) (step' t' i)

  good : {k : ℕ} {step step' : ((i : I) → Form (A i)) → (i : I) → Form (A i)} → Steps k step step' → (n : ℕ) (i : I) → Alike 0 (iterate step n i) (iterate step n i)
  unfolding iterate
  good s zero i = never_alike 0
  good {step = step} s (suc n) i = s.lowest (iterate step n) (λ j. good s n j) i

  iterate_alike : {k : ℕ} {step step' : ((i : I) → Form (A i)) → (i : I) → Form (A i)} → Steps k step step'
      → (j n n' : ℕ) → j ≤ k → j ≤ n → j ≤ n' → (i : I) → Alike j (iterate step n i) (iterate step' n' i)
  unfolding iterate
  iterate_alike {step = step} {step' = step'} s zero n n' b h h' i = alike_zero (iterate step n i) (iterate step' n' i) (iterate step n i) (good s n i)
  iterate_alike s (suc j) zero n' b h h' i = absurd (omega arith)
  iterate_alike s (suc j) (suc n) zero b h h' i = absurd (omega arith)
  iterate_alike {step = step} {step' = step'} s (suc j) (suc n) (suc n') b h h' i =
      s.next j (omega arith) (iterate step n) (iterate step' n') (λ u. iterate_alike s j n n' (omega arith) (omega arith) (omega arith) u) i

  pub fix_alike : {k : ℕ} {step step' : ((i : I) → Form (A i)) → (i : I) → Form (A i)} → Steps k step step' → (i : I) → Alike k (fix step i) (fix step' i)
  unfolding fix
  fix_alike {k} {step} {step'} s i = record {
    sound = λ l x n h. let a = good s (suc (weight l)) i in a.sound l x n h;
    complete = λ l x n h. let a = good s (suc (weight l)) i in a.complete l x n h;
    falls = λ l x n h. let a = good s (suc (weight l)) i in a.falls l x n h;
    same = λ l h. let a = iterate_alike s (suc (weight l)) (suc (weight l)) (suc (weight l)) (omega arith) (omega arith) (omega arith) i in a.same l (omega arith);
  }

  fix_near : {k : ℕ} {step : ((i : I) → Form (A i)) → (i : I) → Form (A i)} → Steps k step step → (n : ℕ) → n ≤ k → (i : I) → Alike n (fix step i) (iterate step n i)
  unfolding fix
  fix_near {k} {step} s n b i = record {
    sound = λ l x n h. let a = good s (suc (weight l)) i in a.sound l x n h;
    complete = λ l x n h. let a = good s (suc (weight l)) i in a.complete l x n h;
    falls = λ l x n h. let a = good s (suc (weight l)) i in a.falls l x n h;
    same = λ l h. let a = iterate_alike s (suc (weight l)) (suc (weight l)) n (omega arith) (omega arith) (omega arith) i in a.same l (omega arith);
  }

  -- such a form, opened once
  pub fix_is : {step : ((i : I) → Form (A i)) → (i : I) → Form (A i)} → ((k : ℕ) → Steps k step step) → (i : I) (l : List Tok)
      → (fix step i).reads l ≡ (step (fix step) i).reads l
  unfolding iterate
  fix_is {step} steps i l = opened (steps (suc (weight l)))
    where
      iterate_is : (n : ℕ) → (iterate step (suc n) i).reads l ≡ (step (iterate step n) i).reads l
      iterate_is n = refl

      opened : Steps (suc (weight l)) step step → (fix step i).reads l ≡ (step (fix step) i).reads l
      opened s =
          let one : Alike (suc (weight l)) (fix step i) (iterate step (suc (weight l)) i) = fix_near s (suc (weight l)) (omega arith) i in
          let two : Alike (suc (weight l)) (step (fix step) i) (step (iterate step (weight l)) i) =
          s.next (weight l) (omega arith) (fix step) (iterate step (weight l)) (fix_near s (weight l) (omega arith)) i in
          one.same l (omega arith) ∙ (iterate_is (weight l) ∙ sym (two.same l (omega arith)))

-- ---- marks

pub record Present (m : Mark) : Type 0 where
  pub present : (l : List Tok) → m.at l ≡ true → weight (drop m.count l) < weight l

pub mark_alike : {A : Type 0} {k : ℕ} {m : Mark} {f f' : Form A} → Present m → Alike k f f' → Alike (suc k) (mark m f) (mark m f')
mark_alike {A} {k} {m} {f} {f'} p a = record {
  sound = λ l x n. sound (m.at l) l x n;
  complete = λ l x n. complete (m.at l) l x n;
  falls = λ l x n. falls (m.at l) l x n refl;
  same = λ l. same (m.at l) l refl;
}
  where
    sound : (b : Bool) (l : List Tok) (x : A) (n : List Tok) → cond b (f.reads (drop m.count l)) None ≡ Some (x, n) → cond b (f.behind x (drop m.count l)) None ≡ Some n
    sound true l x n h = a.sound (drop m.count l) x n h
    sound false l x n h = absurd cc

    complete : (b : Bool) (l : List Tok) (x : A) (n : List Tok) → cond b (f.behind x (drop m.count l)) None ≡ Some n → cond b (f.reads (drop m.count l)) None ≡ Some (x, n)
    complete true l x n h = a.complete (drop m.count l) x n h
    complete false l x n h = absurd cc

    falls : (b : Bool) (l : List Tok) (x : A) (n : List Tok) → m.at l ≡ b → cond b (f.reads (drop m.count l)) None ≡ Some (x, n) → weight n ≤ weight l
    falls true l x n e h = omega (arith, p.present l e, a.falls (drop m.count l) x n h)
    falls false l x n e h = absurd cc

    same : (b : Bool) (l : List Tok) → m.at l ≡ b → weight l < suc k → cond b (f.reads (drop m.count l)) None ≡ cond b (f'.reads (drop m.count l)) None
    same true l e h = a.same (drop m.count l) (omega (arith, p.present l e))
    same false l e h = refl

pub mark_at_alike : {A : Type 0} {k : ℕ} {m : Mark} {f f' : Form A} → Present m → Alike k f f' → Alike k (mark m f) (mark m f')
mark_at_alike p a = weaker (mark_alike p a)

-- ---- two parts

pub then_by_alike : {A B : Type 0} {k : ℕ} {f f' : Form A} {g g' : A → Form B} → Alike k f f' → ((x : A) → Alike k (g x) (g' x)) → Alike k (then_by f g) (then_by f' g')
then_by_alike {A} {B} {k} {f} {f'} {g} {g'} a c = record {
  sound = λ l p n h.
      let (q, e, j) = bind_some (f.reads l) (λ x m. and_then ((g x).reads m) (λ y n. Some ((x, y), n))) (p, n) h in
      let (r, d, i) = bind_some ((g q.0).reads q.1) (λ y n. Some ((q.0, y), n)) (p, n) j in
      let b = c q.0 in
      let go : then_behind (f.behind q.0 l) ((g q.0).behind r.0) ≡ Some r.1 = rw (a.sound l q.0 q.1 e) (b.sound q.1 r.0 r.1 d) in
      subst (λ (s : (A × B) × List Tok). then_behind (f.behind s.0.0 l) ((g s.0.0).behind s.0.1) ≡ Some s.1) (some_is i) go;
  complete = λ l p n h.
      let (m, e, j) = behind_some (f.behind p.0 l) ((g p.0).behind p.1) n h in
      let b = c p.0 in
      rw (a.complete l p.0 m e, b.complete m p.1 n j) refl;
  falls = λ l p n h.
      let (q, e, j) = bind_some (f.reads l) (λ x m. and_then ((g x).reads m) (λ y n. Some ((x, y), n))) (p, n) h in
      let (r, d, i) = bind_some ((g q.0).reads q.1) (λ y n. Some ((q.0, y), n)) (p, n) j in
      let b = c q.0 in
      let s : r.1 ≡ n = ap (λ z. z.1) (some_is i) in
      let one = a.falls l q.0 q.1 e in
      let two = b.falls q.1 r.0 r.1 d in
      subst (λ z. weight z ≤ weight l) s (omega (arith, one, two));
  same = λ l h. rw (sym (a.same l h)) (same l h (f.reads l) refl);
}
  where
    same : (l : List Tok) → weight l < k → (o : Outcome A) → f.reads l ≡ o
        → and_then {B = A × B} o (λ x m. and_then ((g x).reads m) (λ y n. Some ((x, y), n))) ≡ and_then o (λ x m. and_then ((g' x).reads m) (λ y n. Some ((x, y), n)))
    same l h None e = refl
    same l h (Some q) e =
        let b = c q.0 in
        let one = a.falls l q.0 q.1 e in
        rw (b.same q.1 (omega (arith, one))) refl

pub both_alike : {A B : Type 0} {k : ℕ} {f f' : Form A} {g g' : Form B} → Alike k f f' → Alike k g g' → Alike k (both f g) (both f' g')
both_alike a c = then_by_alike a (λ x. c)

-- ---- another view

pub record Sees {A B : Type 0} (to : A → B) (from : B → Option A) : Type 0 where
  pub there : (x : A) → from (to x) ≡ Some x
  pub back : (y : B) (x : A) → from y ≡ Some x → to x ≡ y

pub shown_alike : {A B : Type 0} {k : ℕ} {f f' : Form A} {to : A → B} {from : B → Option A} → Sees to from → Alike k f f' → Alike k (shown to from f) (shown to from f')
shown_alike {A} {B} {k} {f} {f'} {to} {from} s a = record {
  sound = λ l y n h.
      let (q, e, j) = bind_some (f.reads l) (λ x n. Some (to x, n)) (y, n) h in
      let go : then_behind (from (to q.0)) (λ x. f.behind x l) ≡ Some q.1 = rw (s.there q.0) (a.sound l q.0 q.1 e) in
      subst (λ (z : B × List Tok). then_behind (from z.0) (λ x. f.behind x l) ≡ Some z.1) (some_is j) go;
  complete = λ l y n h.
      let (x, e, j) = seen_some (from y) (λ x. f.behind x l) n h in
      rw (a.complete l x n j, s.back y x e) refl;
  falls = λ l y n h.
      let (q, e, j) = bind_some (f.reads l) (λ x n. Some (to x, n)) (y, n) h in
      let i : q.1 ≡ n = ap (λ z. z.1) (some_is j) in
      subst (λ z. weight z ≤ weight l) i (a.falls l q.0 q.1 e);
  same = λ l h. rw (a.same l h) refl;
}

-- the same, where a view shows only what may stand
pub shown_where_alike : {A B : Type 0} {k : ℕ} {f f' : Form A} {to : A → B} {from : B → Option A} → ((l : List Tok) (x : A) (n : List Tok) → f.behind x l ≡ Some n → from (to x) ≡ Some x)
    → ((y : B) (x : A) → from y ≡ Some x → to x ≡ y) → Alike k f f' → Alike k (shown to from f) (shown to from f')
shown_where_alike {A} {B} {k} {f} {f'} {to} {from} there back a = record {
  sound = λ l y n h.
      let (q, e, j) = bind_some (f.reads l) (λ x n. Some (to x, n)) (y, n) h in
      let st = a.sound l q.0 q.1 e in
      let go : then_behind (from (to q.0)) (λ x. f.behind x l) ≡ Some q.1 = rw (there l q.0 q.1 st) st in
      subst (λ (z : B × List Tok). then_behind (from z.0) (λ x. f.behind x l) ≡ Some z.1) (some_is j) go;
  complete = λ l y n h.
      let (x, e, j) = seen_some (from y) (λ x. f.behind x l) n h in
      rw (a.complete l x n j, back y x e) refl;
  falls = λ l y n h.
      let (q, e, j) = bind_some (f.reads l) (λ x n. Some (to x, n)) (y, n) h in
      let i : q.1 ≡ n = ap (λ z. z.1) (some_is j) in
      subst (λ z. weight z ≤ weight l) i (a.falls l q.0 q.1 e);
  same = λ l h. rw (a.same l h) refl;
}

-- ---- no token

pub record Only {A : Type 0} (x : A) (is : A → Bool) : Type 0 where
  pub itself : is x ≡ true
  pub only : (y : A) → is y ≡ true → x ≡ y

pub pure_alike : {A : Type 0} {k : ℕ} {x : A} {is : A → Bool} → Only x is → Alike k (pure x is) (pure x is)
pure_alike {A} {k} {x} {is} o = record {
  sound = λ l y n h.
      let e : x ≡ y = ap (λ z. z.0) (some_is h) in
      let d : l ≡ n = ap (λ z. z.1) (some_is h) in
      subst (λ z. cond (is z) (Some l) None ≡ Some n) e (rw o.itself (ap Some d));
  complete = λ l y n. go (is y) l y n refl;
  falls = λ l y n h.
      let d : l ≡ n = ap (λ z. z.1) (some_is h) in
      subst (λ z. weight z ≤ weight l) d (omega arith);
  same = λ l h. refl;
}
  where
    go : (b : Bool) (l : List Tok) (y : A) (n : List Tok) → is y ≡ b → cond b (Some l) None ≡ Some n → ◌≡◌ {A = Outcome A} (Some (x, l)) (Some (y, n))
    go true l y n e h = rw (o.only y e, some_is h) refl
    go false l y n e h = absurd cc

-- ---- what is found in front

-- a test of values that says whether they are equal
pub record Compares {A : Type 0} (same : A → A → Bool) : Type 0 where
  pub itself : (x : A) → same x x ≡ true
  pub equal : (x y : A) → same x y ≡ true → x ≡ y

-- what is found has tokens
pub record Finds {A : Type 0} (found : List Tok → Outcome A) : Type 0 where
  pub falls : (l : List Tok) (x : A) (n : List Tok) → found l ≡ Some (x, n) → weight n ≤ weight l

pub leaf_alike : {A : Type 0} {k : ℕ} {same : A → A → Bool} {found : List Tok → Outcome A} → Compares same → Finds found → Alike k (leaf same found) (leaf same found)
leaf_alike {A} {k} {same} {found} c w = record {
  sound = λ l x n h. rw (h, c.itself x) refl;
  complete = λ l x n h. go l x n (found l) refl h;
  falls = w.falls;
  same = λ l h. refl;
}
  where
    go_if : (b : Bool) (x : A) (p : A × List Tok) (n : List Tok) → same x p.0 ≡ b → cond b (Some p.1) None ≡ Some n → ◌≡◌ {A = Outcome A} (Some p) (Some (x, n))
    go_if true x (y, m) n e h = let d : x ≡ y = c.equal x y e in let i : m ≡ n = some_is h in cc
    go_if false x p n e h = absurd cc

    go : (l : List Tok) (x : A) (n : List Tok) (o : Outcome A) → found l ≡ o → if_same same x o ≡ Some n → found l ≡ Some (x, n)
    go l x n None e h = absurd cc
    go l x n (Some p) e h = e ∙ go_if (same x p.0) x p n refl h

-- ---- groups

whole_some : {A : Type 0} (o : Outcome A) (m : List Tok) (x : A) (n : List Tok) → whole o m ≡ Some (x, n) → (o ≡ Some (x, [])) × (m ≡ n)
whole_some None m x n h = absurd cc
whole_some (Some (y, [])) m x n h = (ap (λ z. Some (z, [])) (ap (λ z. z.0) (some_is h)), ap (λ z. z.1) (some_is h))
whole_some (Some (y, t ∷ l)) m x n h = absurd cc

pub ended_some : (o : Option (List Tok)) (m n : List Tok) → ended o m ≡ Some n → (o ≡ Some []) × (m ≡ n)
ended_some None m n h = absurd cc
ended_some (Some []) m n h = (refl, some_is h)
ended_some (Some (t ∷ l)) m n h = absurd cc

pub inside_alike : {A : Type 0} {k : ℕ} {f f' : Form A} (d : Delimiter) → Alike k f f' → Alike (suc k) (inside d f) (inside d f')
inside_alike {A} {k} {f} {f'} d a = record {
  sound = λ l x n. sound (group_at d l) x n;
  complete = λ l x n. complete (group_at d l) x n;
  falls = λ l x n. falls l (group_at d l) x n refl;
  same = λ l. same l (group_at d l) refl;
}
  where
    sound : (o : Option (List Tok × List Tok)) (x : A) (n : List Tok) → inside_reads f o ≡ Some (x, n) → inside_behind f x o ≡ Some n
    sound None x n h = absurd cc
    sound (Some g) x n h = let (e, j) = whole_some (f.reads g.0) g.1 x n h in rw (a.sound g.0 x [] e) (ap Some j)

    complete : (o : Option (List Tok × List Tok)) (x : A) (n : List Tok) → inside_behind f x o ≡ Some n → inside_reads f o ≡ Some (x, n)
    complete None x n h = absurd cc
    complete (Some g) x n h = let (e, j) = ended_some (f.behind x g.0) g.1 n h in rw (a.complete g.0 x [] e, j) refl

    falls : (l : List Tok) (o : Option (List Tok × List Tok)) (x : A) (n : List Tok) → group_at d l ≡ o → inside_reads f o ≡ Some (x, n) → weight n ≤ weight l
    falls l None x n e h = absurd cc
    falls l (Some g) x n e h =
        let (i, j) = whole_some (f.reads g.0) g.1 x n h in
        let t = taken d l g.0 g.1 e in
        subst (λ z. weight z ≤ weight l) j (omega (arith, t))

    same : (l : List Tok) (o : Option (List Tok × List Tok)) → group_at d l ≡ o → weight l < suc k → inside_reads f o ≡ inside_reads f' o
    same l None e h = refl
    same l (Some g) e h =
        let t = taken d l g.0 g.1 e in
        rw (a.same g.0 (omega (arith, t))) refl

-- ---- from these

pub case_alike : {A : Type 0} {k : ℕ} {m : Mark} {f f' g g' : Form A} → Present m → Alike k f f' → Alike (suc k) g g' → Alike (suc k) (case m f g) (case m f' g')
case_alike {A} {k} {m} p a c = when_alike m.at (mark_alike p a) c

pub group_case_alike : {A : Type 0} {k : ℕ} {f f' g g' : Form A} (d : Delimiter) → Alike k f f' → Alike (suc k) g g' → Alike (suc k) (group_case d f g) (group_case d f' g')
group_case_alike d a c = when_alike _ (inside_alike d a) c

pub only_true : Only true is_true
only_true = record { itself = refl; only = λ y h. sym h }

pub only_false : Only false not
only_false = record { itself = refl; only = only }
  where
    only : (y : Bool) → not y ≡ true → false ≡ y
    only true h = absurd cc
    only false h = refl

only_none : {A : Type 0} → Only {A = Option A} None is_none
only_none {A} = record { itself = refl; only = only }
  where
    only : (y : Option A) → is_none y ≡ true → None ≡ y
    only None h = refl
    only (Some x) h = absurd cc

sees_some : {A : Type 0} → Sees {A = A} Some itself
sees_some = record { there = λ x. refl; back = λ y x h. sym h }

pub maybe_alike : {A : Type 0} {k : ℕ} {f f' : Form A} (at : Test) → Alike k f f' → Alike k (maybe at f) (maybe at f')
maybe_alike at a = when_alike at (shown_alike sees_some a) (pure_alike only_none)

pub flag_alike : {k : ℕ} {m : Mark} → Present m → Alike (suc k) (flag m) (flag m)
flag_alike p = case_alike p (pure_alike only_true) (pure_alike only_false)

pub flag_at_alike : {k : ℕ} {m : Mark} → Present m → Alike k (flag m) (flag m)
flag_at_alike p = weaker (flag_alike p)

-- ---- lists

only_end : {A : Type 0} (b : Bool) → Only {A = List A × Bool} ([], b) (is_end b)
only_end {A} b = record { itself = itself b; only = only b }
  where
    itself : (b : Bool) → is_end {A = A} b ([], b) ≡ true
    itself true = refl
    itself false = refl

    only : (b : Bool) (y : List A × Bool) → is_end b y ≡ true → ([], b) ≡ y
    only true ([], true) h = refl
    only true ([], false) h = absurd cc
    only false ([], true) h = absurd cc
    only false ([], false) h = refl
    only true (x ∷ xs, c) h = absurd cc
    only false (x ∷ xs, c) h = absurd cc

sees_cons : {A : Type 0} → Sees {A = A × (List A × Bool)} cons uncons
sees_cons {A} = record { there = λ p. refl; back = back }
  where
    back : (y : List A × Bool) (x : A × (List A × Bool)) → uncons y ≡ Some x → cons x ≡ y
    back ([], b) x h = absurd cc
    back (z ∷ zs, b) x h = ap cons (sym (some_is h))

pub end_alike : {A : Type 0} {k : ℕ} (b : Bool) → Alike k (end {A = A} b) (end b)
end_alike b = pure_alike (only_end b)

pub tail_steps : {A : Type 0} {k : ℕ} {m : Mark} {f f' : Form A} (stop : Test) → Present m → Alike k f f'
    → Steps {A = λ i. List A × Bool} k (tail_step m stop f) (tail_step m stop f')
tail_steps stop p a = record {
  lowest = λ t r i. weaker (case_alike p (when_alike stop (end_alike true) (shown_alike sees_cons (both_alike (alone a) (r i)))) (end_alike false));
  next = λ j h t t' r i. case_alike p (when_alike stop (end_alike true) (shown_alike sees_cons (both_alike (lower (omega arith) a) (r i)))) (end_alike false);
}

pub tail_alike : {A : Type 0} {k : ℕ} {m : Mark} {f f' : Form A} (stop : Test) → Present m → Alike k f f' → Alike k (tail m stop f) (tail m stop f')
unfolding tail
tail_alike stop p a = fix_alike (tail_steps stop p a) tt

pub tail_is : {A : Type 0} (m : Mark) (stop : Test) (f : Form A) → Present m → ((k : ℕ) → Alike k f f) → (l : List Tok)
    → (tail m stop f).reads l ≡ (tail_step m stop f (λ i. tail m stop f) tt).reads l
unfolding tail
tail_is m stop f p a l = fix_is (λ k. tail_steps stop p (a k)) tt l

pub tail_stands : {A : Type 0} (m : Mark) (stop : Test) (f : Form A) → Present m → ((k : ℕ) → Alike k f f) → (q : List A × Bool) (l n : List Tok)
    → (tail_step m stop f (λ i. tail m stop f) tt).behind q l ≡ Some n → (tail m stop f).behind q l ≡ Some n
tail_stands m stop f p a q l n h =
    let t = tail_alike stop p (a 0) in
    let s = tail_steps stop p (a 0) in
    let u = s.lowest (λ i. tail m stop f) (λ i. t) tt in
    t.sound l q n (tail_is m stop f p a l ∙ u.complete l q n h)

pub listed_alike : {A : Type 0} {k : ℕ} {m : Mark} {f f' : Form A} (stop : Test) → Present m → Alike k f f' → Alike k (listed m stop f) (listed m stop f')
unfolding listed
listed_alike stop p a = when_alike stop (end_alike false) (shown_alike sees_cons (both_alike a (tail_alike stop p a)))

sees_prepend : {A : Type 0} → Sees {A = A × List A} prepend split_first
sees_prepend {A} = record { there = λ p. refl; back = back }
  where
    back : (y : List A) (x : A × List A) → split_first y ≡ Some x → prepend x ≡ y
    back [] x h = absurd cc
    back (z ∷ zs) x h = ap prepend (sym (some_is h))

only_nil : {A : Type 0} → Only {A = List A} [] is_nil
only_nil {A} = record { itself = refl; only = only }
  where
    only : (y : List A) → is_nil y ≡ true → [] ≡ y
    only [] h = refl
    only (x ∷ xs) h = absurd cc

pub more_steps : {A : Type 0} {k : ℕ} {m : Mark} {f f' : Form A} → Present m → Alike k f f' → Steps {A = λ i. List A} k (more_step m f) (more_step m f')
more_steps p a = record {
  lowest = λ t r i. weaker (case_alike p (shown_alike sees_prepend (both_alike (alone a) (r i))) (pure_alike only_nil));
  next = λ j h t t' r i. case_alike p (shown_alike sees_prepend (both_alike (lower (omega arith) a) (r i))) (pure_alike only_nil);
}

pub more_alike : {A : Type 0} {k : ℕ} {m : Mark} {f f' : Form A} → Present m → Alike k f f' → Alike k (more m f) (more m f')
unfolding more
more_alike p a = fix_alike (more_steps p a) tt

pub more_is : {A : Type 0} (m : Mark) (f : Form A) → Present m → ((k : ℕ) → Alike k f f) → (l : List Tok) → (more m f).reads l ≡ (more_step m f (λ i. more m f) tt).reads l
unfolding more
more_is m f p a l = fix_is (λ k. more_steps p (a k)) tt l

pub more_stands : {A : Type 0} (m : Mark) (f : Form A) → Present m → ((k : ℕ) → Alike k f f) → (q : List A) (l n : List Tok)
    → (more_step m f (λ i. more m f) tt).behind q l ≡ Some n → (more m f).behind q l ≡ Some n
unfolding more
more_stands m f p a q l n h =
    let t = more_alike p (a 0) in
    let s = more_steps p (a 0) in
    let u = s.lowest (λ i. more m f) (λ i. t) tt in
    t.sound l q n (fix_is (λ k. more_steps p (a k)) tt l ∙ u.complete l q n h)

pub joined_alike : {A : Type 0} {k : ℕ} {m : Mark} {f f' : Form A} → Present m → Alike k f f' → Alike k (joined m f) (joined m f')
joined_alike p a = shown_alike sees_prepend (both_alike a (more_alike p a))

pub closed_by_alike : {A : Type 0} {k : ℕ} {m : Mark} {f f' : Form A} → Present m → Alike k f f' → Alike k (closed_by m f) (closed_by m f')
closed_by_alike p a = shown_alike (record { there = λ x. refl; back = λ y x h. ap (λ z. z.0) (sym (some_is h)) })
    (both_alike a (weaker (mark_alike p (pure_alike {is = λ u. true} (record { itself = refl; only = λ y h. refl })))))

-- what is as such a list, opened once
pub tail_opens : {A : Type 0} (m : Mark) (stop : Test) (f : Form A) → Present m → ((k : ℕ) → Alike k f f) → (q : List A × Bool) (l n : List Tok)
    → (tail m stop f).behind q l ≡ Some n → (tail_step m stop f (λ i. tail m stop f) tt).behind q l ≡ Some n
tail_opens m stop f p a q l n h =
    let t = tail_alike stop p (a 0) in
    let s = tail_steps stop p (a 0) in
    let u = s.lowest (λ i. tail m stop f) (λ i. t) tt in
    u.sound l q n (sym (tail_is m stop f p a l) ∙ t.complete l q n h)

pub more_opens : {A : Type 0} (m : Mark) (f : Form A) → Present m → ((k : ℕ) → Alike k f f) → (q : List A) (l n : List Tok)
    → (more m f).behind q l ≡ Some n → (more_step m f (λ i. more m f) tt).behind q l ≡ Some n
more_opens m f p a q l n h =
    let t = more_alike p (a 0) in
    let s = more_steps p (a 0) in
    let u = s.lowest (λ i. more m f) (λ i. t) tt in
    u.sound l q n (sym (more_is m f p a l) ∙ t.complete l q n h)

-- ---- what never stands

pub record Refuses {A : Type 0} (f : Form A) (x : A) : Type 0 where
  pub refuses : (l n : List Tok) → f.behind x l ≡ Some n → ⊥

pub when_refuses : {A : Type 0} {f g : Form A} {x : A} (at : Test) → Refuses f x → Refuses g x → Refuses (when at f g) x
when_refuses {f = f} {g = g} {x = x} at r s = record { refuses = λ l n h. by_bool l n (at l) h }
  where
    by_bool : (l n : List Tok) (b : Bool) → cond b (f.behind x l) (g.behind x l) ≡ Some n → ⊥
    by_bool l n true h = r.refuses l n h
    by_bool l n false h = s.refuses l n h

pub mark_refuses : {A : Type 0} {f : Form A} {x : A} (m : Mark) → Refuses f x → Refuses (mark m f) x
mark_refuses {f = f} {x = x} m r = record { refuses = λ l n h. by_bool l n (m.at l) h }
  where
    by_bool : (l n : List Tok) (b : Bool) → cond b (f.behind x (drop m.count l)) None ≡ Some n → ⊥
    by_bool l n true h = r.refuses (drop m.count l) n h
    by_bool l n false h = absurd cc

pub inside_refuses : {A : Type 0} {f : Form A} {x : A} (d : Delimiter) → Refuses f x → Refuses (inside d f) x
inside_refuses {f = f} {x = x} d r = record { refuses = λ l n h. by_group n (group_at d l) h }
  where
    by_group : (n : List Tok) (o : Option (List Tok × List Tok)) → inside_behind f x o ≡ Some n → ⊥
    by_group n None h = absurd cc
    by_group n (Some g) h = let (e, j) = ended_some (f.behind x g.0) g.1 n h in r.refuses g.0 [] e

pub shown_refuses : {A B : Type 0} (to : A → B) (from : B → Option A) (f : Form A) (y : B) → from y ≡ None → Refuses (shown to from f) y
shown_refuses to from f y e = record { refuses = λ l n h. let k : then_behind (from y) (λ x. f.behind x l) ≡ None = rw e refl in absurd cc }

pub pure_refuses : {A : Type 0} (x : A) (is : A → Bool) (y : A) → is y ≡ false → Refuses (pure x is) y
pure_refuses x is y e = record { refuses = λ l n h. let k : cond (is y) (Some l) None ≡ None = rw e refl in absurd cc }

pub whole_is : {A : Type 0} (o : Outcome A) (m : List Tok) (x : A) (n : List Tok) → whole o m ≡ Some (x, n) → m ≡ n
whole_is None m x n h = absurd cc
whole_is (Some (y, [])) m x n h = ap (λ z. z.1) (some_is h)
whole_is (Some (y, t ∷ l)) m x n h = absurd cc
