-- What is known of whatever a form reads: of the list, of the part, and of what is left.
use Rattle.std.proofs.Common.{◌≡◌, ℕ, zero, suc, Bool, true, false, not, cond, List, [], ◌∷◌, drop, Option, Some, None, refl, subst}
use Rattle.std.specs.Prelude.{if◌then◌else◌}
use Rattle.syn_lexer.specs.declared.front.Delimiter.{Delimiter}
use Rattle.syn_tokens.specs.Tok.{Tok, weight}
use Rattle.syn_tokens.specs.Front.{group_at}
use Rattle.syn_lower_spec.specs.Form.{Form, Outcome, Test, Mark, and_then, never, when, mark, then_by, both, shown, pure, leaf, whole, inside_reads, inside, is_true, flag, is_none, itself, maybe, cons, uncons, is_end, iterate, fix, tail_step, tail, listed, prepend, split_first, is_nil, more_step, more, joined, closed_by}
use Rattle.syn_lower_spec.specs.Fits.{ends_well}
use Rattle.syn_lower_spec.proofs.Weights.{some_is}
use Rattle.syn_lower_spec.proofs.Forms.{bind_some}
use Rattle.syn_text_spec.proofs.Finds.{Each}

-- something said of a list, a part at its front, and what is left
abbrev pub Said : Type 0 → Type 1
Said A = List Tok → A → List Tok → Type 0

pub record Tells {A : Type 0} (P : Said A) (f : Form A) : Type 0 where
  pub tells : (l : List Tok) (x : A) (n : List Tok) → f.reads l ≡ Some (x, n) → P l x n

-- something said of the part alone
abbrev pub Of : {A : Type 0} → (A → Type 0) → Said A
Of T l x n = T x

abbrev pub Any : {A : Type 0} → Said A
Any l x n = Unit {0}

-- what is said where the list passes a test, or doesn't
abbrev pub Where : {A : Type 0} → Test → Bool → Said A → Said A
Where at b P l x n = at l ≡ b → P l x n

pub moved : {A : Type 0} (P : Said A) (l : List Tok) (x y : A) (m n : List Tok) → ◌≡◌ {A = Outcome A} (Some (x, m)) (Some (y, n)) → P l x m → P l y n
moved {A} P l x y m n h t = subst (λ (z : A × List Tok). P l z.0 z.1) (some_is h) t

pub weaker : {A : Type 0} {P Q : Said A} {f : Form A} → Tells P f → ((l : List Tok) (x : A) (n : List Tok) → P l x n → Q l x n) → Tells Q f
weaker a k = record { tells = λ l x n h. k l x n (a.tells l x n h) }

pub never_tells : {A : Type 0} {P : Said A} → Tells P (never {A = A})
never_tells = record { tells = λ l x n h. absurd cc }

pub when_tells : {A : Type 0} {P : Said A} {f g : Form A} (at : Test) → Tells (Where at true P) f → Tells (Where at false P) g → Tells P (when at f g)
when_tells {A} {P} {f} {g} at a c = record { tells = λ l x n. go l x n (at l) refl }
  where
    go : (l : List Tok) (x : A) (n : List Tok) (b : Bool) → at l ≡ b → cond b (f.reads l) (g.reads l) ≡ Some (x, n) → P l x n
    go l x n true e h = a.tells l x n h e
    go l x n false e h = c.tells l x n h e

-- whatever the test says
pub always : {A : Type 0} {P : Said A} {f : Form A} {at : Test} {b : Bool} → Tells P f → Tells (Where at b P) f
always a = record { tells = λ l x n h e. a.tells l x n h }

pub or_tells : {A : Type 0} {P : Said A} {f g : Form A} (at : Test) → Tells P f → Tells P g → Tells P (when at f g)
or_tells at a c = when_tells at (always a) (always c)

pub mark_tells : {A : Type 0} {P Q : Said A} {f : Form A} (m : Mark) → Tells P f → ((l : List Tok) (x : A) (n : List Tok) → m.at l ≡ true → P (drop m.count l) x n → Q l x n) → Tells Q (mark m f)
mark_tells {A} {P} {Q} {f} m a k = record { tells = λ l x n. go l x n (m.at l) refl }
  where
    go : (l : List Tok) (x : A) (n : List Tok) (b : Bool) → m.at l ≡ b → cond b (f.reads (drop m.count l)) None ≡ Some (x, n) → Q l x n
    go l x n true e h = k l x n e (a.tells (drop m.count l) x n h)
    go l x n false e h = absurd cc

-- what is said of the part, or of it and what is left, a mark before it doesn't change
pub after_mark : {A : Type 0} {T : A → List Tok → Type 0} {f : Form A} (m : Mark) → Tells (λ l x n. T x n) f → Tells (λ l x n. T x n) (mark m f)
after_mark {A} {T} m a = mark_tells {Q = λ l x n. T x n} m a (λ l x n e h. h)

-- one part after another, with the list between
abbrev pub Then : {A B : Type 0} → Said A → (A → Said B) → Said (A × B)
Then P Q l p n = (m : List Tok) × P l p.0 m × Q p.0 m p.1 n

pub then_by_tells : {A B : Type 0} {P : Said A} {Q : A → Said B} {f : Form A} {g : A → Form B} → Tells P f → ((x : A) → Tells (Q x) (g x)) → Tells (Then P Q) (then_by f g)
then_by_tells {A} {B} {P} {Q} {f} {g} a c = record {
  tells = λ l p n h.
      let (q, e, j) = bind_some (f.reads l) (λ x m. and_then ((g x).reads m) (λ y n. Some ((x, y), n))) (p, n) h in
      let (r, d, i) = bind_some ((g q.0).reads q.1) (λ y n. Some ((q.0, y), n)) (p, n) j in
      let b = c q.0 in
      moved (Then P Q) l (q.0, r.0) p r.1 n i (q.1, a.tells l q.0 q.1 e, b.tells q.1 r.0 r.1 d);
}

pub both_tells : {A B : Type 0} {P : Said A} {Q : Said B} {f : Form A} {g : Form B} → Tells P f → Tells Q g → Tells (Then P (λ x. Q)) (both f g)
both_tells a c = then_by_tells a (λ x. c)

pub shown_tells : {A B : Type 0} {P : Said A} {Q : Said B} {f : Form A} (to : A → B) (from : B → Option A) → Tells P f → ((l : List Tok) (x : A) (n : List Tok) → P l x n → Q l (to x) n) → Tells Q (shown to from f)
shown_tells {A} {B} {P} {Q} {f} to from a k = record {
  tells = λ l y n h.
      let (q, e, j) = bind_some (f.reads l) (λ x n. Some (to x, n)) (y, n) h in
      moved Q l (to q.0) y q.1 n j (k l q.0 q.1 (a.tells l q.0 q.1 e));
}

pub pure_tells : {A : Type 0} {P : Said A} (x : A) (is : A → Bool) → ((l : List Tok) → P l x l) → Tells P (pure x is)
pure_tells {A} {P} x is p = record { tells = λ l y n h. moved P l x y l n h (p l) }

pub leaf_tells : {A : Type 0} {P : Said A} (same : A → A → Bool) {found : List Tok → Outcome A} → ((l : List Tok) (x : A) (n : List Tok) → found l ≡ Some (x, n) → P l x n) → Tells P (leaf same found)
leaf_tells same w = record { tells = w }

pub inside_tells : {A : Type 0} {T : A → Type 0} {f : Form A} (d : Delimiter) → Tells (Of T) f → Tells (Of T) (inside d f)
inside_tells {A} {T} {f} d a = record { tells = λ l x n. go (group_at d l) x n }
  where
    go : (o : Option (List Tok × List Tok)) (x : A) (n : List Tok) → inside_reads f o ≡ Some (x, n) → T x
    go None x n h = absurd cc
    go (Some g) x n h = ended (f.reads g.0) refl h
      where
        ended : (o : Outcome A) → f.reads g.0 ≡ o → whole o g.1 ≡ Some (x, n) → T x
        ended None i j = absurd cc
        ended (Some (y, [])) i j = moved (Of T) [] y x g.1 n j (a.tells g.0 y [] i)
        ended (Some (y, t ∷ m)) i j = absurd cc

module _ {I : Type 0} {A : I → Type 0} {P : (i : I) → Said (A i)} where
  iterate_tells : {step : ((i : I) → Form (A i)) → (i : I) → Form (A i)} → ((t : (i : I) → Form (A i)) → ((i : I) → Tells (P i) (t i)) → (i : I) → Tells (P i) (step t i)) → (n : ℕ) (i : I) → Tells (P i) (iterate step n i)
  unfolding iterate
  iterate_tells s zero i = never_tells
  iterate_tells {step = step} s (suc n) i = s (iterate step n) (λ j. iterate_tells s n j) i

  pub fix_tells : {step : ((i : I) → Form (A i)) → (i : I) → Form (A i)} → ((t : (i : I) → Form (A i)) → ((i : I) → Tells (P i) (t i)) → (i : I) → Tells (P i) (step t i)) → (i : I) → Tells (P i) (fix step i)
  unfolding fix
  fix_tells {step} s i = record { tells = λ l x n h. let a = iterate_tells s (suc (weight l)) i in a.tells l x n h }

-- ---- marks and parts that are there or not

-- a flag says whether the mark is there, and what is left then
abbrev pub IsFlag : Mark → Said Bool
IsFlag m l b n = (m.at l ≡ b) × (n ≡ (if b then drop m.count l else l))

pub flag_tells : (m : Mark) → Tells (IsFlag m) (flag m)
flag_tells m =
    when_tells {P = IsFlag m} m.at
    (mark_tells {P = λ l b n. (b ≡ true) × (n ≡ l)} {Q = Where m.at true (IsFlag m)} m (pure_tells true is_true (λ l. (refl, refl))) there)
    (weaker {P = λ l b n. (b ≡ false) × (n ≡ l)} {Q = Where m.at false (IsFlag m)} (pure_tells false not (λ l. (refl, refl))) none)
  where
    there : (l : List Tok) (b : Bool) (n : List Tok) → m.at l ≡ true → (b ≡ true) × (n ≡ drop m.count l) → m.at l ≡ true → IsFlag m l b n
    there l true n e h g = (e, h.1)
    there l false n e h g = absurd (let x = h.0 in cc)

    none : (l : List Tok) (b : Bool) (n : List Tok) → (b ≡ false) × (n ≡ l) → m.at l ≡ false → IsFlag m l b n
    none l true n h g = absurd (let x = h.0 in cc)
    none l false n h g = (g, h.1)

-- what is there where a test is passed, and that nothing else is
abbrev pub If : {A : Type 0} → Test → Said A → Said (Option A)
If at P l None n = (at l ≡ false) × (n ≡ l)
If at P l (Some x) n = (at l ≡ true) × P l x n

pub maybe_tells : {A : Type 0} {P : Said A} {f : Form A} (at : Test) → Tells P f → Tells (If at P) (maybe at f)
maybe_tells {A} {P} at a =
    when_tells {P = If at P} at
    (shown_tells {Q = Where at true (If at P)} Some itself a (λ l x n h e. (e, h)))
    (pure_tells {P = Where at false (If at P)} None is_none (λ l e. (e, refl)))

pub closed_by_tells : {A : Type 0} {P : Said A} {f : Form A} (m : Mark) → Tells P f → Tells (λ l x n. (k : List Tok) × P l x k × (m.at k ≡ true)) (closed_by m f)
closed_by_tells {A} {P} m a =
    shown_tells {Q = λ l x n. (k : List Tok) × P l x k × (m.at k ≡ true)} (λ p. p.0) (λ x. Some (x, tt))
    (both_tells a (mark_tells {P = Any} {Q = λ l x n. m.at l ≡ true} m (pure_tells tt (λ (u : Unit {0}). true) (λ l. tt)) (λ l x n e h. e)))
    (λ l p n h. h)

pub closed_of : {A : Type 0} {T : A → Type 0} {f : Form A} (m : Mark) → Tells (Of T) f → Tells (Of T) (closed_by m f)
closed_of {A} {T} m a = weaker {Q = Of T} (closed_by_tells m a) (λ l x n h. h.1)

-- ---- lists

-- each element is so, and a separator ends only a list that has some
abbrev pub AllOf : {A : Type 0} → (A → Type 0) → List A × Bool → Type 0
AllOf T p = Each T p.0 × (ends_well (is_nil p.0) p.1 ≡ true)

cons_all : {A : Type 0} (T : A → Type 0) (p : A × (List A × Bool)) → T p.0 → Each T p.1.0 → AllOf T (cons p)
cons_all T (x, (xs, b)) h g = ((h, g), refl)

cons_each : {A : Type 0} (T : A → Type 0) (p : A × (List A × Bool)) → T p.0 → Each T p.1.0 → Each T (cons p).0
cons_each T (x, (xs, b)) h g = (h, g)

abbrev EachOf : {A : Type 0} → (A → Type 0) → List A × Bool → Type 0
EachOf T p = Each T p.0

tail_tells : {A : Type 0} {T : A → Type 0} {f : Form A} (m : Mark) (stop : Test) → Tells (Of T) f → Tells (Of (EachOf T)) (tail m stop f)
unfolding tail
tail_tells {A} {T} {f} m stop a =
    fix_tells {A = λ i. List A × Bool} {P = λ i. Of (EachOf T)} {step = tail_step m stop f}
    (λ t r i. or_tells m.at
    (mark_tells {P = Of (EachOf T)} {Q = Of (EachOf T)} m
    (or_tells stop (pure_tells {P = Of (EachOf T)} ([], true) (is_end true) (λ l. tt)) (shown_tells {Q = Of (EachOf T)} cons uncons (both_tells a (r i)) (λ l p n h. cons_each T p h.1 h.2)))
    (λ l x n e h. h))
    (pure_tells {P = Of (EachOf T)} ([], false) (is_end false) (λ l. tt))) tt

pub listed_tells : {A : Type 0} {T : A → Type 0} {f : Form A} (m : Mark) (stop : Test) → Tells (Of T) f → Tells (Of (AllOf T)) (listed m stop f)
unfolding listed
listed_tells {A} {T} m stop a =
    or_tells stop (pure_tells {P = Of (AllOf T)} ([], false) (is_end false) (λ l. (tt, refl)))
    (shown_tells {Q = Of (AllOf T)} cons uncons (both_tells a (tail_tells m stop a)) (λ l p n h. cons_all T p h.1 h.2))

-- ---- chains: elements with a mark between them, where an element before the mark is more than one at the end

-- `End x`: it is an element; `Link x`: it may stand before the mark
module _ {A : Type 0} (End Link : A → Type 0) where
  abbrev pub Chain : List A → Type 0
  Chain [] = Unit {0}
  Chain (x ∷ []) = End x
  Chain (x ∷ y ∷ xs) = End x × Link x × Chain (y ∷ xs)

  pub chain_cons : (x : A) (xs : List A) → End x → (is_nil xs ≡ false → Link x) → Chain xs → Chain (x ∷ xs)
  chain_cons x [] h g k = h
  chain_cons x (y ∷ xs) h g k = (h, g refl, k)

  -- An element says what it is, and that it may stand before the mark where the mark follows.
  abbrev pub Linked : Mark → Said A
  Linked m l x n = End x × (m.at n ≡ true → Link x)

  -- the elements after a mark: none where it isn't, and none follows
  abbrev pub Rest : Mark → Said (List A)
  Rest m l xs n = Chain xs × (is_nil xs ≡ false → m.at l ≡ true) × (m.at n ≡ false) × (is_nil xs ≡ true → n ≡ l)

  pub more_tells : {f : Form A} (m : Mark) → Tells (Linked m) f → Tells (Rest m) (more m f)
  unfolding more
  more_tells {f} m a =
      fix_tells {A = λ i. List A} {P = λ i. Rest m} {step = more_step m f}
      (λ t r i. when_tells {P = Rest m} m.at
      (mark_tells {P = λ l xs n. Chain xs × (is_nil xs ≡ false) × (m.at n ≡ false)} {Q = Where m.at true (Rest m)} m
      (shown_tells {Q = λ l xs n. Chain xs × (is_nil xs ≡ false) × (m.at n ≡ false)} prepend split_first (both_tells a (r i)) joins)
      (λ l xs n e h g. (h.0, (λ k. e), h.2, (λ k. absurd (clash (is_nil xs) k h.1)))))
      (pure_tells {P = Where m.at false (Rest m)} [] is_nil (λ l e. (tt, (λ k. absurd (clash true refl k)), e, (λ k. refl))))) tt
    where
      clash : (b : Bool) → b ≡ true → b ≡ false → ⊥
      clash true h g = cc
      clash false h g = cc

      joins : (l : List Tok) (p : A × List A) (n : List Tok) → Then (Linked m) (λ x. Rest m) l p n → Chain (prepend p) × (is_nil (prepend p) ≡ false) × (m.at n ≡ false)
      joins l (x, xs) n (k, h, g) = (chain_cons x xs h.0 (λ e. h.1 (g.1 e)) g.0, refl, g.2)

  -- one element at least
  abbrev pub Several : Mark → Said (List A)
  Several m l xs n = Chain xs × (is_nil xs ≡ false) × (m.at n ≡ false)

  pub joined_tells : {f : Form A} (m : Mark) → Tells (Linked m) f → Tells (Several m) (joined m f)
  joined_tells {f} m a = shown_tells {Q = Several m} prepend split_first (both_tells a (more_tells m a)) joins
    where
      joins : (l : List Tok) (p : A × List A) (n : List Tok) → Then (Linked m) (λ x. Rest m) l p n → Several m l (prepend p) n
      joins l (x, xs) n (k, h, g) = (chain_cons x xs h.0 (λ e. h.1 (g.1 e)) g.0, refl, g.2)
