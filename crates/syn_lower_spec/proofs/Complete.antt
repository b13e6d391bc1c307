-- What is known where the own tokens of a part are read as that part: from left to right, what each way to make forms tells.
use Rattle.std.proofs.Common.{◌≡◌, ℕ, Bool, true, false, not, ◌&&◌, cond, List, [], ◌∷◌, drop, Option, Some, None, refl, sym, ◌∙◌, subst}
use Rattle.syn_lexer.specs.declared.front.Delimiter.{Delimiter}
use Rattle.syn_tokens.specs.Tok.{Tok, toks, inside, toks-inside}
use Rattle.syn_tokens.specs.Front.{group_at}
use Rattle.syn_lower_spec.specs.Form.{Form, Mark, Test, when, then_by, both, mark, flag, maybe, shown, pure, is_none, itself, inside_behind, closed_by, tail, listed, more, joined, cons, uncons, is_nil}
use Rattle.syn_lower_spec.specs.Form as form
use Rattle.syn_lower_spec.specs.Own.{alone, before_if, before_some, enclosed, elements_own, comma_before}
use Rattle.syn_lower_spec.specs.Mark.{sign_at, comma, gt}
use Rattle.syn_lower_spec.specs.Fits.{fits_if}
use Rattle.syn_lower_spec.specs.Laws.{Fitted}
use Rattle.syn_lower_spec.proofs.Weights.{some_is}
use Rattle.syn_lower_spec.proofs.Same.{same_delimiter-refl}
use Rattle.syn_lower_spec.proofs.Marks.{comma_present}
use Rattle.syn_lower_spec.proofs.ReadBack.{next_own}
use Rattle.syn_lower_spec.proofs.Forms.{Alike, Present, Refuses, shown_refuses, mark_refuses, pure_refuses, behind_some, ended_some, tail_opens, more_opens}

-- two parts, of which the first leaves k
pub after : {A B : Type 0} (f : Form A) (g : A → Form B) (x : A) (y : B) (l k n : List Tok) → ((m : List Tok) → f.behind x l ≡ Some m → m ≡ k)
    → (then_by f g).behind (x, y) l ≡ Some n → (f.behind x l ≡ Some k) × ((g x).behind y k ≡ Some n)
after f g x y l k n only h =
    let (m, e, j) = behind_some (f.behind x l) ((g x).behind y) n h in
    let d = only m e in
    (subst (λ z. f.behind x l ≡ Some z) d e, subst (λ z. (g x).behind y z ≡ Some n) d j)

-- ---- one of two

pub first_only : {A : Type 0} (at : Test) (f g : Form A) (x : A) → Refuses g x → (l n : List Tok) → (when at f g).behind x l ≡ Some n → (at l ≡ true) × (f.behind x l ≡ Some n)
first_only at f g x r l n h = by_bool (at l) h
  where
    by_bool : (b : Bool) → cond b (f.behind x l) (g.behind x l) ≡ Some n → (b ≡ true) × (f.behind x l ≡ Some n)
    by_bool true h = (refl, h)
    by_bool false h = absurd (r.refuses l n h)

pub second_only : {A : Type 0} (at : Test) (f g : Form A) (x : A) → Refuses f x → (l n : List Tok) → (when at f g).behind x l ≡ Some n → (at l ≡ false) × (g.behind x l ≡ Some n)
second_only at f g x r l n h = by_bool (at l) h
  where
    by_bool : (b : Bool) → cond b (f.behind x l) (g.behind x l) ≡ Some n → (b ≡ false) × (g.behind x l ≡ Some n)
    by_bool true h = absurd (r.refuses l n h)
    by_bool false h = (refl, h)

pub maybe_none : {A : Type 0} (at : Test) (f : Form A) (l n : List Tok) → (maybe at f).behind None l ≡ Some n → (at l ≡ false) × (n ≡ l)
maybe_none {A} at f l n h =
    let (a, e) = second_only at (shown Some itself f) (pure None is_none) None (shown_refuses Some itself f None refl) l n h in
    (a, some_is (sym e))

pub maybe_some : {A : Type 0} (at : Test) (f : Form A) (x : A) (l n : List Tok) → (maybe at f).behind (Some x) l ≡ Some n → (at l ≡ true) × (f.behind x l ≡ Some n)
maybe_some at f x l n h = first_only at (shown Some itself f) (pure None is_none) (Some x) (pure_refuses None is_none (Some x) refl) l n h

-- a part that may be there, where it leaves what comes after it
pub piece : {A : Type 0} (at : Test) (f : Form A) (own : A → List Tok → List Tok) (o : Option A) (l n : List Tok) → ((x : A) (m : List Tok) → f.behind x (own x l) ≡ Some m → m ≡ l)
    → (maybe at f).behind o (before_some o own l) ≡ Some n → n ≡ l
piece at f own None l n only h = let (a, e) = maybe_none at f l n h in e
piece at f own (Some x) l n only h = let (a, e) = maybe_some at f x (own x l) n h in only x n e

pub piece_fits : {A : Type 0} (at : Test) (f : Form A) (own : A → List Tok → List Tok) (fits : A → Bool) (o : Option A) (l n : List Tok) → ((x : A) (m : List Tok) → f.behind x (own x l) ≡ Some m → fits x ≡ true)
    → (maybe at f).behind o (before_some o own l) ≡ Some n → fits_if fits o ≡ true
piece_fits at f own fits None l n only h = refl
piece_fits at f own fits (Some x) l n only h = let (a, e) = maybe_some at f x (own x l) n h in only x n e

pub flag_left : (m : Mark) (sep : List Tok → List Tok) (b : Bool) (l n : List Tok) → m.at (sep l) ≡ true → drop m.count (sep l) ≡ l → (flag m).behind b (before_if b sep l) ≡ Some n → n ≡ l
flag_left m sep true l n s d h =
    let e : (flag m).behind true (sep l) ≡ Some (drop m.count (sep l)) = rw s refl in
    some_is (sym h ∙ e) ∙ d
flag_left m sep false l n s d h = by_bool (m.at l) h
  where
    by_bool : (b : Bool) → cond b (cond b None None) (Some l) ≡ Some n → n ≡ l
    by_bool true h = absurd cc
    by_bool false h = some_is (sym h)

pub mark_tells : {A : Type 0} (m : Mark) (f : Form A) (x : A) (l n : List Tok) → (mark m f).behind x l ≡ Some n → (m.at l ≡ true) × (f.behind x (drop m.count l) ≡ Some n)
mark_tells m f x l n h = by_bool (m.at l) h
  where
    by_bool : (b : Bool) → cond b (f.behind x (drop m.count l)) None ≡ Some n → (b ≡ true) × (f.behind x (drop m.count l) ≡ Some n)
    by_bool true h = (refl, h)
    by_bool false h = absurd cc

-- ---- groups

pub inside_tells : {A : Type 0} (d : Delimiter) (f : Form A) (x : A) (ts r n : List Tok) → (form.inside d f).behind x (enclosed d ts r) ≡ Some n → (f.behind x ts ≡ Some []) × (n ≡ r)
unfolding group_at
inside_tells d f x ts r n h =
    let i : inside_behind f x (Some (toks (inside ts), r)) ≡ Some n = rw (same_delimiter-refl d) at h in
    let (e, j) = ended_some (f.behind x (toks (inside ts))) r n i in
    (subst (λ z. f.behind x z ≡ Some []) (toks-inside ts) e, sym j)

-- ---- what closes a part

pub closed_tells : {A : Type 0} (f : Form A) (x : A) (l r n : List Tok) → ((m : List Tok) → f.behind x l ≡ Some m → m ≡ alone 62 ∷ r) → (closed_by gt f).behind x l ≡ Some n → (f.behind x l ≡ Some (alone 62 ∷ r)) × (n ≡ r)
unfolding sign_at
closed_tells f x l r n only h =
    let (e, j) = after f (λ y. mark gt (pure tt (λ (u : Unit {0}). true))) x tt l (alone 62 ∷ r) n only h in
    (e, some_is (sym j))

-- ---- lists

module _ {A : Type 0} (f : Form A) (own : A → List Tok → List Tok) (fits : A → Bool) (stops : A → Test) where
  -- each element is known so
  pub data Complete : List A → Type 0 where
    none_complete : Complete []
    complete : {x : A} {xs : List A} → ((r n : List Tok) → f.behind x (own x r) ≡ Some n → Fitted (fits x) (stops x r) r n) → Complete xs → Complete (x ∷ xs)

module _ {A : Type 0} (own : A → List Tok → List Tok) (fits : A → Bool) (stops : A → Test) (sep : List Tok → List Tok) (e : Bool) (r : List Tok) where
  -- each element fits, before what doesn't go on with it
  pub data Fitting : List A → Type 0 where
    none_fits : Fitting []
    fit : {x : A} {xs : List A} → fits x ≡ true → stops x (next_own own sep xs e r) ≡ true → Fitting xs → Fitting (x ∷ xs)

module _ {A : Type 0} (f : Form A) (own : A → List Tok → List Tok) (fits : A → Bool) (stops : A → Test) (stop : Test) (a : (k : ℕ) → Alike k f f) where
  pub tail_tells : (e : Bool) (xs : List A) (r n : List Tok) → Complete f own fits stops xs → (tail comma stop f).behind (xs, e) (next_own own comma_before xs e r) ≡ Some n
      → Fitting own fits stops comma_before e r xs × (n ≡ r)
  unfolding sign_at
  tail_tells true [] r n none_complete h = (none_fits, by_stop (stop r) (tail_opens comma stop f comma_present a ([], true) (comma_before r) n h))
    where
      by_stop : (b : Bool) → cond b (Some r) None ≡ Some n → n ≡ r
      by_stop true h = some_is (sym h)
      by_stop false h = absurd cc
  tail_tells false [] r n none_complete h = (none_fits, by_comma (comma.at r) (stop (drop 1 r)) (tail_opens comma stop f comma_present a ([], false) r n h))
    where
      by_comma : (b c : Bool) → cond b (cond b (cond c None None) None) (Some r) ≡ Some n → n ≡ r
      by_comma true true h = absurd cc
      by_comma true false h = absurd cc
      by_comma false c h = some_is (sym h)
  tail_tells e (x ∷ xs) r n (complete here others) h =
      let next = next_own own comma_before xs e r in
      let (i, j) = second_only stop (form.end true) (shown cons uncons (both f (tail comma stop f))) (x ∷ xs, e) (pure_refuses ([], true) (form.is_end true) (x ∷ xs, e) refl) (own x next) n (tail_opens comma stop f comma_present a (x ∷ xs, e) (comma_before (own x next)) n h) in
      let (k, g) = after f (λ y. tail comma stop f) x (xs, e) (own x next) next n (λ m d. let q = here next m d in q.same) j in
      let q = here next next k in
      let (o, p) = tail_tells e xs r n others g in
      (fit q.passes q.ends o, p)

  pub listed_tells : (e : Bool) (xs : List A) (r n : List Tok) → Complete f own fits stops xs → (listed comma stop f).behind (xs, e) (elements_own own comma_before xs e r) ≡ Some n
      → (not (is_nil xs && e) ≡ true) × (Fitting own fits stops comma_before e r xs) × (n ≡ r)
  unfolding listed
  listed_tells true [] r n none_complete h = absurd (by_stop (stop r) h)
    where
      by_stop : (b : Bool) → cond {A = Option (List Tok)} b None None ≡ Some n → ⊥
      by_stop true h = cc
      by_stop false h = cc
  listed_tells false [] r n none_complete h = (refl, none_fits, by_stop (stop r) h)
    where
      by_stop : (b : Bool) → cond b (Some r) None ≡ Some n → n ≡ r
      by_stop true h = some_is (sym h)
      by_stop false h = absurd cc
  listed_tells e (x ∷ xs) r n (complete here others) h =
      let next = next_own own comma_before xs e r in
      let (i, j) = second_only stop (form.end false) (shown cons uncons (both f (tail comma stop f))) (x ∷ xs, e) (pure_refuses ([], false) (form.is_end false) (x ∷ xs, e) refl) (own x next) n h in
      let (k, g) = after f (λ y. tail comma stop f) x (xs, e) (own x next) next n (λ m d. let q = here next m d in q.same) j in
      let q = here next next k in
      let (o, p) = tail_tells e xs r n others g in
      (refl, fit q.passes q.ends o, p)

module _ {A : Type 0} (m : Mark) (f : Form A) (own : A → List Tok → List Tok) (fits : A → Bool) (stops : A → Test) (sep : List Tok → List Tok) (p : Present m)
    (a : (k : ℕ) → Alike k f f) (seen : (l : List Tok) → m.at (sep l) ≡ true) (behind : (l : List Tok) → drop m.count (sep l) ≡ l) where
  pub more_tells : (xs : List A) (r n : List Tok) → Complete f own fits stops xs → (more m f).behind xs (next_own own sep xs false r) ≡ Some n
      → (Fitting own fits stops sep false r xs) × (m.at r ≡ false) × (n ≡ r)
  more_tells [] r n none_complete h =
      let (i, j) = second_only m.at (mark m (shown form.prepend form.split_first (both f (more m f)))) (pure [] form.is_nil) [] (mark_refuses m (shown_refuses form.prepend form.split_first (both f (more m f)) [] refl)) r n (more_opens m f p a [] r n h) in
      (none_fits, i, some_is (sym j))
  more_tells (x ∷ xs) r n (complete here others) h =
      let next = next_own own sep xs false r in
      let (i, j) = first_only m.at (mark m (shown form.prepend form.split_first (both f (more m f)))) (pure [] form.is_nil) (x ∷ xs) (pure_refuses [] form.is_nil (x ∷ xs) refl) (sep (own x next)) n (more_opens m f p a (x ∷ xs) (sep (own x next)) n h) in
      let (c, d) = mark_tells m (shown form.prepend form.split_first (both f (more m f))) (x ∷ xs) (sep (own x next)) n j in
      let b = subst (λ z. (both f (more m f)).behind (x, xs) z ≡ Some n) (behind (own x next)) d in
      let (k, g) = after f (λ y. more m f) x xs (own x next) next n (λ o v. let q = here next o v in q.same) b in
      let q = here next next k in
      let (o, u, v) = more_tells xs r n others g in
      (fit q.passes q.ends o, u, v)

  pub joined_tells : (xs : List A) (r n : List Tok) → Complete f own fits stops xs → (joined m f).behind xs (elements_own own sep xs false r) ≡ Some n
      → (is_nil xs ≡ false) × (Fitting own fits stops sep false r xs) × (m.at r ≡ false) × (n ≡ r)
  joined_tells [] r n none_complete h = absurd cc
  joined_tells (x ∷ xs) r n (complete here others) h =
      let next = next_own own sep xs false r in
      let (k, g) = after f (λ y. more m f) x xs (own x next) next n (λ o v. let q = here next o v in q.same) h in
      let q = here next next k in
      let (o, u, v) = more_tells xs r n others g in
      (refl, fit q.passes q.ends o, u, v)
