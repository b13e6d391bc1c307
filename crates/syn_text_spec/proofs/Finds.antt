-- What is read of a list that a text falls into keeps such leaves alone, and leaves such a list.
use Rattle.std.proofs.Common.{◌≡◌, ℕ, zero, suc, Bool, true, false, not, ◌&&◌, cond, List, [], ◌∷◌, ◌++◌, drop, Option, Some, None, refl, ◌∙◌, ap, subst}
use Rattle.std.proofs.lemmas.Bool.{and_parts, and_from}
use Rattle.syn_lexer.specs.declared.front.Delimiter.{Delimiter}
use Rattle.syn_lexer.specs.declared.front.Delimiter.TheVariants as del
use Rattle.syn_tokens.specs.Tok.{Tok, Inside, toks, nothing, first, ident, punct, literal, group, weight}
use Rattle.syn_tokens.specs.Front.{same_delimiter, group_at}
use Rattle.syn_lower_spec.specs.Form.{Form, Outcome, Test, Mark, and_then, never, when, mark, then_by, both, shown, pure, leaf, whole, inside_reads, inside, case, group_case, is_true, flag, is_none, itself, maybe, cons, uncons, is_end, iterate, fix, tail_step, tail, listed, prepend, split_first, is_nil, more_step, more, joined, closed_by}
use Rattle.syn_lower_spec.proofs.Weights.{some_is}
use Rattle.syn_lower_spec.proofs.Forms.{bind_some}
use Rattle.syn_text.specs.Lexed.{is_written, stays, inside_is_lexed, is_lexed}
use Rattle.syn_text_spec.specs.Leaves.{all_lexed}
use Rattle.syn_text_spec.proofs.Lists.{Lexed}

-- ---- ends of such lists, and what is in their groups

pub behind : {t : Tok} {l : List Tok} → Lexed (t ∷ l) → Lexed l
behind {t} {l} h = record { is = (and_parts (stays t l) (is_lexed l) h.is).1 }

pub stays_here : {t : Tok} {l : List Tok} → Lexed (t ∷ l) → stays t l ≡ true
stays_here {t} {l} h = (and_parts (stays t l) (is_lexed l) h.is).0

pub dropped : (n : ℕ) (l : List Tok) → Lexed l → Lexed (drop n l)
dropped zero l h = h
dropped (suc n) [] h = h
dropped (suc n) (t ∷ l) h = dropped n l (behind h)

toks_lexed : (i : Inside) → is_lexed (toks i) ≡ inside_is_lexed i
toks_lexed nothing = refl
toks_lexed (first t i) = ap (λ b. stays t (toks i) && b) (toks_lexed i)

-- what is in a group, that it is delimited, and what is after it
pub in_group : {d : Delimiter} {i : Inside} {l : List Tok} → Lexed (group d i ∷ l) → Lexed (toks i) × (is_written d ≡ true) × Lexed l
in_group {d} {i} {l} h =
    let p = and_parts (is_written d) (inside_is_lexed i) (stays_here h) in
    (record { is = toks_lexed i ∙ p.1 }, p.0, behind h)

-- both lists of an answer
abbrev pub Both : List Tok × List Tok → Type 0
Both p = Lexed p.0 × Lexed p.1

pub group_parts : (d : Delimiter) (l inner n : List Tok) → group_at d l ≡ Some (inner, n) → Lexed l → Lexed inner × Lexed n
unfolding group_at
group_parts d [] inner n h l = absurd cc
group_parts d (ident s ∷ ts) inner n h l = absurd cc
group_parts d (punct c s ∷ ts) inner n h l = absurd cc
group_parts d (literal s ∷ ts) inner n h l = absurd cc
group_parts d (group found i ∷ ts) inner n h l = by_bool (same_delimiter found d) h
  where
    by_bool : (b : Bool) → cond {A = Option (List Tok × List Tok)} b (Some (toks i, ts)) None ≡ Some (inner, n) → Lexed inner × Lexed n
    by_bool true g = let p = in_group l in subst Both (some_is g) (p.0, p.2)
    by_bool false g = absurd cc

-- no group without delimiters is there
pub none_there : (l inner n : List Tok) → group_at del.None l ≡ Some (inner, n) → Lexed l → ⊥
unfolding group_at
none_there [] inner n h l = cc
none_there (ident s ∷ ts) inner n h l = cc
none_there (punct c s ∷ ts) inner n h l = cc
none_there (literal s ∷ ts) inner n h l = cc
none_there (group del.None i ∷ ts) inner n h l = let p = in_group l in let e = p.1 in cc
none_there (group del.Parenthesis i ∷ ts) inner n h l = cc
none_there (group del.Brace i ∷ ts) inner n h l = cc
none_there (group del.Bracket i ∷ ts) inner n h l = cc

-- ---- forms

pub record Finds {A : Type 0} (P : A → Type 0) (f : Form A) : Type 0 where
  pub finds : (l : List Tok) (x : A) (n : List Tok) → f.reads l ≡ Some (x, n) → Lexed l → P x × Lexed n

pub moved : {A : Type 0} (P : A → Type 0) (x y : A) (m n : List Tok) → ◌≡◌ {A = Outcome A} (Some (x, m)) (Some (y, n)) → P x × Lexed m → P y × Lexed n
moved {A} P x y m n h t = subst (λ (z : A × List Tok). P z.0 × Lexed z.1) (some_is h) t

pub never_finds : {A : Type 0} {P : A → Type 0} → Finds P (never {A = A})
never_finds = record { finds = λ l x n h g. absurd cc }

pub when_finds : {A : Type 0} {P : A → Type 0} {f g : Form A} (at : Test) → Finds P f → Finds P g → Finds P (when at f g)
when_finds {A} {P} {f} {g} at a c = record { finds = λ l x n. go (at l) l x n }
  where
    go : (b : Bool) (l : List Tok) (x : A) (n : List Tok) → cond b (f.reads l) (g.reads l) ≡ Some (x, n) → Lexed l → P x × Lexed n
    go true l x n h = a.finds l x n h
    go false l x n h = c.finds l x n h

pub mark_finds : {A : Type 0} {P : A → Type 0} {f : Form A} (m : Mark) → Finds P f → Finds P (mark m f)
mark_finds {A} {P} {f} m a = record { finds = λ l x n. go (m.at l) l x n }
  where
    go : (b : Bool) (l : List Tok) (x : A) (n : List Tok) → cond b (f.reads (drop m.count l)) None ≡ Some (x, n) → Lexed l → P x × Lexed n
    go true l x n h g = a.finds (drop m.count l) x n h (dropped m.count l g)
    go false l x n h g = absurd cc

pub then_by_finds : {A B : Type 0} {P : A → Type 0} {Q : B → Type 0} {f : Form A} {g : A → Form B} → Finds P f → ((x : A) → Finds Q (g x))
    → Finds (λ (p : A × B). P p.0 × Q p.1) (then_by f g)
then_by_finds {A} {B} {P} {Q} {f} {g} a c = record {
  finds = λ l p n h lx.
      let (q, e, j) = bind_some (f.reads l) (λ x m. and_then ((g x).reads m) (λ y n. Some ((x, y), n))) (p, n) h in
      let (r, d, i) = bind_some ((g q.0).reads q.1) (λ y n. Some ((q.0, y), n)) (p, n) j in
      let b = c q.0 in
      let one = a.finds l q.0 q.1 e lx in
      let two = b.finds q.1 r.0 r.1 d one.1 in
      moved (λ (z : A × B). P z.0 × Q z.1) (q.0, r.0) p r.1 n i ((one.0, two.0), two.1);
}

pub both_finds : {A B : Type 0} {P : A → Type 0} {Q : B → Type 0} {f : Form A} {g : Form B} → Finds P f → Finds Q g → Finds (λ (p : A × B). P p.0 × Q p.1) (both f g)
both_finds a c = then_by_finds a (λ x. c)

pub shown_finds : {A B : Type 0} {P : A → Type 0} {Q : B → Type 0} {f : Form A} (to : A → B) (from : B → Option A) → Finds P f → ((x : A) → P x → Q (to x)) → Finds Q (shown to from f)
shown_finds {A} {B} {P} {Q} {f} to from a k = record {
  finds = λ l y n h lx.
      let (q, e, j) = bind_some (f.reads l) (λ x n. Some (to x, n)) (y, n) h in
      let one = a.finds l q.0 q.1 e lx in
      moved Q (to q.0) y q.1 n j (k q.0 one.0, one.1);
}

pub pure_finds : {A : Type 0} {P : A → Type 0} (x : A) (is : A → Bool) → P x → Finds P (pure x is)
pure_finds {A} {P} x is p = record { finds = λ l y n h lx. moved P x y l n h (p, lx) }

pub leaf_finds : {A : Type 0} {P : A → Type 0} (same : A → A → Bool) {found : List Tok → Outcome A}
    → ((l : List Tok) (x : A) (n : List Tok) → found l ≡ Some (x, n) → Lexed l → P x × Lexed n) → Finds P (leaf same found)
leaf_finds same w = record { finds = w }

pub inside_finds : {A : Type 0} {P : A → Type 0} {f : Form A} (d : Delimiter) → Finds P f → Finds P (inside d f)
inside_finds {A} {P} {f} d a = record { finds = λ l x n. go l (group_at d l) x n refl }
  where
    go : (l : List Tok) (o : Option (List Tok × List Tok)) (x : A) (n : List Tok) → group_at d l ≡ o → inside_reads f o ≡ Some (x, n) → Lexed l → P x × Lexed n
    go l None x n e h lx = absurd cc
    go l (Some g) x n e h lx = ended (f.reads g.0) refl h
      where
        parts : Lexed g.0 × Lexed g.1
        parts = group_parts d l g.0 g.1 e lx

        ended : (o : Outcome A) → f.reads g.0 ≡ o → whole o g.1 ≡ Some (x, n) → P x × Lexed n
        ended None i j = absurd cc
        ended (Some (y, [])) i j = moved P y x g.1 n j ((a.finds g.0 y [] i parts.0).0, parts.1)
        ended (Some (y, t ∷ m)) i j = absurd cc

module _ {I : Type 0} {A : I → Type 0} {P : (i : I) → A i → Type 0} where
  iterate_finds : {step : ((i : I) → Form (A i)) → (i : I) → Form (A i)} → ((t : (i : I) → Form (A i)) → ((i : I) → Finds (P i) (t i)) → (i : I) → Finds (P i) (step t i)) → (n : ℕ) (i : I) → Finds (P i) (iterate step n i)
  unfolding iterate
  iterate_finds s zero i = never_finds
  iterate_finds {step = step} s (suc n) i = s (iterate step n) (λ j. iterate_finds s n j) i

  pub fix_finds : {step : ((i : I) → Form (A i)) → (i : I) → Form (A i)} → ((t : (i : I) → Form (A i)) → ((i : I) → Finds (P i) (t i)) → (i : I) → Finds (P i) (step t i)) → (i : I) → Finds (P i) (fix step i)
  unfolding fix
  fix_finds {step} s i = record { finds = λ l x n h. let a = iterate_finds s (suc (weight l)) i in a.finds l x n h }

-- ---- lists

-- each element
abbrev pub Each : {A : Type 0} → (A → Type 0) → List A → Type 0
Each P [] = Unit {0}
Each P (x ∷ xs) = P x × Each P xs

pub each_lexed : {A : Type 0} (test : A → Bool) (xs : List A) → Each (λ x. test x ≡ true) xs → all_lexed test xs ≡ true
each_lexed test [] h = refl
each_lexed test (x ∷ xs) h = and_from (test x) (all_lexed test xs) h.0 (each_lexed test xs h.1)

pub each_append : {A : Type 0} (P : A → Type 0) (xs ys : List A) → Each P xs → Each P ys → Each P (xs ++ ys)
each_append P [] ys h g = g
each_append P (x ∷ xs) ys h g = (h.0, each_append P xs ys h.1 g)

abbrev pub EachOf : {A : Type 0} → (A → Type 0) → List A × Bool → Type 0
EachOf P p = Each P p.0

cons_each : {A : Type 0} (P : A → Type 0) (p : A × (List A × Bool)) → P p.0 × EachOf P p.1 → EachOf P (cons p)
cons_each P (x, (xs, b)) h = h

prepend_each : {A : Type 0} (P : A → Type 0) (p : A × List A) → P p.0 × Each P p.1 → Each P (prepend p)
prepend_each P (x, xs) h = h

pub tail_finds : {A : Type 0} {P : A → Type 0} {f : Form A} (m : Mark) (stop : Test) → Finds P f → Finds (EachOf P) (tail m stop f)
unfolding tail
tail_finds {A} {P} {f} m stop a =
    fix_finds {A = λ i. List A × Bool} {P = λ i. EachOf P} {step = tail_step m stop f}
    (λ t r i. when_finds m.at (mark_finds m (when_finds stop (pure_finds {P = EachOf P} ([], true) (is_end true) tt) (shown_finds {Q = EachOf P} cons uncons (both_finds a (r i)) (cons_each P))))
    (pure_finds {P = EachOf P} ([], false) (is_end false) tt)) tt

pub listed_finds : {A : Type 0} {P : A → Type 0} {f : Form A} (m : Mark) (stop : Test) → Finds P f → Finds (EachOf P) (listed m stop f)
unfolding listed
listed_finds {A} {P} m stop a =
    when_finds stop (pure_finds {P = EachOf P} ([], false) (is_end false) tt) (shown_finds {Q = EachOf P} cons uncons (both_finds a (tail_finds m stop a)) (cons_each P))

pub more_finds : {A : Type 0} {P : A → Type 0} {f : Form A} (m : Mark) → Finds P f → Finds (Each P) (more m f)
unfolding more
more_finds {A} {P} {f} m a =
    fix_finds {A = λ i. List A} {P = λ i. Each P} {step = more_step m f}
    (λ t r i. when_finds m.at (mark_finds m (shown_finds {Q = Each P} prepend split_first (both_finds a (r i)) (prepend_each P))) (pure_finds {P = Each P} [] is_nil tt)) tt

pub joined_finds : {A : Type 0} {P : A → Type 0} {f : Form A} (m : Mark) → Finds P f → Finds (Each P) (joined m f)
joined_finds {A} {P} m a = shown_finds {Q = Each P} prepend split_first (both_finds a (more_finds m a)) (prepend_each P)

-- ---- parts that are there or not

abbrev pub Nothing : {A : Type 0} → A → Type 0
Nothing x = Unit {0}

abbrev pub IfThere : {A : Type 0} → (A → Type 0) → Option A → Type 0
IfThere P None = Unit {0}
IfThere P (Some x) = P x

pub maybe_finds : {A : Type 0} {P : A → Type 0} {f : Form A} (at : Test) → Finds P f → Finds (IfThere P) (maybe at f)
maybe_finds {A} {P} at a = when_finds at (shown_finds {Q = IfThere P} Some itself a (λ x h. h)) (pure_finds {P = IfThere P} None is_none tt)

pub closed_by_finds : {A : Type 0} {P : A → Type 0} {f : Form A} (m : Mark) → Finds P f → Finds P (closed_by m f)
closed_by_finds {A} {P} m a = shown_finds {Q = P} (λ p. p.0) (λ x. Some (x, tt)) (both_finds a (mark_finds m (pure_finds {P = Nothing} tt (λ (u : Unit {0}). true) tt))) (λ p h. h.0)

pub flag_finds : (m : Mark) → Finds Nothing (flag m)
flag_finds m = when_finds m.at (mark_finds m (pure_finds {P = Nothing} true is_true tt)) (pure_finds {P = Nothing} false not tt)

pub case_finds : {A : Type 0} {P : A → Type 0} {f g : Form A} (m : Mark) → Finds P f → Finds P g → Finds P (case m f g)
case_finds m a c = when_finds m.at (mark_finds m a) c

pub group_case_finds : {A : Type 0} {P : A → Type 0} {f g : Form A} (d : Delimiter) → Finds P f → Finds P g → Finds P (group_case d f g)
group_case_finds d a c = when_finds _ (inside_finds d a) c
