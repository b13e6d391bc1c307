-- The parts of a text, and what is written of them one after the other.
use Rattle.std.proofs.Common.{◌≡◌, ◌⊎◌, inl, inr, ℕ, ◌<◌, ◌≤◌, Bool, true, false, ◌&&◌, List, [], ◌∷◌, ◌++◌, length, take, drop, refl, sym, ap, ◌∙◌, subst, append_assoc, append-nil, length-append, take-append-drop, arith}
use Rattle.std.specs.Prelude.{◌+◌, nat_le, Option, Some, None, MatchOption, Result, Ok, Err, OnOk, chars, codes}
use denote.Ref.{Bor}
use Rattle.std.specs.Str.Pattern.{FindsText}
use Rattle.std.specs.Io.KnownBytes.{Appends}
use Rattle.std.proofs.KnownBytes.{Appends-trans}
use Rattle.std.proofs.lemmas.Bool.Decides.{leb_tells}
use Rattle.std.proofs.lemmas.List.{drop_at}
use Rattle.syn_tokens.specs.declared.error.Error.{Error}
use Rattle.syn_tokens.specs.declared.error.ErrorKind.TheVariants.{OutOfMemory}
use Rattle.syn_expr.specs.Texts.{NothingStands}
use Rattle.syn_report.specs.Report.{added}
use Rattle.exprs.specs.Kinds.{counted}
use Rattle.exprs.specs.Line.{IsLine}
use Rattle.std.specs.Str.{trim}
use Rattle.std.proofs.Math.Bool.{and-true}
use Rattle.exprs.specs.Answers.{IsRefusal, TakesRefusal, Source, Outcome, separator, blank, printed, refused, Follows, is_read, line, line_unless, tallied, report_of, line_ends, writer, Room, room, Takes, HasNone, CutsFirst, CutBy, Writes, FollowEach, all_read, lines, all_tallied, reports, WritesAll, without_blanks, joined, HasEmptyLines}

-- ---- the first separator

before_is_least : (sep bytes : List ℕ) (i : ℕ) → ((k : ℕ) → k < i → (ys : List ℕ) → drop k bytes ≡ sep ++ ys → ⊥) → (xs ys : List ℕ) → bytes ≡ xs ++ (sep ++ ys) → i ≤ length xs
before_is_least sep bytes i lacks xs ys e = by_order (leb_tells i (length xs))
  where
    by_order : ((nat_le i (length xs) ≡ true) × (i ≤ length xs)) ⊎ ((nat_le i (length xs) ≡ false) × (length xs < i)) → i ≤ length xs
    by_order (inl h) = h.1
    by_order (inr h) = absurd (lacks (length xs) h.1 ys (ap (drop (length xs)) e ∙ drop_at xs (sep ++ ys) (length xs) refl))

pub first_cut : (sep bytes : List ℕ) (r : Option (Bor (List ℕ) × Bor (List ℕ)))
    → MatchOption r (FindsText sep bytes None) (λ x. (i : ℕ) × (j : ℕ) × FindsText sep bytes (Some (i, j)) × (x.0.now ≡ take i bytes) × (x.1.now ≡ drop j bytes) × (i ≤ j) × (length x.0.now ≡ i) × (length x.1.now + j ≡ length bytes))
    → MatchOption r (HasNone sep bytes) (λ x. CutsFirst sep bytes x.0.now x.1.now)
first_cut sep bytes None h = λ xs ys e. h (length xs) (omega (arith, ap length e, length-append xs (sep ++ ys))) ys (ap (drop (length xs)) e ∙ drop_at xs (sep ++ ys) (length xs) refl)
first_cut sep bytes (Some x) h = (
  sym (take-append-drop h.0 bytes) ∙ ap (λ l. take h.0 bytes ++ l) h.2.1.split ∙ (λ k. sym h.3 k ++ (sep ++ sym h.4 k)),
  λ xs ys e. subst (λ n. n ≤ length xs) (sym h.6) (before_is_least sep bytes h.0 h.2.0 xs ys e),
)

-- ---- the parts that were cut off, before the rest

abbrev pub CutUpTo : List ℕ → List ℕ → List (List ℕ) → List ℕ → Type 0
CutUpTo sep bytes [] rest = bytes ≡ rest
CutUpTo sep bytes (p ∷ ps) rest = (more : List ℕ) × CutsFirst sep bytes p more × CutUpTo sep more ps rest

cut_more : (sep bytes : List ℕ) (ps : List (List ℕ)) (rest p more : List ℕ) → CutUpTo sep bytes ps rest → CutsFirst sep rest p more → CutUpTo sep bytes (ps ++ p ∷ []) more
cut_more sep bytes [] rest p more h k = (more, subst (λ l. CutsFirst sep l p more) (sym h) k, refl)
cut_more sep bytes (q ∷ ps) rest p more (m, f, h) k = (m, f, cut_more sep m ps rest p more h k)

cut_last : (sep bytes : List ℕ) (ps : List (List ℕ)) (rest : List ℕ) → CutUpTo sep bytes ps rest → HasNone sep rest → CutBy sep bytes (ps ++ rest ∷ [])
cut_last sep bytes [] rest h lacks = (h, subst (HasNone sep) (sym h) lacks)
cut_last sep bytes (q ∷ []) rest (m, f, h) lacks = (m, f, cut_last sep m [] rest h lacks)
cut_last sep bytes (q ∷ r ∷ ps) rest (m, f, h) lacks = (m, f, cut_last sep m (r ∷ ps) rest h lacks)

-- ---- one part more

follow_more : (src : Source) (ps : List (List ℕ)) (os : List Outcome) (p : List ℕ) (o : Outcome) → FollowEach src ps os → Follows src p o → FollowEach src (ps ++ p ∷ []) (os ++ o ∷ [])
follow_more src [] [] p o h k = (k, tt)
follow_more src (q ∷ ps) (x ∷ os) p o h k = (h.0, follow_more src ps os p o h.1 k)
follow_more src [] (x ∷ os) p o h k = absurd h
follow_more src (q ∷ ps) [] p o h k = absurd h

and_assoc : (a b c : Bool) → (a && (b && c)) ≡ ((a && b) && c)
and_assoc true b c = refl
and_assoc false b c = refl

read_more : (os : List Outcome) (o : Outcome) → all_read (os ++ o ∷ []) ≡ (all_read os && is_read o)
read_more [] o = and-true (is_read o)
read_more (x ∷ os) o = ap (λ b. is_read x && b) (read_more os o) ∙ and_assoc (is_read x) (all_read os) (is_read o)

lines_more : (kinds : Bool) (os : List Outcome) (o : Outcome) → lines kinds (os ++ o ∷ []) ≡ lines kinds os ++ line kinds o
lines_more kinds [] o = append-nil (line kinds o)
lines_more kinds (x ∷ os) o = ap (λ l. line kinds x ++ l) (lines_more kinds os o) ∙ sym (append_assoc (line kinds x) (lines kinds os) (line kinds o))

tallied_more : (os : List Outcome) (o : Outcome) (ns : List ℕ) → all_tallied (os ++ o ∷ []) ns ≡ tallied o (all_tallied os ns)
tallied_more [] o ns = refl
tallied_more (x ∷ os) o ns = tallied_more os o (tallied x ns)

-- how many lines come before what is after these parts
abbrev pub lines_after : Source → ℕ → List (List ℕ) → ℕ
lines_after src n [] = n
lines_after src n (p ∷ ps) = lines_after src (added n (added (line_ends p) (line_ends src.separator))) ps

lines_before_more : (src : Source) (n : ℕ) (ps : List (List ℕ)) (p : List ℕ) → lines_after src n (ps ++ p ∷ []) ≡ added (lines_after src n ps) (added (line_ends p) (line_ends src.separator))
lines_before_more src n [] p = refl
lines_before_more src n (q ∷ ps) p = lines_before_more src (added n (added (line_ends q) (line_ends src.separator))) ps p

reports_more : (src : Source) (n : ℕ) (ps : List (List ℕ)) (os : List Outcome) (p : List ℕ) (o : Outcome) → FollowEach src ps os
    → reports src n (ps ++ p ∷ []) (os ++ o ∷ []) ≡ reports src n ps os ++ report_of src.name (lines_after src n ps) p o
reports_more src n [] [] p o h = append-nil (report_of src.name n p o)
reports_more src n (q ∷ ps) (x ∷ os) p o h =
    ap (λ l. report_of src.name n q x ++ l) (reports_more src (added n (added (line_ends q) (line_ends src.separator))) ps os p o h.1)
    ∙ sym (append_assoc (report_of src.name n q x) (reports src (added n (added (line_ends q) (line_ends src.separator))) ps os)
    (report_of src.name (lines_after src (added n (added (line_ends q) (line_ends src.separator))) ps) p o))
reports_more src n [] (x ∷ os) p o h = absurd h
reports_more src n (q ∷ ps) [] p o h = absurd h

-- ---- what was written up to the rest

pub record WroteUpTo (src : Source) (rest : List ℕ) (n : ℕ) (all : Bool) (room : Room) : Type 0 where
  pub parts : List (List ℕ)
  pub outcomes : List Outcome
  pub cut : CutUpTo src.separator src.whole parts rest
  pub follow : FollowEach src parts outcomes
  pub read : all ≡ all_read outcomes
  pub place : n ≡ lines_after src 0 parts
  pub wrote : Takes room.output (lines src.kinds outcomes)
  pub reported : Takes room.errors (reports src 0 parts outcomes)
  pub tally : room.holds ≡ all_tallied outcomes room.held

pub appends_none : (held : Option (List ℕ)) → Appends held held []
appends_none None = tt
appends_none (Some l) = sym (append-nil l)

-- ---- what is written of one part

pub writes_blank : (src : Source) (n : ℕ) (part : List ℕ) (a x : Option (List ℕ)) (ns : List ℕ) → trim part ≡ [] → Writes src n part true (room (writer a a) (writer x x) ns ns)
writes_blank src n part a x ns h = (blank, h, refl, appends_none a, appends_none x, refl)

pub writes_line : (src : Source) (n : ℕ) (part : List ℕ) (kind : ℕ) (bytes text : List ℕ) (a b x : Option (List ℕ)) (ns ms : List ℕ) → text ≡ bytes
    → IsLine src.dump src.tidy src.position src.bare (chars part) kind bytes → Appends a b (line_unless src.kinds text) → ms ≡ counted kind ns
    → Writes src n part true (room (writer a b) (writer x x) ns ms)
writes_line src n part kind bytes text a b x ns ms same is wrote tally =
    (printed kind bytes, is, refl, subst (λ l. Appends a b (line_unless src.kinds l)) same wrote, appends_none x, tally)

pub writes_refusal : (src : Source) (n : ℕ) (part : List ℕ) (e : Error) (a x y : Option (List ℕ)) (ns : List ℕ) → (e.kind ≡ OutOfMemory) ⊎ NothingStands (chars part)
    → TakesRefusal src.name n part e (writer x y) → Writes src n part false (room (writer a a) (writer x y) ns ns)
writes_refusal src n part e a x y ns h (further, are, wrote) = (refused e further, (are, h), refl, appends_none a, wrote, refl)

pub takes_refusal : {U E : Type 0} (r : Result U E) (name : List ℕ) (n : ℕ) (part : List ℕ) (e : Error) (bytes text : List ℕ) (x y : Option (List ℕ)) → IsRefusal name n part e bytes
    → text ≡ bytes → OnOk r (Appends x y text) → OnOk r (TakesRefusal name n part e (writer x y))
takes_refusal (Ok u) name n part e bytes text x y (further, are, is) same h = (further, are, subst (Appends x y) (same ∙ is) h)
takes_refusal (Err z) name n part e bytes text x y is same h = tt

pub none_found : {A : Type 0} (r : Option A) (P : Type 0) (Q : A → Type 0) → ((x : A) → r ≡ Some x → ⊥) → MatchOption r P Q → P
none_found None P Q lacks h = h
none_found (Some x) P Q lacks h = absurd (lacks x refl)

-- ---- all of them

pub writes_none : (src : Source) (a x : Option (List ℕ)) (ns : List ℕ) → WroteUpTo src src.whole 0 true (room (writer a a) (writer x x) ns ns)
writes_none src a x ns =
    record { parts = []; outcomes = []; cut = refl; follow = tt; read = refl; place = refl; wrote = appends_none a; reported = appends_none x; tally = refl }

module _ (src : Source) (rest : List ℕ) (n : ℕ) (all b : Bool) (a c d x y z : Option (List ℕ)) (ks ls ms : List ℕ) where
  wrote_more : (p more : List ℕ) → WroteUpTo src rest n all (room (writer a c) (writer x y) ks ls) → CutsFirst src.separator rest p more
      → Writes src n p b (room (writer c d) (writer y z) ls ms) → WroteUpTo src more (added n (added (line_ends p) (line_ends src.separator))) (all && b) (room (writer a d) (writer x z) ks ms)
  wrote_more p more before cuts (o, follows, is, wrote, reported, tally) = record {
    parts = before.parts ++ p ∷ [];
    outcomes = before.outcomes ++ o ∷ [];
    cut = cut_more src.separator src.whole before.parts rest p more before.cut cuts;
    follow = follow_more src before.parts before.outcomes p o before.follow follows;
    read = ap (λ t. t && b) before.read ∙ ap (λ t. all_read before.outcomes && t) is ∙ sym (read_more before.outcomes o);
    place = ap (λ k. added k (added (line_ends p) (line_ends src.separator))) before.place ∙ sym (lines_before_more src 0 before.parts p);
    wrote = subst (Appends a d) (sym (lines_more src.kinds before.outcomes o)) (Appends-trans a c d (lines src.kinds before.outcomes) (line src.kinds o) before.wrote wrote);
    reported = subst (Appends x z) (ap (λ k. reports src 0 before.parts before.outcomes ++ report_of src.name k p o) before.place ∙ sym (reports_more src 0 before.parts before.outcomes p o before.follow))
        (Appends-trans x y z (reports src 0 before.parts before.outcomes) (report_of src.name n p o) before.reported reported);
    tally = tally ∙ ap (tallied o) before.tally ∙ sym (tallied_more before.outcomes o ks);
  }

  -- the same by what the code has
  pub writes_more : (p more sep : List ℕ) (place : ℕ) (still : Bool) → sep ≡ src.separator → place ≡ added n (added (line_ends p) (line_ends sep)) → still ≡ (all && b)
      → WroteUpTo src rest n all (room (writer a c) (writer x y) ks ls) → CutsFirst sep rest p more → Writes src n p b (room (writer c d) (writer y z) ls ms)
      → WroteUpTo src more place still (room (writer a d) (writer x z) ks ms)
  writes_more p more sep place still is here so before cuts reported = rw (here, so, is) (wrote_more p more before (subst (λ s. CutsFirst s rest p more) is cuts) reported)

  writes_rest : WroteUpTo src rest n all (room (writer a c) (writer x y) ks ls) → HasNone src.separator rest
      → Writes src n rest b (room (writer c d) (writer y z) ls ms) → WritesAll src (all && b) (room (writer a d) (writer x z) ks ms)
  writes_rest before lacks (o, follows, is, wrote, reported, tally) = (
    before.parts ++ rest ∷ [],
    before.outcomes ++ o ∷ [],
    cut_last src.separator src.whole before.parts rest before.cut lacks,
    follow_more src before.parts before.outcomes rest o before.follow follows,
    ap (λ t. t && b) before.read ∙ ap (λ t. all_read before.outcomes && t) is ∙ sym (read_more before.outcomes o),
    subst (Appends a d) (sym (lines_more src.kinds before.outcomes o)) (Appends-trans a c d (lines src.kinds before.outcomes) (line src.kinds o) before.wrote wrote),
    subst (Appends x z) (ap (λ k. reports src 0 before.parts before.outcomes ++ report_of src.name k rest o) before.place ∙ sym (reports_more src 0 before.parts before.outcomes rest o before.follow))
        (Appends-trans x y z (reports src 0 before.parts before.outcomes) (report_of src.name n rest o) before.reported reported),
    tally ∙ ap (tallied o) before.tally ∙ sym (tallied_more before.outcomes o ks),
  )

  pub writes_last : (sep : List ℕ) (still : Bool) → sep ≡ src.separator → still ≡ (all && b) → WroteUpTo src rest n all (room (writer a c) (writer x y) ks ls) → HasNone sep rest
      → Writes src n rest b (room (writer c d) (writer y z) ls ms) → WritesAll src still (room (writer a d) (writer x z) ks ms)
  writes_last sep still is so before lacks reported = rw so (writes_rest before (subst (λ s. HasNone s rest) is lacks) reported)

pub is_less : (blocks : Bool) (sep bytes front rest : List ℕ) → sep ≡ separator blocks → CutsFirst sep bytes front rest → length rest < length bytes
is_less true sep bytes front rest is h = omega (arith, ap length h.0, length-append front (sep ++ rest), length-append sep rest, ap length is)
is_less false sep bytes front rest is h = omega (arith, ap length h.0, length-append front (sep ++ rest), length-append sep rest, ap length is)

pub regroup : (a b c d : List ℕ) → a ++ (b ++ (c ++ d)) ≡ a ++ b ++ c ++ d
regroup a b c d = sym (append_assoc (a ++ b) c d ∙ append_assoc a b (c ++ d))

-- ---- lines that are blank made empty

-- lines with `\n` after each
abbrev pub ended : List (List ℕ) → List ℕ
ended [] = []
ended (l ∷ ls) = without_blanks l ++ (codes "\n" ++ ended ls)

ended_more : (ls : List (List ℕ)) (l : List ℕ) → ended (ls ++ l ∷ []) ≡ ended ls ++ (without_blanks l ++ codes "\n")
ended_more [] l = refl
ended_more (x ∷ ls) l = ap (λ t. without_blanks x ++ (codes "\n" ++ t)) (ended_more ls l) ∙ regrouped (without_blanks x) (codes "\n") (ended ls) (without_blanks l ++ codes "\n")
  where
    regrouped : (a b c d : List ℕ) → a ++ (b ++ (c ++ d)) ≡ (a ++ (b ++ c)) ++ d
    regrouped a b c d = simp append_assoc

joined_last : (ls : List (List ℕ)) (l : List ℕ) → joined (ls ++ l ∷ []) ≡ ended ls ++ without_blanks l
joined_last [] l = refl
joined_last (x ∷ []) l = sym (append_assoc (without_blanks x) (codes "\n") (without_blanks l))
joined_last (x ∷ y ∷ ls) l = ap (λ t. without_blanks x ++ (codes "\n" ++ t)) (joined_last (y ∷ ls) l) ∙ sym (append_assoc (without_blanks x) (codes "\n" ++ ended (y ∷ ls)) (without_blanks l))

-- the lines up to the rest, and what was made of them
abbrev pub EmptiedUpTo : List ℕ → List ℕ → List ℕ → Type 0
EmptiedUpTo bytes rest made = (ls : List (List ℕ)) × CutUpTo (codes "\n") bytes ls rest × (made ≡ ended ls)

pub emptied_none : (bytes made : List ℕ) → made ≡ [] → EmptiedUpTo bytes bytes made
emptied_none bytes made e = ([], refl, e)

pub emptied_more : (bytes rest line more made next : List ℕ) → EmptiedUpTo bytes rest made → CutsFirst (codes "\n") rest line more
    → next ≡ made ++ without_blanks line ++ codes "\n" → EmptiedUpTo bytes more next
emptied_more bytes rest line more made next (ls, cut, is) cuts e = (
  ls ++ line ∷ [],
  cut_more (codes "\n") bytes ls rest line more cut cuts,
  e ∙ append_assoc made (without_blanks line) (codes "\n") ∙ ap (λ t. t ++ (without_blanks line ++ codes "\n")) is ∙ sym (ended_more ls line),
)

pub emptied_all : (bytes rest made text : List ℕ) → EmptiedUpTo bytes rest made → HasNone (codes "\n") rest → text ≡ made ++ without_blanks rest → HasEmptyLines bytes text
emptied_all bytes rest made text (ls, cut, is) lacks e = (
  ls ++ rest ∷ [],
  cut_last (codes "\n") bytes ls rest cut lacks,
  e ∙ ap (λ t. t ++ without_blanks rest) is ∙ sym (joined_last ls rest),
)
