-- One turn of each loop: how often it may turn at most plays no part, since each turn takes tokens.
use Rattle.std.specs.Prelude.{◌||◌}
use Rattle.std.proofs.Common.{◌≡◌, ℕ, zero, suc, ◌<◌, Bool, true, false, cond, ⊎_elim, List, [], ◌∷◌, drop, Option, Some, None, refl, ap, subst, arith}
use Rattle.syn_tokens.specs.Tok.{Tok, weight}
use Rattle.syn_tokens.specs.Input.{IsTail}
use Rattle.syn_lower_spec.specs.Form.{Outcome, and_then}
use Rattle.syn_lower_spec.specs.Mark.{round_at}
use Rattle.syn_lower_spec.specs.Part.{type}
use Rattle.syn_lower_spec.specs.Pat.{an_index}
use Rattle.syn_lower_spec.proofs.Tails.{nothing_taken, tail_then}
use Rattle.syn_lower_spec.proofs.Weights.{some_is}
use Rattle.syn_expr_spec.specs.declared.kinds.Infix.{Infix}
use Rattle.syn_expr_spec.specs.declared.kinds.Infix.TheVariants as inf
use Rattle.syn_expr_spec.specs.declared.kinds.Limits.TheVariants as limits
use Rattle.syn_expr_spec.specs.declared.kinds.Precedence.{Precedence}
use Rattle.syn_expr_spec.specs.declared.kinds.Place.{Place}
use Rattle.syn_expr_spec.specs.Place.{at, takes}
use Rattle.syn_expr_spec.specs.Op.{infix_at, level}
use Rattle.syn_expr_spec.specs.Front.{ends_open_range, dot_at, question_at, bracket_at}
use Rattle.syn_expr_spec.specs.Head.{dotted}
use Rattle.syn_expr_spec.specs.Tree as tr
use Rattle.syn_expr_spec.specs.Tree.{Tree, Children, Postfix, Trailer, infixed, postfixed, tail, postfix_op}
use Rattle.syn_expr_spec.specs.Slot.{trailer_holder}
use Rattle.syn_expr_spec.specs.Stands.{Content, closes, ends_operation, fits_left, fits_base, infix_stands, postfix_stands, rests, is_range, fields_of, name_at, indices_at, fields_head, trailer_head}
use Rattle.syn_expr_spec.specs.Read.{Reading, content, trailed, trailed_by, indexed_by, dotted_by, trail, operation, postfix_made, infix_read, longer, closing, turn, climb, taken_by, taken_at, next_operator, expr}
use Rattle.syn_expr_spec.proofs.Chains.{then_some, only_some, chosen}
use Rattle.syn_expr_spec.proofs.Needs.{heads}
use Rattle.syn_expr_spec.proofs.HeadMoves.{IsLess, less_then, then_less, dropped, left, left_less, fields_less, trailer_less, name_left}
use Rattle.syn_expr_spec.proofs.Lesses.{here, node_less, content_left, within_less, operator_less}
use Rattle.syn_expr_spec.proofs.Sound.{content_sound}
use Rattle.syn_expr_spec.proofs.Exact.{expr_sound}

-- two ways to go on that agree after what was read agree in all
pub then_same : {A B : Type 0} (o : Outcome A) (f g : A → Reading B) → ((q : A × List Tok) → o ≡ Some q → f q.0 q.1 ≡ g q.0 q.1) → and_then o f ≡ and_then o g
then_same None f g h = refl
then_same (Some q) f g h = h q refl

less_is : {l : List Tok} {q r : Tree × List Tok} → q ≡ r → IsLess q.1 l → IsLess r.1 l
less_is {l} h a = subst (λ (z : Tree × List Tok). IsLess z.1 l) h a

tail_is : {l : List Tok} {q r : Tree × List Tok} → q ≡ r → IsTail q.1 l → IsTail r.1 l
tail_is {l} h a = subst (λ (z : Tree × List Tok). IsTail z.1 l) h a

-- ---- operations

postfix_tail : (p : Place) (x : Tree) (k : Postfix) (n : List Tok) (q : Tree × List Tok) → postfix_made expr p x k n ≡ Some q → IsTail q.1 n
postfix_tail p x k n q h =
    let (f, g) = only_some (postfix_stands p k n) (operation (postfix_op k) (postfixed x k) n) q h in
    let (i, j) = only_some (ends_operation (postfix_op k) n) (Some (postfixed x k, n)) q g in
    tail_is (some_is j) (nothing_taken n)

infix_tail : (p : Place) (x : Tree) (op : Infix) (m : List Tok) (q : Tree × List Tok) → infix_read expr p x op m ≡ Some q → IsTail q.1 m
infix_tail p x op m q h =
    let (f, g) = only_some (infix_stands p op m) (and_then (expr (at p (level op)) m) (λ y. operation op (infixed x op y))) q h in
    let (z, i, j) = then_some (expr (at p (level op)) m) (λ y. operation op (infixed x op y)) q g in
    let (a, b) = only_some (ends_operation op z.1) (Some (infixed x op z.0, z.1)) q j in
    let s = expr_sound (at p (level op)) m z.0 z.1 i in
    let t = node_less s.node in
    tail_is (some_is b) t.tail

pub longer_tail : (p : Place) (x : Tree) (op : Infix) (m : List Tok) (q : Tree × List Tok) → longer expr p x op m ≡ Some q → IsTail q.1 m
unfolding longer
longer_tail p x (inf.Binary op) m q h = infix_tail p x (inf.Binary op) m q h
longer_tail p x inf.Assign m q h = infix_tail p x inf.Assign m q h
longer_tail p x (inf.Range limits.Closed) m q h = infix_tail p x (inf.Range limits.Closed) m q h
longer_tail p x (inf.Range limits.HalfOpen) m q h =
    ⊎_elim (λ j. postfix_tail p x (tr.range_from limits.HalfOpen) m q j.1) (λ j. infix_tail p x (inf.Range limits.HalfOpen) m q j.1)
    (chosen (ends_open_range p.condition m) _ _ (Some q) h)
longer_tail p x inf.Cast m q h =
    let (ty, i, f) = then_some ((type false).reads m) (λ ty. postfix_made expr p x (tr.cast ty)) q h in
    tail_then (left (here.types false) ty.0 m ty.1 (heads.types.sound m ty.0 ty.1 i)) (postfix_tail p x (tr.cast ty.0) ty.1 q f)

taken_some : (v : Precedence) (o : Option (Infix × ℕ)) (k : Infix × ℕ) → taken_by v o ≡ Some k → o ≡ Some k
taken_some v None k h = absurd cc
taken_some v (Some o) k h = let (t, c) = only_some (takes v (level o.0)) (Some o) k h in c

pub next_some : (p : Place) (x : Tree) (l : List Tok) (o : Infix × ℕ) → next_operator p x l ≡ Some o → infix_at l ≡ Some o
unfolding taken_at
next_some p x l o h =
    ⊎_elim (λ c. absurd (cc c.1)) (λ c. taken_some p.level (infix_at l) o c.1)
    (chosen (is_range x || rests p x) None (taken_by p.level (infix_at l)) (Some o) h)

-- an operation takes tokens
longer_less : (p : Place) (x : Tree) (l : List Tok) (o : Infix × ℕ) (q : Tree × List Tok) → next_operator p x l ≡ Some o → longer expr p x o.0 (drop o.1 l) ≡ Some q → IsLess q.1 l
longer_less p x l o q i h = less_then (operator_less l o.0 o.1 (next_some p x l o i)) (longer_tail p x o.0 (drop o.1 l) q h)

closed_is : (p : Place) (x : Tree) (l : List Tok) (q : Tree × List Tok) → closing expr p x l ≡ Some q → (closes p x l ≡ true) × ((x, l) ≡ q)
closed_is p x l q h = let (a, b) = only_some (closes p x l) (Some (x, l)) q h in (a, some_is b)

-- the same after an operation that is closed
turns_same : (p : Place) (x : Tree) (l : List Tok) (o : Infix × ℕ) (f g : Tree → Reading Tree) → next_operator p x l ≡ Some o
    → ((q : Tree × List Tok) → weight q.1 < weight l → f q.0 q.1 ≡ g q.0 q.1) → turn expr p x (Some o) f l ≡ turn expr p x (Some o) g l
turns_same p x l o f g i h = by_fits (fits_left p o.0 x)
  where
    less : (q : Tree × List Tok) → and_then (longer expr p x o.0 (drop o.1 l)) (closing expr p) ≡ Some q → weight q.1 < weight l
    less q k =
        let (z, a, b) = then_some (longer expr p x o.0 (drop o.1 l)) (closing expr p) q k in
        let (c, d) = closed_is p z.0 z.1 q b in
        let e = less_is d (longer_less p x l o z i a) in e.less

    all : and_then (and_then (longer expr p x o.0 (drop o.1 l)) (closing expr p)) f ≡ and_then (and_then (longer expr p x o.0 (drop o.1 l)) (closing expr p)) g
    all = then_same (and_then (longer expr p x o.0 (drop o.1 l)) (closing expr p)) f g (λ q k. h q (less q k))

    by_fits : (b : Bool) → cond b (and_then (and_then (longer expr p x o.0 (drop o.1 l)) (closing expr p)) f) None ≡ cond b (and_then (and_then (longer expr p x o.0 (drop o.1 l)) (closing expr p)) g) None
    by_fits true = all
    by_fits false = refl

climb_same : (n k : ℕ) (p : Place) (x : Tree) (l : List Tok) → weight l < n → weight l < k → climb expr p n x l ≡ climb expr p k x l
unfolding climb
climb_same zero k p x l a b = absurd (omega arith)
climb_same (suc n) zero p x l a b = absurd (omega arith)
climb_same (suc n) (suc k) p x l a b = by_next (λ q c d. climb_same n k p q.0 q.1 c d) (next_operator p x l) refl
  where
    by_next : ((q : Tree × List Tok) → weight q.1 < n → weight q.1 < k → climb expr p n q.0 q.1 ≡ climb expr p k q.0 q.1)
        → (o : Option (Infix × ℕ)) → next_operator p x l ≡ o → turn expr p x o (climb expr p n) l ≡ turn expr p x o (climb expr p k) l
    by_next again None i = refl
    by_next again (Some o) i = turns_same p x l o (climb expr p n) (climb expr p k) i (λ q c. again q (omega arith) (omega arith))

-- ---- trailers

pub climb_turn : (p : Place) (x : Tree) (l : List Tok) → climb expr p (suc (weight l)) x l ≡ turn expr p x (next_operator p x l) (λ y m. climb expr p (suc (weight m)) y m) l
unfolding climb
climb_turn p x l = by_next (next_operator p x l) refl
  where
    by_next : (o : Option (Infix × ℕ)) → next_operator p x l ≡ o → turn expr p x o (climb expr p (weight l)) l ≡ turn expr p x o (λ y m. climb expr p (suc (weight m)) y m) l
    by_next None i = refl
    by_next (Some o) i = turns_same p x l o (climb expr p (weight l)) (λ y m. climb expr p (suc (weight m)) y m) i (λ q c. climb_same (weight l) (suc (weight q.1)) p q.0 q.1 (omega arith) (omega arith))

-- ---- trailers

trailer_holds : (p : Place) (b : Tree) (is : List ℕ) (k : Trailer) (l : List Tok) (q : Tree × List Tok) → trailed_by expr p b is k l ≡ Some q
    → (ks : Children × List Tok) × Content (trailer_holder k) l ks.0 ks.1 × ((tail (fields_of b is) k ks.0, ks.1) ≡ q)
trailer_holds p b is k l q h =
    let (f, g) = only_some (fits_base p k b) (and_then (content expr (trailer_holder k) l) (λ ks n. Some (tail (fields_of b is) k ks, n))) q h in
    let (z, j, c) = then_some (content expr (trailer_holder k) l) (λ ks n. Some (tail (fields_of b is) k ks, n)) q g in
    (z, content_sound heads expr expr_sound (trailer_holder k) l z j, some_is c)

call_less : (p : Place) (b : Tree) (l : List Tok) (q : Tree × List Tok) → trailed_by expr p b [] tr.call l ≡ Some q → IsLess q.1 l
call_less p b l q h = let (ks, c, d) = trailer_holds p b [] tr.call l q h in less_is d (within_less c)

index_less : (p : Place) (b : Tree) (l : List Tok) (q : Tree × List Tok) → trailed_by expr p b [] tr.index l ≡ Some q → IsLess q.1 l
index_less p b l q h = let (ks, c, d) = trailer_holds p b [] tr.index l q h in less_is d (within_less c)

trailer_tail : (p : Place) (b : Tree) (is : List ℕ) (k : Trailer) (l : List Tok) (q : Tree × List Tok) → trailed_by expr p b is k l ≡ Some q → IsTail q.1 l
trailer_tail p b is k l q h = let (ks, c, d) = trailer_holds p b is k l q h in tail_is d (content_left c)

indices_less : (p : Place) (b : Tree) (l n : List Tok) (is : List ℕ) (q : Tree × List Tok) → fields_head l ≡ Some (is, n) → indexed_by expr p b is n ≡ Some q → IsLess q.1 l
indices_less p b l n [] q i h = absurd cc
indices_less p b l n (k ∷ is) q i h =
    let (f, g) = only_some (fits_base p (tr.field (an_index k)) b) (Some (fields_of b (k ∷ is), n)) q h in
    less_is (some_is g) (fields_less l (k ∷ is) n i)

dotted_less : (p : Place) (b : Tree) (l : List Tok) (o : Option (List ℕ × List Tok)) (q : Tree × List Tok) → dot_at l ≡ true → indices_at (drop 1 l) ≡ o
    → dotted_by expr p b o (drop 1 l) ≡ Some q → IsLess q.1 l
unfolding fields_head
dotted_less p b l (Some i) q d v h = indices_less p b l i.1 i.0 q (rw (d, v) refl) h
dotted_less p b l None q d v h =
    let (z, i, f) = then_some (name_at (drop 1 l)) (λ is n. and_then (dotted.reads n) (trailed_by expr p b is)) q h in
    let (k, j, g) = then_some (dotted.reads z.1) (trailed_by expr p b z.0) q f in
    let a = left_less here.trailers k.0 z.1 k.1 (heads.dots.sound z.1 k.0 k.1 j) in
    less_then (then_less (tail_then (dropped 1 l) (name_left (drop 1 l) z.0 z.1 i)) a) (trailer_tail p b z.0 k.0 k.1 q g)

pub trailed_less : (p : Place) (b : Tree) (l : List Tok) (q : Tree × List Tok) → trailed expr p b l ≡ Some q → IsLess q.1 l
unfolding trailed trailer_head
trailed_less p b l q h =
    ⊎_elim (λ j. call_less p b l q j.1) (λ f.
    ⊎_elim (λ j. index_less p b l q j.1) (λ g.
    ⊎_elim (λ j. less_then (trailer_less tr.try_expr l [] (drop 1 l) refl (rw j.0 refl)) (trailer_tail p b [] tr.try_expr (drop 1 l) q j.1))
    (λ i. let (a, c) = only_some (dot_at l) (dotted_by expr p b (indices_at (drop 1 l)) (drop 1 l)) q i.1 in dotted_less p b l (indices_at (drop 1 l)) q a refl c)
    (chosen (question_at l) _ _ (Some q) g.1)) (chosen (bracket_at l) _ _ (Some q) f.1)) (chosen (round_at l) _ _ (Some q) h)

trail_same : (n k : ℕ) (p : Place) (b : Tree) (l : List Tok) → weight l < n → weight l < k → trail expr p n b l ≡ trail expr p k b l
unfolding trail
trail_same zero k p b l c d = absurd (omega arith)
trail_same (suc n) zero p b l c d = absurd (omega arith)
trail_same (suc n) (suc k) p b l c d =
    ap (λ z. cond (closes p b l) (Some (b, l)) z)
    (then_same (trailed expr p b l) (trail expr p n) (trail expr p k) (λ q h. let a = trailed_less p b l q h in trail_same n k p q.0 q.1 (omega (arith, a.less)) (omega (arith, a.less))))

pub trail_turn : (p : Place) (b : Tree) (l : List Tok) → trail expr p (suc (weight l)) b l
    ≡ cond (closes p b l) (Some (b, l)) (and_then (trailed expr p b l) (λ c m. trail expr p (suc (weight m)) c m))
unfolding trail
trail_turn p b l =
    ap (λ z. cond (closes p b l) (Some (b, l)) z)
    (then_same (trailed expr p b l) (trail expr p (weight l)) (λ c m. trail expr p (suc (weight m)) c m) (λ q h. let a = trailed_less p b l q h in trail_same (weight l) (suc (weight q.1)) p q.0 q.1 (omega (arith, a.less)) (omega arith)))
