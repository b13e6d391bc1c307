-- What stands has its commas and dots: nothing is filled in.
use Rattle.std.proofs.Common.{◌≡◌, ℕ, Bool, true, false, not, ◌||◌, ◌&&◌, cond, List, [], ◌∷◌, ◌++◌, ◌∙◌, drop, Option, Some, None, refl, sym, subst, ap, arith}
use Rattle.std.proofs.Math.Bool.{and-false}
use Rattle.std.proofs.lemmas.Bool.{and_from}
use Rattle.syn_lexer.specs.declared.front.Delimiter.TheVariants as del
use Rattle.syn_tokens.specs.Tok.{Tok, weight}
use Rattle.syn_tokens.specs.Input.{IsTail}
use Rattle.syn_tokens.specs.Front.{is_empty}
use Rattle.syn_lower_spec.specs.Form.{Outcome}
use Rattle.syn_lower_spec.specs.Mark.{comma}
use Rattle.syn_lower_spec.specs.Pat.{a_name, an_index, dots}
use Rattle.syn_lower_spec.proofs.Weights.{some_is}
use Rattle.syn_expr_spec.specs.declared.kinds.Precedence.TheVariants as lev
use Rattle.syn_expr_spec.specs.declared.kinds.Place.{Place}
use Rattle.syn_expr_spec.specs.Next.{enclosed}
use Rattle.syn_expr_spec.specs.Tree as e
use Rattle.syn_expr_spec.specs.Tree.{Tree, Children, Piece, Ending, Frame, tail, none, child, fill, is_none, is_one, is_block_like, needs_last_comma}
use Rattle.syn_expr_spec.specs.Slot as s
use Rattle.syn_expr_spec.specs.Slot.{Slot, Holder, after, piece_form, ending_at, comma_or_end, behind_arm}
use Rattle.syn_expr_spec.specs.Stands.{Node, is_paren, is_attributed_by, is_prefixed, is_infixed, is_postfixed, is_tail, is_indexed, is_frame, Content, holds_none, holds_within, holds_bare, Operands, no_more, one_more, short, block, arms_inside, fields_of, short_value, takes_block, ends_list, frame_stands, has_no_comma}
use Rattle.syn_expr_spec.specs.Rule.{place_asks, put, bare}
use Rattle.syn_expr_spec.specs.Printed.{OwnSpelling, in_plain, parenthesize_attributed}
use Rattle.syn_expr_spec.proofs.FillIns.{filled, children_filled, filled_stays, comma_there, dots_there}
use Rattle.syn_expr_spec.proofs.HeadMoves.{IsLess, left, grouped}
use Rattle.syn_expr_spec.proofs.Lesses.{here, node_less, operands_left, short_less}
use Rattle.syn_expr_spec.proofs.SoundAtoms.{no_some}
use Rattle.syn_expr_spec.proofs.NoneRedundant.{pairs_there}
use Rattle.syn_expr_spec.proofs.Parenthesized.{plain_stays}

-- ---- nothing is where nothing is left

nil_tail : (l m : List Tok) → is_empty l ≡ true → IsTail m l → is_empty m ≡ true
nil_tail [] [] h t = refl
nil_tail [] (x ∷ m) h t = by_front t.front t.is
  where
    by_front : (f : List Tok) → [] ≡ f ++ (x ∷ m) → is_empty (x ∷ m) ≡ true
    by_front [] g = absurd cc
    by_front (y ∷ f) g = absurd cc
nil_tail (x ∷ l) m h t = absurd cc

less_nil : (l n : List Tok) → is_empty l ≡ true → IsLess n l → ⊥
unfolding weight
less_nil [] n h t = omega (arith, t.less)
less_nil (x ∷ l) n h t = absurd cc

child_none : {v : Slot} {l o : List Tok} {ks : Children} → Operands v l ks o → is_empty l ≡ true → is_none ks ≡ true
child_none (no_more g) h = refl
child_none (one_more {s = v} {l = l} {m = m} {h = i} {k = k} p q d e g more) h = absurd (less_nil m i (nil_tail l m h (left (here.pieces v) k l m p)) (node_less d))
child_none (short {s = v} {l = l} {m = m} {k = k} {x = x} p q g more) h = absurd (less_nil l m h (short_less v k l m x p q))
child_none (block {s = v} {l = l} {m = m} {i = i} {n = n} {k = k} p q g more) h = absurd (less_nil m n (nil_tail l m h (left (here.pieces v) k l m p)) (grouped del.Brace m i n g))
child_none (arms_inside {l = l} {h = i} d e c g a more) h = absurd (less_nil l i h (node_less d))

-- ---- commas and dots

-- the last of the operands needs a comma only where something ends them
abbrev is_scrutinees : Slot → Bool
is_scrutinees s.scrutinees = true
is_scrutinees _ = false

after_other : (k : Piece) → is_scrutinees (after k) ≡ false
after_other e.element = refl
after_other _ = refl

last_none : (last : Bool) (n o : List Tok) → is_empty n ≡ true → IsTail o n → (last ≡ true → is_empty o ≡ false) → last ≡ false
last_none true n o h t f = let a = nil_tail n o h t in let b = f refl in absurd cc
last_none false n o h t f = refl

more_none : (v : Slot) (n o : List Tok) (ks : Children) (last : Bool) → is_empty n ≡ true → Operands v n ks o → (last ≡ true → is_empty o ≡ false) → (not (is_none ks) || last) ≡ false
more_none v n o ks last h d f = rw (child_none d h) (last_none last n o h (operands_left d) f)

ended_empty : (h n : List Tok) → comma_or_end h ≡ Some (e.no_ending, n) → is_empty n ≡ true
ended_empty h n g = by_tests (comma.at h) (is_empty h) refl g
  where
    by_tests : (a b : Bool) → is_empty h ≡ b → cond {A = Outcome Ending} a (Some (e.comma, drop 1 h)) (cond b (Some (e.no_ending, h)) None) ≡ Some (e.no_ending, n) → is_empty n ≡ true
    by_tests true b f g = let o : e.comma ≡ e.no_ending = ap (λ z. z.0) (some_is g) in absurd cc
    by_tests false true f g = let o : h ≡ n = ap (λ z. z.1) (some_is g) in subst (λ z. is_empty z ≡ true) o f
    by_tests false false f g = absurd cc

arm_ended : (x : Tree) (h n : List Tok) → behind_arm x h ≡ Some (e.no_ending, n) → (is_empty n || is_block_like x) ≡ true
arm_ended x h n g = by_tests (comma.at h) (is_empty h || is_block_like x) refl g
  where
    by_tests : (a b : Bool) → (is_empty h || is_block_like x) ≡ b → cond {A = Outcome Ending} a (Some (e.comma, drop 1 h)) (cond b (Some (e.no_ending, h)) None) ≡ Some (e.no_ending, n) → (is_empty n || is_block_like x) ≡ true
    by_tests true b f g = let o : e.comma ≡ e.no_ending = ap (λ z. z.0) (some_is g) in absurd cc
    by_tests false true f g = let o : h ≡ n = ap (λ z. z.1) (some_is g) in subst (λ z. (is_empty z || is_block_like x) ≡ true) o f
    by_tests false false f g = absurd cc

arm_comma : (v : Slot) (x : Tree) (n o : List Tok) (ks : Children) → Operands v n ks o → (b : Bool) → is_empty n ≡ b → (b || is_block_like x) ≡ true → not (not (is_none ks) && not (is_block_like x)) ≡ true
arm_comma v x n o ks d true h g = rw (child_none d h) refl
arm_comma v x n o ks d false h g = rw g (by_more (is_none ks))
  where
    by_more : (b : Bool) → not (not b && false) ≡ true
    by_more true = refl
    by_more false = refl

comma_ok : (k : Piece) (c : Ending) (x : Tree) (h n o : List Tok) (ks : Children) (last : Bool) → ending_at k x h ≡ Some (c, n) → Operands (after k) n ks o → (last ≡ true → is_empty o ≡ false)
    → comma_there k c x (not (is_none ks)) last ≡ true
unfolding ending_at
comma_ok k e.comma x h n o ks last g d f = refl
comma_ok k (e.braced b) x h n o ks last g d f = refl
comma_ok k (e.opened ats) x h n o ks last g d f = refl
comma_ok e.element e.no_ending x h n o ks last g d f = rw (more_none s.elements n o ks last (ended_empty h n g) d f) refl
comma_ok (e.field_value ats m b) e.no_ending x h n o ks last g d f = rw (more_none s.fields n o ks last (ended_empty h n g) d f) refl
comma_ok e.guarded e.no_ending x h n o ks last g d f = arm_comma s.arms x n o ks d (is_empty n) refl (arm_ended x h n g)
comma_ok (e.arm ats p) e.no_ending x h n o ks last g d f = arm_comma s.arms x n o ks d (is_empty n) refl (arm_ended x h n g)
comma_ok _ e.no_ending x h n o ks last g d f = refl

-- a rest that isn't written is behind nothing
unwritten : (l n : List Tok) → (piece_form s.fields).behind (e.rest false) l ≡ Some n → ⊥
unfolding piece_form
unwritten l n g = by_dots (dots.at l) g
  where
    by_dots : (b : Bool) → cond {A = Option (List Tok)} b (cond b None None) None ≡ Some n → ⊥
    by_dots true g = absurd cc
    by_dots false g = absurd cc

no_rest : (v : Slot) (l m : List Tok) → (piece_form v).behind (e.rest false) l ≡ Some m → ⊥
unfolding piece_form
no_rest s.fields l m h = unwritten l m h
no_rest s.otherwise l m h = no_some _ m h
no_rest s.bodies l m h = no_some _ m h
no_rest _ l m h = absurd cc

dots_ok : (v : Slot) (k : Piece) (l m : List Tok) → (piece_form v).behind k l ≡ Some m → dots_there k ≡ true
dots_ok v (e.rest false) l m h = absurd (no_rest v l m h)
dots_ok v (e.rest true) l m h = refl
dots_ok v _ l m h = refl

short_filled : (k : Piece) (x : Tree) → short_value k ≡ Some x → filled x ≡ true
short_filled (e.field_value ats (a_name w) false) x h = subst (λ z. filled z ≡ true) (some_is h) refl
short_filled _ x h = absurd cc

block_comma : (k : Piece) (t : Tree) (more last : Bool) → takes_block k ≡ true → comma_there k e.no_ending t more last ≡ true
block_comma e.chained t more last h = refl
block_comma e.output_block t more last h = refl
block_comma _ t more last h = absurd cc

fields_filled : (b : Tree) (is : List ℕ) → filled b ≡ true → filled (fields_of b is) ≡ true
fields_filled b [] h = h
fields_filled b (i ∷ is) h = fields_filled (tail b (e.field (an_index i)) none) is (rw h refl)

ends_dots : (b : Bool) (o : List Tok) → b ≡ true → ends_list b o ≡ true → is_empty o ≡ false
unfolding Rattle.syn_lower_spec.specs.Mark.sign_at
ends_dots true [] h g = absurd cc
ends_dots true (x ∷ o) h g = refl
ends_dots false o h g = absurd cc

tuple_filled : (ks : Children) → children_filled false ks ≡ true → not (is_one ks && has_no_comma ks) ≡ true → children_filled (is_one ks) ks ≡ true
tuple_filled (child k c x (child i d y ks)) h g = h
tuple_filled (child k e.no_ending x none) h g = absurd cc
tuple_filled _ h g = h

abbrev dotted : Holder → Bool
dotted (s.within d v b) = b
dotted _ = false

abbrev holds_scrutinee : Holder → Bool
holds_scrutinee (s.within d v b) = is_scrutinees v
holds_scrutinee (s.bare v) = is_scrutinees v
holds_scrutinee s.nothing = false

never : {b : Bool} → false ≡ true → b ≡ true
never h = absurd cc

later : (k : Piece) (last : Bool) → (is_scrutinees (after k) && last) ≡ false
later k last = rw (after_other k) refl

by_frame : (p : Place) (k : Frame) (ks : Children) → frame_stands p k ks ≡ true
    → ((last : Bool) → (last ≡ true → dotted (s.frame_holder k) ≡ true) → (holds_scrutinee (s.frame_holder k) && last) ≡ false → children_filled last ks ≡ true)
    → children_filled (needs_last_comma k ks) ks ≡ true
unfolding frame_stands
by_frame p e.tuple ks g f = tuple_filled ks (f false never refl) g
by_frame p (e.structure q w d) ks g f = f d (λ h. h) refl
by_frame p e.match_expr ks g f = f false never refl
by_frame p _ ks g f = f false never refl

mutual
  node_filled : {p : Place} {l n : List Tok} {x : Tree} → Node p l x n → filled x ≡ true
  node_filled (is_paren d a c) = node_filled d
  node_filled (is_attributed_by b f d) = node_filled d
  node_filled (is_prefixed h g d a c) = node_filled d
  node_filled (is_infixed d c f i t g r a b q) = and_from _ _ (node_filled d) (node_filled r)
  node_filled (is_postfixed d c f i t b g a) = node_filled d
  node_filled (is_tail {b = b} {k = k} {is = is} d f t c i) =
      and_from _ _ (subst (λ z. filled z ≡ true) (sym i) (fields_filled b is (node_filled d))) (content_filled c false never (and-false (holds_scrutinee (s.trailer_holder k))))
  node_filled (is_indexed {b = b} {i = i} {is = is} d f t j) = subst (λ z. filled z ≡ true) (sym j) (fields_filled b (i ∷ is) (node_filled d))
  node_filled (is_frame {p = p} {k = k} {ks = ks} a c g e) = by_frame p k ks g (content_filled c)
  node_filled _ = refl

  content_filled : {v : Holder} {l n : List Tok} {ks : Children} → Content v l ks n → (last : Bool) → (last ≡ true → dotted v ≡ true) → (holds_scrutinee v && last) ≡ false → children_filled last ks ≡ true
  content_filled holds_none last f w = refl
  content_filled (holds_within {s = v} {dotted_end = b} {o = o} g d h) last f w = operands_filled d last (λ i. ends_dots b o (f i) h) w
  content_filled (holds_bare d) last f w = operands_filled d last (λ i. let a = f i in absurd cc) w

  operands_filled : {v : Slot} {l o : List Tok} {ks : Children} → Operands v l ks o → (last : Bool) → (last ≡ true → is_empty o ≡ false) → (is_scrutinees v && last) ≡ false → children_filled last ks ≡ true
  operands_filled (no_more h) last f w = refl
  operands_filled (one_more {s = v} {l = l} {m = m} {h = h} {n = n} {o = o} {k = k} {c = c} {x = x} {ks = ks} p q d a g more) last f w =
      and_from _ _ (and_from _ _ (dots_ok v k l m p) (comma_ok k c x h n o ks last g more f)) (and_from _ _ (node_filled d) (operands_filled more last f (later k last)))
  operands_filled (short {s = v} {l = l} {m = m} {n = n} {o = o} {k = k} {c = c} {x = x} {ks = ks} p q g more) last f w =
      and_from _ _ (and_from _ _ (dots_ok v k l m p) (comma_ok k c x m n o ks last g more f)) (and_from _ _ (short_filled k x q) (operands_filled more last f (later k last)))
  operands_filled (block {s = v} {l = l} {m = m} {i = i} {k = k} {ks = ks} p q g more) last f w =
      and_from _ _ (and_from _ _ (dots_ok v k l m p) (block_comma k (e.plain_block i) (not (is_none ks)) last q)) (operands_filled more last f (later k last))
  operands_filled (arms_inside d a c g i more) last f w =
      and_from _ _ (node_filled d) (operands_filled more last (λ j. let a : false ≡ true = sym w ∙ j in absurd cc) refl)

pub stood_filled : {p : Place} {l n : List Tok} {x : Tree} → Node p l x n → fill x ≡ x
stood_filled {x = x} d = filled_stays x (node_filled d)

pub own_spelling : OwnSpelling
own_spelling =
    record {
      pairs_alone = λ t l d. subst (λ x. put (place_asks lev.Jump enclosed x) (bare enclosed x) (bare enclosed x) ≡ parenthesize_attributed t)
          (sym (stood_filled d.node)) (pairs_there in_plain t l [] refl refl d.node);
      no_pairs = plain_stays;
    }
