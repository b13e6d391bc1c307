-- A tree that stands for a list is well-formed, if it is ordinary.
use Rattle.std.proofs.Common.{◌≡◌, ℕ, Bool, true, false, not, ◌||◌, ◌&&◌, cond, List, [], ◌∷◌, ◌++◌, drop, Option, Some, None, refl, sym, ◌∙◌, ap, subst}
use Rattle.std.specs.Str.{bytes_eq}
use Rattle.std.proofs.lemmas.Bool.{and_parts, and_from, or_parts, not-true, or_left}
use Rattle.std.proofs.lemmas.Slice.Eq.{bytes_eq-Decides}
use Rattle.syn_lexer.specs.declared.front.Delimiter.TheVariants as del
use Rattle.syn_tokens.specs.Tok.{Tok, literal}
use Rattle.syn_tokens.specs.Input.{IsTail}
use Rattle.syn_tokens.specs.Front.{group_at, is_empty}
use Rattle.syn_tokens.specs.Floats.{float_parts}
use Rattle.syn_lower_spec.specs.Text.{Text, is_segment, stands_alone}
use Rattle.syn_lower_spec.specs.Tree as t
use Rattle.syn_lower_spec.specs.Form.{Outcome}
use Rattle.syn_lower_spec.specs.Mark.{comma, semi, sign_at}
use Rattle.syn_lower_spec.specs.Pat.{a_name, an_index, index_of}
use Rattle.syn_lower_spec.specs.PatFits.{attributes_outer, member_fits}
use Rattle.syn_lower_spec.specs.Fits.{qpath_fits}
use Rattle.syn_lower_spec.specs.declared.label.PathStyle.TheVariants as style
use Rattle.syn_lower_spec.proofs.Weights.{some_is}
use Rattle.syn_lower_spec.proofs.Forms.{bind_some, behind_some}
use Rattle.syn_lower_spec.proofs.Whole.{parts_exact}
use Rattle.syn_expr_spec.specs.declared.kinds.Limits.TheVariants as limits
use Rattle.syn_expr_spec.specs.declared.kinds.Infix.{Infix}
use Rattle.syn_expr_spec.specs.declared.kinds.Infix.TheVariants as inf
use Rattle.syn_expr_spec.specs.declared.kinds.Place.{Place}
use Rattle.syn_expr_spec.specs.Path.{is_try_alone}
use Rattle.syn_expr_spec.specs.Tree as e
use Rattle.syn_expr_spec.specs.Tree.{Tree, Children, Leaf, Prefix, Postfix, Trailer, Frame, Piece, Ending, body_of, is_block_like, is_silent, plain_block}
use Rattle.syn_expr_spec.specs.Head.{label, body, dotted}
use Rattle.syn_expr_spec.specs.Slot as s
use Rattle.syn_expr_spec.specs.Slot.{Slot, Holder, after, may_end, piece_form, ending_at, frame_head, frame_holder, trailer_holder, for_head}
use Rattle.syn_expr_spec.specs.Front.{dot_at, question_at}
use Rattle.syn_expr_spec.specs.Stands.{Node, Content, Operands, is_leaf, is_become, is_attributed_verbatim, is_paren, is_attributed_by, is_prefixed, is_infixed, is_postfixed, is_tail, is_indexed, is_frame, holds_none, holds_within, holds_bare, no_more, one_more, short, block, arms_inside, is_infix, is_verbatim, is_attributed, takes_attributes, leaf_stands, prefix_stands, infix_stands, postfix_stands, postfix_behind, trailer_head, name_at, indices_at, named_behind, with_steps, open_steps, closed_steps, step, steps_of, fields_head, fields_of, frame_stands, ends_list, ends_piece, path_of, short_value, takes_block}
use Rattle.syn_expr_spec.specs.WellFormed.{leaf_fits, prefix_fits, infix_fits, postfix_fits, trailer_fits, trailer_slot, frame_slot, has_rest, frame_fits, is_verbatim_block, piece_fits, ending_fits, may_stop, keeps_block, well, children_well, is_well_formed}
use Rattle.syn_expr_spec.specs.IsWellFormed.{first_slot}
use Rattle.syn_expr_spec.proofs.Exact.{heads_exact}
use Rattle.syn_expr_spec.proofs.Lesses.{operands_left}
use Rattle.syn_text_spec.specs.Laws.{leaf_is_ordinary, frame_is_ordinary, is_ordinary, children_ordinary, ReadIsWellFormed}
use Rattle.syn_text_spec.proofs.Finds.{Each}
use Rattle.syn_text_spec.proofs.FitTypes.{clash, or_true, is_name, type_tells}
use Rattle.syn_text_spec.proofs.FitPats.{index_fits, outer_tells}
use Rattle.syn_text_spec.proofs.FitHeads.{expr_path_tells, inner_tells, body_tells, leaf_ok, leaf_form_tells, closure_head_tells, prefix_ok, prefix_form_tells, dotted_tells, for_head_tells, piece_ok, piece_form_tells}

or_right : (a b : Bool) → b ≡ true → a || b ≡ true
or_right true b h = refl
or_right false b h = h

-- ---- nodes

leaf_well : (p : Place) (k : Leaf) (n : List Tok) → leaf_ok k ≡ true → leaf_stands p k n ≡ true → leaf_is_ordinary k ≡ true → leaf_fits k ≡ true
unfolding leaf_stands
leaf_well p (e.path q w) n h g o = and_from _ _ h o
leaf_well p (e.full_range limits.HalfOpen) n h g o = refl
leaf_well p (e.full_range limits.Closed) n h g o = absurd cc
leaf_well p (e.verbatim ts) n h g o = absurd cc
leaf_well p (e.lit x) n h g o = h
leaf_well p _ n h g o = h

prefix_well : (p : Place) (k : Prefix) (m : List Tok) → prefix_ok k ≡ true → prefix_stands p k m ≡ true → prefix_fits k ≡ true
unfolding prefix_stands
prefix_well p (e.closure c) m h g = and_from _ _ h g
prefix_well p (e.let_expr x) m h g = h
prefix_well p _ m h g = refl

infix_well : (p : Place) (k : Infix) (m : List Tok) → infix_stands p k m ≡ true → infix_fits k ≡ true
unfolding infix_stands
infix_well p inf.Cast m h = absurd cc
infix_well p _ m h = refl

postfix_well : (p : Place) (k : Postfix) (m n : List Tok) → postfix_behind k m ≡ Some n → postfix_stands p k n ≡ true → postfix_fits k ≡ true
unfolding postfix_stands
postfix_well p (e.cast x) m n h g = let a = type_tells false in (a.tells m x n ((parts_exact.types false m x n).1 h)).0
postfix_well p (e.range_from limits.HalfOpen) m n h g = refl
postfix_well p (e.range_from limits.Closed) m n h g = absurd cc

unattributed : (p : Place) (x : Tree) → takes_attributes p x ≡ true → not (is_attributed x) ≡ true
unattributed p x h =
    let a = (and_parts (not (is_infix x || (is_attributed x || is_verbatim x))) _ h).0 in
    ap not (or_parts _ _ (or_parts _ _ (not-true _ a)).1).0

-- ---- trailers

abbrev Indices : List ℕ → Type 0
Indices is = Each (λ i. member_fits (an_index i) ≡ true) is

steps_fit : (o : Option (List ℕ × Bool)) (s : Text) (r : Option (List ℕ × Bool)) → ((z : List ℕ × Bool) → o ≡ Some z → Indices z.0) → step (index_of s) o ≡ r → (z : List ℕ × Bool) → r ≡ Some z → Indices z.0
steps_fit o s r f h z g = by (index_of s) o refl f (h ∙ g)
  where
    by : (i : Option ℕ) (o : Option (List ℕ × Bool)) → index_of s ≡ i → ((z : List ℕ × Bool) → o ≡ Some z → Indices z.0) → step i o ≡ Some z → Indices z.0
    by (Some i) (Some y) e f j = subst (λ (u : List ℕ × Bool). Indices u.0) (some_is j) (index_fits s i e, f y refl)
    by (Some i) None e f j = absurd cc
    by None (Some y) e f j = absurd cc
    by None None e f j = absurd cc

indices_fit : (ts : List Tok) (z : List ℕ × Bool) → steps_of ts ≡ Some z → Indices z.0
indices_fit [] z h = subst (λ (u : List ℕ × Bool). Indices u.0) (some_is h) tt
indices_fit (literal s ∷ []) z h = steps_fit (Some ([], false)) s _ (λ y g. subst (λ (u : List ℕ × Bool). Indices u.0) (some_is g) tt) refl z h
indices_fit (literal s ∷ d ∷ more) z h = steps_fit (steps_of more) s _ (λ y g. indices_fit more y g) refl z h
indices_fit (_ ∷ more) z h = absurd cc

abbrev Steps : List ℕ × List Tok → Type 0
Steps z = Indices z.0

open_fit : (o : Option (List ℕ × Bool)) (l : List Tok) (z : List ℕ × List Tok) → ((y : List ℕ × Bool) → o ≡ Some y → Indices y.0) → open_steps o l ≡ Some z → Steps z
open_fit None l z f h = absurd cc
open_fit (Some (is, true)) l z f h = subst Steps (some_is h) (f (is, true) refl)
open_fit (Some (is, false)) l z f h = absurd cc

closed_fit : (o : Option (List ℕ × Bool)) (l : List Tok) (z : List ℕ × List Tok) → ((y : List ℕ × Bool) → o ≡ Some y → Indices y.0) → closed_steps o l ≡ Some z → Steps z
closed_fit None l z f h = absurd cc
closed_fit (Some (is, true)) l z f h = absurd cc
closed_fit (Some (is, false)) l z f h = subst Steps (some_is h) (f (is, false) refl)

name_fit : (l : List Tok) (z : List ℕ × List Tok) → name_at l ≡ Some z → Steps z
unfolding name_at
name_fit (literal w ∷ l) z h = open_fit (steps_of (float_parts w)) l z (indices_fit (float_parts w)) h
name_fit [] z h = subst Steps (some_is h) tt
name_fit (x ∷ l) z h = subst Steps (some_is h) tt

indices_at_fit : (l : List Tok) (z : List ℕ × List Tok) → indices_at l ≡ Some z → Steps z
unfolding indices_at
indices_at_fit (literal w ∷ l) z h = closed_fit (steps_of (float_parts w)) l z (indices_fit (float_parts w)) h
indices_at_fit _ z h = absurd cc

-- the indices before a trailer, and the trailer
abbrev Headed : Trailer → List ℕ × List Tok → Type 0
Headed k z = Indices z.0 × (trailer_fits k ≡ true)

dotted_head : (k : Trailer) (o : Option (List ℕ × List Tok)) (z : List ℕ × List Tok) → ((y : List ℕ × List Tok) → o ≡ Some y → Steps y) → named_behind k o ≡ Some z → Headed k z
dotted_head k None z r h = absurd cc
dotted_head k (Some y) z r h = by (dotted.behind k y.1) refl h
  where
    by : (o : Option (List Tok)) → dotted.behind k y.1 ≡ o → with_steps y.0 o ≡ Some z → Headed k z
    by None i g = absurd cc
    by (Some n) i g = subst (Headed k) (some_is g) (r y refl, dotted_tells.tells y.1 k n ((heads_exact.trailers y.1 k n).1 i))

behind_dot : (b : Bool) (k : Trailer) (m : List Tok) (z : List ℕ × List Tok) → cond b (named_behind k (name_at (drop 1 m))) None ≡ Some z → Headed k z
behind_dot true k m z h = dotted_head k (name_at (drop 1 m)) z (λ y i. name_fit (drop 1 m) y i) h
behind_dot false k m z h = absurd cc

question : (b : Bool) (m : List Tok) (z : List ℕ × List Tok) → cond {A = Option (List ℕ × List Tok)} b (Some ([], drop 1 m)) None ≡ Some z → Steps z
question true m z h = subst Steps (some_is h) tt
question false m z h = absurd cc

trailer_well : (k : Trailer) (m : List Tok) (z : List ℕ × List Tok) → trailer_head k m ≡ Some z → Headed k z
unfolding trailer_head
trailer_well e.call m z h = (subst Steps (some_is h) tt, refl)
trailer_well e.index m z h = (subst Steps (some_is h) tt, refl)
trailer_well e.try_expr m z h = (question (question_at m) m z h, refl)
trailer_well (e.method w a) m z h = behind_dot (dot_at m) (e.method w a) m z h
trailer_well (e.field f) m z h = behind_dot (dot_at m) (e.field f) m z h
trailer_well e.await m z h = behind_dot (dot_at m) e.await m z h

fields_fit : (m : List Tok) (z : List ℕ × List Tok) → fields_head m ≡ Some z → Steps z
unfolding fields_head
fields_fit m z h = by (dot_at m) h
  where
    by : (b : Bool) → cond b (indices_at (drop 1 m)) None ≡ Some z → Steps z
    by true i = indices_at_fit (drop 1 m) z i
    by false i = absurd cc

fields_well : (is : List ℕ) (b : Tree) → Indices is → well b ≡ true → well (fields_of b is) ≡ true
fields_well [] b f h = h
fields_well (i ∷ is) b f h = fields_well is (e.tail b (e.field (an_index i)) e.none) f.1 (and_from _ _ f.0 (and_from _ _ h refl))

fields_ordinary : (is : List ℕ) (b : Tree) → is_ordinary (fields_of b is) ≡ true → is_ordinary b ≡ true
fields_ordinary [] b h = h
fields_ordinary (i ∷ is) b h = (and_parts (is_ordinary b) true (fields_ordinary is (e.tail b (e.field (an_index i)) e.none) h)).0

trailer_slot_is : (k : Trailer) → first_slot (trailer_holder k) ≡ trailer_slot k
trailer_slot_is e.call = refl
trailer_slot_is _ = refl

-- ---- frames

nil_tail : (l m : List Tok) → is_empty l ≡ true → IsTail m l → is_empty m ≡ true
nil_tail [] [] h g = refl
nil_tail [] (x ∷ m) h g = by_front g.front g.is
  where
    by_front : (f : List Tok) → [] ≡ f ++ (x ∷ m) → is_empty (x ∷ m) ≡ true
    by_front [] i = absurd cc
    by_front (y ∷ f) i = absurd cc
nil_tail (x ∷ l) m h g = absurd cc

abbrev is_rest_piece : Piece → Bool
is_rest_piece (e.rest d) = true
is_rest_piece _ = false

rest_or : (k : Piece) (c : Ending) (x : Tree) (ks : Children) → has_rest (e.child k c x ks) ≡ (is_rest_piece k || has_rest ks)
rest_or (e.rest d) c x ks = refl
rest_or e.element c x ks = refl
rest_or _ c x ks = refl

rest_ended : (k : Piece) (c : Ending) (x : Tree) (l n : List Tok) → is_rest_piece k ≡ true → ending_at k x l ≡ Some (c, n) → is_empty n ≡ true
unfolding ending_at
rest_ended (e.rest d) c x l n r h = by (is_empty l) refl h
  where
    by : (b : Bool) → is_empty l ≡ b → cond {A = Outcome Ending} b (Some (e.no_ending, l)) None ≡ Some (c, n) → is_empty n ≡ true
    by true i j = subst (λ z. is_empty z ≡ true) (ap (λ (z : Ending × List Tok). z.1) (some_is j)) i
    by false i j = absurd cc
rest_ended _ c x l n r h = absurd cc

short_rest : (k : Piece) (x : Tree) → short_value k ≡ Some x → is_rest_piece k ≡ false
short_rest (e.rest d) x h = absurd cc
short_rest e.element x h = absurd cc
short_rest _ x h = refl

block_rest : (k : Piece) → takes_block k ≡ true → is_rest_piece k ≡ false
block_rest (e.rest d) h = absurd cc
block_rest e.chained h = refl
block_rest _ h = refl

either_rest : (a b : Bool) (P : Type 0) → (a || b) ≡ true → (a ≡ true → P) → (b ≡ true → P) → P
either_rest true b P h f g = f refl
either_rest false b P h f g = g h

abbrev is_scrutinees : Slot → Bool
is_scrutinees s.scrutinees = true
is_scrutinees _ = false

after_other : (k : Piece) → is_scrutinees (after k) ≡ false
after_other e.element = refl
after_other _ = refl

-- An expression after `..` is the last in the braces.
rest_last : {q : Slot} {l o : List Tok} {ks : Children} → Operands q l ks o → is_scrutinees q ≡ false → has_rest ks ≡ true → is_empty o ≡ true
rest_last (no_more g) v h = absurd cc
rest_last (one_more {h = i} {n = n} {o = o} {k = k} {c = c} {x = x} {ks = ks} p u d a g more) v h =
    either_rest (is_rest_piece k) (has_rest ks) (is_empty o ≡ true) (sym (rest_or k c x ks) ∙ h) (λ r. nil_tail n o (rest_ended k c x i n r g) (operands_left more)) (λ r. rest_last more (after_other k) r)
rest_last (short {o = o} {k = k} {c = c} {x = x} {ks = ks} p u g more) v h =
    either_rest (is_rest_piece k) (has_rest ks) (is_empty o ≡ true) (sym (rest_or k c x ks) ∙ h) (λ r. clash (is_rest_piece k) r (short_rest k x u)) (λ r. rest_last more (after_other k) r)
rest_last (block {i = i} {o = o} {k = k} {ks = ks} p u g more) v h =
    either_rest (is_rest_piece k) (has_rest ks) (is_empty o ≡ true) (sym (rest_or k e.no_ending (plain_block i) ks) ∙ h) (λ r. clash (is_rest_piece k) r (block_rest k u)) (λ r. rest_last more (after_other k) r)
rest_last (arms_inside d a c g i more) v h = absurd cc

no_rest_and_dots : (d : Bool) (h n : List Tok) (ks : Children) → Content (s.within del.Brace s.fields d) h ks n → not (d && has_rest ks) ≡ true
unfolding sign_at
no_rest_and_dots false h n ks c = refl
no_rest_and_dots true h n ks (holds_within {o = o} g r i) = by (has_rest ks) refl
  where
    no_dots : (o : List Tok) → is_empty o ≡ true → ends_list true o ≡ true → ⊥
    no_dots [] f j = cc
    no_dots (x ∷ o) f j = cc

    by : (b : Bool) → has_rest ks ≡ b → not b ≡ true
    by false f = refl
    by true f = absurd (no_dots o (rest_last r refl f) i)

frame_well : (p : Place) (k : Frame) (l h n : List Tok) (ks : Children) → frame_head k l ≡ Some h → Content (frame_holder k) h ks n → frame_stands p k ks ≡ true → frame_is_ordinary k ≡ true → frame_fits k ks ≡ true
unfolding frame_stands
frame_well p (e.structure q w d) l h n ks f c g o =
    let a = expr_path_tells true in
    let b = a.tells l (q, w) h ((heads_exact.paths true l (q, w) h).1 f) in
    and_from _ _ b (and_from _ _ (ap not (or_parts p.condition (is_try_alone q w) (not-true _ g)).1) (no_rest_and_dots d h n ks c))
frame_well p (e.closure_block k) l h n ks f c g o = and_from _ _ (closure_head_tells.tells l k h ((heads_exact.closure_heads l k h).1 f)) g
frame_well p (e.for_loop w x) l h n ks f c g o =
    let (m, i, j) = behind_some (label.behind w l) (for_head.behind x) h f in
    for_head_tells.tells m x h ((heads_exact.for_heads m x h).1 j)
frame_well p e.group_expr l h n ks f c g o = absurd cc
frame_well p e.array l h n ks f c g o = refl
frame_well p _ l h n ks f c g o = refl

-- no invisible group
abbrev is_open : Slot → Bool
is_open s.groups = false
is_open _ = true

frame_slot_is : (k : Frame) → frame_is_ordinary k ≡ true → (first_slot (frame_holder k) ≡ frame_slot k) × (is_open (frame_slot k) ≡ true)
frame_slot_is e.group_expr h = absurd cc
frame_slot_is e.array h = (refl, refl)
frame_slot_is _ h = (refl, refl)

trailer_slot_open : (k : Trailer) → is_open (trailer_slot k) ≡ true
trailer_slot_open e.call = refl
trailer_slot_open _ = refl

after_open : (k : Piece) → is_open (after k) ≡ true
after_open e.element = refl
after_open _ = refl

-- ---- operands

stop_well : (q : Slot) (n : List Tok) → may_end q n ≡ true → may_stop q ≡ true
stop_well s.elements n h = refl
stop_well s.fields n h = refl
stop_well s.otherwise n h = refl
stop_well s.arms n h = refl
stop_well s.done n h = refl
stop_well _ n h = absurd cc

piece_well : (q : Slot) (k : Piece) (c : Ending) (x : Tree) (n : List Tok) → is_open q ≡ true → piece_ok q k ≡ true → is_silent k ≡ false → ends_piece k x n ≡ true → piece_fits q k c x ≡ true
piece_well s.elements e.element c x n o h i g = refl
piece_well s.single e.value c x n o h i g = refl
piece_well s.counted e.repeated c x n o h i g = refl
piece_well s.fields (e.field_value ats m true) c x n o h i g = let a = and_parts (attributes_outer ats) (member_fits m) h in and_from _ _ a.0 (and_from _ _ a.1 refl)
piece_well s.fields (e.field_value ats m false) c x n o h i g = absurd cc
piece_well s.fields (e.rest d) c x n o h i g = refl
piece_well s.conditions e.condition c x n o h i g = refl
piece_well s.otherwise e.chained c x n o h i g = or_left _ _ g
piece_well s.loops e.loop_head c x n o h i g = refl
piece_well s.scrutinees e.scrutinee c x n o h i g = refl
piece_well s.arms (e.guard ats y) c x n o h i g = h
piece_well s.arms (e.arm ats y) c x n o h i g = h
piece_well s.bodies e.guarded c x n o h i g = refl
piece_well s.outputs e.output_block c x n o h i g = absurd cc
piece_well s.groups k c x n o h i g = absurd cc
piece_well _ k c x n o h i g = absurd cc

bytes_same : (w : Text) → bytes_eq w w ≡ true
bytes_same w = (bytes_eq-Decides w w).1 refl

short_piece : (q : Slot) (k : Piece) (c : Ending) (x : Tree) → short_value k ≡ Some x → piece_ok q k ≡ true → piece_fits q k c x ≡ true
short_piece s.fields (e.field_value ats (a_name w) false) c x h g =
    let a = and_parts (attributes_outer ats) (member_fits (a_name w)) g in
    subst (λ z. piece_fits s.fields (e.field_value ats (a_name w) false) c z ≡ true) (some_is h)
    (and_from _ _ a.0 (and_from _ _ a.1 (and_from _ _ (bytes_same w) refl)))
short_piece s.fields (e.field_value ats (a_name w) true) c x h g = absurd cc
short_piece s.fields (e.field_value ats (an_index i) b) c x h g = absurd cc
short_piece s.fields (e.rest d) c x h g = absurd cc
short_piece s.elements (e.field_value ats m b) c x h g = absurd cc
short_piece _ (e.field_value ats m b) c x h g = absurd cc
short_piece _ k c x h g = absurd cc

short_well : (q : Slot) (k : Piece) (x : Tree) → short_value k ≡ Some x → piece_ok q k ≡ true → is_ordinary x ≡ true → well x ≡ true
unfolding is_segment
short_well s.fields (e.field_value ats (a_name w) false) x h g o =
    let a = and_parts (attributes_outer ats) (is_name w) g in
    let name : is_segment w ≡ true = or_left _ _ a.1 in
    let path : qpath_fits style.Expr (t.no_qself, record { leading = false; segments = record { ident = w; arguments = t.no_arguments } ∷ []; trailing = false }) ≡ true =
    and_from _ _ name (and_from _ _ (or_true (not (stands_alone w))) refl) in
    let plain : is_ordinary (path_of w) ≡ true = subst (λ z. is_ordinary z ≡ true) (sym (some_is h)) o in
    subst (λ z. well z ≡ true) (some_is h) (and_from _ _ path plain)
short_well s.fields (e.field_value ats (a_name w) true) x h g o = absurd cc
short_well s.fields (e.field_value ats (an_index i) b) x h g o = absurd cc
short_well s.fields (e.rest d) x h g o = absurd cc
short_well s.elements (e.field_value ats m b) x h g o = absurd cc
short_well _ (e.field_value ats m b) x h g o = absurd cc
short_well _ k x h g o = absurd cc

block_piece : (q : Slot) (k : Piece) (i : List Tok) → takes_block k ≡ true → piece_ok q k ≡ true
    → (piece_fits q k e.no_ending (plain_block i) ≡ true) × (ending_fits k e.no_ending ≡ true) × (keeps_block k (plain_block i) ≡ true)
block_piece s.otherwise e.chained i h g = (refl, refl, refl)
block_piece s.outputs e.output_block i h g = (refl, refl, refl)
block_piece s.elements e.chained i h g = absurd cc
block_piece _ e.chained i h g = absurd cc
block_piece s.elements e.output_block i h g = absurd cc
block_piece _ e.output_block i h g = absurd cc
block_piece s.elements e.element i h g = absurd cc
block_piece _ _ i h g = absurd cc

ended : (k : Piece) (x y : Ending × List Tok) → Some x ≡ Some y → ending_fits k x.0 ≡ true → ending_fits k y.0 ≡ true
ended k x y h g = subst (λ (z : Ending × List Tok). ending_fits k z.0 ≡ true) (some_is h) g

comma_ended : (k : Piece) (b d : Bool) (l : List Tok) (z : Ending × List Tok) → ending_fits k e.comma ≡ true → ending_fits k e.no_ending ≡ true
    → cond {A = Outcome Ending} b (Some (e.comma, drop 1 l)) (cond {A = Outcome Ending} d (Some (e.no_ending, l)) None) ≡ Some z → ending_fits k z.0 ≡ true
comma_ended k true d l z f g h = ended k (e.comma, drop 1 l) z h f
comma_ended k false true l z f g h = ended k (e.no_ending, l) z h g
comma_ended k false false l z f g h = absurd cc

ended_if : (k : Piece) (b : Bool) (l m : List Tok) (z : Ending × List Tok) → ending_fits k e.no_ending ≡ true → cond {A = Outcome Ending} b (Some (e.no_ending, m)) None ≡ Some z → ending_fits k z.0 ≡ true
ended_if k true l m z f h = ended k (e.no_ending, m) z h f
ended_if k false l m z f h = absurd cc

no_stray : (q : Slot) → piece_ok q e.stray ≡ true → ⊥
no_stray s.elements h = cc
no_stray _ h = cc

no_grouped : (q : Slot) → is_open q ≡ true → piece_ok q e.grouped ≡ true → ⊥
no_grouped s.groups o h = cc
no_grouped s.elements o h = cc
no_grouped _ o h = cc

ending_well : (q : Slot) (k : Piece) (x : Tree) (l : List Tok) (z : Ending × List Tok) → is_open q ≡ true → piece_ok q k ≡ true → ending_at k x l ≡ Some z → ending_fits k z.0 ≡ true
unfolding ending_at
ending_well q e.element x l z o p h = comma_ended e.element (comma.at l) (is_empty l) l z refl refl h
ending_well q (e.field_value ats m c) x l z o p h = comma_ended (e.field_value ats m c) (comma.at l) (is_empty l) l z refl refl h
ending_well q (e.rest d) x l z o p h = ended_if (e.rest d) (is_empty l) l l z refl h
ending_well q e.repeated x l z o p h = ended_if e.repeated (semi.at l) l (drop 1 l) z refl h
ending_well q e.condition x l z o p h =
    let (y, i, j) = bind_some (group_at del.Brace l) (λ ts n. Some (e.braced (body_of [] ts), n)) z h in
    ended e.condition (e.braced (body_of [] y.0), y.1) z j refl
ending_well q e.loop_head x l z o p h =
    let (y, i, j) = bind_some (body.reads l) (λ b n. Some (e.braced b, n)) z h in
    ended e.loop_head (e.braced y.0, y.1) z j (body_tells.tells l y.0 y.1 i)
ending_well q e.guarded x l z o p h = comma_ended e.guarded (comma.at l) (is_empty l || is_block_like x) l z refl refl h
ending_well q (e.arm ats y) x l z o p h = comma_ended (e.arm ats y) (comma.at l) (is_empty l || is_block_like x) l z refl refl h
ending_well q e.scrutinee x l z o p h = absurd cc
ending_well q e.grouped x l z o p h = absurd (no_grouped q o p)
ending_well q e.stray x l z o p h = absurd (no_stray q p)
ending_well q e.value x l z o p h = ended e.value (e.no_ending, l) z h refl
ending_well q e.chained x l z o p h = ended e.chained (e.no_ending, l) z h refl
ending_well q (e.guard ats y) x l z o p h = ended (e.guard ats y) (e.no_ending, l) z h refl
ending_well q e.output_block x l z o p h = ended e.output_block (e.no_ending, l) z h refl

piece_of : (q : Slot) (k : Piece) (l m : List Tok) → (piece_form q).behind k l ≡ Some m → piece_ok q k ≡ true
piece_of q k l m h = let a = piece_form_tells q in a.tells l k m ((heads_exact.pieces q l k m).1 h)

-- ---- trees

mutual
  node_well : {p : Place} {l n : List Tok} {x : Tree} → Node p l x n → is_ordinary x ≡ true → well x ≡ true
  node_well (is_leaf {p = p} {l = l} {n = n} {k = k} i s) v = leaf_well p k n (leaf_form_tells.tells l k n ((heads_exact.leaves l k n).1 i)) s v
  node_well (is_become w d s c i) v = absurd cc
  node_well (is_attributed_verbatim a more fs i d j k) v = absurd cc
  node_well (is_paren d s c) v = node_well d v
  node_well (is_attributed_by {p = p} {l = l} {m = m} {a = a} {more = more} {x = x} i t d) v =
      and_from _ _ (outer_tells.tells l (a ∷ more) m ((parts_exact.outer l (a ∷ more) m).1 i)) (and_from _ _ (unattributed p x t) (node_well d v))
  node_well (is_prefixed {p = p} {l = l} {m = m} {k = k} i s d t c) v =
      and_from _ _ (prefix_well p k m (prefix_form_tells.tells l k m ((heads_exact.prefixes l k m).1 i)) s) (node_well d v)
  node_well (is_infixed {p = p} {m = m} {x = x} {y = y} {op = op} {count = count} left c f o t b right s u w) v =
      let q = and_parts (is_ordinary x) (is_ordinary y) v in
      and_from _ _ (infix_well p op (drop count m) b) (and_from _ _ (node_well left q.0) (node_well right q.1))
  node_well (is_postfixed {p = p} {m = m} {n = n} {k = k} {count = count} left c f o t b s w) v = and_from _ _ (postfix_well p k (drop count m) n b s) (node_well left v)
  node_well (is_tail {m = m} {h = h} {b = b} {x = x} {k = k} {is = is} {ks = ks} d c t o i) v =
      let q = and_parts (is_ordinary x) (children_ordinary ks) v in
      let r = trailer_well k m (is, h) t in
      let base = node_well d (fields_ordinary is b (ap is_ordinary (sym i) ∙ q.0)) in
      let all = content_well o (ap is_open (trailer_slot_is k) ∙ trailer_slot_open k) q.1 in
      and_from _ _ r.1 (and_from _ _ (ap well i ∙ fields_well is b r.0 base) (subst (λ z. children_well z ks ≡ true) (trailer_slot_is k) all))
  node_well (is_indexed {m = m} {n = n} {b = b} {i = j} {is = is} d c t i) v =
      let base = node_well d (fields_ordinary (j ∷ is) b (ap is_ordinary (sym i) ∙ v)) in
      ap well i ∙ fields_well (j ∷ is) b (fields_fit m (j ∷ is, n) t) base
  node_well (is_frame {p = p} {l = l} {h = h} {n = n} {k = k} {ks = ks} i o s t) v =
      let q = and_parts (frame_is_ordinary k) (children_ordinary ks) v in
      let r = frame_slot_is k q.0 in
      and_from _ _ (frame_well p k l h n ks i o s q.0) (subst (λ z. children_well z ks ≡ true) r.0 (content_well o (ap is_open r.0 ∙ r.1) q.1))

  content_well : {o : Holder} {l n : List Tok} {ks : Children} → Content o l ks n → is_open (first_slot o) ≡ true → children_ordinary ks ≡ true → children_well (first_slot o) ks ≡ true
  content_well holds_none u v = refl
  content_well (holds_within t c s) u v = operands_well c u v
  content_well (holds_bare c) u v = operands_well c u v

  operands_well : {q : Slot} {l n : List Tok} {ks : Children} → Operands q l ks n → is_open q ≡ true → children_ordinary ks ≡ true → children_well q ks ≡ true
  operands_well (no_more {s = q} {n = n} t) u v = stop_well q n t
  operands_well (one_more {s = q} {l = l} {m = m} {h = h} {n = n} {k = k} {c = c} {x = x} {ks = ks} i w d t z r) u v =
      let a = and_parts (is_ordinary x) (children_ordinary ks) v in
      let b = piece_of q k l m i in
      and_from _ _ (and_from _ _ (piece_well q k c x h u b w t) (ending_well q k x h (c, n) u b z)) (and_from _ _ (or_right _ _ (node_well d a.0)) (operands_well r (after_open k) a.1))
  operands_well (short {s = q} {l = l} {m = m} {n = n} {k = k} {c = c} {x = x} {ks = ks} i w z r) u v =
      let a = and_parts (is_ordinary x) (children_ordinary ks) v in
      let b = piece_of q k l m i in
      and_from _ _ (and_from _ _ (short_piece q k c x w b) (ending_well q k x m (c, n) u b z)) (and_from _ _ (or_right _ _ (short_well q k x w b a.0)) (operands_well r (after_open k) a.1))
  operands_well (block {s = q} {l = l} {m = m} {i = i} {k = k} {ks = ks} j w t r) u v =
      let a = and_parts (is_ordinary (plain_block i)) (children_ordinary ks) v in
      let b = block_piece q k i w (piece_of q k l m j) in
      and_from _ _ (and_from _ _ b.0 b.1) (and_from _ _ (or_left _ _ b.2) (operands_well r (after_open k) a.1))
  operands_well (arms_inside {i = i} {j = j} {ats = ats} {x = x} {ks = ks} d s c t w r) u v =
      let a = and_parts (is_ordinary x) (children_ordinary ks) v in
      let b = inner_tells.tells i ats j ((parts_exact.inner i ats j).1 w) in
      and_from _ _ b.0 (and_from _ _ (node_well d a.0) (operands_well r refl a.1))

-- ---- what is well-formed is ordinary

leaf_ordinary : (k : Leaf) → leaf_fits k ≡ true → leaf_is_ordinary k ≡ true
leaf_ordinary (e.path q w) h = (and_parts (qpath_fits style.Expr (q, w)) _ h).1
leaf_ordinary (e.verbatim ts) h = absurd cc
leaf_ordinary (e.lit x) h = refl
leaf_ordinary _ h = refl

frame_ordinary : (k : Frame) (ks : Children) → frame_fits k ks ≡ true → frame_is_ordinary k ≡ true
frame_ordinary e.group_expr ks h = absurd cc
frame_ordinary e.array ks h = refl
frame_ordinary _ ks h = refl

verbatim_ordinary : (x : Tree) → is_verbatim_block x ≡ true → is_ordinary x ≡ true
verbatim_ordinary (e.leaf (e.block None b)) h = refl
verbatim_ordinary (e.leaf k) h = absurd cc
verbatim_ordinary _ h = absurd cc

block_ordinary : (k : Piece) (x : Tree) → keeps_block k x ≡ true → is_ordinary x ≡ true
block_ordinary e.chained x h = verbatim_ordinary x h
block_ordinary e.output_block x h = verbatim_ordinary x h
block_ordinary e.element x h = absurd cc
block_ordinary _ x h = absurd cc

mutual
  ordinary : (x : Tree) → well x ≡ true → is_ordinary x ≡ true
  ordinary (e.leaf k) h = leaf_ordinary k h
  ordinary (e.paren m x) h = ordinary x h
  ordinary (e.attributed a more x) h = ordinary x (and_parts (not (is_attributed x)) _ (and_parts (attributes_outer (a ∷ more)) _ h).1).1
  ordinary (e.prefixed k gs x) h = ordinary x (and_parts (e.is_none gs) _ (and_parts (prefix_fits k) _ h).1).1
  ordinary (e.infixed x k y) h = let a = and_parts (well x) (well y) (and_parts (infix_fits k) _ h).1 in and_from _ _ (ordinary x a.0) (ordinary y a.1)
  ordinary (e.postfixed x k) h = ordinary x (and_parts (postfix_fits k) _ h).1
  ordinary (e.tail b k ks) h = let a = and_parts (well b) _ (and_parts (trailer_fits k) _ h).1 in and_from _ _ (ordinary b a.0) (all_ordinary (trailer_slot k) ks a.1)
  ordinary (e.frame k ks) h = let a = and_parts (frame_fits k ks) _ h in and_from _ _ (frame_ordinary k ks a.0) (all_ordinary (frame_slot k) ks a.1)

  all_ordinary : (q : Slot) (ks : Children) → children_well q ks ≡ true → children_ordinary ks ≡ true
  all_ordinary q e.none h = refl
  all_ordinary q (e.child k c x ks) h =
      let a = and_parts (piece_fits q k c x && ending_fits k c) _ h in
      let b = and_parts (keeps_block k x || well x) _ a.1 in
      and_from _ _ (either_rest (keeps_block k x) (well x) (is_ordinary x ≡ true) b.0 (block_ordinary k x) (λ w. ordinary x w)) (all_ordinary (after k) ks b.1)

pub read_is_well_formed : ReadIsWellFormed
unfolding is_well_formed
read_is_well_formed p l x rest stands = (ordinary x, node_well stands.node)
