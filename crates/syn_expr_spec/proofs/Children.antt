-- Operands in places of their own stand for their own tokens.
use Rattle.std.proofs.Common.{◌≡◌, Bool, true, false, not, ◌&&◌, ◌||◌, List, [], ◌∷◌, drop, Some, None, refl, sym, ◌∙◌, ap, subst, codes}
use Rattle.std.specs.Str.{bytes_eq}
use Rattle.syn_lexer.specs.Keywords.{is_reserved_word}
use Rattle.std.proofs.lemmas.Slice.Eq.{bytes_eq-Decides}
use Rattle.std.proofs.lemmas.Bool.{and_parts, not-true}
use Rattle.std.proofs.Math.Bool.{or-true}
use Rattle.syn_lexer.specs.declared.front.Delimiter.TheVariants as del
use Rattle.syn_lexer.specs.declared.front.Spacing.TheVariants as spacing
use Rattle.syn_tokens.specs.Tok.{Tok, Inside, ident, group, inside}
use Rattle.syn_tokens.specs.Front.{group_at, is_empty}
use Rattle.syn_lower_spec.specs.declared.label.PathStyle.TheVariants as style
use Rattle.syn_lower_spec.specs.Text.{Text, is_segment, stands_alone, is_truth}
use Rattle.syn_lower_spec.specs.Tree as t
use Rattle.syn_lower_spec.specs.Tree.{AttributeTree, SegmentTree, ReturnTree}
use Rattle.syn_lower_spec.specs.Form.{is_nil}
use Rattle.syn_lower_spec.specs.Mark.{sign_at, word_at, round_at, brace_at, comma}
use Rattle.syn_lower_spec.specs.Own.{alone, joint}
use Rattle.syn_lower_spec.specs.Pat.{MemberTree, PatTree, a_name, an_index, dots, bound_at}
use Rattle.syn_lower_spec.specs.PatOwn.{attributes_own, pat_own}
use Rattle.syn_lower_spec.specs.PatFits.{attributes_outer, member_fits, pat_fits, pat_stops}
use Rattle.syn_lower_spec.specs.Part.{has_none, pound_bang}
use Rattle.syn_lower_spec.specs.Ends.{ends_types, ends_patterns}
use Rattle.syn_lower_spec.specs.Fits.{output_stops, qpath_fits}
use Rattle.syn_lower_spec.proofs.Ends.{parts_end}
use Rattle.syn_lower_spec.proofs.PatWholeComplete.{patterns_read_back}
use Rattle.syn_expr_spec.specs.declared.kinds.Precedence.TheVariants as lev
use Rattle.syn_expr_spec.specs.declared.next.Next.TheVariants as next
use Rattle.syn_expr_spec.specs.Place.{plain, before_block, at_head}
use Rattle.syn_expr_spec.specs.Next.{piece_context}
use Rattle.syn_expr_spec.specs.Slot as s
use Rattle.syn_expr_spec.specs.Slot.{Slot, after, may_end, piece_place}
use Rattle.syn_expr_spec.specs.Path.{is_sole}
use Rattle.syn_expr_spec.specs.Stands as st
use Rattle.syn_expr_spec.specs.Stands.{Node, Operands, is_if_expr, ends, closes, ends_piece, ends_list, path_of, short_value, takes_block}
use Rattle.syn_expr_spec.specs.Tree as e
use Rattle.syn_expr_spec.specs.Tree.{Tree, Children, Piece, Ending, Body, inners, leaf, none, child, is_none, is_block_like, is_silent, piece_own, ending_own, inside_of, own, children_own, clear, clear_children}
use Rattle.syn_expr_spec.specs.WellFormed.{piece_fits, ending_fits, may_stop, has_rest, is_verbatim_block, is_name_path}
use Rattle.syn_expr_spec.proofs.HeadPlaces.{is_written, piece_stops, ending_stops, is_scrutinee}
use Rattle.syn_expr_spec.proofs.HeadsBack.{heads_back}
use Rattle.syn_expr_spec.proofs.PatFront.{NoBody, attributes_front, outer_front}
use Rattle.syn_expr_spec.proofs.FillIns.{dots_there, comma_there, block_clear}
use Rattle.syn_expr_spec.proofs.Formed.{ChildFormed, Formed, FormedChildren}
use Rattle.syn_expr_spec.proofs.Obeys.{Fits, Obeys}
use Rattle.syn_expr_spec.proofs.Shows.{Shows, shows_nothing, shows_comma, shows_semi, shows_fat_arrow, shows_block}
use Rattle.syn_expr_spec.proofs.Places.{Meets, Calls, meets_plain, meets_arm, meets_condition, if_expr_clear, fits_ends, fits_closes, rests_ends, rests_closes}

-- ---- the place of an operand

pub piece_meets : (k : Piece) → Meets (piece_place k) (piece_context k)
piece_meets e.condition = meets_condition
piece_meets e.loop_head = meets_condition
piece_meets e.scrutinee = meets_condition
piece_meets e.guarded = meets_arm
piece_meets (e.arm ats p) = meets_arm
piece_meets k = meets_plain

child_fits : (k : Piece) (t : Tree) → Fits (piece_place k).level t (piece_context k).next
child_fits e.condition t = record { no_operator = refl; no_trailer = refl }
child_fits _ t = record { no_operator = refl; no_trailer = refl }

pub child_calls : (k : Piece) (t : Tree) → Calls t (piece_context k).next
child_calls e.condition t = record { none = refl }
child_calls _ t = record { none = refl }

pub child_obeyed : (k : Piece) (t : Tree) → Obeys lev.Jump (piece_context k) t → Obeys (piece_place k).level (piece_context k) t
child_obeyed e.condition t h = h
child_obeyed _ t h = h

plain_ends : (k : Piece) (x : Tree) (l : List Tok) → takes_block k ≡ false → ends (piece_place k) x l ≡ true → closes (piece_place k) x l ≡ true → ends_piece k x l ≡ true
plain_ends e.chained x l b p q = absurd cc
plain_ends e.output_block x l b p q = absurd cc
plain_ends k x l b p q = rw (p, q) refl

written : (k : Piece) → dots_there k ≡ is_written k
written (e.rest d) = refl
written k = refl

loud_stops : (k : Piece) (l : List Tok) → is_silent k ≡ false → piece_stops k l ≡ true
loud_stops (e.field_value ats m true) l h = refl
loud_stops (e.field_value ats m false) l h = absurd cc
loud_stops k l h = refl

inside_same : (k : Piece) (c : Ending) (r : List Tok) → is_scrutinee k ≡ false → ending_fits k c ≡ true → inside_of c r ≡ r
inside_same e.scrutinee (e.opened ats) r s f = absurd cc
inside_same k (e.opened ats) r s f = absurd cc
inside_same k _ r s f = refl

-- ---- what may come after the operands

abbrev pub rests_well : Slot → Bool → Children → List Tok → Bool
rests_well s.elements last ks r = is_empty r
rests_well s.single last ks r = is_empty r
rests_well s.counted last ks r = is_empty r
rests_well s.fields last ks r = ends_list last r && not (last && has_rest ks)
rests_well s.arms last ks r = is_empty r
rests_well s.bodies last ks r = is_empty r
rests_well s.conditions last ks r = not (word_at (codes "else") r)
rests_well s.otherwise last ks r = not (word_at (codes "else") r)
rests_well _ last ks r = true

fields_end : (last : Bool) (r : List Tok) → ends_list last r ≡ true → is_empty r || (dots.at r && is_empty (drop 2 r)) ≡ true
fields_end true r h = rw h (or-true (is_empty r))
fields_end false r h = rw h refl

pub operands_end : (x : Slot) (last : Bool) (r : List Tok) → may_stop x ≡ true → rests_well x last none r ≡ true → may_end x r ≡ true
operands_end s.elements last r f w = w
operands_end s.fields last r f w = fields_end last r (and_parts (ends_list last r) _ w).0
operands_end s.otherwise last r f w = w
operands_end s.arms last r f w = w
operands_end s.done last r f w = refl
operands_end s.single last r f w = absurd cc
operands_end _ last r f w = absurd cc

-- ---- one operand, by what is after it

record Behind (x : Slot) (last : Bool) (k : Piece) (c : Ending) (u : Tree) (ks : Children) (r : List Tok) : Type 0 where
  shows : Shows (piece_context k).next (ending_own k c (children_own ks r) r)
  stops : ending_stops k u c (children_own ks r) ≡ true
  rest : rests_well (after k) last ks r ≡ true

-- those that come before a token of their class
abbrev pub is_regular : Piece → Bool
is_regular e.element = true
is_regular e.value = true
is_regular e.repeated = true
is_regular (e.field_value ats m b) = b
is_regular (e.rest d) = true
is_regular e.condition = true
is_regular e.loop_head = true
is_regular (e.guard ats p) = true
is_regular _ = false

shows_empty : (r : List Tok) → is_empty r ≡ true → Shows next.End r
shows_empty [] h = shows_nothing
shows_empty (a ∷ r) h = absurd cc

listed : (x : Slot) (last : Bool) (c : Ending) (u t : Tree) (ks : Children) (r : List Tok) → comma_there e.element c t (not (is_none ks)) last ≡ true → ending_fits e.element c ≡ true
    → (last ≡ false → is_empty r ≡ true) → Shows next.End (ending_own e.element c (children_own ks r) r) × (ending_stops e.element u c (children_own ks r) ≡ true)
listed x last e.comma u t ks r g f w = (shows_comma spacing.Alone _, refl)
listed x false e.no_ending u t none r g f w = (shows_empty r (w refl), w refl)
listed x true e.no_ending u t none r g f w = absurd cc
listed x last e.no_ending u t (child k c y ks) r g f w = absurd cc
listed x last (e.braced b) u t ks r g f w = absurd cc
listed x last (e.opened ats) u t ks r g f w = absurd cc

done_none : (last : Bool) (ks : Children) → FormedChildren s.done last ks → is_none ks ≡ true
done_none last none f = refl
done_none last (child k c t ks) f = absurd (let g = f.0.piece in cc)

empty_end : (ks : Children) (r : List Tok) → is_none ks ≡ true → is_empty r ≡ true → Shows next.End (children_own ks r)
empty_end none r h w = shows_empty r w
empty_end (child k c t ks) r h w = absurd cc

empty_children : (ks : Children) (r : List Tok) → is_none ks ≡ true → is_empty r ≡ true → is_empty (children_own ks r) ≡ true
empty_children none r h w = w
empty_children (child k c t ks) r h w = absurd cc

arrow_end : (last : Bool) (ks : Children) (r : List Tok) → FormedChildren s.bodies last ks → Shows next.End (children_own ks r)
arrow_end last none r f = absurd cc
arrow_end last (child e.guarded c t ks) r f = shows_fat_arrow _
arrow_end last (child k c t ks) r f = absurd (let g = f.0.piece in cc)

no_last : (last : Bool) → not (last && true) ≡ true → last ≡ false
no_last true h = absurd cc
no_last false h = refl

field_end : (last : Bool) (r : List Tok) (b : Bool) → ends_list last r && b ≡ true → last ≡ false → is_empty r ≡ true
field_end true r b w e = absurd cc
field_end false r b w e = (and_parts (is_empty r) b w).0

list_behind : (last : Bool) (c : Ending) (t u : Tree) (ks : Children) (r : List Tok) → ChildFormed s.elements last e.element c t ks → is_empty r ≡ true → Behind s.elements last e.element c u ks r
list_behind last c t u ks r f w =
    let p = listed s.elements last c u t ks r f.comma f.ending (λ e. w) in
    record { shows = p.0; stops = p.1; rest = w }

field_ending : (ats : List AttributeTree) (m : MemberTree) (b : Bool) (c : Ending) → ending_fits (e.field_value ats m b) c ≡ ending_fits e.element c
field_ending ats m b e.no_ending = refl
field_ending ats m b _ = refl

field_same : (ats : List AttributeTree) (m : MemberTree) (b : Bool) (u : Tree) (c : Ending) (l : List Tok) → ending_stops e.element u c l ≡ true → ending_stops (e.field_value ats m b) u c l ≡ true
field_same ats m b u e.no_ending l h = h
field_same ats m b u _ l h = refl

field_own : (ats : List AttributeTree) (m : MemberTree) (b : Bool) (c : Ending) (l r : List Tok) → Shows next.End (ending_own e.element c l r) → Shows next.End (ending_own (e.field_value ats m b) c l r)
field_own ats m b e.no_ending l r h = h
field_own ats m b _ l r h = h

field_behind : (last : Bool) (ats : List AttributeTree) (m : MemberTree) (b : Bool) (c : Ending) (t u : Tree) (ks : Children) (r : List Tok) → ChildFormed s.fields last (e.field_value ats m b) c t ks
    → rests_well s.fields last ks r ≡ true → Shows next.End (ending_own (e.field_value ats m b) c (children_own ks r) r) × (ending_stops (e.field_value ats m b) u c (children_own ks r) ≡ true)
field_behind last ats m b c t u ks r f w =
    let p = listed s.fields last c u t ks r f.comma (sym (field_ending ats m b c) ∙ f.ending) (field_end last r _ w) in
    (field_own ats m b c _ r p.0, field_same ats m b u c _ p.1)

value_behind : (last : Bool) (c : Ending) (u : Tree) (ks : Children) (r : List Tok) → ending_fits e.value c ≡ true → FormedChildren s.done last ks → is_empty r ≡ true → Behind s.single last e.value c u ks r
value_behind last e.no_ending u ks r f fs w = record { shows = empty_end ks r (done_none last ks fs) w; stops = refl; rest = refl }
value_behind last c u ks r f fs w = absurd cc

counted_behind : (last : Bool) (c : Ending) (u : Tree) (ks : Children) (r : List Tok) → ending_fits e.repeated c ≡ true → is_empty r ≡ true → Behind s.counted last e.repeated c u ks r
counted_behind last e.no_ending u ks r f w = record { shows = shows_semi spacing.Alone _; stops = refl; rest = w }
counted_behind last c u ks r f w = absurd cc

rest_behind : (last d : Bool) (c : Ending) (t u : Tree) (ks : Children) (r : List Tok) → ending_fits (e.rest d) c ≡ true → FormedChildren s.done last ks
    → rests_well s.fields last (child (e.rest d) c t ks) r ≡ true → Behind s.fields last (e.rest d) c u ks r
rest_behind last d e.no_ending t u ks r f fs w =
    let p = and_parts (ends_list last r) (not (last && true)) w in
    let z = field_end last r _ w (no_last last p.1) in
    record { shows = empty_end ks r (done_none last ks fs) z; stops = empty_children ks r (done_none last ks fs) z; rest = refl }
rest_behind last d c t u ks r f fs w = absurd cc

condition_behind : (last : Bool) (c : Ending) (u : Tree) (ks : Children) (r : List Tok) → ending_fits e.condition c ≡ true → rests_well s.otherwise last ks r ≡ true → Behind s.conditions last e.condition c u ks r
condition_behind last (e.braced b) u ks r f w = record { shows = shows_block _ _; stops = refl; rest = w }
condition_behind last c u ks r f w = absurd cc

loop_behind : (last : Bool) (c : Ending) (u : Tree) (ks : Children) (r : List Tok) → ending_fits e.loop_head c ≡ true → Behind s.loops last e.loop_head c u ks r
loop_behind last (e.braced b) u ks r f = record { shows = shows_block _ _; stops = refl; rest = refl }
loop_behind last c u ks r f = absurd cc

guard_behind : (last : Bool) (ats : List AttributeTree) (p : PatTree) (c : Ending) (u : Tree) (ks : Children) (r : List Tok) → ending_fits (e.guard ats p) c ≡ true → FormedChildren s.bodies last ks → is_empty r ≡ true
    → Behind s.arms last (e.guard ats p) c u ks r
guard_behind last ats p e.no_ending u ks r f fs w = record { shows = arrow_end last ks r fs; stops = refl; rest = w }
guard_behind last ats p c u ks r f fs w = absurd cc

behind : (x : Slot) (last : Bool) (k : Piece) (c : Ending) (t u : Tree) (ks : Children) (r : List Tok) → is_regular k ≡ true → ChildFormed x last k c t ks → FormedChildren (after k) last ks
    → rests_well x last (child k c t ks) r ≡ true → Behind x last k c u ks r
behind s.elements last e.element c t u ks r g f fs w = list_behind last c t u ks r f w
behind s.single last e.value c t u ks r g f fs w = value_behind last c u ks r f.ending fs w
behind s.counted last e.repeated c t u ks r g f fs w = counted_behind last c u ks r f.ending w
behind s.fields last (e.field_value ats m true) c t u ks r g f fs w =
    let p = field_behind last ats m true c t u ks r f w in record { shows = p.0; stops = p.1; rest = w }
behind s.fields last (e.rest d) c t u ks r g f fs w = rest_behind last d c t u ks r f.ending fs w
behind s.conditions last e.condition c t u ks r g f fs w = condition_behind last c u ks r f.ending w
behind s.loops last e.loop_head c t u ks r g f fs w = loop_behind last c u ks r f.ending
behind s.arms last (e.guard ats p) c t u ks r g f fs w = guard_behind last ats p c u ks r f.ending fs w
behind s.otherwise last e.chained c t u ks r g f fs w = absurd cc
behind s.bodies last e.guarded c t u ks r g f fs w = absurd cc
behind s.outputs last e.output_block c t u ks r g f fs w = absurd cc
behind s.scrutinees last e.scrutinee c t u ks r g f fs w = absurd cc
behind x last k c t u ks r g f fs w = absurd (let p = f.piece in cc)

-- ---- one operand, made

record Placed (k : Piece) (c : Ending) (t : Tree) (n r : List Tok) : Type 0 where
  node : Node (piece_place k) (own t (ending_own k c n r)) (clear t) (ending_own k c n r)
  ends : ends_piece k (clear t) (ending_own k c n r) ≡ true
  stops : ending_stops k (clear t) c n ≡ true

loud_own : (k : Piece) (c : Ending) (t : Tree) (ks : Children) (r : List Tok) → is_silent k ≡ false → children_own (child k c t ks) r ≡ piece_own k (own t (ending_own k c (children_own ks (inside_of c r)) r))
loud_own k c t ks r h = rw h refl

child_made : (x : Slot) (last : Bool) (k : Piece) (c : Ending) (t : Tree) (ks : Children) (r o : List Tok) → ChildFormed x last k c t ks → is_silent k ≡ false → is_scrutinee k ≡ false
    → Placed k c t (children_own ks r) r → Operands (after k) (children_own ks r) (clear_children ks) o → Operands x (children_own (child k c t ks) r) (clear_children (child k c t ks)) o
child_made x last k c t ks r o f i j p q =
    let n = children_own ks r in
    subst (λ (l : List Tok). Operands x l (clear_children (child k c t ks)) o)
    (sym (loud_own k c t ks r i ∙ ap (λ (z : List Tok). piece_own k (own t (ending_own k c (children_own ks z) r))) (inside_same k c r j f.ending)))
    (st.one_more (heads_back.pieces x k c t _ f.piece (sym (written k) ∙ f.filled) (loud_stops k _ i)) i p.node p.ends (heads_back.endings k c (clear t) n r f.ending j p.stops) q)

regular_is : (k : Piece) → is_regular k ≡ true → (is_silent k ≡ false) × (is_scrutinee k ≡ false) × (takes_block k ≡ false)
regular_is e.element h = (refl, refl, refl)
regular_is e.value h = (refl, refl, refl)
regular_is e.repeated h = (refl, refl, refl)
regular_is (e.field_value ats m true) h = (refl, refl, refl)
regular_is (e.rest d) h = (refl, refl, refl)
regular_is e.condition h = (refl, refl, refl)
regular_is e.loop_head h = (refl, refl, refl)
regular_is (e.guard ats p) h = (refl, refl, refl)
regular_is k h = absurd cc

placed : (k : Piece) (c : Ending) (t : Tree) (n r : List Tok) → takes_block k ≡ false → Shows (piece_context k).next (ending_own k c n r)
    → Node (piece_place k) (own t (ending_own k c n r)) (clear t) (ending_own k c n r) → ending_stops k (clear t) c n ≡ true → Placed k c t n r
placed k c t n r b s d z = record {
  node = d;
  ends = plain_ends k (clear t) _ b (fits_ends (piece_place k) t (piece_context k).next _ s (child_fits k t)) (fits_closes (piece_place k) (piece_place k).level t (piece_context k).next _ s (child_fits k t));
  stops = z;
}

-- before a token of its class
abbrev pub Stood : Piece → Tree → Type 0
Stood k t = (l : List Tok) → Shows (piece_context k).next l → Node (piece_place k) (own t l) (clear t) l

pub regular : (x : Slot) (last : Bool) (k : Piece) (c : Ending) (t : Tree) (ks : Children) (r : List Tok) → is_regular k ≡ true → ChildFormed x last k c t ks → FormedChildren (after k) last ks
    → rests_well x last (child k c t ks) r ≡ true → Stood k t → (rests_well (after k) last ks r ≡ true → Operands (after k) (children_own ks r) (clear_children ks) r)
    → Operands x (children_own (child k c t ks) r) (clear_children (child k c t ks)) r
regular x last k c t ks r g f fs w d q =
    let b = behind x last k c t (clear t) ks r g f fs w in
    let i = regular_is k g in
    child_made x last k c t ks r r f i.0 i.1 (placed k c t (children_own ks r) r i.2 b.shows (d _ b.shows) b.stops) (q b.rest)

-- ---- the bodies of arms

-- what is after a body that ends with a block
abbrev pub Blocked : Tree → Type 0
Blocked t = (l : List Tok) → is_block_like t ≡ true → word_at (codes "else") l ≡ false → Node at_head (own t l) (clear t) l

if_spelled : (ats : List AttributeTree) (p : PatTree) (l : List Tok) → attributes_outer ats && pat_fits true p ≡ true → NoBody (attributes_own ats (pat_own p (ident (codes "if") ∷ l)))
unfolding ends_patterns ends_types bound_at is_segment stands_alone is_reserved_word is_truth sign_at round_at brace_at group_at
if_spelled ats p l f =
    let q = and_parts (attributes_outer ats) (pat_fits true p) f in
    let w : pat_stops true p (ident (codes "if") ∷ l) ≡ true = parts_end.patterns true p (ident (codes "if") ∷ l) refl refl in
    attributes_front ats p _ _ (patterns_read_back.patterns true p (ident (codes "if") ∷ l) q.1 w)

arrow_spelled : (ats : List AttributeTree) (p : PatTree) (l : List Tok) → attributes_outer ats && pat_fits true p ≡ true → NoBody (attributes_own ats (pat_own p (joint 61 ∷ alone 62 ∷ l)))
unfolding ends_patterns ends_types bound_at sign_at round_at brace_at group_at
arrow_spelled ats p l f =
    let q = and_parts (attributes_outer ats) (pat_fits true p) f in
    let w : pat_stops true p (joint 61 ∷ alone 62 ∷ l) ≡ true = parts_end.patterns true p (joint 61 ∷ alone 62 ∷ l) refl refl in
    attributes_front ats p _ _ (patterns_read_back.patterns true p (joint 61 ∷ alone 62 ∷ l) q.1 w)

arm_first : (last : Bool) (ks : Children) (r : List Tok) → FormedChildren s.arms last ks → is_none ks ≡ false → NoBody (children_own ks r)
arm_first last none r f h = absurd cc
arm_first last (child (e.guard ats p) c t ks) r f h = if_spelled ats p _ f.0.piece
arm_first last (child (e.arm ats p) c t ks) r f h = arrow_spelled ats p _ f.0.piece
arm_first last (child k c t ks) r f h = absurd (let p = f.0.piece in cc)

must_block : (b : Bool) → not (true && not b) ≡ true → b ≡ true
must_block true h = refl
must_block false h = absurd cc

empty_is : (r : List Tok) → is_empty r ≡ true → comma.at r ≡ false
unfolding sign_at
empty_is [] h = refl
empty_is (a ∷ r) h = absurd cc

-- a body that ends with a block comes before the next arm
block_placed : (t : Tree) (n : List Tok) → is_block_like t ≡ true → NoBody n → Blocked t
    → Node at_head (own t n) (clear t) n × ends_piece e.guarded (clear t) n ≡ true × (not (comma.at n) && (is_empty n || is_block_like (clear t)) ≡ true)
block_placed t n b f g =
    let c = block_clear t ∙ b in
    (g n b f.no_else, rw (rests_ends (clear t) n c, rests_closes (clear t) n c f.no_dot f.no_question) refl, rw (f.no_comma, c) (or-true (is_empty n)))

guarded_placed : (x : Slot) (last : Bool) (c : Ending) (t : Tree) (ks : Children) (r : List Tok) → ChildFormed x last e.guarded c t ks → FormedChildren s.arms last ks → is_empty r ≡ true
    → Stood e.guarded t → Blocked t → Placed e.guarded c t (children_own ks r) r
guarded_placed x last e.comma t ks r f fs w d g = placed e.guarded e.comma t _ r refl (shows_comma spacing.Alone _) (d _ (shows_comma spacing.Alone _)) refl
guarded_placed x last e.no_ending t none r f fs w d g =
    let i = shows_empty r w in placed e.guarded e.no_ending t r r refl i (d r i) (rw (empty_is r w, w) refl)
guarded_placed x last e.no_ending t (child k c y ks) r f fs w d g =
    let b = must_block (is_block_like t) f.comma in
    let q = block_placed t (children_own (child k c y ks) r) b (arm_first last (child k c y ks) r fs refl) g in
    record { node = q.0; ends = q.1; stops = q.2 }
guarded_placed x last (e.braced b) t ks r f fs w d g = absurd (let i = f.ending in cc)
guarded_placed x last (e.opened b) t ks r f fs w d g = absurd (let i = f.ending in cc)

body_slot_guarded : (x : Slot) (c : Ending) (t : Tree) → piece_fits x e.guarded c t ≡ true → (last : Bool) (ks : Children) (r : List Tok) → rests_well x last ks r ≡ true → is_empty r ≡ true
body_slot_guarded s.bodies c t f last ks r w = w
body_slot_guarded x c t f last ks r w = absurd cc

pub guarded_made : (x : Slot) (last : Bool) (c : Ending) (t : Tree) (ks : Children) (r : List Tok) → ChildFormed x last e.guarded c t ks → FormedChildren s.arms last ks
    → rests_well x last (child e.guarded c t ks) r ≡ true → Stood e.guarded t → Blocked t → (rests_well s.arms last ks r ≡ true → Operands s.arms (children_own ks r) (clear_children ks) r)
    → Operands x (children_own (child e.guarded c t ks) r) (clear_children (child e.guarded c t ks)) r
guarded_made x last c t ks r f fs w d g q =
    let z = body_slot_guarded x c t f.piece last (child e.guarded c t ks) r w in
    child_made x last e.guarded c t ks r r f refl refl (guarded_placed x last c t ks r f fs z d g) (q z)

arm_placed : (x : Slot) (last : Bool) (ats : List AttributeTree) (p : PatTree) (c : Ending) (t : Tree) (ks : Children) (r : List Tok) → ChildFormed x last (e.arm ats p) c t ks → FormedChildren s.arms last ks → is_empty r ≡ true
    → Stood (e.arm ats p) t → Blocked t → Placed (e.arm ats p) c t (children_own ks r) r
arm_placed x last ats p e.comma t ks r f fs w d g = placed (e.arm ats p) e.comma t _ r refl (shows_comma spacing.Alone _) (d _ (shows_comma spacing.Alone _)) refl
arm_placed x last ats p e.no_ending t none r f fs w d g =
    let i = shows_empty r w in placed (e.arm ats p) e.no_ending t r r refl i (d r i) (rw (empty_is r w, w) refl)
arm_placed x last ats p e.no_ending t (child k c y ks) r f fs w d g =
    let b = must_block (is_block_like t) f.comma in
    let q = block_placed t (children_own (child k c y ks) r) b (arm_first last (child k c y ks) r fs refl) g in
    record { node = q.0; ends = q.1; stops = q.2 }
arm_placed x last ats p (e.braced b) t ks r f fs w d g = absurd (let i = f.ending in cc)
arm_placed x last ats p (e.opened b) t ks r f fs w d g = absurd (let i = f.ending in cc)

body_slot_arm : (ats : List AttributeTree) (p : PatTree) (x : Slot) (c : Ending) (t : Tree) → piece_fits x (e.arm ats p) c t ≡ true → (last : Bool) (ks : Children) (r : List Tok) → rests_well x last ks r ≡ true → is_empty r ≡ true
body_slot_arm ats p s.arms c t f last ks r w = w
body_slot_arm ats p x c t f last ks r w = absurd cc

pub arm_made : (x : Slot) (last : Bool) (ats : List AttributeTree) (p : PatTree) (c : Ending) (t : Tree) (ks : Children) (r : List Tok) → ChildFormed x last (e.arm ats p) c t ks → FormedChildren s.arms last ks
    → rests_well x last (child (e.arm ats p) c t ks) r ≡ true → Stood (e.arm ats p) t → Blocked t → (rests_well s.arms last ks r ≡ true → Operands s.arms (children_own ks r) (clear_children ks) r)
    → Operands x (children_own (child (e.arm ats p) c t ks) r) (clear_children (child (e.arm ats p) c t ks)) r
arm_made x last ats p c t ks r f fs w d g q =
    let z = body_slot_arm ats p x c t f.piece last (child (e.arm ats p) c t ks) r w in
    child_made x last (e.arm ats p) c t ks r r f refl refl (arm_placed x last ats p c t ks r f fs z d g) (q z)

-- ---- blocks after `else` and after outputs

verbatim_body : (b : Body) → is_nil b.inner ≡ true → b ≡ e.body_of [] b.tokens
verbatim_body b h = go b.inner b.tokens h
  where
    go : (xs : List AttributeTree) (ts : List Tok) → is_nil xs ≡ true → record { inner = xs; tokens = ts } ≡ e.body_of [] ts
    go [] ts h = refl
    go (a ∷ xs) ts h = absurd cc

verbatim_made : (x : Slot) (last : Bool) (k : Piece) (t : Tree) (r : List Tok) → piece_fits x k e.no_ending t ≡ true → is_written k ≡ true → ((l : List Tok) → piece_stops k l ≡ true) → takes_block k ≡ true
    → after k ≡ s.done → is_verbatim_block t ≡ true → Operands x (piece_own k (own t r)) (child k e.no_ending (clear t) none) r
verbatim_made x last k (leaf (e.block None b)) r f w z i a h =
    subst (λ y. Operands x (piece_own k (own (leaf (e.block None y)) r)) (child k e.no_ending (leaf (e.block None y)) none) r) (sym (verbatim_body b h))
    (st.block (heads_back.pieces x k e.no_ending (leaf (e.block None b)) _ f w (z _)) i (heads_back.groups del.Brace b.tokens r)
    (subst (λ y. Operands y r none r) (sym a) (st.no_more refl)))
verbatim_made x last k (leaf j) r f w z i a h = absurd cc
verbatim_made x last k t r f w z i a h = absurd cc

or_else : (a b : Bool) → a || b ≡ true → a ≡ false → b ≡ true
or_else true b h e = absurd cc
or_else false b h e = h

chained_here : (last : Bool) (t : Tree) (r : List Tok) → ChildFormed s.otherwise last e.chained e.no_ending t none → (is_if_expr t ≡ true → Node plain (own t r) (clear t) r)
    → Operands s.otherwise (children_own (child e.chained e.no_ending t none) r) (clear_children (child e.chained e.no_ending t none)) r
chained_here last t r f g = go (is_if_expr t) refl
  where
    go : (b : Bool) → is_if_expr t ≡ b → Operands s.otherwise (children_own (child e.chained e.no_ending t none) r) (clear_children (child e.chained e.no_ending t none)) r
    go true b = child_made s.otherwise last e.chained e.no_ending t none r r f refl refl (record { node = g b; ends = if_expr_clear t ∙ b; stops = refl }) (st.no_more refl)
    go false b = verbatim_made s.otherwise last e.chained t r f.piece refl (λ l. refl) refl refl (or_else _ _ f.piece b)

pub chained_made : (x : Slot) (last : Bool) (c : Ending) (t : Tree) (ks : Children) (r : List Tok) → ChildFormed x last e.chained c t ks → FormedChildren s.done last ks
    → rests_well x last (child e.chained c t ks) r ≡ true → (is_if_expr t ≡ true → word_at (codes "else") r ≡ false → Node plain (own t r) (clear t) r)
    → Operands x (children_own (child e.chained c t ks) r) (clear_children (child e.chained c t ks)) r
chained_made s.otherwise last e.no_ending t none r f fs w g = chained_here last t r f (λ b. g b (not-true _ w))
chained_made s.otherwise last e.no_ending t (child k c y ks) r f fs w g = absurd (let q = fs.0.piece in cc)
chained_made s.otherwise last c t ks r f fs w g = absurd (let q = f.ending in cc)
chained_made x last c t ks r f fs w g = absurd (let q = f.piece in cc)

pub output_made : (x : Slot) (last : Bool) (c : Ending) (t : Tree) (ks : Children) (r : List Tok) → ChildFormed x last e.output_block c t ks → FormedChildren s.done last ks
    → Operands x (children_own (child e.output_block c t ks) r) (clear_children (child e.output_block c t ks)) r
output_made s.outputs last e.no_ending t none r f fs = verbatim_made s.outputs last e.output_block t r f.piece refl (λ l. refl) refl refl f.piece
output_made s.outputs last e.no_ending t (child k c y ks) r f fs = absurd (let q = fs.0.piece in cc)
output_made s.outputs last c t ks r f fs = absurd (let q = f.ending in cc)
output_made x last c t ks r f fs = absurd (let q = f.piece in cc)

-- nothing goes on with an output before the block
brace_output : (o : ReturnTree) (i : Inside) (r : List Tok) → output_stops true o (group del.Brace i ∷ r) ≡ true
unfolding ends_types sign_at round_at group_at
brace_output o i r = parts_end.outputs true o (group del.Brace i ∷ r) refl refl

pub output_first : (o : ReturnTree) (last : Bool) (ks : Children) (r : List Tok) → FormedChildren s.outputs last ks → output_stops true o (children_own ks r) ≡ true
output_first o last none r f = absurd cc
output_first o last (child e.output_block c (leaf (e.block None b)) ks) r f = brace_output o _ _
output_first o last _ r f = absurd (let q = f.0.piece in cc)

-- ---- a field whose value its name says

no_argument : (a : t.ArgumentsTree) → has_none a ≡ true → a ≡ t.no_arguments
no_argument t.no_arguments h = refl
no_argument (t.angle c gs e) h = absurd cc
no_argument (t.round xs e o) h = absurd cc

same_path : (w v : Text) (a : t.ArgumentsTree) → v ≡ w → a ≡ t.no_arguments
    → leaf (e.path t.no_qself (record { leading = false; segments = record { ident = v; arguments = a } ∷ []; trailing = false })) ≡ path_of w
same_path w v a p q = rw (p, q) refl

path_is : (w : Text) (b : Bool) (ss : List SegmentTree) (e0 : Bool) → not b && is_sole w ss ≡ true → e0 ≡ false → leaf (e.path t.no_qself (record { leading = b; segments = ss; trailing = e0 })) ≡ path_of w
path_is w false (x ∷ []) false h z =
    let p = and_parts (bytes_eq x.ident w) (has_none x.arguments) h in
    same_path w x.ident x.arguments ((bytes_eq-Decides x.ident w).0 p.0) (no_argument x.arguments p.1)
path_is w _ _ _ h z = absurd cc

name_is : (w : Text) (t : Tree) → is_name_path (a_name w) t ≡ true → Formed t → t ≡ path_of w
name_is w (leaf (e.path t.no_qself p)) h f = path_is w p.leading p.segments p.trailing h (not-true _ (and_parts (not p.trailing) _ (and_parts (qpath_fits style.Expr (t.no_qself, p)) _ f).0).0)
name_is w _ h f = absurd cc

named_value : (ats : List AttributeTree) (m : MemberTree) (t : Tree) → is_name_path m t ≡ true → Formed t → short_value (e.field_value ats m false) ≡ Some (clear t)
named_value ats (a_name w) t h f = ap (λ x. Some (clear x)) (sym (name_is w t h f))
named_value ats (an_index n) t h f = absurd cc

short_own : (ats : List AttributeTree) (m : MemberTree) (c : Ending) (t : Tree) (ks : Children) (r : List Tok) → ending_fits (e.field_value ats m false) c ≡ true
    → children_own (child (e.field_value ats m false) c t ks) r ≡ piece_own (e.field_value ats m false) (ending_own (e.field_value ats m false) c (children_own ks r) r)
short_own ats m c t ks r f = ap (λ (z : List Tok). piece_own (e.field_value ats m false) (ending_own (e.field_value ats m false) c (children_own ks z) r)) (inside_same (e.field_value ats m false) c r refl f)

pub short_made : (x : Slot) (last : Bool) (ats : List AttributeTree) (m : MemberTree) (c : Ending) (t : Tree) (ks : Children) (r : List Tok) → ChildFormed x last (e.field_value ats m false) c t ks → Formed t
    → rests_well x last (child (e.field_value ats m false) c t ks) r ≡ true → (rests_well s.fields last ks r ≡ true → Operands s.fields (children_own ks r) (clear_children ks) r)
    → Operands x (children_own (child (e.field_value ats m false) c t ks) r) (clear_children (child (e.field_value ats m false) c t ks)) r
short_made s.fields last ats m c t ks r f g w q =
    let k = e.field_value ats m false in
    let b = field_behind last ats m false c t (clear t) ks r f w in
    let p = and_parts (attributes_outer ats) (member_fits m && is_name_path m t) f.piece in
    let n = and_parts (member_fits m) (is_name_path m t) p.1 in
    subst (λ (l : List Tok). Operands s.fields l (clear_children (child k c t ks)) r) (sym (short_own ats m c t ks r f.ending))
    (st.short (heads_back.pieces s.fields k c t _ f.piece refl (ap (λ z. not z.colon) b.0.same)) (named_value ats m t n.1 g)
    (heads_back.endings k c (clear t) (children_own ks r) r f.ending refl b.1) (q w))
short_made x last ats m c t ks r f g w q = absurd (let p = f.piece in cc)

-- ---- what a `match` looks at

empty_pound : (r : List Tok) → is_empty r ≡ true → pound_bang.at r ≡ false
unfolding sign_at
empty_pound [] h = refl
empty_pound (a ∷ r) h = absurd cc

if_outer : (ats : List AttributeTree) (p : PatTree) (l : List Tok) → attributes_outer ats && pat_fits true p ≡ true → pound_bang.at (attributes_own ats (pat_own p (ident (codes "if") ∷ l))) ≡ false
unfolding ends_patterns ends_types bound_at is_segment stands_alone is_reserved_word is_truth sign_at round_at brace_at group_at
if_outer ats p l f =
    let q = and_parts (attributes_outer ats) (pat_fits true p) f in
    let w : pat_stops true p (ident (codes "if") ∷ l) ≡ true = parts_end.patterns true p (ident (codes "if") ∷ l) refl refl in
    outer_front ats p _ _ q.0 (patterns_read_back.patterns true p (ident (codes "if") ∷ l) q.1 w)

arrow_outer : (ats : List AttributeTree) (p : PatTree) (l : List Tok) → attributes_outer ats && pat_fits true p ≡ true → pound_bang.at (attributes_own ats (pat_own p (joint 61 ∷ alone 62 ∷ l))) ≡ false
unfolding ends_patterns ends_types bound_at sign_at round_at brace_at group_at
arrow_outer ats p l f =
    let q = and_parts (attributes_outer ats) (pat_fits true p) f in
    let w : pat_stops true p (joint 61 ∷ alone 62 ∷ l) ≡ true = parts_end.patterns true p (joint 61 ∷ alone 62 ∷ l) refl refl in
    outer_front ats p _ _ q.0 (patterns_read_back.patterns true p (joint 61 ∷ alone 62 ∷ l) q.1 w)

arms_first : (last : Bool) (ks : Children) (r : List Tok) → FormedChildren s.arms last ks → is_empty r ≡ true → pound_bang.at (children_own ks r) ≡ false
arms_first last none r f w = empty_pound r w
arms_first last (child (e.guard ats p) c t ks) r f w = if_outer ats p _ f.0.piece
arms_first last (child (e.arm ats p) c t ks) r f w = arrow_outer ats p _ f.0.piece
arms_first last (child k c t ks) r f w = absurd (let p = f.0.piece in cc)

pub scrutinee_made : (x : Slot) (last : Bool) (c : Ending) (t : Tree) (ks : Children) (r : List Tok) → ChildFormed x last e.scrutinee c t ks → FormedChildren s.arms last ks
    → Stood e.scrutinee t → Operands s.arms (children_own ks []) (clear_children ks) []
    → Operands x (children_own (child e.scrutinee c t ks) r) (clear_children (child e.scrutinee c t ks)) r
scrutinee_made s.scrutinees last (e.opened ats) t ks r f fs d q =
    let b = shows_block (inside (attributes_own (inners ats) (children_own ks []))) r in
    st.arms_inside (d _ b) (fits_ends before_block t next.Block _ b (child_fits e.scrutinee t)) (fits_closes before_block lev.Jump t next.Block _ b (child_fits e.scrutinee t))
    (heads_back.opened ats (children_own ks []) r) (heads_back.inner ats (children_own ks []) f.ending (arms_first last ks [] fs refl)) q
scrutinee_made s.scrutinees last c t ks r f fs d q = absurd (let p = f.ending in cc)
scrutinee_made x last c t ks r f fs d q = absurd (let p = f.piece in cc)
