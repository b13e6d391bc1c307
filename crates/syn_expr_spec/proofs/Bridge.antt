-- A printed tree that obeys the binding rules stands for its own tokens.
use Rattle.std.proofs.Common.{◌≡◌, ℕ, Bool, true, false, not, ◌&&◌, ◌||◌, List, [], ◌∷◌, Some, None, refl, sym, ◌∙◌, ap, subst, codes}
use Rattle.std.proofs.Math.Bool.{and-false, and-true}
use Rattle.std.proofs.lemmas.Bool.{or_parts, and_parts, not-true}
use Rattle.syn_lexer.specs.declared.front.Delimiter.TheVariants as del
use Rattle.syn_tokens.specs.Tok.{Tok, toks-inside}
use Rattle.syn_lower_spec.specs.declared.label.PathStyle.TheVariants as style
use Rattle.syn_lower_spec.specs.Tree.{AttributeTree, QSelfTree, PathTree}
use Rattle.syn_lower_spec.specs.Part.{is_default, outer_attributes}
use Rattle.syn_lower_spec.specs.Mark.{sign_at, word_at, pound}
use Rattle.syn_lower_spec.specs.Own as o
use Rattle.syn_lower_spec.specs.Own.{before_if, joint, alone}
use Rattle.syn_lower_spec.specs.PatOwn.{attributes_own}
use Rattle.syn_lower_spec.specs.Pat.{a_name, an_index}
use Rattle.syn_lower_spec.specs.Fits.{qpath_fits}
use Rattle.syn_lower_spec.proofs.PatsBack.{attributes_back}
use Rattle.syn_expr_spec.specs.declared.kinds.Infix.{Infix}
use Rattle.syn_expr_spec.specs.declared.kinds.Precedence.{Precedence}
use Rattle.syn_expr_spec.specs.declared.kinds.Precedence.TheVariants as lev
use Rattle.syn_expr_spec.specs.declared.kinds.Place.{Place}
use Rattle.syn_expr_spec.specs.declared.next.Next.{Next}
use Rattle.syn_expr_spec.specs.declared.next.Next.TheVariants as next
use Rattle.syn_expr_spec.specs.declared.next.Context.{Context}
use Rattle.syn_expr_spec.specs.Place.{plain, at_head, at}
use Rattle.syn_expr_spec.specs.Op.{level}
use Rattle.syn_expr_spec.specs.Next.{without_block, enclosed, left_context, base_context, right_context, attributed_context, prefix_context, prefix_level, piece_context}
use Rattle.syn_expr_spec.specs.Rule.{is_operation}
use Rattle.syn_expr_spec.specs.Slot as slot
use Rattle.syn_expr_spec.specs.Slot.{Slot, nothing, within, piece_place, frame_holder, trailer_holder}
use Rattle.syn_expr_spec.specs.Stands as st
use Rattle.syn_expr_spec.specs.Path.{is_try_alone}
use Rattle.syn_expr_spec.specs.Stands.{Node, Content, Operands, is_attributed, is_if_expr, rests, ends_list, is_base, is_parenthesis_or_bracket, has_no_comma, frame_stands, frame_ends, leaf_stands, infix_stands, prefix_place}
use Rattle.syn_expr_spec.specs.Tree as e
use Rattle.syn_expr_spec.specs.Tree.{Tree, Children, Leaf, Frame, Trailer, leaf, paren, attributed, prefixed, infixed, postfixed, tail, frame, none, child, postfix_op, is_one, is_block_like, is_block_leaf, infix_own, postfix_own, trailer_own, own, children_own, enclosure, behind_operands, clear, clear_children}
use Rattle.syn_expr_spec.specs.WellFormed.{trailer_fits, frame_fits, piece_fits, is_verbatim_block}
use Rattle.syn_expr_spec.proofs.Callees.{carries_it}
use Rattle.syn_expr_spec.proofs.HeadsBack.{heads_back}
use Rattle.syn_expr_spec.proofs.HeadForms.{leaf_stops}
use Rattle.syn_expr_spec.proofs.HeadTrailers.{trailer_stops, trailer_rest, is_indexed}
use Rattle.syn_expr_spec.proofs.HeadFrames.{frame_stops, frame_rest}
use Rattle.syn_expr_spec.proofs.Formed.{Formed, FormedChildren}
use Rattle.syn_expr_spec.proofs.Obeys.{Fits, Obeys, ObeysChildren}
use Rattle.syn_expr_spec.proofs.Shows.{Shows, is_round_next, seen, shows_nothing, shows_operator, shows_trailer}
use Rattle.syn_expr_spec.proofs.Attributes.{outers_are}
use Rattle.syn_expr_spec.proofs.OwnFronts.{front, begins_pound, postfix_class}
use Rattle.syn_expr_spec.proofs.Places.{Meets, Calls, own_infix, own_drop, meets_plain, meets_left, meets_base, meets_attributed, meets_right, meets_prefix, prefix_level_is, goes_free, fits_ends, fits_closes, left_closes, left_fits, base_fits, operation_ends, takes_attributes_there, fits_calls, left_calls, base_calls, attributed_calls, level_fits, level_obeys}
use Rattle.syn_expr_spec.proofs.Stood.{leaf_there, leaf_stopped, prefix_there, prefix_stopped, infix_there, postfix_there, postfix_back, postfix_infix}
use Rattle.syn_expr_spec.proofs.Children.{rests_well, operands_end, piece_meets, child_calls, child_obeyed, regular, guarded_made, arm_made, chained_made, output_made, output_first, short_made, scrutinee_made}

-- ---- no attribute first

base_plain : (k : Trailer) (b : Tree) → is_base k b ≡ true → (is_attributed b ≡ false) × (is_operation b ≡ false)
base_plain k (leaf j) h = (refl, not-true _ (and_parts _ _ h).0)
base_plain k (attributed a more t) h = absurd (let f : true ≡ false = sym h ∙ and-false _ in cc)
base_plain k (prefixed j gs t) h = (refl, (or_parts _ _ (not-true _ (and_parts _ _ h).0)).1)
base_plain k (infixed x j y) h = absurd cc
base_plain k (postfixed x j) h = absurd cc
base_plain k _ h = (refl, refl)

no_pound : (v : Precedence) (c : Context) (t : Tree) → Obeys v c t → is_attributed t ≡ false → is_operation t ≡ false → begins_pound t ≡ false
no_pound v c (attributed b more t) h a o = absurd cc
no_pound v c (infixed x k y) h a o = absurd cc
no_pound v c (postfixed x k) h a o = absurd cc
no_pound v c (tail b k ks) h a o = let p = base_plain k b h.0 in no_pound v (base_context k c) b h.1 p.0 p.1
no_pound v c _ h a o = refl

-- ---- what is after the operand of a prefix

seen_jump : (n : Next) → seen n ≡ seen (without_block n)
seen_jump next.End = refl
seen_jump _ = refl

shows_prefix : (k : e.Prefix) (c : Context) (r : List Tok) → Shows c.next r → Shows (prefix_context k c).next r
shows_prefix (e.unary op) c r s = s
shows_prefix (e.jump j) c r s = record { same = s.same ∙ seen_jump c.next }
shows_prefix _ c r s = s

-- ---- bases

base_free : (p : Place) (k : Trailer) (c : Context) (b : Tree) → Meets p c → Formed b → Obeys p.level (base_context k c) b → is_parenthesis_or_bracket k && rests p (clear b) ≡ false
base_free p e.call c b m f h = goes_free p p.level c (base_context e.call c) b m refl f h
base_free p e.index c b m f h = goes_free p p.level c (base_context e.index c) b m refl f h
base_free p _ c b m f h = refl

field_stops : (w : _) (b : Tree) (n : Next) (r : List Tok) → Shows n r → Calls (tail b (e.field (a_name w)) none) n → trailer_stops (e.field (a_name w)) r ≡ true
field_stops w b n r s g =
    let q : is_round_next n ≡ false = sym (and-true (is_round_next n)) ∙ g.none in
    rw (ap (λ x. x.round) s.same ∙ q, ap (λ x. x.colon2) s.same) refl

-- ---- frames

tuple_comma : (ks : Children) → FormedChildren slot.elements (is_one ks) ks → not (is_one (clear_children ks) && has_no_comma (clear_children ks)) ≡ true
tuple_comma none f = refl
tuple_comma (child k c t (child j d u ks)) f = refl
tuple_comma (child e.element e.comma t none) f = refl
tuple_comma (child e.element e.no_ending t none) f = absurd (let q = f.0.comma in cc)
tuple_comma (child e.element (e.braced b) t none) f = refl
tuple_comma (child e.element (e.opened ats) t none) f = refl
tuple_comma (child k c t none) f = absurd (let q = f.0.piece in cc)

dots_end : (d : Bool) → ends_list d (before_if d (λ l. joint 46 ∷ alone 46 ∷ l) []) ≡ true
unfolding sign_at
dots_end true = refl
dots_end false = refl

struct_stands : (p : Place) (c : Context) (q : QSelfTree) (w : PathTree) (d : Bool) (ks : Children) → Meets p c → c.condition ≡ false → frame_fits (e.structure q w d) ks ≡ true → not (p.condition || is_try_alone q w) ≡ true
struct_stands p c q w d ks m h f =
    let x = and_parts (qpath_fits style.Expr (q, w)) _ f in
    let y = and_parts (not (is_try_alone q w)) _ x.1 in
    rw (m.mode ∙ h, not-true _ y.0) refl

struct_rests : (q : QSelfTree) (w : PathTree) (d : Bool) (ks : Children) → frame_fits (e.structure q w d) ks ≡ true
    → rests_well slot.fields d ks (before_if d (λ l. joint 46 ∷ alone 46 ∷ l) []) ≡ true
struct_rests q w d ks f =
    let x = and_parts (qpath_fits style.Expr (q, w)) _ f in
    let y = and_parts (not (is_try_alone q w)) _ x.1 in
    rw (dots_end d) y.1

-- ---- blocks, which come before any tokens

block_leaf : (p : Place) (k : Leaf) (r : List Tok) → is_block_leaf k ≡ true → (leaf_stops k r ≡ true) × (leaf_stands p k r ≡ true)
unfolding leaf_stands
block_leaf p (e.path q w) r h = absurd cc
block_leaf p (e.full_range op) r h = absurd cc
block_leaf p (e.bare_jump j) r h = absurd cc
block_leaf p (e.continuing w) r h = absurd cc
block_leaf p k r h = (refl, refl)

block_pound : (t : Tree) (r : List Tok) → is_block_like t ≡ true → is_attributed t ≡ false → pound.at (own t r) ≡ false
unfolding sign_at
block_pound (leaf (e.lit x)) r h a = absurd cc
block_pound (leaf (e.path q w)) r h a = absurd cc
block_pound (leaf (e.mac m)) r h a = absurd cc
block_pound (leaf (e.full_range op)) r h a = absurd cc
block_pound (leaf (e.bare_jump j)) r h a = absurd cc
block_pound (leaf (e.verbatim ts)) r h a = absurd cc
block_pound (leaf (e.block None b)) r h a = refl
block_pound (leaf (e.loop_expr None b)) r h a = refl
block_pound (leaf k) r h a = refl
block_pound (frame e.if_expr ks) r h a = refl
block_pound (frame (e.while_loop None) ks) r h a = refl
block_pound (frame (e.while_loop (Some w)) ks) r h a = refl
block_pound (frame (e.for_loop None p) ks) r h a = refl
block_pound (frame (e.for_loop (Some w) p) ks) r h a = refl
block_pound (frame e.match_expr ks) r h a = refl
block_pound _ r h a = absurd cc

if_expr_block : (t : Tree) → is_if_expr t ≡ true → is_block_like t ≡ true
if_expr_block (frame e.if_expr ks) h = refl
if_expr_block (frame k ks) h = absurd cc
if_expr_block t h = absurd cc

-- ---- nodes from their parts

paren_made : (p : Place) (b : Bool) (t : Tree) (r : List Tok) → Node plain (own t []) (clear t) [] → Fits lev.Jump t next.End → Node p (own (paren b t) r) (clear (paren b t)) r
paren_made p b t r d f =
    st.is_paren (subst (λ (l : List Tok). Node plain l (clear t) []) (sym (toks-inside (own t []))) d)
    (fits_ends plain t next.End [] shows_nothing f) (fits_closes plain lev.Jump t next.End [] shows_nothing f)

attributed_made : (p : Place) (a : AttributeTree) (more : List AttributeTree) (t : Tree) (r : List Tok) → Formed (attributed a more t) → is_operation t ≡ false → pound.at (own t r) ≡ false
    → Node p (own t r) (clear t) r → Node p (own (attributed a more t) r) (clear (attributed a more t)) r
attributed_made p a more t r f o h d =
    st.is_attributed_by (ap (λ l. outer_attributes.behind (a ∷ more) (attributes_own l (own t r))) (outers_are (a ∷ more) f.0) ∙ attributes_back (a ∷ more) (own t r) f.0 h)
    (takes_attributes_there p t f.2 f.1 o) d

infix_made : (p : Place) (c : Context) (x : Tree) (k : Infix) (y : Tree) (r : List Tok) → Formed (infixed x k y) → Meets p c → Shows c.next r → Obeys p.level c (infixed x k y)
    → Node p (own x (infix_own k (own y r))) (clear x) (infix_own k (own y r)) → Node (at p (level k)) (own y r) (clear y) r
    → Node p (own (infixed x k y) r) (clear (infixed x k y)) r
infix_made p c x k y r f m s h d g =
    let o = shows_operator k (own y r) in
    let back = sym (own_drop k (own y r)) in
    st.is_infixed d (left_closes p (clear x) k _ o) (left_fits p k x h.2 (goes_free p p.level c (left_context k c) x m refl f.1 h.1)) (own_infix k (own y r)) h.0
    (subst (λ (l : List Tok). infix_stands p k l ≡ true) back (infix_there p c k y (own y r) _ _ f.0 m h.3 (front y c.next r f.2 s)))
    (subst (λ (l : List Tok). Node (at p (level k)) l (clear y) r) back g)
    (fits_ends (at p (level k)) y c.next r s h.4) (fits_closes (at p (level k)) (level k) y c.next r s h.4) (operation_ends k c.next r s)

postfix_made : (p : Place) (c : Context) (x : Tree) (k : e.Postfix) (r : List Tok) → Formed (postfixed x k) → Meets p c → Shows c.next r → Obeys p.level c (postfixed x k) → Calls (postfixed x k) c.next
    → Node p (own x (postfix_own k r)) (clear x) (postfix_own k r) → Node p (own (postfixed x k) r) (clear (postfixed x k)) r
postfix_made p c x k r f m s h g d =
    let o = postfix_class k r in
    st.is_postfixed d (left_closes p (clear x) (postfix_op k) _ o) (left_fits p (postfix_op k) x h.2 (goes_free p p.level c (left_context (postfix_op k) c) x m refl f.1 h.1))
    (postfix_infix k r) h.0 (postfix_back c x k r f.0 s h.3 g) (postfix_there p c k r f.0 m s h.3) (operation_ends (postfix_op k) c.next r s)

prefix_made : (p : Place) (c : Context) (k : e.Prefix) (t : Tree) (r : List Tok) → Formed (prefixed k none t) → Meets p c → Shows c.next r → Obeys p.level c (prefixed k none t)
    → Node (prefix_place p k) (own t r) (clear t) r → Node p (own (prefixed k none t) r) (clear (prefixed k none t)) r
prefix_made p c k t r f m s h d =
    let z = shows_prefix k c r s in
    let w = front t (prefix_context k c).next r f.2 z in
    let y = level_fits (prefix_level k) (prefix_place p k).level t (prefix_context k c).next (prefix_level_is p k) h.2 in
    st.is_prefixed (heads_back.prefixes k (own t r) f.0 (prefix_stopped k (own t r) _ _ _ f.0 w h.3)) (prefix_there p c k t (own t r) _ _ f.0 m h.1 w) d
    (fits_ends (prefix_place p k) t (prefix_context k c).next r z y) (fits_closes (prefix_place p k) (prefix_place p k).level t (prefix_context k c).next r z y)

tail_made : (p : Place) (c : Context) (b : Tree) (k : Trailer) (ks : Children) (r : List Tok) → trailer_fits k ≡ true → is_indexed k ≡ false → trailer_stops k r ≡ true → Formed b → Meets p c
    → is_base k b ≡ true → Obeys p.level (base_context k c) b → Node p (own b (trailer_own k (children_own ks []) r)) (clear b) (trailer_own k (children_own ks []) r)
    → Content (trailer_holder k) (trailer_rest k (children_own ks []) r) (clear_children ks) r → Node p (own (tail b k ks) r) (clear (tail b k ks)) r
tail_made p c b k ks r f i z w m h o d g =
    st.is_tail d (carries_it p k (clear b) (base_fits p k b h (base_free p k c b m w o))) (heads_back.trailers k (children_own ks []) r f i z) g refl

list_held : (d : _) (x : Slot) (ks : Children) (r : List Tok) → Operands x (children_own ks []) (clear_children ks) [] → Content (within d x false) (o.enclosed d (children_own ks []) r) (clear_children ks) r
list_held d x ks r q = st.holds_within (heads_back.groups d (children_own ks []) r) q refl

indexed_made : (p : Place) (c : Context) (b : Tree) (n : ℕ) (r : List Tok) → trailer_fits (e.field (an_index n)) ≡ true → Formed b → Meets p c
    → is_base (e.field (an_index n)) b ≡ true → Obeys p.level (base_context (e.field (an_index n)) c) b
    → Node p (own b (trailer_own (e.field (an_index n)) [] r)) (clear b) (trailer_own (e.field (an_index n)) [] r)
    → Node p (own (tail b (e.field (an_index n)) none) r) (clear (tail b (e.field (an_index n)) none)) r
indexed_made p c b n r f w m h o d =
    st.is_indexed d (carries_it p (e.field (an_index n)) (clear b) (base_fits p (e.field (an_index n)) b h (base_free p (e.field (an_index n)) c b m w o))) (heads_back.indices n [] r f) refl

-- a frame but a group ends anywhere
frame_ended : (p : Place) (k : Frame) (ks us : Children) (n : List Tok) → frame_fits k ks ≡ true → frame_ends p k us n ≡ true
unfolding frame_ends
frame_ended p e.group_expr ks us n f = absurd cc
frame_ended p k ks us n f = refl

frame_made : (p : Place) (k : Frame) (ks : Children) (r : List Tok) → frame_fits k ks ≡ true → frame_stops k (children_own ks (behind_operands (enclosure k) r)) ≡ true
    → Content (frame_holder k) (frame_rest (enclosure k) (children_own ks (behind_operands (enclosure k) r)) r) (clear_children ks) r → frame_stands p k (clear_children ks) ≡ true
    → Node p (own (frame k ks) r) (clear (frame k ks)) r
frame_made p k ks r f g q z = st.is_frame (heads_back.frames k ks (children_own ks (behind_operands (enclosure k) r)) r f g) q z (frame_ended p k ks (clear_children ks) r f)

nothing_held : (ks : Children) (r : List Tok) → FormedChildren slot.done false ks → Content nothing r (clear_children ks) r
nothing_held none r f = st.holds_none
nothing_held (child k c t ks) r f = absurd (let g = f.0.piece in cc)

not_verbatim : (t : Tree) → is_if_expr t ≡ true → is_verbatim_block t ≡ false
not_verbatim (frame k ks) h = refl
not_verbatim (leaf k) h = absurd cc
not_verbatim t h = absurd cc

not_grouped : (x : Slot) (c : e.Ending) (t : Tree) → piece_fits x e.grouped c t ≡ true → ⊥
not_grouped slot.elements c t h = absurd cc
not_grouped _ c t h = absurd cc

not_stray : (x : Slot) (c : e.Ending) (t : Tree) → piece_fits x e.stray c t ≡ true → ⊥
not_stray slot.elements c t h = absurd cc
not_stray _ c t h = absurd cc

mutual
  unfolding frame_stands

  pub bridge : (t : Tree) (p : Place) (c : Context) (r : List Tok) → Formed t → Meets p c → Shows c.next r → Obeys p.level c t → Calls t c.next → Node p (own t r) (clear t) r
  bridge (leaf k) p c r f m s h g = st.is_leaf (heads_back.leaves k r f (leaf_stopped c.next k r s)) (leaf_there p c k r f m s (or_parts _ _ h).0)
  bridge (paren b t) p c r f m s h g = paren_made p b t r (bridge t plain enclosed [] f meets_plain shows_nothing h.0 (fits_calls lev.Jump t next.End h.1)) h.1
  bridge (attributed a more t) p c r f m s h g =
      attributed_made p a more t r f h.0 ((front t c.next r f.2 s).pound ∙ no_pound p.level (attributed_context c) t h.1 f.1 h.0)
      (bridge t p (attributed_context c) r f.2 (meets_attributed p c m) s h.1 (attributed_calls a more t c.next h.0 g))
  bridge (prefixed k none t) p c r f m s h g =
      prefix_made p c k t r f m s h
      (bridge t (prefix_place p k) (prefix_context k c) r f.2 (meets_prefix p k c m) (shows_prefix k c r s) (level_obeys (prefix_level k) (prefix_place p k).level (prefix_context k c) t (prefix_level_is p k) h.1)
      (fits_calls (prefix_level k) t (prefix_context k c).next h.2))
  bridge (prefixed k (child j d u gs) t) p c r f m s h g = absurd (let q = f.1 in cc)
  bridge (infixed x k y) p c r f m s h g =
      infix_made p c x k y r f m s h
      (bridge x p (left_context k c) (infix_own k (own y r)) f.1 (meets_left p k c m) (shows_operator k (own y r)) h.1 (left_calls x k))
      (bridge y (at p (level k)) (right_context k c) r f.2 (meets_right p k c m) s h.3 (fits_calls (level k) y c.next h.4))
  bridge (postfixed x k) p c r f m s h g =
      postfix_made p c x k r f m s h g (bridge x p (left_context (postfix_op k) c) (postfix_own k r) f.1 (meets_left p (postfix_op k) c m) (postfix_class k r) h.1 (left_calls x (postfix_op k)))
  bridge (tail b e.call ks) p c r f m s h g =
      tail_made p c b e.call ks r f.0 refl refl f.1 m h.0 h.1 (bridge b p (base_context e.call c) (trailer_own e.call (children_own ks []) r) f.1 (meets_base p e.call c m) (shows_trailer e.call (children_own ks []) r) h.1 (base_calls b e.call h.0)) (list_held del.Parenthesis slot.elements ks r (operands ks slot.elements false [] f.2 h.2 refl))
  bridge (tail b e.index ks) p c r f m s h g =
      tail_made p c b e.index ks r f.0 refl refl f.1 m h.0 h.1 (bridge b p (base_context e.index c) (trailer_own e.index (children_own ks []) r) f.1 (meets_base p e.index c m) (shows_trailer e.index (children_own ks []) r) h.1 (base_calls b e.index h.0)) (list_held del.Bracket slot.single ks r (operands ks slot.single false [] f.2 h.2 refl))
  bridge (tail b (e.method w a) ks) p c r f m s h g =
      tail_made p c b (e.method w a) ks r f.0 refl refl f.1 m h.0 h.1 (bridge b p (base_context (e.method w a) c) (trailer_own (e.method w a) (children_own ks []) r) f.1 (meets_base p (e.method w a) c m) (shows_trailer (e.method w a) (children_own ks []) r) h.1 (base_calls b (e.method w a) h.0)) (list_held del.Parenthesis slot.elements ks r (operands ks slot.elements false [] f.2 h.2 refl))
  bridge (tail b e.await ks) p c r f m s h g =
      tail_made p c b e.await ks r f.0 refl refl f.1 m h.0 h.1 (bridge b p (base_context e.await c) (trailer_own e.await (children_own ks []) r) f.1 (meets_base p e.await c m) (shows_trailer e.await (children_own ks []) r) h.1 (base_calls b e.await h.0)) (nothing_held ks r f.2)
  bridge (tail b e.try_expr ks) p c r f m s h g =
      tail_made p c b e.try_expr ks r f.0 refl refl f.1 m h.0 h.1 (bridge b p (base_context e.try_expr c) (trailer_own e.try_expr (children_own ks []) r) f.1 (meets_base p e.try_expr c m) (shows_trailer e.try_expr (children_own ks []) r) h.1 (base_calls b e.try_expr h.0)) (nothing_held ks r f.2)
  bridge (tail b (e.field (a_name w)) ks) p c r f m s h g =
      tail_made p c b (e.field (a_name w)) ks r f.0 refl (field_stops w b c.next r s (record { none = g.none })) f.1 m h.0 h.1 (bridge b p (base_context (e.field (a_name w)) c) (trailer_own (e.field (a_name w)) (children_own ks []) r) f.1 (meets_base p (e.field (a_name w)) c m) (shows_trailer (e.field (a_name w)) (children_own ks []) r) h.1 (base_calls b (e.field (a_name w)) h.0)) (nothing_held ks r f.2)
  bridge (tail b (e.field (an_index n)) none) p c r f m s h g =
      indexed_made p c b n r f.0 f.1 m h.0 h.1 (bridge b p (base_context (e.field (an_index n)) c) (trailer_own (e.field (an_index n)) [] r) f.1 (meets_base p (e.field (an_index n)) c m) (shows_trailer (e.field (an_index n)) [] r) h.1 (base_calls b (e.field (an_index n)) h.0))
  bridge (tail b (e.field (an_index n)) (child j d t ks)) p c r f m s h g = absurd (let q = f.2.0.piece in cc)
  bridge (frame e.array ks) p c r f m s h g = frame_made p e.array ks r f.0 refl (list_held del.Bracket slot.elements ks r (operands ks slot.elements false [] f.1 h.1 refl)) refl
  bridge (frame e.tuple ks) p c r f m s h g = frame_made p e.tuple ks r f.0 refl (list_held del.Parenthesis slot.elements ks r (operands ks slot.elements (is_one ks) [] f.1 h.1 refl)) (tuple_comma ks f.1)
  bridge (frame e.repeat ks) p c r f m s h g = frame_made p e.repeat ks r f.0 refl (list_held del.Bracket slot.counted ks r (operands ks slot.counted false [] f.1 h.1 refl)) refl
  bridge (frame (e.structure q w d) ks) p c r f m s h g =
      frame_made p (e.structure q w d) ks r f.0 refl
      (st.holds_within (heads_back.groups del.Brace _ r) (operands ks slot.fields d (before_if d (λ l. joint 46 ∷ alone 46 ∷ l) []) f.1 h.1 (struct_rests q w d ks f.0)) (dots_end d))
      (struct_stands p c q w d ks m h.0 f.0)
  bridge (frame (e.closure_block k) ks) p c r f m s h g =
      frame_made p (e.closure_block k) ks r f.0 (output_first k.output false ks r f.1) (st.holds_bare (operands ks slot.outputs false r f.1 h.1 refl)) (and_parts _ (not (is_default k.output)) f.0).1
  bridge (frame e.if_expr ks) p c r f m s h g =
      frame_made p e.if_expr ks r f.0 refl (st.holds_bare (operands ks slot.conditions false r f.1 h.1 (ap (λ z. not z.otherwise) s.same))) refl
  bridge (frame (e.while_loop w) ks) p c r f m s h g = frame_made p (e.while_loop w) ks r f.0 refl (st.holds_bare (operands ks slot.loops false r f.1 h.1 refl)) refl
  bridge (frame (e.for_loop w k) ks) p c r f m s h g = frame_made p (e.for_loop w k) ks r f.0 refl (st.holds_bare (operands ks slot.loops false r f.1 h.1 refl)) refl
  bridge (frame e.match_expr ks) p c r f m s h g = frame_made p e.match_expr ks r f.0 refl (st.holds_bare (operands ks slot.scrutinees false r f.1 h.1 refl)) refl
  bridge (frame e.group_expr ks) p c r f m s h g = absurd (let q = f.0 in cc)

  -- a block-like expression comes before any tokens but `else`
  pub block_bridge : (t : Tree) (p : Place) (c : Context) (r : List Tok) → is_block_like t ≡ true → Formed t → Obeys p.level c t → word_at (codes "else") r ≡ false → Node p (own t r) (clear t) r
  block_bridge (leaf k) p c r b f h w = let q = block_leaf p k r b in st.is_leaf (heads_back.leaves k r f q.0) q.1
  block_bridge (attributed a more t) p c r b f h w = attributed_made p a more t r f h.0 (block_pound t r b f.1) (block_bridge t p (attributed_context c) r b f.2 h.1 w)
  block_bridge (frame e.if_expr ks) p c r b f h w =
      frame_made p e.if_expr ks r f.0 refl (st.holds_bare (operands ks slot.conditions false r f.1 h.1 (ap not w))) refl
  block_bridge (frame (e.while_loop l) ks) p c r b f h w = frame_made p (e.while_loop l) ks r f.0 refl (st.holds_bare (operands ks slot.loops false r f.1 h.1 refl)) refl
  block_bridge (frame (e.for_loop l k) ks) p c r b f h w = frame_made p (e.for_loop l k) ks r f.0 refl (st.holds_bare (operands ks slot.loops false r f.1 h.1 refl)) refl
  block_bridge (frame e.match_expr ks) p c r b f h w = frame_made p e.match_expr ks r f.0 refl (st.holds_bare (operands ks slot.scrutinees false r f.1 h.1 refl)) refl
  block_bridge _ p c r b f h w = absurd cc

  operands : (ks : Children) (x : Slot) (last : Bool) (r : List Tok) → FormedChildren x last ks → ObeysChildren ks → rests_well x last ks r ≡ true → Operands x (children_own ks r) (clear_children ks) r
  operands none x last r f h w = st.no_more (operands_end x last r f w)
  operands (child e.element c t ks) x last r f h w =
      regular x last e.element c t ks r refl f.0 f.2 w (λ l z. bridge t (piece_place e.element) (piece_context e.element) l (f.1 refl) (piece_meets e.element) z (child_obeyed e.element t (h.0 refl)) (child_calls e.element t)) (operands ks slot.elements last r f.2 h.1)
  operands (child e.value c t ks) x last r f h w =
      regular x last e.value c t ks r refl f.0 f.2 w (λ l z. bridge t (piece_place e.value) (piece_context e.value) l (f.1 refl) (piece_meets e.value) z (child_obeyed e.value t (h.0 refl)) (child_calls e.value t)) (operands ks slot.done last r f.2 h.1)
  operands (child e.repeated c t ks) x last r f h w =
      regular x last e.repeated c t ks r refl f.0 f.2 w (λ l z. bridge t (piece_place e.repeated) (piece_context e.repeated) l (f.1 refl) (piece_meets e.repeated) z (child_obeyed e.repeated t (h.0 refl)) (child_calls e.repeated t)) (operands ks slot.single last r f.2 h.1)
  operands (child (e.field_value ats m true) c t ks) x last r f h w =
      regular x last (e.field_value ats m true) c t ks r refl f.0 f.2 w (λ l z. bridge t (piece_place (e.field_value ats m true)) (piece_context (e.field_value ats m true)) l (f.1 refl) (piece_meets (e.field_value ats m true)) z (child_obeyed (e.field_value ats m true) t (h.0 refl)) (child_calls (e.field_value ats m true) t)) (operands ks slot.fields last r f.2 h.1)
  operands (child (e.rest d) c t ks) x last r f h w =
      regular x last (e.rest d) c t ks r refl f.0 f.2 w (λ l z. bridge t (piece_place (e.rest d)) (piece_context (e.rest d)) l (f.1 refl) (piece_meets (e.rest d)) z (child_obeyed (e.rest d) t (h.0 refl)) (child_calls (e.rest d) t)) (operands ks slot.done last r f.2 h.1)
  operands (child e.condition c t ks) x last r f h w =
      regular x last e.condition c t ks r refl f.0 f.2 w (λ l z. bridge t (piece_place e.condition) (piece_context e.condition) l (f.1 refl) (piece_meets e.condition) z (child_obeyed e.condition t (h.0 refl)) (child_calls e.condition t)) (operands ks slot.otherwise last r f.2 h.1)
  operands (child e.loop_head c t ks) x last r f h w =
      regular x last e.loop_head c t ks r refl f.0 f.2 w (λ l z. bridge t (piece_place e.loop_head) (piece_context e.loop_head) l (f.1 refl) (piece_meets e.loop_head) z (child_obeyed e.loop_head t (h.0 refl)) (child_calls e.loop_head t)) (operands ks slot.done last r f.2 h.1)
  operands (child (e.guard ats p) c t ks) x last r f h w =
      regular x last (e.guard ats p) c t ks r refl f.0 f.2 w (λ l z. bridge t (piece_place (e.guard ats p)) (piece_context (e.guard ats p)) l (f.1 refl) (piece_meets (e.guard ats p)) z (child_obeyed (e.guard ats p) t (h.0 refl)) (child_calls (e.guard ats p) t)) (operands ks slot.bodies last r f.2 h.1)
  operands (child (e.field_value ats m false) c t ks) x last r f h w = short_made x last ats m c t ks r f.0 (f.1 refl) w (operands ks slot.fields last r f.2 h.1)
  operands (child e.guarded c t ks) x last r f h w =
      guarded_made x last c t ks r f.0 f.2 w (λ l z. bridge t (piece_place e.guarded) (piece_context e.guarded) l (f.1 refl) (piece_meets e.guarded) z (child_obeyed e.guarded t (h.0 refl)) (child_calls e.guarded t)) (λ l b z. block_bridge t at_head (piece_context e.guarded) l b (f.1 refl) (h.0 refl) z) (operands ks slot.arms last r f.2 h.1)
  operands (child (e.arm ats p) c t ks) x last r f h w =
      arm_made x last ats p c t ks r f.0 f.2 w (λ l z. bridge t (piece_place (e.arm ats p)) (piece_context (e.arm ats p)) l (f.1 refl) (piece_meets (e.arm ats p)) z (child_obeyed (e.arm ats p) t (h.0 refl)) (child_calls (e.arm ats p) t)) (λ l b z. block_bridge t at_head (piece_context (e.arm ats p)) l b (f.1 refl) (h.0 refl) z) (operands ks slot.arms last r f.2 h.1)
  operands (child e.chained c t ks) x last r f h w =
      chained_made x last c t ks r f.0 f.2 w (λ b z. block_bridge t plain enclosed r (if_expr_block t b) (f.1 (not_verbatim t b)) (h.0 refl) z)
  operands (child e.output_block c t ks) x last r f h w = output_made x last c t ks r f.0 f.2
  operands (child e.scrutinee c t ks) x last r f h w =
      scrutinee_made x last c t ks r f.0 f.2 (λ l z. bridge t (piece_place e.scrutinee) (piece_context e.scrutinee) l (f.1 refl) (piece_meets e.scrutinee) z (child_obeyed e.scrutinee t (h.0 refl)) (child_calls e.scrutinee t)) (operands ks slot.arms last [] f.2 h.1 refl)
  operands (child e.grouped c t ks) x last r f h w = absurd (not_grouped x c t f.0.piece)
  operands (child e.stray c t ks) x last r f h w = absurd (not_stray x c t f.0.piece)
