-- What is printed in a position stands by itself too, and is printed there again as it is.
use Rattle.std.proofs.Common.{◌≡◌, ◌⊎◌, inl, inr, Bool, true, false, not, ◌&&◌, List, [], ◌∷◌, None, refl, sym, ◌∙◌, ap, subst}
use Rattle.std.specs.Prelude.{if◌then◌else◌}
use Rattle.std.proofs.Math.Bool.{and-false}
use Rattle.std.proofs.lemmas.Bool.{and_parts, and_from, or_parts, or_from}
use Rattle.syn_lexer.specs.declared.front.Delimiter.TheVariants as del
use Rattle.syn_tokens.specs.Tok.{Tok}
use Rattle.syn_lower_spec.specs.Own as o
use Rattle.syn_lower_spec.specs.Pat.{a_name, an_index}
use Rattle.syn_lower_spec.specs.PatFits.{attributes_outer, member_fits}
use Rattle.syn_lower_spec.specs.PatOwn.{attributes_own}
use Rattle.syn_expr_spec.specs.declared.kinds.Infix.{Infix}
use Rattle.syn_expr_spec.specs.declared.kinds.Infix.TheVariants as inf
use Rattle.syn_expr_spec.specs.declared.kinds.Precedence.{Precedence}
use Rattle.syn_expr_spec.specs.declared.kinds.Precedence.TheVariants as lev
use Rattle.syn_expr_spec.specs.declared.next.Next.{Next}
use Rattle.syn_expr_spec.specs.declared.next.Next.TheVariants as next
use Rattle.syn_expr_spec.specs.declared.next.Edge.TheVariants as edge
use Rattle.syn_expr_spec.specs.declared.next.Context.{Context}
use Rattle.syn_expr_spec.specs.Place.{plain}
use Rattle.syn_expr_spec.specs.Op.{level, is_comparison}
use Rattle.syn_expr_spec.specs.Next.{takes_next, without_block, braceless, is_half_open, is_break, class_of, next_of, enclosed, left_context, base_context, right_context, attributed_context, prefix_context, prefix_level, piece_context}
use Rattle.syn_expr_spec.specs.Slot.{Slot, after}
use Rattle.syn_expr_spec.specs.Slot as s
use Rattle.syn_expr_spec.specs.Stands.{Stands}
use Rattle.syn_expr_spec.specs.Tree as e
use Rattle.syn_expr_spec.specs.Tree.{Tree, Children, Leaf, Prefix, Postfix, Trailer, Frame, Piece, Ending, leaf, paren, attributed, prefixed, infixed, postfixed, tail, frame, none, child, outers, own, children_own, clear, clear_children, fill, postfix_op, is_silent, is_none, prefix_own, infix_own, postfix_own, trailer_own, framed, enclosure, behind_operands, inside_of, ending_own, piece_own}
use Rattle.syn_expr_spec.specs.Rule.{put, bare, place_asks, leaf_refuses, postfix_refuses, leaf_misplaced, prefix_misplaced, frame_misplaced, is_bare_break}
use Rattle.syn_expr_spec.specs.Printed.{Position, context_of, printed_in, parenthesize_attributed, plainly_attributed, children_plainly}
use Rattle.syn_expr_spec.specs.WellFormed.{is_verbatim_block, is_name_path, piece_fits, keeps_block, frame_slot, trailer_slot, is_well_formed}
use Rattle.syn_expr_spec.proofs.Obeys.{Fits, FitsLeft, begins_label, Obeys, ObeysChildren}
use Rattle.syn_expr_spec.proofs.Formed.{Formed, FormedChildren, formed_fill}
use Rattle.syn_expr_spec.proofs.Bare.{printed_formed}
use Rattle.syn_expr_spec.proofs.Good.{printed_good}
use Rattle.syn_expr_spec.proofs.Shows.{shows_nothing}
use Rattle.syn_expr_spec.proofs.Places.{meets_plain, end_fits, fits_calls, fits_ends, fits_closes, range_clear, compares_clear, carries_clear, cast_clear, base_clear}
use Rattle.syn_expr_spec.proofs.Bridge.{bridge}
use Rattle.syn_expr_spec.proofs.Unclear.{operation_clear}
use Rattle.syn_expr_spec.proofs.Parenthesized.{plain_stays}
use Rattle.syn_expr_spec.proofs.NoneRedundant.{proper}
use Rattle.syn_expr_spec.proofs.Kept.{kept_in}
use Rattle.syn_expr_spec.proofs.StoodFilled.{stood_filled}

-- ---- what obeys in some context obeys by itself

-- no condition, nothing that the first leaf must not be
abbrev loose : Next → Context
loose n = record { condition = false; edge = edge.Free; next = n }

-- the same next, or none
abbrev Ended : Next → Next → Type 0
Ended m n = (n ≡ m) ⊎ (n ≡ next.End)

leaf_placed : (n : Next) (k : Leaf) → leaf_misplaced (loose n) k ≡ false
leaf_placed n (e.block None b) = refl
leaf_placed n (e.mac m) = refl
leaf_placed n _ = refl

leaf_ended : (k : Leaf) → leaf_refuses k next.End ≡ false
leaf_ended (e.path q p) = refl
leaf_ended (e.bare_jump (e.breaking w)) = refl
leaf_ended (e.bare_jump e.returning) = refl
leaf_ended (e.bare_jump e.yielding) = refl
leaf_ended (e.full_range op) = refl
leaf_ended _ = refl

leaf_loose : (k : Leaf) (m n : Next) → Ended m n → leaf_refuses k m ≡ false → leaf_refuses k n ≡ false
leaf_loose k m n (inl q) h = ap (leaf_refuses k) q ∙ h
leaf_loose k m n (inr q) h = ap (leaf_refuses k) q ∙ leaf_ended k

postfix_ended : (k : Postfix) → postfix_refuses k next.End ≡ false
postfix_ended (e.cast x) = refl
postfix_ended (e.range_from op) = refl

postfix_loose : (k : Postfix) (m n : Next) → Ended m n → postfix_refuses k m ≡ false → postfix_refuses k n ≡ false
postfix_loose k m n (inl q) h = ap (postfix_refuses k) q ∙ h
postfix_loose k m n (inr q) h = ap (postfix_refuses k) q ∙ postfix_ended k

fits_loose : (v : Precedence) (t : Tree) (m n : Next) → Ended m n → Fits v t m → Fits v t n
fits_loose v t m n (inl q) f = subst (Fits v t) (sym q) f
fits_loose v t m n (inr q) f = subst (Fits v t) (sym q) (record { no_operator = refl; no_trailer = refl })

prefix_placed : (n : Next) (k : Prefix) → prefix_misplaced (loose n) k ≡ false
prefix_placed n (e.let_expr p) = refl
prefix_placed n (e.unary op) = refl
prefix_placed n _ = refl

frame_placed : (n : Next) (k : Frame) → frame_misplaced (loose n) k ≡ false
frame_placed n (e.structure q p d) = refl
frame_placed n e.array = refl
frame_placed n _ = refl

base_loose : (k : Trailer) (n : Next) → base_context k (loose n) ≡ loose (next_of k)
base_loose e.call n = refl
base_loose _ n = refl

right_loose : (k : Infix) (n : Next) → right_context k (loose n) ≡ loose n
right_loose k n = ap (λ b. record { condition = false; edge = braceless b; next = n }) (and-false (is_half_open k))

-- what is after an operand
abbrev prefix_after : Prefix → Next → Next
prefix_after k n = (prefix_context k (loose n)).next

prefix_loose : (k : Prefix) (n : Next) → prefix_context k (loose n) ≡ loose (prefix_after k n)
prefix_loose (e.jump j) n = ap (λ b. record { condition = false; edge = braceless b; next = without_block n }) (and-false (is_break j))
prefix_loose (e.range_to op) n = ap (λ b. record { condition = false; edge = braceless b; next = n }) (and-false (is_half_open (inf.Range op)))
prefix_loose (e.unary op) n = refl
prefix_loose _ n = refl

prefix_ended : (k : Prefix) (c : Context) (n : Next) → Ended c.next n → Ended (prefix_context k c).next (prefix_after k n)
prefix_ended (e.jump j) c n (inl q) = inl (ap without_block q)
prefix_ended (e.jump j) c n (inr q) = inr (ap without_block q)
prefix_ended (e.range_to op) c n h = h
prefix_ended (e.unary op) c n h = h
prefix_ended _ c n h = h

relax : (t : Tree) (v : Precedence) (c : Context) (n : Next) → Ended c.next n → Obeys v c t → Obeys v (loose n) t
relax (leaf k) v c n d i = or_from _ _ (leaf_loose k c.next n d (or_parts _ _ i).0) (leaf_placed n k)
relax (paren m t) v c n d i = i
relax (attributed a more t) v c n d i = (i.0, relax t v (attributed_context c) n d i.1)
relax (prefixed k gs t) v c n d i = (
  prefix_placed n k,
  subst (λ (z : Context). Obeys (prefix_level k) z t) (sym (prefix_loose k n)) (relax t (prefix_level k) (prefix_context k c) (prefix_after k n) (prefix_ended k c n d) i.1),
  fits_loose (prefix_level k) t (prefix_context k c).next (prefix_after k n) (prefix_ended k c n d) i.2,
  i.3,
)
relax (infixed x k y) v c n d i = (
  i.0,
  relax x v (left_context k c) (class_of k) (inl refl) i.1,
  i.2,
  subst (λ (z : Context). Obeys (level k) z y) (sym (right_loose k n)) (relax y (level k) (right_context k c) n d i.3),
  fits_loose (level k) y c.next n d i.4,
)
relax (postfixed x k) v c n d i = (i.0, relax x v (left_context (postfix_op k) c) (class_of (postfix_op k)) (inl refl) i.1, i.2, postfix_loose k c.next n d i.3)
relax (tail b k ks) v c n d i = (i.0, subst (λ (z : Context). Obeys v z b) (sym (base_loose k n)) (relax b v (base_context k c) (next_of k) (inl refl) i.1), i.2)
relax (frame k ks) v c n d i = (frame_placed n k, i.1)

-- ---- marks play no part

label_clear : (t : Tree) → begins_label (clear t) ≡ begins_label t
label_clear (leaf k) = refl
label_clear (infixed x k y) = label_clear x
label_clear (postfixed x k) = label_clear x
label_clear (tail b k ks) = label_clear b
label_clear _ = refl

fits_clear : (v : Precedence) (t : Tree) (n : Next) → Fits v t n → Fits v (clear t) n
fits_clear v t n f = record {
  no_operator = ap (λ b. takes_next v n && not b) (range_clear t) ∙ f.no_operator;
  no_trailer = rw (carries_clear t, cast_clear t) f.no_trailer;
}

left_clear : (k : Infix) (t : Tree) → FitsLeft k t → FitsLeft k (clear t)
left_clear k t f = record {
  no_range = range_clear t ∙ f.no_range;
  no_chain = ap (λ b. b && is_comparison k) (compares_clear t) ∙ f.no_chain;
}

mutual
  cleared : (t : Tree) (v : Precedence) (c : Context) → Obeys v c t → Obeys v c (clear t)
  cleared (leaf k) v c i = i
  cleared (paren m t) v c i = (cleared t lev.Jump enclosed i.0, fits_clear lev.Jump t next.End i.1)
  cleared (attributed a more t) v c i = (operation_clear t ∙ i.0, cleared t v (attributed_context c) i.1)
  cleared (prefixed k gs t) v c i = (
    i.0,
    cleared t (prefix_level k) (prefix_context k c) i.1,
    fits_clear (prefix_level k) t (prefix_context k c).next i.2,
    ap (λ b. is_bare_break k && b) (label_clear t) ∙ i.3,
  )
  cleared (infixed x k y) v c i = (
    i.0,
    cleared x v (left_context k c) i.1,
    left_clear k x i.2,
    cleared y (level k) (right_context k c) i.3,
    fits_clear (level k) y c.next i.4,
  )
  cleared (postfixed x k) v c i = (i.0, cleared x v (left_context (postfix_op k) c) i.1, left_clear (postfix_op k) x i.2, i.3)
  cleared (tail b k ks) v c i = (base_clear k b ∙ i.0, cleared b v (base_context k c) i.1, cleared_children ks i.2)
  cleared (frame k ks) v c i = (i.0, cleared_children ks i.1)

  cleared_children : (ks : Children) → ObeysChildren ks → ObeysChildren (clear_children ks)
  cleared_children none i = tt
  cleared_children (child k c t ks) i = (λ f. cleared t lev.Jump (piece_context k) (i.0 f), cleared_children ks i.1)

mutual
  pub own_clear : (t : Tree) (r : List Tok) → own (clear t) r ≡ own t r
  own_clear (leaf k) r = refl
  own_clear (paren m t) r = ap (λ (l : List Tok). o.enclosed del.Parenthesis l r) (own_clear t [])
  own_clear (attributed a more t) r = ap (attributes_own (outers (a ∷ more))) (own_clear t r)
  own_clear (prefixed k gs t) r = ap (prefix_own k) (own_clear t r)
  own_clear (infixed x k y) r = own_clear x (infix_own k (own (clear y) r)) ∙ ap (λ (l : List Tok). own x (infix_own k l)) (own_clear y r)
  own_clear (postfixed x k) r = own_clear x (postfix_own k r)
  own_clear (tail b k ks) r = own_clear b (trailer_own k (children_own (clear_children ks) []) r) ∙ ap (λ (l : List Tok). own b (trailer_own k l r)) (own_clear_children ks [])
  own_clear (frame k ks) r = ap (λ (l : List Tok). framed k (enclosure k) l r) (own_clear_children ks (behind_operands (enclosure k) r))

  own_clear_children : (ks : Children) (r : List Tok) → children_own (clear_children ks) r ≡ children_own ks r
  own_clear_children none r = refl
  own_clear_children (child k c t ks) r =
      ap (λ (l : List Tok). piece_own k (if is_silent k then ending_own k c l r else own (clear t) (ending_own k c l r))) (own_clear_children ks (inside_of c r))
      ∙ ap (λ (l : List Tok). piece_own k (if is_silent k then ending_own k c (children_own ks (inside_of c r)) r else l)) (own_clear t (ending_own k c (children_own ks (inside_of c r)) r))

-- ---- what obeys has no operation after attributes

plain_name : (q : Slot) (k : Piece) (c : Ending) (t : Tree) → piece_fits q k c t ≡ true → is_silent k ≡ true → plainly_attributed (clear t) ≡ true
plain_name s.fields (e.field_value ats (a_name w) false) c (leaf k) h g = refl
plain_name s.fields (e.field_value ats m false) c t h g =
    let a = and_parts (attributes_outer ats) _ h in
    no_name m t (and_parts (member_fits m) _ a.1).1
  where
    no_name : (m : _) (t : Tree) → is_name_path m t ≡ true → plainly_attributed (clear t) ≡ true
    no_name (a_name w) (leaf k) h = refl
    no_name (a_name w) _ h = absurd cc
    no_name (an_index i) t h = absurd cc
plain_name s.fields (e.field_value ats m true) c t h g = absurd cc
plain_name s.elements (e.field_value ats m b) c t h g = absurd cc
plain_name _ (e.field_value ats m b) c t h g = absurd cc
plain_name s.elements e.stray c t h g = absurd cc
plain_name _ e.stray c t h g = absurd cc
plain_name q e.element c t h g = absurd cc
plain_name q _ c t h g = absurd cc

plain_verbatim : (t : Tree) → is_verbatim_block t ≡ true → plainly_attributed (clear t) ≡ true
plain_verbatim (leaf k) h = refl
plain_verbatim _ h = absurd cc

plain_kept : (k : Piece) (t : Tree) → keeps_block k t ≡ true → plainly_attributed (clear t) ≡ true
plain_kept e.chained t h = plain_verbatim t h
plain_kept e.output_block t h = plain_verbatim t h
plain_kept e.element t h = absurd cc
plain_kept _ t h = absurd cc

no_guards : (gs : Children) → is_none gs ≡ true → children_plainly (clear_children gs) ≡ true
no_guards none h = refl
no_guards (child k c t ks) h = absurd cc

-- an operand that isn't spelled, one whose tokens are kept, or another
operand_plainly : (q : Slot) (k : Piece) (c : Ending) (t : Tree) (a b : Bool) → is_silent k ≡ a → keeps_block k t ≡ b → piece_fits q k c t ≡ true
    → (keeps_block k t ≡ false → is_silent k ≡ false → plainly_attributed (clear t) ≡ true) → plainly_attributed (clear t) ≡ true
operand_plainly q k c t true b g h p f = plain_name q k c t p g
operand_plainly q k c t false true g h p f = plain_kept k t h
operand_plainly q k c t false false g h p f = f h g

mutual
  plainly : (t : Tree) (v : Precedence) (c : Context) → Formed t → Obeys v c t → plainly_attributed (clear t) ≡ true
  plainly (leaf k) v c f i = refl
  plainly (paren m t) v c f i = plainly t lev.Jump enclosed f i.0
  plainly (attributed a more t) v c f i = and_from _ _ (ap not (operation_clear t ∙ i.0)) (plainly t v (attributed_context c) f.2 i.1)
  plainly (prefixed k gs t) v c f i = and_from _ _ (no_guards gs f.1) (plainly t (prefix_level k) (prefix_context k c) f.2 i.1)
  plainly (infixed x k y) v c f i = and_from _ _ (plainly x v (left_context k c) f.1 i.1) (plainly y (level k) (right_context k c) f.2 i.3)
  plainly (postfixed x k) v c f i = plainly x v (left_context (postfix_op k) c) f.1 i.1
  plainly (tail b k ks) v c f i = and_from _ _ (plainly b v (base_context k c) f.1 i.1) (all_plainly ks (trailer_slot k) false f.2 i.2)
  plainly (frame k ks) v c f i = all_plainly ks (frame_slot k) (e.needs_last_comma k ks) f.1 i.1

  all_plainly : (ks : Children) (q : Slot) (last : Bool) → FormedChildren q last ks → ObeysChildren ks → children_plainly (clear_children ks) ≡ true
  all_plainly none q last f i = refl
  all_plainly (child k c t ks) q last f i =
      and_from _ _ (operand_plainly q k c t (is_silent k) (keeps_block k t) refl refl f.0.piece (λ h g. plainly t lev.Jump (piece_context k) (f.1 h) (i.0 g))) (all_plainly ks (after k) last f.2 i.1)

-- ---- in each position

obeys_there : (p : Position) (t : Tree) → is_well_formed t ≡ true → Obeys lev.Jump (context_of p) (printed_in p t)
unfolding is_well_formed
obeys_there p t w = printed_good (fill t) (context_of p) (formed_fill t w)

formed_there : (p : Position) (t : Tree) → is_well_formed t ≡ true → Formed (printed_in p t)
unfolding is_well_formed
formed_there p t w = printed_formed (context_of p) t w

-- What is printed in a position is read by itself as the same tree as there.
pub stands_alone : (p : Position) (t : Tree) → is_well_formed t ≡ true → Stands plain (own (printed_in p t) []) (clear (printed_in p t)) []
stands_alone p t w =
    let x = printed_in p t in
    let f = end_fits x in
    record {
      node = bridge x plain enclosed [] (formed_there p t w) meets_plain shows_nothing (relax x lev.Jump (context_of p) next.End (inr refl) (obeys_there p t w)) (fits_calls lev.Jump x next.End f);
      ending = fits_ends plain x next.End [] shows_nothing f;
      closing = fits_closes plain lev.Jump x next.End [] shows_nothing f;
    }

-- It is printed again as it is.
pub printed_twice : (p : Position) (t : Tree) → is_well_formed t ≡ true → printed_in p (clear (printed_in p t)) ≡ clear (printed_in p t)
printed_twice p t w =
    let x = clear (printed_in p t) in
    let d = stands_alone p t w in
    let i = obeys_there p t w in
    let same : parenthesize_attributed x ≡ x = plain_stays x (plainly (printed_in p t) lev.Jump (context_of p) (formed_there p t w) i) in
    let j : Obeys lev.Jump (context_of p) (parenthesize_attributed x) = subst (Obeys lev.Jump (context_of p)) (sym same) (cleared (printed_in p t) lev.Jump (context_of p) i) in
    ap (λ z. put (place_asks lev.Jump (context_of p) z) (bare enclosed z) (bare (context_of p) z)) (stood_filled d.node) ∙ kept_in x (context_of p) (proper d.node) j ∙ same

pub own_twice : (p : Position) (t : Tree) (r : List Tok) → is_well_formed t ≡ true → own (printed_in p (clear (printed_in p t))) r ≡ own (printed_in p t) r
own_twice p t r w = ap (λ z. own z r) (printed_twice p t w) ∙ own_clear (printed_in p t) r
