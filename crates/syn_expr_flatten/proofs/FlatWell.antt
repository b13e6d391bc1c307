-- Without its parentheses a well-formed tree is well-formed.
use Rattle.std.specs.Prelude.{not, ◌&&◌, ◌||◌}
use Rattle.std.proofs.Common.{◌≡◌, Bool, true, false, List, ◌∷◌, refl, ap, ◌∙◌}
use Rattle.std.proofs.lemmas.Bool.{and_parts, and_from}
use Rattle.syn_lower_spec.specs.Tree.{AttributeTree}
use Rattle.syn_lower_spec.specs.Pat.{MemberTree, a_name, an_index}
use Rattle.syn_lower_spec.specs.PatFits.{member_fits, attributes_outer}
use Rattle.syn_expr_spec.specs.Tree as e
use Rattle.syn_expr_spec.specs.Tree.{Tree, Children, Leaf, Frame, Piece, Ending, leaf, paren, attributed, prefixed, infixed, postfixed, tail, frame, none, child, prepend, flatten, flatten_children, is_none}
use Rattle.syn_expr_spec.specs.Slot.{Slot, fields, otherwise, outputs, after}
use Rattle.syn_expr_spec.specs.Stands.{is_attributed, is_if_expr}
use Rattle.syn_expr_spec.specs.WellFormed.{has_rest, is_name_path, is_verbatim_block, prefix_fits, infix_fits, postfix_fits, trailer_fits, trailer_slot, frame_fits, frame_slot, piece_fits, ending_fits, keeps_block, well, children_well, is_well_formed}
use Rattle.syn_expr_spec.proofs.Attributes.{outer_both, prepend_outer, put_outer}
use Rattle.syn_expr_flatten.proofs.FlatFill.{none_flatten}

-- ---- what belongs into a slot

if_expr_flatten : (t : Tree) → is_if_expr t ≡ true → is_if_expr (flatten t) ≡ true
if_expr_flatten (frame e.if_expr ks) h = refl
if_expr_flatten (frame _ ks) h = absurd cc
if_expr_flatten _ h = absurd cc

verbatim_flatten : (t : Tree) → is_verbatim_block t ≡ true → is_verbatim_block (flatten t) ≡ true
verbatim_flatten (leaf k) h = h
verbatim_flatten _ h = absurd cc

name_flatten : (m : MemberTree) (t : Tree) → is_name_path m t ≡ true → is_name_path m (flatten t) ≡ true
name_flatten (a_name w) (leaf k) h = h
name_flatten (a_name w) _ h = absurd cc
name_flatten (an_index i) t h = absurd cc

either : (a b c d : Bool) → (a ≡ true → c ≡ true) → (b ≡ true → d ≡ true) → (a || b) ≡ true → (c || d) ≡ true
either true b c d f g h = let x = f refl in cc
either false b true d f g h = refl
either false b false d f g h = g h

piece_flatten : (s : Slot) (k : Piece) (c : Ending) (t : Tree) → piece_fits s k c t ≡ true → piece_fits s k c (flatten t) ≡ true
piece_flatten fields (e.field_value ats m b) c t h =
    let p = and_parts (attributes_outer ats) _ h in
    let q = and_parts (member_fits m) _ p.1 in
    and_from _ _ p.0 (and_from _ _ q.0 (either b (is_name_path m t) b (is_name_path m (flatten t)) (λ x. x) (name_flatten m t) q.1))
piece_flatten otherwise e.chained c t h = either (is_if_expr t) (is_verbatim_block t) (is_if_expr (flatten t)) (is_verbatim_block (flatten t)) (if_expr_flatten t) (verbatim_flatten t) h
piece_flatten outputs e.output_block c t h = verbatim_flatten t h
piece_flatten _ (e.rest d) c t h = h
piece_flatten _ _ c t h = h

rest_flatten : (ks : Children) → has_rest (flatten_children ks) ≡ has_rest ks
rest_flatten none = refl
rest_flatten (child (e.rest d) c t ks) = refl
rest_flatten (child _ c t ks) = rest_flatten ks

frame_flatten : (k : Frame) (ks : Children) → frame_fits k (flatten_children ks) ≡ frame_fits k ks
frame_flatten (e.structure q p d) ks = rw (rest_flatten ks) refl
frame_flatten (e.closure_block h) ks = refl
frame_flatten _ ks = refl

-- ---- after attributes

leaf_behind : (a : AttributeTree) (more : List AttributeTree) (k : Leaf) → attributes_outer (a ∷ more) ≡ true → well (leaf k) ≡ true → well (put_outer (a ∷ more) (leaf k)) ≡ true
leaf_behind a more (e.verbatim ts) o h = absurd cc
leaf_behind a more _ o h = and_from _ _ o h

outer_behind : (a : AttributeTree) (more : List AttributeTree) (t : Tree) → attributes_outer (a ∷ more) ≡ true → well t ≡ true → well (put_outer (a ∷ more) t) ≡ true
outer_behind a more (leaf k) o h = leaf_behind a more k o h
outer_behind a more (attributed b bs t) o h =
    let p = and_parts (attributes_outer (b ∷ bs)) (not (is_attributed t) && well t) h in and_from _ _ (outer_both (a ∷ more) (b ∷ bs) o p.0) p.1
outer_behind a more (paren m t) o h = and_from _ _ o h
outer_behind a more (prefixed k gs t) o h = and_from _ _ o h
outer_behind a more (infixed x k y) o h = and_from _ _ o h
outer_behind a more (postfixed x k) o h = and_from _ _ o h
outer_behind a more (tail b k ks) o h = and_from _ _ o h
outer_behind a more (frame k ks) o h = and_from _ _ o h

well_behind : (a : AttributeTree) (more : List AttributeTree) (t : Tree) → attributes_outer (a ∷ more) ≡ true → well t ≡ true → well (prepend (a ∷ more) t) ≡ true
well_behind a more t o h = ap well (prepend_outer (a ∷ more) t o) ∙ outer_behind a more t o h

keeps_flatten : (k : Piece) (t : Tree) → (keeps_block k t || well t) ≡ true → (well t ≡ true → well (flatten t) ≡ true) → (keeps_block k (flatten t) || well (flatten t)) ≡ true
keeps_flatten e.chained t h f = either (is_verbatim_block t) (well t) (is_verbatim_block (flatten t)) (well (flatten t)) (verbatim_flatten t) f h
keeps_flatten e.output_block t h f = either (is_verbatim_block t) (well t) (is_verbatim_block (flatten t)) (well (flatten t)) (verbatim_flatten t) f h
keeps_flatten _ t h f = f h

mutual
  well_flatten : (t : Tree) → well t ≡ true → well (flatten t) ≡ true
  well_flatten (leaf k) h = h
  well_flatten (paren m t) h = well_flatten t h
  well_flatten (attributed a more t) h =
      let p = and_parts (attributes_outer (a ∷ more)) (not (is_attributed t) && well t) h in
      let q = and_parts (not (is_attributed t)) (well t) p.1 in
      well_behind a more (flatten t) p.0 (well_flatten t q.1)
  well_flatten (prefixed k gs t) h =
      let p = and_parts (prefix_fits k) (is_none gs && well t) h in
      let q = and_parts (is_none gs) (well t) p.1 in
      and_from _ _ p.0 (and_from _ _ (none_flatten gs ∙ q.0) (well_flatten t q.1))
  well_flatten (infixed x k y) h =
      let p = and_parts (infix_fits k) (well x && well y) h in
      let q = and_parts (well x) (well y) p.1 in
      and_from _ _ p.0 (and_from _ _ (well_flatten x q.0) (well_flatten y q.1))
  well_flatten (postfixed x k) h = let p = and_parts (postfix_fits k) (well x) h in and_from _ _ p.0 (well_flatten x p.1)
  well_flatten (tail b k ks) h =
      let p = and_parts (trailer_fits k) (well b && children_well (trailer_slot k) ks) h in
      let q = and_parts (well b) (children_well (trailer_slot k) ks) p.1 in
      and_from _ _ p.0 (and_from _ _ (well_flatten b q.0) (children_well_flatten (trailer_slot k) ks q.1))
  well_flatten (frame k ks) h =
      let p = and_parts (frame_fits k ks) (children_well (frame_slot k) ks) h in
      and_from _ _ (frame_flatten k ks ∙ p.0) (children_well_flatten (frame_slot k) ks p.1)

  children_well_flatten : (s : Slot) (ks : Children) → children_well s ks ≡ true → children_well s (flatten_children ks) ≡ true
  children_well_flatten s none h = h
  children_well_flatten s (child k c t ks) h =
      let p = and_parts (piece_fits s k c t && ending_fits k c) ((keeps_block k t || well t) && children_well (after k) ks) h in
      let q = and_parts (piece_fits s k c t) (ending_fits k c) p.0 in
      let r = and_parts (keeps_block k t || well t) (children_well (after k) ks) p.1 in
      and_from _ _ (and_from _ _ (piece_flatten s k c t q.0) q.1) (and_from _ _ (keeps_flatten k t r.0 (well_flatten t)) (children_well_flatten (after k) ks r.1))

pub well_formed_flatten : (t : Tree) → is_well_formed t ≡ true → is_well_formed (flatten t) ≡ true
unfolding is_well_formed
well_formed_flatten = well_flatten
