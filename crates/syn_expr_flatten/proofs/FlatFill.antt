-- Nothing is filled in to a tree without its parentheses where nothing was before.
use Rattle.std.specs.Prelude.{not, ◌&&◌}
use Rattle.std.proofs.Common.{◌≡◌, Bool, true, false, List, [], ◌∷◌, ◌++◌, refl, sym, ◌∙◌, ap}
use Rattle.std.proofs.lemmas.Bool.{and_parts, and_from}
use Rattle.syn_lower_spec.specs.Tree.{AttributeTree}
use Rattle.syn_expr_spec.specs.Tree as e
use Rattle.syn_expr_spec.specs.Tree.{Tree, Children, Leaf, Frame, Piece, Ending, leaf, paren, attributed, prefixed, infixed, postfixed, tail, frame, none, child, attributed_with, prepend, flatten, flatten_children, frame_with, inner_in, inners, children_with, leaf_with, outside, with_inner, fill, is_block_like, is_none, is_one, needs_last_comma}
use Rattle.syn_expr_spec.specs.Stands.{is_verbatim_leaf}
use Rattle.syn_expr_spec.proofs.Attributes.{is_free, prepend_free}
use Rattle.syn_expr_spec.proofs.FillIns.{filled, children_filled, comma_there, dots_there, fill_filled, filled_stays}

pub none_flatten : (ks : Children) → is_none (flatten_children ks) ≡ is_none ks
none_flatten none = refl
none_flatten (child k c t ks) = refl

one_flatten : (ks : Children) → is_one (flatten_children ks) ≡ is_one ks
one_flatten none = refl
one_flatten (child k c t ks) = none_flatten ks

last_flatten : (k : Frame) (ks : Children) → needs_last_comma k (flatten_children ks) ≡ needs_last_comma k ks
last_flatten e.tuple ks = one_flatten ks
last_flatten (e.structure q p d) ks = refl
last_flatten _ ks = refl

-- ---- what ends with a block ends with one after attributes and without parentheses

block_attributed_with : (own : List AttributeTree) (t : Tree) → is_block_like (attributed_with own t) ≡ is_block_like t
block_attributed_with [] t = refl
block_attributed_with (a ∷ own) t = refl

leaf_with_block : (l : List AttributeTree) (k : Leaf) → is_block_like (leaf (leaf_with l k)) ≡ is_block_like (leaf k)
leaf_with_block l (e.block w b) = refl
leaf_with_block l (e.loop_expr w b) = refl
leaf_with_block l (e.unsafe_block b) = refl
leaf_with_block l (e.const_block b) = refl
leaf_with_block l _ = refl

with_block : (l : List AttributeTree) (t : Tree) → is_block_like (with_inner l t) ≡ is_block_like t
with_block l (leaf k) = leaf_with_block l k
with_block l _ = refl

-- those before it and in its braces
put_block : (own l : List AttributeTree) (t : Tree) → is_block_like (attributed_with own (with_inner l t)) ≡ is_block_like t
put_block own l t = block_attributed_with own (with_inner l t) ∙ with_block l t

leaf_free : (k : Leaf) → is_block_like (leaf k) ≡ true → is_free (leaf k) ≡ true
leaf_free (e.verbatim ts) h = absurd cc
leaf_free _ h = refl

block_free : (more : List AttributeTree) (t : Tree) → is_free t ≡ true → is_block_like t ≡ true → is_block_like (prepend more t) ≡ true
block_free more t f h = ap is_block_like (prepend_free more t f) ∙ put_block (outside t more) (inners more ++ inner_in t) t ∙ h

block_behind : (more : List AttributeTree) (t : Tree) → is_block_like t ≡ true → is_block_like (prepend more t) ≡ true
block_behind more (leaf k) h = block_free more (leaf k) (leaf_free k h) h
block_behind more (attributed b bs t) h = put_block (outside t more ++ b ∷ bs) (inners more ++ inner_in t) t ∙ h
block_behind more (frame k ks) h = block_free more (frame k ks) refl h
block_behind more _ h = absurd cc

block_flatten : (t : Tree) → is_block_like t ≡ true → is_block_like (flatten t) ≡ true
block_flatten (attributed a more t) h = block_behind (a ∷ more) (flatten t) (block_flatten t h)
block_flatten (leaf k) h = h
block_flatten (frame k ks) h = h
block_flatten _ h = absurd cc

-- ---- commas

fewer : (more a b : Bool) → (a ≡ true → b ≡ true) → not (more && not a) ≡ true → not (more && not b) ≡ true
fewer false a b f h = refl
fewer true true b f h = let g = f refl in cc
fewer true false b f h = absurd cc

comma_flatten : (k : Piece) (c : Ending) (t : Tree) (more last : Bool) → comma_there k c t more last ≡ true → comma_there k c (flatten t) more last ≡ true
comma_flatten e.guarded e.no_ending t more last h = fewer more _ _ (block_flatten t) h
comma_flatten (e.arm ats p) e.no_ending t more last h = fewer more _ _ (block_flatten t) h
comma_flatten e.element e.no_ending t more last h = h
comma_flatten (e.field_value ats m b) e.no_ending t more last h = h
comma_flatten _ e.no_ending t more last h = h
comma_flatten k _ t more last h = refl

filled_attributed_with : (own : List AttributeTree) (t : Tree) → filled (attributed_with own t) ≡ filled t
filled_attributed_with [] t = refl
filled_attributed_with (a ∷ own) t = refl

none_with : (l : List AttributeTree) (ks : Children) → is_none (children_with l ks) ≡ is_none ks
none_with l none = refl
none_with l (child k (e.braced b) t ks) = refl
none_with l (child k (e.opened ats) t ks) = refl
none_with l (child k e.no_ending t ks) = refl
none_with l (child k e.comma t ks) = refl

children_with_filled : (last : Bool) (l : List AttributeTree) (ks : Children) → children_filled last (children_with l ks) ≡ children_filled last ks
children_with_filled last l none = refl
children_with_filled last l (child k (e.braced b) t ks) = refl
children_with_filled last l (child k (e.opened ats) t ks) = refl
children_with_filled last l (child k e.no_ending t ks) =
    ap (λ b. (dots_there k && comma_there k e.no_ending t (not b) last) && (filled t && children_filled last (children_with l ks))) (none_with l ks)
    ∙ ap (λ b. (dots_there k && comma_there k e.no_ending t (not (is_none ks)) last) && (filled t && b)) (children_with_filled last l ks)
children_with_filled last l (child k e.comma t ks) = ap (λ b. (dots_there k && true) && (filled t && b)) (children_with_filled last l ks)

frame_with_filled : (l : List AttributeTree) (k : Frame) (ks : Children) → filled (frame k (frame_with l k ks)) ≡ filled (frame k ks)
frame_with_filled l (e.while_loop w) ks = children_with_filled false l ks
frame_with_filled l (e.for_loop w p) ks = children_with_filled false l ks
frame_with_filled l e.match_expr ks = children_with_filled false l ks
frame_with_filled l _ ks = refl

with_filled : (l : List AttributeTree) (t : Tree) → filled (with_inner l t) ≡ filled t
with_filled l (frame k ks) = frame_with_filled l k ks
with_filled l _ = refl

put_filled : (own l : List AttributeTree) (t : Tree) → filled (attributed_with own (with_inner l t)) ≡ filled t
put_filled own l t = filled_attributed_with own (with_inner l t) ∙ with_filled l t

-- after attributes
filled_free : (more : List AttributeTree) (t : Tree) → is_free t ≡ true → filled t ≡ true → filled (prepend more t) ≡ true
filled_free more t f h = ap filled (prepend_free more t f) ∙ put_filled (outside t more) (inners more ++ inner_in t) t ∙ h

filled_behind : (more : List AttributeTree) (t : Tree) → filled t ≡ true → filled (prepend more t) ≡ true
filled_behind more (attributed b bs t) h = put_filled (outside t more ++ b ∷ bs) (inners more ++ inner_in t) t ∙ h
filled_behind more (leaf k) h = by (is_verbatim_leaf k) k refl
  where
    by : (b : Bool) (k : Leaf) → is_verbatim_leaf k ≡ b → filled (prepend more (leaf k)) ≡ true
    by false k g = filled_free more (leaf k) (ap not g) refl
    by true (e.verbatim ts) g = refl
    by true _ g = absurd cc
filled_behind more (paren m t) h = filled_free more (paren m t) refl h
filled_behind more (prefixed k gs t) h = filled_free more (prefixed k gs t) refl h
filled_behind more (infixed x k y) h = filled_free more (infixed x k y) refl h
filled_behind more (postfixed x k) h = filled_free more (postfixed x k) refl h
filled_behind more (tail b k ks) h = filled_free more (tail b k ks) refl h
filled_behind more (frame k ks) h = filled_free more (frame k ks) refl h

mutual
  filled_flatten : (t : Tree) → filled t ≡ true → filled (flatten t) ≡ true
  filled_flatten (leaf k) h = refl
  filled_flatten (paren m t) h = filled_flatten t h
  filled_flatten (attributed a more t) h = filled_behind (a ∷ more) (flatten t) (filled_flatten t h)
  filled_flatten (prefixed k gs t) h = let p = and_parts (children_filled false gs) (filled t) h in and_from _ _ (children_filled_flatten false gs p.0) (filled_flatten t p.1)
  filled_flatten (infixed x k y) h = let p = and_parts (filled x) (filled y) h in and_from _ _ (filled_flatten x p.0) (filled_flatten y p.1)
  filled_flatten (postfixed x k) h = filled_flatten x h
  filled_flatten (tail b k ks) h = let p = and_parts (filled b) (children_filled false ks) h in and_from _ _ (filled_flatten b p.0) (children_filled_flatten false ks p.1)
  filled_flatten (frame k ks) h = ap (λ b. children_filled b (flatten_children ks)) (last_flatten k ks) ∙ children_filled_flatten (needs_last_comma k ks) ks h

  children_filled_flatten : (last : Bool) (ks : Children) → children_filled last ks ≡ true → children_filled last (flatten_children ks) ≡ true
  children_filled_flatten last none h = refl
  children_filled_flatten last (child k c t ks) h =
      let more = not (is_none ks) in
      let p = and_parts (dots_there k && comma_there k c t more last) (filled t && children_filled last ks) h in
      let q = and_parts (dots_there k) (comma_there k c t more last) p.0 in
      let r = and_parts (filled t) (children_filled last ks) p.1 in
      let comma = ap (λ b. comma_there k c (flatten t) (not b) last) (none_flatten ks) ∙ comma_flatten k c t more last q.1 in
      and_from _ _ (and_from _ _ q.0 comma) (and_from _ _ (filled_flatten t r.0) (children_filled_flatten last ks r.1))

pub fill_flatten : (t : Tree) → fill t ≡ t → fill (flatten t) ≡ flatten t
fill_flatten t h = filled_stays (flatten t) (filled_flatten t (ap filled (sym h) ∙ fill_filled t))
