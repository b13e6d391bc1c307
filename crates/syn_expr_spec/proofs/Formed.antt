-- What is known of a well-formed tree with its fill-ins, node by node.
use Rattle.std.proofs.Common.{◌≡◌, Bool, true, false, not, ◌||◌, ◌∷◌, ◌∙◌, ◌&&◌, refl}
use Rattle.std.proofs.lemmas.Bool.{and_parts, not-true}
use Rattle.syn_expr_spec.specs.Tree.{Tree, Children, Piece, Ending, leaf, paren, attributed, prefixed, infixed, postfixed, tail, frame, none, child, is_none, needs_last_comma, fill, is_block_like, clear}
use Rattle.syn_expr_spec.specs.Slot.{Slot, after}
use Rattle.syn_expr_spec.specs.Stands.{is_attributed, holds_block}
use Rattle.syn_lower_spec.specs.PatFits.{attributes_outer}
use Rattle.syn_expr_spec.specs.WellFormed.{leaf_fits, prefix_fits, infix_fits, postfix_fits, trailer_fits, trailer_slot, frame_slot, frame_fits, piece_fits, ending_fits, may_stop, keeps_block, well, children_well}
use Rattle.syn_expr_spec.proofs.FillIns.{dots_there, comma_there, filled, children_filled, fill_filled, well_fill}
use Rattle.syn_expr_spec.specs.Tree as e

pub record ChildFormed (s : Slot) (last : Bool) (k : Piece) (c : Ending) (t : Tree) (ks : Children) : Type 0 where
  pub piece : piece_fits s k c t ≡ true
  pub ending : ending_fits k c ≡ true
  pub filled : dots_there k ≡ true
  pub comma : comma_there k c t (not (is_none ks)) last ≡ true

abbrev mutual
  pub Formed : Tree → Type 0
  Formed (leaf k) = leaf_fits k ≡ true
  Formed (paren m t) = Formed t
  Formed (attributed a more t) = (attributes_outer (a ∷ more) ≡ true) × (is_attributed t ≡ false) × Formed t
  Formed (prefixed k gs t) = (prefix_fits k ≡ true) × (is_none gs ≡ true) × Formed t
  Formed (infixed x k y) = (infix_fits k ≡ true) × Formed x × Formed y
  Formed (postfixed x k) = (postfix_fits k ≡ true) × Formed x
  Formed (tail b k ks) = (trailer_fits k ≡ true) × Formed b × FormedChildren (trailer_slot k) false ks
  Formed (frame k ks) = (frame_fits k ks ≡ true) × FormedChildren (frame_slot k) (needs_last_comma k ks) ks

  pub FormedChildren : Slot → Bool → Children → Type 0
  FormedChildren s last none = may_stop s ≡ true
  FormedChildren s last (child k c t ks) = ChildFormed s last k c t ks × (keeps_block k t ≡ false → Formed t) × FormedChildren (after k) last ks

or_so : (a b : Bool) → a || b ≡ true → a ≡ false → b ≡ true
or_so true b h e = absurd cc
or_so false b h e = h

mutual
  pub formed : (t : Tree) → well t ≡ true → filled t ≡ true → Formed t
  formed (leaf k) h g = h
  formed (paren m t) h g = formed t h g
  formed (attributed a more t) h g =
      let p = and_parts _ _ h in
      let q = and_parts _ _ p.1 in
      (p.0, not-true _ q.0, formed t q.1 g)
  formed (prefixed k gs t) h g =
      let p = and_parts _ _ h in
      let q = and_parts _ _ p.1 in
      (p.0, q.0, formed t q.1 (and_parts _ _ g).1)
  formed (infixed x k y) h g =
      let p = and_parts _ _ h in
      let q = and_parts _ _ p.1 in
      let r = and_parts _ _ g in
      (p.0, formed x q.0 r.0, formed y q.1 r.1)
  formed (postfixed x k) h g = let p = and_parts _ _ h in (p.0, formed x p.1 g)
  formed (tail b k ks) h g =
      let p = and_parts _ _ h in
      let q = and_parts _ _ p.1 in
      let r = and_parts _ _ g in
      (p.0, formed b q.0 r.0, children_formed ks (trailer_slot k) false q.1 r.1)
  formed (frame k ks) h g =
      let p = and_parts _ _ h in
      (p.0, children_formed ks (frame_slot k) (needs_last_comma k ks) p.1 g)

  pub children_formed : (ks : Children) (s : Slot) (last : Bool) → children_well s ks ≡ true → children_filled last ks ≡ true → FormedChildren s last ks
  children_formed none s last h g = h
  children_formed (child k c t ks) s last h g =
      let p = and_parts _ _ h in
      let q = and_parts _ _ p.0 in
      let r = and_parts _ _ p.1 in
      let u = and_parts _ _ g in
      let v = and_parts _ _ u.0 in
      let w = and_parts _ _ u.1 in (
        record { piece = q.0; ending = q.1; filled = v.0; comma = v.1 },
        λ b. formed t (or_so (keeps_block k t) (well t) r.0 b) w.0,
        children_formed ks (after k) last r.1 w.1,
      )

-- a well-formed tree with its fill-ins
pub formed_fill : (t : Tree) → well t ≡ true → Formed (fill t)
formed_fill t h = formed (fill t) (well_fill t ∙ h) (fill_filled t)

-- ---- what holds a block: a block-like expression, and in trees with groups what holds one in such

pub block_held : (x : Tree) → is_block_like x ≡ true → holds_block x ≡ true
block_held (leaf k) h = h
block_held (attributed a more x) h = block_held x h
block_held (frame e.if_expr ks) h = refl
block_held (frame (e.while_loop w) ks) h = refl
block_held (frame (e.for_loop w p) ks) h = refl
block_held (frame e.match_expr ks) h = refl
block_held _ h = absurd cc

-- what holds no block is none
pub no_block_held : (b : Bool) (x : Tree) → b && holds_block x ≡ false → b && is_block_like x ≡ false
no_block_held false x h = refl
no_block_held true x h = by_test (is_block_like x) refl
  where
    by_test : (c : Bool) → is_block_like x ≡ c → c ≡ false
    by_test false v = refl
    by_test true v = let w = block_held x v in absurd (cc (w, h))

-- a well-formed tree has no groups
pub formed_holds : (t : Tree) → Formed t → holds_block (clear t) ≡ is_block_like t
formed_holds (attributed a more t) f = formed_holds t f.2
formed_holds (frame e.group_expr ks) f = absurd (let q = f.0 in cc)
formed_holds _ f = refl
