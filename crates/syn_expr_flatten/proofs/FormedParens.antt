-- What is well-formed has outer attributes alone before its parentheses.
use Rattle.std.specs.Prelude.{not, ◌&&◌, ◌||◌}
use Rattle.std.proofs.Common.{◌≡◌, Bool, true, false, ◌∷◌, refl}
use Rattle.std.proofs.lemmas.Bool.{and_parts}
use Rattle.syn_lower_spec.specs.PatFits.{attributes_outer}
use Rattle.syn_expr_spec.specs.Tree as e
use Rattle.syn_expr_spec.specs.Tree.{Tree, Children, Piece, leaf, paren, attributed, prefixed, infixed, postfixed, tail, frame, none, child, is_none}
use Rattle.syn_expr_spec.specs.Slot.{Slot, after}
use Rattle.syn_expr_spec.specs.Stands.{is_attributed}
use Rattle.syn_expr_spec.specs.WellFormed.{is_verbatim_block, prefix_fits, infix_fits, postfix_fits, trailer_fits, trailer_slot, frame_fits, frame_slot, piece_fits, ending_fits, keeps_block, well, children_well, is_well_formed}
use Rattle.syn_expr_flatten.specs.Outer.{HasOuterParens, HaveOuterParens}
use Rattle.syn_expr_flatten.proofs.OuterParens.{before_any}

none_outer : (ks : Children) → is_none ks ≡ true → HaveOuterParens ks
none_outer none h = tt
none_outer (child k c t ks) h = absurd cc

-- a verbatim block is a leaf
verbatim_outer : (t : Tree) → is_verbatim_block t ≡ true → HasOuterParens t
verbatim_outer (leaf k) h = tt
verbatim_outer _ h = absurd cc

by_either : (a b : Bool) (t : Tree) → (a ≡ true → HasOuterParens t) → (b ≡ true → HasOuterParens t) → (a || b) ≡ true → HasOuterParens t
by_either true b t f g h = f refl
by_either false b t f g h = g h

verbatim_or_well : (k : Piece) (t : Tree) → (keeps_block k t || well t) ≡ true → (well t ≡ true → HasOuterParens t) → HasOuterParens t
verbatim_or_well e.chained t h f = by_either (is_verbatim_block t) (well t) t (verbatim_outer t) f h
verbatim_or_well e.output_block t h f = by_either (is_verbatim_block t) (well t) t (verbatim_outer t) f h
verbatim_or_well _ t h f = f h

mutual
  well_outer : (t : Tree) → well t ≡ true → HasOuterParens t
  well_outer (leaf k) h = tt
  well_outer (paren m t) h = well_outer t h
  well_outer (attributed a more t) h =
      let p = and_parts (attributes_outer (a ∷ more)) (not (is_attributed t) && well t) h in
      let q = and_parts (not (is_attributed t)) (well t) p.1 in
      (before_any (a ∷ more) t p.0, well_outer t q.1)
  well_outer (prefixed k gs t) h =
      let p = and_parts (prefix_fits k) (is_none gs && well t) h in
      let q = and_parts (is_none gs) (well t) p.1 in
      (none_outer gs q.0, well_outer t q.1)
  well_outer (infixed x k y) h =
      let p = and_parts (infix_fits k) (well x && well y) h in
      let q = and_parts (well x) (well y) p.1 in
      (well_outer x q.0, well_outer y q.1)
  well_outer (postfixed x k) h = well_outer x (and_parts (postfix_fits k) (well x) h).1
  well_outer (tail b k ks) h =
      let p = and_parts (trailer_fits k) (well b && children_well (trailer_slot k) ks) h in
      let q = and_parts (well b) (children_well (trailer_slot k) ks) p.1 in
      (well_outer b q.0, children_outer (trailer_slot k) ks q.1)
  well_outer (frame k ks) h = children_outer (frame_slot k) ks (and_parts (frame_fits k ks) (children_well (frame_slot k) ks) h).1

  children_outer : (s : Slot) (ks : Children) → children_well s ks ≡ true → HaveOuterParens ks
  children_outer s none h = tt
  children_outer s (child k c t ks) h =
      let p = and_parts (piece_fits s k c t && ending_fits k c) ((keeps_block k t || well t) && children_well (after k) ks) h in
      let r = and_parts (keeps_block k t || well t) (children_well (after k) ks) p.1 in
      (verbatim_or_well k t r.0 (well_outer t), children_outer (after k) ks r.1)

pub well_formed_outer : (t : Tree) → is_well_formed t ≡ true → HasOuterParens t
unfolding is_well_formed
well_formed_outer = well_outer
