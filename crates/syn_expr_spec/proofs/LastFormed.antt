-- A well-formed tree ends with braces exactly where its own tokens do: after `else` stands an `if` or a block.
use Rattle.std.proofs.Common.{◌≡◌, ◌||◌, ◌&&◌, Bool, true, false, not, [], ◌∷◌, None, refl, sym, ap, subst, ◌∙◌}
use Rattle.std.proofs.lemmas.Bool.{and_parts}
use Rattle.syn_lower_spec.specs.PatFits.{attributes_outer}
use Rattle.syn_expr_spec.specs.Tree as e
use Rattle.syn_expr_spec.specs.Tree.{Tree, Children, Piece, Ending, leaf, attributed, prefixed, infixed, frame, none, child, is_none}
use Rattle.syn_expr_spec.specs.Slot as s
use Rattle.syn_expr_spec.specs.Slot.{Slot, after}
use Rattle.syn_expr_spec.specs.Stands.{is_attributed, is_if_expr}
use Rattle.syn_expr_spec.specs.WellFormed.{well, children_well, piece_fits, ending_fits, keeps_block, is_verbatim_block, frame_fits, frame_slot, prefix_fits, infix_fits, is_well_formed}
use Rattle.syn_expr_spec.specs.Query.{blocked, prefix_brace, piece_brace, operand_brace, frame_brace, frame_head_brace, tree_brace, children_brace, trailing_brace, ends_with_brace, TrailingBraceIsLast}
use Rattle.syn_expr_spec.proofs.LastBraces.{as_spelled, children_spelled, child_spelled, verbatim, blocked_ends, tree_last}

-- nothing follows
stops : (ks : Children) → children_well s.done ks ≡ true → children_brace true ks ≡ true
stops none h = refl
stops (child k c x ks) h = absurd cc

wrong_ending : (a b : Bool) → (a && false) && b ≡ true → ⊥
wrong_ending true b h = cc
wrong_ending false b h = cc

-- after the block of an `if`
chain_ends : (ks : Children) → children_well s.otherwise ks ≡ true → children_brace true ks ≡ true
chain_ends none h = refl
chain_ends (child e.chained e.no_ending x ks) h = stops ks (and_parts _ _ (and_parts _ _ h).1).1
chain_ends (child e.chained c x ks) h = absurd (wrong_ending (is_if_expr x || is_verbatim_block x) _ h)
chain_ends (child k c x ks) h = absurd cc

if_expr_ends : (ks : Children) → children_well s.conditions ks ≡ true → children_brace false ks ≡ true
if_expr_ends none h = absurd cc
if_expr_ends (child e.condition (e.braced b) x ks) h = chain_ends ks (and_parts _ _ (and_parts _ _ h).1).1
if_expr_ends (child k c x ks) h = absurd cc

not_verbatim : (k : Piece) (x : Tree) → is_verbatim_block x ≡ false → keeps_block k x ≡ false
not_verbatim e.chained x h = h
not_verbatim e.output_block x h = h
not_verbatim k x h = refl

well_there : (k : Piece) (x : Tree) → keeps_block k x || well x ≡ true → is_verbatim_block x ≡ false → well x ≡ true
well_there k x h g = subst (λ b. b || well x ≡ true) (not_verbatim k x g) h

-- an `if` or a block
chained_brace : (x : Tree) → is_if_expr x || is_verbatim_block x ≡ true → (is_verbatim_block x ≡ false → well x ≡ true) → tree_brace false x ≡ true
chained_brace (leaf (e.block None b)) h w = refl
chained_brace (leaf k) h w = absurd cc
chained_brace (frame e.if_expr ks) h w = if_expr_ends ks (w refl)
chained_brace x h w = absurd cc

behind_else : (z : Slot) (c : Ending) (x : Tree) → piece_fits z e.chained c x ≡ true → is_if_expr x || is_verbatim_block x ≡ true
behind_else s.otherwise c x h = h
behind_else _ c x h = absurd cc

-- what an operand answers, a verbatim block or not
operand_ends : (k : Piece) (x : Tree) → (well x ≡ true → (before : Bool) → as_spelled before x ≡ tree_brace before x) → keeps_block k x || well x ≡ true
    → (before : Bool) → as_spelled before x ≡ tree_brace before x
operand_ends k (leaf j) f h before = refl
operand_ends k x f h before = f (well_there k x h refl) before

put_ends : (z : Slot) (k : Piece) (c : Ending) (x : Tree) (before : Bool) → piece_fits z k c x ≡ true → keeps_block k x || well x ≡ true
    → as_spelled (piece_brace before k) x ≡ tree_brace (piece_brace before k) x
    → child_spelled before k (as_spelled (piece_brace before k) x) ≡ operand_brace before k (tree_brace (piece_brace before k) x)
put_ends z e.chained c x before h w q = q ∙ chained_brace x (behind_else z c x h) (well_there e.chained x w)
put_ends z k c x before h w q = ap (operand_brace before k) q

mutual
  well_ends : (x : Tree) → well x ≡ true → (before : Bool) → as_spelled before x ≡ tree_brace before x
  well_ends (attributed a more x) w before = well_ends x (and_parts (not (is_attributed x)) _ (and_parts (attributes_outer (a ∷ more)) _ w).1).1 _
  well_ends (prefixed k gs x) w before = well_ends x (and_parts (is_none gs) _ (and_parts (prefix_fits k) _ w).1).1 (prefix_brace k)
  well_ends (infixed x k y) w before = well_ends y (and_parts (well x) _ (and_parts (infix_fits k) _ w).1).1 false
  well_ends (frame k ks) w before = ap (frame_brace k) (children_end (frame_slot k) ks (and_parts (frame_fits k ks) _ w).1 (frame_head_brace k))
  well_ends _ w before = refl

  children_end : (z : Slot) (ks : Children) → children_well z ks ≡ true → (before : Bool) → children_spelled before ks ≡ children_brace before ks
  children_end z none w before = refl
  children_end z (child k c x ks) w before =
      let p = and_parts (piece_fits z k c x && ending_fits k c) _ w in
      let q = and_parts (keeps_block k x || well x) _ p.1 in
      verbatim before k c x x ks ks
      (put_ends z k c x before (and_parts (piece_fits z k c x) _ p.0).0 q.0 (operand_ends k x (λ v. well_ends x v) q.0 (piece_brace before k)))
      (λ b. children_end (after k) ks q.1 b)

everywhere : (x : Tree) → trailing_brace x ≡ ends_with_brace x
everywhere x = sym (blocked_ends false x) ∙ sym (tree_last false (blocked x) [])

pub trailing_brace_is_last : TrailingBraceIsLast
unfolding is_well_formed
trailing_brace_is_last = record {
  everywhere = everywhere;
  if_exprs = λ b c x. (
    sym (everywhere (frame e.if_expr (child e.condition (e.braced b) c none))),
    sym (everywhere (frame e.if_expr (child e.condition (e.braced b) c (child e.chained e.no_ending x none)))),
  );
  well_formed = λ x w. sym (well_ends x w false) ∙ sym (tree_last false x []);
}
