-- The fill-ins: what they leave as it is, and what is there after them.
use Rattle.std.specs.Prelude.{not, ◌&&◌}
use Rattle.std.proofs.Common.{◌≡◌, Bool, true, false, refl, sym, ◌∙◌, ap}
use Rattle.std.proofs.lemmas.Bool.{and_from}
use Rattle.syn_lower_spec.specs.Pat.{MemberTree, a_name}
use Rattle.syn_expr_spec.specs.Tree as e
use Rattle.syn_expr_spec.specs.Tree.{Tree, Children, Frame, Piece, Ending, leaf, paren, attributed, prefixed, infixed, postfixed, tail, frame, none, child, is_none, is_one, is_block_like, needs_comma, needs_last_comma, with_comma, fill_piece, fill, fill_children, clear, clear_children}
use Rattle.syn_expr_spec.specs.Slot.{Slot, fields, otherwise, outputs, after}
use Rattle.syn_expr_spec.specs.Stands.{is_attributed, is_if_expr, is_infix}
use Rattle.syn_expr_spec.specs.Rule.{is_operation, prints_range}
use Rattle.syn_expr_spec.specs.WellFormed.{is_name_path, is_verbatim_block, has_rest, frame_fits, trailer_slot, frame_slot, piece_fits, ending_fits, keeps_block, well, children_well}
use Rattle.syn_expr_spec.specs.Printed.{plainly_attributed, children_plainly}
use Rattle.syn_expr_spec.proofs.Flat.{left_of, right_of}

-- ---- kinds of nodes

pub block_fill : (t : Tree) → is_block_like (fill t) ≡ is_block_like t
block_fill (leaf k) = refl
block_fill (attributed a more t) = block_fill t
block_fill _ = refl

pub attributed_fill : (t : Tree) → is_attributed (fill t) ≡ is_attributed t
attributed_fill (leaf k) = refl
attributed_fill _ = refl

pub if_expr_fill : (t : Tree) → is_if_expr (fill t) ≡ is_if_expr t
if_expr_fill (frame e.if_expr ks) = refl
if_expr_fill _ = refl

pub verbatim_fill : (t : Tree) → is_verbatim_block (fill t) ≡ is_verbatim_block t
verbatim_fill (leaf k) = refl
verbatim_fill _ = refl

name_fill : (m : MemberTree) (t : Tree) → is_name_path m (fill t) ≡ is_name_path m t
name_fill (a_name w) (leaf k) = refl
name_fill _ _ = refl

infix_fill : (t : Tree) → is_infix (fill t) ≡ is_infix t
infix_fill (leaf k) = refl
infix_fill _ = refl

range_fill : (t : Tree) → prints_range (fill t) ≡ prints_range t
range_fill (leaf k) = refl
range_fill _ = refl

pub operation_fill : (t : Tree) → is_operation (fill t) ≡ is_operation t
operation_fill t = let a = infix_fill t in let b = range_fill t in cc

pub none_fill : (b : Bool) (ks : Children) → is_none (fill_children b ks) ≡ is_none ks
none_fill b none = refl
none_fill b (child k c t ks) = refl

pub one_fill : (b : Bool) (ks : Children) → is_one (fill_children b ks) ≡ is_one ks
one_fill b none = refl
one_fill b (child k c t ks) = none_fill b ks

pub last_fill : (b : Bool) (k : Frame) (ks : Children) → needs_last_comma k (fill_children b ks) ≡ needs_last_comma k ks
last_fill b e.tuple ks = one_fill b ks
last_fill b (e.structure q p d) ks = refl
last_fill b _ ks = refl

rest_fill : (b : Bool) (ks : Children) → has_rest (fill_children b ks) ≡ has_rest ks
rest_fill b none = refl
rest_fill b (child (e.rest d) c t ks) = refl
rest_fill b (child _ c t ks) = rest_fill b ks

-- ---- what is there after them

-- a needed comma is there
abbrev pub comma_there : Piece → Ending → Tree → Bool → Bool → Bool
comma_there k e.no_ending t more last = not (needs_comma k t more last)
comma_there k c t more last = true

-- and the dots before a rest
abbrev pub dots_there : Piece → Bool
dots_there (e.rest d) = d
dots_there _ = true

abbrev mutual
  pub filled : Tree → Bool
  filled (leaf k) = true
  filled (paren m t) = filled t
  filled (attributed a more t) = filled t
  filled (prefixed k gs t) = children_filled false gs && filled t
  filled (infixed x k y) = filled x && filled y
  filled (postfixed x k) = filled x
  filled (tail b k ks) = filled b && children_filled false ks
  filled (frame k ks) = children_filled (needs_last_comma k ks) ks

  pub children_filled : Bool → Children → Bool
  children_filled last none = true
  children_filled last (child k c t ks) = (dots_there k && comma_there k c t (not (is_none ks)) last) && (filled t && children_filled last ks)

needs_fill : (k : Piece) (t : Tree) (more last : Bool) → needs_comma (fill_piece k) (fill t) more last ≡ needs_comma k t more last
needs_fill e.guarded t more last = ap (λ b. more && not b) (block_fill t)
needs_fill (e.arm ats p) t more last = ap (λ b. more && not b) (block_fill t)
needs_fill _ t more last = refl

dots_fill : (k : Piece) → dots_there (fill_piece k) ≡ true
dots_fill (e.rest d) = refl
dots_fill _ = refl

-- what a comma would be needed for
there : (k : Piece) (c : Ending) (t : Tree) (more last b : Bool) → needs_comma k t more last ≡ b → comma_there k (with_comma b c) t more last ≡ true
there k e.no_ending t more last true h = refl
there k e.comma t more last true h = refl
there k (e.braced x) t more last true h = refl
there k (e.opened ats) t more last true h = refl
there k e.no_ending t more last false h = ap not h
there k e.comma t more last false h = refl
there k (e.braced x) t more last false h = refl
there k (e.opened ats) t more last false h = refl

mutual
  pub fill_filled : (t : Tree) → filled (fill t) ≡ true
  fill_filled (leaf k) = refl
  fill_filled (paren m t) = fill_filled t
  fill_filled (attributed a more t) = fill_filled t
  fill_filled (prefixed k gs t) = and_from _ _ (fill_children_filled false gs) (fill_filled t)
  fill_filled (infixed x k y) = and_from _ _ (fill_filled x) (fill_filled y)
  fill_filled (postfixed x k) = fill_filled x
  fill_filled (tail b k ks) = and_from _ _ (fill_filled b) (fill_children_filled false ks)
  fill_filled (frame k ks) =
      let b = needs_last_comma k ks in
      ap (λ x. children_filled x (fill_children b ks)) (last_fill b k ks) ∙ fill_children_filled b ks

  pub fill_children_filled : (last : Bool) (ks : Children) → children_filled last (fill_children last ks) ≡ true
  fill_children_filled last none = refl
  fill_children_filled last (child k c t ks) =
      let more = not (is_none ks) in
      let n : needs_comma (fill_piece k) (fill t) (not (is_none (fill_children last ks))) last ≡ needs_comma k t more last =
      ap (λ x. needs_comma (fill_piece k) (fill t) (not x) last) (none_fill last ks) ∙ needs_fill k t more last in
      and_from _ _ (and_from _ _ (dots_fill k) (there (fill_piece k) c (fill t) (not (is_none (fill_children last ks))) last (needs_comma k t more last) n))
      (and_from _ _ (fill_filled t) (fill_children_filled last ks))

piece_stays : (k : Piece) → dots_there k ≡ true → fill_piece k ≡ k
piece_stays (e.rest d) h = ap e.rest (sym h)
piece_stays _ h = refl

ending_stays : (k : Piece) (c : Ending) (t : Tree) (more last : Bool) → comma_there k c t more last ≡ true → with_comma (needs_comma k t more last) c ≡ c
ending_stays k e.no_ending t more last h = kept _ h
  where
    kept : (b : Bool) → not b ≡ true → with_comma b e.no_ending ≡ e.no_ending
    kept true h = cc
    kept false h = refl
ending_stays k e.comma t more last h = same _
  where
    same : (b : Bool) → with_comma b e.comma ≡ e.comma
    same true = refl
    same false = refl
ending_stays k (e.braced x) t more last h = same _
  where
    same : (b : Bool) → with_comma b (e.braced x) ≡ e.braced x
    same true = refl
    same false = refl
ending_stays k (e.opened ats) t more last h = same _
  where
    same : (b : Bool) → with_comma b (e.opened ats) ≡ e.opened ats
    same true = refl
    same false = refl

mutual
  pub filled_stays : (t : Tree) → filled t ≡ true → fill t ≡ t
  filled_stays (leaf k) h = refl
  filled_stays (paren m t) h = ap (paren m) (filled_stays t h)
  filled_stays (attributed a more t) h = ap (attributed a more) (filled_stays t h)
  filled_stays (prefixed k gs t) h = let g = filled_children_stay false gs (left_of _ _ h) in let x = filled_stays t (right_of (children_filled false gs) _ h) in cc
  filled_stays (infixed x k y) h = let u = filled_stays x (left_of _ _ h) in let v = filled_stays y (right_of (filled x) _ h) in cc
  filled_stays (postfixed x k) h = ap (λ u. postfixed u k) (filled_stays x h)
  filled_stays (tail b k ks) h = let u = filled_stays b (left_of _ _ h) in let v = filled_children_stay false ks (right_of (filled b) _ h) in cc
  filled_stays (frame k ks) h = ap (frame k) (filled_children_stay (needs_last_comma k ks) ks h)

  pub filled_children_stay : (last : Bool) (ks : Children) → children_filled last ks ≡ true → fill_children last ks ≡ ks
  filled_children_stay last none h = refl
  filled_children_stay last (child k c t ks) h =
      let more = not (is_none ks) in
      let a = left_of (dots_there k && comma_there k c t more last) _ h in
      let b = right_of (dots_there k && comma_there k c t more last) _ h in
      let p = piece_stays k (left_of _ _ a) in
      let q = ending_stays k c t more last (right_of (dots_there k) _ a) in
      let u = filled_stays t (left_of _ _ b) in
      let v = filled_children_stay last ks (right_of (filled t) _ b) in
      cc

-- ---- what is well-formed stays so

leads_to : (k : Piece) → after (fill_piece k) ≡ after k
leads_to (e.rest d) = refl
leads_to _ = refl

piece_fill : (s : Slot) (k : Piece) (c d : Ending) (t : Tree) → piece_fits s (fill_piece k) d (fill t) ≡ piece_fits s k c t
piece_fill fields (e.field_value ats m b) c d t = let n = name_fill m t in cc
piece_fill otherwise e.chained c d t = let x = if_expr_fill t in let y = verbatim_fill t in cc
piece_fill outputs e.output_block c d t = verbatim_fill t
piece_fill _ (e.rest x) c d t = refl
piece_fill _ _ c d t = refl

-- a comma that is filled in fits
comma_fits : (k : Piece) (c : Ending) (b : Bool) → ending_fits k e.comma ≡ ending_fits k e.no_ending → ending_fits (fill_piece k) (with_comma b c) ≡ ending_fits (fill_piece k) c
comma_fits k c false h = refl
comma_fits (e.rest d) e.no_ending true h = h
comma_fits _ e.no_ending true h = h
comma_fits _ _ _ h = refl

rest_ending : (d : Bool) (c : Ending) → ending_fits (e.rest true) c ≡ ending_fits (e.rest d) c
rest_ending d e.no_ending = refl
rest_ending d _ = refl

ending_fill : (k : Piece) (c : Ending) (t : Tree) (more last : Bool) → ending_fits (fill_piece k) (with_comma (needs_comma k t more last) c) ≡ ending_fits k c
ending_fill e.element c t more last = comma_fits e.element c _ refl
ending_fill (e.field_value ats m b) c t more last = comma_fits (e.field_value ats m b) c _ refl
ending_fill e.guarded c t more last = comma_fits e.guarded c _ refl
ending_fill (e.arm ats p) c t more last = comma_fits (e.arm ats p) c _ refl
ending_fill (e.rest d) c t more last = rest_ending d c
ending_fill _ c t more last = refl

keeps_fill : (k : Piece) (t : Tree) → keeps_block (fill_piece k) (fill t) ≡ keeps_block k t
keeps_fill e.chained t = verbatim_fill t
keeps_fill e.output_block t = verbatim_fill t
keeps_fill (e.rest d) t = refl
keeps_fill _ t = refl

fits_fill : (b : Bool) (k : Frame) (ks : Children) → frame_fits k (fill_children b ks) ≡ frame_fits k ks
fits_fill b (e.structure q p d) ks = rw (rest_fill b ks) refl
fits_fill b (e.closure_block h) ks = refl
fits_fill b _ ks = refl

mutual
  pub well_fill : (t : Tree) → well (fill t) ≡ well t
  well_fill (leaf k) = refl
  well_fill (paren m t) = well_fill t
  well_fill (attributed a more t) = let x = attributed_fill t in let y = well_fill t in cc
  well_fill (prefixed k gs t) = let x = none_fill false gs in let y = well_fill t in cc
  well_fill (infixed x k y) = let u = well_fill x in let v = well_fill y in cc
  well_fill (postfixed x k) = let u = well_fill x in cc
  well_fill (tail b k ks) = let u = well_fill b in let v = children_well_fill false (trailer_slot k) ks in cc
  well_fill (frame k ks) = let u = fits_fill (needs_last_comma k ks) k ks in let v = children_well_fill (needs_last_comma k ks) (frame_slot k) ks in cc

  pub children_well_fill : (last : Bool) (s : Slot) (ks : Children) → children_well s (fill_children last ks) ≡ children_well s ks
  children_well_fill last s none = refl
  children_well_fill last s (child k c t ks) =
      let d = with_comma (needs_comma k t (not (is_none ks)) last) c in
      let p = piece_fill s k c d t in
      let q = ending_fill k c t (not (is_none ks)) last in
      let i = keeps_fill k t in
      let u = well_fill t in
      let v : children_well (after (fill_piece k)) (fill_children last ks) ≡ children_well (after k) ks =
      ap (λ x. children_well x (fill_children last ks)) (leads_to k) ∙ children_well_fill last (after k) ks in
      cc

mutual
  pub plainly_fill : (t : Tree) → plainly_attributed (fill t) ≡ plainly_attributed t
  plainly_fill (leaf k) = refl
  plainly_fill (paren m t) = plainly_fill t
  plainly_fill (attributed a more t) = let x = operation_fill t in let y = plainly_fill t in cc
  plainly_fill (prefixed k gs t) = let x = plainly_fill_children false gs in let y = plainly_fill t in cc
  plainly_fill (infixed x k y) = let u = plainly_fill x in let v = plainly_fill y in cc
  plainly_fill (postfixed x k) = plainly_fill x
  plainly_fill (tail b k ks) = let u = plainly_fill b in let v = plainly_fill_children false ks in cc
  plainly_fill (frame k ks) = plainly_fill_children (needs_last_comma k ks) ks

  pub plainly_fill_children : (last : Bool) (ks : Children) → children_plainly (fill_children last ks) ≡ children_plainly ks
  plainly_fill_children last none = refl
  plainly_fill_children last (child k c t ks) = let u = plainly_fill t in let v = plainly_fill_children last ks in cc

-- ---- the marks

pub block_clear : (t : Tree) → is_block_like (clear t) ≡ is_block_like t
block_clear (leaf k) = refl
block_clear (attributed a more t) = block_clear t
block_clear _ = refl

none_clear : (ks : Children) → is_none (clear_children ks) ≡ is_none ks
none_clear none = refl
none_clear (child k c t ks) = refl

one_clear : (ks : Children) → is_one (clear_children ks) ≡ is_one ks
one_clear none = refl
one_clear (child k c t ks) = none_clear ks

last_clear : (k : Frame) (ks : Children) → needs_last_comma k (clear_children ks) ≡ needs_last_comma k ks
last_clear e.tuple ks = one_clear ks
last_clear (e.structure q p d) ks = refl
last_clear _ ks = refl

needs_clear : (k : Piece) (t : Tree) (more last : Bool) → needs_comma k (clear t) more last ≡ needs_comma k t more last
needs_clear e.guarded t more last = ap (λ b. more && not b) (block_clear t)
needs_clear (e.arm ats p) t more last = ap (λ b. more && not b) (block_clear t)
needs_clear _ t more last = refl

mutual
  pub fill_clear : (t : Tree) → fill (clear t) ≡ clear (fill t)
  fill_clear (leaf k) = refl
  fill_clear (paren m t) = ap (paren false) (fill_clear t)
  fill_clear (attributed a more t) = ap (attributed a more) (fill_clear t)
  fill_clear (prefixed k gs t) = let x = fill_clear_children false gs in let y = fill_clear t in cc
  fill_clear (infixed x k y) = let u = fill_clear x in let v = fill_clear y in cc
  fill_clear (postfixed x k) = ap (λ u. postfixed u k) (fill_clear x)
  fill_clear (tail b k ks) = let u = fill_clear b in let v = fill_clear_children false ks in cc
  fill_clear (frame k ks) =
      ap (λ b. frame k (fill_children b (clear_children ks))) (last_clear k ks) ∙ ap (frame k) (fill_clear_children (needs_last_comma k ks) ks)

  pub fill_clear_children : (last : Bool) (ks : Children) → fill_children last (clear_children ks) ≡ clear_children (fill_children last ks)
  fill_clear_children last none = refl
  fill_clear_children last (child k c t ks) =
      let n : needs_comma k (clear t) (not (is_none (clear_children ks))) last ≡ needs_comma k t (not (is_none ks)) last =
      ap (λ b. needs_comma k (clear t) (not b) last) (none_clear ks) ∙ needs_clear k t (not (is_none ks)) last in
      let u = fill_clear t in
      let v = fill_clear_children last ks in
      cc
