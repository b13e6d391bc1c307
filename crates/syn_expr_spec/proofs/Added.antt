-- Without its added pairs a printed tree is the tree that was printed, with its fill-ins.
use Rattle.std.specs.Prelude.{not, ◌&&◌, ◌||◌, if◌then◌else◌}
use Rattle.std.proofs.Common.{◌≡◌, Bool, true, false, ◌∷◌, refl, ◌∙◌, ap}
use Rattle.std.proofs.lemmas.Bool.{and_parts}
use Rattle.syn_lower_spec.specs.Pat.{MemberTree, a_name}
use Rattle.syn_lower_spec.specs.PatFits.{attributes_outer, member_fits}
use Rattle.syn_expr_spec.specs.declared.next.Context.{Context}
use Rattle.syn_expr_spec.specs.declared.kinds.Precedence.TheVariants as lev
use Rattle.syn_expr_spec.specs.declared.kinds.Infix.{Infix}
use Rattle.syn_expr_spec.specs.Op.{level}
use Rattle.syn_expr_spec.specs.Next.{enclosed, in_statement, prefix_context, left_context, right_context, base_context, attributed_context, piece_context}
use Rattle.syn_expr_spec.specs.Tree as e
use Rattle.syn_expr_spec.specs.Tree.{Tree, Children, Prefix, Trailer, Piece, Ending, leaf, paren, attributed, prefixed, infixed, postfixed, tail, frame, none, child, is_none, fill, clear, clear_children, prepend, flatten, flatten_children, postfix_op, is_silent}
use Rattle.syn_expr_spec.specs.Slot as s
use Rattle.syn_expr_spec.specs.Slot.{Slot, after}
use Rattle.syn_expr_spec.specs.Stands.{is_attributed, takes_block}
use Rattle.syn_expr_spec.specs.Rule.{is_operation, put, piece_put, prefix_asks, left_asks, base_asks, place_asks, bare, bare_children, printed}
use Rattle.syn_expr_spec.specs.Minimal.{without_added, children_without_added}
use Rattle.syn_expr_spec.specs.Printed.{context_of, PairsAreAdded}
use Rattle.syn_expr_spec.specs.WellFormed.{is_verbatim_block, is_name_path, infix_fits, postfix_fits, prefix_fits, frame_fits, trailer_fits, trailer_slot, frame_slot, piece_fits, ending_fits, keeps_block, well, children_well, is_well_formed}
use Rattle.syn_expr_spec.proofs.Flat.{left_of, right_of}
use Rattle.syn_expr_spec.proofs.FillIns.{well_fill}
use Rattle.syn_expr_spec.proofs.Same.{put_fits, fits_put, verbatim_stays, piece_puts, verbatim_or}

-- ---- nodes of equal parts

same_prefix : (k : Prefix) {gs hs : Children} {t u : Tree} → gs ≡ hs → t ≡ u → prefixed k gs t ≡ prefixed k hs u
same_prefix k p q = cc

same_infix : (k : Infix) {x u y v : Tree} → x ≡ u → y ≡ v → infixed x k y ≡ infixed u k v
same_infix k p q = cc

same_tail : (k : Trailer) {b u : Tree} {ks us : Children} → b ≡ u → ks ≡ us → tail b k ks ≡ tail u k us
same_tail k p q = cc

same_child : (k : Piece) (c : Ending) {t u : Tree} {ks us : Children} → t ≡ u → ks ≡ us → child k c t ks ≡ child k c u us
same_child k c p q = cc

-- ---- operands

put_without : (w : Bool) (a b t : Tree) → without_added a ≡ clear t → without_added b ≡ clear t → without_added (put w a b) ≡ clear t
put_without true a b t p q = p
put_without false a b t p q = q

block_without : (t : Tree) → is_verbatim_block t ≡ true → without_added t ≡ clear t
block_without (leaf k) h = refl
block_without t h = absurd cc

no_guards : (gs : Children) → is_none gs ≡ true → gs ≡ clear_children gs
no_guards none h = refl
no_guards (child k c t ks) h = absurd cc

name_without : (m : MemberTree) (t : Tree) → is_name_path m t ≡ true → without_added t ≡ clear t
name_without (a_name w) (leaf k) h = refl
name_without m t h = absurd cc

-- an operand that isn't spelled is the name of its field
silent_without : (x : Slot) (k : Piece) (c : Ending) (t : Tree) → piece_fits x k c t ≡ true → is_silent k ≡ true → without_added t ≡ clear t
silent_without s.fields (e.field_value ats m false) c t h g = name_without m t (and_parts (member_fits m) _ (and_parts (attributes_outer ats) _ h).1).1
silent_without s.fields (e.field_value ats m true) c t h g = absurd cc
silent_without s.fields (e.rest d) c t h g = absurd cc
silent_without s.elements e.element c t h g = absurd cc
silent_without s.single e.value c t h g = absurd cc
silent_without s.counted e.repeated c t h g = absurd cc
silent_without s.conditions e.condition c t h g = absurd cc
silent_without s.otherwise e.chained c t h g = absurd cc
silent_without s.loops e.loop_head c t h g = absurd cc
silent_without s.scrutinees e.scrutinee c t h g = absurd cc
silent_without s.arms (e.guard ats p) c t h g = absurd cc
silent_without s.arms (e.arm ats p) c t h g = absurd cc
silent_without s.bodies e.guarded c t h g = absurd cc
silent_without s.outputs e.output_block c t h g = absurd cc
silent_without x k c t h g = absurd cc

piece_without : (k : Piece) (c : Context) (t a st : Tree) (asks : Bool) → put_fits k t ≡ true → (is_silent k ≡ true → without_added t ≡ clear t)
    → without_added a ≡ clear t → without_added (bare c t) ≡ clear t → without_added (piece_put k t a (bare c t) st asks) ≡ clear t
piece_without k c t a st asks h silent p q = ap without_added (piece_puts k c t a st asks h) ∙ by (takes_block k) (is_silent k) silent
  where
    by : (x y : Bool) → (y ≡ true → without_added t ≡ clear t) → without_added (if x then bare c t else (if y then t else put asks a (bare c t))) ≡ clear t
    by true y f = q
    by false true f = f refl
    by false false f = put_without asks a (bare c t) t p q

-- ---- the printed tree

mutual
  bare_without : (t : Tree) (c : Context) → well t ≡ true → without_added (bare c t) ≡ clear t
  bare_without (leaf k) c h = refl
  bare_without (paren m t) c h = ap (paren false) (bare_without t enclosed h)
  bare_without (attributed a more t) c h =
      let w = right_of (not (is_attributed t)) _ (right_of (attributes_outer (a ∷ more)) _ h) in
      ap (attributed a more) (put_without (is_operation t) _ _ t (bare_without t enclosed w) (bare_without t (attributed_context c) w))
  bare_without (prefixed k gs t) c h =
      let g = right_of (prefix_fits k) _ h in
      let w = right_of (is_none gs) _ g in
      same_prefix k (no_guards gs (left_of (is_none gs) _ g))
      (put_without (prefix_asks k (prefix_context k c) t) _ _ t (bare_without t enclosed w) (bare_without t (prefix_context k c) w))
  bare_without (infixed x k y) c h =
      let w = right_of (infix_fits k) _ h in
      let u = put_without (left_asks k (left_context k c) x) _ _ x (bare_without x enclosed (left_of _ _ w)) (bare_without x (left_context k c) (left_of _ _ w)) in
      let v = put_without (place_asks (level k) (right_context k c) y) _ _ y (bare_without y enclosed (right_of (well x) _ w)) (bare_without y (right_context k c) (right_of (well x) _ w)) in
      same_infix k u v
  bare_without (postfixed x k) c h =
      let w = right_of (postfix_fits k) _ h in
      ap (λ u. postfixed u k) (put_without (left_asks (postfix_op k) (left_context (postfix_op k) c) x) _ _ x (bare_without x enclosed w) (bare_without x (left_context (postfix_op k) c) w))
  bare_without (tail b k ks) c h =
      let w = right_of (trailer_fits k) _ h in
      let u = put_without (base_asks k (base_context k c) b) _ _ b (bare_without b enclosed (left_of _ _ w)) (bare_without b (base_context k c) (left_of _ _ w)) in
      let v = children_without ks (trailer_slot k) (right_of (well b) _ w) in
      same_tail k u v
  bare_without (frame k ks) c h = ap (frame k) (children_without ks (frame_slot k) (right_of (frame_fits k ks) _ h))

  children_without : (ks : Children) (x : Slot) → children_well x ks ≡ true → children_without_added (bare_children ks) ≡ clear_children ks
  children_without none x h = refl
  children_without (child k c t ks) x h =
      let i = left_of (piece_fits x k c t) _ (left_of (piece_fits x k c t && ending_fits k c) _ h) in
      let w = right_of (piece_fits x k c t && ending_fits k c) _ h in
      let t' : (d : Context) → without_added (bare d t) ≡ clear t =
      λ d. verbatim_or k t (left_of (keeps_block k t || well t) _ w) (λ g. let e = verbatim_stays d t g in ap without_added e.1 ∙ block_without t g) (λ g. bare_without t d g) in
      let u = piece_without k (piece_context k) t (bare enclosed t) (put (place_asks lev.Jump in_statement t) (bare enclosed t) (bare in_statement t)) (place_asks lev.Jump (piece_context k) t)
      (fits_put x k c t i) (silent_without x k c t i) (t' enclosed) (t' (piece_context k)) in
      let v = children_without ks (after k) (right_of (keeps_block k t || well t) _ w) in
      same_child k c u v

printed_without : (c : Context) (t : Tree) → is_well_formed t ≡ true → without_added (printed c t) ≡ clear (fill t)
unfolding is_well_formed
printed_without c t h =
    let w = well_fill t ∙ h in
    put_without (place_asks lev.Jump c (fill t)) _ _ (fill t) (bare_without (fill t) enclosed w) (bare_without (fill t) c w)

pub pairs_are_added : PairsAreAdded
pairs_are_added s t h = printed_without (context_of s) t h

-- ---- it is the same tree, then

mutual
  flatten_without : (t : Tree) → flatten (without_added t) ≡ flatten t
  flatten_without (leaf k) = refl
  flatten_without (paren true t) = flatten_without t
  flatten_without (paren false t) = flatten_without t
  flatten_without (attributed a more t) = ap (prepend (a ∷ more)) (flatten_without t)
  flatten_without (prefixed k gs t) = ap (prefixed k (flatten_children gs)) (flatten_without t)
  flatten_without (infixed x k y) = same_infix k (flatten_without x) (flatten_without y)
  flatten_without (postfixed x k) = ap (λ u. postfixed u k) (flatten_without x)
  flatten_without (tail b k ks) = same_tail k (flatten_without b) (flatten_without_children ks)
  flatten_without (frame k ks) = ap (frame k) (flatten_without_children ks)

  flatten_without_children : (ks : Children) → flatten_children (children_without_added ks) ≡ flatten_children ks
  flatten_without_children none = refl
  flatten_without_children (child k c t ks) = same_child k c (flatten_without t) (flatten_without_children ks)
