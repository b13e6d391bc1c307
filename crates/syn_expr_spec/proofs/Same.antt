-- A printed tree is the same tree, and what is known of it: it is well-formed, and its fill-ins are there.
use Rattle.std.specs.Prelude.{not, ◌&&◌, ◌||◌, if◌then◌else◌}
use Rattle.std.proofs.Common.{◌≡◌, Bool, true, false, ◌∷◌, refl, ◌∙◌, ap}
use Rattle.syn_lower_spec.specs.PatFits.{attributes_outer}
use Rattle.syn_expr_spec.specs.declared.next.Context.{Context}
use Rattle.syn_expr_spec.specs.declared.kinds.Precedence.TheVariants as lev
use Rattle.syn_expr_spec.specs.declared.kinds.Infix.{Infix}
use Rattle.syn_expr_spec.specs.Op.{level}
use Rattle.syn_expr_spec.specs.Next.{enclosed, in_statement, prefix_context, left_context, right_context, base_context, attributed_context, piece_context}
use Rattle.syn_expr_spec.specs.Tree as e
use Rattle.syn_expr_spec.specs.Tree.{Tree, Children, Trailer, Piece, Ending, leaf, paren, attributed, prefixed, infixed, postfixed, tail, frame, none, child, is_none, fill, prepend, flatten, flatten_children, postfix_op, is_silent}
use Rattle.syn_expr_spec.specs.Slot.{Slot, otherwise, outputs, after}
use Rattle.syn_expr_spec.specs.Stands.{is_attributed, is_if_expr, takes_block}
use Rattle.syn_expr_spec.specs.Rule.{is_operation, is_chainable, is_plain_block, chained_bare, put, piece_put, prefix_asks, left_asks, base_asks, place_asks, bare, bare_children}
use Rattle.syn_expr_spec.specs.WellFormed.{is_verbatim_block, infix_fits, postfix_fits, prefix_fits, frame_fits, trailer_fits, trailer_slot, frame_slot, piece_fits, ending_fits, keeps_block, well, children_well, is_well_formed}
use Rattle.syn_expr_spec.specs.Same.{PrintedIsSame}
use Rattle.syn_expr_spec.proofs.Flat.{left_of, right_of}
use Rattle.syn_expr_spec.proofs.FillIns.{well_fill}

-- after `else` stands an `if` or a block, and after a closure's output a block
abbrev pub put_fits : Piece → Tree → Bool
put_fits e.chained t = is_if_expr t || is_verbatim_block t
put_fits e.output_block t = is_verbatim_block t
put_fits _ t = true

pub fits_put : (s : Slot) (k : Piece) (c : Ending) (t : Tree) → piece_fits s k c t ≡ true → put_fits k t ≡ true
fits_put otherwise e.chained c t h = h
fits_put outputs e.output_block c t h = h
fits_put _ e.chained c t h = cc
fits_put _ e.output_block c t h = cc
fits_put _ _ c t h = refl

pub chained_stays : (c : Context) (t : Tree) → (is_if_expr t || is_verbatim_block t) ≡ true → (is_chainable t ≡ true) × (chained_bare (bare c t) ≡ bare c t)
chained_stays c (leaf (e.block label b)) h = (refl, refl)
chained_stays c (frame e.if_expr ks) h = (refl, refl)
chained_stays c _ h = cc

pub verbatim_stays : (c : Context) (t : Tree) → is_verbatim_block t ≡ true → (is_plain_block t ≡ true) × (bare c t ≡ t)
verbatim_stays c (leaf (e.block label b)) h = (h, refl)
verbatim_stays c _ h = cc

pub flatten_put : (w : Bool) (a b t : Tree) → flatten a ≡ flatten t → flatten b ≡ flatten t → flatten (put w a b) ≡ flatten t
flatten_put true a b t p q = p
flatten_put false a b t p q = q

-- what is put for an operand of a well-formed tree
pub piece_puts : (k : Piece) (c : Context) (t a st : Tree) (asks : Bool) → put_fits k t ≡ true
    → piece_put k t a (bare c t) st asks ≡ (if takes_block k then bare c t else (if is_silent k then t else put asks a (bare c t)))
piece_puts e.chained c t a st asks h = let g = chained_stays c t h in rw (g.0, g.1) refl
piece_puts e.output_block c t a st asks h = let g = verbatim_stays c t h in rw g.0 refl
piece_puts _ c t a st asks h = refl

-- ---- the same tree

flatten_piece : (k : Piece) (c : Context) (t a st : Tree) (asks : Bool) → put_fits k t ≡ true → flatten a ≡ flatten t → flatten (bare c t) ≡ flatten t
    → flatten (piece_put k t a (bare c t) st asks) ≡ flatten t
flatten_piece k c t a st asks h p q = ap flatten (piece_puts k c t a st asks h) ∙ by (takes_block k) (is_silent k)
  where
    by : (x y : Bool) → flatten (if x then bare c t else (if y then t else put asks a (bare c t))) ≡ flatten t
    by true y = q
    by false true = refl
    by false false = flatten_put asks a (bare c t) t p q

if_kept : {A : Type 0} (a b : Bool) → (a || b) ≡ true → (a ≡ true → A) → (b ≡ true → A) → A
if_kept true b h f g = f refl
if_kept false b h f g = g h

-- an operand that keeps its tokens, or is well-formed
pub verbatim_or : {A : Type 0} (k : Piece) (t : Tree) → (keeps_block k t || well t) ≡ true → (is_verbatim_block t ≡ true → A) → (well t ≡ true → A) → A
verbatim_or e.chained t h f g = if_kept (is_verbatim_block t) (well t) h f g
verbatim_or e.output_block t h f g = if_kept (is_verbatim_block t) (well t) h f g
verbatim_or _ t h f g = g h

infix_same : (k : Infix) {x u y v : Tree} → x ≡ u → y ≡ v → infixed x k y ≡ infixed u k v
infix_same k p q = cc

tail_same : (k : Trailer) {b u : Tree} {ks us : Children} → b ≡ u → ks ≡ us → tail b k ks ≡ tail u k us
tail_same k p q = cc

child_same : (k : Piece) (c : Ending) {t u : Tree} {ks us : Children} → t ≡ u → ks ≡ us → child k c t ks ≡ child k c u us
child_same k c p q = cc

mutual
  pub flatten_bare : (t : Tree) (c : Context) → well t ≡ true → flatten (bare c t) ≡ flatten t
  flatten_bare (leaf k) c h = refl
  flatten_bare (paren m t) c h = flatten_bare t enclosed h
  flatten_bare (attributed a more t) c h =
      let w = right_of (not (is_attributed t)) _ (right_of (attributes_outer (a ∷ more)) _ h) in
      ap (prepend (a ∷ more)) (flatten_put (is_operation t) _ _ t (flatten_bare t enclosed w) (flatten_bare t (attributed_context c) w))
  flatten_bare (prefixed k gs t) c h =
      let w = right_of (is_none gs) _ (right_of (prefix_fits k) _ h) in
      ap (prefixed k (flatten_children gs)) (flatten_put (prefix_asks k (prefix_context k c) t) _ _ t (flatten_bare t enclosed w) (flatten_bare t (prefix_context k c) w))
  flatten_bare (infixed x k y) c h =
      let w = right_of (infix_fits k) _ h in
      let u = flatten_put (left_asks k (left_context k c) x) _ _ x (flatten_bare x enclosed (left_of _ _ w)) (flatten_bare x (left_context k c) (left_of _ _ w)) in
      let v = flatten_put (place_asks (level k) (right_context k c) y) _ _ y (flatten_bare y enclosed (right_of (well x) _ w)) (flatten_bare y (right_context k c) (right_of (well x) _ w)) in
      infix_same k u v
  flatten_bare (postfixed x k) c h =
      let w = right_of (postfix_fits k) _ h in
      ap (λ u. postfixed u k) (flatten_put (left_asks (postfix_op k) (left_context (postfix_op k) c) x) _ _ x (flatten_bare x enclosed w) (flatten_bare x (left_context (postfix_op k) c) w))
  flatten_bare (tail b k ks) c h =
      let w = right_of (trailer_fits k) _ h in
      let u = flatten_put (base_asks k (base_context k c) b) _ _ b (flatten_bare b enclosed (left_of _ _ w)) (flatten_bare b (base_context k c) (left_of _ _ w)) in
      let v = flatten_bare_children ks (trailer_slot k) (right_of (well b) _ w) in
      tail_same k u v
  flatten_bare (frame k ks) c h = ap (frame k) (flatten_bare_children ks (frame_slot k) (right_of (frame_fits k ks) _ h))

  pub flatten_bare_children : (ks : Children) (s : Slot) → children_well s ks ≡ true → flatten_children (bare_children ks) ≡ flatten_children ks
  flatten_bare_children none s h = refl
  flatten_bare_children (child k c t ks) s h =
      let i = left_of (piece_fits s k c t) _ (left_of (piece_fits s k c t && ending_fits k c) _ h) in
      let w = right_of (piece_fits s k c t && ending_fits k c) _ h in
      let t' : (x : Context) → flatten (bare x t) ≡ flatten t =
      λ x. verbatim_or k t (left_of (keeps_block k t || well t) _ w) (λ g. let e = verbatim_stays x t g in ap flatten e.1) (λ g. flatten_bare t x g) in
      let u = flatten_piece k (piece_context k) t (bare enclosed t) (put (place_asks lev.Jump in_statement t) (bare enclosed t) (bare in_statement t)) (place_asks lev.Jump (piece_context k) t)
      (fits_put s k c t i) (t' enclosed) (t' (piece_context k)) in
      let v = flatten_bare_children ks (after k) (right_of (keeps_block k t || well t) _ w) in
      child_same k c u v

pub printed_is_same : PrintedIsSame
unfolding is_well_formed
printed_is_same c t h =
    let w = well_fill t ∙ h in
    flatten_put (place_asks lev.Jump c (fill t)) _ _ (fill t) (flatten_bare (fill t) enclosed w) (flatten_bare (fill t) c w)
