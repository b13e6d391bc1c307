-- The printed tree obeys the binding rules.
use Rattle.std.proofs.Common.{◌≡◌, Bool, true, false, ◌&&◌, ◌||◌, not, refl, sym, ◌∙◌, ap, subst}
use Rattle.std.specs.Prelude.{if◌then◌else◌}
use Rattle.std.proofs.Math.Bool.{and-false, or-false}
use Rattle.std.proofs.lemmas.Bool.{or_parts, and_parts, or_from, not-false}
use Rattle.syn_expr_spec.specs.declared.kinds.Infix.{Infix}
use Rattle.syn_expr_spec.specs.declared.kinds.Precedence.{Precedence}
use Rattle.syn_expr_spec.specs.declared.kinds.Precedence.TheVariants as lev
use Rattle.syn_expr_spec.specs.declared.next.Next.TheVariants as next
use Rattle.syn_expr_spec.specs.declared.next.Context.{Context}
use Rattle.syn_expr_spec.specs.Place.{takes}
use Rattle.syn_expr_spec.specs.Op.{level, is_comparison}
use Rattle.syn_expr_spec.specs.Next.{class_of, takes_next, trails, enclosed, in_statement, left_context, base_context, right_context, attributed_context, prefix_context, prefix_level, piece_context}
use Rattle.syn_expr_spec.specs.Stands.{is_base}
use Rattle.syn_expr_spec.specs.Tree as e
use Rattle.syn_expr_spec.specs.Tree.{Tree, Children, Prefix, Piece, Trailer, leaf, paren, attributed, prefixed, infixed, postfixed, tail, frame, none, child, postfix_op, is_silent, needs_last_comma, plain_block, own_tokens}
use Rattle.syn_expr_spec.specs.Rule.{is_operation, refuses, misplaced, self_wrapped, ends_badly, is_bare_break, left_wrapped, place_wrapped, low, bad, labelled, place_asks, left_asks, base_asks, put, is_chainable, chained_bare, is_plain_block, piece_put, bare, bare_children}
use Rattle.syn_expr_spec.specs.Slot.{Slot, after}
use Rattle.syn_expr_spec.specs.WellFormed.{trailer_slot, frame_slot, keeps_block, is_verbatim_block}
use Rattle.syn_expr_spec.proofs.Bools.{takes_lower}
use Rattle.syn_expr_spec.proofs.Formed.{Formed, FormedChildren}
use Rattle.syn_expr_spec.proofs.Obeys.{Fits, FitsLeft, begins_label, Obeys, ObeysChildren}
use Rattle.syn_expr_spec.proofs.Edges.{compares_bare, range_bare, operation_bare, carrier_bare, base_bare, base_paren, label_bare, prefix_next_is, bad_end, low_some, low_closed, carrier_closed, self_enclosed, misplaced_kind}

-- Wherever its edges allow it, the tree obeys the rules as printed, left bare.
abbrev pub Good : Tree → Type 0
Good t = (v : Precedence) (c : Context) → takes v (low t) ≡ true → bad t c.next ≡ false → self_wrapped c t ≡ false → Obeys v c (bare c t)

pub obeys_enclosed : (t : Tree) → Good t → Obeys lev.Jump enclosed (bare enclosed t)
obeys_enclosed t g = g lev.Jump enclosed (low_some t) (bad_end t) (self_enclosed t)

-- in a pair of parentheses
pub obeys_paren : (t : Tree) → Good t → Obeys lev.Jump enclosed (bare enclosed t) × Fits lev.Jump (bare enclosed t) next.End
obeys_paren t g = (obeys_enclosed t g, record { no_operator = refl; no_trailer = refl })

-- the pair that is added round a node for what it is comes before what the node could come before
wrapped_fits : (v : Precedence) (t : Tree) (c : Context) (a m x : Bool) → Formed t → misplaced c t ≡ m → (a || m) || x ≡ true
    → ends_badly v t c.next (a || x) ≡ false → Fits v (paren true (bare enclosed t)) c.next
wrapped_fits v t c true m x f q h e = let p = or_parts _ _ e in record { no_operator = p.0; no_trailer = p.1 }
wrapped_fits v t c false m true f q h e = let p = or_parts _ _ e in record { no_operator = p.0; no_trailer = p.1 }
wrapped_fits v t c false true false f q h e =
    let p = or_parts _ _ e in
    let k = misplaced_kind c t q in
    record { no_operator = ap (λ x. takes_next v c.next && not x) (sym k.no_range) ∙ p.0; no_trailer = ap (λ x. trails c.next && x) (sym k.carrier) ∙ p.1 }
wrapped_fits v t c false false false f q h e = absurd cc

-- at a place of its own; x: for another reason
at_place : (v : Precedence) (t : Tree) (c : Context) (x w : Bool) → Formed t → Good t → place_asks v c t || x ≡ w
    → ends_badly v t c.next (place_wrapped v t c.next (low t) (bad t c.next) || x) ≡ false
    → Obeys v c (put w (bare enclosed t) (bare c t)) × Fits v (put w (bare enclosed t) (bare c t)) c.next
at_place v t c x true f g h e = (obeys_paren t g, wrapped_fits v t c _ (misplaced c t) x f refl h e)
at_place v t c x false f g h e =
    let o = or_parts _ _ h in
    let p = or_parts _ _ o.0 in
    let q = or_parts _ _ p.0 in
    let s = or_parts _ _ q.1 in
    let r = or_parts _ _ (ap (ends_badly v t c.next) (sym (or_from _ _ p.0 o.1)) ∙ e) in (
      g v c (not-false _ q.0) s.0 (or_from _ _ s.1 p.1),
      record {
        no_operator = ap (λ x. takes_next v c.next && not x) (range_bare c t) ∙ r.0;
        no_trailer = ap (λ x. trails c.next && x) (carrier_bare c t) ∙ r.1;
      },
    )

no_label : (k : Prefix) (c : Context) (t : Tree) (w a : Bool) → a || (is_bare_break k && labelled t) ≡ w
    → is_bare_break k && begins_label (put w (bare enclosed t) (bare c t)) ≡ false
no_label k c t true a h = and-false (is_bare_break k)
no_label k c t false a h = go (is_bare_break k) (or_parts _ _ h).1
  where
    go : (b : Bool) → b && labelled t ≡ false → b && begins_label (bare c t) ≡ false
    go true h = label_bare c t h
    go false h = refl

at_left : (v : Precedence) (k : Infix) (x : Tree) (c : Context) (w : Bool) → Good x → left_asks k c x ≡ w → c.next ≡ class_of k
    → takes v (if left_wrapped k x (bad x (class_of k)) then lev.Unambiguous else low x) ≡ true
    → Obeys v c (put w (bare enclosed x) (bare c x)) × FitsLeft k (put w (bare enclosed x) (bare c x))
at_left v k x c true g h n e = (obeys_paren x g, record { no_range = refl; no_chain = refl })
at_left v k x c false g h n e =
    let p = or_parts _ _ h in
    let q = or_parts _ _ p.0 in
    let r = or_parts _ _ q.1 in
    let s = or_parts _ _ r.1 in
    let l : left_wrapped k x (bad x (class_of k)) ≡ false = subst (λ m. left_wrapped k x (bad x m) ≡ false) n p.0 in
    let edge : takes v (low x) ≡ true = subst (λ b. takes v (if b then lev.Unambiguous else low x) ≡ true) l e in (
      g v c edge s.0 (or_from _ _ (ap (refuses x) n ∙ s.1) p.1),
      record { no_range = range_bare c x ∙ q.0; no_chain = ap (λ b. b && is_comparison k) (compares_bare c x) ∙ r.0 },
    )

at_base : (v : Precedence) (k : Trailer) (b : Tree) (c : Context) (w : Bool) → Good b → base_asks k (base_context k c) b ≡ w → takes v lev.Unambiguous ≡ true
    → (is_base k (put w (bare enclosed b) (bare (base_context k c) b)) ≡ true) × Obeys v (base_context k c) (put w (bare enclosed b) (bare (base_context k c) b))
at_base v k b c true g h e = (base_paren k true (bare enclosed b), obeys_paren b g)
at_base v k b c false g h e =
    let p = or_parts _ _ h in
    let q = or_parts _ _ p.0 in
    let r = or_parts _ _ q.1 in
    let i = not-false _ q.0 in
    (base_bare k (base_context k c) b ∙ i, g v (base_context k c) (rw (low_closed b (carrier_closed b (and_parts _ _ i).0)) e) r.0 (or_from _ _ r.1 p.1))

behind_attributes : (v : Precedence) (t : Tree) (c : Context) (w : Bool) → Good t → is_operation t ≡ w → takes v lev.Unambiguous ≡ true
    → not w && bad t c.next ≡ false → (not w && refuses t c.next) || (not w && misplaced (attributed_context c) t) ≡ false
    → (is_operation (put w (bare enclosed t) (bare (attributed_context c) t)) ≡ false) × Obeys v (attributed_context c) (put w (bare enclosed t) (bare (attributed_context c) t))
behind_attributes v t c true g i h e f = (refl, obeys_paren t g)
behind_attributes v t c false g i h e f =
    (operation_bare (attributed_context c) t i, g v (attributed_context c) (rw (low_closed t (or_parts _ _ i).0) h) e f)

-- ---- operands of frames and trailers

at_child : (t : Tree) (c : Context) (w : Bool) → Good t → place_asks lev.Jump c t ≡ w → Obeys lev.Jump c (put w (bare enclosed t) (bare c t))
at_child t c true g h = obeys_paren t g
at_child t c false g h =
    let p = or_parts _ _ h in
    let q = or_parts _ _ p.0 in
    let s = or_parts _ _ q.1 in
    g lev.Jump c (not-false _ q.0) s.0 (or_from _ _ s.1 p.1)

chained_obeys : (x : Tree) → Obeys lev.Jump enclosed x → Obeys lev.Jump enclosed (chained_bare x)
chained_obeys (attributed a more (frame k ks)) h = h.1
chained_obeys (attributed a more (leaf k)) h = h
chained_obeys _ h = h

or_block : (w : Bool) (x s : Tree) → Obeys lev.Jump enclosed x → Obeys lev.Jump enclosed (if w then x else plain_block (own_tokens s))
or_block true x s h = h
or_block false x s h = refl

child_obeys : (k : Piece) (t : Tree) → Good t → is_silent k ≡ false
    → Obeys lev.Jump (piece_context k) (piece_put k t (bare enclosed t) (bare (piece_context k) t)
    (put (place_asks lev.Jump in_statement t) (bare enclosed t) (bare in_statement t)) (place_asks lev.Jump (piece_context k) t))
child_obeys (e.field_value ats m c) t g s = rw s (at_child t enclosed _ g refl)
child_obeys e.condition t g s = at_child t (piece_context e.condition) _ g refl
child_obeys e.loop_head t g s = at_child t (piece_context e.loop_head) _ g refl
child_obeys e.scrutinee t g s = at_child t (piece_context e.scrutinee) _ g refl
child_obeys e.chained t g s =
    or_block (is_chainable t) (chained_bare (bare enclosed t)) (put (place_asks lev.Jump in_statement t) (bare enclosed t) (bare in_statement t))
    (chained_obeys (bare enclosed t) (obeys_enclosed t g))
child_obeys e.guarded t g s = at_child t (piece_context e.guarded) _ g refl
child_obeys (e.arm ats p) t g s = at_child t (piece_context (e.arm ats p)) _ g refl
child_obeys e.output_block t g s =
    or_block (is_plain_block t) (bare enclosed t) (put (place_asks lev.Jump in_statement t) (bare enclosed t) (bare in_statement t)) (obeys_enclosed t g)
child_obeys e.stray t g s = absurd cc
child_obeys _ t g s = at_child t enclosed _ g refl

pub not_verbatim : (k : Piece) (t : Tree) → is_verbatim_block t ≡ false → keeps_block k t ≡ false
not_verbatim e.element t h = refl
not_verbatim e.chained t h = h
not_verbatim e.output_block t h = h
not_verbatim _ t h = refl

child_good : (k : Piece) (t : Tree) → (keeps_block k t ≡ false → Good t) → Good t
child_good k (leaf j) g = λ v c h e s. s
child_good k d g = g (not_verbatim k d refl)

prefix_ends : (k : Prefix) (t : Tree) (c : Context) → bad (prefixed k e.none t) c.next ≡ false
    → ends_badly (prefix_level k) t (prefix_context k c).next
    (place_wrapped (prefix_level k) t (prefix_context k c).next (low t) (bad t (prefix_context k c).next) || (is_bare_break k && labelled t)) ≡ false
prefix_ends k t c h = rw (prefix_next_is k c) h

mutual
  pub good : (t : Tree) → Formed t → Good t
  good (leaf k) f v c h e s = s
  good (paren m t) f v c h e s = obeys_paren t (good t f)
  good (attributed a more t) f v c h e s =
      let p = behind_attributes v t c _ (good t f.2) refl h e s in (p.0, p.1)
  good (prefixed k gs t) f v c h e s =
      let p = at_place (prefix_level k) t (prefix_context k c) (is_bare_break k && labelled t) _ f.2 (good t f.2) refl (prefix_ends k t c e) in
      (s, p.0, p.1, no_label k (prefix_context k c) t _ _ refl)
  good (infixed x k y) f v c h e s =
      let l = takes_lower v (level k) _ h in
      let p = at_left v k x (left_context k c) _ (good x f.1) refl refl l.1 in
      let q = at_place (level k) y (right_context k c) false _ f.2 (good y f.2) (or-false _) (rw (or-false (place_wrapped (level k) y c.next (low y) (bad y c.next))) e) in
      (l.0, p.0, p.1, q.0, q.1)
  good (postfixed x k) f v c h e s =
      let l = takes_lower v (level (postfix_op k)) _ h in
      let p = at_left v (postfix_op k) x (left_context (postfix_op k) c) _ (good x f.1) refl refl l.1 in
      (l.0, p.0, p.1, (or_parts _ _ s).0)
  good (tail b k ks) f v c h e s = let p = at_base v k b c _ (good b f.1) refl h in (p.0, p.1, good_children ks (trailer_slot k) false f.2)
  good (frame k ks) f v c h e s = (s, good_children ks (frame_slot k) (needs_last_comma k ks) f.1)

  pub good_children : (ks : Children) (s : Slot) (last : Bool) → FormedChildren s last ks → ObeysChildren (bare_children ks)
  good_children none s last f = tt
  good_children (child k c t ks) s last f = (λ e. child_obeys k t (child_good k t (λ b. good t (f.1 b))) e, good_children ks (after k) last f.2)

-- in each position
pub printed_good : (t : Tree) (c : Context) → Formed t → Obeys lev.Jump c (put (place_asks lev.Jump c t) (bare enclosed t) (bare c t))
printed_good t c f = at_child t c _ (good t f) refl
