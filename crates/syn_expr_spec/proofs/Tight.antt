-- What is printed for some context, and yet obeys the rules at this place, needs no pair here.
use Rattle.std.proofs.Common.{◌≡◌, Bool, true, false, not, ◌&&◌, ◌||◌, Some, None, refl, sym, ◌∙◌, ap, subst}
use Rattle.std.specs.Prelude.{if◌then◌else◌}
use Rattle.std.proofs.lemmas.Bool.{or_parts, or_from}
use Rattle.std.proofs.Math.Bool.{or-false}
use Rattle.syn_expr_spec.specs.declared.kinds.Precedence.{Precedence}
use Rattle.syn_expr_spec.specs.declared.kinds.Precedence.TheVariants as lev
use Rattle.syn_expr_spec.specs.declared.next.Next.{Next}
use Rattle.syn_expr_spec.specs.declared.next.Edge.{Edge}
use Rattle.syn_expr_spec.specs.declared.next.Edge.TheVariants as edge
use Rattle.syn_expr_spec.specs.declared.next.Context.{Context}
use Rattle.syn_expr_spec.specs.Place.{takes}
use Rattle.syn_expr_spec.specs.Op.{level}
use Rattle.syn_expr_spec.specs.Next.{class_of, next_of, takes_next, trails, enclosed, left_edge, base_edge, left_context, base_context, right_context, attributed_context, prefix_context, prefix_level}
use Rattle.syn_expr_spec.specs.Tree as e
use Rattle.syn_expr_spec.specs.Tree.{Tree, Leaf, Prefix, Trailer, Frame, leaf, paren, attributed, prefixed, infixed, postfixed, tail, frame, postfix_op}
use Rattle.syn_expr_spec.specs.Rule.{is_operation, refuses, misplaced, leaf_misplaced, frame_misplaced, is_below, lower, ends_badly, is_bare_break, left_wrapped, base_wrapped, place_wrapped, low, bad, labelled, leaf_labelled, frame_labelled, place_asks, prefix_asks, put, bare}
use Rattle.syn_expr_spec.proofs.Bools.{lower_takes}
use Rattle.syn_expr_spec.proofs.Obeys.{Fits, begins_label, Obeys}
use Rattle.syn_expr_spec.proofs.Edges.{range_bare, carrier_bare, prefix_next_is}
use Rattle.syn_expr_spec.proofs.Kept.{Tight, level_small, prefix_small, not_wrapped, ends_well}

-- ---- labels

-- below such an edge none is a head's
abbrev pub is_calm : Edge → Bool
is_calm edge.Free = true
is_calm edge.NoBrace = true
is_calm _ = false

calm_above : (x : Edge) → is_calm x ≡ true → is_below x ≡ false
calm_above edge.BelowArm h = absurd cc
calm_above edge.BelowStatement h = absurd cc
calm_above _ h = refl

calm_left : (x : Edge) → is_calm x ≡ true → is_calm (left_edge x) ≡ true
calm_left edge.Free h = refl
calm_left edge.NoBrace h = refl
calm_left _ h = absurd cc

calm_base : (k : Trailer) (x : Edge) → is_calm x ≡ true → is_calm (base_edge k x) ≡ true
calm_base e.call x h = calm_left x h
calm_base e.index x h = calm_left x h
calm_base (e.method w a) edge.Free h = refl
calm_base (e.method w a) edge.NoBrace h = refl
calm_base (e.method w a) edge.Arm h = absurd cc
calm_base (e.field m) edge.Free h = refl
calm_base (e.field m) edge.NoBrace h = refl
calm_base e.await edge.Free h = refl
calm_base e.await edge.NoBrace h = refl
calm_base e.try_expr edge.Free h = refl
calm_base e.try_expr edge.NoBrace h = refl
calm_base _ _ h = absurd cc

below_and : (a b : Bool) → a ≡ false → a && b ≡ true → ⊥
below_and a b p q = absurd (let r : false ≡ true = ap (λ x. x && b) (sym p) ∙ q in cc)

label_leaf : (c : Context) (k : Leaf) → is_below c.edge ≡ false → leaf_misplaced c k ≡ true → leaf_labelled k ≡ false
label_leaf c (e.block None b) n h = refl
label_leaf c (e.block (Some w) b) n h = absurd (below_and _ _ n h)
label_leaf c (e.loop_expr (Some w) b) n h = absurd (below_and _ _ n h)
label_leaf c _ n h = refl

label_frame : (c : Context) (k : Frame) → is_below c.edge ≡ false → frame_misplaced c k ≡ true → frame_labelled k ≡ false
label_frame c e.array n h = refl
label_frame c (e.while_loop (Some w)) n h = absurd (below_and _ _ n h)
label_frame c (e.for_loop (Some w) p) n h = absurd (below_and _ _ n h)
label_frame c _ n h = refl

label_misplaced : (c : Context) (t : Tree) → is_calm c.edge ≡ true → misplaced c t ≡ true → labelled t ≡ false
label_misplaced c (leaf k) n h = label_leaf c k (calm_above _ n) h
label_misplaced c (attributed a more t) n h = refl
label_misplaced c (prefixed k gs t) n h = refl
label_misplaced c (frame k ks) n h = label_frame c k (calm_above _ n) h
label_misplaced c _ n h = absurd cc

label_unput : (l m : Bool) (x a b : Tree) → (m ≡ true → labelled x ≡ false) → (begins_label b ≡ false → labelled x ≡ false) → begins_label (put (l || m) a b) ≡ false
    → not l && labelled x ≡ false
label_unput true m x a b f g h = refl
label_unput false true x a b f g h = f refl
label_unput false false x a b f g h = g h

pub label_back : (c : Context) (t : Tree) → is_calm c.edge ≡ true → begins_label (bare c t) ≡ false → labelled t ≡ false
label_back c (leaf k) n h = h
label_back c (infixed x k y) n h =
    let j = calm_left c.edge n in
    label_unput (left_wrapped k x (bad x (class_of k))) (misplaced (left_context k c) x) x (bare enclosed x) (bare (left_context k c) x)
    (λ p. label_misplaced (left_context k c) x j p) (λ p. label_back (left_context k c) x j p) h
label_back c (postfixed x k) n h =
    let j = calm_left c.edge n in
    label_unput (left_wrapped (postfix_op k) x (bad x (class_of (postfix_op k)))) (misplaced (left_context (postfix_op k) c) x) x (bare enclosed x) (bare (left_context (postfix_op k) c) x)
    (λ p. label_misplaced (left_context (postfix_op k) c) x j p) (λ p. label_back (left_context (postfix_op k) c) x j p) h
label_back c (tail b k ks) n h =
    let j = calm_base k c.edge n in
    label_unput (base_wrapped k b (bad b (next_of k))) (misplaced (base_context k c) b) b (bare enclosed b) (bare (base_context k c) b)
    (λ p. label_misplaced (base_context k c) b j p) (λ p. label_back (base_context k c) b j p) h
label_back c (frame k ks) n h = h
label_back c _ n h = refl

pub no_bare_label : (k : Prefix) (c : Context) (t : Tree) → is_calm c.edge ≡ true → is_bare_break k && begins_label (bare c t) ≡ false → is_bare_break k && labelled t ≡ false
no_bare_label k c t n h = go (is_bare_break k) h
  where
    go : (b : Bool) → b && begins_label (bare c t) ≡ false → b && labelled t ≡ false
    go true i = label_back c t n i
    go false i = refl

-- ---- ends

all_of : (a b : Bool) → a && true ≡ false → a && b ≡ false
all_of true b h = absurd cc
all_of false b h = refl

-- x: for another reason
tight_end : (v : Precedence) (c c0 : Context) (t : Tree) (w x : Bool) → (Obeys v c (bare c0 t) → Tight v c t) → (w ≡ false → x ≡ false)
    → Obeys v c (put w (bare enclosed t) (bare c0 t)) → Fits v (put w (bare enclosed t) (bare c0 t)) c.next
    → ends_badly v t c.next (place_wrapped v t c.next (low t) (bad t c.next) || x) ≡ false
tight_end v c c0 t true x g y i p = or_from _ _ (all_of _ _ p.no_operator) (all_of _ _ p.no_trailer)
tight_end v c c0 t false x g y i p =
    ends_well v t c.next _ (or_from _ _ (not_wrapped v c t (g i)) (y refl))
    (ap (λ b. takes_next v c.next && not b) (sym (range_bare c0 t)) ∙ p.no_operator)
    (ap (λ b. trails c.next && b) (sym (carrier_bare c0 t)) ∙ p.no_trailer)

misplaced_low : (c : Context) (t : Tree) → misplaced c t ≡ true → low t ≡ lev.Unambiguous
misplaced_low c (leaf k) h = refl
misplaced_low c (infixed x k y) h = absurd cc
misplaced_low c (postfixed x k) h = absurd cc
misplaced_low c _ h = refl

-- the operators on the left edge; l: the left operand is in parentheses, m: since it is misplaced
tight_left : (v : Precedence) (a : Precedence) (c : Context) (x p q : Tree) (l m : Bool) → takes v lev.Unambiguous ≡ true → takes v a ≡ true → (m ≡ true → low x ≡ lev.Unambiguous)
    → (Obeys v c q → Tight v c x) → Obeys v c (put (l || m) p q) → takes v (lower a (if l then lev.Unambiguous else low x)) ≡ true
tight_left v a c x p q true m s h f g i = lower_takes v a lev.Unambiguous h s
tight_left v a c x p q false true s h f g i = lower_takes v a (low x) h (ap (takes v) (f refl) ∙ s)
tight_left v a c x p q false false s h f g i = lower_takes v a (low x) h (g i).edge

tight_attributed : (v : Precedence) (c c0 : Context) (t : Tree) (w : Bool) → is_operation t ≡ w → (Obeys v c (bare c0 t) → Tight v c t)
    → Obeys v c (put w (bare enclosed t) (bare c0 t)) → (not w && bad t c.next ≡ false) × (not w && refuses t c.next ≡ false) × (not w && misplaced c t ≡ false)
tight_attributed v c c0 t true h g i = (refl, refl, refl)
tight_attributed v c c0 t false h g i = let k = g i in (k.end, k.refused, k.placed)

pub tight : (t : Tree) → (v : Precedence) (c c0 : Context) → takes v lev.Unambiguous ≡ true → Obeys v c (bare c0 t) → Tight v c t
tight (leaf k) v c c0 s i = let p = or_parts _ _ i in record { edge = s; end = refl; refused = p.0; placed = p.1 }
tight (paren m t) v c c0 s i = record { edge = s; end = refl; refused = refl; placed = refl }
tight (attributed a more t) v c c0 s i =
    let p = tight_attributed v (attributed_context c) (attributed_context c0) t _ refl (tight t v (attributed_context c) (attributed_context c0) s) i.1 in
    record { edge = s; end = p.0; refused = p.1; placed = p.2 }
tight (prefixed k gs t) v c c0 s i =
    let p = tight_end (prefix_level k) (prefix_context k c) (prefix_context k c0) t (prefix_asks k (prefix_context k c0) t) (is_bare_break k && labelled t)
    (tight t (prefix_level k) (prefix_context k c) (prefix_context k c0) (prefix_small k))
    (λ w. (or_parts _ _ w).1) i.1 i.2 in
    record {
      edge = s;
      end = subst (λ (n : Next). ends_badly (prefix_level k) t n (place_wrapped (prefix_level k) t n (low t) (bad t n) || (is_bare_break k && labelled t)) ≡ false) (prefix_next_is k c) p;
      refused = refl;
      placed = i.0;
    }
tight (infixed x k y) v c c0 s i =
    let p = tight_end (level k) (right_context k c) (right_context k c0) y (place_asks (level k) (right_context k c0) y) false
    (tight y (level k) (right_context k c) (right_context k c0) (level_small k)) (λ w. refl) i.3 i.4 in
    record {
      edge = tight_left v (level k) (left_context k c) x (bare enclosed x) (bare (left_context k c0) x) (left_wrapped k x (bad x (class_of k))) (misplaced (left_context k c0) x)
          s i.0 (misplaced_low (left_context k c0) x) (tight x v (left_context k c) (left_context k c0) s) i.1;
      end = ap (ends_badly (level k) y c.next) (sym (or-false _)) ∙ p;
      refused = refl;
      placed = refl;
    }
tight (postfixed x k) v c c0 s i =
    record {
      edge = tight_left v (level (postfix_op k)) (left_context (postfix_op k) c) x (bare enclosed x) (bare (left_context (postfix_op k) c0) x)
          (left_wrapped (postfix_op k) x (bad x (class_of (postfix_op k)))) (misplaced (left_context (postfix_op k) c0) x)
          s i.0 (misplaced_low (left_context (postfix_op k) c0) x) (tight x v (left_context (postfix_op k) c) (left_context (postfix_op k) c0) s) i.1;
      end = refl;
      refused = i.3;
      placed = refl;
    }
tight (tail b k ks) v c c0 s i = record { edge = s; end = refl; refused = refl; placed = refl }
tight (frame k ks) v c c0 s i = record { edge = s; end = refl; refused = refl; placed = i.0 }
