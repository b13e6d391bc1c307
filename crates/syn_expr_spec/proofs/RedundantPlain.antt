-- One pair less of a printed tree without attributes on operations has none either.
use Rattle.std.proofs.Common.{◌≡◌, Bool, true, false, not, ◌&&◌, ◌||◌, inl, inr, List, ◌∷◌, cond, refl, sym, ◌∙◌, ap, subst}
use Rattle.std.proofs.lemmas.Bool.{and_from, and_parts}
use Rattle.syn_expr_spec.specs.declared.next.Context.{Context}
use Rattle.syn_expr_spec.specs.Next.{enclosed, left_context, base_context, right_context, attributed_context, prefix_context, piece_context}
use Rattle.syn_expr_spec.specs.Tree as e
use Rattle.syn_expr_spec.specs.Tree.{Tree, Children, Piece, leaf, paren, attributed, prefixed, infixed, postfixed, tail, frame, none, child, postfix_op, clear, clear_children, fill, Ending, is_none}
use Rattle.syn_expr_spec.specs.Rule.{is_operation, put, bare, bare_children, piece_put, chained_bare, is_chainable, is_plain_block}
use Rattle.syn_expr_spec.specs.Minimal.{OneLess, OneLessChild}
use Rattle.syn_expr_spec.specs.Printed.{NoPairRedundant, printed_in, plainly_attributed, children_plainly, context_of}
use Rattle.syn_expr_spec.specs.WellFormed.{well, children_well, piece_fits, ending_fits, keeps_block, is_name_path, is_well_formed, trailer_fits, frame_fits, prefix_fits, infix_fits, postfix_fits, trailer_slot, frame_slot}
use Rattle.syn_expr_spec.specs.Slot as s
use Rattle.syn_expr_spec.specs.Slot.{Slot, after}
use Rattle.syn_lower_spec.specs.Tree.{AttributeTree}
use Rattle.syn_lower_spec.specs.Pat.{MemberTree, a_name}
use Rattle.syn_lower_spec.specs.PatFits.{attributes_outer, member_fits}
use Rattle.syn_expr_spec.specs.Stands.{is_attributed}
use Rattle.syn_expr_spec.proofs.Edges.{operation_bare}
use Rattle.syn_expr_spec.proofs.Unclear.{operation_clear}
use Rattle.syn_expr_spec.proofs.FillIns.{plainly_fill, well_fill}
use Rattle.syn_expr_spec.proofs.NoneRedundant.{no_pair_where_plain}

abbrev is_marked : Tree → Bool
is_marked (paren m t) = m
is_marked _ = false

-- no pair that was added comes after attributes
abbrev mutual
  kept_apart : Tree → Bool
  kept_apart (leaf k) = true
  kept_apart (paren m t) = kept_apart t
  kept_apart (attributed a more t) = not (is_marked t) && kept_apart t
  kept_apart (prefixed k gs t) = kept_apart t
  kept_apart (infixed x k y) = kept_apart x && kept_apart y
  kept_apart (postfixed x k) = kept_apart x
  kept_apart (tail b k ks) = kept_apart b && children_apart ks
  kept_apart (frame k ks) = children_apart ks

  children_apart : Children → Bool
  children_apart none = true
  children_apart (child k c t ks) = kept_apart t && children_apart ks

-- ---- one pair less keeps the shape on top, where that is no added pair

less_operation : (t u : Tree) → is_marked t ≡ false → OneLess t u → is_operation u ≡ is_operation t
less_operation (leaf k) u m o = absurd o
less_operation (paren true t) u m o = absurd cc
less_operation (infixed x k y) u m o = elim o [ inl z ↦ ap is_operation z.2 | inr z ↦ ap is_operation z.2 ]
less_operation (tail b k ks) u m o = elim o [ inl z ↦ ap is_operation z.2 | inr z ↦ ap is_operation z.2 ]
less_operation _ u m o = ap is_operation o.2

not_true : {b : Bool} → not b ≡ true → b ≡ false
not_true {b = true} h = absurd cc
not_true {b = false} h = refl

not_false : {b : Bool} → b ≡ false → not b ≡ true
not_false {b = true} h = absurd cc
not_false {b = false} h = refl

mutual
  less_plain : (t u : Tree) → OneLess t u → plainly_attributed t ≡ true → kept_apart t ≡ true → plainly_attributed u ≡ true
  less_plain (leaf k) u o h g = absurd o
  less_plain (paren true t) u o h g = elim o [
    | inl z ↦ subst (λ y. plainly_attributed y ≡ true) (sym z) h
    | inr z ↦ subst (λ y. plainly_attributed y ≡ true) (sym z.2) (less_plain t z.0 z.1 h g)
  ]
  less_plain (paren false t) u o h g = subst (λ y. plainly_attributed y ≡ true) (sym o.2) (less_plain t o.0 o.1 h g)
  less_plain (attributed a more t) u o h g =
      let (i, j) = and_parts (not (is_operation t)) _ h in
      let (m, n) = and_parts (not (is_marked t)) _ g in
      subst (λ y. plainly_attributed y ≡ true) (sym o.2)
      (and_from _ _ (not_false (less_operation t o.0 (not_true m) o.1 ∙ not_true i)) (less_plain t o.0 o.1 j n))
  less_plain (prefixed k gs t) u o h g =
      let (i, j) = and_parts (children_plainly gs) _ h in
      subst (λ y. plainly_attributed y ≡ true) (sym o.2) (and_from _ _ i (less_plain t o.0 o.1 j g))
  less_plain (infixed x k y) u o h g =
      let (i, j) = and_parts (plainly_attributed x) _ h in
      let (m, n) = and_parts (kept_apart x) _ g in
      elim o [
        | inl z ↦ subst (λ y. plainly_attributed y ≡ true) (sym z.2) (and_from _ _ (less_plain x z.0 z.1 i m) j)
        | inr z ↦ subst (λ y. plainly_attributed y ≡ true) (sym z.2) (and_from _ _ i (less_plain y z.0 z.1 j n))
      ]
  less_plain (postfixed x k) u o h g = subst (λ y. plainly_attributed y ≡ true) (sym o.2) (less_plain x o.0 o.1 h g)
  less_plain (tail b k ks) u o h g =
      let (i, j) = and_parts (plainly_attributed b) _ h in
      let (m, n) = and_parts (kept_apart b) _ g in
      elim o [
        | inl z ↦ subst (λ y. plainly_attributed y ≡ true) (sym z.2) (and_from _ _ (less_plain b z.0 z.1 i m) j)
        | inr z ↦ subst (λ y. plainly_attributed y ≡ true) (sym z.2) (and_from _ _ i (less_children ks z.0 z.1 j n))
      ]
  less_plain (frame k ks) u o h g = subst (λ y. plainly_attributed y ≡ true) (sym o.2) (less_children ks o.0 o.1 h g)

  less_children : (ks us : Children) → OneLessChild ks us → children_plainly ks ≡ true → children_apart ks ≡ true → children_plainly us ≡ true
  less_children none us o h g = absurd o
  less_children (child k c t ks) us o h g =
      let (i, j) = and_parts (plainly_attributed t) _ h in
      let (m, n) = and_parts (kept_apart t) _ g in
      elim o [
        | inl z ↦ subst (λ y. children_plainly y ≡ true) (sym z.2) (and_from _ _ (less_plain t z.0 z.1 i m) j)
        | inr z ↦ subst (λ y. children_plainly y ≡ true) (sym z.2) (and_from _ _ i (less_children ks z.0 z.1 j n))
      ]

-- ---- what is printed has no added pair after attributes

record Good (u : Tree) : Type 0 where
  plain : plainly_attributed u ≡ true
  apart : kept_apart u ≡ true

put_good : (b : Bool) (x y : Tree) → Good x → Good y → Good (put b x y)
put_good true x y f g = record { plain = f.plain; apart = f.apart }
put_good false x y f g = g

if_good : (b : Bool) (x y : Tree) → Good x → Good y → Good (cond b x y)
if_good true x y f g = f
if_good false x y f g = g

marked_bare : (c : Context) (t : Tree) → is_marked (bare c t) ≡ false
marked_bare c (leaf k) = refl
marked_bare c _ = refl

chained_good : (u : Tree) → Good u → Good (chained_bare u)
chained_good (attributed a more (frame k ks)) g =
    record { plain = (and_parts (not (is_operation (frame k ks))) _ g.plain).1; apart = (and_parts (not (is_marked (frame k ks))) _ g.apart).1 }
chained_good _ g = g

verbatim_good : (k : Piece) (t : Tree) → keeps_block k t ≡ true → (c : Context) → Good (bare c t)
verbatim_good e.chained (leaf k) h c = record { plain = refl; apart = refl }
verbatim_good e.output_block (leaf k) h c = record { plain = refl; apart = refl }
verbatim_good _ _ h c = absurd cc

short_good : (v : Slot) (ats : List AttributeTree) (m : MemberTree) (c : Ending) (t : Tree) → piece_fits v (e.field_value ats m false) c t ≡ true → Good t
short_good s.fields ats m c t h = by_name m t (and_parts (member_fits m) _ (and_parts (attributes_outer ats) _ h).1).1
  where
    by_name : (m : MemberTree) (t : Tree) → is_name_path m t ≡ true → Good t
    by_name (a_name w) (leaf k) h = record { plain = refl; apart = refl }
    by_name _ _ h = absurd cc
short_good _ ats m c t h = absurd cc

no_stray : (v : Slot) (c : Ending) (t : Tree) → piece_fits v e.stray c t ≡ false
no_stray s.elements c t = refl
no_stray _ c t = refl

piece_good : (v : Slot) (k : Piece) (c : Ending) (t st : Tree) (asks : Bool) → piece_fits v k c t ≡ true → ((c : Context) → Good (bare c t))
    → Good (piece_put k t (bare enclosed t) (bare (piece_context k) t) st asks)
piece_good v e.chained c t st asks h f = if_good (is_chainable t) _ _ (chained_good _ (f (piece_context e.chained))) (record { plain = refl; apart = refl })
piece_good v e.output_block c t st asks h f = if_good (is_plain_block t) _ _ (f (piece_context e.output_block)) (record { plain = refl; apart = refl })
piece_good v (e.field_value ats m false) c t st asks h f = short_good v ats m c t h
piece_good v (e.field_value ats m true) c t st asks h f = put_good asks _ _ (f enclosed) (f (piece_context (e.field_value ats m true)))
piece_good v e.stray c t st asks h f = let a = sym (no_stray v c t) ∙ h in absurd cc
piece_good v k c t st asks h f = put_good asks _ _ (f enclosed) (f (piece_context k))

by_verbatim : (k : Piece) (t : Tree) (b : Bool) → keeps_block k t ≡ b → (b || well t) ≡ true → (well t ≡ true → (c : Context) → Good (bare c t)) → (c : Context) → Good (bare c t)
by_verbatim k t true a h f = verbatim_good k t a
by_verbatim k t false a h f = f h

record GoodChildren (us : Children) : Type 0 where
  plain : children_plainly us ≡ true
  apart : children_apart us ≡ true

mutual
  bare_good : (t : Tree) (c : Context) → well t ≡ true → plainly_attributed t ≡ true → Good (bare c t)
  bare_good (leaf k) c w h = record { plain = refl; apart = refl }
  bare_good (paren m t) c w h = let g = bare_good t enclosed w h in record { plain = g.plain; apart = g.apart }
  bare_good (attributed a more t) c w h =
      let (i, j) = and_parts (not (is_operation t)) _ h in
      let w1 = (and_parts (attributes_outer (a ∷ more)) _ w).1 in
      let g = bare_good t (attributed_context c) (and_parts (not (is_attributed t)) _ w1).1 j in
      rw (not_true i) (record { plain = and_from _ _ (not_false (operation_bare (attributed_context c) t (not_true i))) g.plain; apart = and_from _ _ (not_false (marked_bare (attributed_context c) t)) g.apart })
  bare_good (prefixed k gs t) c w h =
      let (i, j) = and_parts (children_plainly gs) _ h in
      let w1 = (and_parts (is_none gs) _ (and_parts (prefix_fits k) _ w).1).1 in
      let g = put_good _ _ _ (bare_good t enclosed w1 j) (bare_good t (prefix_context k c) w1 j) in
      record { plain = and_from _ _ i g.plain; apart = g.apart }
  bare_good (infixed x k y) c w h =
      let (i, j) = and_parts (plainly_attributed x) _ h in
      let (w1, w2) = and_parts (well x) _ (and_parts (infix_fits k) _ w).1 in
      let f = put_good _ _ _ (bare_good x enclosed w1 i) (bare_good x (left_context k c) w1 i) in
      let g = put_good _ _ _ (bare_good y enclosed w2 j) (bare_good y (right_context k c) w2 j) in
      record { plain = and_from _ _ f.plain g.plain; apart = and_from _ _ f.apart g.apart }
  bare_good (postfixed x k) c w h =
      let w1 = (and_parts (postfix_fits k) _ w).1 in
      let f = put_good _ _ _ (bare_good x enclosed w1 h) (bare_good x (left_context (postfix_op k) c) w1 h) in
      record { plain = f.plain; apart = f.apart }
  bare_good (tail b k ks) c w h =
      let (i, j) = and_parts (plainly_attributed b) _ h in
      let (w1, w2) = and_parts (well b) _ (and_parts (trailer_fits k) _ w).1 in
      let f = put_good _ _ _ (bare_good b enclosed w1 i) (bare_good b (base_context k c) w1 i) in
      let g = children_good ks (trailer_slot k) w2 j in
      record { plain = and_from _ _ f.plain g.plain; apart = and_from _ _ f.apart g.apart }
  bare_good (frame k ks) c w h = let g = children_good ks (frame_slot k) (and_parts (frame_fits k ks) _ w).1 h in record { plain = g.plain; apart = g.apart }

  children_good : (ks : Children) (v : Slot) → children_well v ks ≡ true → children_plainly ks ≡ true → GoodChildren (bare_children ks)
  children_good none v w h = record { plain = refl; apart = refl }
  children_good (child k c t ks) v w h =
      let (i, j) = and_parts (plainly_attributed t) _ h in
      let (w1, w2) = and_parts (piece_fits v k c t && ending_fits k c) _ w in
      let (w3, w4) = and_parts (keeps_block k t || well t) _ w2 in
      let f = by_verbatim k t (keeps_block k t) refl w3 (λ u c. bare_good t c u i) in
      let g = piece_good v k c t _ _ (and_parts (piece_fits v k c t) _ w1).0 f in
      let m = children_good ks (after k) w4 j in
      record { plain = and_from _ _ g.plain m.plain; apart = and_from _ _ g.apart m.apart }

mutual
  pub plain_clear : (t : Tree) → plainly_attributed (clear t) ≡ plainly_attributed t
  plain_clear (leaf k) = refl
  plain_clear (paren m t) = plain_clear t
  plain_clear (attributed a more t) = rw (operation_clear t, plain_clear t) refl
  plain_clear (prefixed k gs t) = rw (plain_clear_children gs, plain_clear t) refl
  plain_clear (infixed x k y) = rw (plain_clear x, plain_clear y) refl
  plain_clear (postfixed x k) = plain_clear x
  plain_clear (tail b k ks) = rw (plain_clear b, plain_clear_children ks) refl
  plain_clear (frame k ks) = plain_clear_children ks

  plain_clear_children : (ks : Children) → children_plainly (clear_children ks) ≡ children_plainly ks
  plain_clear_children none = refl
  plain_clear_children (child k c t ks) = rw (plain_clear t, plain_clear_children ks) refl

pub no_pair_redundant : NoPairRedundant
unfolding is_well_formed
no_pair_redundant p t q l r w a v h o d =
    let w1 : well (fill t) ≡ true = well_fill t ∙ w in
    let a1 : plainly_attributed (fill t) ≡ true = plainly_fill t ∙ a in
    let g : Good (printed_in p t) = put_good _ _ _ (bare_good (fill t) enclosed w1 a1) (bare_good (fill t) (context_of p) w1 a1) in
    no_pair_where_plain p t q l r w (plain_clear q ∙ less_plain (printed_in p t) q o g.plain g.apart) v h o d
