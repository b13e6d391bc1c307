-- None of the added pairs can be left out by itself: the tree would break a binding rule.
use Rattle.std.proofs.Common.{◌≡◌, Bool, true, false, ◌&&◌, ◌||◌, inl, inr, List, refl, sym, ◌∙◌, ap, subst}
use Rattle.std.specs.Prelude.{if◌then◌else◌}
use Rattle.std.proofs.lemmas.Bool.{or_parts, or_from, and_parts}
use Rattle.syn_lower_spec.specs.Tree.{AttributeTree}
use Rattle.syn_lower_spec.specs.Pat.{MemberTree, a_name, an_index}
use Rattle.syn_expr_spec.specs.declared.kinds.Infix.{Infix}
use Rattle.syn_expr_spec.specs.declared.kinds.Precedence.{Precedence}
use Rattle.syn_expr_spec.specs.declared.kinds.Precedence.TheVariants as lev
use Rattle.syn_expr_spec.specs.declared.next.Context.{Context}
use Rattle.syn_expr_spec.specs.Place.{takes}
use Rattle.syn_expr_spec.specs.Op.{level, is_comparison}
use Rattle.syn_expr_spec.specs.Next.{class_of, next_of, enclosed, in_statement, left_context, base_context, right_context, attributed_context, prefix_context, prefix_level, piece_context}
use Rattle.syn_expr_spec.specs.Stands.{is_range, is_base, is_if_expr, compares}
use Rattle.syn_expr_spec.specs.Tree as e
use Rattle.syn_expr_spec.specs.Tree.{Tree, Children, Leaf, Prefix, Piece, Ending, Trailer, leaf, paren, attributed, prefixed, infixed, postfixed, tail, frame, none, child, postfix_op, is_silent, needs_last_comma}
use Rattle.syn_expr_spec.specs.Slot.{Slot, elements, fields, otherwise, outputs, after}
use Rattle.syn_expr_spec.specs.Rule.{is_operation, prints_range, is_bare_break, bad, place_asks, left_asks, base_asks, prefix_asks, put, is_chainable, is_plain_block, piece_put, bare, bare_children}
use Rattle.syn_expr_spec.specs.Minimal.{OneLess, OneLessChild}
use Rattle.syn_expr_spec.specs.WellFormed.{piece_fits, is_verbatim_block, is_name_path, trailer_slot, frame_slot, keeps_block}
use Rattle.syn_expr_spec.proofs.Obeys.{FitsLeft, begins_label, Obeys, ObeysChildren}
use Rattle.syn_expr_spec.proofs.Formed.{Formed, FormedChildren}
use Rattle.syn_expr_spec.proofs.Edges.{range_bare, compares_bare, infix_bare, base_bare}
use Rattle.syn_expr_spec.proofs.Good.{not_verbatim}
use Rattle.syn_expr_spec.proofs.Kept as kept
use Rattle.syn_expr_spec.proofs.Kept.{not_asked, left_bare, level_small, prefix_small}
use Rattle.syn_expr_spec.proofs.Tight.{tight, no_bare_label}

-- what belongs after `else` and a closure's output, and what is not spelled
abbrev pub child_there : Piece → Tree → Bool
child_there e.chained t = is_if_expr t || is_verbatim_block t
child_there e.output_block t = is_verbatim_block t
child_there (e.field_value ats m c) t = c || is_name_path m t
child_there e.stray t = false
child_there k t = true

chained_there : (s : Slot) (c : Ending) (t : Tree) → piece_fits s e.chained c t ≡ true → child_there e.chained t ≡ true
chained_there otherwise c t h = h
chained_there elements c t h = absurd cc
chained_there _ c t h = absurd cc

output_there : (s : Slot) (c : Ending) (t : Tree) → piece_fits s e.output_block c t ≡ true → child_there e.output_block t ≡ true
output_there outputs c t h = h
output_there elements c t h = absurd cc
output_there _ c t h = absurd cc

field_there : (s : Slot) (ats : List AttributeTree) (m : MemberTree) (b : Bool) (c : Ending) (t : Tree) → piece_fits s (e.field_value ats m b) c t ≡ true → b || is_name_path m t ≡ true
field_there fields ats m b c t h = (and_parts _ _ (and_parts _ _ h).1).1
field_there elements ats m b c t h = absurd cc
field_there _ ats m b c t h = absurd cc

stray_there : (s : Slot) (c : Ending) (t : Tree) → piece_fits s e.stray c t ≡ true → false ≡ true
stray_there elements c t h = h
stray_there _ c t h = h

pub fits_there : (s : Slot) (k : Piece) (c : Ending) (t : Tree) → piece_fits s k c t ≡ true → child_there k t ≡ true
fits_there s e.chained c t h = chained_there s c t h
fits_there s e.output_block c t h = output_there s c t h
fits_there s (e.field_value ats m b) c t h = field_there s ats m b c t h
fits_there s e.stray c t h = stray_there s c t h
fits_there s e.element c t h = refl
fits_there s _ c t h = refl

-- ---- one pair less at a node

-- what no tree of one pair less does
abbrev pub NeedsItsPairs : Tree → Type 0
NeedsItsPairs t = (v : Precedence) (c : Context) (q : Tree) → takes v lev.Unambiguous ≡ true → OneLess (bare c t) q → Obeys v c q → ⊥

wrong : (b : Bool) → b ≡ false → b ≡ true → ⊥
wrong b h k = let r : false ≡ true = sym h ∙ k in absurd cc

-- `none` says why the pair isn't asked for where the tree bare obeys.
needed_put : (v : Precedence) (c : Context) (t q : Tree) (w : Bool) → takes v lev.Unambiguous ≡ true → NeedsItsPairs t
    → (w ≡ true → q ≡ bare enclosed t → Obeys v c (bare enclosed t) → ⊥)
    → OneLess (put w (bare enclosed t) (bare c t)) q → Obeys v c q → ⊥
needed_put v c t q true s h n o i =
    elim o [
      | inl x ↦ n refl x (subst (λ y. Obeys v c y) x i)
      | inr x ↦ h lev.Jump enclosed x.0 refl x.1 (subst (λ y. Obeys v c y) x.2 i).0
    ]
needed_put v c t q false s h n o i = h v c q s o i

needed_place : (v : Precedence) (c : Context) (t q : Tree) → takes v lev.Unambiguous ≡ true → NeedsItsPairs t
    → OneLess (put (place_asks v c t) (bare enclosed t) (bare c t)) q → Obeys v c q → ⊥
needed_place v c t q s h o i =
    needed_put v c t q (place_asks v c t) s h (λ w x j. wrong _ (not_asked v c t (tight t v c enclosed s j)) w) o i

needed_prefix : (k : Prefix) (c : Context) (t q : Tree) → NeedsItsPairs t → OneLess (put (prefix_asks k c t) (bare enclosed t) (bare c t)) q
    → Obeys (prefix_level k) c q → is_bare_break k && begins_label q ≡ false → ⊥
needed_prefix k c t q h o i l =
    needed_put (prefix_level k) c t q (prefix_asks k c t) (prefix_small k) h
    (λ w x j. wrong _ (or_from _ _ (not_asked (prefix_level k) c t (tight t (prefix_level k) c enclosed (prefix_small k) j))
    (no_bare_label k enclosed t refl (ap (λ y. is_bare_break k && begins_label y) (sym x) ∙ l))) w) o i

needed_left : (v : Precedence) (k : Infix) (c : Context) (t q : Tree) → takes v lev.Unambiguous ≡ true → NeedsItsPairs t
    → OneLess (put (left_asks k (left_context k c) t) (bare enclosed t) (bare (left_context k c) t)) q → Obeys v (left_context k c) q → FitsLeft k q → ⊥
needed_left v k c t q s h o i z =
    needed_put v (left_context k c) t q (left_asks k (left_context k c) t) s h
    (λ w x j.
    let d = tight t v (left_context k c) enclosed s j in
    let a = sym (range_bare enclosed t) ∙ ap is_range (sym x) ∙ z.no_range in
    let b = ap (λ y. y && is_comparison k) (sym (compares_bare enclosed t) ∙ ap compares (sym x)) ∙ z.no_chain in
    wrong _ (or_from _ _ (left_bare k t (bad t (class_of k)) a b d.end d.refused) d.placed) w) o i

needed_base : (v : Precedence) (k : Trailer) (c : Context) (t q : Tree) → takes v lev.Unambiguous ≡ true → NeedsItsPairs t
    → OneLess (put (base_asks k (base_context k c) t) (bare enclosed t) (bare (base_context k c) t)) q → is_base k q ≡ true → Obeys v (base_context k c) q → ⊥
needed_base v k c t q s h o z i =
    needed_put v (base_context k c) t q (base_asks k (base_context k c) t) s h
    (λ w x j.
    let d = tight t v (base_context k c) enclosed s j in
    let a = sym (base_bare k enclosed t) ∙ ap (is_base k) (sym x) ∙ z in
    wrong _ (or_from _ _ (kept.base_bare k t (bad t (next_of k)) a d.end d.refused) d.placed) w) o i

prints_bare : (t : Tree) → prints_range (bare enclosed t) ≡ prints_range t
prints_bare (leaf k) = refl
prints_bare _ = refl

needed_attributes : (v : Precedence) (c : Context) (t q : Tree) → takes v lev.Unambiguous ≡ true → NeedsItsPairs t
    → OneLess (put (is_operation t) (bare enclosed t) (bare c t)) q → is_operation q ≡ false → Obeys v c q → ⊥
needed_attributes v c t q s h o z i =
    needed_put v c t q (is_operation t) s h
    (λ w x j.
    let p = or_parts _ _ (ap is_operation (sym x) ∙ z) in
    wrong _ (or_from _ _ (sym (infix_bare enclosed t) ∙ p.0) (sym (prints_bare t) ∙ p.1)) w) o i

-- ---- lists of operands

no_pair_in : (w : Bool) (j k : Leaf) (q : Tree) → OneLess (if w then leaf j else leaf k) q → ⊥
no_pair_in true j k q o = o
no_pair_in false j k q o = o

abbrev PutChild : Piece → Tree → Tree
PutChild k t = piece_put k t (bare enclosed t) (bare (piece_context k) t) (put (place_asks lev.Jump in_statement t) (bare enclosed t) (bare in_statement t))
    (place_asks lev.Jump (piece_context k) t)

needed_chained : (t q : Tree) → NeedsItsPairs t → is_if_expr t || is_verbatim_block t ≡ true → OneLess (PutChild e.chained t) q → Obeys lev.Jump enclosed q → ⊥
needed_chained (leaf k) q h b o i = no_pair_in (is_chainable (leaf k)) k _ q o
needed_chained (frame e.if_expr ks) q h b o i = h lev.Jump enclosed q refl o i
needed_chained _ q h b o i = absurd cc

needed_output : (t q : Tree) → is_verbatim_block t ≡ true → OneLess (PutChild e.output_block t) q → ⊥
needed_output (leaf k) q b o = no_pair_in (is_plain_block (leaf k)) k _ q o
needed_output _ q b o = absurd cc

needed_name : (m : MemberTree) (t q : Tree) → is_name_path m t ≡ true → OneLess t q → ⊥
needed_name m (leaf k) q b o = o
needed_name (a_name w) _ q b o = absurd cc
needed_name (an_index n) _ q b o = absurd cc

needed_child : (k : Piece) (t q : Tree) → NeedsItsPairs t → child_there k t ≡ true → OneLess (PutChild k t) q
    → (is_silent k ≡ false → Obeys lev.Jump (piece_context k) q) → ⊥
needed_child (e.field_value ats m false) t q h b o i = needed_name m t q b o
needed_child e.condition t q h b o i = needed_place lev.Jump (piece_context e.condition) t q refl h o (i refl)
needed_child e.loop_head t q h b o i = needed_place lev.Jump (piece_context e.loop_head) t q refl h o (i refl)
needed_child e.scrutinee t q h b o i = needed_place lev.Jump (piece_context e.scrutinee) t q refl h o (i refl)
needed_child e.chained t q h b o i = needed_chained t q h b o (i refl)
needed_child e.guarded t q h b o i = needed_place lev.Jump (piece_context e.guarded) t q refl h o (i refl)
needed_child (e.arm ats p) t q h b o i = needed_place lev.Jump (piece_context (e.arm ats p)) t q refl h o (i refl)
needed_child e.output_block t q h b o i = needed_output t q b o
needed_child e.stray t q h b o i = absurd cc
needed_child _ t q h b o i = needed_place lev.Jump enclosed t q refl h o (i refl)

-- a leaf has no pair
child_needed : (k : Piece) (t : Tree) → (keeps_block k t ≡ false → NeedsItsPairs t) → NeedsItsPairs t
child_needed k (leaf j) g = λ v c q s o i. o
child_needed k d g = g (not_verbatim k d refl)

mutual
  pub needs_its_pairs : (t : Tree) → Formed t → NeedsItsPairs t
  needs_its_pairs (leaf k) f v c q s o i = o
  needs_its_pairs (paren m t) f v c q s o i = needs_its_pairs t f lev.Jump enclosed o.0 refl o.1 (subst (λ y. Obeys v c y) o.2 i).0
  needs_its_pairs (attributed a more t) f v c q s o i =
      let j = subst (λ y. Obeys v c y) o.2 i in
      needed_attributes v (attributed_context c) t o.0 s (needs_its_pairs t f.2) o.1 j.0 j.1
  needs_its_pairs (prefixed k gs t) f v c q s o i =
      let j = subst (λ y. Obeys v c y) o.2 i in
      needed_prefix k (prefix_context k c) t o.0 (needs_its_pairs t f.2) o.1 j.1 j.3
  needs_its_pairs (infixed x k y) f v c q s o i =
      elim o [
        | inl z ↦ let j = subst (λ y. Obeys v c y) z.2 i in needed_left v k c x z.0 s (needs_its_pairs x f.1) z.1 j.1 j.2
        | inr z ↦ let j = subst (λ y. Obeys v c y) z.2 i in needed_place (level k) (right_context k c) y z.0 (level_small k) (needs_its_pairs y f.2) z.1 j.3
      ]
  needs_its_pairs (postfixed x k) f v c q s o i =
      let j = subst (λ y. Obeys v c y) o.2 i in
      needed_left v (postfix_op k) c x o.0 s (needs_its_pairs x f.1) o.1 j.1 j.2
  needs_its_pairs (tail b k ks) f v c q s o i =
      elim o [
        | inl z ↦ let j = subst (λ y. Obeys v c y) z.2 i in needed_base v k c b z.0 s (needs_its_pairs b f.1) z.1 j.0 j.1
        | inr z ↦ let j = subst (λ y. Obeys v c y) z.2 i in needed_children ks (trailer_slot k) false f.2 z.0 z.1 j.2
      ]
  needs_its_pairs (frame k ks) f v c q s o i =
      let j = subst (λ y. Obeys v c y) o.2 i in needed_children ks (frame_slot k) (needs_last_comma k ks) f.1 o.0 o.1 j.1

  pub needed_children : (ks : Children) (s : Slot) (last : Bool) → FormedChildren s last ks → (qs : Children) → OneLessChild (bare_children ks) qs → ObeysChildren qs → ⊥
  needed_children none s last f qs o i = o
  needed_children (child k c t ks) s last f qs o i =
      elim o [
        | inl z ↦
            let j = subst (λ y. ObeysChildren y) z.2 i in
            needed_child k t z.0 (child_needed k t (λ b. needs_its_pairs t (f.1 b))) (fits_there s k c t f.0.piece) z.1 j.0
        | inr z ↦ let j = subst (λ y. ObeysChildren y) z.2 i in needed_children ks (after k) last f.2 z.0 z.1 j.1
      ]

-- in a position
pub needed_in : (t q : Tree) (c : Context) → Formed t → OneLess (put (place_asks lev.Jump c t) (bare enclosed t) (bare c t)) q → Obeys lev.Jump c q → ⊥
needed_in t q c f o i = needed_place lev.Jump c t q refl (needs_its_pairs t f) o i
