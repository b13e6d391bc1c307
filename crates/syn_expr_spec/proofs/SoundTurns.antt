-- Trailers, attributes and operations: what is read stands.
use Rattle.std.specs.Prelude.{not, ◌||◌, ◌&&◌}
use Rattle.std.proofs.Common.{◌≡◌, ℕ, zero, suc, Bool, true, false, ⊎_elim, List, [], ◌∷◌, ◌++◌, drop, Option, Some, None, refl, ap, sym, ◌∙◌, subst}
use Rattle.syn_tokens.specs.Tok.{Tok, weight}
use Rattle.syn_lower_spec.specs.Tree.{AttributeTree}
use Rattle.syn_lower_spec.specs.Form.{and_then}
use Rattle.syn_lower_spec.specs.Part.{outer_attributes, type}
use Rattle.syn_lower_spec.specs.Pat.{an_index}
use Rattle.syn_lower_spec.proofs.Same.{same_toks-true}
use Rattle.syn_expr_spec.specs.declared.kinds.Place.{Place}
use Rattle.syn_expr_spec.specs.declared.kinds.Infix.{Infix}
use Rattle.syn_expr_spec.specs.Place.{at, takes}
use Rattle.syn_expr_spec.specs.Op.{infix_at, level}
use Rattle.syn_expr_spec.specs.Tree as tr
use Rattle.syn_expr_spec.specs.Tree.{Tree, Postfix, Trailer, leaf, attributed, infixed, postfixed, tail, postfix_op}
use Rattle.syn_expr_spec.specs.Read.{Reading, content, is_taken, taken, atom, trailed_by, indexed_by, dotted_by, trailed, trail, core, attributed_by, read_attributed, verbatim_of, operand, postfix_made, infix_read, longer, closing, turn, climb, at_place, stop, taken_by, taken_at, next_operator, operation}
use Rattle.syn_expr_spec.proofs.Callees.{carries_it}
use Rattle.syn_expr_spec.proofs.Chains.{then_some, only_some, chosen}
use Rattle.syn_expr_spec.proofs.Needs.{Heads}
use Rattle.syn_lower_spec.specs.Mark.{pound, round_at}
use Rattle.syn_lower_spec.proofs.Weights.{some_is}
use Rattle.syn_expr_spec.specs.declared.kinds.Limits.TheVariants as limits
use Rattle.syn_expr_spec.specs.declared.kinds.Infix.TheVariants as inf
use Rattle.syn_expr_spec.specs.declared.kinds.Precedence.{Precedence}
use Rattle.syn_expr_spec.specs.Front.{ends_open_range, dot_at, question_at, bracket_at}
use Rattle.syn_expr_spec.specs.Head.{dotted, await_word, method_at}
use Rattle.syn_expr_spec.specs.Slot.{trailer_holder}
use Rattle.syn_expr_spec.specs.Stands.{Node, is_attributed_verbatim, is_attributed_by, is_infixed, is_postfixed, is_tail, is_indexed, Stands, ends, closes, ends_operation, fits_left, fits_base, infix_stands, postfix_stands, postfix_behind, takes_attributes, rests, is_range, fields_of, name_at, indices_at, trailer_head, fields_head, goes_behind, carries, is_cast}
use Rattle.syn_expr_spec.proofs.Sound.{moved, content_sound}
use Rattle.syn_expr_spec.proofs.SoundAtoms.{atom_sound, skip, no_some}

abbrev is_bare : Trailer → Bool
is_bare tr.call = true
is_bare tr.index = true
is_bare tr.try_expr = true
is_bare _ = false

verbatim_is : (x : Tree) (ts : List Tok) → verbatim_of x ≡ Some ts → x ≡ leaf (tr.verbatim ts)
verbatim_is (leaf (tr.verbatim us)) ts h = ap (λ z. leaf (tr.verbatim z)) (some_is h)
verbatim_is _ ts h = absurd cc

not_dotted : (k : Trailer) (l n : List Tok) → is_bare k ≡ true → dotted.behind k l ≡ Some n → ⊥
unfolding dotted
not_dotted tr.call l n b h = no_some (method_at l) n (skip (await_word.at l) _ _ n (λ i. no_some (await_word.at l) n i) h)
not_dotted tr.index l n b h = no_some (method_at l) n (skip (await_word.at l) _ _ n (λ i. no_some (await_word.at l) n i) h)
not_dotted tr.try_expr l n b h = no_some (method_at l) n (skip (await_word.at l) _ _ n (λ i. no_some (await_word.at l) n i) h)
not_dotted _ l n b h = absurd cc

dotted_head : (k : Trailer) (m h n : List Tok) (is : List ℕ) → dot_at m ≡ true → name_at (drop 1 m) ≡ Some (is, h) → dotted.behind k h ≡ Some n → trailer_head k m ≡ Some (is, n)
unfolding trailer_head
dotted_head tr.call m h n is d a b = absurd (not_dotted tr.call h n refl b)
dotted_head tr.index m h n is d a b = absurd (not_dotted tr.index h n refl b)
dotted_head tr.try_expr m h n is d a b = absurd (not_dotted tr.try_expr h n refl b)
dotted_head _ m h n is d a b = rw (d, a, b) refl

less_closes : (a c g : Bool) → not ((a || c) && g) ≡ true → not ((a || false) && g) ≡ true
less_closes true c g h = h
less_closes false c g h = refl

attributed_closes : (p : Place) (a : AttributeTree) (more : List AttributeTree) (x : Tree) (n : List Tok) → closes p x n ≡ true → closes p (attributed a more x) n ≡ true
unfolding closes
attributed_closes p a more x n h = less_closes (carries x) (is_cast x) (goes_behind (rests p x) n) h

-- a left operand: nothing is asked of it but what comes after
record Open (p : Place) (l : List Tok) (q : Tree × List Tok) : Type 0 where
  node : Node p l q.0 q.1
  closing : closes p q.0 q.1 ≡ true

opened : {p : Place} {l : List Tok} (q r : Tree × List Tok) → q ≡ r → Open p l q → Open p l r
opened {p} {l} q r h d = subst (λ (s : Tree × List Tok). Open p l s) h d

taken_some : (v : Precedence) (i o : Option (Infix × ℕ)) (k : Infix × ℕ) → i ≡ o → taken_by v o ≡ Some k → (i ≡ Some k) × (takes v (level k.0) ≡ true)
taken_some v i None k a h = absurd cc
taken_some v i (Some o) k a h =
    let (t, c) = only_some (takes v (level o.0)) (Some o) k h in
    (a ∙ c, subst (λ (r : Infix × ℕ). takes v (level r.0) ≡ true) (some_is c) t)

next_some : (p : Place) (x : Tree) (n : List Tok) (k : Infix × ℕ) → next_operator p x n ≡ Some k → (infix_at n ≡ Some k) × (takes p.level (level k.0) ≡ true)
unfolding taken_at
next_some p x n k h =
    ⊎_elim (λ c. absurd (cc c.1)) (λ c. taken_some p.level (infix_at n) (infix_at n) k refl c.1)
    (chosen (is_range x || rests p x) None (taken_by p.level (infix_at n)) (Some k) h)

stop_sound : (p : Place) (l m : List Tok) (x : Tree) (q : Tree × List Tok) → Node p l x m → closes p x m ≡ true → stop p x m ≡ Some q → Stands p l q.0 q.1
unfolding stop
stop_sound p l m x q d c h =
    let (a, b) = only_some (ends p x m) (Some (x, m)) q h in
    subst (λ (s : Tree × List Tok). Stands p l s.0 s.1) (some_is b) (record { node = d; ending = a; closing = c })

module _ (H : Heads) (rec : Place → Reading Tree) (sound : (p : Place) (l : List Tok) (x : Tree) (n : List Tok) → rec p l ≡ Some (x, n) → Stands p l x n) where
  -- ---- trailers

  trailer_sound : (p : Place) (l m h : List Tok) (b : Tree) (k : Trailer) (is : List ℕ) (q : Tree × List Tok) → Node p l b m → trailer_head k m ≡ Some (is, h)
      → trailed_by rec p b is k h ≡ Some q → Node p l q.0 q.1
  trailer_sound p l m h b k is q d a i =
      let (f, g) = only_some (fits_base p k b) (and_then (content rec (trailer_holder k) h) (λ ks n. Some (tail (fields_of b is) k ks, n))) q i in
      let (z, j, c) = then_some (content rec (trailer_holder k) h) (λ ks n. Some (tail (fields_of b is) k ks, n)) q g in
      moved (tail (fields_of b is) k z.0, z.1) q (some_is c) (is_tail d (carries_it p k b f) a (content_sound H rec sound (trailer_holder k) h z j) refl)

  indexed_sound : (p : Place) (l m n : List Tok) (b : Tree) (is : List ℕ) (q : Tree × List Tok) → Node p l b m → fields_head m ≡ Some (is, n) → indexed_by rec p b is n ≡ Some q → Node p l q.0 q.1
  indexed_sound p l m n b [] q d a h = absurd cc
  indexed_sound p l m n b (i ∷ is) q d a h =
      let (f, g) = only_some (fits_base p (tr.field (an_index i)) b) (Some (fields_of b (i ∷ is), n)) q h in
      moved (fields_of b (i ∷ is), n) q (some_is g) (is_indexed d (carries_it p (tr.field (an_index i)) b f) a refl)

  dotted_sound : (p : Place) (l m : List Tok) (b : Tree) (o : Option (List ℕ × List Tok)) (q : Tree × List Tok) → Node p l b m → dot_at m ≡ true → indices_at (drop 1 m) ≡ o
      → dotted_by rec p b o (drop 1 m) ≡ Some q → Node p l q.0 q.1
  unfolding fields_head
  dotted_sound p l m b (Some i) q d a v h = indexed_sound p l m i.1 b i.0 q d (rw (a, v) refl) h
  dotted_sound p l m b None q d a v h =
      let (z, i, f) = then_some (name_at (drop 1 m)) (λ is n. and_then (dotted.reads n) (trailed_by rec p b is)) q h in
      let (k, j, g) = then_some (dotted.reads z.1) (trailed_by rec p b z.0) q f in
      trailer_sound p l m k.1 b k.0 z.0 q d (dotted_head k.0 m z.1 k.1 z.0 a i (H.dots.sound z.1 k.0 k.1 j)) g

  trailed_sound : (p : Place) (l m : List Tok) (b : Tree) (q : Tree × List Tok) → Node p l b m → trailed rec p b m ≡ Some q → Node p l q.0 q.1
  unfolding trailed trailer_head
  trailed_sound p l m b q d h =
      ⊎_elim (λ j. trailer_sound p l m m b tr.call [] q d refl j.1) (λ f.
      ⊎_elim (λ j. trailer_sound p l m m b tr.index [] q d refl j.1) (λ g.
      ⊎_elim (λ j. trailer_sound p l m (drop 1 m) b tr.try_expr [] q d (rw j.0 refl) j.1)
      (λ i. let (a, c) = only_some (dot_at m) (dotted_by rec p b (indices_at (drop 1 m)) (drop 1 m)) q i.1 in dotted_sound p l m b (indices_at (drop 1 m)) q d a refl c)
      (chosen (question_at m) _ _ (Some q) g.1)) (chosen (bracket_at m) _ _ (Some q) f.1)) (chosen (round_at m) _ _ (Some q) h)

  trail_sound : (n : ℕ) (p : Place) (l m : List Tok) (b : Tree) (q : Tree × List Tok) → Node p l b m → trail rec p n b m ≡ Some q → Open p l q
  unfolding trail
  trail_sound zero p l m b q d h = absurd cc
  trail_sound (suc n) p l m b q d h =
      ⊎_elim (λ j. opened (b, m) q (some_is j.1) (record { node = d; closing = j.0 }))
      (λ j. let (z, i, f) = then_some (trailed rec p b m) (trail rec p n) q j.1 in trail_sound n p l z.1 z.0 q (trailed_sound p l m b z d i) f)
      (chosen (closes p b m) (Some (b, m)) (and_then (trailed rec p b m) (trail rec p n)) (Some q) h)

  core_sound : (p : Place) (l : List Tok) (q : Tree × List Tok) → core rec p l ≡ Some q → Open p l q
  unfolding core
  core_sound p l q h =
      let (z, i, f) = then_some (atom rec p l) (λ b m. trail rec p (suc (weight m)) b m) q h in
      trail_sound (suc (weight z.1)) p l z.1 z.0 q (atom_sound H rec sound p l z i) f

  -- ---- attributes

  attributed_sound : (p : Place) (l m n : List Tok) (a : AttributeTree) (more : List AttributeTree) (x : Tree) (o : Option (List Tok)) (q : Tree × List Tok)
      → outer_attributes.behind (a ∷ more) l ≡ Some m → Open p m (x, n) → verbatim_of x ≡ o → attributed_by p l m a more x o n ≡ Some q → Open p l q
  unfolding closes
  attributed_sound p l m n a more x None q b d v h =
      let (f, g) = only_some (takes_attributes p x) (Some (attributed a more x, n)) q h in
      opened (attributed a more x, n) q (some_is g) (record { node = is_attributed_by b f d.node; closing = attributed_closes p a more x n d.closing })
  attributed_sound p l m n a more x (Some ts) q b d v h =
      let (f, g) = only_some (is_taken l m) (Some (leaf (tr.verbatim (taken l m ++ ts)), n)) q h in
      let w = subst (λ z. Open p m (z, n)) (verbatim_is x ts v) d in
      opened (leaf (tr.verbatim (taken l m ++ ts)), n) q (some_is g)
      (record { node = is_attributed_verbatim a more (taken l m) b w.node (sym (same_toks-true (taken l m ++ m) l f)) refl; closing = w.closing })

  read_attributed_sound : (p : Place) (l m : List Tok) (ats : List AttributeTree) (z q : Tree × List Tok) → outer_attributes.behind ats l ≡ Some m → Open p m z → read_attributed p l m ats z.0 z.1 ≡ Some q → Open p l q
  read_attributed_sound p l m [] z q b d h = absurd cc
  read_attributed_sound p l m (a ∷ more) z q b d h = attributed_sound p l m z.1 a more z.0 (verbatim_of z.0) q b d refl h

  operand_sound : (p : Place) (l : List Tok) (q : Tree × List Tok) → operand rec p l ≡ Some q → Open p l q
  unfolding operand
  operand_sound p l q h =
      ⊎_elim (λ j.
      let (ats, i, f) = then_some (outer_attributes.reads l) (λ ats m. and_then (core rec p m) (read_attributed p l m ats)) q j.1 in
      let (z, k, g) = then_some (core rec p ats.1) (read_attributed p l ats.1 ats.0) q f in
      read_attributed_sound p l ats.1 ats.0 z q (H.outers.sound l ats.0 ats.1 i) (core_sound p ats.1 z k) g) (λ j. core_sound p l q j.1)
      (chosen (pound.at l) (and_then (outer_attributes.reads l) (λ ats m. and_then (core rec p m) (read_attributed p l m ats))) (core rec p l) (Some q) h)

  -- ---- operations

  record Left (p : Place) (l m : List Tok) (x : Tree) (op : Infix) (count : ℕ) : Type 0 where
    node : Node p l x m
    closing : closes p x m ≡ true
    fits : fits_left p op x ≡ true
    found : infix_at m ≡ Some (op, count)
    takes_it : takes p.level (level op) ≡ true

  postfix_sound : (p : Place) (l m n : List Tok) (x : Tree) (k : Postfix) (count : ℕ) (q : Tree × List Tok) → Left p l m x (postfix_op k) count → postfix_behind k (drop count m) ≡ Some n
      → postfix_made rec p x k n ≡ Some q → Node p l q.0 q.1
  postfix_sound p l m n x k count q d b h =
      let (f, g) = only_some (postfix_stands p k n) (operation (postfix_op k) (postfixed x k) n) q h in
      let (i, j) = only_some (ends_operation (postfix_op k) n) (Some (postfixed x k, n)) q g in
      moved (postfixed x k, n) q (some_is j) (is_postfixed d.node d.closing d.fits d.found d.takes_it b f i)

  infix_sound : (p : Place) (l m : List Tok) (x : Tree) (op : Infix) (count : ℕ) (q : Tree × List Tok) → Left p l m x op count → infix_read rec p x op (drop count m) ≡ Some q → Node p l q.0 q.1
  infix_sound p l m x op count q d h =
      let (f, g) = only_some (infix_stands p op (drop count m)) (and_then (rec (at p (level op)) (drop count m)) (λ y. operation op (infixed x op y))) q h in
      let (z, i, j) = then_some (rec (at p (level op)) (drop count m)) (λ y. operation op (infixed x op y)) q g in
      let (a, b) = only_some (ends_operation op z.1) (Some (infixed x op z.0, z.1)) q j in
      let s = sound (at p (level op)) (drop count m) z.0 z.1 i in
      moved (infixed x op z.0, z.1) q (some_is b) (is_infixed d.node d.closing d.fits d.found d.takes_it f s.node s.ending s.closing a)

  longer_sound : (p : Place) (l m : List Tok) (x : Tree) (op : Infix) (count : ℕ) (q : Tree × List Tok) → Left p l m x op count → longer rec p x op (drop count m) ≡ Some q → Node p l q.0 q.1
  unfolding longer
  longer_sound p l m x (inf.Range limits.HalfOpen) count q d h =
      ⊎_elim (λ j. postfix_sound p l m (drop count m) x (tr.range_from limits.HalfOpen) count q d refl j.1) (λ j. infix_sound p l m x (inf.Range limits.HalfOpen) count q d j.1)
      (chosen (ends_open_range p.condition (drop count m)) _ _ (Some q) h)
  longer_sound p l m x inf.Cast count q d h =
      let (ty, i, f) = then_some ((type false).reads (drop count m)) (λ ty. postfix_made rec p x (tr.cast ty)) q h in
      postfix_sound p l m ty.1 x (tr.cast ty.0) count q d (H.types.sound (drop count m) ty.0 ty.1 i) f
  longer_sound p l m x v count q d h = infix_sound p l m x v count q d h

  climb_sound : (n : ℕ) (p : Place) (l m : List Tok) (x : Tree) (q : Tree × List Tok) → Node p l x m → closes p x m ≡ true → climb rec p n x m ≡ Some q → Stands p l q.0 q.1
  unfolding climb
  climb_sound zero p l m x q d c h = absurd cc
  climb_sound (suc n) p l m x q d c h = by_next (λ m' y d' c' i. climb_sound n p l m' y q d' c' i) (next_operator p x m) refl h
    where
      by_next : ((m' : List Tok) (y : Tree) → Node p l y m' → closes p y m' ≡ true → climb rec p n y m' ≡ Some q → Stands p l q.0 q.1)
          → (o : Option (Infix × ℕ)) → next_operator p x m ≡ o → turn rec p x o (climb rec p n) m ≡ Some q → Stands p l q.0 q.1
      by_next again None i k = stop_sound p l m x q d c k
      by_next again (Some o) i k =
          let (f, g) = only_some (fits_left p o.0 x) (and_then (and_then (longer rec p x o.0 (drop o.1 m)) (closing rec p)) (climb rec p n)) q k in
          let (y, a, b) = then_some (and_then (longer rec p x o.0 (drop o.1 m)) (closing rec p)) (climb rec p n) q g in
          let (z, j, r) = then_some (longer rec p x o.0 (drop o.1 m)) (closing rec p) y a in
          let (s, t) = only_some (closes p z.0 z.1) (Some z) y r in
          let (u, v) = next_some p x m o i in
          let e = longer_sound p l m x o.0 o.1 z (record { node = d; closing = c; fits = f; found = u; takes_it = v }) j in
          let w = opened z y (some_is t) (record { node = e; closing = s }) in
          again y.1 y.0 w.node w.closing b

  pub at_place_sound : (p : Place) (l : List Tok) (q : Tree × List Tok) → at_place rec p l ≡ Some q → Stands p l q.0 q.1
  unfolding at_place
  at_place_sound p l q h =
      let (z, i, f) = then_some (operand rec p l) (λ x m. climb rec p (suc (weight m)) x m) q h in
      let d = operand_sound p l z i in
      climb_sound (suc (weight z.1)) p l z.1 z.0 q d.node d.closing f
