-- Operands in places of their own: what stands is read.
use Rattle.std.proofs.Common.{◌≡◌, ℕ, zero, suc, ◌<◌, ◌≤◌, Bool, true, false, ⊎_elim, List, [], ◌∷◌, drop, Option, Some, None, refl, ap, sym, subst, arith}
use Rattle.std.proofs.lemmas.Bool.{and_parts}
use Rattle.syn_lexer.specs.declared.front.Delimiter.TheVariants as del
use Rattle.syn_lexer.specs.declared.front.Delimiter.{Delimiter}
use Rattle.syn_tokens.specs.Tok.{Tok, weight}
use Rattle.syn_tokens.specs.Front.{group_at, is_empty}
use Rattle.syn_tokens.specs.Input.{IsTail}
use Rattle.syn_lower_spec.specs.Tree.{AttributeTree}
use Rattle.syn_lower_spec.specs.Mark.{brace_at}
use Rattle.syn_lower_spec.specs.Part.{inner_attributes}
use Rattle.syn_lower_spec.specs.Pat.{a_name, dots}
use Rattle.syn_lower_spec.proofs.Weights.{some_is}
use Rattle.syn_expr_spec.specs.declared.kinds.Place.{Place}
use Rattle.syn_expr_spec.specs.Place.{before_block}
use Rattle.syn_expr_spec.specs.Tree as tr
use Rattle.syn_expr_spec.specs.Tree.{Tree, Children, Piece, Ending, none, child, plain_block, is_silent}
use Rattle.syn_expr_spec.specs.Slot as s
use Rattle.syn_expr_spec.specs.Slot.{Slot, Holder, conditions, scrutinees, arms, after, may_end, piece_form, piece_place, ending_at, is_scrutinee, is_rest, if_word, else_word}
use Rattle.syn_expr_spec.specs.Stands.{Node, is_indexed, is_frame, Content, holds_none, holds_within, holds_bare, Operands, no_more, one_more, short, block, arms_inside, Stands, ends, closes, ends_piece, short_value, takes_block, is_if_expr, fields_of}
use Rattle.syn_expr_spec.specs.Read.{Reading, is_scrutinees, if_expr_by, operand_of, operands_by, operands, bare_operands, content}
use Rattle.syn_expr_spec.proofs.HeadMoves.{IsLess, less_then, then_less, grouped, group_inside, left, frame_less, ending_left, tail_falls}
use Rattle.syn_expr_spec.proofs.Chains.{only_some, chosen}
use Rattle.syn_expr_spec.proofs.Needs.{heads}
use Rattle.syn_expr_spec.proofs.Lesses.{here, node_less, short_less}
use Rattle.syn_expr_spec.proofs.Fronts.{word_no_brace}

-- ---- slots

not_scrutinees : (v : Slot) (k : Piece) (l m : List Tok) → (piece_form v).behind k l ≡ Some m → is_scrutinee k ≡ false → is_scrutinees v ≡ false
unfolding piece_form
not_scrutinees s.scrutinees k l m h g = let (a, b) = only_some (is_scrutinee k) (Some l) m h in absurd (cc (a, g))
not_scrutinees _ k l m h g = refl

ending_no_scrutinee : (k : Piece) (x : Tree) (l : List Tok) (c : Ending × List Tok) → ending_at k x l ≡ Some c → is_scrutinee k ≡ false
unfolding ending_at
ending_no_scrutinee tr.scrutinee x l c h = absurd cc
ending_no_scrutinee _ x l c h = refl

block_no_scrutinee : (k : Piece) → takes_block k ≡ true → is_scrutinee k ≡ false
block_no_scrutinee tr.scrutinee h = absurd cc
block_no_scrutinee _ h = refl

end_no_scrutinees : (v : Slot) (l : List Tok) → may_end v l ≡ true → is_scrutinees v ≡ false
end_no_scrutinees s.scrutinees l h = absurd cc
end_no_scrutinees _ l h = refl

pub there : {n l : List Tok} → IsLess n l → is_empty l ≡ false
unfolding weight
there {n} {l} h = go l h.less
  where
    go : (l : List Tok) → weight n < weight l → is_empty l ≡ false
    go [] i = absurd (omega arith)
    go (x ∷ l) i = refl

not_ended : (v : Slot) (k : Piece) (l m : List Tok) → (piece_form v).behind k l ≡ Some m → is_empty l ≡ false → (is_rest k ≡ true → is_empty m ≡ false) → may_end v l ≡ false
unfolding piece_form
not_ended s.elements k l m h g f = g
not_ended s.arms k l m h g f = g
not_ended s.otherwise k l m h g f = let (a, b) = only_some (else_word.at l) _ m h in rw a refl
not_ended s.done k l m h g f = absurd cc
not_ended s.fields k l m h g f =
    ⊎_elim (λ j.
    let (a, b) = only_some (dots.at l) _ m j.1 in
    let (c, d) = only_some (is_rest k) (Some (drop 2 l)) m b in
    let i : is_empty (drop 2 l) ≡ false = subst (λ z. is_empty z ≡ false) (sym (some_is d)) (f c) in rw (g, a, i) refl) (λ j. rw (g, j.0) refl)
    (chosen (dots.at l) _ _ (Some m) h)
not_ended _ k l m h g f = refl

not_silent : (k : Piece) → is_silent k ≡ false → short_value k ≡ None
not_silent (tr.field_value ats (a_name w) false) h = absurd cc
not_silent _ h = refl

short_no_block : (k : Piece) (x : Tree) → short_value k ≡ Some x → (takes_block k ≡ false) × (is_rest k ≡ false)
short_no_block (tr.field_value ats m c) x h = (refl, refl)
short_no_block _ x h = absurd cc

block_no_rest : (k : Piece) → takes_block k ≡ true → is_rest k ≡ false
block_no_rest tr.chained h = refl
block_no_rest tr.output_block h = refl
block_no_rest _ h = absurd cc

ends_both : (k : Piece) (x : Tree) (n : List Tok) → takes_block k ≡ false → ends_piece k x n ≡ true → (ends (piece_place k) x n ≡ true) × (closes (piece_place k) x n ≡ true)
ends_both tr.chained x n t h = absurd cc
ends_both tr.output_block x n t h = absurd cc
ends_both _ x n t h = and_parts _ _ h

module _ (rec : Place → Reading Tree) where
  step_read : (more : Slot → Reading Children) (v : Slot) (l m n o : List Tok) (q : Piece) (c : Ending) (x : Tree) (ks : Children) → is_scrutinees v ≡ false → may_end v l ≡ false
      → (piece_form v).reads l ≡ Some (q, m) → operand_of rec (more conditions) q m ≡ Some ((c, x), n) → more (after q) n ≡ Some (ks, o) → operands_by rec more v l ≡ Some (child q c x ks, o)
  step_read more v l m n o q c x ks a b d f g = rw (a, b, d, f, g) refl

  end_read : (more : Slot → Reading Children) (v : Slot) (l : List Tok) → is_scrutinees v ≡ false → may_end v l ≡ true → operands_by rec more v l ≡ Some (none, l)
  end_read more v l a b = rw (a, b) refl

  arms_read : (more : Slot → Reading Children) (l h i j n : List Tok) (ats : List AttributeTree) (x : Tree) (ks : Children) → rec before_block l ≡ Some (x, h) → group_at del.Brace h ≡ Some (i, n)
      → inner_attributes.reads i ≡ Some (ats, j) → more arms j ≡ Some (ks, []) → operands_by rec more scrutinees l ≡ Some (child tr.scrutinee (tr.opened ats) x ks, n)
  arms_read more l h i j n ats x ks a b d f = rw (a, b, d, f) refl

  value_read : (inner : Reading Children) (q : Piece) (m h n : List Tok) (c : Ending) (x : Tree) → takes_block q ≡ false → short_value q ≡ None → is_silent q ≡ false
      → rec (piece_place q) m ≡ Some (x, h) → ending_at q x h ≡ Some (c, n) → operand_of rec inner q m ≡ Some ((c, x), n)
  value_read inner q m h n c x a b d f g = rw (a, b, d, f, g) refl

  short_read : (inner : Reading Children) (q : Piece) (m n : List Tok) (c : Ending) (x : Tree) → takes_block q ≡ false → short_value q ≡ Some x → ending_at q x m ≡ Some (c, n)
      → operand_of rec inner q m ≡ Some ((c, x), n)
  short_read inner q m n c x a b d = rw (a, b, d) refl

  block_read : (inner : Reading Children) (q : Piece) (m i n : List Tok) → takes_block q ≡ true → group_at del.Brace m ≡ Some (i, n) → operand_of rec inner q m ≡ Some ((tr.no_ending, plain_block i), n)
  unfolding brace_at
  block_read inner q m i n a b = rw (a, b) refl

  -- an `if` that was read
  record IfExpr (inner : Reading Children) (l : List Tok) (x : Tree) (n : List Tok) : Type 0 where
    word : if_word.at l ≡ true
    reading : if_expr_by rec inner l ≡ Some (x, n)

  chain_read : (inner : Reading Children) (q : Piece) (m h n : List Tok) (c : Ending) (x : Tree) → takes_block q ≡ true → ends_piece q x h ≡ true → ending_at q x h ≡ Some (c, n)
      → (is_if_expr x ≡ true → IfExpr inner m x h) → operand_of rec inner q m ≡ Some ((c, x), n)
  unfolding ending_at
  chain_read inner tr.chained m h n c x a b d f = let g = f b in rw (word_no_brace _ m g.word, g.reading) (ap (λ (r : Ending × List Tok). Some ((r.0, x), r.1)) (some_is d))
  chain_read inner _ m h n c x a b d f = absurd cc

  one_read : (n : ℕ) (v : Slot) (l m h r o : List Tok) (q : Piece) (c : Ending) (x : Tree) (ks : Children) → (piece_form v).behind q l ≡ Some m → is_silent q ≡ false → IsLess h m → IsLess r l
      → (takes_block q ≡ false → rec (piece_place q) m ≡ Some (x, h)) → ends_piece q x h ≡ true → ending_at q x h ≡ Some (c, r) → (is_if_expr x ≡ true → IfExpr (operands rec n conditions) m x h)
      → operands rec n (after q) r ≡ Some (ks, o) → operands_by rec (operands rec n) v l ≡ Some (child q c x ks, o)
  one_read n v l m h r o q c x ks p u f g w i j b k =
      step_read (operands rec n) v l m r o q c x ks (not_scrutinees v q l m p (ending_no_scrutinee q x h (c, r) j)) (not_ended v q l m p (there g) (λ z. there f)) ((heads.pieces v).found l q m p)
      (⊎_elim (λ z. chain_read (operands rec n conditions) q m h r c x z.0 i j b) (λ z. value_read (operands rec n conditions) q m h r c x z.0 (not_silent q u) u (w z.0) j)
      (chosen (takes_block q) true false _ refl)) k

  -- with a bound above the weight
  enough : (n : ℕ) (v : Slot) (l : List Tok) (z : Option (Children × List Tok)) → weight l < n → ((j : ℕ) → weight l ≤ j → operands rec (suc j) v l ≡ z) → operands rec n v l ≡ z
  enough zero v l z b f = absurd (omega arith)
  enough (suc j) v l z b f = f j (omega arith)

  fields_no_if_expr : (b : Tree) (i : ℕ) (is : List ℕ) → is_if_expr (fields_of b (i ∷ is)) ≡ false
  fields_no_if_expr b i [] = refl
  fields_no_if_expr b i (j ∷ is) = fields_no_if_expr _ j is

  module _ (k : ℕ) (complete : (p : Place) (l n : List Tok) (x : Tree) → weight l < k → Stands p l x n → rec p l ≡ Some (x, n)) where
    pub full : (p : Place) (l n : List Tok) (x : Tree) → weight l < k → Node p l x n → ends p x n ≡ true → closes p x n ≡ true → rec p l ≡ Some (x, n)
    full p l n x b d e c = complete p l n x b (record { node = d; ending = e; closing = c })

    full_piece : (q : Piece) (m h : List Tok) (x : Tree) → weight m < k → Node (piece_place q) m x h → ends_piece q x h ≡ true → takes_block q ≡ false → rec (piece_place q) m ≡ Some (x, h)
    full_piece q m h x b d e t = let (a, c) = ends_both q x h t e in full (piece_place q) m h x b d a c

    weight_left : {n l : List Tok} → IsTail n l → weight n ≤ weight l
    weight_left h = tail_falls h

    mutual
      unfolding operands

      operands_read : {v : Slot} {l o : List Tok} {ks : Children} → Operands v l ks o → (n : ℕ) → weight l ≤ n → weight l < k → operands rec (suc n) v l ≡ Some (ks, o)
      operands_read (no_more {s = v} {n = l} h) n b f = end_read (operands rec n) v l (end_no_scrutinees v l h) h
      operands_read (one_more {s = v} {l = l} {m = m} {h = h} {n = r} {o = o} {k = q} {c = c} {x = x} {ks = ks} p u d e g more) n b f =
          let a = left (here.pieces v) q l m p in
          let i = node_less d in
          let j = then_less a (less_then i (ending_left q x h c r g)) in
          one_read n v l m h r o q c x ks p u i j (λ t. full_piece q m h x (omega (arith, weight_left a)) d e t) e g (λ z. if_expr_read d z n (omega (arith, weight_left a)) (omega (arith, weight_left a)))
          (enough n (after q) r (Some (ks, o)) (omega (arith, j.less)) (λ y z. operands_read more y z (omega (arith, j.less))))
      operands_read (short {s = v} {l = l} {m = m} {n = r} {o = o} {k = q} {c = c} {x = x} {ks = ks} p u g more) n b f =
          let j = less_then (short_less v q l m x p u) (ending_left q x m c r g) in
          let (t, w) = short_no_block q x u in
          step_read (operands rec n) v l m r o q c x ks (not_scrutinees v q l m p (ending_no_scrutinee q x m (c, r) g)) (not_ended v q l m p (there j) (λ z. absurd (cc (z, w)))) ((heads.pieces v).found l q m p)
          (short_read (operands rec n conditions) q m r c x t u g)
          (enough n (after q) r (Some (ks, o)) (omega (arith, j.less)) (λ y z. operands_read more y z (omega (arith, j.less))))
      operands_read (block {s = v} {l = l} {m = m} {i = i} {n = r} {o = o} {k = q} {ks = ks} p t g more) n b f =
          let j = then_less (left (here.pieces v) q l m p) (grouped del.Brace m i r g) in
          step_read (operands rec n) v l m r o q tr.no_ending (plain_block i) ks (not_scrutinees v q l m p (block_no_scrutinee q t)) (not_ended v q l m p (there j) (λ z. absurd (cc (z, block_no_rest q t))))
          ((heads.pieces v).found l q m p) (block_read (operands rec n conditions) q m i r t g)
          (enough n (after q) r (Some (ks, o)) (omega (arith, j.less)) (λ y z. operands_read more y z (omega (arith, j.less))))
      operands_read (arms_inside {l = l} {i = i} {h = h} {j = j} {n = r} {ats = ats} {x = x} {ks = ks} d e c g a more) n b f =
          let u = node_less d in
          let w = group_inside del.Brace h i r g in
          let y = weight_left (left here.inner ats i j a) in
          arms_read (operands rec n) l h i j r ats x ks (full before_block l h x f d e c) g (heads.inners.found i ats j a)
          (enough n arms j (Some (ks, [])) (omega (arith, u.less, w, y)) (λ z t. operands_read more z t (omega (arith, u.less, w, y))))

      if_expr_read : {p : Place} {l n : List Tok} {x : Tree} → Node p l x n → is_if_expr x ≡ true → (j : ℕ) → weight l ≤ j → weight l < k → IfExpr (operands rec j conditions) l x n
      if_expr_read (is_frame {l = l} {h = h} {k = tr.if_expr} {ks = ks} a (holds_bare {n = n} more) g e) i j b f =
          let (w, y) = only_some (if_word.at l) (Some (drop 1 l)) h a in
          let u = frame_less tr.if_expr l h refl a in
          let r : operands rec j conditions (drop 1 l) ≡ Some (ks, n) = subst (λ z. operands rec j conditions z ≡ Some (ks, n)) (sym (some_is y))
          (enough j conditions h (Some (ks, n)) (omega (arith, u.less)) (λ z t. operands_read more z t (omega (arith, u.less)))) in
          record { word = w; reading = rw (w, r) refl }
      if_expr_read (is_indexed {b = c} {i = y} {is = is} d f t v) i j b g = absurd (cc (i, v, fields_no_if_expr c y is))
      if_expr_read _ i j b f = absurd cc

    pub bare_read : (v : Slot) (l o : List Tok) (ks : Children) → Operands v l ks o → weight l < k → bare_operands rec v l ≡ Some (ks, o)
    unfolding bare_operands
    bare_read v l o ks d b = operands_read d (weight l) (omega arith) b

    pub within_read : (d : Delimiter) (v : Slot) (b : Bool) (l n : List Tok) (ks : Children) → Content (s.within d v b) l ks n → weight l ≤ k → content rec (s.within d v b) l ≡ Some (ks, n)
    unfolding content
    within_read d v b l n ks (holds_within {i = i} {o = o} g more f) t =
        let a = group_inside d l i n g in
        rw (g, bare_read v i o ks more (omega arith), f) refl

    pub content_read : (v : Holder) (l n : List Tok) (ks : Children) → Content v l ks n → weight l < k → content rec v l ≡ Some (ks, n)
    unfolding content
    content_read (s.within d v b) l n ks c t = within_read d v b l n ks c (omega arith)
    content_read (s.bare v) l n ks (holds_bare more) t = bare_read v l n ks more t
    content_read s.nothing l n ks holds_none t = refl
