-- What is read stands for the tokens.
use Rattle.std.specs.Prelude.{not, ◌&&◌, if◌then◌else◌}
use Rattle.std.proofs.Common.{◌≡◌, ℕ, zero, suc, true, false, ⊎_elim, List, [], ◌∷◌, drop, Option, Some, None, refl, ap, sym, subst}
use Rattle.std.proofs.lemmas.Bool.{and_parts, not-true}
use Rattle.syn_lexer.specs.declared.front.Delimiter.TheVariants as del
use Rattle.syn_lexer.specs.declared.front.Delimiter.{Delimiter}
use Rattle.syn_tokens.specs.Tok.{Tok, Inside, ident, literal, punct, group, toks, weight}
use Rattle.syn_tokens.specs.Front.{group_at, same_delimiter, is_empty}
use Rattle.syn_lower_spec.specs.Form.{and_then}
use Rattle.syn_lower_spec.specs.Mark.{brace_at}
use Rattle.syn_lower_spec.specs.Part.{inner_attributes}
use Rattle.syn_lower_spec.proofs.Weights.{some_is}
use Rattle.syn_expr_spec.specs.declared.kinds.Place.{Place}
use Rattle.syn_expr_spec.specs.Place.{plain, before_block}
use Rattle.syn_expr_spec.specs.Tree as tr
use Rattle.syn_expr_spec.specs.Tree.{Tree, Children, Frame, Piece, Ending, leaf, frame, none, child, plain_block, is_silent}
use Rattle.syn_expr_spec.specs.Head.{leaf_form}
use Rattle.syn_expr_spec.specs.Slot.{Slot, Holder, elements, conditions, scrutinees, arms, after, may_end, piece_form, piece_place, ending_at, frame_head, frame_holder, nothing, within, bare, is_chained, if_word, comma_or_end}
use Rattle.syn_expr_spec.specs.Stands.{Node, is_leaf, is_frame, Content, holds_none, holds_within, holds_bare, Operands, no_more, one_more, short, block, arms_inside, Stands, ends, closes, ends_piece, ends_list, short_value, takes_block, leaf_stands, frame_stands, frame_ends, is_if_expr}
use Rattle.syn_expr_spec.specs.Read.{Reading, standing, leaf_read, is_scrutinees, ended_by, if_expr_by, block_by, value_by, operand_of, armed, operands_by, operands, bare_operands, ended_list, content, framed_by, all_of, before}
use Rattle.syn_expr_spec.proofs.Chains.{then_some, all_some, before_some, only_some, chosen}
use Rattle.syn_expr_spec.proofs.Needs.{Heads}

pub moved : {p : Place} {l : List Tok} (q r : Tree × List Tok) → q ≡ r → Node p l q.0 q.1 → Node p l r.0 r.1
moved {p} {l} q r h d = subst (λ (s : Tree × List Tok). Node p l s.0 s.1) h d

children_moved : {s : Slot} {l : List Tok} (q r : Children × List Tok) → q ≡ r → Operands s l q.0 q.1 → Operands s l r.0 r.1
children_moved {s} {l} q r h d = subst (λ (t : Children × List Tok). Operands s l t.0 t.1) h d

is_scrutinee_slot : (s : Slot) → is_scrutinees s ≡ true → s ≡ scrutinees
is_scrutinee_slot scrutinees h = refl
is_scrutinee_slot _ h = absurd cc

is_chained_piece : (k : Piece) → is_chained k ≡ true → k ≡ tr.chained
is_chained_piece tr.chained h = refl
is_chained_piece _ h = absurd cc

pub ends_a_piece : (k : Piece) (x : Tree) (n : List Tok) → takes_block k ≡ false → ends (piece_place k) x n ≡ true → closes (piece_place k) x n ≡ true → ends_piece k x n ≡ true
ends_a_piece tr.chained x n t a b = absurd cc
ends_a_piece tr.output_block x n t a b = absurd cc
ends_a_piece _ x n t a b = rw (a, b) refl

module _ (H : Heads) where
  pub leaf_read_sound : (p : Place) (l : List Tok) (q : Tree × List Tok) → leaf_read p l ≡ Some q → Node p l q.0 q.1
  unfolding leaf_read
  leaf_read_sound p l q h =
      let (z, e, f) = then_some (leaf_form.reads l) (standing p) q h in
      let (s, g) = only_some (leaf_stands p z.0 z.1) (Some (leaf z.0, z.1)) q f in
      moved (leaf z.0, z.1) q (some_is g) (is_leaf (H.leaves.sound l z.0 z.1 e) s)

  module _ (rec : Place → Reading Tree) (sound : (p : Place) (l : List Tok) (x : Tree) (n : List Tok) → rec p l ≡ Some (x, n) → Stands p l x n) where
    -- ---- operands in places of their own

    abbrev Follows : Slot → List Tok → Piece → (Ending × Tree) × List Tok → Type 0
    Follows s l k c = (ks : Children) (o : List Tok) → Operands (after k) c.1 ks o → Operands s l (child k c.0.0 c.0.1 ks) o

    abbrev Chained_by : Reading Children → Slot → List Tok → List Tok → (Ending × Tree) × List Tok → Piece → Type 0
    Chained_by inner s l m c k = (piece_form s).behind k l ≡ Some m → and_then (if_expr_by rec inner m) (ended_by rec k) ≡ Some c → Follows s l k c

    if_expr_sound : (inner : Reading Children) → ((l : List Tok) (q : Children × List Tok) → inner l ≡ Some q → Operands conditions l q.0 q.1)
        → (p : Place) (l : List Tok) (q : Tree × List Tok) → if_expr_by rec inner l ≡ Some q → (Node p l q.0 q.1) × ((ks : Children) × (q.0 ≡ frame tr.if_expr ks))
    unfolding frame_stands frame_ends
    if_expr_sound inner again p l q h =
        let (w, f) = only_some (if_word.at l) (and_then (inner (drop 1 l)) (λ ks n. Some (frame tr.if_expr ks, n))) q h in
        let (z, i, g) = then_some (inner (drop 1 l)) (λ ks n. Some (frame tr.if_expr ks, n)) q f in
        let y : (frame tr.if_expr z.0, z.1) ≡ q = some_is g in
        (moved (frame tr.if_expr z.0, z.1) q y (is_frame (rw w refl) (holds_bare (again (drop 1 l) z i)) refl refl), (z.0, ap (λ (r : Tree × List Tok). r.0) (sym y)))

    chain_sound : (inner : Reading Children) → ((l : List Tok) (q : Children × List Tok) → inner l ≡ Some q → Operands conditions l q.0 q.1)
        → (s : Slot) (l m : List Tok) (c : (Ending × Tree) × List Tok) → (piece_form s).behind tr.chained l ≡ Some m
        → and_then (if_expr_by rec inner m) (ended_by rec tr.chained) ≡ Some c → Follows s l tr.chained c
    unfolding ending_at
    chain_sound inner again s l m c e f =
        let (z, i, g) = then_some (if_expr_by rec inner m) (ended_by rec tr.chained) c f in
        let (node, kind) = if_expr_sound inner again plain m z i in
        let v : is_if_expr z.0 ≡ true = rw kind.1 refl in
        subst (λ (d : (Ending × Tree) × List Tok). Follows s l tr.chained d) (some_is g) (λ ks o r. one_more e refl node v refl r)

    block_sound : (inner : Reading Children) → ((l : List Tok) (q : Children × List Tok) → inner l ≡ Some q → Operands conditions l q.0 q.1)
        → (s : Slot) (l m : List Tok) (k : Piece) (c : (Ending × Tree) × List Tok) → (piece_form s).behind k l ≡ Some m → takes_block k ≡ true
        → block_by rec inner k m ≡ Some c → Follows s l k c
    block_sound inner again s l m k c e t h =
        ⊎_elim (λ j.
        let (g, i, f) = then_some (group_at del.Brace m) (λ i n. Some ((tr.no_ending, plain_block i), n)) c j.1 in
        subst (λ (d : (Ending × Tree) × List Tok). Follows s l k d) (some_is f) (λ ks o d. block e t i d)) (λ j.
        let (d, f) = only_some (is_chained k) (and_then (if_expr_by rec inner m) (ended_by rec k)) c j.1 in
        let v = is_chained_piece k d in
        subst (λ (r : Piece). Chained_by inner s l m c r) (sym v) (λ i g. chain_sound inner again s l m c i g) e f)
        (chosen (brace_at m) (and_then (group_at del.Brace m) (λ i n. Some ((tr.no_ending, plain_block i), n))) _ (Some c) h)

    value_sound : (s : Slot) (l m : List Tok) (k : Piece) (c : (Ending × Tree) × List Tok) (o : Option Tree) → short_value k ≡ o → (piece_form s).behind k l ≡ Some m → takes_block k ≡ false
        → value_by rec k o m ≡ Some c → Follows s l k c
    value_sound s l m k c (Some x) v e t h =
        let (a, y, b) = then_some (ending_at k x m) (λ c n. Some ((c, x), n)) c h in
        subst (λ (d : (Ending × Tree) × List Tok). Follows s l k d) (some_is b) (λ ks o d. short e v y d)
    value_sound s l m k c None v e t h =
        let (d, f) = only_some (not (is_silent k)) (and_then (rec (piece_place k) m) (ended_by rec k)) c h in
        let (z, i, g) = then_some (rec (piece_place k) m) (ended_by rec k) c f in
        let (a, y, b) = then_some (ending_at k z.0 z.1) (λ c n. Some ((c, z.0), n)) c g in
        let s' = sound (piece_place k) m z.0 z.1 i in
        subst (λ (d : (Ending × Tree) × List Tok). Follows s l k d) (some_is b)
        (λ ks o r. one_more e (not-true (is_silent k) d) s'.node (ends_a_piece k z.0 z.1 t s'.ending s'.closing) y r)

    operand_sound : (inner : Reading Children) → ((l : List Tok) (q : Children × List Tok) → inner l ≡ Some q → Operands conditions l q.0 q.1)
        → (s : Slot) (l m : List Tok) (k : Piece) (c : (Ending × Tree) × List Tok) → (piece_form s).behind k l ≡ Some m
        → operand_of rec inner k m ≡ Some c → Follows s l k c
    operand_sound inner again s l m k c e h =
        ⊎_elim (λ j. block_sound inner again s l m k c e j.0 j.1) (λ j. value_sound s l m k c (short_value k) refl e j.0 j.1)
        (chosen (takes_block k) (block_by rec inner k m) (value_by rec k (short_value k) m) (Some c) h)

    armed_sound : (inner : Reading Children) → ((l : List Tok) (q : Children × List Tok) → inner l ≡ Some q → Operands arms l q.0 q.1)
        → (l : List Tok) (q : Children × List Tok) → and_then (rec before_block l) (armed rec inner) ≡ Some q → Operands scrutinees l q.0 q.1
    armed_sound inner again l q h =
        let (z, i, f) = then_some (rec before_block l) (armed rec inner) q h in
        let (g, j, k) = then_some (group_at del.Brace z.1) _ q f in
        let (a, u, v) = then_some (inner_attributes.reads g.0) (λ ats j. before (all_of (inner j)) (λ ks. child tr.scrutinee (tr.opened ats) z.0 ks) g.1) q k in
        let (ks, w, y) = before_some (all_of (inner a.1)) (λ ks. child tr.scrutinee (tr.opened a.0) z.0 ks) g.1 q v in
        let s = sound before_block l z.0 z.1 i in
        children_moved (child tr.scrutinee (tr.opened a.0) z.0 ks, g.1) q y
        (arms_inside s.node s.ending s.closing j (H.inners.sound g.0 a.0 a.1 u) (again a.1 (ks, []) (all_some (inner a.1) ks w)))

    abbrev next_by : (Slot → Reading Children) → Piece → Reading Children
    next_by more k m = and_then (operand_of rec (more conditions) k m) (λ c n. and_then (more (after k) n) (λ ks o. Some (child k c.0 c.1 ks, o)))

    by_sound : (more : Slot → Reading Children) → ((s : Slot) (l : List Tok) (q : Children × List Tok) → more s l ≡ Some q → Operands s l q.0 q.1)
        → (s : Slot) (l : List Tok) (q : Children × List Tok) → operands_by rec more s l ≡ Some q → Operands s l q.0 q.1
    by_sound more again s l q h =
        ⊎_elim (λ j. subst (λ (v : Slot). Operands v l q.0 q.1) (sym (is_scrutinee_slot s j.0)) (armed_sound (more arms) (again arms) l q j.1))
        (λ j. ⊎_elim (λ k. children_moved (none, l) q (some_is k.1) (no_more k.0)) (λ k. pieces k.1)
        (chosen (may_end s l) (Some (none, l)) (and_then ((piece_form s).reads l) (next_by more)) (Some q) j.1))
        (chosen (is_scrutinees s) (and_then (rec before_block l) (armed rec (more arms))) _ (Some q) h)
      where
        pieces : and_then ((piece_form s).reads l) (next_by more) ≡ Some q → Operands s l q.0 q.1
        pieces h =
            let (k, i, f) = then_some ((piece_form s).reads l) (next_by more) q h in
            let (c, j, g) = then_some (operand_of rec (more conditions) k.0 k.1) (λ c n. and_then (more (after k.0) n) (λ ks o. Some (child k.0 c.0 c.1 ks, o))) q f in
            let (z, u, v) = then_some (more (after k.0) c.1) (λ ks o. Some (child k.0 c.0.0 c.0.1 ks, o)) q g in
            children_moved (child k.0 c.0.0 c.0.1 z.0, z.1) q (some_is v)
            (operand_sound (more conditions) (again conditions) s l k.1 k.0 c ((H.pieces s).sound l k.0 k.1 i) j z.0 z.1 (again (after k.0) c.1 z u))

    operands_sound : (n : ℕ) (s : Slot) (l : List Tok) (q : Children × List Tok) → operands rec n s l ≡ Some q → Operands s l q.0 q.1
    unfolding operands
    operands_sound zero s l q h = absurd cc
    operands_sound (suc n) s l q h = by_sound (operands rec n) (λ v m r g. operands_sound n v m r g) s l q h

    pub bare_sound : (s : Slot) (l : List Tok) (q : Children × List Tok) → bare_operands rec s l ≡ Some q → Operands s l q.0 q.1
    unfolding bare_operands
    bare_sound s l q h = operands_sound (suc (weight l)) s l q h

    pub content_sound : (k : Holder) (l : List Tok) (q : Children × List Tok) → content rec k l ≡ Some q → Content k l q.0 q.1
    unfolding content
    content_sound nothing l q h = subst (λ (r : Children × List Tok). Content nothing l r.0 r.1) (some_is h) holds_none
    content_sound (bare s) l q h = holds_bare (bare_sound s l q h)
    content_sound (within d s b) l q h =
        let (g, i, f) = then_some (group_at d l) (λ i n. and_then (bare_operands rec s i) (λ ks o. ended_list rec b ks o n)) q h in
        let (z, j, k) = then_some (bare_operands rec s g.0) (λ ks o. ended_list rec b ks o g.1) q f in
        let (u, v) = only_some (ends_list b z.1) (Some (z.0, g.1)) q k in
        subst (λ (r : Children × List Tok). Content (within d s b) l r.0 r.1) (some_is v) (holds_within i (bare_sound s g.0 z j) u)

    pub framed_sound : (p : Place) (k : Frame) (l m : List Tok) (q : Tree × List Tok) → frame_head k l ≡ Some m → framed_by rec p k m ≡ Some q → Node p l q.0 q.1
    framed_sound p k l m q e h =
        let (z, i, f) = then_some (content rec (frame_holder k) m) _ q h in
        let (s, g) = only_some (frame_ends p k z.0 z.1 && frame_stands p k z.0) (Some (frame k z.0, z.1)) q f in
        let (b, a) = and_parts (frame_ends p k z.0 z.1) (frame_stands p k z.0) s in
        moved (frame k z.0, z.1) q (some_is g) (is_frame e (content_sound (frame_holder k) m z i) a b)

-- ---- operands of a list, taken apart

pub record Element (l : List Tok) (c : Ending) (x : Tree) (ks : Children) (o : List Tok) : Type 0 where
  pub middle : List Tok
  pub rest : List Tok
  pub node : Node plain l x middle
  pub ending : ends plain x middle ≡ true
  pub closing : closes plain x middle ≡ true
  pub behind : comma_or_end middle ≡ Some (c, rest)
  pub more : Operands elements rest ks o

element_at : (k : Piece) (l m : List Tok) → (piece_form elements).behind k l ≡ Some m → (k ≡ tr.element) × (l ≡ m)
unfolding piece_form
element_at tr.element l m h = (refl, some_is h)
element_at _ l m h = absurd cc

element_by : (k : Piece) (l m h n o : List Tok) (c : Ending) (x : Tree) (ks : Children) → (k ≡ tr.element) × (l ≡ m) → Node (piece_place k) m x h → ends_piece k x h ≡ true → ending_at k x h ≡ Some (c, n)
    → Operands (after k) n ks o → Element l c x ks o
unfolding ending_at
element_by tr.element l m h n o c x ks (v, w) d f g more =
    let (a, b) = and_parts (ends plain x h) (closes plain x h) f in
    record { middle = h; rest = n; node = subst (λ z. Node plain z x h) (sym w) d; ending = a; closing = b; behind = g; more = more }
element_by _ l m h n o c x ks (v, w) d f g more = absurd cc

pub element_is : {l o : List Tok} {k : Piece} {c : Ending} {x : Tree} {ks : Children} → Operands elements l (child k c x ks) o → Element l c x ks o
element_is {l} {o} {k} {c} {x} {ks} (one_more {m = m} {h = h} {n = n} e s d f g more) = element_by k l m h n o c x ks (element_at k l m e) d f g more
element_is {l} {o} {k} (short {m = m} {x = v} e u g more) = let (w, y) = element_at k l m e in let i : short_value tr.element ≡ Some v = subst (λ z. short_value z ≡ Some v) w u in absurd cc
element_is {l} {o} {k} (block {m = m} e v g more) = let (w, y) = element_at k l m e in let i : takes_block tr.element ≡ true = subst (λ z. takes_block z ≡ true) w v in absurd cc

-- a group is there
same_is : (found d : Delimiter) → same_delimiter found d ≡ true → found ≡ d
same_is del.Parenthesis del.Parenthesis h = refl
same_is del.Brace del.Brace h = refl
same_is del.Bracket del.Bracket h = refl
same_is del.None del.None h = refl
same_is _ _ h = absurd cc

pub group_is : (d : Delimiter) (l i n : List Tok) → group_at d l ≡ Some (i, n) → (j : Inside) × (l ≡ group d j ∷ n) × (toks j ≡ i)
unfolding group_at
group_is d [] i n h = absurd cc
group_is d (ident w ∷ l) i n h = absurd cc
group_is d (punct c s ∷ l) i n h = absurd cc
group_is d (literal w ∷ l) i n h = absurd cc
group_is d (group found j ∷ l) i n h =
    let (b, y) = only_some (same_delimiter found d) (Some (toks j, l)) (i, n) h in
    let v : (toks j, l) ≡ (i, n) = some_is y in
    let w : l ≡ n = ap (λ (r : List Tok × List Tok). r.1) v in
    (j, rw (same_is found d b, w) refl, ap (λ (r : List Tok × List Tok). r.0) v)

pub empty_is : (l : List Tok) → is_empty l ≡ true → l ≡ []
empty_is [] h = refl
empty_is (t ∷ l) h = absurd cc

pub no_comma_is : (l n : List Tok) (c : Ending) → comma_or_end l ≡ Some (c, n) → c ≡ tr.no_ending → l ≡ []
no_comma_is l n c h v =
    ⊎_elim (λ j. let w : tr.comma ≡ c = ap (λ (r : Ending × List Tok). r.0) (some_is j.1) in absurd (cc (w, v)))
    (λ j. let (a, b) = only_some (is_empty l) (Some (tr.no_ending, l)) (c, n) j.1 in empty_is l a)
    (chosen _ (Some (tr.comma, drop 1 l)) (if is_empty l then Some (tr.no_ending, l) else None) (Some (c, n)) h)
