-- The reading of operands, one turn after the other: the count of turns never runs out.
use Rattle.std.specs.Prelude.{not}
use Rattle.std.proofs.Common.{◌≡◌, ℕ, zero, suc, ◌<◌, ◌≤◌, Bool, true, false, cond, ⊎_elim, List, drop, Option, Some, None, refl, ap, sym, ◌∙◌, subst, arith}
use Rattle.syn_lexer.specs.declared.front.Delimiter.TheVariants as del
use Rattle.syn_tokens.specs.Tok.{Tok, weight}
use Rattle.syn_tokens.specs.Front.{group_at}
use Rattle.syn_lower_spec.specs.Form.{Outcome, and_then}
use Rattle.syn_lower_spec.specs.Mark.{brace_at}
use Rattle.syn_lower_spec.specs.Part.{inner_attributes}
use Rattle.syn_lower_spec.proofs.Marks.{word_present}
use Rattle.syn_lower_spec.proofs.Weights.{some_is}
use Rattle.syn_expr_spec.specs.declared.kinds.Place.{Place}
use Rattle.syn_expr_spec.specs.Place.{before_block}
use Rattle.syn_expr_spec.specs.Tree as e
use Rattle.syn_expr_spec.specs.Tree.{Tree, Children, Piece, Ending, frame, child, plain_block, is_silent}
use Rattle.syn_expr_spec.specs.Slot.{Slot, conditions, arms, after, may_end, piece_form, piece_place, ending_at, is_chained, if_word}
use Rattle.syn_expr_spec.specs.Stands.{short_value, takes_block}
use Rattle.syn_expr_spec.specs.Read.{Reading, expr, all_of, before, only_if, is_scrutinees, ended_by, if_expr_by, block_by, value_by, operand_of, armed, operands_by, operands, bare_operands}
use Rattle.syn_expr_spec.proofs.Chains.{then_some, only_some, chosen}
use Rattle.syn_expr_spec.proofs.Needs.{heads}
use Rattle.syn_expr_spec.proofs.HeadMoves.{IsLess, less_then, then_less, grouped, group_inside, left, ending_left, marked}
use Rattle.syn_expr_spec.proofs.Lesses.{here, node_less, short_less, operands_left}
use Rattle.syn_expr_spec.proofs.Sound.{bare_sound}
use Rattle.syn_expr_spec.proofs.Exact.{expr_sound}

-- ---- what is left

pub expr_less : (p : Place) (l : List Tok) (x : Tree) (n : List Tok) → expr p l ≡ Some (x, n) → IsLess n l
expr_less p l x n h = node_less (expr_sound p l x n h).node

if_less : (l : List Tok) → if_word.at l ≡ true → IsLess (drop 1 l) l
if_less l h = marked (word_present _) l h

ended_less : (k : Piece) (x : Tree) (l h : List Tok) (c : (Ending × Tree) × List Tok) → IsLess h l → ended_by expr k x h ≡ Some c → IsLess c.1 l
ended_less k x l h c d r =
    let (a, y, b) = then_some (ending_at k x h) (λ z n. Some ((z, x), n)) c r in
    subst (λ (q : (Ending × Tree) × List Tok). IsLess q.1 l) (some_is b) (less_then d (ending_left k x h a.0 a.1 y))

block_less : (k : Piece) (m : List Tok) (c : (Ending × Tree) × List Tok) → block_by expr (bare_operands expr conditions) k m ≡ Some c → IsLess c.1 m
block_less k m c h =
    ⊎_elim (λ j.
    let (g, i, f) = then_some (group_at del.Brace m) (λ i n. Some ((e.no_ending, plain_block i), n)) c j.1 in
    subst (λ (q : (Ending × Tree) × List Tok). IsLess q.1 m) (some_is f) (grouped del.Brace m g.0 g.1 i))
    (λ j.
    let (d, f) = only_some (is_chained k) (and_then (if_expr_by expr (bare_operands expr conditions) m) (ended_by expr k)) c j.1 in
    let (z, i, g) = then_some (if_expr_by expr (bare_operands expr conditions) m) (ended_by expr k) c f in
    ended_less k z.0 m z.1 c (if_expr_less z i) g)
    (chosen (brace_at m) (and_then (group_at del.Brace m) (λ i n. Some ((e.no_ending, plain_block i), n))) _ (Some c) h)
  where
    if_expr_less : (z : Tree × List Tok) → if_expr_by expr (bare_operands expr conditions) m ≡ Some z → IsLess z.1 m
    if_expr_less z h =
        let (w, f) = only_some (if_word.at m) (and_then (bare_operands expr conditions (drop 1 m)) (λ ks n. Some (frame e.if_expr ks, n))) z h in
        let (y, i, g) = then_some (bare_operands expr conditions (drop 1 m)) (λ ks n. Some (frame e.if_expr ks, n)) z f in
        subst (λ (q : Tree × List Tok). IsLess q.1 m) (some_is g)
        (less_then (if_less m w) (operands_left (bare_sound heads expr expr_sound conditions (drop 1 m) y i)))

value_less : (v : Slot) (l m : List Tok) (k : Piece) (c : (Ending × Tree) × List Tok) (o : Option Tree) → short_value k ≡ o → (piece_form v).behind k l ≡ Some m
    → value_by expr k o m ≡ Some c → IsLess c.1 l
value_less v l m k c (Some x) q b h = ended_less k x l m c (short_less v k l m x b q) h
value_less v l m k c None q b h =
    let (d, f) = only_some (not (is_silent k)) (and_then (expr (piece_place k) m) (ended_by expr k)) c h in
    let (z, i, g) = then_some (expr (piece_place k) m) (ended_by expr k) c f in
    then_less (left (here.pieces v) k l m b) (ended_less k z.0 m z.1 c (expr_less (piece_place k) m z.0 z.1 i) g)

-- each operand takes a token
pub operand_less : (v : Slot) (l m : List Tok) (k : Piece) (c : (Ending × Tree) × List Tok) → (piece_form v).reads l ≡ Some (k, m)
    → operand_of expr (bare_operands expr conditions) k m ≡ Some c → weight c.1 < weight l
operand_less v l m k c r h =
    let b = heads.pieces v in
    let s = b.sound l k m r in
    let d = ⊎_elim (λ j. then_less (left (here.pieces v) k l m s) (block_less k m c j.1)) (λ j. value_less v l m k c (short_value k) refl s j.1)
    (chosen (takes_block k) (block_by expr (bare_operands expr conditions) k m) (value_by expr k (short_value k) m) (Some c) h) in
    d.less

-- ---- two ways to read what follows, which agree on shorter lists

pub then_same : {A B : Type 0} (o : Outcome A) (f g : A → Reading B) → ((x : A) (n : List Tok) → o ≡ Some (x, n) → f x n ≡ g x n) → and_then o f ≡ and_then o g
then_same None f g h = refl
then_same (Some p) f g h = h p.0 p.1 refl

pub cond_same : {A : Type 0} (b : Bool) (p q r s : A) → (b ≡ true → p ≡ r) → (b ≡ false → q ≡ s) → cond b p q ≡ cond b r s
cond_same true p q r s f g = f refl
cond_same false p q r s f g = g refl

-- the one, then the other, and then a third
pub then_assoc : {A B C : Type 0} (o : Outcome A) (f : A → Reading B) (g : B → Reading C) → and_then (and_then o f) g ≡ and_then o (λ x n. and_then (f x n) g)
then_assoc None f g = refl
then_assoc (Some p) f g = refl

module _ (f g : Slot → Reading Children) (l : List Tok) (same : (v : Slot) (n : List Tok) → weight n < weight l → f v n ≡ g v n) where
  armed_same : (x : Tree) (h : List Tok) → weight h < weight l → armed expr (f arms) x h ≡ armed expr (g arms) x h
  armed_same x h b =
      then_same (group_at del.Brace h) _ _ (λ i n a. then_same (inner_attributes.reads i) _ _ (λ ats j c.
      let u = group_inside del.Brace h i n a in
      let w = heads.inners.falls i ats j (heads.inners.sound i ats j c) in
      ap (λ o. before (all_of o) (λ ks. child e.scrutinee (e.opened ats) x ks) n) (same arms j (omega (arith, b, u, w)))))

  if_expr_same : (m : List Tok) → weight m ≤ weight l → if_expr_by expr (f conditions) m ≡ if_expr_by expr (g conditions) m
  if_expr_same m b =
      cond_same (if_word.at m) _ _ _ _ (λ w. let u = if_less m w in
      ap (λ o. and_then o (λ ks n. Some (frame e.if_expr ks, n))) (same conditions (drop 1 m) (omega (arith, b, u.less)))) (λ w. refl)

  operand_same : (k : Piece) (m : List Tok) → weight m ≤ weight l → operand_of expr (f conditions) k m ≡ operand_of expr (g conditions) k m
  operand_same k m b =
      cond_same (takes_block k) _ _ _ _
      (λ t. cond_same (brace_at m) _ _ _ _ (λ u. refl) (λ u. ap (λ o. only_if (is_chained k) (and_then o (ended_by expr k))) (if_expr_same m b)))
      (λ t. refl)

  turn_same : ((v : Slot) → g v ≡ bare_operands expr v) → (v : Slot) → operands_by expr f v l ≡ operands_by expr g v l
  turn_same q v =
      cond_same (is_scrutinees v) _ _ _ _
      (λ t. then_same (expr before_block l) _ _ (λ x h a. let u = expr_less before_block l x h a in armed_same x h u.less))
      (λ t. cond_same (may_end v l) _ _ _ _ (λ u. refl) (λ u. then_same ((piece_form v).reads l) _ _ (λ k m a.
      let b = heads.pieces v in
      let w = b.falls l k m (b.sound l k m a) in
      ap (λ o. and_then o (λ c n. and_then (f (after k) n) (λ ks o. Some (child k c.0 c.1 ks, o)))) (operand_same k m w)
      ∙ then_same (operand_of expr (g conditions) k m) _ _ (λ c n d.
      ap (λ o. and_then o (λ ks o. Some (child k c.0 c.1 ks, o))) (same (after k) n (operand_less v l m k (c, n) a (subst (λ (r : Reading Children). operand_of expr r k m ≡ Some (c, n)) (q conditions) d)))))))

-- ---- the count

counted : (b j : ℕ) (v : Slot) (l : List Tok) → weight l < j → j ≤ b → operands expr j v l ≡ operands_by expr (bare_operands expr) v l
unfolding operands bare_operands
counted b zero v l h i = absurd (omega arith)
counted zero (suc j) v l h i = absurd (omega arith)
counted (suc b) (suc j) v l h i =
    turn_same (operands expr j) (bare_operands expr) l
    (λ s n w. counted b j s n (omega arith) (omega arith) ∙ sym (counted b (suc (weight n)) s n (omega arith) (omega arith))) (λ s. refl) v

-- the operands from a slot on: one, and those from the next slot on
pub turn : (v : Slot) (l : List Tok) → bare_operands expr v l ≡ operands_by expr (bare_operands expr) v l
unfolding bare_operands
turn v l = counted (suc (weight l)) (suc (weight l)) v l (omega arith) (omega arith)
