-- The printed tree is formed where the tree is.
use Rattle.std.proofs.Common.{◌≡◌, Bool, true, false, not, ◌||◌, None, refl, sym, ◌∙◌, ap, subst}
use Rattle.std.proofs.Math.Bool.{and-false}
use Rattle.std.proofs.lemmas.Bool.{or_parts}
use Rattle.syn_expr_spec.specs.declared.kinds.Precedence.TheVariants as lev
use Rattle.syn_expr_spec.specs.declared.next.Next.TheVariants as next
use Rattle.syn_expr_spec.specs.declared.next.Context.{Context}
use Rattle.syn_expr_spec.specs.Next.{enclosed, in_arm, in_statement, left_context, base_context, right_context, attributed_context, prefix_context, piece_context}
use Rattle.syn_expr_spec.specs.Op.{level}
use Rattle.syn_expr_spec.specs.Stands.{is_attributed, is_if_expr}
use Rattle.syn_expr_spec.specs.Tree as e
use Rattle.syn_expr_spec.specs.Tree.{Tree, Children, Leaf, Frame, Piece, Ending, leaf, paren, attributed, prefixed, infixed, postfixed, tail, frame, none, child, postfix_op, is_none, is_one, is_block_like, needs_comma, needs_last_comma, fill}
use Rattle.syn_expr_spec.specs.Slot as s
use Rattle.syn_expr_spec.specs.Slot.{Slot, after}
use Rattle.syn_expr_spec.specs.Rule.{is_operation, refuses, misplaced, leaf_misplaced, place_asks, left_asks, base_asks, prefix_asks, put, piece_put, bare, bare_children}
use Rattle.syn_expr_spec.specs.WellFormed.{well, frame_fits, has_rest, frame_slot, trailer_slot, piece_fits, is_verbatim_block, keeps_block}
use Rattle.syn_expr_spec.proofs.FillIns.{comma_there}
use Rattle.syn_expr_spec.proofs.Formed.{ChildFormed, Formed, FormedChildren, formed_fill}
use Rattle.syn_expr_spec.proofs.Edges.{low_some, bad_end, self_enclosed}

-- ---- as printed

attributed_put : (w : Bool) (a b : Tree) → is_attributed b ≡ false → is_attributed (put w a b) ≡ false
attributed_put true a b h = refl
attributed_put false a b h = h

attributed_bare : (c : Context) (t : Tree) → is_attributed (bare c t) ≡ is_attributed t
attributed_bare c (leaf k) = refl
attributed_bare c _ = refl

not_block : (t : Tree) → is_operation t ≡ true → is_block_like t ≡ false
not_block (leaf (e.full_range op)) h = refl
not_block (leaf k) h = absurd cc
not_block (prefixed k gs t) h = refl
not_block (infixed x k y) h = refl
not_block (postfixed x k) h = refl
not_block _ h = absurd cc

block_put : (c : Context) (t : Tree) (w : Bool) → is_operation t ≡ w → is_block_like (bare c t) ≡ is_block_like t → is_block_like (put w (bare enclosed t) (bare c t)) ≡ is_block_like t
block_put c t true h e = sym (not_block t h)
block_put c t false h e = e

pub block_bare : (c : Context) (t : Tree) → is_block_like (bare c t) ≡ is_block_like t
block_bare c (leaf k) = refl
block_bare c (attributed a more t) = block_put (attributed_context c) t (is_operation t) refl (block_bare (attributed_context c) t)
block_bare c _ = refl

none_bare : (ks : Children) → is_none (bare_children ks) ≡ is_none ks
none_bare none = refl
none_bare (child k c t ks) = refl

one_bare : (ks : Children) → is_one (bare_children ks) ≡ is_one ks
one_bare none = refl
one_bare (child k c t ks) = none_bare ks

last_bare : (k : Frame) (ks : Children) → needs_last_comma k (bare_children ks) ≡ needs_last_comma k ks
last_bare e.array ks = refl
last_bare e.tuple ks = one_bare ks
last_bare _ ks = refl

rest_bare : (ks : Children) → has_rest (bare_children ks) ≡ has_rest ks
rest_bare none = refl
rest_bare (child e.element c t ks) = rest_bare ks
rest_bare (child e.value c t ks) = rest_bare ks
rest_bare (child e.repeated c t ks) = rest_bare ks
rest_bare (child (e.field_value ats m b) c t ks) = rest_bare ks
rest_bare (child (e.rest d) c t ks) = refl
rest_bare (child e.condition c t ks) = rest_bare ks
rest_bare (child e.loop_head c t ks) = rest_bare ks
rest_bare (child e.scrutinee c t ks) = rest_bare ks
rest_bare (child e.chained c t ks) = rest_bare ks
rest_bare (child (e.guard ats p) c t ks) = rest_bare ks
rest_bare (child e.guarded c t ks) = rest_bare ks
rest_bare (child (e.arm ats p) c t ks) = rest_bare ks
rest_bare (child e.output_block c t ks) = rest_bare ks
rest_bare (child e.grouped c t ks) = rest_bare ks
rest_bare (child e.stray c t ks) = rest_bare ks

frame_bare : (k : Frame) (ks : Children) → frame_fits k (bare_children ks) ≡ frame_fits k ks
frame_bare e.array ks = refl
frame_bare (e.structure q p d) ks = rw (rest_bare ks) refl
frame_bare _ ks = refl

-- ---- nothing is put in parentheses at the head of an arm's body

leaf_arm : (k : Leaf) → leaf_misplaced in_arm k ≡ false
leaf_arm (e.block None b) = refl
leaf_arm _ = refl

misplaced_arm : (t : Tree) → misplaced in_arm t ≡ false
misplaced_arm (leaf k) = leaf_arm k
misplaced_arm (attributed a more t) = rw (misplaced_arm t) (and-false (not (is_operation t)))
misplaced_arm (prefixed (e.unary op) gs t) = refl
misplaced_arm (frame e.array ks) = refl
misplaced_arm _ = refl

pub arm_bare : (t : Tree) → place_asks lev.Jump in_arm t ≡ false
arm_bare t = let p : refuses t next.End ≡ false = (or_parts _ _ (self_enclosed t)).0 in rw (low_some t, bad_end t, p, misplaced_arm t) refl

block_arm : (t : Tree) → is_block_like (put (place_asks lev.Jump in_arm t) (bare enclosed t) (bare in_arm t)) ≡ is_block_like t
block_arm t = rw (arm_bare t) (block_bare in_arm t)

-- ---- operands as printed

-- what the operand is printed as
abbrev pub child_put : Piece → Tree → Tree
child_put k t =
    piece_put k t (bare enclosed t) (bare (piece_context k) t) (put (place_asks lev.Jump in_statement t) (bare enclosed t) (bare in_statement t))
    (place_asks lev.Jump (piece_context k) t)

-- an `if`, or a block with its tokens alone
chained_verbatim : (t : Tree) → is_if_expr t || is_verbatim_block t ≡ true → is_if_expr (child_put e.chained t) || is_verbatim_block (child_put e.chained t) ≡ true
chained_verbatim (leaf (e.block None b)) h = h
chained_verbatim (frame e.if_expr ks) h = refl
chained_verbatim _ h = absurd cc

output_verbatim : (t : Tree) → is_verbatim_block t ≡ true → is_verbatim_block (child_put e.output_block t) ≡ true
output_verbatim (leaf (e.block None b)) h = rw h h
output_verbatim (leaf k) h = absurd cc
output_verbatim t h = absurd cc

piece_bare : (x : Slot) (k : Piece) (c : Ending) (t : Tree) → piece_fits x k c t ≡ true → piece_fits x k c (child_put k t) ≡ true
piece_bare s.elements e.element c t h = refl
piece_bare s.single e.value c t h = refl
piece_bare s.counted e.repeated c t h = refl
piece_bare s.fields (e.field_value ats m true) c t h = h
piece_bare s.fields (e.field_value ats m false) c t h = h
piece_bare s.fields (e.rest b) c t h = refl
piece_bare s.conditions e.condition c t h = refl
piece_bare s.otherwise e.chained c t h = chained_verbatim t h
piece_bare s.loops e.loop_head c t h = refl
piece_bare s.scrutinees e.scrutinee c t h = refl
piece_bare s.arms (e.guard ats w) c t h = h
piece_bare s.arms (e.arm ats w) c t h = h
piece_bare s.bodies e.guarded c t h = refl
piece_bare s.outputs e.output_block c t h = output_verbatim t h
piece_bare x k c t h = absurd cc

comma_bare : (k : Piece) (t : Tree) (m last : Bool) → needs_comma k (child_put k t) m last ≡ needs_comma k t m last
comma_bare e.element t m last = refl
comma_bare e.guarded t m last = rw (block_arm t) refl
comma_bare (e.arm ats w) t m last = rw (block_arm t) refl
comma_bare _ t m _ = refl

comma_stays : (k : Piece) (c : Ending) (t : Tree) (m last : Bool) → comma_there k c t m last ≡ true → comma_there k c (child_put k t) m last ≡ true
comma_stays k e.no_ending t m last h = ap not (comma_bare k t m last) ∙ h
comma_stays k _ t m last h = refl

child_bare : (x : Slot) (last : Bool) (k : Piece) (c : Ending) (t : Tree) (ks : Children) → ChildFormed x last k c t ks → ChildFormed x last k c (child_put k t) (bare_children ks)
child_bare x last k c t ks f = record {
  piece = piece_bare x k c t f.piece;
  ending = f.ending;
  filled = f.filled;
  comma = rw (none_bare ks) (comma_stays k c t (not (is_none ks)) last f.comma);
}

formed_put : (w : Bool) (a b : Tree) → Formed a → Formed b → Formed (put w a b)
formed_put true a b p q = p
formed_put false a b p q = q

abbrev IsFormed : Tree → Type 0
IsFormed t = (c : Context) → Formed (bare c t)

formed_at : (c : Context) (t : Tree) → IsFormed t → Formed (put (place_asks lev.Jump c t) (bare enclosed t) (bare c t))
formed_at c t f = formed_put (place_asks lev.Jump c t) (bare enclosed t) (bare c t) (f enclosed) (f c)

chained_formed : (t : Tree) → is_if_expr t || is_verbatim_block t ≡ true → (is_verbatim_block t ≡ false → IsFormed t) → is_verbatim_block (child_put e.chained t) ≡ false
    → Formed (child_put e.chained t)
chained_formed (leaf (e.block None b)) h f n = absurd cc
chained_formed (frame e.if_expr ks) h f n = f refl enclosed
chained_formed _ h f n = absurd cc

child_formed : (x : Slot) (k : Piece) (c : Ending) (t : Tree) → piece_fits x k c t ≡ true → (keeps_block k t ≡ false → Formed t) → (keeps_block k t ≡ false → IsFormed t)
    → keeps_block k (child_put k t) ≡ false → Formed (child_put k t)
child_formed s.elements e.element c t p o f n = formed_at enclosed t (f refl)
child_formed s.single e.value c t p o f n = formed_at enclosed t (f refl)
child_formed s.counted e.repeated c t p o f n = formed_at enclosed t (f refl)
child_formed s.fields (e.field_value ats m true) c t p o f n = formed_at enclosed t (f refl)
child_formed s.fields (e.field_value ats m false) c t p o f n = o refl
child_formed s.fields (e.rest b) c t p o f n = formed_at enclosed t (f refl)
child_formed s.conditions e.condition c t p o f n = formed_at (piece_context e.condition) t (f refl)
child_formed s.otherwise e.chained c t p o f n = chained_formed t p f n
child_formed s.loops e.loop_head c t p o f n = formed_at (piece_context e.loop_head) t (f refl)
child_formed s.scrutinees e.scrutinee c t p o f n = formed_at (piece_context e.scrutinee) t (f refl)
child_formed s.arms (e.guard ats w) c t p o f n = formed_at enclosed t (f refl)
child_formed s.arms (e.arm ats w) c t p o f n = formed_at in_arm t (f refl)
child_formed s.bodies e.guarded c t p o f n = formed_at in_arm t (f refl)
child_formed s.outputs e.output_block c t p o f n = absurd (let g : true ≡ false = sym (output_verbatim t p) ∙ n in cc)
child_formed x k c t p o f n = absurd cc

mutual
  pub formed_bare : (t : Tree) (c : Context) → Formed t → Formed (bare c t)
  formed_bare (leaf k) c f = f
  formed_bare (paren m t) c f = formed_bare t enclosed f
  formed_bare (attributed a more t) c f = (
    f.0,
    attributed_put (is_operation t) (bare enclosed t) (bare (attributed_context c) t) (attributed_bare (attributed_context c) t ∙ f.1),
    formed_put (is_operation t) (bare enclosed t) (bare (attributed_context c) t) (formed_bare t enclosed f.2) (formed_bare t (attributed_context c) f.2),
  )
  formed_bare (prefixed k gs t) c f = (
    f.0,
    f.1,
    formed_put (prefix_asks k (prefix_context k c) t) (bare enclosed t) (bare (prefix_context k c) t) (formed_bare t enclosed f.2) (formed_bare t (prefix_context k c) f.2),
  )
  formed_bare (infixed x k y) c f = (
    f.0,
    formed_put (left_asks k (left_context k c) x) (bare enclosed x) (bare (left_context k c) x) (formed_bare x enclosed f.1) (formed_bare x (left_context k c) f.1),
    formed_put (place_asks (level k) (right_context k c) y) (bare enclosed y) (bare (right_context k c) y) (formed_bare y enclosed f.2) (formed_bare y (right_context k c) f.2),
  )
  formed_bare (postfixed x k) c f = (
    f.0,
    formed_put (left_asks (postfix_op k) (left_context (postfix_op k) c) x) (bare enclosed x) (bare (left_context (postfix_op k) c) x) (formed_bare x enclosed f.1) (formed_bare x (left_context (postfix_op k) c) f.1),
  )
  formed_bare (tail b k ks) c f = (
    f.0,
    formed_put (base_asks k (base_context k c) b) (bare enclosed b) (bare (base_context k c) b) (formed_bare b enclosed f.1) (formed_bare b (base_context k c) f.1),
    children_bare ks (trailer_slot k) false f.2,
  )
  formed_bare (frame k ks) c f = (
    frame_bare k ks ∙ f.0,
    subst (λ l. FormedChildren (frame_slot k) l (bare_children ks)) (sym (last_bare k ks)) (children_bare ks (frame_slot k) (needs_last_comma k ks) f.1),
  )

  children_bare : (ks : Children) (x : Slot) (last : Bool) → FormedChildren x last ks → FormedChildren x last (bare_children ks)
  children_bare none x last f = f
  children_bare (child k c t ks) x last f = (
    child_bare x last k c t ks f.0,
    child_formed x k c t f.0.piece f.1 (λ b d. formed_bare t d (f.1 b)),
    children_bare ks (after k) last f.2,
  )

pub printed_formed : (c : Context) (t : Tree) → well t ≡ true → Formed (put (place_asks lev.Jump c (fill t)) (bare enclosed (fill t)) (bare c (fill t)))
printed_formed c t h = let f = formed_fill t h in formed_at c (fill t) (λ d. formed_bare (fill t) d f)
