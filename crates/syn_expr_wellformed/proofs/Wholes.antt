-- A node is well-formed where its attributes, what it is but for its operands, and these are.
use Rattle.std.proofs.Common.{◌≡◌, Bool, true, false, not, ◌&&◌, [], refl, ap, sym, ◌∙◌}
use Rattle.std.proofs.Math.Bool.{and-true, and_assoc}
use Rattle.syn_lower_spec.specs.Form.{is_nil}
use Rattle.syn_lower_spec.specs.PatFits.{attributes_outer}
use Rattle.syn_expr_spec.specs.Slot as s
use Rattle.syn_expr_spec.specs.Slot.{Slot}
use Rattle.syn_expr_spec.specs.Stands.{is_attributed}
use Rattle.syn_expr_spec.specs.Tree as e
use Rattle.syn_expr_spec.specs.Tree.{Tree, Children, Ending, Piece, Trailer, Frame, leaf, paren, attributed, prefixed, infixed, postfixed, tail, frame, none, child, is_none}
use Rattle.syn_expr_spec.specs.WellFormed.{well, children_well, has_rest, trailer_fits, trailer_slot, frame_fits, frame_slot, prefix_fits, piece_fits}
use Rattle.syn_expr_ast.specs.Node.{attributes_at, operands_at, stray_trees, without_strays, based_by}
use Rattle.syn_expr_wellformed.specs.Well.{own_fits, slot_at, dots_at, frame_dots}
use Rattle.syn_expr_wellformed.specs.Walk.{operands_well, node_fits, is_plain, is_whole}

-- this is asked of a node but for the attributes before it
abbrev core_well : Tree → Bool
core_well t = own_fits t && operands_well (slot_at t) (dots_at t) (operands_at t)

-- ---- before an operand no guards stand, where none may

strays_first : (k : Piece) (c : Ending) (t : Tree) (ks : Children) → is_none (without_strays (child k c t ks)) ≡ true → is_nil (stray_trees (child k c t ks)) ≡ false
strays_first e.stray c t ks h = refl
strays_first e.element c t ks h = absurd cc
strays_first e.value c t ks h = absurd cc
strays_first e.repeated c t ks h = absurd cc
strays_first (e.field_value ats m b) c t ks h = absurd cc
strays_first (e.rest d) c t ks h = absurd cc
strays_first e.condition c t ks h = absurd cc
strays_first e.loop_head c t ks h = absurd cc
strays_first e.scrutinee c t ks h = absurd cc
strays_first e.chained c t ks h = absurd cc
strays_first (e.guard ats p) c t ks h = absurd cc
strays_first e.guarded c t ks h = absurd cc
strays_first (e.arm ats p) c t ks h = absurd cc
strays_first e.output_block c t ks h = absurd cc
strays_first e.grouped c t ks h = absurd cc

strays_none : (gs : Children) → is_none (without_strays gs) ≡ true → is_nil (stray_trees gs) ≡ is_none gs
strays_none none h = refl
strays_none (child k c t ks) h = strays_first k c t ks h

-- ---- frames

stray_out : (s : Slot) (c : Ending) (t : Tree) → piece_fits s e.stray c t ≡ false
stray_out s.elements c t = refl
stray_out s.single c t = refl
stray_out s.counted c t = refl
stray_out s.fields c t = refl
stray_out s.conditions c t = refl
stray_out s.otherwise c t = refl
stray_out s.loops c t = refl
stray_out s.scrutinees c t = refl
stray_out s.arms c t = refl
stray_out s.bodies c t = refl
stray_out s.outputs c t = refl
stray_out s.groups c t = refl
stray_out s.done c t = refl

dots_last : (q t d r : Bool) → (q && (t && not (d && r))) ≡ ((q && (t && not (d && false))) && not (d && r))
dots_last true true true true = refl
dots_last true true true false = refl
dots_last true true false r = refl
dots_last true false d r = refl
dots_last false t d r = refl

-- `..` ends the fields where no expression is after
frame_split : (k : Frame) (ks : Children) → frame_fits k ks ≡ (frame_fits k none && not (frame_dots k && has_rest ks))
frame_split e.array ks = refl
frame_split e.tuple ks = refl
frame_split e.repeat ks = refl
frame_split (e.structure q p d) ks = dots_last _ _ d (has_rest ks)
frame_split (e.closure_block h) ks = sym (and-true _)
frame_split e.if_expr ks = refl
frame_split (e.while_loop w) ks = refl
frame_split (e.for_loop w p) ks = sym (and-true _)
frame_split e.match_expr ks = refl
frame_split e.group_expr ks = refl

abbrev FrameWell : Frame → Children → Type 0
FrameWell k ks =
    ((frame_fits k none && is_nil (stray_trees ks)) && (not (frame_dots k && has_rest (without_strays ks)) && children_well (frame_slot k) (without_strays ks))) ≡ (frame_fits k ks && children_well (frame_slot k) ks)

frame_children : (k : Frame) (ks : Children) → stray_trees ks ≡ [] → without_strays ks ≡ ks → FrameWell k ks
frame_children k ks h i = rw (h, i, frame_split k ks) (by (frame_fits k none) (not (frame_dots k && has_rest ks)) (children_well (frame_slot k) ks))
  where
    by : (a b c : Bool) → ((a && true) && (b && c)) ≡ ((a && b) && c)
    by true b c = refl
    by false b c = refl

frame_stray : (k : Frame) (c : Ending) (t : Tree) (ks : Children) → FrameWell k (child e.stray c t ks)
frame_stray k c t ks = rw (stray_out (frame_slot k) c t) (by (frame_fits k none) (frame_fits k (child e.stray c t ks)))
  where
    by : (a b : Bool) → ((a && false) && (not (frame_dots k && has_rest (without_strays ks)) && children_well (frame_slot k) (without_strays ks))) ≡ (b && false)
    by true true = refl
    by true false = refl
    by false true = refl
    by false false = refl

frame_first : (f : Frame) (k : Piece) (c : Ending) (t : Tree) (ks : Children) → FrameWell f (child k c t ks)
frame_first f e.stray c t ks = frame_stray f c t ks
frame_first f e.element c t ks = frame_children f (child e.element c t ks) refl refl
frame_first f e.value c t ks = frame_children f (child e.value c t ks) refl refl
frame_first f e.repeated c t ks = frame_children f (child e.repeated c t ks) refl refl
frame_first f (e.field_value ats m b) c t ks = frame_children f (child (e.field_value ats m b) c t ks) refl refl
frame_first f (e.rest d) c t ks = frame_children f (child (e.rest d) c t ks) refl refl
frame_first f e.condition c t ks = frame_children f (child e.condition c t ks) refl refl
frame_first f e.loop_head c t ks = frame_children f (child e.loop_head c t ks) refl refl
frame_first f e.scrutinee c t ks = frame_children f (child e.scrutinee c t ks) refl refl
frame_first f e.chained c t ks = frame_children f (child e.chained c t ks) refl refl
frame_first f (e.guard ats p) c t ks = frame_children f (child (e.guard ats p) c t ks) refl refl
frame_first f e.guarded c t ks = frame_children f (child e.guarded c t ks) refl refl
frame_first f (e.arm ats p) c t ks = frame_children f (child (e.arm ats p) c t ks) refl refl
frame_first f e.output_block c t ks = frame_children f (child e.output_block c t ks) refl refl
frame_first f e.grouped c t ks = frame_children f (child e.grouped c t ks) refl refl

frame_is : (k : Frame) (ks : Children) → FrameWell k ks
frame_is k none = frame_children k none refl refl
frame_is k (child p c t ks) = frame_first k p c t ks

-- ---- nodes

tail_is : (b : Tree) (k : Trailer) (ks : Children) → operands_well (trailer_slot k) false (based_by b ks) ≡ (well b && children_well (trailer_slot k) ks)
tail_is b k none = refl
tail_is b k (child p c t ks) = refl

core_is : (t : Tree) → is_plain t ≡ true → core_well t ≡ well t
core_is (leaf k) h = and-true _
core_is (paren m t) h = and-true (well t)
core_is (attributed a more t) h = absurd cc
core_is (prefixed k gs t) h = rw (strays_none gs h, and-true (well t)) (by (prefix_fits k) (is_none gs))
  where
    by : (a b : Bool) → ((a && b) && well t) ≡ (a && (b && well t))
    by true b = refl
    by false b = refl
core_is (infixed x k y) h = refl
core_is (postfixed x k) h = rw (and-true (well x)) refl
core_is (tail b k ks) h = ap (λ c. trailer_fits k && c) (tail_is b k ks)
core_is (frame k ks) h = frame_is k ks

plain_bare : (t : Tree) → is_plain t ≡ true → is_attributed t ≡ false
plain_bare (leaf k) h = refl
plain_bare (paren m t) h = refl
plain_bare (attributed a more t) h = absurd cc
plain_bare (prefixed k gs t) h = refl
plain_bare (infixed x k y) h = refl
plain_bare (postfixed x k) h = refl
plain_bare (tail b k ks) h = refl
plain_bare (frame k ks) h = refl

pub whole-is : (t : Tree) → is_whole t ≡ true → (attributes_outer (attributes_at t) && core_well t) ≡ well t
whole-is (leaf k) h = core_is (leaf k) h
whole-is (paren m t) h = core_is (paren m t) h
whole-is (attributed a more t) h = rw (plain_bare t h, core_is t h) refl
whole-is (prefixed k gs t) h = core_is (prefixed k gs t) h
whole-is (infixed x k y) h = core_is (infixed x k y) h
whole-is (postfixed x k) h = core_is (postfixed x k) h
whole-is (tail b k ks) h = core_is (tail b k ks) h
whole-is (frame k ks) h = core_is (frame k ks) h

-- by the node itself, and then by its operands

node_is : (t : Tree) → is_whole t ≡ true → (node_fits t && operands_well (slot_at t) (dots_at t) (operands_at t)) ≡ well t
node_is t h = and_assoc (attributes_outer (attributes_at t)) (own_fits t) (operands_well (slot_at t) (dots_at t) (operands_at t)) ∙ whole-is t h

pub well-then : (t : Tree) → is_whole t ≡ true → node_fits t ≡ true → operands_well (slot_at t) (dots_at t) (operands_at t) ≡ well t
well-then t h n = sym (ap (λ b. b && operands_well (slot_at t) (dots_at t) (operands_at t)) n) ∙ node_is t h

pub well-else : (t : Tree) → is_whole t ≡ true → node_fits t ≡ false → false ≡ well t
well-else t h n = sym (ap (λ b. b && operands_well (slot_at t) (dots_at t) (operands_at t)) n) ∙ node_is t h

pub ruleset wholes = (well-then, well-else)
