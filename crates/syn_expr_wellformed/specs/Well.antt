-- What a node is but for its operands, as a test of being read back asks, and where these are.
use Rattle.std.specs.Prelude.{Bool, true, false, Option, Some, None}
use Rattle.syn_expr_spec.specs.Slot as s
use Rattle.syn_expr_spec.specs.Slot.{Slot}
use Rattle.syn_expr_spec.specs.Tree as e
use Rattle.syn_expr_spec.specs.Tree.{Tree, Leaf, Frame}
use Rattle.syn_expr_spec.specs.WellFormed.{leaf_fits, infix_fits, postfix_fits, trailer_fits, trailer_slot, frame_slot}
use Rattle.syn_expr_ast.specs.declared.label.NodeKind.{NodeKind}
use Rattle.syn_expr_ast.specs.declared.label.NodeKind.TheVariants as node
use Rattle.syn_expr_ast.specs.Node.{stray_trees}
use Rattle.syn_expr_wellformed.specs.Alone.{prefix_alone, frame_alone}

-- ---- a node but for its operands

abbrev pub own_fits : Tree → Bool
own_fits (e.leaf k) = leaf_fits k
own_fits (e.paren m t) = true
own_fits (e.attributed a more t) = own_fits t
own_fits (e.prefixed k gs t) = prefix_alone (k, stray_trees gs)
own_fits (e.infixed x k y) = infix_fits k
own_fits (e.postfixed x k) = postfix_fits k
own_fits (e.tail b k ks) = trailer_fits k
own_fits (e.frame k ks) = frame_alone (k, stray_trees ks)

-- of an operator between two operands; of another kind of node nothing is asked
abbrev pub kind_fits : NodeKind → Bool
kind_fits (node.Infix op) = infix_fits op
kind_fits _ = true

-- the slot that its operands begin in, and whether `..` ends the fields
abbrev pub frame_dots : Frame → Bool
frame_dots (e.structure q p d) = d
frame_dots _ = false

abbrev pub slot_at : Tree → Slot
slot_at (e.attributed a more t) = slot_at t
slot_at (e.tail b k ks) = trailer_slot k
slot_at (e.frame k ks) = frame_slot k
slot_at _ = s.done

abbrev pub dots_at : Tree → Bool
dots_at (e.attributed a more t) = dots_at t
dots_at (e.frame k ks) = frame_dots k
dots_at _ = false

-- ---- nodes without attributes

abbrev pub bare_leaf : Tree → Option Leaf
bare_leaf (e.leaf k) = Some k
bare_leaf _ = None
