-- Whether operands are well-formed in their places, by what is lent of their node.
use Rattle.std.specs.Prelude.{Bool, true, false, not, ◌||◌, ◌&&◌, List, ◌∷◌, Option, Some, None}
use Rattle.syn_lower_spec.specs.Form.{is_nil}
use Rattle.syn_lower_spec.specs.Text.{Text}
use Rattle.syn_lower_spec.specs.Pat.{PatTree, guarded}
use Rattle.syn_lower_spec.specs.PatFits.{attributes_outer, member_fits, pat_fits}
use Rattle.syn_expr_spec.specs.Slot.{Slot}
use Rattle.syn_expr_spec.specs.Path.{is_word_alone}
use Rattle.syn_expr_spec.specs.Stands.{is_if_expr}
use Rattle.syn_expr_spec.specs.Tree as e
use Rattle.syn_expr_spec.specs.Tree.{Tree, Leaf, is_none}
use Rattle.syn_expr_spec.specs.WellFormed.{well, children_well, has_rest, may_stop, is_verbatim_block, is_verbatim_leaf, is_name_path}
use Rattle.syn_expr_ast.specs.Node.{attributes_at, without_strays, OperandTrees, no_trees, one_tree, two_trees, based, framed}
use Rattle.syn_expr_ast.specs.Pats.{ArmView}
use Rattle.syn_expr_ast.specs.View.{FieldView}
use Rattle.syn_expr_fixup.specs.Below.{guard_at}
use Rattle.syn_expr_wellformed.specs.Well.{own_fits}

-- ---- operands

-- in places that begin with this slot; whether `..` ends the fields
abbrev pub operands_well : Slot → Bool → OperandTrees → Bool
operands_well s dots no_trees = true
operands_well s dots (one_tree t) = well t && may_stop s
operands_well s dots (two_trees x y) = well x && well y
operands_well s dots (based b ks) = well b && children_well s ks
operands_well s dots (framed ks) = not (dots && has_rest ks) && children_well s ks

abbrev pub option_well : Option Tree → Bool
option_well None = true
option_well (Some t) = well t

-- a field of a struct expression: without a colon its value is its name
abbrev pub field_well : FieldView → Bool
field_well x = attributes_outer x.attrs && (member_fits x.member && ((x.colon || is_name_path x.member x.value) && well x.value))

-- what comes after `else`
abbrev pub chain_well : Tree → Bool
chain_well t = is_verbatim_block t || (is_if_expr t && well t)

abbrev pub else_well : Option Tree → Bool
else_well None = true
else_well (Some t) = chain_well t

-- ---- arms

-- the pattern of an arm, with the guards in it: the one alone is the arm's own
abbrev pub arm_pattern : PatTree → List Tree → Bool
arm_pattern (guarded p) (g ∷ gs) = pat_fits true p && is_nil gs
arm_pattern p gs = pat_fits true p && is_nil gs

abbrev pub arm_head : ArmView → Bool
arm_head x = attributes_outer x.attrs && arm_pattern x.pat.tree x.pat.guards

abbrev pub arm_well : ArmView → Bool
arm_well x = arm_head x && (option_well (guard_at x) && well x.body)

-- ---- leaves without attributes

-- the block of its tokens alone
abbrev pub verbatim_by : Option Leaf → Bool
verbatim_by None = false
verbatim_by (Some k) = is_verbatim_leaf k

-- a path that is this word
abbrev pub is_word_leaf : Text → Leaf → Bool
is_word_leaf w (e.path q p) = is_word_alone w q p
is_word_leaf w _ = false

abbrev pub named_by : Text → Option Leaf → Bool
named_by w None = false
named_by w (Some k) = is_word_leaf w k

-- ---- nodes

-- but for its operands
abbrev pub node_fits : Tree → Bool
node_fits t = attributes_outer (attributes_at t) && own_fits t

-- of no node more is told than is lent: attributes stand once before it, and before an operand only guards are where none may
abbrev pub is_plain : Tree → Bool
is_plain (e.attributed a more t) = false
is_plain (e.prefixed k gs t) = is_none (without_strays gs)
is_plain _ = true

abbrev pub is_whole : Tree → Bool
is_whole (e.attributed a more t) = is_plain t
is_whole t = is_plain t
