-- What a printer has to know of the place of a node: what comes after it, and what is round it.
use Rattle.std.specs.Prelude.{Bool, true, false, ◌&&◌, Option, Some, None}
use Rattle.syn_expr_spec.specs.declared.kinds.BinKind.{BinKind}
use Rattle.syn_expr_spec.specs.declared.kinds.Limits.TheVariants as limits
use Rattle.syn_expr_spec.specs.declared.kinds.Infix.{Infix}
use Rattle.syn_expr_spec.specs.declared.kinds.Infix.TheVariants as inf
use Rattle.syn_expr_spec.specs.declared.kinds.Precedence.{Precedence}
use Rattle.syn_expr_spec.specs.declared.kinds.Precedence.TheVariants as lev
use Rattle.syn_expr_spec.specs.declared.next.Next.{Next}
use Rattle.syn_expr_spec.specs.declared.next.Next.TheVariants as next
use Rattle.syn_expr_spec.specs.declared.next.Edge.{Edge}
use Rattle.syn_expr_spec.specs.declared.next.Edge.TheVariants as edge
use Rattle.syn_expr_spec.specs.declared.next.Context.{Context}
use Rattle.syn_expr_spec.specs.Place.{takes}
use Rattle.syn_expr_spec.specs.Op.{operator}
use Rattle.syn_expr_spec.specs.Tree as e
use Rattle.syn_expr_spec.specs.Tree.{Jump, Prefix, Trailer, Piece}

-- ---- classes of tokens

abbrev pub class_of_binary : BinKind → Next
class_of_binary op = (operator op).2

-- the class of an infix operator
abbrev pub class_of : Infix → Next
class_of (inf.Binary op) = class_of_binary op
class_of inf.Assign = next.Assign
class_of (inf.Range op) = next.Range
class_of inf.Cast = next.As

-- the class of a trailer's first token
abbrev pub next_of : Trailer → Next
next_of e.call = next.Parenthesis
next_of e.index = next.Bracket
next_of e.try_expr = next.Question
next_of _ = next.Dot

-- the level of an operator of the class, none where it is no operator
abbrev pub level_of : Next → Option Precedence
level_of next.Assign = Some lev.Assign
level_of next.ShiftLeftAssign = Some lev.Assign
level_of next.Range = Some lev.Range
level_of next.OrOr = Some lev.Or
level_of next.AndAnd = Some lev.And
level_of next.Compare = Some lev.Compare
level_of next.Less = Some lev.Compare
level_of next.Or = Some lev.BitOr
level_of next.Caret = Some lev.BitXor
level_of next.And = Some lev.BitAnd
level_of next.ShiftLeft = Some lev.Shift
level_of next.ShiftRight = Some lev.Shift
level_of next.Plus = Some lev.Sum
level_of next.Minus = Some lev.Sum
level_of next.Star = Some lev.Product
level_of next.Divide = Some lev.Product
level_of next.As = Some lev.Cast
level_of _ = None

abbrev takes_some : Precedence → Option Precedence → Bool
takes_some v None = false
takes_some v (Some w) = takes v w

-- a place of the level takes an operator of the class
abbrev pub takes_next : Precedence → Next → Bool
takes_next v n = takes_some v (level_of n)

-- a trailer begins with a token of the class
abbrev pub trails : Next → Bool
trails next.Dot = true
trails next.Question = true
trails next.Parenthesis = true
trails next.Bracket = true
trails _ = false

-- an expression begins with a token of the class
abbrev pub begins_next : Next → Bool
begins_next next.Range = true
begins_next next.OrOr = true
begins_next next.AndAnd = true
begins_next next.Less = true
begins_next next.Or = true
begins_next next.And = true
begins_next next.ShiftLeft = true
begins_next next.Minus = true
begins_next next.Star = true
begins_next next.Parenthesis = true
begins_next next.Bracket = true
begins_next next.Block = true
begins_next next.Brace = true
begins_next _ = false

abbrev pub is_block_next : Next → Bool
is_block_next next.Block = true
is_block_next _ = false

-- a brace after which a path would be that of a struct expression
abbrev pub is_brace_next : Next → Bool
is_brace_next next.Brace = true
is_brace_next _ = false

-- after a value of a jump a brace opens no block
abbrev pub without_block : Next → Next
without_block next.Block = next.Brace
without_block n = n

-- ---- contexts

-- inside of delimiters, with nothing after; and for plain position
abbrev pub enclosed : Context
enclosed = record { condition = false; edge = edge.Free; next = next.End }

abbrev pub in_statement : Context
in_statement = record { condition = false; edge = edge.Statement; next = next.End }

abbrev pub in_arm : Context
in_arm = record { condition = false; edge = edge.Arm; next = next.End }

abbrev pub in_condition : Context
in_condition = record { condition = true; edge = edge.Free; next = next.Block }

-- left of an operator, a call or an index
abbrev pub left_edge : Edge → Edge
left_edge edge.Arm = edge.BelowArm
left_edge edge.Statement = edge.BelowStatement
left_edge x = x

-- left of a dot or a question mark
abbrev pub dot_edge : Edge → Edge
dot_edge edge.BelowArm = edge.Arm
dot_edge edge.BelowStatement = edge.Statement
dot_edge x = x

abbrev pub base_edge : Trailer → Edge → Edge
base_edge e.call x = left_edge x
base_edge e.index x = left_edge x
base_edge _ x = dot_edge x

-- after attributes no brace is first
abbrev pub attributed_edge : Edge → Edge
attributed_edge edge.NoBrace = edge.Free
attributed_edge x = x

-- in a condition a brace would be that of the block
abbrev pub braceless : Bool → Edge
braceless true = edge.NoBrace
braceless false = edge.Free

abbrev pub is_half_open : Infix → Bool
is_half_open (inf.Range limits.HalfOpen) = true
is_half_open _ = false

abbrev pub is_break : Jump → Bool
is_break (e.breaking label) = true
is_break _ = false

abbrev pub left_context : Infix → Context → Context
left_context k c = record { condition = c.condition; edge = left_edge c.edge; next = class_of k }

abbrev pub base_context : Trailer → Context → Context
base_context k c = record { condition = c.condition; edge = base_edge k c.edge; next = next_of k }

abbrev pub right_context : Infix → Context → Context
right_context k c = record { condition = c.condition; edge = braceless (is_half_open k && c.condition); next = c.next }

abbrev pub attributed_context : Context → Context
attributed_context c = record { condition = c.condition; edge = attributed_edge c.edge; next = c.next }

abbrev pub prefix_context : Prefix → Context → Context
prefix_context (e.jump j) c = record { condition = false; edge = braceless (is_break j && c.condition); next = without_block c.next }
prefix_context (e.range_to op) c = record { condition = c.condition; edge = braceless (is_half_open (inf.Range op) && c.condition); next = c.next }
prefix_context k c = record { condition = c.condition; edge = edge.Free; next = c.next }

-- what is after an operand, by what is after its prefix
abbrev pub prefix_next : Prefix → Next → Next
prefix_next (e.jump j) n = without_block n
prefix_next k n = n

-- the level of the place of an operand after its prefix
abbrev pub prefix_level : Prefix → Precedence
prefix_level (e.range_to op) = lev.Range
prefix_level (e.let_expr p) = lev.Let
prefix_level (e.jump j) = lev.Jump
prefix_level (e.closure h) = lev.Jump
prefix_level _ = lev.Prefix

abbrev pub piece_context : Piece → Context
piece_context e.condition = in_condition
piece_context e.loop_head = in_condition
piece_context e.scrutinee = in_condition
piece_context e.guarded = in_arm
piece_context (e.arm ats p) = in_arm
piece_context _ = enclosed
