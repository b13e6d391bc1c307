-- The parenthesis rule: a printer puts a node in parentheses where, left bare and with its operands printed by this
-- rule, it would break a binding rule that is charged to it.
use Rattle.std.specs.Prelude.{Bool, true, false, not, ◌||◌, ◌&&◌, if◌then◌else◌, Some, None}
use Rattle.syn_lexer.specs.declared.front.Delimiter.{Delimiter}
use Rattle.syn_lexer.specs.declared.front.Delimiter.TheVariants as del
use Rattle.syn_lower_spec.specs.Ends.{ends_open}
use Rattle.syn_lower_spec.specs.Form.{is_nil}
use Rattle.syn_expr_spec.specs.declared.kinds.Infix.{Infix}
use Rattle.syn_expr_spec.specs.declared.kinds.Precedence.{Precedence}
use Rattle.syn_expr_spec.specs.declared.kinds.Precedence.TheVariants as lev
use Rattle.syn_expr_spec.specs.declared.next.Next.{Next}
use Rattle.syn_expr_spec.specs.declared.next.Next.TheVariants as next
use Rattle.syn_expr_spec.specs.declared.next.Edge.{Edge}
use Rattle.syn_expr_spec.specs.declared.next.Edge.TheVariants as edge
use Rattle.syn_expr_spec.specs.declared.next.Context.{Context}
use Rattle.syn_expr_spec.specs.Place.{above, takes}
use Rattle.syn_expr_spec.specs.Op.{level, is_comparison}
use Rattle.syn_expr_spec.specs.Next.{class_of, next_of, takes_next, trails, begins_next, is_block_next, is_brace_next, enclosed, in_statement, left_context, base_context, right_context, attributed_context, prefix_context, prefix_next, prefix_level, piece_context}
use Rattle.syn_expr_spec.specs.Stands.{is_infix, is_range, is_cast, carries, compares, is_base}
use Rattle.syn_expr_spec.specs.Tree as e
use Rattle.syn_expr_spec.specs.Tree.{Tree, Children, Leaf, Prefix, Postfix, Jump, Frame, Piece, Trailer, leaf, paren, attributed, prefixed, infixed, postfixed, tail, frame, none, child, own_tokens, fill, plain_block, postfix_op, is_block_leaf, is_block_frame, is_silent}

-- ---- what a node is as printed: an operation after attributes is in parentheses

abbrev pub prints_range : Tree → Bool
prints_range (attributed a more t) = false
prints_range t = is_range t

-- without attributes: after these it is in parentheses, since they would belong to its first operand
abbrev pub is_operation : Tree → Bool
is_operation t = is_infix t || prints_range t

-- a trailer after it would belong to it, or is refused there
abbrev pub prints_carrier : Tree → Bool
prints_carrier (attributed a more t) = is_operation t || prints_carrier t
prints_carrier t = carries t || is_cast t

-- ---- what a node must not have after it, for what it is itself

-- no end of a range
abbrev pub ends_range_next : Next → Bool
ends_range_next n = not (begins_next n) || is_block_next n

abbrev pub jump_refuses : Jump → Next → Bool
jump_refuses (e.breaking label) n = begins_next n && not (is_block_next n)
jump_refuses j n = begins_next n

-- a path before a brace, a jump without a value before what begins one, a range without an end before one
abbrev pub leaf_refuses : Leaf → Next → Bool
leaf_refuses (e.path q p) n = is_brace_next n
leaf_refuses (e.bare_jump j) n = jump_refuses j n
leaf_refuses (e.full_range op) n = not (ends_range_next n)
leaf_refuses k n = false

abbrev pub is_less_next : Next → Bool
is_less_next next.Less = true
is_less_next next.ShiftLeft = true
is_less_next next.ShiftLeftAssign = true
is_less_next _ = false

-- and a type before a `<` that would begin its arguments
abbrev pub postfix_refuses : Postfix → Next → Bool
postfix_refuses (e.cast x) n = is_less_next n && ends_open x
postfix_refuses (e.range_from op) n = not (ends_range_next n)

abbrev pub refuses : Tree → Next → Bool
refuses (leaf k) n = leaf_refuses k n
refuses (attributed a more t) n = not (is_operation t) && refuses t n
refuses (postfixed t k) n = postfix_refuses k n
refuses _ n = false

-- ---- where a node must not stand, for what it is itself

abbrev pub is_below : Edge → Bool
is_below edge.BelowArm = true
is_below edge.BelowStatement = true
is_below _ = false

abbrev pub is_below_statement : Edge → Bool
is_below_statement edge.BelowStatement = true
is_below_statement _ = false

abbrev pub is_statement : Edge → Bool
is_statement edge.Statement = true
is_statement edge.BelowStatement = true
is_statement _ = false

abbrev pub is_braceless : Edge → Bool
is_braceless edge.NoBrace = true
is_braceless _ = false

abbrev pub is_brace_delimiter : Delimiter → Bool
is_brace_delimiter del.Brace = true
is_brace_delimiter _ = false

-- a block-like leaf below a head, a block first where no brace may be, a macro with braces below a statement's head
abbrev pub leaf_misplaced : Context → Leaf → Bool
leaf_misplaced c (e.block None b) = is_below c.edge || is_braceless c.edge
leaf_misplaced c (e.mac m) = is_below_statement c.edge && is_brace_delimiter m.delimiter
leaf_misplaced c k = is_below c.edge && is_block_leaf k

abbrev pub prefix_misplaced : Context → Prefix → Bool
prefix_misplaced c (e.let_expr p) = is_statement c.edge
prefix_misplaced c k = false

-- a struct expression in a condition
abbrev pub frame_misplaced : Context → Frame → Bool
frame_misplaced c (e.structure q p d) = c.condition
frame_misplaced c k = is_below c.edge && is_block_frame k

abbrev pub misplaced : Context → Tree → Bool
misplaced c (leaf k) = leaf_misplaced c k
misplaced c (attributed a more t) = not (is_operation t) && misplaced (attributed_context c) t
misplaced c (prefixed k gs t) = prefix_misplaced c k
misplaced c (frame k ks) = frame_misplaced c k
misplaced c t = false

-- for what a node is itself
abbrev pub self_wrapped : Context → Tree → Bool
self_wrapped c t = refuses t c.next || misplaced c t

-- ---- the ends of a node, with its operands as printed

abbrev pub lower : Precedence → Precedence → Precedence
lower v w = if above v w then w else v

-- The owner of a place must not have this after it: an operator that the place takes, unless a bare range is there,
-- or a trailer that the occupant could carry. `wrapped`: the occupant is in parentheses.
abbrev pub ends_badly : Precedence → Tree → Next → Bool → Bool
ends_badly v t n wrapped = (takes_next v n && not (not wrapped && prints_range t)) || (trails n && (wrapped || prints_carrier t))

-- the value of a `break` without a label begins with a lifetime
abbrev pub is_bare_break : Prefix → Bool
is_bare_break (e.jump (e.breaking None)) = true
is_bare_break _ = false

abbrev pub leaf_labelled : Leaf → Bool
leaf_labelled (e.block (Some w) b) = true
leaf_labelled (e.loop_expr (Some w) b) = true
leaf_labelled _ = false

abbrev pub frame_labelled : Frame → Bool
frame_labelled (e.while_loop (Some w)) = true
frame_labelled (e.for_loop (Some w) p) = true
frame_labelled _ = false

-- A left operand: a range, a comparison before a comparison, or its right end takes the operator (`takes_it`, or for what
-- it is itself).
abbrev pub left_wrapped : Infix → Tree → Bool → Bool
left_wrapped k x takes_it = prints_range x || ((compares x && is_comparison k) || (takes_it || refuses x (class_of k)))

-- The base of a trailer: it can't carry it, or its right end takes it.
abbrev pub base_wrapped : Trailer → Tree → Bool → Bool
base_wrapped k b takes_it = not (is_base k b) || (takes_it || refuses b (next_of k))

-- The occupant of a place: an operator on its bare left edge is not above the place, or its right end takes what follows.
abbrev pub place_wrapped : Precedence → Tree → Next → Precedence → Bool → Bool
place_wrapped v t n lowest takes_it = not (takes v lowest) || (takes_it || refuses t n)

abbrev mutual
  -- the lowest operator on the bare left edge, Unambiguous where none is there
  pub low : Tree → Precedence
  low (infixed x k y) = lower (level k) (if left_wrapped k x (bad x (class_of k)) then lev.Unambiguous else low x)
  low (postfixed x k) = lower (level (postfix_op k)) (if left_wrapped (postfix_op k) x (bad x (class_of (postfix_op k))) then lev.Unambiguous else low x)
  low _ = lev.Unambiguous

  -- the bare right end must not have a token of this class after it
  pub bad : Tree → Next → Bool
  bad (prefixed k gs t) n =
      ends_badly (prefix_level k) t (prefix_next k n)
      (place_wrapped (prefix_level k) t (prefix_next k n) (low t) (bad t (prefix_next k n)) || (is_bare_break k && labelled t))
  bad (infixed x k y) n = ends_badly (level k) y n (place_wrapped (level k) y n (low y) (bad y n))
  bad (attributed a more t) n = not (is_operation t) && bad t n
  bad _ n = false

  -- the first token is that of a label
  pub labelled : Tree → Bool
  labelled (leaf k) = leaf_labelled k
  labelled (infixed x k y) = not (left_wrapped k x (bad x (class_of k))) && labelled x
  labelled (postfixed x k) = not (left_wrapped (postfix_op k) x (bad x (class_of (postfix_op k)))) && labelled x
  labelled (tail b k ks) = not (base_wrapped k b (bad b (next_of k))) && labelled b
  labelled (frame k ks) = frame_labelled k
  labelled _ = false

-- ---- whether a node is put in parentheses

abbrev pub place_asks : Precedence → Context → Tree → Bool
place_asks v c t = place_wrapped v t c.next (low t) (bad t c.next) || misplaced c t

abbrev pub left_asks : Infix → Context → Tree → Bool
left_asks k c t = left_wrapped k t (bad t c.next) || misplaced c t

abbrev pub base_asks : Trailer → Context → Tree → Bool
base_asks k c t = base_wrapped k t (bad t c.next) || misplaced c t

-- after a prefix: the value of a `break` too where it begins with a label
abbrev pub prefix_asks : Prefix → Context → Tree → Bool
prefix_asks k c t = place_asks (prefix_level k) c t || (is_bare_break k && labelled t)

-- ---- the printed tree

-- in a pair of parentheses that the printer adds, or bare
abbrev pub put : Bool → Tree → Tree → Tree
put true inside t = paren true inside
put false inside t = t

abbrev pub is_plain_leaf : Leaf → Bool
is_plain_leaf (e.block None b) = is_nil b.inner
is_plain_leaf _ = false

abbrev pub is_block_expr_leaf : Leaf → Bool
is_block_expr_leaf (e.block label b) = true
is_block_expr_leaf _ = false

-- a block without a label and attributes
abbrev pub is_plain_block : Tree → Bool
is_plain_block (leaf k) = is_plain_leaf k
is_plain_block _ = false

abbrev pub is_if : Frame → Bool
is_if e.if_expr = true
is_if _ = false

-- an `if` or a block, which may have attributes
abbrev pub is_chainable : Tree → Bool
is_chainable (leaf k) = is_block_expr_leaf k
is_chainable (attributed a more t) = is_chainable t
is_chainable (frame k ks) = is_if k
is_chainable _ = false

-- an `if` is printed without its attributes there
abbrev pub chained_bare : Tree → Tree
chained_bare (attributed a more (frame k ks)) = frame k ks
chained_bare t = t

-- After `else` anything else than an `if` or a block, and after a closure's output than a block, is put in braces, and
-- is there as a statement.
abbrev pub piece_put : Piece → Tree → Tree → Tree → Tree → Bool → Tree
piece_put e.chained t alone bare stated asks = if is_chainable t then chained_bare bare else plain_block (own_tokens stated)
piece_put e.output_block t alone bare stated asks = if is_plain_block t then bare else plain_block (own_tokens stated)
piece_put k t alone bare stated asks = if is_silent k then t else put asks alone bare

-- The tree with the pairs that it needs inside, and none round it. Inside of a pair it is printed for itself again.
abbrev mutual
  pub bare : Context → Tree → Tree
  bare c (leaf k) = leaf k
  bare c (paren m t) = paren false (bare enclosed t)
  bare c (attributed a more t) = attributed a more (put (is_operation t) (bare enclosed t) (bare (attributed_context c) t))
  bare c (prefixed k gs t) = prefixed k gs (put (prefix_asks k (prefix_context k c) t) (bare enclosed t) (bare (prefix_context k c) t))
  bare c (infixed x k y) =
      infixed (put (left_asks k (left_context k c) x) (bare enclosed x) (bare (left_context k c) x)) k
      (put (place_asks (level k) (right_context k c) y) (bare enclosed y) (bare (right_context k c) y))
  bare c (postfixed x k) =
      postfixed (put (left_asks (postfix_op k) (left_context (postfix_op k) c) x) (bare enclosed x) (bare (left_context (postfix_op k) c) x)) k
  bare c (tail b k ks) = tail (put (base_asks k (base_context k c) b) (bare enclosed b) (bare (base_context k c) b)) k (bare_children ks)
  bare c (frame k ks) = frame k (bare_children ks)

  pub bare_children : Children → Children
  bare_children none = none
  bare_children (child k c t ks) =
      child k c (piece_put k t (bare enclosed t) (bare (piece_context k) t)
      (put (place_asks lev.Jump in_statement t) (bare enclosed t) (bare in_statement t))
      (place_asks lev.Jump (piece_context k) t)) (bare_children ks)

-- the tree as printed for itself
abbrev pub printed : Context → Tree → Tree
printed c t = put (place_asks lev.Jump c (fill t)) (bare enclosed (fill t)) (bare c (fill t))
