-- What is lent of an expression, by its tree: its attributes, its operands, and what it is but for them.
use Rattle.std.specs.Prelude.{Bool, true, false, List, [], ◌∷◌, map, Option, Some, None, is_some}
use Rattle.syn_lower_spec.specs.Tree.{AttributeTree}
use Rattle.syn_expr_spec.specs.declared.kinds.Infix.{Infix}
use Rattle.syn_expr_spec.specs.declared.kinds.Infix.TheVariants as inf
use Rattle.syn_expr_spec.specs.Tree as e
use Rattle.syn_expr_spec.specs.Tree.{Tree, Children, Body, ClosureHead, none, child}
use Rattle.syn_lower_leaves.specs.View.{lit_of, lifetime_of}
use Rattle.syn_lower.specs.View.{mapped, path_of, qself_or, macro_of, is_mut, lifetimes_of, return_of, values, trails, type_of}
use Rattle.syn_expr_tokens.specs.View.{un_kind, bin_kind, limits_kind, member_of, label_of}
use Rattle.syn_pat.specs.View.{PatView}
use Rattle.syn_expr_ast.specs.Attrs.{attrs_of, outer_of, inner_of}
use Rattle.syn_expr_ast.specs.Pats.{ArmView, trees, guards, arms}
use Rattle.syn_expr_ast.specs.View.{boxed, elements, fields, field_value_of, option_child, else_of, body_of, turbofish_of}
use Rattle.syn_expr_ast.specs.declared.node.Attributes.{Attributes}
use Rattle.syn_expr_ast.specs.declared.node.Attributes.TheVariants as attributes
use Rattle.syn_expr_ast.specs.declared.node.Braces.{Braces}
use Rattle.syn_expr_ast.specs.declared.node.Jump.{Jump}
use Rattle.syn_expr_ast.specs.declared.node.Jump.TheVariants as jump
use Rattle.syn_expr_ast.specs.declared.node.Leaf.{Leaf}
use Rattle.syn_expr_ast.specs.declared.node.Leaf.TheVariants as leaf
use Rattle.syn_expr_ast.specs.declared.node.Closure.{Closure}
use Rattle.syn_expr_ast.specs.declared.node.Prefix.{Prefix}
use Rattle.syn_expr_ast.specs.declared.node.Prefix.TheVariants as prefix
use Rattle.syn_expr_ast.specs.declared.node.Operator.{Operator}
use Rattle.syn_expr_ast.specs.declared.node.Operator.TheVariants as operator
use Rattle.syn_expr_ast.specs.declared.node.Postfix.{Postfix}
use Rattle.syn_expr_ast.specs.declared.node.Postfix.TheVariants as post
use Rattle.syn_expr_ast.specs.declared.node.Trailer.{Trailer}
use Rattle.syn_expr_ast.specs.declared.node.Trailer.TheVariants as trailer
use Rattle.syn_expr_ast.specs.declared.node.Frame.{Frame}
use Rattle.syn_expr_ast.specs.declared.node.Frame.TheVariants as frame
use Rattle.syn_expr_ast.specs.declared.node.Operands.{Operands}
use Rattle.syn_expr_ast.specs.declared.node.Operands.TheVariants as operands

-- ---- labels

abbrev pub before_of : Attributes → List AttributeTree
before_of attributes.None = []
before_of (attributes.Before ats) = attrs_of ats.now
before_of (attributes.Around ats) = outer_of ats.now

abbrev pub braces_of : Braces → Body
braces_of x = body_of (inner_of x.attrs.now) x.block.now.stmts

abbrev pub jump_of : Jump → e.Jump
jump_of (jump.Return t) = e.returning
jump_of (jump.Yield t) = e.yielding
jump_of (jump.Break t label) = e.breaking (mapped lifetime_of label.now)

abbrev pub leaf_of : Leaf → e.Leaf
leaf_of (leaf.Lit x) = e.lit (lit_of x.now)
leaf_of (leaf.Path q p) = e.path (qself_or type_of q.now) (path_of type_of p.now)
leaf_of (leaf.Macro m) = e.mac (macro_of type_of m.now)
leaf_of (leaf.Infer t) = e.infer
leaf_of (leaf.Range op) = e.full_range (limits_kind op.now)
leaf_of (leaf.Jump j) = e.bare_jump (jump_of j)
leaf_of (leaf.Continue t label) = e.continuing (mapped lifetime_of label.now)
leaf_of (leaf.Block label b) = e.block (mapped label_of label.now) (braces_of b)
leaf_of (leaf.Loop label t b) = e.loop_expr (mapped label_of label.now) (braces_of b)
leaf_of (leaf.Unsafe t b) = e.unsafe_block (braces_of b)
leaf_of (leaf.Const t b) = e.const_block (braces_of b)
leaf_of (leaf.Async t m b) = e.async_block (is_some m.now) b.now.stmts
leaf_of (leaf.TryBlock t b) = e.try_block b.now.stmts
leaf_of (leaf.Verbatim ts) = e.verbatim ts.now

abbrev pub operator_of : Operator → Infix
operator_of (operator.Binary op) = inf.Binary (bin_kind op.now)
operator_of (operator.Assign t) = inf.Assign
operator_of (operator.Range op) = inf.Range (limits_kind op.now)

abbrev pub postfix_of : Postfix → e.Postfix
postfix_of (post.Cast t ty) = e.cast (type_of ty.now.value)
postfix_of (post.Range op) = e.range_from (limits_kind op.now)

abbrev pub trailer_of : Trailer → e.Trailer
trailer_of (trailer.Call t) = e.call
trailer_of (trailer.Index t) = e.index
trailer_of (trailer.Method t name a u) = e.method name.now (turbofish_of a.now)
trailer_of (trailer.Field t m) = e.field (member_of m.now)
trailer_of (trailer.Await t u) = e.await
trailer_of (trailer.Try t) = e.try_expr

module _ {P : Type 0} (pat : P → PatView) where
  abbrev pub inputs_of : Closure P → List PatView
  inputs_of x = map pat (values x.inputs.now)

  abbrev pub closure_of : Closure P → ClosureHead
  closure_of x = record {
    lifetimes = mapped lifetimes_of x.lifetimes.now;
    constness = is_some x.constness.now;
    movability = is_some x.modifiers.now.static_token;
    asyncness = is_some x.asyncness.now;
    capture = is_some x.capture.now;
    usage = is_some x.modifiers.now.use_token;
    inputs = trees (inputs_of x);
    trailing = trails x.inputs.now;
    output = return_of x.output.now;
  }

  abbrev pub prefix_of : Prefix P → e.Prefix
  prefix_of (prefix.Unary op) = e.unary (un_kind op.now)
  prefix_of (prefix.Reference t m) = e.reference (is_some m.now)
  prefix_of (prefix.RawAddr t u m) = e.raw_addr (is_mut m.now)
  prefix_of (prefix.Range op) = e.range_to (limits_kind op.now)
  prefix_of (prefix.Let t p u) = e.let_expr (pat p.now.value).tree
  prefix_of (prefix.Jump j) = e.jump (jump_of j)
  prefix_of (prefix.Closure x) = e.closure (closure_of x)

  -- the guards in its patterns, where none may stand
  abbrev pub prefix_guards : Prefix P → List Tree
  prefix_guards (prefix.Let t p u) = (pat p.now.value).guards
  prefix_guards (prefix.Closure x) = guards (inputs_of x)
  prefix_guards _ = []

  abbrev pub frame_of : Frame P → e.Frame
  frame_of (frame.Array t) = e.array
  frame_of (frame.Tuple t) = e.tuple
  frame_of (frame.Repeat t) = e.repeat
  frame_of (frame.Struct q p t dots) = e.structure (qself_or type_of q.now) (path_of type_of p.now) dots
  frame_of (frame.Closure x) = e.closure_block (closure_of x)
  frame_of (frame.If t) = e.if_expr
  frame_of (frame.While label t) = e.while_loop (mapped label_of label.now)
  frame_of (frame.ForLoop label t p u) = e.for_loop (mapped label_of label.now) (pat p.now.value).tree
  frame_of (frame.Match t u) = e.match_expr
  frame_of (frame.Group t) = e.group_expr

  abbrev pub frame_guards : Frame P → List Tree
  frame_guards (frame.Closure x) = guards (inputs_of x)
  frame_guards (frame.ForLoop label t p u) = (pat p.now.value).guards
  frame_guards _ = []

  abbrev pub prefix_seen : Prefix P → e.Prefix × List Tree
  prefix_seen k = (prefix_of k, prefix_guards k)

  abbrev pub frame_seen : Frame P → e.Frame × List Tree
  frame_seen k = (frame_of k, frame_guards k)

-- ---- what is told of a tree

-- the attributes before it
abbrev pub attributes_at : Tree → List AttributeTree
attributes_at (e.attributed a more t) = a ∷ more
attributes_at _ = []

-- guards in patterns where none may stand, before the other operands; and these
abbrev pub stray_trees : Children → List Tree
stray_trees (child e.stray c t ks) = t ∷ stray_trees ks
stray_trees _ = []

abbrev pub without_strays : Children → Children
without_strays (child e.stray c t ks) = without_strays ks
without_strays ks = ks

-- ---- what a node is but for its operands, by its shape

abbrev pub leaf_at : Tree → Option e.Leaf
leaf_at (e.leaf k) = Some k
leaf_at (e.attributed a more t) = leaf_at t
leaf_at _ = None

abbrev pub is_paren : Tree → Bool
is_paren (e.paren m t) = true
is_paren (e.attributed a more t) = is_paren t
is_paren _ = false

-- with the guards in its patterns, where none may stand
abbrev pub prefix_at : Tree → Option (e.Prefix × List Tree)
prefix_at (e.prefixed k gs t) = Some (k, stray_trees gs)
prefix_at (e.attributed a more t) = prefix_at t
prefix_at _ = None

abbrev pub operator_at : Tree → Option Infix
operator_at (e.infixed x op y) = Some op
operator_at (e.attributed a more t) = operator_at t
operator_at _ = None

abbrev pub postfix_at : Tree → Option e.Postfix
postfix_at (e.postfixed x k) = Some k
postfix_at (e.attributed a more t) = postfix_at t
postfix_at _ = None

abbrev pub trailer_at : Tree → Option e.Trailer
trailer_at (e.tail b k ks) = Some k
trailer_at (e.attributed a more t) = trailer_at t
trailer_at _ = None

abbrev pub frame_at : Tree → Option (e.Frame × List Tree)
frame_at (e.frame k ks) = Some (k, stray_trees ks)
frame_at (e.attributed a more t) = frame_at t
frame_at _ = None

pub data OperandTrees : Type 0 where
  no_trees : OperandTrees
  one_tree : Tree → OperandTrees
  two_trees : Tree → Tree → OperandTrees
  based : Tree → Children → OperandTrees
  framed : Children → OperandTrees

-- the operands in places of their own
abbrev pub operand_children : OperandTrees → Children
operand_children (based b ks) = ks
operand_children (framed ks) = ks
operand_children _ = none

-- a base alone, or with what its trailer holds
abbrev pub based_by : Tree → Children → OperandTrees
based_by b none = one_tree b
based_by b (child k c t ks) = based b (child k c t ks)

-- the operand with which a node begins: its first one, and the base of a trailer
abbrev pub first_of : OperandTrees → Option Tree
first_of (one_tree t) = Some t
first_of (two_trees x y) = Some x
first_of (based b ks) = Some b
first_of _ = None

-- the second of two
abbrev pub second_of : OperandTrees → Option Tree
second_of (two_trees x y) = Some y
second_of _ = None

-- the one with which a node ends, or after which its trailer stands
abbrev pub last_of : OperandTrees → Option Tree
last_of (one_tree t) = Some t
last_of (two_trees x y) = Some y
last_of (based b ks) = Some b
last_of (framed (child e.output_block c t ks)) = Some t
last_of _ = None

abbrev pub operands_at : Tree → OperandTrees
operands_at (e.leaf k) = no_trees
operands_at (e.paren m t) = one_tree t
operands_at (e.attributed a more t) = operands_at t
operands_at (e.prefixed k gs t) = one_tree t
operands_at (e.infixed x op y) = two_trees x y
operands_at (e.postfixed x k) = one_tree x
operands_at (e.tail b k ks) = based_by b ks
operands_at (e.frame k ks) = framed (without_strays ks)

-- ---- borrowed parts

abbrev pub operands_of : {E A : Type 0} → (E → Tree) → (A → ArmView) → Operands E A → OperandTrees
operands_of tree arm operands.None = no_trees
operands_of tree arm (operands.One x) = one_tree (tree x.now.value)
operands_of tree arm (operands.Two x y) = two_trees (tree x.now.value) (tree y.now.value)
operands_of tree arm (operands.Call x xs) = based_by (tree x.now.value) (elements (map tree (values xs.now)) (trails xs.now))
operands_of tree arm (operands.Index x y) = based (tree x.now.value) (child e.value e.no_ending (tree y.now.value) none)
operands_of tree arm (operands.Elements xs) = framed (elements (map tree (values xs.now)) (trails xs.now))
operands_of tree arm (operands.Grouped x) = framed (child e.grouped e.no_ending (tree x.now.value) none)
operands_of tree arm (operands.Repeated x t y) = framed (child e.repeated e.no_ending (tree x.now.value) (child e.value e.no_ending (tree y.now.value) none))
operands_of tree arm (operands.Fields xs dots rest) =
    framed (fields (map (field_value_of tree) (values xs.now)) (trails xs.now) (option_child (e.rest (is_some dots.now)) (boxed tree rest.now)))
operands_of tree arm (operands.If x b more) = framed (child e.condition (e.braced (body_of [] b.now.stmts)) (tree x.now.value) (else_of tree more.now))
operands_of tree arm (operands.Loop x b) = framed (child e.loop_head (e.braced (braces_of b)) (tree x.now.value) none)
operands_of tree arm (operands.Arms x ats xs) = framed (child e.scrutinee (e.opened (inner_of ats.now)) (tree x.now.value) (arms (map arm xs.now.items)))
operands_of tree arm (operands.Body x) = framed (child e.output_block e.no_ending (tree x.now.value) none)
