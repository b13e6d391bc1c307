-- In each arm the operands are those of the node that was matched.
use Rattle.std.proofs.Common.{ap, ◌∙◌}
use Rattle.syn_expr_core.specs.View.{tree_of}
use Rattle.syn_expr_core.proofs.TreeOf as of
use Rattle.syn_visit_kinds.proofs.OperandsOf.{array_operands, assign_operands, await_operands, binary_operands, break_operands, call_operands, cast_operands, field_operands, group_operands, if_operands, index_operands, method_call_operands, paren_operands, range_expr_operands, raw_addr_operands, reference_operands, repeat_operands, return_operands, struct_operands, try_operands, tuple_operands, unary_operands, while_operands, yield_operands}
use Rattle.syn_visit_kinds.proofs.Walk.{walk_one}
use Rattle.syn_visit.proofs.Seen.{at_arm, at_leaf, at_member, at_verbatim}
use Rattle.syn_visit.proofs.visit.for_each_operand.Goals as goal

pub returns-in-Array : goal.returns-in-Array
returns-in-Array g c = at_arm _ (ap tree_of c.in-Array.is ∙ of.tree-Array c.in-Array.x) c.punctuated.ensures (array_operands tree_of c.in-Array.x).are

pub returns-in-Assign : goal.returns-in-Assign
returns-in-Assign g c = at_arm _ (ap tree_of c.in-Assign.is ∙ of.tree-Assign c.in-Assign.x) c.two.ensures (assign_operands tree_of c.in-Assign.x).are

pub returns-in-Async : goal.returns-in-Async
returns-in-Async g c = at_leaf _ _ _ (ap tree_of c.in-Async.is ∙ of.tree-Async c.in-Async.field-0)

pub returns-in-Await : goal.returns-in-Await
returns-in-Await g c = at_arm _ (ap tree_of c.in-Await.is ∙ of.tree-Await c.in-Await.x) (walk_one _ c.one.ensures) (await_operands tree_of c.in-Await.x).are

pub returns-in-Binary : goal.returns-in-Binary
returns-in-Binary g c = at_arm _ (ap tree_of c.in-Binary.is ∙ of.tree-Binary c.in-Binary.x) c.two-in-Binary.ensures (binary_operands tree_of c.in-Binary.x).are

pub returns-in-Block : goal.returns-in-Block
returns-in-Block g c = at_leaf _ _ _ (ap tree_of c.in-Block.is ∙ of.tree-Block c.in-Block.field-0)

pub returns-in-Break : goal.returns-in-Break
returns-in-Break g c = at_arm _ (ap tree_of c.in-Break.is ∙ of.tree-Break c.in-Break.x) c.optional.ensures (break_operands tree_of c.in-Break.x).are

pub returns-in-Call : goal.returns-in-Call
returns-in-Call g c = at_arm _ (ap tree_of c.in-Call.is ∙ of.tree-Call c.in-Call.x) c.call_expr.ensures (call_operands tree_of c.in-Call.x).are

pub returns-in-Cast : goal.returns-in-Cast
returns-in-Cast g c = at_arm _ (ap tree_of c.in-Cast.is ∙ of.tree-Cast c.in-Cast.x) (walk_one _ c.one-in-Cast.ensures) (cast_operands tree_of c.in-Cast.x).are

pub returns-in-Closure : goal.returns-in-Closure
returns-in-Closure g c = at_member _ (ap tree_of c.in-Closure.is ∙ of.tree-Closure c.in-Closure.x) c.closure.ensures

pub returns-in-Const : goal.returns-in-Const
returns-in-Const g c = at_leaf _ _ _ (ap tree_of c.in-Const.is ∙ of.tree-Const c.in-Const.field-0)

pub returns-in-Continue : goal.returns-in-Continue
returns-in-Continue g c = at_leaf _ _ _ (ap tree_of c.in-Continue.is ∙ of.tree-Continue c.in-Continue.field-0)

pub returns-in-Field : goal.returns-in-Field
returns-in-Field g c = at_arm _ (ap tree_of c.in-Field.is ∙ of.tree-Field c.in-Field.x) (walk_one _ c.one-in-Field.ensures) (field_operands tree_of c.in-Field.x).are

pub returns-in-ForLoop : goal.returns-in-ForLoop
returns-in-ForLoop g c = at_member _ (ap tree_of c.in-ForLoop.is ∙ of.tree-ForLoop c.in-ForLoop.x) c.for_loop.ensures

pub returns-in-Group : goal.returns-in-Group
returns-in-Group g c = at_arm _ (ap tree_of c.in-Group.is ∙ of.tree-Group c.in-Group.x) (walk_one _ c.one-in-Group.ensures) (group_operands tree_of c.in-Group.x).are

pub returns-in-If : goal.returns-in-If
returns-in-If g c = at_arm _ (ap tree_of c.in-If.is ∙ of.tree-If c.in-If.x) c.if_expr.ensures (if_operands tree_of c.in-If.x).are

pub returns-in-Index : goal.returns-in-Index
returns-in-Index g c = at_arm _ (ap tree_of c.in-Index.is ∙ of.tree-Index c.in-Index.x) c.two-in-Index.ensures (index_operands tree_of c.in-Index.x).are

pub returns-in-Infer : goal.returns-in-Infer
returns-in-Infer g c = at_leaf _ _ _ (ap tree_of c.in-Infer.is ∙ of.tree-Infer c.in-Infer.field-0)

pub returns-in-Let : goal.returns-in-Let
returns-in-Let g c = at_member _ (ap tree_of c.in-Let.is ∙ of.tree-Let c.in-Let.x) c.let_expr.ensures

pub returns-in-Lit : goal.returns-in-Lit
returns-in-Lit g c = at_leaf _ _ _ (ap tree_of c.in-Lit.is ∙ of.tree-Lit c.in-Lit.field-0)

pub returns-in-Loop : goal.returns-in-Loop
returns-in-Loop g c = at_leaf _ _ _ (ap tree_of c.in-Loop.is ∙ of.tree-Loop c.in-Loop.field-0)

pub returns-in-Macro : goal.returns-in-Macro
returns-in-Macro g c = at_leaf _ _ _ (ap tree_of c.in-Macro.is ∙ of.tree-Macro c.in-Macro.field-0)

pub returns-in-Match : goal.returns-in-Match
returns-in-Match g c = at_member _ (ap tree_of c.in-Match.is ∙ of.tree-Match c.in-Match.x) c.match_expr.ensures

pub returns-in-MethodCall : goal.returns-in-MethodCall
returns-in-MethodCall g c = at_arm _ (ap tree_of c.in-MethodCall.is ∙ of.tree-MethodCall c.in-MethodCall.x) c.call_expr-in-MethodCall.ensures (method_call_operands tree_of c.in-MethodCall.x).are

pub returns-in-Paren : goal.returns-in-Paren
returns-in-Paren g c = at_arm _ (ap tree_of c.in-Paren.is ∙ of.tree-Paren c.in-Paren.x) (walk_one _ c.one-in-Paren.ensures) (paren_operands tree_of c.in-Paren.x).are

pub returns-in-Path : goal.returns-in-Path
returns-in-Path g c = at_leaf _ _ _ (ap tree_of c.in-Path.is ∙ of.tree-Path c.in-Path.field-0)

pub returns-in-Range : goal.returns-in-Range
returns-in-Range g c = at_arm _ (ap tree_of c.in-Range.is ∙ of.tree-Range c.in-Range.x) c.ends.ensures (range_expr_operands tree_of c.in-Range.x).are

pub returns-in-RawAddr : goal.returns-in-RawAddr
returns-in-RawAddr g c = at_arm _ (ap tree_of c.in-RawAddr.is ∙ of.tree-RawAddr c.in-RawAddr.x) (walk_one _ c.one-in-RawAddr.ensures) (raw_addr_operands tree_of c.in-RawAddr.x).are

pub returns-in-Reference : goal.returns-in-Reference
returns-in-Reference g c = at_arm _ (ap tree_of c.in-Reference.is ∙ of.tree-Reference c.in-Reference.x) (walk_one _ c.one-in-Reference.ensures) (reference_operands tree_of c.in-Reference.x).are

pub returns-in-Repeat : goal.returns-in-Repeat
returns-in-Repeat g c = at_arm _ (ap tree_of c.in-Repeat.is ∙ of.tree-Repeat c.in-Repeat.x) c.two-in-Repeat.ensures (repeat_operands tree_of c.in-Repeat.x).are

pub returns-in-Return : goal.returns-in-Return
returns-in-Return g c = at_arm _ (ap tree_of c.in-Return.is ∙ of.tree-Return c.in-Return.x) c.optional-in-Return.ensures (return_operands tree_of c.in-Return.x).are

pub returns-in-Struct : goal.returns-in-Struct
returns-in-Struct g c = at_arm _ (ap tree_of c.in-Struct.is ∙ of.tree-Struct c.in-Struct.x) c.struct_expr.ensures (struct_operands tree_of c.in-Struct.x).are

pub returns-in-Try : goal.returns-in-Try
returns-in-Try g c = at_arm _ (ap tree_of c.in-Try.is ∙ of.tree-Try c.in-Try.x) (walk_one _ c.one-in-Try.ensures) (try_operands tree_of c.in-Try.x).are

pub returns-in-TryBlock : goal.returns-in-TryBlock
returns-in-TryBlock g c = at_leaf _ _ _ (ap tree_of c.in-TryBlock.is ∙ of.tree-TryBlock c.in-TryBlock.field-0)

pub returns-in-Tuple : goal.returns-in-Tuple
returns-in-Tuple g c = at_arm _ (ap tree_of c.in-Tuple.is ∙ of.tree-Tuple c.in-Tuple.x) c.punctuated-in-Tuple.ensures (tuple_operands tree_of c.in-Tuple.x).are

pub returns-in-Unary : goal.returns-in-Unary
returns-in-Unary g c = at_arm _ (ap tree_of c.in-Unary.is ∙ of.tree-Unary c.in-Unary.x) (walk_one _ c.one-in-Unary.ensures) (unary_operands tree_of c.in-Unary.x).are

pub returns-in-Unsafe : goal.returns-in-Unsafe
returns-in-Unsafe g c = at_leaf _ _ _ (ap tree_of c.in-Unsafe.is ∙ of.tree-Unsafe c.in-Unsafe.field-0)

pub returns-in-While : goal.returns-in-While
returns-in-While g c = at_arm _ (ap tree_of c.in-While.is ∙ of.tree-While c.in-While.x) (walk_one _ c.one-in-While.ensures) (while_operands tree_of c.in-While.x).are

pub returns-in-Yield : goal.returns-in-Yield
returns-in-Yield g c = at_arm _ (ap tree_of c.in-Yield.is ∙ of.tree-Yield c.in-Yield.x) c.optional-in-Yield.ensures (yield_operands tree_of c.in-Yield.x).are

pub returns : goal.returns
returns g c = at_verbatim _ _ (ap tree_of c.in-Verbatim.is ∙ of.tree-Verbatim c.in-Verbatim.field-0)
