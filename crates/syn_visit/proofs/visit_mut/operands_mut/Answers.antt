use Rattle.std.proofs.Common.{sym, ap, ◌∙◌}
use Rattle.syn_expr_core.specs.View.{let_of, match_of, closure_of, expr_array_of, expr_assign_of, expr_await_of, expr_binary_of, expr_break_of, expr_call_of, expr_cast_of, expr_field_of, expr_group_of, expr_if_of, expr_index_of, expr_method_call_of, expr_paren_of, expr_range_of, expr_raw_addr_of, expr_reference_of, expr_repeat_of, expr_return_of, expr_struct_of, expr_try_of, expr_tuple_of, expr_unary_of, expr_while_of, expr_yield_of, for_loop_of, tree_of}
use Rattle.syn_expr_core.specs.declared.expr.Expr.TheVariants as ex
use Rattle.syn_expr_core.proofs.TreeOf as of
use Rattle.syn_visit.proofs.Left.{in_same, leaf_in, verbatim_in}
use Rattle.syn_visit.proofs.visit_mut.operands_mut.Goals as goal

pub returns-in-Array : goal.returns-in-Array
returns-in-Array g c = rw (c.in-Array.is, ex.outs-Array c.in-Array.x) (in_same (of.tree-Array c.in-Array.x ∙ sym (ap (expr_array_of tree_of) c.in-Array.x-is)) (of.tree-Array c.array_mut.new.x) c.array_mut.ensures)

pub returns-in-Assign : goal.returns-in-Assign
returns-in-Assign g c = rw (c.in-Assign.is, ex.outs-Assign c.in-Assign.x) (in_same (of.tree-Assign c.in-Assign.x ∙ sym (ap (expr_assign_of tree_of) c.in-Assign.x-is)) (of.tree-Assign c.assign_mut.new.x) c.assign_mut.ensures)

pub returns-in-Async : goal.returns-in-Async
returns-in-Async g c = leaf_in _ _ _ (ap tree_of c.in-Async.is ∙ of.tree-Async c.in-Async.field-0)

pub returns-in-Await : goal.returns-in-Await
returns-in-Await g c = rw (c.in-Await.is, ex.outs-Await c.in-Await.x) (in_same (of.tree-Await c.in-Await.x ∙ sym (ap (expr_await_of tree_of) c.in-Await.x-is)) (of.tree-Await c.await_expr_mut.new.x) c.await_expr_mut.ensures)

pub returns-in-Binary : goal.returns-in-Binary
returns-in-Binary g c = rw (c.in-Binary.is, ex.outs-Binary c.in-Binary.x) (in_same (of.tree-Binary c.in-Binary.x ∙ sym (ap (expr_binary_of tree_of) c.in-Binary.x-is)) (of.tree-Binary c.binary_mut.new.x) c.binary_mut.ensures)

pub returns-in-Block : goal.returns-in-Block
returns-in-Block g c = leaf_in _ _ _ (ap tree_of c.in-Block.is ∙ of.tree-Block c.in-Block.field-0)

pub returns-in-Break : goal.returns-in-Break
returns-in-Break g c = rw (c.in-Break.is, ex.outs-Break c.in-Break.x) (in_same (of.tree-Break c.in-Break.x ∙ sym (ap (expr_break_of tree_of) c.in-Break.x-is)) (of.tree-Break c.break_expr_mut.new.x) c.break_expr_mut.ensures)

pub returns-in-Call : goal.returns-in-Call
returns-in-Call g c = rw (c.in-Call.is, ex.outs-Call c.in-Call.x) (in_same (of.tree-Call c.in-Call.x ∙ sym (ap (expr_call_of tree_of) c.in-Call.x-is)) (of.tree-Call c.call_expr_mut.new.x) c.call_expr_mut.ensures)

pub returns-in-Cast : goal.returns-in-Cast
returns-in-Cast g c = rw (c.in-Cast.is, ex.outs-Cast c.in-Cast.x) (in_same (of.tree-Cast c.in-Cast.x ∙ sym (ap (expr_cast_of tree_of) c.in-Cast.x-is)) (of.tree-Cast c.cast_mut.new.x) c.cast_mut.ensures)

pub returns-in-Closure : goal.returns-in-Closure
returns-in-Closure g c = rw (c.in-Closure.is, ex.outs-Closure c.in-Closure.x) (in_same (of.tree-Closure c.in-Closure.x ∙ sym (ap closure_of c.in-Closure.x-is)) (of.tree-Closure c.closure_mut.new.x) c.closure_mut.ensures)

pub returns-in-Const : goal.returns-in-Const
returns-in-Const g c = leaf_in _ _ _ (ap tree_of c.in-Const.is ∙ of.tree-Const c.in-Const.field-0)

pub returns-in-Continue : goal.returns-in-Continue
returns-in-Continue g c = leaf_in _ _ _ (ap tree_of c.in-Continue.is ∙ of.tree-Continue c.in-Continue.field-0)

pub returns-in-Field : goal.returns-in-Field
returns-in-Field g c = rw (c.in-Field.is, ex.outs-Field c.in-Field.x) (in_same (of.tree-Field c.in-Field.x ∙ sym (ap (expr_field_of tree_of) c.in-Field.x-is)) (of.tree-Field c.field_mut.new.x) c.field_mut.ensures)

pub returns-in-ForLoop : goal.returns-in-ForLoop
returns-in-ForLoop g c = rw (c.in-ForLoop.is, ex.outs-ForLoop c.in-ForLoop.x) (in_same (of.tree-ForLoop c.in-ForLoop.x ∙ sym (ap for_loop_of c.in-ForLoop.x-is)) (of.tree-ForLoop c.for_loop_mut.new.x) c.for_loop_mut.ensures)

pub returns-in-Group : goal.returns-in-Group
returns-in-Group g c = rw (c.in-Group.is, ex.outs-Group c.in-Group.x) (in_same (of.tree-Group c.in-Group.x ∙ sym (ap (expr_group_of tree_of) c.in-Group.x-is)) (of.tree-Group c.group_mut.new.x) c.group_mut.ensures)

pub returns-in-If : goal.returns-in-If
returns-in-If g c = rw (c.in-If.is, ex.outs-If c.in-If.x) (in_same (of.tree-If c.in-If.x ∙ sym (ap (expr_if_of tree_of) c.in-If.x-is)) (of.tree-If c.if_expr_mut.new.x) c.if_expr_mut.ensures)

pub returns-in-Index : goal.returns-in-Index
returns-in-Index g c = rw (c.in-Index.is, ex.outs-Index c.in-Index.x) (in_same (of.tree-Index c.in-Index.x ∙ sym (ap (expr_index_of tree_of) c.in-Index.x-is)) (of.tree-Index c.index_mut.new.x) c.index_mut.ensures)

pub returns-in-Infer : goal.returns-in-Infer
returns-in-Infer g c = leaf_in _ _ _ (ap tree_of c.in-Infer.is ∙ of.tree-Infer c.in-Infer.field-0)

pub returns-in-Let : goal.returns-in-Let
returns-in-Let g c = rw (c.in-Let.is, ex.outs-Let c.in-Let.x) (in_same (of.tree-Let c.in-Let.x ∙ sym (ap let_of c.in-Let.x-is)) (of.tree-Let c.let_expr_mut.new.x) c.let_expr_mut.ensures)

pub returns-in-Lit : goal.returns-in-Lit
returns-in-Lit g c = leaf_in _ _ _ (ap tree_of c.in-Lit.is ∙ of.tree-Lit c.in-Lit.field-0)

pub returns-in-Loop : goal.returns-in-Loop
returns-in-Loop g c = leaf_in _ _ _ (ap tree_of c.in-Loop.is ∙ of.tree-Loop c.in-Loop.field-0)

pub returns-in-Macro : goal.returns-in-Macro
returns-in-Macro g c = leaf_in _ _ _ (ap tree_of c.in-Macro.is ∙ of.tree-Macro c.in-Macro.field-0)

pub returns-in-Match : goal.returns-in-Match
returns-in-Match g c = rw (c.in-Match.is, ex.outs-Match c.in-Match.x) (in_same (of.tree-Match c.in-Match.x ∙ sym (ap match_of c.in-Match.x-is)) (of.tree-Match c.match_expr_mut.new.x) c.match_expr_mut.ensures)

pub returns-in-MethodCall : goal.returns-in-MethodCall
returns-in-MethodCall g c = rw (c.in-MethodCall.is, ex.outs-MethodCall c.in-MethodCall.x) (in_same (of.tree-MethodCall c.in-MethodCall.x ∙ sym (ap (expr_method_call_of tree_of) c.in-MethodCall.x-is)) (of.tree-MethodCall c.method_call_mut.new.x) c.method_call_mut.ensures)

pub returns-in-Paren : goal.returns-in-Paren
returns-in-Paren g c = rw (c.in-Paren.is, ex.outs-Paren c.in-Paren.x) (in_same (of.tree-Paren c.in-Paren.x ∙ sym (ap (expr_paren_of tree_of) c.in-Paren.x-is)) (of.tree-Paren c.paren_mut.new.x) c.paren_mut.ensures)

pub returns-in-Path : goal.returns-in-Path
returns-in-Path g c = leaf_in _ _ _ (ap tree_of c.in-Path.is ∙ of.tree-Path c.in-Path.field-0)

pub returns-in-Range : goal.returns-in-Range
returns-in-Range g c = rw (c.in-Range.is, ex.outs-Range c.in-Range.x) (in_same (of.tree-Range c.in-Range.x ∙ sym (ap (expr_range_of tree_of) c.in-Range.x-is)) (of.tree-Range c.range_mut.new.x) c.range_mut.ensures)

pub returns-in-RawAddr : goal.returns-in-RawAddr
returns-in-RawAddr g c = rw (c.in-RawAddr.is, ex.outs-RawAddr c.in-RawAddr.x) (in_same (of.tree-RawAddr c.in-RawAddr.x ∙ sym (ap (expr_raw_addr_of tree_of) c.in-RawAddr.x-is)) (of.tree-RawAddr c.raw_addr_mut.new.x) c.raw_addr_mut.ensures)

pub returns-in-Reference : goal.returns-in-Reference
returns-in-Reference g c = rw (c.in-Reference.is, ex.outs-Reference c.in-Reference.x) (in_same (of.tree-Reference c.in-Reference.x ∙ sym (ap (expr_reference_of tree_of) c.in-Reference.x-is)) (of.tree-Reference c.reference_mut.new.x) c.reference_mut.ensures)

pub returns-in-Repeat : goal.returns-in-Repeat
returns-in-Repeat g c = rw (c.in-Repeat.is, ex.outs-Repeat c.in-Repeat.x) (in_same (of.tree-Repeat c.in-Repeat.x ∙ sym (ap (expr_repeat_of tree_of) c.in-Repeat.x-is)) (of.tree-Repeat c.repeat_mut.new.x) c.repeat_mut.ensures)

pub returns-in-Return : goal.returns-in-Return
returns-in-Return g c = rw (c.in-Return.is, ex.outs-Return c.in-Return.x) (in_same (of.tree-Return c.in-Return.x ∙ sym (ap (expr_return_of tree_of) c.in-Return.x-is)) (of.tree-Return c.return_expr_mut.new.x) c.return_expr_mut.ensures)

pub returns-in-Struct : goal.returns-in-Struct
returns-in-Struct g c = rw (c.in-Struct.is, ex.outs-Struct c.in-Struct.x) (in_same (of.tree-Struct c.in-Struct.x ∙ sym (ap (expr_struct_of tree_of) c.in-Struct.x-is)) (of.tree-Struct c.struct_expr_mut.new.x) c.struct_expr_mut.ensures)

pub returns-in-Try : goal.returns-in-Try
returns-in-Try g c = rw (c.in-Try.is, ex.outs-Try c.in-Try.x) (in_same (of.tree-Try c.in-Try.x ∙ sym (ap (expr_try_of tree_of) c.in-Try.x-is)) (of.tree-Try c.try_expr_mut.new.x) c.try_expr_mut.ensures)

pub returns-in-TryBlock : goal.returns-in-TryBlock
returns-in-TryBlock g c = leaf_in _ _ _ (ap tree_of c.in-TryBlock.is ∙ of.tree-TryBlock c.in-TryBlock.field-0)

pub returns-in-Tuple : goal.returns-in-Tuple
returns-in-Tuple g c = rw (c.in-Tuple.is, ex.outs-Tuple c.in-Tuple.x) (in_same (of.tree-Tuple c.in-Tuple.x ∙ sym (ap (expr_tuple_of tree_of) c.in-Tuple.x-is)) (of.tree-Tuple c.tuple_mut.new.x) c.tuple_mut.ensures)

pub returns-in-Unary : goal.returns-in-Unary
returns-in-Unary g c = rw (c.in-Unary.is, ex.outs-Unary c.in-Unary.x) (in_same (of.tree-Unary c.in-Unary.x ∙ sym (ap (expr_unary_of tree_of) c.in-Unary.x-is)) (of.tree-Unary c.unary_mut.new.x) c.unary_mut.ensures)

pub returns-in-Unsafe : goal.returns-in-Unsafe
returns-in-Unsafe g c = leaf_in _ _ _ (ap tree_of c.in-Unsafe.is ∙ of.tree-Unsafe c.in-Unsafe.field-0)

pub returns-in-While : goal.returns-in-While
returns-in-While g c = rw (c.in-While.is, ex.outs-While c.in-While.x) (in_same (of.tree-While c.in-While.x ∙ sym (ap (expr_while_of tree_of) c.in-While.x-is)) (of.tree-While c.while_expr_mut.new.x) c.while_expr_mut.ensures)

pub returns-in-Yield : goal.returns-in-Yield
returns-in-Yield g c = rw (c.in-Yield.is, ex.outs-Yield c.in-Yield.x) (in_same (of.tree-Yield c.in-Yield.x ∙ sym (ap (expr_yield_of tree_of) c.in-Yield.x-is)) (of.tree-Yield c.yield_expr_mut.new.x) c.yield_expr_mut.ensures)

pub returns-in-Verbatim : goal.returns-in-Verbatim
returns-in-Verbatim g c = verbatim_in _ _ (ap tree_of c.in-Verbatim.is ∙ of.tree-Verbatim c.in-Verbatim.field-0)
