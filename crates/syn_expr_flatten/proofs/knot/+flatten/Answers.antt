-- In each arm what the arm's own function leaves is put back into its kind.
use Rattle.std.proofs.Common.{refl, sym, ap, ◌∙◌}
use Rattle.syn_expr_core.specs.View.{let_of, match_of, closure_of, expr_array_of, expr_assign_of, expr_async_of, expr_await_of, expr_binary_of, expr_block_of, expr_break_of, expr_call_of, expr_cast_of, expr_const_of, expr_continue_of, expr_field_of, expr_group_of, expr_if_of, expr_index_of, expr_infer_of, expr_lit_of, expr_loop_of, expr_macro_of, expr_method_call_of, expr_paren_of, expr_path_of, expr_range_of, expr_raw_addr_of, expr_reference_of, expr_repeat_of, expr_return_of, expr_struct_of, expr_try_block_of, expr_try_of, expr_tuple_of, expr_unary_of, expr_unsafe_of, expr_while_of, expr_yield_of, for_loop_of, guard_of, pat_ident_of, pat_of, pat_or_of, pat_paren_of, pat_reference_of, pat_slice_of, pat_struct_of, pat_tuple_of, pat_tuple_struct_of, pat_type_of, tree_of}
use Rattle.syn_expr_spec.specs.Tree.{leaf, verbatim}
use Rattle.syn_expr_core.specs.declared.expr.Expr.TheVariants as ex
use Rattle.syn_expr_core.specs.declared.pat.Pat.TheVariants as pt
use Rattle.syn_expr_core.proofs.TreeOf as of
use Rattle.syn_expr_flatten.specs.Flat.{IsFlatBehind}
use Rattle.syn_expr_flatten.proofs.Nodes.{none_behind}
use Rattle.syn_expr_flatten.proofs.Made.{arm, bare, case, related}
use Rattle.syn_expr_flatten.proofs.knot.+flatten.Goals as goal

pub flattened-returns-in-Array : goal.flattened-returns-in-Array
flattened-returns-in-Array t c = rw (c.in-Array.is, ex.outs-Array c.in-Array.x) (arm _ _ _ _ (of.tree-Array c.in-Array.x ∙ sym (ap (expr_array_of tree_of) c.in-Array.x-is)) (of.tree-Array c.array.new.x) c.array.ensures)

pub flattened-returns-in-Assign : goal.flattened-returns-in-Assign
flattened-returns-in-Assign t c = rw (c.in-Assign.is, ex.outs-Assign c.in-Assign.x) (arm _ _ _ _ (of.tree-Assign c.in-Assign.x ∙ sym (ap (expr_assign_of tree_of) c.in-Assign.x-is)) (of.tree-Assign c.assign.new.x) c.assign.ensures)

pub flattened-returns-in-Async : goal.flattened-returns-in-Async
flattened-returns-in-Async t c = rw (c.in-Async.is, ex.outs-Async c.in-Async.x) (arm _ _ _ _ (of.tree-Async c.in-Async.x ∙ sym (ap expr_async_of c.in-Async.x-is)) (of.tree-Async c.async_block.new.x) c.async_block.ensures)

pub flattened-returns-in-Await : goal.flattened-returns-in-Await
flattened-returns-in-Await t c = rw (c.in-Await.is, ex.outs-Await c.in-Await.x) (arm _ _ _ _ (of.tree-Await c.in-Await.x ∙ sym (ap (expr_await_of tree_of) c.in-Await.x-is)) (of.tree-Await c.await_expr.new.x) c.await_expr.ensures)

pub flattened-returns-in-Binary : goal.flattened-returns-in-Binary
flattened-returns-in-Binary t c = rw (c.in-Binary.is, ex.outs-Binary c.in-Binary.x) (arm _ _ _ _ (of.tree-Binary c.in-Binary.x ∙ sym (ap (expr_binary_of tree_of) c.in-Binary.x-is)) (of.tree-Binary c.binary.new.x) c.binary.ensures)

pub flattened-returns-in-Block : goal.flattened-returns-in-Block
flattened-returns-in-Block t c = rw (c.in-Block.is, ex.outs-Block c.in-Block.x) (arm _ _ _ _ (of.tree-Block c.in-Block.x ∙ sym (ap expr_block_of c.in-Block.x-is)) (of.tree-Block c.block.new.x) c.block.ensures)

pub flattened-returns-in-Break : goal.flattened-returns-in-Break
flattened-returns-in-Break t c = rw (c.in-Break.is, ex.outs-Break c.in-Break.x) (arm _ _ _ _ (of.tree-Break c.in-Break.x ∙ sym (ap (expr_break_of tree_of) c.in-Break.x-is)) (of.tree-Break c.break_expr.new.x) c.break_expr.ensures)

pub flattened-returns-in-Call : goal.flattened-returns-in-Call
flattened-returns-in-Call t c = rw (c.in-Call.is, ex.outs-Call c.in-Call.x) (arm _ _ _ _ (of.tree-Call c.in-Call.x ∙ sym (ap (expr_call_of tree_of) c.in-Call.x-is)) (of.tree-Call c.call.new.x) c.call.ensures)

pub flattened-returns-in-Cast : goal.flattened-returns-in-Cast
flattened-returns-in-Cast t c = rw (c.in-Cast.is, ex.outs-Cast c.in-Cast.x) (arm _ _ _ _ (of.tree-Cast c.in-Cast.x ∙ sym (ap (expr_cast_of tree_of) c.in-Cast.x-is)) (of.tree-Cast c.cast.new.x) c.cast.ensures)

pub flattened-returns-in-Closure : goal.flattened-returns-in-Closure
flattened-returns-in-Closure t c = rw (c.in-Closure.is, ex.outs-Closure c.in-Closure.x) (arm _ _ _ _ (of.tree-Closure c.in-Closure.x ∙ sym (ap closure_of c.in-Closure.x-is)) (of.tree-Closure c.closure.new.x) c.closure.ensures)

pub flattened-returns-in-Const : goal.flattened-returns-in-Const
flattened-returns-in-Const t c = rw (c.in-Const.is, ex.outs-Const c.in-Const.x) (arm _ _ _ _ (of.tree-Const c.in-Const.x ∙ sym (ap expr_const_of c.in-Const.x-is)) (of.tree-Const c.const_block.new.x) c.const_block.ensures)

pub flattened-returns-in-Continue : goal.flattened-returns-in-Continue
flattened-returns-in-Continue t c = rw (c.in-Continue.is, ex.outs-Continue c.in-Continue.x) (arm _ _ _ _ (of.tree-Continue c.in-Continue.x ∙ sym (ap expr_continue_of c.in-Continue.x-is)) (of.tree-Continue c.continue_expr.new.x) c.continue_expr.ensures)

pub flattened-returns-in-Field : goal.flattened-returns-in-Field
flattened-returns-in-Field t c = rw (c.in-Field.is, ex.outs-Field c.in-Field.x) (arm _ _ _ _ (of.tree-Field c.in-Field.x ∙ sym (ap (expr_field_of tree_of) c.in-Field.x-is)) (of.tree-Field c.field.new.x) c.field.ensures)

pub flattened-returns-in-ForLoop : goal.flattened-returns-in-ForLoop
flattened-returns-in-ForLoop t c = rw (c.in-ForLoop.is, ex.outs-ForLoop c.in-ForLoop.x) (arm _ _ _ _ (of.tree-ForLoop c.in-ForLoop.x ∙ sym (ap for_loop_of c.in-ForLoop.x-is)) (of.tree-ForLoop c.for_loop.new.x) c.for_loop.ensures)

pub flattened-returns-in-Group : goal.flattened-returns-in-Group
flattened-returns-in-Group t c = rw (c.in-Group.is, ex.outs-Group c.in-Group.x) (arm _ _ _ _ (of.tree-Group c.in-Group.x ∙ sym (ap (expr_group_of tree_of) c.in-Group.x-is)) (of.tree-Group c.group.new.x) c.group.ensures)

pub flattened-returns-in-If : goal.flattened-returns-in-If
flattened-returns-in-If t c = rw (c.in-If.is, ex.outs-If c.in-If.x) (arm _ _ _ _ (of.tree-If c.in-If.x ∙ sym (ap (expr_if_of tree_of) c.in-If.x-is)) (of.tree-If c.if_expr.new.x) c.if_expr.ensures)

pub flattened-returns-in-Index : goal.flattened-returns-in-Index
flattened-returns-in-Index t c = rw (c.in-Index.is, ex.outs-Index c.in-Index.x) (arm _ _ _ _ (of.tree-Index c.in-Index.x ∙ sym (ap (expr_index_of tree_of) c.in-Index.x-is)) (of.tree-Index c.index.new.x) c.index.ensures)

pub flattened-returns-in-Infer : goal.flattened-returns-in-Infer
flattened-returns-in-Infer t c = rw (c.in-Infer.is, ex.outs-Infer c.in-Infer.x) (arm _ _ _ _ (of.tree-Infer c.in-Infer.x ∙ sym (ap expr_infer_of c.in-Infer.x-is)) (of.tree-Infer c.infer.new.x) c.infer.ensures)

pub flattened-returns-in-Let : goal.flattened-returns-in-Let
flattened-returns-in-Let t c = rw (c.in-Let.is, ex.outs-Let c.in-Let.x) (arm _ _ _ _ (of.tree-Let c.in-Let.x ∙ sym (ap let_of c.in-Let.x-is)) (of.tree-Let c.let_expr.new.x) c.let_expr.ensures)

pub flattened-returns-in-Lit : goal.flattened-returns-in-Lit
flattened-returns-in-Lit t c = rw (c.in-Lit.is, ex.outs-Lit c.in-Lit.x) (arm _ _ _ _ (of.tree-Lit c.in-Lit.x ∙ sym (ap expr_lit_of c.in-Lit.x-is)) (of.tree-Lit c.lit.new.x) c.lit.ensures)

pub flattened-returns-in-Loop : goal.flattened-returns-in-Loop
flattened-returns-in-Loop t c = rw (c.in-Loop.is, ex.outs-Loop c.in-Loop.x) (arm _ _ _ _ (of.tree-Loop c.in-Loop.x ∙ sym (ap expr_loop_of c.in-Loop.x-is)) (of.tree-Loop c.loop_expr.new.x) c.loop_expr.ensures)

pub flattened-returns-in-Macro : goal.flattened-returns-in-Macro
flattened-returns-in-Macro t c = rw (c.in-Macro.is, ex.outs-Macro c.in-Macro.x) (arm _ _ _ _ (of.tree-Macro c.in-Macro.x ∙ sym (ap expr_macro_of c.in-Macro.x-is)) (of.tree-Macro c.mac.new.x) c.mac.ensures)

pub flattened-returns-in-Match : goal.flattened-returns-in-Match
flattened-returns-in-Match t c = rw (c.in-Match.is, ex.outs-Match c.in-Match.x) (arm _ _ _ _ (of.tree-Match c.in-Match.x ∙ sym (ap match_of c.in-Match.x-is)) (of.tree-Match c.match_expr.new.x) c.match_expr.ensures)

pub flattened-returns-in-MethodCall : goal.flattened-returns-in-MethodCall
flattened-returns-in-MethodCall t c = rw (c.in-MethodCall.is, ex.outs-MethodCall c.in-MethodCall.x) (arm _ _ _ _ (of.tree-MethodCall c.in-MethodCall.x ∙ sym (ap (expr_method_call_of tree_of) c.in-MethodCall.x-is)) (of.tree-MethodCall c.method_call.new.x) c.method_call.ensures)

pub flattened-returns-in-Path : goal.flattened-returns-in-Path
flattened-returns-in-Path t c = rw (c.in-Path.is, ex.outs-Path c.in-Path.x) (arm _ _ _ _ (of.tree-Path c.in-Path.x ∙ sym (ap expr_path_of c.in-Path.x-is)) (of.tree-Path c.path.new.x) c.path.ensures)

pub flattened-returns-in-Range : goal.flattened-returns-in-Range
flattened-returns-in-Range t c = rw (c.in-Range.is, ex.outs-Range c.in-Range.x) (arm _ _ _ _ (of.tree-Range c.in-Range.x ∙ sym (ap (expr_range_of tree_of) c.in-Range.x-is)) (of.tree-Range c.range.new.x) c.range.ensures)

pub flattened-returns-in-RawAddr : goal.flattened-returns-in-RawAddr
flattened-returns-in-RawAddr t c = rw (c.in-RawAddr.is, ex.outs-RawAddr c.in-RawAddr.x) (arm _ _ _ _ (of.tree-RawAddr c.in-RawAddr.x ∙ sym (ap (expr_raw_addr_of tree_of) c.in-RawAddr.x-is)) (of.tree-RawAddr c.raw_addr.new.x) c.raw_addr.ensures)

pub flattened-returns-in-Reference : goal.flattened-returns-in-Reference
flattened-returns-in-Reference t c = rw (c.in-Reference.is, ex.outs-Reference c.in-Reference.x) (arm _ _ _ _ (of.tree-Reference c.in-Reference.x ∙ sym (ap (expr_reference_of tree_of) c.in-Reference.x-is)) (of.tree-Reference c.reference.new.x) c.reference.ensures)

pub flattened-returns-in-Repeat : goal.flattened-returns-in-Repeat
flattened-returns-in-Repeat t c = rw (c.in-Repeat.is, ex.outs-Repeat c.in-Repeat.x) (arm _ _ _ _ (of.tree-Repeat c.in-Repeat.x ∙ sym (ap (expr_repeat_of tree_of) c.in-Repeat.x-is)) (of.tree-Repeat c.repeat.new.x) c.repeat.ensures)

pub flattened-returns-in-Return : goal.flattened-returns-in-Return
flattened-returns-in-Return t c = rw (c.in-Return.is, ex.outs-Return c.in-Return.x) (arm _ _ _ _ (of.tree-Return c.in-Return.x ∙ sym (ap (expr_return_of tree_of) c.in-Return.x-is)) (of.tree-Return c.return_expr.new.x) c.return_expr.ensures)

pub flattened-returns-in-Struct : goal.flattened-returns-in-Struct
flattened-returns-in-Struct t c = rw (c.in-Struct.is, ex.outs-Struct c.in-Struct.x) (arm _ _ _ _ (of.tree-Struct c.in-Struct.x ∙ sym (ap (expr_struct_of tree_of) c.in-Struct.x-is)) (of.tree-Struct c.struct_expr.new.x) c.struct_expr.ensures)

pub flattened-returns-in-Try : goal.flattened-returns-in-Try
flattened-returns-in-Try t c = rw (c.in-Try.is, ex.outs-Try c.in-Try.x) (arm _ _ _ _ (of.tree-Try c.in-Try.x ∙ sym (ap (expr_try_of tree_of) c.in-Try.x-is)) (of.tree-Try c.try_expr.new.x) c.try_expr.ensures)

pub flattened-returns-in-TryBlock : goal.flattened-returns-in-TryBlock
flattened-returns-in-TryBlock t c = rw (c.in-TryBlock.is, ex.outs-TryBlock c.in-TryBlock.x) (arm _ _ _ _ (of.tree-TryBlock c.in-TryBlock.x ∙ sym (ap expr_try_block_of c.in-TryBlock.x-is)) (of.tree-TryBlock c.try_block.new.x) c.try_block.ensures)

pub flattened-returns-in-Tuple : goal.flattened-returns-in-Tuple
flattened-returns-in-Tuple t c = rw (c.in-Tuple.is, ex.outs-Tuple c.in-Tuple.x) (arm _ _ _ _ (of.tree-Tuple c.in-Tuple.x ∙ sym (ap (expr_tuple_of tree_of) c.in-Tuple.x-is)) (of.tree-Tuple c.tuple.new.x) c.tuple.ensures)

pub flattened-returns-in-Unary : goal.flattened-returns-in-Unary
flattened-returns-in-Unary t c = rw (c.in-Unary.is, ex.outs-Unary c.in-Unary.x) (arm _ _ _ _ (of.tree-Unary c.in-Unary.x ∙ sym (ap (expr_unary_of tree_of) c.in-Unary.x-is)) (of.tree-Unary c.unary.new.x) c.unary.ensures)

pub flattened-returns-in-Unsafe : goal.flattened-returns-in-Unsafe
flattened-returns-in-Unsafe t c = rw (c.in-Unsafe.is, ex.outs-Unsafe c.in-Unsafe.x) (arm _ _ _ _ (of.tree-Unsafe c.in-Unsafe.x ∙ sym (ap expr_unsafe_of c.in-Unsafe.x-is)) (of.tree-Unsafe c.unsafe_block.new.x) c.unsafe_block.ensures)

pub flattened-returns-in-While : goal.flattened-returns-in-While
flattened-returns-in-While t c = rw (c.in-While.is, ex.outs-While c.in-While.x) (arm _ _ _ _ (of.tree-While c.in-While.x ∙ sym (ap (expr_while_of tree_of) c.in-While.x-is)) (of.tree-While c.while_expr.new.x) c.while_expr.ensures)

pub flattened-returns-in-Yield : goal.flattened-returns-in-Yield
flattened-returns-in-Yield t c = rw (c.in-Yield.is, ex.outs-Yield c.in-Yield.x) (arm _ _ _ _ (of.tree-Yield c.in-Yield.x ∙ sym (ap (expr_yield_of tree_of) c.in-Yield.x-is)) (of.tree-Yield c.yield_expr.new.x) c.yield_expr.ensures)

pub flattened-returns-in-Verbatim : goal.flattened-returns-in-Verbatim
flattened-returns-in-Verbatim t c = rw (c.in-Verbatim.is, ex.outs-Verbatim c.in-Verbatim.tokens) (arm _ _ _ _ (of.tree-Verbatim c.in-Verbatim.tokens ∙ sym (ap (λ l. leaf (verbatim l)) c.in-Verbatim.tokens-is)) (of.tree-Verbatim c.behind.new.tokens) c.behind.ensures)

pub flattened-returns-in_ok-unwrapped-in-Paren : goal.flattened-returns-in_ok-unwrapped-in-Paren
flattened-returns-in_ok-unwrapped-in-Paren t c =
    let lifted = c.lift.ensures c.unwrapped.new.x (rw (c.in-Paren.is, ex.outs-Paren c.in-Paren.paren) refl) in
    related (IsFlatBehind c.args.attrs) (ap tree_of c.in-Paren.is ∙ of.tree-Paren c.in-Paren.paren ∙ sym (ap (expr_paren_of tree_of) c.in-Paren.paren-is)) (ap tree_of lifted) c.in_ok-unwrapped-in-Paren.ensures

pub operand-returns : goal.operand-returns
operand-returns t c = none_behind _ _ c.in_ok-flattened.ensures

pub pattern-returns-in-Guard : goal.pattern-returns-in-Guard
pattern-returns-in-Guard t c = rw (c.in-Guard.is, pt.outs-Guard c.in-Guard.x) (case _ _ _ (of.pat-Guard c.in-Guard.x ∙ sym (ap guard_of c.in-Guard.x-is)) (of.pat-Guard c.guarded.new.x) c.guarded.ensures)

pub pattern-returns-in-Ident : goal.pattern-returns-in-Ident
pattern-returns-in-Ident t c = rw (c.in-Ident.is, pt.outs-Ident c.in-Ident.x) (case _ _ _ (of.pat-Ident c.in-Ident.x ∙ sym (ap (pat_ident_of pat_of) c.in-Ident.x-is)) (of.pat-Ident c.ident.new.x) c.ident.ensures)

pub pattern-returns-in-Or : goal.pattern-returns-in-Or
pattern-returns-in-Or t c = rw (c.in-Or.is, pt.outs-Or c.in-Or.x) (case _ _ _ (of.pat-Or c.in-Or.x ∙ sym (ap (pat_or_of pat_of) c.in-Or.x-is)) (of.pat-Or c.or.new.x) c.or.ensures)

pub pattern-returns-in-Paren : goal.pattern-returns-in-Paren
pattern-returns-in-Paren t c = rw (c.in-Paren.is, pt.outs-Paren c.in-Paren.x) (case _ _ _ (of.pat-Paren c.in-Paren.x ∙ sym (ap (pat_paren_of pat_of) c.in-Paren.x-is)) (of.pat-Paren c.paren.new.x) c.paren.ensures)

pub pattern-returns-in-Reference : goal.pattern-returns-in-Reference
pattern-returns-in-Reference t c = rw (c.in-Reference.is, pt.outs-Reference c.in-Reference.x) (case _ _ _ (of.pat-Reference c.in-Reference.x ∙ sym (ap (pat_reference_of pat_of) c.in-Reference.x-is)) (of.pat-Reference c.reference.new.x) c.reference.ensures)

pub pattern-returns-in-Slice : goal.pattern-returns-in-Slice
pattern-returns-in-Slice t c = rw (c.in-Slice.is, pt.outs-Slice c.in-Slice.x) (case _ _ _ (of.pat-Slice c.in-Slice.x ∙ sym (ap (pat_slice_of pat_of) c.in-Slice.x-is)) (of.pat-Slice c.slice.new.x) c.slice.ensures)

pub pattern-returns-in-Struct : goal.pattern-returns-in-Struct
pattern-returns-in-Struct t c = rw (c.in-Struct.is, pt.outs-Struct c.in-Struct.x) (case _ _ _ (of.pat-Struct c.in-Struct.x ∙ sym (ap (pat_struct_of pat_of) c.in-Struct.x-is)) (of.pat-Struct c.struct_pat.new.x) c.struct_pat.ensures)

pub pattern-returns-in-Tuple : goal.pattern-returns-in-Tuple
pattern-returns-in-Tuple t c = rw (c.in-Tuple.is, pt.outs-Tuple c.in-Tuple.x) (case _ _ _ (of.pat-Tuple c.in-Tuple.x ∙ sym (ap (pat_tuple_of pat_of) c.in-Tuple.x-is)) (of.pat-Tuple c.tuple.new.x) c.tuple.ensures)

pub pattern-returns-in-TupleStruct : goal.pattern-returns-in-TupleStruct
pattern-returns-in-TupleStruct t c = rw (c.in-TupleStruct.is, pt.outs-TupleStruct c.in-TupleStruct.x) (case _ _ _ (of.pat-TupleStruct c.in-TupleStruct.x ∙ sym (ap (pat_tuple_struct_of pat_of) c.in-TupleStruct.x-is)) (of.pat-TupleStruct c.tuple_struct.new.x) c.tuple_struct.ensures)

pub pattern-returns-in-Typed : goal.pattern-returns-in-Typed
pattern-returns-in-Typed t c = rw (c.in-Typed.is, pt.outs-Typed c.in-Typed.x) (case _ _ _ (of.pat-Typed c.in-Typed.x ∙ sym (ap (pat_type_of pat_of) c.in-Typed.x-is)) (of.pat-Typed c.typed.new.x) c.typed.ensures)

pub pattern-returns-in-Const : goal.pattern-returns-in-Const
pattern-returns-in-Const t c = bare _ _ (ap pat_of c.in-Const.is ∙ of.pat-Const c.in-Const.field-0) refl

pub pattern-returns-in-Lit : goal.pattern-returns-in-Lit
pattern-returns-in-Lit t c = bare _ _ (ap pat_of c.in-Lit.is ∙ of.pat-Lit c.in-Lit.field-0) refl

pub pattern-returns-in-Macro : goal.pattern-returns-in-Macro
pattern-returns-in-Macro t c = bare _ _ (ap pat_of c.in-Macro.is ∙ of.pat-Macro c.in-Macro.field-0) refl

pub pattern-returns-in-Path : goal.pattern-returns-in-Path
pattern-returns-in-Path t c = bare _ _ (ap pat_of c.in-Path.is ∙ of.pat-Path c.in-Path.field-0) refl

pub pattern-returns-in-Range : goal.pattern-returns-in-Range
pattern-returns-in-Range t c = bare _ _ (ap pat_of c.in-Range.is ∙ of.pat-Range c.in-Range.field-0) refl

pub pattern-returns-in-Rest : goal.pattern-returns-in-Rest
pattern-returns-in-Rest t c = bare _ _ (ap pat_of c.in-Rest.is ∙ of.pat-Rest c.in-Rest.field-0) refl

pub pattern-returns-in-Wild : goal.pattern-returns-in-Wild
pattern-returns-in-Wild t c = bare _ _ (ap pat_of c.in-Wild.is ∙ of.pat-Wild c.in-Wild.field-0) refl
