-- In each arm the list is exchanged, and nothing else of the node.
use Rattle.std.proofs.Common.{refl, sym, ap, ◌∙◌}
use Rattle.syn_expr_spec.specs.Tree as e
use Rattle.syn_expr_spec.specs.Tree.{leaf, frame, child, none, attributes_in, body_of, with_attributes}
use Rattle.syn_lower.specs.View.{mapped}
use Rattle.syn_expr_tokens.specs.View.{label_of}
use Rattle.syn_expr_ast.specs.Attrs.{attrs_of}
use Rattle.syn_expr_core.specs.View.{tree_of}
use Rattle.syn_expr_core.specs.declared.expr.Expr.TheVariants as ex
use Rattle.syn_expr_core.specs.declared.control.ExprMatch.{out-ExprMatch}
use Rattle.syn_expr_core.proofs.Replaced.{before, around, plain, braced, range_plain, jump_plain, closure_plain, for_loop_braced, match_replaced, kept, none_given}
use Rattle.syn_expr_core.proofs.TreeOf as of
use Rattle.syn_expr_core.proofs.expr.Expr.replace_attrs.Goals as goal

pub returns-in-Array : goal.returns-in-Array
returns-in-Array c = let r = before _ _ (of.tree-Array c.in-Array.x) (of.tree-Array (record c.in-Array.x { attrs = c.args.new })) (plain (λ ats. refl) refl) in record { put = rw (c.in-Array.is, ex.outs-Array c.in-Array.x, c.replace.ensures.after) r.0; given = kept c.in-Array.is (c.replace.ensures.value ∙ ap (λ y. y.attrs) c.in-Array.x-is) r.1 }

pub returns-in-Assign : goal.returns-in-Assign
returns-in-Assign c = let r = before _ _ (of.tree-Assign c.in-Assign.x) (of.tree-Assign (record c.in-Assign.x { attrs = c.args.new })) (plain (λ ats. refl) refl) in record { put = rw (c.in-Assign.is, ex.outs-Assign c.in-Assign.x, c.replace-in-Assign.ensures.after) r.0; given = kept c.in-Assign.is (c.replace-in-Assign.ensures.value ∙ ap (λ y. y.attrs) c.in-Assign.x-is) r.1 }

pub returns-in-Async : goal.returns-in-Async
returns-in-Async c = let r = before _ _ (of.tree-Async c.in-Async.x) (of.tree-Async (record c.in-Async.x { attrs = c.args.new })) (plain (λ ats. refl) refl) in record { put = rw (c.in-Async.is, ex.outs-Async c.in-Async.x, c.replace-in-Async.ensures.after) r.0; given = kept c.in-Async.is (c.replace-in-Async.ensures.value ∙ ap (λ y. y.attrs) c.in-Async.x-is) r.1 }

pub returns-in-Await : goal.returns-in-Await
returns-in-Await c = let r = before _ _ (of.tree-Await c.in-Await.x) (of.tree-Await (record c.in-Await.x { attrs = c.args.new })) (plain (λ ats. refl) refl) in record { put = rw (c.in-Await.is, ex.outs-Await c.in-Await.x, c.replace-in-Await.ensures.after) r.0; given = kept c.in-Await.is (c.replace-in-Await.ensures.value ∙ ap (λ y. y.attrs) c.in-Await.x-is) r.1 }

pub returns-in-Binary : goal.returns-in-Binary
returns-in-Binary c = let r = before _ _ (of.tree-Binary c.in-Binary.x) (of.tree-Binary (record c.in-Binary.x { attrs = c.args.new })) (plain (λ ats. refl) refl) in record { put = rw (c.in-Binary.is, ex.outs-Binary c.in-Binary.x, c.replace-in-Binary.ensures.after) r.0; given = kept c.in-Binary.is (c.replace-in-Binary.ensures.value ∙ ap (λ y. y.attrs) c.in-Binary.x-is) r.1 }

pub returns-in-Block : goal.returns-in-Block
returns-in-Block c = let r = let x = c.in-Block.x in around (λ ats. leaf (e.block (mapped label_of x.label) (body_of ats x.block.stmts))) x.attrs c.args.new (of.tree-Block c.in-Block.x) (of.tree-Block (record c.in-Block.x { attrs = c.args.new })) (braced (λ ats old. refl) (λ old. refl)) in record { put = rw (c.in-Block.is, ex.outs-Block c.in-Block.x, c.replace-in-Block.ensures.after) r.0; given = kept c.in-Block.is (c.replace-in-Block.ensures.value ∙ ap (λ y. y.attrs) c.in-Block.x-is) r.1 }

pub returns-in-Break : goal.returns-in-Break
returns-in-Break c = let r = before _ _ (of.tree-Break c.in-Break.x) (of.tree-Break (record c.in-Break.x { attrs = c.args.new })) (jump_plain _ _) in record { put = rw (c.in-Break.is, ex.outs-Break c.in-Break.x, c.replace-in-Break.ensures.after) r.0; given = kept c.in-Break.is (c.replace-in-Break.ensures.value ∙ ap (λ y. y.attrs) c.in-Break.x-is) r.1 }

pub returns-in-Call : goal.returns-in-Call
returns-in-Call c = let r = before _ _ (of.tree-Call c.in-Call.x) (of.tree-Call (record c.in-Call.x { attrs = c.args.new })) (plain (λ ats. refl) refl) in record { put = rw (c.in-Call.is, ex.outs-Call c.in-Call.x, c.replace-in-Call.ensures.after) r.0; given = kept c.in-Call.is (c.replace-in-Call.ensures.value ∙ ap (λ y. y.attrs) c.in-Call.x-is) r.1 }

pub returns-in-Cast : goal.returns-in-Cast
returns-in-Cast c = let r = before _ _ (of.tree-Cast c.in-Cast.x) (of.tree-Cast (record c.in-Cast.x { attrs = c.args.new })) (plain (λ ats. refl) refl) in record { put = rw (c.in-Cast.is, ex.outs-Cast c.in-Cast.x, c.replace-in-Cast.ensures.after) r.0; given = kept c.in-Cast.is (c.replace-in-Cast.ensures.value ∙ ap (λ y. y.attrs) c.in-Cast.x-is) r.1 }

pub returns-in-Closure : goal.returns-in-Closure
returns-in-Closure c = let r = before _ _ (of.tree-Closure c.in-Closure.x ∙ of.closure-is c.in-Closure.x) (of.tree-Closure (record c.in-Closure.x { attrs = c.args.new }) ∙ of.closure-is (record c.in-Closure.x { attrs = c.args.new })) (closure_plain _ _ _ _) in record { put = rw (c.in-Closure.is, ex.outs-Closure c.in-Closure.x, c.replace-in-Closure.ensures.after) r.0; given = kept c.in-Closure.is (c.replace-in-Closure.ensures.value ∙ ap (λ y. y.attrs) c.in-Closure.x-is) r.1 }

pub returns-in-Const : goal.returns-in-Const
returns-in-Const c = let r = let x = c.in-Const.x in around (λ ats. leaf (e.const_block (body_of ats x.block.stmts))) x.attrs c.args.new (of.tree-Const c.in-Const.x) (of.tree-Const (record c.in-Const.x { attrs = c.args.new })) (braced (λ ats old. refl) (λ old. refl)) in record { put = rw (c.in-Const.is, ex.outs-Const c.in-Const.x, c.replace-in-Const.ensures.after) r.0; given = kept c.in-Const.is (c.replace-in-Const.ensures.value ∙ ap (λ y. y.attrs) c.in-Const.x-is) r.1 }

pub returns-in-Continue : goal.returns-in-Continue
returns-in-Continue c = let r = before _ _ (of.tree-Continue c.in-Continue.x) (of.tree-Continue (record c.in-Continue.x { attrs = c.args.new })) (plain (λ ats. refl) refl) in record { put = rw (c.in-Continue.is, ex.outs-Continue c.in-Continue.x, c.replace-in-Continue.ensures.after) r.0; given = kept c.in-Continue.is (c.replace-in-Continue.ensures.value ∙ ap (λ y. y.attrs) c.in-Continue.x-is) r.1 }

pub returns-in-Field : goal.returns-in-Field
returns-in-Field c = let r = before _ _ (of.tree-Field c.in-Field.x) (of.tree-Field (record c.in-Field.x { attrs = c.args.new })) (plain (λ ats. refl) refl) in record { put = rw (c.in-Field.is, ex.outs-Field c.in-Field.x, c.replace-in-Field.ensures.after) r.0; given = kept c.in-Field.is (c.replace-in-Field.ensures.value ∙ ap (λ y. y.attrs) c.in-Field.x-is) r.1 }

pub returns-in-ForLoop : goal.returns-in-ForLoop
returns-in-ForLoop c = let r = around _ c.in-ForLoop.x.attrs c.args.new (of.tree-ForLoop c.in-ForLoop.x ∙ of.for_loop-is c.in-ForLoop.x) (of.tree-ForLoop (record c.in-ForLoop.x { attrs = c.args.new }) ∙ of.for_loop-is (record c.in-ForLoop.x { attrs = c.args.new })) (for_loop_braced _ _ _ _ _) in record { put = rw (c.in-ForLoop.is, ex.outs-ForLoop c.in-ForLoop.x, c.replace-in-ForLoop.ensures.after) r.0; given = kept c.in-ForLoop.is (c.replace-in-ForLoop.ensures.value ∙ ap (λ y. y.attrs) c.in-ForLoop.x-is) r.1 }

pub returns-in-Group : goal.returns-in-Group
returns-in-Group c = let r = before _ _ (of.tree-Group c.in-Group.x) (of.tree-Group (record c.in-Group.x { attrs = c.args.new })) (plain (λ ats. refl) refl) in record { put = rw (c.in-Group.is, ex.outs-Group c.in-Group.x, c.replace-in-Group.ensures.after) r.0; given = kept c.in-Group.is (c.replace-in-Group.ensures.value ∙ ap (λ y. y.attrs) c.in-Group.x-is) r.1 }

pub returns-in-If : goal.returns-in-If
returns-in-If c = let r = before _ _ (of.tree-If c.in-If.x) (of.tree-If (record c.in-If.x { attrs = c.args.new })) (plain (λ ats. refl) refl) in record { put = rw (c.in-If.is, ex.outs-If c.in-If.x, c.replace-in-If.ensures.after) r.0; given = kept c.in-If.is (c.replace-in-If.ensures.value ∙ ap (λ y. y.attrs) c.in-If.x-is) r.1 }

pub returns-in-Index : goal.returns-in-Index
returns-in-Index c = let r = before _ _ (of.tree-Index c.in-Index.x) (of.tree-Index (record c.in-Index.x { attrs = c.args.new })) (plain (λ ats. refl) refl) in record { put = rw (c.in-Index.is, ex.outs-Index c.in-Index.x, c.replace-in-Index.ensures.after) r.0; given = kept c.in-Index.is (c.replace-in-Index.ensures.value ∙ ap (λ y. y.attrs) c.in-Index.x-is) r.1 }

pub returns-in-Infer : goal.returns-in-Infer
returns-in-Infer c = let r = before _ _ (of.tree-Infer c.in-Infer.x) (of.tree-Infer (record c.in-Infer.x { attrs = c.args.new })) (plain (λ ats. refl) refl) in record { put = rw (c.in-Infer.is, ex.outs-Infer c.in-Infer.x, c.replace-in-Infer.ensures.after) r.0; given = kept c.in-Infer.is (c.replace-in-Infer.ensures.value ∙ ap (λ y. y.attrs) c.in-Infer.x-is) r.1 }

pub returns-in-Let : goal.returns-in-Let
returns-in-Let c = let r = before _ _ (of.tree-Let c.in-Let.x ∙ of.let_expr-is c.in-Let.x) (of.tree-Let (record c.in-Let.x { attrs = c.args.new }) ∙ of.let_expr-is (record c.in-Let.x { attrs = c.args.new })) (plain (λ ats. refl) refl) in record { put = rw (c.in-Let.is, ex.outs-Let c.in-Let.x, c.replace-in-Let.ensures.after) r.0; given = kept c.in-Let.is (c.replace-in-Let.ensures.value ∙ ap (λ y. y.attrs) c.in-Let.x-is) r.1 }

pub returns-in-Lit : goal.returns-in-Lit
returns-in-Lit c = let r = before _ _ (of.tree-Lit c.in-Lit.x) (of.tree-Lit (record c.in-Lit.x { attrs = c.args.new })) (plain (λ ats. refl) refl) in record { put = rw (c.in-Lit.is, ex.outs-Lit c.in-Lit.x, c.replace-in-Lit.ensures.after) r.0; given = kept c.in-Lit.is (c.replace-in-Lit.ensures.value ∙ ap (λ y. y.attrs) c.in-Lit.x-is) r.1 }

pub returns-in-Loop : goal.returns-in-Loop
returns-in-Loop c = let r = let x = c.in-Loop.x in around (λ ats. leaf (e.loop_expr (mapped label_of x.label) (body_of ats x.body.stmts))) x.attrs c.args.new (of.tree-Loop c.in-Loop.x) (of.tree-Loop (record c.in-Loop.x { attrs = c.args.new })) (braced (λ ats old. refl) (λ old. refl)) in record { put = rw (c.in-Loop.is, ex.outs-Loop c.in-Loop.x, c.replace-in-Loop.ensures.after) r.0; given = kept c.in-Loop.is (c.replace-in-Loop.ensures.value ∙ ap (λ y. y.attrs) c.in-Loop.x-is) r.1 }

pub returns-in-Macro : goal.returns-in-Macro
returns-in-Macro c = let r = before _ _ (of.tree-Macro c.in-Macro.x) (of.tree-Macro (record c.in-Macro.x { attrs = c.args.new })) (plain (λ ats. refl) refl) in record { put = rw (c.in-Macro.is, ex.outs-Macro c.in-Macro.x, c.replace-in-Macro.ensures.after) r.0; given = kept c.in-Macro.is (c.replace-in-Macro.ensures.value ∙ ap (λ y. y.attrs) c.in-Macro.x-is) r.1 }

pub returns-in-Match : goal.returns-in-Match
returns-in-Match c = let r = match_replaced c.in-Match.x c.args.new in record { put = rw (c.in-Match.is, ex.outs-Match c.in-Match.x, c.replace-in-Match.ensures.after) r.0; given = kept c.in-Match.is (c.replace-in-Match.ensures.value ∙ ap (λ y. (out-ExprMatch y).attrs) c.in-Match.x-is) r.1 }

pub returns-in-MethodCall : goal.returns-in-MethodCall
returns-in-MethodCall c = let r = before _ _ (of.tree-MethodCall c.in-MethodCall.x) (of.tree-MethodCall (record c.in-MethodCall.x { attrs = c.args.new })) (plain (λ ats. refl) refl) in record { put = rw (c.in-MethodCall.is, ex.outs-MethodCall c.in-MethodCall.x, c.replace-in-MethodCall.ensures.after) r.0; given = kept c.in-MethodCall.is (c.replace-in-MethodCall.ensures.value ∙ ap (λ y. y.attrs) c.in-MethodCall.x-is) r.1 }

pub returns-in-Paren : goal.returns-in-Paren
returns-in-Paren c = let r = before _ _ (of.tree-Paren c.in-Paren.x) (of.tree-Paren (record c.in-Paren.x { attrs = c.args.new })) (plain (λ ats. refl) refl) in record { put = rw (c.in-Paren.is, ex.outs-Paren c.in-Paren.x, c.replace-in-Paren.ensures.after) r.0; given = kept c.in-Paren.is (c.replace-in-Paren.ensures.value ∙ ap (λ y. y.attrs) c.in-Paren.x-is) r.1 }

pub returns-in-Path : goal.returns-in-Path
returns-in-Path c = let r = before _ _ (of.tree-Path c.in-Path.x) (of.tree-Path (record c.in-Path.x { attrs = c.args.new })) (plain (λ ats. refl) refl) in record { put = rw (c.in-Path.is, ex.outs-Path c.in-Path.x, c.replace-in-Path.ensures.after) r.0; given = kept c.in-Path.is (c.replace-in-Path.ensures.value ∙ ap (λ y. y.attrs) c.in-Path.x-is) r.1 }

pub returns-in-Range : goal.returns-in-Range
returns-in-Range c = let r = before _ _ (of.tree-Range c.in-Range.x) (of.tree-Range (record c.in-Range.x { attrs = c.args.new })) (range_plain _ _ _) in record { put = rw (c.in-Range.is, ex.outs-Range c.in-Range.x, c.replace-in-Range.ensures.after) r.0; given = kept c.in-Range.is (c.replace-in-Range.ensures.value ∙ ap (λ y. y.attrs) c.in-Range.x-is) r.1 }

pub returns-in-RawAddr : goal.returns-in-RawAddr
returns-in-RawAddr c = let r = before _ _ (of.tree-RawAddr c.in-RawAddr.x) (of.tree-RawAddr (record c.in-RawAddr.x { attrs = c.args.new })) (plain (λ ats. refl) refl) in record { put = rw (c.in-RawAddr.is, ex.outs-RawAddr c.in-RawAddr.x, c.replace-in-RawAddr.ensures.after) r.0; given = kept c.in-RawAddr.is (c.replace-in-RawAddr.ensures.value ∙ ap (λ y. y.attrs) c.in-RawAddr.x-is) r.1 }

pub returns-in-Reference : goal.returns-in-Reference
returns-in-Reference c = let r = before _ _ (of.tree-Reference c.in-Reference.x) (of.tree-Reference (record c.in-Reference.x { attrs = c.args.new })) (plain (λ ats. refl) refl) in record { put = rw (c.in-Reference.is, ex.outs-Reference c.in-Reference.x, c.replace-in-Reference.ensures.after) r.0; given = kept c.in-Reference.is (c.replace-in-Reference.ensures.value ∙ ap (λ y. y.attrs) c.in-Reference.x-is) r.1 }

pub returns-in-Repeat : goal.returns-in-Repeat
returns-in-Repeat c = let r = before _ _ (of.tree-Repeat c.in-Repeat.x) (of.tree-Repeat (record c.in-Repeat.x { attrs = c.args.new })) (plain (λ ats. refl) refl) in record { put = rw (c.in-Repeat.is, ex.outs-Repeat c.in-Repeat.x, c.replace-in-Repeat.ensures.after) r.0; given = kept c.in-Repeat.is (c.replace-in-Repeat.ensures.value ∙ ap (λ y. y.attrs) c.in-Repeat.x-is) r.1 }

pub returns-in-Return : goal.returns-in-Return
returns-in-Return c = let r = before _ _ (of.tree-Return c.in-Return.x) (of.tree-Return (record c.in-Return.x { attrs = c.args.new })) (jump_plain _ _) in record { put = rw (c.in-Return.is, ex.outs-Return c.in-Return.x, c.replace-in-Return.ensures.after) r.0; given = kept c.in-Return.is (c.replace-in-Return.ensures.value ∙ ap (λ y. y.attrs) c.in-Return.x-is) r.1 }

pub returns-in-Struct : goal.returns-in-Struct
returns-in-Struct c = let r = before _ _ (of.tree-Struct c.in-Struct.x) (of.tree-Struct (record c.in-Struct.x { attrs = c.args.new })) (plain (λ ats. refl) refl) in record { put = rw (c.in-Struct.is, ex.outs-Struct c.in-Struct.x, c.replace-in-Struct.ensures.after) r.0; given = kept c.in-Struct.is (c.replace-in-Struct.ensures.value ∙ ap (λ y. y.attrs) c.in-Struct.x-is) r.1 }

pub returns-in-Try : goal.returns-in-Try
returns-in-Try c = let r = before _ _ (of.tree-Try c.in-Try.x) (of.tree-Try (record c.in-Try.x { attrs = c.args.new })) (plain (λ ats. refl) refl) in record { put = rw (c.in-Try.is, ex.outs-Try c.in-Try.x, c.replace-in-Try.ensures.after) r.0; given = kept c.in-Try.is (c.replace-in-Try.ensures.value ∙ ap (λ y. y.attrs) c.in-Try.x-is) r.1 }

pub returns-in-TryBlock : goal.returns-in-TryBlock
returns-in-TryBlock c = let r = before _ _ (of.tree-TryBlock c.in-TryBlock.x) (of.tree-TryBlock (record c.in-TryBlock.x { attrs = c.args.new })) (plain (λ ats. refl) refl) in record { put = rw (c.in-TryBlock.is, ex.outs-TryBlock c.in-TryBlock.x, c.replace-in-TryBlock.ensures.after) r.0; given = kept c.in-TryBlock.is (c.replace-in-TryBlock.ensures.value ∙ ap (λ y. y.attrs) c.in-TryBlock.x-is) r.1 }

pub returns-in-Tuple : goal.returns-in-Tuple
returns-in-Tuple c = let r = before _ _ (of.tree-Tuple c.in-Tuple.x) (of.tree-Tuple (record c.in-Tuple.x { attrs = c.args.new })) (plain (λ ats. refl) refl) in record { put = rw (c.in-Tuple.is, ex.outs-Tuple c.in-Tuple.x, c.replace-in-Tuple.ensures.after) r.0; given = kept c.in-Tuple.is (c.replace-in-Tuple.ensures.value ∙ ap (λ y. y.attrs) c.in-Tuple.x-is) r.1 }

pub returns-in-Unary : goal.returns-in-Unary
returns-in-Unary c = let r = before _ _ (of.tree-Unary c.in-Unary.x) (of.tree-Unary (record c.in-Unary.x { attrs = c.args.new })) (plain (λ ats. refl) refl) in record { put = rw (c.in-Unary.is, ex.outs-Unary c.in-Unary.x, c.replace-in-Unary.ensures.after) r.0; given = kept c.in-Unary.is (c.replace-in-Unary.ensures.value ∙ ap (λ y. y.attrs) c.in-Unary.x-is) r.1 }

pub returns-in-Unsafe : goal.returns-in-Unsafe
returns-in-Unsafe c = let r = let x = c.in-Unsafe.x in around (λ ats. leaf (e.unsafe_block (body_of ats x.block.stmts))) x.attrs c.args.new (of.tree-Unsafe c.in-Unsafe.x) (of.tree-Unsafe (record c.in-Unsafe.x { attrs = c.args.new })) (braced (λ ats old. refl) (λ old. refl)) in record { put = rw (c.in-Unsafe.is, ex.outs-Unsafe c.in-Unsafe.x, c.replace-in-Unsafe.ensures.after) r.0; given = kept c.in-Unsafe.is (c.replace-in-Unsafe.ensures.value ∙ ap (λ y. y.attrs) c.in-Unsafe.x-is) r.1 }

pub returns-in-While : goal.returns-in-While
returns-in-While c = let r = let x = c.in-While.x in around (λ ats. frame (e.while_loop (mapped label_of x.label)) (child e.loop_head (e.braced (body_of ats x.body.stmts)) (tree_of x.cond.value) none)) x.attrs c.args.new (of.tree-While c.in-While.x) (of.tree-While (record c.in-While.x { attrs = c.args.new })) (braced (λ ats old. refl) (λ old. refl)) in record { put = rw (c.in-While.is, ex.outs-While c.in-While.x, c.replace-in-While.ensures.after) r.0; given = kept c.in-While.is (c.replace-in-While.ensures.value ∙ ap (λ y. y.attrs) c.in-While.x-is) r.1 }

pub returns-in-Yield : goal.returns-in-Yield
returns-in-Yield c = let r = before _ _ (of.tree-Yield c.in-Yield.x) (of.tree-Yield (record c.in-Yield.x { attrs = c.args.new })) (jump_plain _ _) in record { put = rw (c.in-Yield.is, ex.outs-Yield c.in-Yield.x, c.replace-in-Yield.ensures.after) r.0; given = kept c.in-Yield.is (c.replace-in-Yield.ensures.value ∙ ap (λ y. y.attrs) c.in-Yield.x-is) r.1 }

pub returns-in-Verbatim : goal.returns-in-Verbatim
returns-in-Verbatim c = record {
  put = rw (c.in-Verbatim.is, ex.outs-Verbatim c.in-Verbatim.tokens) (of.tree-Verbatim _ ∙ sym (ap (with_attributes (attrs_of c.args.new)) (of.tree-Verbatim _)));
  given = none_given c.new.result c.new.ensures.items ∙ sym (ap attributes_in (ap tree_of c.in-Verbatim.is ∙ of.tree-Verbatim _));
}
