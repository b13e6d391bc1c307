-- Which kind a tree is of. The tree of an expression is of the kind of that expression, so one that is no node of a kind has
-- no tree of that kind: where a function matches `Expr::Unary(y)` of an expression x, its other arm has
-- `other in-Unary x c.in_default.not-Unary : kind_of (tree_of x) ≡ k-Unary → ⊥`.
use Rattle.std.proofs.Common.{◌≡◌, List, [], ◌∷◌, Option, Some, None, refl, sym, ap, ◌∙◌, rules}
use Rattle.syn_tokens.specs.Tok.{Tok}
use Rattle.syn_lower_spec.specs.Tree.{AttributeTree, ReturnTree, default, given}
use Rattle.syn_expr_spec.specs.Tree as e
use Rattle.syn_expr_spec.specs.Tree.{Tree, Jump, Leaf, Prefix, Postfix, Trailer, Frame, ClosureHead, attributed_with}
use Rattle.syn_expr_spec.specs.declared.kinds.Infix.{Infix}
use Rattle.syn_expr_spec.specs.declared.kinds.Infix.TheVariants as inf
use Rattle.syn_expr_spec.specs.declared.kinds.Limits.{Limits}
use Rattle.syn_expr_ast.specs.Pats.{closure_by}
use Rattle.syn_expr_ast.specs.View.{jump_with, range_between}
use Rattle.syn_expr_ast.specs.declared.atom.ExprArrayOf.{ExprArrayOf}
use Rattle.syn_expr_ast.specs.declared.atom.ExprGroupOf.{ExprGroupOf}
use Rattle.syn_expr_ast.specs.declared.atom.ExprInfer.{ExprInfer}
use Rattle.syn_expr_ast.specs.declared.atom.ExprLit.{ExprLit}
use Rattle.syn_expr_ast.specs.declared.atom.ExprMacro.{ExprMacro}
use Rattle.syn_expr_ast.specs.declared.atom.ExprParenOf.{ExprParenOf}
use Rattle.syn_expr_ast.specs.declared.atom.ExprPath.{ExprPath}
use Rattle.syn_expr_ast.specs.declared.atom.ExprRepeatOf.{ExprRepeatOf}
use Rattle.syn_expr_ast.specs.declared.atom.ExprTupleOf.{ExprTupleOf}
use Rattle.syn_expr_ast.specs.declared.block.ExprAsync.{ExprAsync}
use Rattle.syn_expr_ast.specs.declared.block.ExprBlock.{ExprBlock}
use Rattle.syn_expr_ast.specs.declared.block.ExprConst.{ExprConst}
use Rattle.syn_expr_ast.specs.declared.block.ExprIfOf.{ExprIfOf}
use Rattle.syn_expr_ast.specs.declared.block.ExprLoop.{ExprLoop}
use Rattle.syn_expr_ast.specs.declared.block.ExprTryBlock.{ExprTryBlock}
use Rattle.syn_expr_ast.specs.declared.block.ExprUnsafe.{ExprUnsafe}
use Rattle.syn_expr_ast.specs.declared.block.ExprWhileOf.{ExprWhileOf}
use Rattle.syn_expr_ast.specs.declared.jump.ExprBreakOf.{ExprBreakOf}
use Rattle.syn_expr_ast.specs.declared.jump.ExprContinue.{ExprContinue}
use Rattle.syn_expr_ast.specs.declared.jump.ExprReturnOf.{ExprReturnOf}
use Rattle.syn_expr_ast.specs.declared.jump.ExprYieldOf.{ExprYieldOf}
use Rattle.syn_expr_ast.specs.declared.operation.ExprAssignOf.{ExprAssignOf}
use Rattle.syn_expr_ast.specs.declared.operation.ExprBinaryOf.{ExprBinaryOf}
use Rattle.syn_expr_ast.specs.declared.operation.ExprCastOf.{ExprCastOf}
use Rattle.syn_expr_ast.specs.declared.operation.ExprRangeOf.{ExprRangeOf}
use Rattle.syn_expr_ast.specs.declared.operation.ExprRawAddrOf.{ExprRawAddrOf}
use Rattle.syn_expr_ast.specs.declared.operation.ExprReferenceOf.{ExprReferenceOf}
use Rattle.syn_expr_ast.specs.declared.operation.ExprUnaryOf.{ExprUnaryOf}
use Rattle.syn_expr_ast.specs.declared.structure.ExprStructOf.{ExprStructOf}
use Rattle.syn_expr_ast.specs.declared.trailer.ExprAwaitOf.{ExprAwaitOf}
use Rattle.syn_expr_ast.specs.declared.trailer.ExprCallOf.{ExprCallOf}
use Rattle.syn_expr_ast.specs.declared.trailer.ExprFieldOf.{ExprFieldOf}
use Rattle.syn_expr_ast.specs.declared.trailer.ExprIndexOf.{ExprIndexOf}
use Rattle.syn_expr_ast.specs.declared.trailer.ExprMethodCallOf.{ExprMethodCallOf}
use Rattle.syn_expr_ast.specs.declared.trailer.ExprTryOf.{ExprTryOf}
use Rattle.syn_expr_core.specs.declared.closure.ExprClosure.{ExprClosure}
use Rattle.syn_expr_core.specs.declared.control.Arm.{Arm}
use Rattle.syn_expr_core.specs.declared.control.ExprForLoop.{ExprForLoop}
use Rattle.syn_expr_core.specs.declared.control.ExprLet.{ExprLet}
use Rattle.syn_expr_core.specs.declared.control.ExprMatch.{ExprMatch}
use Rattle.syn_expr_core.specs.declared.pat.Pat.{Pat}
use Rattle.syn_expr_core.specs.declared.pat.PatGuard.{PatGuard}
use Rattle.syn_expr_core.specs.declared.expr.Expr.{Expr, out-Expr, roll-Expr, roll-out-Expr}
use Rattle.syn_expr_core.specs.declared.expr.Expr.TheVariants as ex
use Rattle.syn_expr_core.specs.declared.expr.Expr.TheOpen.{Expr-F}
use Rattle.syn_expr_core.specs.View.{tree_layer, tree_of, views}
use Rattle.syn_expr_core.proofs.TreeOf.{tree_out, closure-is, for_loop-is, let_expr-is, match_expr-is}

-- the names of `Expr`
pub data Kind : Type 0 where
  k-Array : Kind
  k-Assign : Kind
  k-Async : Kind
  k-Await : Kind
  k-Binary : Kind
  k-Block : Kind
  k-Break : Kind
  k-Call : Kind
  k-Cast : Kind
  k-Closure : Kind
  k-Const : Kind
  k-Continue : Kind
  k-Field : Kind
  k-ForLoop : Kind
  k-Group : Kind
  k-If : Kind
  k-Index : Kind
  k-Infer : Kind
  k-Let : Kind
  k-Lit : Kind
  k-Loop : Kind
  k-Macro : Kind
  k-Match : Kind
  k-MethodCall : Kind
  k-Paren : Kind
  k-Path : Kind
  k-Range : Kind
  k-RawAddr : Kind
  k-Reference : Kind
  k-Repeat : Kind
  k-Return : Kind
  k-Struct : Kind
  k-Try : Kind
  k-TryBlock : Kind
  k-Tuple : Kind
  k-Unary : Kind
  k-Unsafe : Kind
  k-While : Kind
  k-Yield : Kind
  k-Verbatim : Kind

-- ---- the kind of a tree, whatever attributes come before it

abbrev jump_kind : Jump → Kind
jump_kind (e.breaking label) = k-Break
jump_kind e.returning = k-Return
jump_kind e.yielding = k-Yield

abbrev leaf_kind : Leaf → Kind
leaf_kind (e.async_block is_move tokens) = k-Async
leaf_kind (e.block label body) = k-Block
leaf_kind (e.const_block body) = k-Const
leaf_kind (e.continuing label) = k-Continue
leaf_kind e.infer = k-Infer
leaf_kind (e.lit x) = k-Lit
leaf_kind (e.loop_expr label body) = k-Loop
leaf_kind (e.mac x) = k-Macro
leaf_kind (e.path q p) = k-Path
leaf_kind (e.full_range op) = k-Range
leaf_kind (e.try_block tokens) = k-TryBlock
leaf_kind (e.unsafe_block body) = k-Unsafe
leaf_kind (e.verbatim tokens) = k-Verbatim
leaf_kind (e.bare_jump j) = jump_kind j

abbrev prefix_kind : Prefix → Kind
prefix_kind (e.closure head) = k-Closure
prefix_kind (e.let_expr p) = k-Let
prefix_kind (e.range_to op) = k-Range
prefix_kind (e.raw_addr is_mut) = k-RawAddr
prefix_kind (e.reference is_mut) = k-Reference
prefix_kind (e.unary op) = k-Unary
prefix_kind (e.jump j) = jump_kind j

abbrev infix_kind : Infix → Kind
infix_kind inf.Assign = k-Assign
infix_kind (inf.Binary op) = k-Binary
infix_kind inf.Cast = k-Cast
infix_kind (inf.Range op) = k-Range

abbrev postfix_kind : Postfix → Kind
postfix_kind (e.cast ty) = k-Cast
postfix_kind (e.range_from op) = k-Range

abbrev trailer_kind : Trailer → Kind
trailer_kind e.await = k-Await
trailer_kind e.call = k-Call
trailer_kind (e.field member) = k-Field
trailer_kind e.index = k-Index
trailer_kind (e.method name types) = k-MethodCall
trailer_kind e.try_expr = k-Try

abbrev frame_kind : Frame → Kind
frame_kind e.array = k-Array
frame_kind (e.closure_block head) = k-Closure
frame_kind (e.for_loop label p) = k-ForLoop
frame_kind e.group_expr = k-Group
frame_kind e.if_expr = k-If
frame_kind e.match_expr = k-Match
frame_kind e.repeat = k-Repeat
frame_kind (e.structure q p dots) = k-Struct
frame_kind e.tuple = k-Tuple
frame_kind (e.while_loop label) = k-While

abbrev pub kind_of : Tree → Kind
kind_of (e.leaf k) = leaf_kind k
kind_of (e.paren mark t) = k-Paren
kind_of (e.attributed a more t) = kind_of t
kind_of (e.prefixed k guards t) = prefix_kind k
kind_of (e.infixed x op y) = infix_kind op
kind_of (e.postfixed x k) = postfix_kind k
kind_of (e.tail base k ks) = trailer_kind k
kind_of (e.frame k ks) = frame_kind k

after_attributes : (ats : List AttributeTree) (t : Tree) → kind_of (attributed_with ats t) ≡ kind_of t
after_attributes [] t = refl
after_attributes (a ∷ more) t = refl

jump_is : (j : Jump) (value : Option Tree) → kind_of (jump_with j value) ≡ jump_kind j
jump_is j None = refl
jump_is j (Some x) = refl

range_is : (op : Limits) (start end : Option Tree) → kind_of (range_between op start end) ≡ k-Range
range_is op None None = refl
range_is op None (Some y) = refl
range_is op (Some x) None = refl
range_is op (Some x) (Some y) = refl

closure_kind : (output : ReturnTree) (head : ClosureHead) (guards : List Tree) (body : Tree) → kind_of (closure_by output head guards body) ≡ k-Closure
closure_kind default head guards body = refl
closure_kind (given ty) head guards body = refl

ruleset kinds = (after_attributes, jump_is, range_is, closure_kind, closure-is, for_loop-is, let_expr-is, match_expr-is)

-- ---- the kind of an expression

abbrev pub Layer : Type 0
Layer = Expr-F Expr Pat ExprClosure Arm ExprForLoop ExprLet ExprMatch PatGuard

abbrev pub kind_in : Layer → Kind
kind_in (Expr-F.Array x) = k-Array
kind_in (Expr-F.Assign x) = k-Assign
kind_in (Expr-F.Async x) = k-Async
kind_in (Expr-F.Await x) = k-Await
kind_in (Expr-F.Binary x) = k-Binary
kind_in (Expr-F.Block x) = k-Block
kind_in (Expr-F.Break x) = k-Break
kind_in (Expr-F.Call x) = k-Call
kind_in (Expr-F.Cast x) = k-Cast
kind_in (Expr-F.Closure x) = k-Closure
kind_in (Expr-F.Expr::Const x) = k-Const
kind_in (Expr-F.Continue x) = k-Continue
kind_in (Expr-F.Field x) = k-Field
kind_in (Expr-F.ForLoop x) = k-ForLoop
kind_in (Expr-F.Group x) = k-Group
kind_in (Expr-F.If x) = k-If
kind_in (Expr-F.Index x) = k-Index
kind_in (Expr-F.Infer x) = k-Infer
kind_in (Expr-F.Let x) = k-Let
kind_in (Expr-F.Expr::Lit x) = k-Lit
kind_in (Expr-F.Loop x) = k-Loop
kind_in (Expr-F.Expr::Macro x) = k-Macro
kind_in (Expr-F.Match x) = k-Match
kind_in (Expr-F.MethodCall x) = k-MethodCall
kind_in (Expr-F.Expr::Paren x) = k-Paren
kind_in (Expr-F.Expr::Path x) = k-Path
kind_in (Expr-F.Expr::Range x) = k-Range
kind_in (Expr-F.RawAddr x) = k-RawAddr
kind_in (Expr-F.Expr::Reference x) = k-Reference
kind_in (Expr-F.Repeat x) = k-Repeat
kind_in (Expr-F.Return x) = k-Return
kind_in (Expr-F.Expr::Struct x) = k-Struct
kind_in (Expr-F.Try x) = k-Try
kind_in (Expr-F.TryBlock x) = k-TryBlock
kind_in (Expr-F.Expr::Tuple x) = k-Tuple
kind_in (Expr-F.Unary x) = k-Unary
kind_in (Expr-F.Unsafe x) = k-Unsafe
kind_in (Expr-F.While x) = k-While
kind_in (Expr-F.Yield x) = k-Yield
kind_in (Expr-F.Verbatim x) = k-Verbatim

layer_kind : (l : Layer) → kind_of (tree_layer views l) ≡ kind_in l
layer_kind _ = search (rules, kinds)

kind_is : {k : Kind} (x : Expr) → kind_of (tree_of x) ≡ k → kind_in (out-Expr x) ≡ k
kind_is x h = sym (ap kind_of (tree_out x) ∙ layer_kind (out-Expr x)) ∙ h

-- ---- what is no node of a kind has no tree of that kind

pub other : {k : Kind} {Y : Type 0} {at : Y → Expr} → ((l : Layer) → kind_in l ≡ k → (y : Y) × (roll-Expr l ≡ at y)) → (x : Expr) → ((y : Y) → x ≡ at y → ⊥) → kind_of (tree_of x) ≡ k → ⊥
other found x none h = let r = found (out-Expr x) (kind_is x h) in none r.0 (sym (roll-out-Expr x) ∙ r.1)

pub in-Array : (l : Layer) → kind_in l ≡ k-Array → (y : ExprArrayOf Expr) × (roll-Expr l ≡ ex.Array y)
in-Array (Expr-F.Array y) h = (y, ex.rolls-Array y)
in-Array _ h = absurd cc

pub in-Assign : (l : Layer) → kind_in l ≡ k-Assign → (y : ExprAssignOf Expr) × (roll-Expr l ≡ ex.Assign y)
in-Assign (Expr-F.Assign y) h = (y, ex.rolls-Assign y)
in-Assign _ h = absurd cc

pub in-Async : (l : Layer) → kind_in l ≡ k-Async → (y : ExprAsync) × (roll-Expr l ≡ ex.Async y)
in-Async (Expr-F.Async y) h = (y, ex.rolls-Async y)
in-Async _ h = absurd cc

pub in-Await : (l : Layer) → kind_in l ≡ k-Await → (y : ExprAwaitOf Expr) × (roll-Expr l ≡ ex.Await y)
in-Await (Expr-F.Await y) h = (y, ex.rolls-Await y)
in-Await _ h = absurd cc

pub in-Binary : (l : Layer) → kind_in l ≡ k-Binary → (y : ExprBinaryOf Expr) × (roll-Expr l ≡ ex.Binary y)
in-Binary (Expr-F.Binary y) h = (y, ex.rolls-Binary y)
in-Binary _ h = absurd cc

pub in-Block : (l : Layer) → kind_in l ≡ k-Block → (y : ExprBlock) × (roll-Expr l ≡ ex.Block y)
in-Block (Expr-F.Block y) h = (y, ex.rolls-Block y)
in-Block _ h = absurd cc

pub in-Break : (l : Layer) → kind_in l ≡ k-Break → (y : ExprBreakOf Expr) × (roll-Expr l ≡ ex.Break y)
in-Break (Expr-F.Break y) h = (y, ex.rolls-Break y)
in-Break _ h = absurd cc

pub in-Call : (l : Layer) → kind_in l ≡ k-Call → (y : ExprCallOf Expr) × (roll-Expr l ≡ ex.Call y)
in-Call (Expr-F.Call y) h = (y, ex.rolls-Call y)
in-Call _ h = absurd cc

pub in-Cast : (l : Layer) → kind_in l ≡ k-Cast → (y : ExprCastOf Expr) × (roll-Expr l ≡ ex.Cast y)
in-Cast (Expr-F.Cast y) h = (y, ex.rolls-Cast y)
in-Cast _ h = absurd cc

pub in-Closure : (l : Layer) → kind_in l ≡ k-Closure → (y : ExprClosure) × (roll-Expr l ≡ ex.Closure y)
in-Closure (Expr-F.Closure y) h = (y, ex.rolls-Closure y)
in-Closure _ h = absurd cc

pub in-Const : (l : Layer) → kind_in l ≡ k-Const → (y : ExprConst) × (roll-Expr l ≡ ex.Const y)
in-Const (Expr-F.Expr::Const y) h = (y, ex.rolls-Const y)
in-Const _ h = absurd cc

pub in-Continue : (l : Layer) → kind_in l ≡ k-Continue → (y : ExprContinue) × (roll-Expr l ≡ ex.Continue y)
in-Continue (Expr-F.Continue y) h = (y, ex.rolls-Continue y)
in-Continue _ h = absurd cc

pub in-Field : (l : Layer) → kind_in l ≡ k-Field → (y : ExprFieldOf Expr) × (roll-Expr l ≡ ex.Field y)
in-Field (Expr-F.Field y) h = (y, ex.rolls-Field y)
in-Field _ h = absurd cc

pub in-ForLoop : (l : Layer) → kind_in l ≡ k-ForLoop → (y : ExprForLoop) × (roll-Expr l ≡ ex.ForLoop y)
in-ForLoop (Expr-F.ForLoop y) h = (y, ex.rolls-ForLoop y)
in-ForLoop _ h = absurd cc

pub in-Group : (l : Layer) → kind_in l ≡ k-Group → (y : ExprGroupOf Expr) × (roll-Expr l ≡ ex.Group y)
in-Group (Expr-F.Group y) h = (y, ex.rolls-Group y)
in-Group _ h = absurd cc

pub in-If : (l : Layer) → kind_in l ≡ k-If → (y : ExprIfOf Expr) × (roll-Expr l ≡ ex.If y)
in-If (Expr-F.If y) h = (y, ex.rolls-If y)
in-If _ h = absurd cc

pub in-Index : (l : Layer) → kind_in l ≡ k-Index → (y : ExprIndexOf Expr) × (roll-Expr l ≡ ex.Index y)
in-Index (Expr-F.Index y) h = (y, ex.rolls-Index y)
in-Index _ h = absurd cc

pub in-Infer : (l : Layer) → kind_in l ≡ k-Infer → (y : ExprInfer) × (roll-Expr l ≡ ex.Infer y)
in-Infer (Expr-F.Infer y) h = (y, ex.rolls-Infer y)
in-Infer _ h = absurd cc

pub in-Let : (l : Layer) → kind_in l ≡ k-Let → (y : ExprLet) × (roll-Expr l ≡ ex.Let y)
in-Let (Expr-F.Let y) h = (y, ex.rolls-Let y)
in-Let _ h = absurd cc

pub in-Lit : (l : Layer) → kind_in l ≡ k-Lit → (y : ExprLit) × (roll-Expr l ≡ ex.Lit y)
in-Lit (Expr-F.Expr::Lit y) h = (y, ex.rolls-Lit y)
in-Lit _ h = absurd cc

pub in-Loop : (l : Layer) → kind_in l ≡ k-Loop → (y : ExprLoop) × (roll-Expr l ≡ ex.Loop y)
in-Loop (Expr-F.Loop y) h = (y, ex.rolls-Loop y)
in-Loop _ h = absurd cc

pub in-Macro : (l : Layer) → kind_in l ≡ k-Macro → (y : ExprMacro) × (roll-Expr l ≡ ex.Macro y)
in-Macro (Expr-F.Expr::Macro y) h = (y, ex.rolls-Macro y)
in-Macro _ h = absurd cc

pub in-Match : (l : Layer) → kind_in l ≡ k-Match → (y : ExprMatch) × (roll-Expr l ≡ ex.Match y)
in-Match (Expr-F.Match y) h = (y, ex.rolls-Match y)
in-Match _ h = absurd cc

pub in-MethodCall : (l : Layer) → kind_in l ≡ k-MethodCall → (y : ExprMethodCallOf Expr) × (roll-Expr l ≡ ex.MethodCall y)
in-MethodCall (Expr-F.MethodCall y) h = (y, ex.rolls-MethodCall y)
in-MethodCall _ h = absurd cc

pub in-Paren : (l : Layer) → kind_in l ≡ k-Paren → (y : ExprParenOf Expr) × (roll-Expr l ≡ ex.Paren y)
in-Paren (Expr-F.Expr::Paren y) h = (y, ex.rolls-Paren y)
in-Paren _ h = absurd cc

pub in-Path : (l : Layer) → kind_in l ≡ k-Path → (y : ExprPath) × (roll-Expr l ≡ ex.Path y)
in-Path (Expr-F.Expr::Path y) h = (y, ex.rolls-Path y)
in-Path _ h = absurd cc

pub in-Range : (l : Layer) → kind_in l ≡ k-Range → (y : ExprRangeOf Expr) × (roll-Expr l ≡ ex.Range y)
in-Range (Expr-F.Expr::Range y) h = (y, ex.rolls-Range y)
in-Range _ h = absurd cc

pub in-RawAddr : (l : Layer) → kind_in l ≡ k-RawAddr → (y : ExprRawAddrOf Expr) × (roll-Expr l ≡ ex.RawAddr y)
in-RawAddr (Expr-F.RawAddr y) h = (y, ex.rolls-RawAddr y)
in-RawAddr _ h = absurd cc

pub in-Reference : (l : Layer) → kind_in l ≡ k-Reference → (y : ExprReferenceOf Expr) × (roll-Expr l ≡ ex.Reference y)
in-Reference (Expr-F.Expr::Reference y) h = (y, ex.rolls-Reference y)
in-Reference _ h = absurd cc

pub in-Repeat : (l : Layer) → kind_in l ≡ k-Repeat → (y : ExprRepeatOf Expr) × (roll-Expr l ≡ ex.Repeat y)
in-Repeat (Expr-F.Repeat y) h = (y, ex.rolls-Repeat y)
in-Repeat _ h = absurd cc

pub in-Return : (l : Layer) → kind_in l ≡ k-Return → (y : ExprReturnOf Expr) × (roll-Expr l ≡ ex.Return y)
in-Return (Expr-F.Return y) h = (y, ex.rolls-Return y)
in-Return _ h = absurd cc

pub in-Struct : (l : Layer) → kind_in l ≡ k-Struct → (y : ExprStructOf Expr) × (roll-Expr l ≡ ex.Struct y)
in-Struct (Expr-F.Expr::Struct y) h = (y, ex.rolls-Struct y)
in-Struct _ h = absurd cc

pub in-Try : (l : Layer) → kind_in l ≡ k-Try → (y : ExprTryOf Expr) × (roll-Expr l ≡ ex.Try y)
in-Try (Expr-F.Try y) h = (y, ex.rolls-Try y)
in-Try _ h = absurd cc

pub in-TryBlock : (l : Layer) → kind_in l ≡ k-TryBlock → (y : ExprTryBlock) × (roll-Expr l ≡ ex.TryBlock y)
in-TryBlock (Expr-F.TryBlock y) h = (y, ex.rolls-TryBlock y)
in-TryBlock _ h = absurd cc

pub in-Tuple : (l : Layer) → kind_in l ≡ k-Tuple → (y : ExprTupleOf Expr) × (roll-Expr l ≡ ex.Tuple y)
in-Tuple (Expr-F.Expr::Tuple y) h = (y, ex.rolls-Tuple y)
in-Tuple _ h = absurd cc

pub in-Unary : (l : Layer) → kind_in l ≡ k-Unary → (y : ExprUnaryOf Expr) × (roll-Expr l ≡ ex.Unary y)
in-Unary (Expr-F.Unary y) h = (y, ex.rolls-Unary y)
in-Unary _ h = absurd cc

pub in-Unsafe : (l : Layer) → kind_in l ≡ k-Unsafe → (y : ExprUnsafe) × (roll-Expr l ≡ ex.Unsafe y)
in-Unsafe (Expr-F.Unsafe y) h = (y, ex.rolls-Unsafe y)
in-Unsafe _ h = absurd cc

pub in-While : (l : Layer) → kind_in l ≡ k-While → (y : ExprWhileOf Expr) × (roll-Expr l ≡ ex.While y)
in-While (Expr-F.While y) h = (y, ex.rolls-While y)
in-While _ h = absurd cc

pub in-Yield : (l : Layer) → kind_in l ≡ k-Yield → (y : ExprYieldOf Expr) × (roll-Expr l ≡ ex.Yield y)
in-Yield (Expr-F.Yield y) h = (y, ex.rolls-Yield y)
in-Yield _ h = absurd cc

pub in-Verbatim : (l : Layer) → kind_in l ≡ k-Verbatim → (y : List Tok) × (roll-Expr l ≡ ex.Verbatim y)
in-Verbatim (Expr-F.Verbatim y) h = (y, ex.rolls-Verbatim y)
in-Verbatim _ h = absurd cc
