-- Each kind of expression as a tree, without its places, by the trees of its operands.
use Rattle.std.specs.Prelude.{Bool, false, not, ◌||◌, ◌&&◌, if◌then◌else◌, List, [], ◌∷◌, map, Option, Some, None, is_some}
use Rattle.std.specs.declared.boxed.Box.{Box}
use Rattle.std.specs.declared.alloc.Global.{Global}
use Rattle.syn_lower_spec.specs.Form.{is_nil}
use Rattle.syn_lower_spec.specs.Tree.{AttributeTree, ArgumentsTree, no_arguments}
use Rattle.syn_lower_spec.specs.Pat.{MemberTree}
use Rattle.syn_expr_spec.specs.Tree as e
use Rattle.syn_expr_spec.specs.Tree.{Tree, Children, Ending, Piece, Jump, leaf, paren, prefixed, infixed, postfixed, tail, frame, none, child, attributed_with}
pub use Rattle.syn_expr_spec.specs.Tree.{body_of}
use Rattle.syn_expr_spec.specs.declared.kinds.Infix.TheVariants as inf
use Rattle.syn_expr_spec.specs.declared.kinds.Limits.{Limits}
use Rattle.syn_lower_leaves.specs.View.{lit_of, lifetime_of}
pub use Rattle.syn_lower.specs.View.{mapped, path_of, qself_or, macro_of, angle_of, is_mut}
unfoldable pub use Rattle.syn_lower.specs.View.{values, trails, type_of}
use Rattle.syn_lower_types.specs.declared.path.AngleBracketedGenericArgumentsOf.{AngleBracketedGenericArgumentsOf}
use Rattle.syn_lower.specs.declared.ty.«Type».{«Type»}
use Rattle.syn_expr_tokens.specs.View.{un_kind, bin_kind, limits_kind, member_of, label_of}
pub use Rattle.syn_expr_ast.specs.Attrs.{attrs_of, outer_of, inner_of}
use Rattle.syn_expr_ast.specs.declared.atom.ExprArrayOf.{ExprArrayOf}
use Rattle.syn_expr_ast.specs.declared.atom.ExprGroupOf.{ExprGroupOf}
use Rattle.syn_expr_ast.specs.declared.atom.ExprInfer.{ExprInfer}
use Rattle.syn_expr_ast.specs.declared.atom.ExprLit.{ExprLit}
use Rattle.syn_expr_ast.specs.declared.atom.ExprMacro.{ExprMacro}
use Rattle.syn_expr_ast.specs.declared.atom.ExprParenOf.{ExprParenOf}
use Rattle.syn_expr_ast.specs.declared.atom.ExprPath.{ExprPath}
use Rattle.syn_expr_ast.specs.declared.atom.ExprRepeatOf.{ExprRepeatOf}
use Rattle.syn_expr_ast.specs.declared.atom.ExprTupleOf.{ExprTupleOf}
use Rattle.syn_expr_ast.specs.declared.block.ExprAsync.{ExprAsync}
use Rattle.syn_expr_ast.specs.declared.block.ExprBlock.{ExprBlock}
use Rattle.syn_expr_ast.specs.declared.block.ExprConst.{ExprConst}
use Rattle.syn_expr_ast.specs.declared.block.ExprIfOf.{ExprIfOf}
use Rattle.syn_expr_ast.specs.declared.block.ExprLoop.{ExprLoop}
use Rattle.syn_expr_ast.specs.declared.block.ExprTryBlock.{ExprTryBlock}
use Rattle.syn_expr_ast.specs.declared.block.ExprUnsafe.{ExprUnsafe}
use Rattle.syn_expr_ast.specs.declared.block.ExprWhileOf.{ExprWhileOf}
use Rattle.syn_expr_ast.specs.declared.jump.ExprBreakOf.{ExprBreakOf}
use Rattle.syn_expr_ast.specs.declared.jump.ExprContinue.{ExprContinue}
use Rattle.syn_expr_ast.specs.declared.jump.ExprReturnOf.{ExprReturnOf}
use Rattle.syn_expr_ast.specs.declared.jump.ExprYieldOf.{ExprYieldOf}
use Rattle.syn_expr_ast.specs.declared.operation.ExprAssignOf.{ExprAssignOf}
use Rattle.syn_expr_ast.specs.declared.operation.ExprBinaryOf.{ExprBinaryOf}
use Rattle.syn_expr_ast.specs.declared.operation.ExprCastOf.{ExprCastOf}
use Rattle.syn_expr_ast.specs.declared.operation.ExprRangeOf.{ExprRangeOf}
use Rattle.syn_expr_ast.specs.declared.operation.ExprRawAddrOf.{ExprRawAddrOf}
use Rattle.syn_expr_ast.specs.declared.operation.ExprReferenceOf.{ExprReferenceOf}
use Rattle.syn_expr_ast.specs.declared.operation.ExprUnaryOf.{ExprUnaryOf}
use Rattle.syn_expr_ast.specs.declared.structure.ExprStructOf.{ExprStructOf}
use Rattle.syn_expr_ast.specs.declared.structure.FieldValueOf.{FieldValueOf}
use Rattle.syn_expr_ast.specs.declared.trailer.ExprAwaitOf.{ExprAwaitOf}
use Rattle.syn_expr_ast.specs.declared.trailer.ExprCallOf.{ExprCallOf}
use Rattle.syn_expr_ast.specs.declared.trailer.ExprFieldOf.{ExprFieldOf}
use Rattle.syn_expr_ast.specs.declared.trailer.ExprIndexOf.{ExprIndexOf}
use Rattle.syn_expr_ast.specs.declared.trailer.ExprMethodCallOf.{ExprMethodCallOf}
use Rattle.syn_expr_ast.specs.declared.trailer.ExprTryOf.{ExprTryOf}

-- ---- operands

abbrev pub boxed : {E T : Type 0} → (E → T) → Option (Box E Global) → Option T
boxed f None = None
boxed f (Some b) = Some (f b.value)

-- a comma is after each but the last, and after that where a comma ends the list
abbrev pub ending_of : Bool → Bool → Ending
ending_of last trailing = if not last || trailing then e.comma else e.no_ending

abbrev pub elements : List Tree → Bool → Children
elements [] trailing = none
elements (x ∷ xs) trailing = child e.element (ending_of (is_nil xs) trailing) x (elements xs trailing)

abbrev pub option_child : Piece → Option Tree → Children
option_child k None = none
option_child k (Some x) = child k e.no_ending x none

-- ---- atoms

abbrev pub expr_array_of : {E : Type 0} → (E → Tree) → ExprArrayOf E → Tree
expr_array_of f x = attributed_with (attrs_of x.attrs) (frame e.array (elements (map f (values x.elems)) (trails x.elems)))

abbrev pub expr_group_of : {E : Type 0} → (E → Tree) → ExprGroupOf E → Tree
expr_group_of f x = attributed_with (attrs_of x.attrs) (frame e.group_expr (child e.grouped e.no_ending (f x.expr.value) none))

abbrev pub expr_infer_of : ExprInfer → Tree
expr_infer_of x = attributed_with (attrs_of x.attrs) (leaf e.infer)

abbrev pub expr_lit_of : ExprLit → Tree
expr_lit_of x = attributed_with (attrs_of x.attrs) (leaf (e.lit (lit_of x.lit)))

abbrev pub expr_macro_of : ExprMacro → Tree
expr_macro_of x = attributed_with (attrs_of x.attrs) (leaf (e.mac (macro_of type_of x.mac)))

abbrev pub expr_paren_of : {E : Type 0} → (E → Tree) → ExprParenOf E → Tree
expr_paren_of f x = attributed_with (attrs_of x.attrs) (paren false (f x.expr.value))

abbrev pub expr_path_of : ExprPath → Tree
expr_path_of x = attributed_with (attrs_of x.attrs) (leaf (e.path (qself_or type_of x.qself) (path_of type_of x.path)))

abbrev pub expr_repeat_of : {E : Type 0} → (E → Tree) → ExprRepeatOf E → Tree
expr_repeat_of f x = attributed_with (attrs_of x.attrs) (frame e.repeat (child e.repeated e.no_ending (f x.expr.value) (child e.value e.no_ending (f x.len.value) none)))

abbrev pub expr_tuple_of : {E : Type 0} → (E → Tree) → ExprTupleOf E → Tree
expr_tuple_of f x = attributed_with (attrs_of x.attrs) (frame e.tuple (elements (map f (values x.elems)) (trails x.elems)))

-- ---- struct expressions

pub record FieldView : Type 0 where
  pub attrs : List AttributeTree
  pub member : MemberTree
  pub colon : Bool
  pub value : Tree

abbrev pub field_value_of : {E : Type 0} → (E → Tree) → FieldValueOf E → FieldView
field_value_of f x = record { attrs = attrs_of x.attrs; member = member_of x.member; colon = is_some x.colon_token; value = f x.expr }

-- the fields, before the rest
abbrev pub fields : List FieldView → Bool → Children → Children
fields [] trailing rest = rest
fields (x ∷ xs) trailing rest = child (e.field_value x.attrs x.member x.colon) (ending_of (is_nil xs) trailing) x.value (fields xs trailing rest)

-- A `..` before the rest belongs to it.
abbrev pub expr_struct_of : {E : Type 0} → (E → Tree) → ExprStructOf E → Tree
expr_struct_of f x =
    let dots = is_some x.dot2_token in
    let rest = boxed f x.rest in
    attributed_with (attrs_of x.attrs)
    (frame (e.structure (qself_or type_of x.qself) (path_of type_of x.path) (dots && not (is_some rest)))
    (fields (map (field_value_of f) (values x.fields)) (trails x.fields) (option_child (e.rest dots) rest)))

-- ---- operations

abbrev pub expr_assign_of : {E : Type 0} → (E → Tree) → ExprAssignOf E → Tree
expr_assign_of f x = attributed_with (attrs_of x.attrs) (infixed (f x.left.value) inf.Assign (f x.right.value))

abbrev pub expr_binary_of : {E : Type 0} → (E → Tree) → ExprBinaryOf E → Tree
expr_binary_of f x = attributed_with (attrs_of x.attrs) (infixed (f x.left.value) (inf.Binary (bin_kind x.op)) (f x.right.value))

abbrev pub expr_cast_of : {E : Type 0} → (E → Tree) → ExprCastOf E → Tree
expr_cast_of f x = attributed_with (attrs_of x.attrs) (postfixed (f x.expr.value) (e.cast (type_of x.ty.value)))

-- a range by its two ends
abbrev pub range_between : Limits → Option Tree → Option Tree → Tree
range_between op None None = leaf (e.full_range op)
range_between op None (Some y) = prefixed (e.range_to op) none y
range_between op (Some x) None = postfixed x (e.range_from op)
range_between op (Some x) (Some y) = infixed x (inf.Range op) y

abbrev pub expr_range_of : {E : Type 0} → (E → Tree) → ExprRangeOf E → Tree
expr_range_of f x = attributed_with (attrs_of x.attrs) (range_between (limits_kind x.limits) (boxed f x.start) (boxed f x.end))

abbrev pub expr_raw_addr_of : {E : Type 0} → (E → Tree) → ExprRawAddrOf E → Tree
expr_raw_addr_of f x = attributed_with (attrs_of x.attrs) (prefixed (e.raw_addr (is_mut x.mutability)) none (f x.expr.value))

abbrev pub expr_reference_of : {E : Type 0} → (E → Tree) → ExprReferenceOf E → Tree
expr_reference_of f x = attributed_with (attrs_of x.attrs) (prefixed (e.reference (is_some x.mutability)) none (f x.expr.value))

abbrev pub expr_unary_of : {E : Type 0} → (E → Tree) → ExprUnaryOf E → Tree
expr_unary_of f x = attributed_with (attrs_of x.attrs) (prefixed (e.unary (un_kind x.op)) none (f x.expr.value))

-- ---- trailers

abbrev pub expr_await_of : {E : Type 0} → (E → Tree) → ExprAwaitOf E → Tree
expr_await_of f x = attributed_with (attrs_of x.attrs) (tail (f x.base.value) e.await none)

abbrev pub expr_call_of : {E : Type 0} → (E → Tree) → ExprCallOf E → Tree
expr_call_of f x = attributed_with (attrs_of x.attrs) (tail (f x.func.value) e.call (elements (map f (values x.args)) (trails x.args)))

abbrev pub expr_field_of : {E : Type 0} → (E → Tree) → ExprFieldOf E → Tree
expr_field_of f x = attributed_with (attrs_of x.attrs) (tail (f x.base.value) (e.field (member_of x.member)) none)

abbrev pub expr_index_of : {E : Type 0} → (E → Tree) → ExprIndexOf E → Tree
expr_index_of f x = attributed_with (attrs_of x.attrs) (tail (f x.expr.value) e.index (child e.value e.no_ending (f x.index.value) none))

abbrev pub turbofish_of : Option (AngleBracketedGenericArgumentsOf «Type») → ArgumentsTree
turbofish_of None = no_arguments
turbofish_of (Some x) = angle_of type_of x

abbrev pub expr_method_call_of : {E : Type 0} → (E → Tree) → ExprMethodCallOf E → Tree
expr_method_call_of f x = attributed_with (attrs_of x.attrs) (tail (f x.receiver.value) (e.method x.method (turbofish_of x.turbofish)) (elements (map f (values x.args)) (trails x.args)))

abbrev pub expr_try_of : {E : Type 0} → (E → Tree) → ExprTryOf E → Tree
expr_try_of f x = attributed_with (attrs_of x.attrs) (tail (f x.expr.value) e.try_expr none)

-- ---- blocks

abbrev pub expr_async_of : ExprAsync → Tree
expr_async_of x = attributed_with (attrs_of x.attrs) (leaf (e.async_block (is_some x.capture) x.block.stmts))

abbrev pub expr_block_of : ExprBlock → Tree
expr_block_of x = attributed_with (outer_of x.attrs) (leaf (e.block (mapped label_of x.label) (body_of (inner_of x.attrs) x.block.stmts)))

abbrev pub expr_const_of : ExprConst → Tree
expr_const_of x = attributed_with (outer_of x.attrs) (leaf (e.const_block (body_of (inner_of x.attrs) x.block.stmts)))

abbrev pub else_of : {E S : Type 0} → (E → Tree) → Option (S × Box E Global) → Children
else_of f None = none
else_of f (Some q) = child e.chained e.no_ending (f q.1.value) none

abbrev pub expr_if_of : {E : Type 0} → (E → Tree) → ExprIfOf E → Tree
expr_if_of f x = attributed_with (attrs_of x.attrs) (frame e.if_expr (child e.condition (e.braced (body_of [] x.then_branch.stmts)) (f x.cond.value) (else_of f x.else_branch)))

abbrev pub expr_loop_of : ExprLoop → Tree
expr_loop_of x = attributed_with (outer_of x.attrs) (leaf (e.loop_expr (mapped label_of x.label) (body_of (inner_of x.attrs) x.body.stmts)))

abbrev pub expr_try_block_of : ExprTryBlock → Tree
expr_try_block_of x = attributed_with (attrs_of x.attrs) (leaf (e.try_block x.block.stmts))

abbrev pub expr_unsafe_of : ExprUnsafe → Tree
expr_unsafe_of x = attributed_with (outer_of x.attrs) (leaf (e.unsafe_block (body_of (inner_of x.attrs) x.block.stmts)))

abbrev pub expr_while_of : {E : Type 0} → (E → Tree) → ExprWhileOf E → Tree
expr_while_of f x =
    attributed_with (outer_of x.attrs) (frame (e.while_loop (mapped label_of x.label))
    (child e.loop_head (e.braced (body_of (inner_of x.attrs) x.body.stmts)) (f x.cond.value) none))

-- ---- jumps

-- a jump, with a value or without
abbrev pub jump_with : Jump → Option Tree → Tree
jump_with j None = leaf (e.bare_jump j)
jump_with j (Some x) = prefixed (e.jump j) none x

abbrev pub expr_break_of : {E : Type 0} → (E → Tree) → ExprBreakOf E → Tree
expr_break_of f x = attributed_with (attrs_of x.attrs) (jump_with (e.breaking (mapped lifetime_of x.label)) (boxed f x.expr))

abbrev pub expr_continue_of : ExprContinue → Tree
expr_continue_of x = attributed_with (attrs_of x.attrs) (leaf (e.continuing (mapped lifetime_of x.label)))

abbrev pub expr_return_of : {E : Type 0} → (E → Tree) → ExprReturnOf E → Tree
expr_return_of f x = attributed_with (attrs_of x.attrs) (jump_with e.returning (boxed f x.expr))

abbrev pub expr_yield_of : {E : Type 0} → (E → Tree) → ExprYieldOf E → Tree
expr_yield_of f x = attributed_with (attrs_of x.attrs) (jump_with e.yielding (boxed f x.expr))
