-- Expressions, patterns and arms as trees, without their places.
use Rattle.syn_expr_spec.specs.Tree as e
use Rattle.syn_expr_spec.specs.Tree.{Tree, leaf, Children, Ending, Leaf, Postfix, Trailer, Frame, Jump, ClosureHead, paren, prefixed, infixed, postfixed, tail, frame, none, child, attributed_with}
pub use Rattle.syn_pat.specs.View.{PatView, pat_const_of, pat_ident_of, pat_lit_of, pat_macro_of, pat_or_of, pat_paren_of, pat_path_of, pat_range_of, pat_reference_of, pat_rest_of, pat_slice_of, pat_struct_of, pat_tuple_of, pat_tuple_struct_of, pat_type_of, pat_wild_of}
use Rattle.syn_expr_ast.specs.Both as both
pub use Rattle.syn_expr_ast.specs.Both.{expr_closure_of, expr_for_loop_of, expr_let_of, expr_match_of, guarded_of}
pub use Rattle.syn_expr_ast.specs.Pats.{ArmView}
pub use Rattle.syn_expr_ast.specs.View.{expr_array_of, expr_assign_of, expr_async_of, expr_await_of, expr_binary_of, expr_block_of, expr_break_of, expr_call_of, expr_cast_of, expr_const_of, expr_continue_of, expr_field_of, expr_group_of, expr_if_of, expr_index_of, expr_infer_of, expr_lit_of, expr_loop_of, expr_macro_of, expr_method_call_of, expr_paren_of, expr_path_of, expr_range_of, expr_raw_addr_of, expr_reference_of, expr_repeat_of, expr_return_of, expr_struct_of, expr_try_of, expr_try_block_of, expr_tuple_of, expr_unary_of, expr_unsafe_of, expr_while_of, expr_yield_of}
use Rattle.std.proofs.Common.{◌≡◌, Bool, false, List, [], ◌∷◌, ◌++◌, Option, Some, None, refl, sym, ap, ◌∙◌, subst}
use Rattle.std.proofs.lemmas.List.{append-nil}
use Rattle.syn_lower_spec.specs.Tree.{AttributeTree, ReturnTree, default, given}
use Rattle.syn_expr_spec.specs.declared.kinds.Infix.{Infix}
use Rattle.syn_expr_spec.specs.declared.kinds.Limits.{Limits}
use Rattle.syn_expr_ast.specs.Node.{stray_trees, without_strays, operands_at}
use Rattle.syn_expr_ast.specs.Pats.{strays, closure_by}
use Rattle.syn_expr_ast.specs.View.{FieldView, elements, fields, option_child, range_between, jump_with}
use Rattle.syn_expr_ast.proofs.Shapes.{elements-strays, elements-all, fields-strays, fields-all, strays-first, strays-gone}
use Rattle.syn_expr_print.specs.Shape.{shape_at}
use Rattle.syn_expr_print.specs.Printing.{core, node_of, IsBorrowed}
use Rattle.syn_expr_core.specs.declared.expr.Expr.{Expr, map-Expr, fold_out-Expr, out-Expr, fold-Expr}
use Rattle.syn_expr_core.specs.declared.expr.Expr.TheOpen.{Expr-F, Pat-F, ExprClosure-F, Arm-F, ExprForLoop-F, ExprLet-F, ExprMatch-F, PatGuard-F}
use Rattle.syn_expr_core.specs.declared.pat.Pat.{Pat, fold-Pat}
use Rattle.syn_expr_core.specs.declared.pat.PatGuard.{PatGuard, fold-PatGuard}
use Rattle.syn_expr_core.specs.declared.closure.ExprClosure.{ExprClosure, fold_out-ExprClosure, fold-ExprClosure}
use Rattle.syn_expr_core.specs.declared.control.Arm.{Arm, fold-Arm}
use Rattle.syn_expr_core.specs.declared.control.ExprForLoop.{ExprForLoop, fold_out-ExprForLoop, fold-ExprForLoop}
use Rattle.syn_expr_core.specs.declared.control.ExprLet.{ExprLet, fold_out-ExprLet, fold-ExprLet}
use Rattle.syn_expr_core.specs.declared.control.ExprMatch.{ExprMatch, fold_out-ExprMatch, fold-ExprMatch}
unfoldable pub use Rattle.syn_lower.specs.View.{values, trails}
use Rattle.syn_expr_ast.specs.declared.pattern.ArmOf.{ArmOf}
use Rattle.syn_expr_ast.specs.declared.pattern.ExprClosureOf.{ExprClosureOf}
use Rattle.syn_expr_ast.specs.declared.pattern.ExprForLoopOf.{ExprForLoopOf}
use Rattle.syn_expr_ast.specs.declared.pattern.ExprLetOf.{ExprLetOf}
use Rattle.syn_expr_ast.specs.declared.pattern.ExprMatchOf.{ExprMatchOf}
use Rattle.syn_expr_ast.specs.declared.pattern.PatGuardOf.{PatGuardOf}

-- what is shown of all that an expression is made of
pub record Views (E P C A F L M G : Type 0) : Type 0 where
  pub tree : E → Tree
  pub pat : P → PatView
  pub closure : C → Tree
  pub arm : A → ArmView
  pub for_loop : F → Tree
  pub let_expr : L → Tree
  pub match_expr : M → Tree
  pub guard : G → PatView

-- ---- one level of each, by what is shown of the next

abbrev pub tree_layer : {E P C A F L M G : Type 0} → Views E P C A F L M G → Expr-F E P C A F L M G → Tree
tree_layer v (Expr-F.Array x) = expr_array_of v.tree x
tree_layer v (Expr-F.Assign x) = expr_assign_of v.tree x
tree_layer v (Expr-F.Async x) = expr_async_of x
tree_layer v (Expr-F.Await x) = expr_await_of v.tree x
tree_layer v (Expr-F.Binary x) = expr_binary_of v.tree x
tree_layer v (Expr-F.Block x) = expr_block_of x
tree_layer v (Expr-F.Break x) = expr_break_of v.tree x
tree_layer v (Expr-F.Call x) = expr_call_of v.tree x
tree_layer v (Expr-F.Cast x) = expr_cast_of v.tree x
tree_layer v (Expr-F.Closure x) = v.closure x
tree_layer v (Expr-F.Expr::Const x) = expr_const_of x
tree_layer v (Expr-F.Continue x) = expr_continue_of x
tree_layer v (Expr-F.Field x) = expr_field_of v.tree x
tree_layer v (Expr-F.ForLoop x) = v.for_loop x
tree_layer v (Expr-F.Group x) = expr_group_of v.tree x
tree_layer v (Expr-F.If x) = expr_if_of v.tree x
tree_layer v (Expr-F.Index x) = expr_index_of v.tree x
tree_layer v (Expr-F.Infer x) = expr_infer_of x
tree_layer v (Expr-F.Let x) = v.let_expr x
tree_layer v (Expr-F.Expr::Lit x) = expr_lit_of x
tree_layer v (Expr-F.Loop x) = expr_loop_of x
tree_layer v (Expr-F.Expr::Macro x) = expr_macro_of x
tree_layer v (Expr-F.Match x) = v.match_expr x
tree_layer v (Expr-F.MethodCall x) = expr_method_call_of v.tree x
tree_layer v (Expr-F.Expr::Paren x) = expr_paren_of v.tree x
tree_layer v (Expr-F.Expr::Path x) = expr_path_of x
tree_layer v (Expr-F.Expr::Range x) = expr_range_of v.tree x
tree_layer v (Expr-F.RawAddr x) = expr_raw_addr_of v.tree x
tree_layer v (Expr-F.Expr::Reference x) = expr_reference_of v.tree x
tree_layer v (Expr-F.Repeat x) = expr_repeat_of v.tree x
tree_layer v (Expr-F.Return x) = expr_return_of v.tree x
tree_layer v (Expr-F.Expr::Struct x) = expr_struct_of v.tree x
tree_layer v (Expr-F.Try x) = expr_try_of v.tree x
tree_layer v (Expr-F.TryBlock x) = expr_try_block_of x
tree_layer v (Expr-F.Expr::Tuple x) = expr_tuple_of v.tree x
tree_layer v (Expr-F.Unary x) = expr_unary_of v.tree x
tree_layer v (Expr-F.Unsafe x) = expr_unsafe_of x
tree_layer v (Expr-F.While x) = expr_while_of v.tree x
tree_layer v (Expr-F.Yield x) = expr_yield_of v.tree x
tree_layer v (Expr-F.Verbatim x) = leaf (e.verbatim x)

abbrev pub pat_layer : {E P C A F L M G : Type 0} → Views E P C A F L M G → Pat-F E P C A F L M G → PatView
pat_layer v (Pat-F.Pat::Const x) = pat_const_of x
pat_layer v (Pat-F.Ident x) = pat_ident_of v.pat x
pat_layer v (Pat-F.Pat::Lit x) = pat_lit_of x
pat_layer v (Pat-F.Pat::Macro x) = pat_macro_of x
pat_layer v (Pat-F.Or x) = pat_or_of v.pat x
pat_layer v (Pat-F.Pat::Paren x) = pat_paren_of v.pat x
pat_layer v (Pat-F.Pat::Path x) = pat_path_of x
pat_layer v (Pat-F.Pat::Range x) = pat_range_of x
pat_layer v (Pat-F.Pat::Reference x) = pat_reference_of v.pat x
pat_layer v (Pat-F.Rest x) = pat_rest_of x
pat_layer v (Pat-F.Slice x) = pat_slice_of v.pat x
pat_layer v (Pat-F.Pat::Struct x) = pat_struct_of v.pat x
pat_layer v (Pat-F.Pat::Tuple x) = pat_tuple_of v.pat x
pat_layer v (Pat-F.TupleStruct x) = pat_tuple_struct_of v.pat x
pat_layer v (Pat-F.Typed x) = pat_type_of v.pat x
pat_layer v (Pat-F.Wild x) = pat_wild_of x
pat_layer v (Pat-F.Guard x) = v.guard x

abbrev pub closure_parts : {E P C A F L M G : Type 0} → ExprClosure-F E P C A F L M G → ExprClosureOf E P
closure_parts x = record { attrs = x.attrs; lifetimes = x.lifetimes; modifiers = x.modifiers; constness = x.constness; asyncness = x.asyncness; capture = x.capture; inputs_begin = x.inputs_begin; inputs = x.inputs; inputs_end = x.inputs_end; output = x.output; body = x.body }

abbrev pub closure_layer : {E P C A F L M G : Type 0} → Views E P C A F L M G → ExprClosure-F E P C A F L M G → Tree
closure_layer v x = expr_closure_of v.tree v.pat (closure_parts x)

abbrev pub arm_parts : {E P C A F L M G : Type 0} → Arm-F E P C A F L M G → ArmOf E P
arm_parts x = record { attrs = x.attrs; pat = x.pat; fat_arrow_token = x.fat_arrow_token; body = x.body; comma = x.comma }

abbrev pub arm_layer : {E P C A F L M G : Type 0} → Views E P C A F L M G → Arm-F E P C A F L M G → ArmView
arm_layer v x = both.arm_of v.tree v.pat (arm_parts x)

abbrev pub for_loop_parts : {E P C A F L M G : Type 0} → ExprForLoop-F E P C A F L M G → ExprForLoopOf E P
for_loop_parts x = record { attrs = x.attrs; label = x.label; for_token = x.for_token; pat = x.pat; in_token = x.in_token; expr = x.expr; body = x.body }

abbrev pub for_loop_layer : {E P C A F L M G : Type 0} → Views E P C A F L M G → ExprForLoop-F E P C A F L M G → Tree
for_loop_layer v x = expr_for_loop_of v.tree v.pat (for_loop_parts x)

abbrev pub let_parts : {E P C A F L M G : Type 0} → ExprLet-F E P C A F L M G → ExprLetOf E P
let_parts x = record { attrs = x.attrs; let_token = x.let_token; pat = x.pat; eq_token = x.eq_token; expr = x.expr }

abbrev pub let_layer : {E P C A F L M G : Type 0} → Views E P C A F L M G → ExprLet-F E P C A F L M G → Tree
let_layer v x = expr_let_of v.tree v.pat (let_parts x)

abbrev pub match_parts : {E P C A F L M G : Type 0} → ExprMatch-F E P C A F L M G → ExprMatchOf E A
match_parts x = record { attrs = x.attrs; match_token = x.match_token; expr = x.expr; brace_token = x.brace_token; arms = x.arms }

abbrev pub match_layer : {E P C A F L M G : Type 0} → Views E P C A F L M G → ExprMatch-F E P C A F L M G → Tree
match_layer v x = expr_match_of v.tree v.arm (match_parts x)

abbrev pub guard_parts : {E P C A F L M G : Type 0} → PatGuard-F E P C A F L M G → PatGuardOf E P
guard_parts x = record { attrs = x.attrs; pat = x.pat; if_token = x.if_token; guard = x.guard }

abbrev pub guard_layer : {E P C A F L M G : Type 0} → Views E P C A F L M G → PatGuard-F E P C A F L M G → PatView
guard_layer v x = guarded_of v.tree v.pat (guard_parts x)

-- ---- what is shown of a whole, level by level

abbrev pub shown : Views Tree PatView Tree ArmView Tree Tree Tree PatView
shown = record { tree = λ x. x; pat = λ x. x; closure = λ x. x; arm = λ x. x; for_loop = λ x. x; let_expr = λ x. x; match_expr = λ x. x; guard = λ x. x }

abbrev pub tree_step : Expr-F Tree PatView Tree ArmView Tree Tree Tree PatView → Tree
tree_step = tree_layer shown

abbrev pub pat_step : Pat-F Tree PatView Tree ArmView Tree Tree Tree PatView → PatView
pat_step = pat_layer shown

abbrev pub closure_step : ExprClosure-F Tree PatView Tree ArmView Tree Tree Tree PatView → Tree
closure_step = closure_layer shown

abbrev pub arm_step : Arm-F Tree PatView Tree ArmView Tree Tree Tree PatView → ArmView
arm_step = arm_layer shown

abbrev pub for_loop_step : ExprForLoop-F Tree PatView Tree ArmView Tree Tree Tree PatView → Tree
for_loop_step = for_loop_layer shown

abbrev pub let_step : ExprLet-F Tree PatView Tree ArmView Tree Tree Tree PatView → Tree
let_step = let_layer shown

abbrev pub match_step : ExprMatch-F Tree PatView Tree ArmView Tree Tree Tree PatView → Tree
match_step = match_layer shown

abbrev pub guard_step : PatGuard-F Tree PatView Tree ArmView Tree Tree Tree PatView → PatView
guard_step = guard_layer shown

unfoldable pub tree_of : Expr → Tree
tree_of x = fold-Expr Tree PatView Tree ArmView Tree Tree Tree PatView tree_step pat_step closure_step arm_step for_loop_step let_step match_step guard_step x

unfoldable pub pat_of : Pat → PatView
pat_of x = fold-Pat Tree PatView Tree ArmView Tree Tree Tree PatView tree_step pat_step closure_step arm_step for_loop_step let_step match_step guard_step x

unfoldable pub closure_of : ExprClosure → Tree
closure_of x = fold-ExprClosure Tree PatView Tree ArmView Tree Tree Tree PatView tree_step pat_step closure_step arm_step for_loop_step let_step match_step guard_step x

unfoldable pub arm_of : Arm → ArmView
arm_of x = fold-Arm Tree PatView Tree ArmView Tree Tree Tree PatView tree_step pat_step closure_step arm_step for_loop_step let_step match_step guard_step x

unfoldable pub for_loop_of : ExprForLoop → Tree
for_loop_of x = fold-ExprForLoop Tree PatView Tree ArmView Tree Tree Tree PatView tree_step pat_step closure_step arm_step for_loop_step let_step match_step guard_step x

unfoldable pub let_of : ExprLet → Tree
let_of x = fold-ExprLet Tree PatView Tree ArmView Tree Tree Tree PatView tree_step pat_step closure_step arm_step for_loop_step let_step match_step guard_step x

unfoldable pub match_of : ExprMatch → Tree
match_of x = fold-ExprMatch Tree PatView Tree ArmView Tree Tree Tree PatView tree_step pat_step closure_step arm_step for_loop_step let_step match_step guard_step x

unfoldable pub guard_of : PatGuard → PatView
guard_of x = fold-PatGuard Tree PatView Tree ArmView Tree Tree Tree PatView tree_step pat_step closure_step arm_step for_loop_step let_step match_step guard_step x

abbrev pub views : Views Expr Pat ExprClosure Arm ExprForLoop ExprLet ExprMatch PatGuard
views = record { tree = tree_of; pat = pat_of; closure = closure_of; arm = arm_of; for_loop = for_loop_of; let_expr = let_of; match_expr = match_of; guard = guard_of }

-- ---- an expression is borrowed as its attributes, its shape and its operands, and these are all of it: `#[k] a + b` as `#[k]`, as
-- an operation by `+`, and as `a` and `b`.

-- ---- trees without attributes before them

abbrev IsWhole : Tree → Type 0
IsWhole t = (core t ≡ t) × (t ≡ node_of (shape_at t) (operands_at t))

-- attributes before it are of no node
behind : (ats : List AttributeTree) (t : Tree) → IsWhole t → IsBorrowed (attributed_with ats t)
behind [] t h = h.0 ∙ h.1
behind (a ∷ more) t h = h.1

leaf_whole : (k : Leaf) → IsWhole (leaf k)
leaf_whole k = (refl, refl)

paren_whole : (t : Tree) → IsWhole (paren false t)
paren_whole t = (refl, refl)

prefix_whole : (k : e.Prefix) (gs : List Tree) (t : Tree) → IsWhole (prefixed k (strays gs none) t)
prefix_whole k gs t = (refl, ap (λ l. prefixed k (strays l none) t) (sym (strays-first gs none ∙ append-nil gs)))

infix_whole : (x : Tree) (k : Infix) (y : Tree) → IsWhole (infixed x k y)
infix_whole x k y = (refl, refl)

postfix_whole : (x : Tree) (k : Postfix) → IsWhole (postfixed x k)
postfix_whole x k = (refl, refl)

tail_whole : (b : Tree) (k : Trailer) (ks : Children) → IsWhole (tail b k ks)
tail_whole b k none = (refl, refl)
tail_whole b k (child p c t ks) = (refl, refl)

-- where no further guards come first
frame_whole : (k : Frame) (gs : List Tree) (ks : Children) → stray_trees ks ≡ [] → without_strays ks ≡ ks → IsWhole (frame k (strays gs ks))
frame_whole k gs ks s w =
    let a : stray_trees (strays gs ks) ≡ gs = strays-first gs ks ∙ ap (λ l. gs ++ l) s ∙ append-nil gs in
    let b : without_strays (strays gs ks) ≡ ks = strays-gone gs ks ∙ w in
    (refl, sym (ap (λ l. frame k (strays l (without_strays (strays gs ks)))) a ∙ ap (λ l. frame k (strays gs l)) b))

loop_whole : (k : Frame) (gs : List Tree) (c : Ending) (t : Tree) → IsWhole (frame k (strays gs (child e.loop_head c t none)))
loop_whole k gs c t = frame_whole k gs (child e.loop_head c t none) refl refl

elements_whole : (k : Frame) (ts : List Tree) (b : Bool) → IsWhole (frame k (elements ts b))
elements_whole k ts b = frame_whole k [] (elements ts b) (elements-strays ts b) (elements-all ts b)

fields_whole : (k : Frame) (xs : List FieldView) (b d : Bool) (o : Option Tree) → IsWhole (frame k (fields xs b (option_child (e.rest d) o)))
fields_whole k xs b d o = frame_whole k [] _ (fields-strays xs b d o) (fields-all xs b d o)

closure_whole : (r : ReturnTree) (h : ClosureHead) (gs : List Tree) (t : Tree) → IsWhole (closure_by r h gs t)
closure_whole default h gs t = prefix_whole (e.closure h) gs t
closure_whole (given ty) h gs t = frame_whole (e.closure_block h) gs (child e.output_block e.no_ending t none) refl refl

range_whole : (op : Limits) (x y : Option Tree) → IsWhole (range_between op x y)
range_whole op None None = (refl, refl)
range_whole op None (Some y) = (refl, refl)
range_whole op (Some x) None = (refl, refl)
range_whole op (Some x) (Some y) = (refl, refl)

jump_whole : (j : Jump) (x : Option Tree) → IsWhole (jump_with j x)
jump_whole j None = (refl, refl)
jump_whole j (Some x) = (refl, refl)

-- ---- those that hold patterns

closure_borrowed : (x : ExprClosure) → IsBorrowed (closure_of x)
unfolding tree_of pat_of closure_of arm_of for_loop_of let_of match_of guard_of
closure_borrowed x = subst IsBorrowed (sym (fold_out-ExprClosure Tree PatView Tree ArmView Tree Tree Tree PatView tree_step pat_step closure_step arm_step for_loop_step let_step match_step guard_step x)) (behind _ _ (closure_whole _ _ _ _))

for_loop_borrowed : (x : ExprForLoop) → IsBorrowed (for_loop_of x)
unfolding tree_of pat_of closure_of arm_of for_loop_of let_of match_of guard_of
for_loop_borrowed x = subst IsBorrowed (sym (fold_out-ExprForLoop Tree PatView Tree ArmView Tree Tree Tree PatView tree_step pat_step closure_step arm_step for_loop_step let_step match_step guard_step x)) (behind _ _ (loop_whole _ _ _ _))

let_borrowed : (x : ExprLet) → IsBorrowed (let_of x)
unfolding tree_of pat_of closure_of arm_of for_loop_of let_of match_of guard_of
let_borrowed x = subst IsBorrowed (sym (fold_out-ExprLet Tree PatView Tree ArmView Tree Tree Tree PatView tree_step pat_step closure_step arm_step for_loop_step let_step match_step guard_step x)) (behind _ _ (prefix_whole _ _ _))

match_borrowed : (x : ExprMatch) → IsBorrowed (match_of x)
unfolding tree_of pat_of closure_of arm_of for_loop_of let_of match_of guard_of
match_borrowed x = subst IsBorrowed (sym (fold_out-ExprMatch Tree PatView Tree ArmView Tree Tree Tree PatView tree_step pat_step closure_step arm_step for_loop_step let_step match_step guard_step x)) (behind _ _ (frame_whole _ [] _ refl refl))

-- ---- each kind

layer_borrowed : (l : Expr-F Expr Pat ExprClosure Arm ExprForLoop ExprLet ExprMatch PatGuard) → IsBorrowed (tree_step (map-Expr Expr Pat ExprClosure Arm ExprForLoop ExprLet ExprMatch PatGuard Tree PatView Tree ArmView Tree Tree Tree PatView tree_of pat_of closure_of arm_of for_loop_of let_of match_of guard_of l))
layer_borrowed (Expr-F.Array x) = behind _ _ (elements_whole _ _ _)
layer_borrowed (Expr-F.Assign x) = behind _ _ (infix_whole _ _ _)
layer_borrowed (Expr-F.Async x) = behind _ _ (leaf_whole _)
layer_borrowed (Expr-F.Await x) = behind _ _ (tail_whole _ _ _)
layer_borrowed (Expr-F.Binary x) = behind _ _ (infix_whole _ _ _)
layer_borrowed (Expr-F.Block x) = behind _ _ (leaf_whole _)
layer_borrowed (Expr-F.Break x) = behind _ _ (jump_whole _ _)
layer_borrowed (Expr-F.Call x) = behind _ _ (tail_whole _ _ _)
layer_borrowed (Expr-F.Cast x) = behind _ _ (postfix_whole _ _)
layer_borrowed (Expr-F.Closure x) = closure_borrowed x
layer_borrowed (Expr-F.Expr::Const x) = behind _ _ (leaf_whole _)
layer_borrowed (Expr-F.Continue x) = behind _ _ (leaf_whole _)
layer_borrowed (Expr-F.Field x) = behind _ _ (tail_whole _ _ _)
layer_borrowed (Expr-F.ForLoop x) = for_loop_borrowed x
layer_borrowed (Expr-F.Group x) = behind _ _ (frame_whole _ [] _ refl refl)
layer_borrowed (Expr-F.If x) = behind _ _ (frame_whole _ [] _ refl refl)
layer_borrowed (Expr-F.Index x) = behind _ _ (tail_whole _ _ _)
layer_borrowed (Expr-F.Infer x) = behind _ _ (leaf_whole _)
layer_borrowed (Expr-F.Let x) = let_borrowed x
layer_borrowed (Expr-F.Expr::Lit x) = behind _ _ (leaf_whole _)
layer_borrowed (Expr-F.Loop x) = behind _ _ (leaf_whole _)
layer_borrowed (Expr-F.Expr::Macro x) = behind _ _ (leaf_whole _)
layer_borrowed (Expr-F.Match x) = match_borrowed x
layer_borrowed (Expr-F.MethodCall x) = behind _ _ (tail_whole _ _ _)
layer_borrowed (Expr-F.Expr::Paren x) = behind _ _ (paren_whole _)
layer_borrowed (Expr-F.Expr::Path x) = behind _ _ (leaf_whole _)
layer_borrowed (Expr-F.Expr::Range x) = behind _ _ (range_whole _ _ _)
layer_borrowed (Expr-F.RawAddr x) = behind _ _ (prefix_whole _ [] _)
layer_borrowed (Expr-F.Expr::Reference x) = behind _ _ (prefix_whole _ [] _)
layer_borrowed (Expr-F.Repeat x) = behind _ _ (frame_whole _ [] _ refl refl)
layer_borrowed (Expr-F.Return x) = behind _ _ (jump_whole _ _)
layer_borrowed (Expr-F.Expr::Struct x) = behind _ _ (fields_whole _ _ _ _ _)
layer_borrowed (Expr-F.Try x) = behind _ _ (tail_whole _ _ _)
layer_borrowed (Expr-F.TryBlock x) = behind _ _ (leaf_whole _)
layer_borrowed (Expr-F.Expr::Tuple x) = behind _ _ (elements_whole _ _ _)
layer_borrowed (Expr-F.Unary x) = behind _ _ (prefix_whole _ [] _)
layer_borrowed (Expr-F.Unsafe x) = behind _ _ (leaf_whole _)
layer_borrowed (Expr-F.While x) = behind _ _ (frame_whole _ [] _ refl refl)
layer_borrowed (Expr-F.Yield x) = behind _ _ (jump_whole _ _)
layer_borrowed (Expr-F.Verbatim x) = behind [] _ (leaf_whole _)

pub tree_borrowed : (x : Expr) → IsBorrowed (tree_of x)
unfolding tree_of pat_of closure_of arm_of for_loop_of let_of match_of guard_of
tree_borrowed x = subst IsBorrowed (sym (fold_out-Expr Tree PatView Tree ArmView Tree Tree Tree PatView tree_step pat_step closure_step arm_step for_loop_step let_step match_step guard_step x)) (layer_borrowed (out-Expr x))
