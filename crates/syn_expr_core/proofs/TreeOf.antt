-- The tree of each kind of expression and of pattern.
use Rattle.std.proofs.Common.{◌≡◌, Bool, not, ◌&&◌, List, [], ◌∷◌, ◌++◌, map, flat_map, Option, Some, None, refl, ◌∙◌, ap, rules, false, sym}
use Rattle.std.proofs.lemmas.List.{map-append}
use Rattle.std.proofs.lemmas.List.Folds.{flat_map-map}
use Rattle.std.proofs.lemmas.Grind.{flat_map-append}
use Rattle.std.proofs.lemmas.Simd.{map-map}
use Rattle.syn_tokens.specs.Tok.{Tok}
use Rattle.syn_expr_spec.specs.Tree.{Tree, leaf, verbatim, Jump, ClosureHead}
use Rattle.syn_expr_core.specs.declared.expr.Expr.{Expr, map-Expr, fold_out-Expr, out-Expr, roll-Expr, roll-out-Expr}
use Rattle.syn_expr_core.specs.declared.pat.Pat.{Pat, map-Pat, fold_out-Pat, out-Pat}
use Rattle.syn_expr_core.specs.declared.closure.ExprClosure.{ExprClosure, map-ExprClosure, fold_out-ExprClosure, out-ExprClosure}
use Rattle.syn_expr_core.specs.declared.control.Arm.{Arm, map-Arm, fold_out-Arm, out-Arm}
use Rattle.syn_expr_core.specs.declared.control.ExprForLoop.{ExprForLoop, map-ExprForLoop, fold_out-ExprForLoop, out-ExprForLoop}
use Rattle.syn_expr_core.specs.declared.control.ExprLet.{ExprLet, map-ExprLet, fold_out-ExprLet, out-ExprLet}
use Rattle.syn_expr_core.specs.declared.control.ExprMatch.{ExprMatch, map-ExprMatch, fold_out-ExprMatch, out-ExprMatch}
use Rattle.syn_expr_core.specs.declared.pat.PatGuard.{PatGuard, map-PatGuard, fold_out-PatGuard, out-PatGuard}
use Rattle.syn_expr_core.specs.declared.expr.Expr.TheVariants as ex
use Rattle.syn_expr_core.specs.declared.pat.Pat.TheVariants as pt
use Rattle.syn_expr_core.specs.declared.expr.Expr.TheOpen.{Expr-F, Pat-F, ExprClosure-F, Arm-F, ExprForLoop-F, ExprLet-F, ExprMatch-F, PatGuard-F}
use Rattle.syn_expr_ast.specs.declared.atom.ExprArrayOf.{ExprArrayOf}
use Rattle.syn_expr_ast.specs.declared.operation.ExprAssignOf.{ExprAssignOf}
use Rattle.syn_expr_ast.specs.declared.block.ExprAsync.{ExprAsync}
use Rattle.syn_expr_ast.specs.declared.trailer.ExprAwaitOf.{ExprAwaitOf}
use Rattle.syn_expr_ast.specs.declared.operation.ExprBinaryOf.{ExprBinaryOf}
use Rattle.syn_expr_ast.specs.declared.block.ExprBlock.{ExprBlock}
use Rattle.syn_expr_ast.specs.declared.jump.ExprBreakOf.{ExprBreakOf}
use Rattle.syn_expr_ast.specs.declared.trailer.ExprCallOf.{ExprCallOf}
use Rattle.syn_expr_ast.specs.declared.operation.ExprCastOf.{ExprCastOf}
use Rattle.syn_expr_ast.specs.declared.block.ExprConst.{ExprConst}
use Rattle.syn_expr_ast.specs.declared.jump.ExprContinue.{ExprContinue}
use Rattle.syn_expr_ast.specs.declared.trailer.ExprFieldOf.{ExprFieldOf}
use Rattle.syn_expr_ast.specs.declared.atom.ExprGroupOf.{ExprGroupOf}
use Rattle.syn_expr_ast.specs.declared.block.ExprIfOf.{ExprIfOf}
use Rattle.syn_expr_ast.specs.declared.trailer.ExprIndexOf.{ExprIndexOf}
use Rattle.syn_expr_ast.specs.declared.atom.ExprInfer.{ExprInfer}
use Rattle.syn_expr_ast.specs.declared.atom.ExprLit.{ExprLit}
use Rattle.syn_expr_ast.specs.declared.block.ExprLoop.{ExprLoop}
use Rattle.syn_expr_ast.specs.declared.atom.ExprMacro.{ExprMacro}
use Rattle.syn_expr_ast.specs.declared.trailer.ExprMethodCallOf.{ExprMethodCallOf}
use Rattle.syn_expr_ast.specs.declared.atom.ExprParenOf.{ExprParenOf}
use Rattle.syn_expr_ast.specs.declared.atom.ExprPath.{ExprPath}
use Rattle.syn_expr_ast.specs.declared.operation.ExprRangeOf.{ExprRangeOf}
use Rattle.syn_expr_ast.specs.declared.operation.ExprRawAddrOf.{ExprRawAddrOf}
use Rattle.syn_expr_ast.specs.declared.operation.ExprReferenceOf.{ExprReferenceOf}
use Rattle.syn_expr_ast.specs.declared.atom.ExprRepeatOf.{ExprRepeatOf}
use Rattle.syn_expr_ast.specs.declared.jump.ExprReturnOf.{ExprReturnOf}
use Rattle.syn_expr_ast.specs.declared.structure.ExprStructOf.{ExprStructOf}
use Rattle.syn_expr_ast.specs.declared.trailer.ExprTryOf.{ExprTryOf}
use Rattle.syn_expr_ast.specs.declared.block.ExprTryBlock.{ExprTryBlock}
use Rattle.syn_expr_ast.specs.declared.atom.ExprTupleOf.{ExprTupleOf}
use Rattle.syn_expr_ast.specs.declared.operation.ExprUnaryOf.{ExprUnaryOf}
use Rattle.syn_expr_ast.specs.declared.block.ExprUnsafe.{ExprUnsafe}
use Rattle.syn_expr_ast.specs.declared.block.ExprWhileOf.{ExprWhileOf}
use Rattle.syn_expr_ast.specs.declared.jump.ExprYieldOf.{ExprYieldOf}
use Rattle.syn_pat.specs.declared.pat.PatConst.{PatConst}
use Rattle.syn_pat.specs.declared.pat.PatIdentOf.{PatIdentOf}
use Rattle.syn_pat.specs.declared.pat.PatLit.{PatLit}
use Rattle.syn_pat.specs.declared.pat.PatMacro.{PatMacro}
use Rattle.syn_pat.specs.declared.pat.PatOrOf.{PatOrOf}
use Rattle.syn_pat.specs.declared.pat.PatParenOf.{PatParenOf}
use Rattle.syn_pat.specs.declared.pat.PatPath.{PatPath}
use Rattle.syn_pat.specs.declared.pat.PatRange.{PatRange}
use Rattle.syn_pat.specs.declared.pat.PatReferenceOf.{PatReferenceOf}
use Rattle.syn_pat.specs.declared.pat.PatRest.{PatRest}
use Rattle.syn_pat.specs.declared.pat.PatSliceOf.{PatSliceOf}
use Rattle.syn_pat.specs.declared.pat.PatStructOf.{PatStructOf}
use Rattle.syn_pat.specs.declared.pat.PatTupleOf.{PatTupleOf}
use Rattle.syn_pat.specs.declared.pat.PatTupleStructOf.{PatTupleStructOf}
use Rattle.syn_pat.specs.declared.pat.PatTypeOf.{PatTypeOf}
use Rattle.syn_pat.specs.declared.pat.PatWild.{PatWild}
use Rattle.syn_pat.specs.declared.pat.FieldPatOf.{FieldPatOf}
use Rattle.syn_pat.specs.declared.pat.FieldPatKindOf.{FieldPatKindOf}
use Rattle.syn_pat.specs.declared.pat.FieldPatKindOf.TheVariants as field
use Rattle.syn_pat.specs.View.{field_of, field_guards, field_pat_of, attributes_of, view_with}
use Rattle.syn_lower_spec.specs.Pat as t
use Rattle.syn_lower.specs.View.{last_of, is_some_pair, path_of, type_of}
use Rattle.std.specs.Prelude.{is_some}
use Rattle.std.specs.declared.boxed.Box.{Box}
use Rattle.std.specs.declared.alloc.Global.{Global}
use Rattle.syn_expr_core.specs.declared.expr.Expr.TheShapes as shapes
use Rattle.syn_expr_core.specs.View.{values, trails, ArmView, PatView, arm_layer, arm_of, arm_step, let_layer, let_of, let_step, match_layer, match_of, match_step, closure_layer, closure_of, closure_step, expr_array_of, expr_assign_of, expr_async_of, expr_await_of, expr_binary_of, expr_block_of, expr_break_of, expr_call_of, expr_cast_of, expr_const_of, expr_continue_of, expr_field_of, expr_group_of, expr_if_of, expr_index_of, expr_infer_of, expr_lit_of, expr_loop_of, expr_macro_of, expr_method_call_of, expr_paren_of, expr_path_of, expr_range_of, expr_raw_addr_of, expr_reference_of, expr_repeat_of, expr_return_of, expr_struct_of, expr_try_block_of, expr_try_of, expr_tuple_of, expr_unary_of, expr_unsafe_of, expr_while_of, expr_yield_of, for_loop_layer, for_loop_of, for_loop_step, guard_layer, guard_of, guard_step, pat_const_of, pat_ident_of, pat_layer, pat_lit_of, pat_macro_of, pat_of, pat_or_of, pat_paren_of, pat_path_of, pat_range_of, pat_reference_of, pat_rest_of, pat_slice_of, pat_step, pat_struct_of, pat_tuple_of, pat_tuple_struct_of, pat_type_of, pat_wild_of, tree_layer, tree_of, tree_step, views}
use Rattle.syn_lower_spec.specs.Tree.{ReturnTree, default, given}
use Rattle.syn_expr_spec.specs.declared.kinds.Limits.{Limits}
use Rattle.syn_expr_ast.specs.Node.{leaf_at, is_paren, prefix_at, operator_at, postfix_at, trailer_at, frame_at}
use Rattle.syn_expr_ast.specs.Pats.{closure_by}
use Rattle.syn_expr_ast.specs.View.{range_between, jump_with}
use Rattle.syn_expr_ast.proofs.Shapes.{leaf-attributed_with, paren-attributed_with, prefixed-attributed_with, operator-attributed_with, postfixed-attributed_with, trailer-attributed_with, frame-attributed_with}

tree_map : (l : Expr-F Expr Pat ExprClosure Arm ExprForLoop ExprLet ExprMatch PatGuard) → tree_step (map-Expr Expr Pat ExprClosure Arm ExprForLoop ExprLet ExprMatch PatGuard Tree PatView Tree ArmView Tree Tree Tree PatView tree_of pat_of closure_of arm_of for_loop_of let_of match_of guard_of l) ≡ tree_layer views l
unfolding values trails
tree_map (Expr-F.Array x) = search (rules, map-map, map-append)
tree_map (Expr-F.Assign x) = refl
tree_map (Expr-F.Async x) = refl
tree_map (Expr-F.Await x) = refl
tree_map (Expr-F.Binary x) = refl
tree_map (Expr-F.Block x) = refl
tree_map (Expr-F.Break x) = search (rules, map-map, map-append)
tree_map (Expr-F.Call x) = search (rules, map-map, map-append)
tree_map (Expr-F.Cast x) = refl
tree_map (Expr-F.Closure x) = refl
tree_map (Expr-F.Expr::Const x) = refl
tree_map (Expr-F.Continue x) = refl
tree_map (Expr-F.Field x) = refl
tree_map (Expr-F.ForLoop x) = refl
tree_map (Expr-F.Group x) = refl
tree_map (Expr-F.If x) = search (rules, map-map, map-append)
tree_map (Expr-F.Index x) = refl
tree_map (Expr-F.Infer x) = refl
tree_map (Expr-F.Let x) = refl
tree_map (Expr-F.Expr::Lit x) = refl
tree_map (Expr-F.Loop x) = refl
tree_map (Expr-F.Expr::Macro x) = refl
tree_map (Expr-F.Match x) = refl
tree_map (Expr-F.MethodCall x) = search (rules, map-map, map-append)
tree_map (Expr-F.Expr::Paren x) = refl
tree_map (Expr-F.Expr::Path x) = refl
tree_map (Expr-F.Expr::Range x) = search (rules, map-map, map-append)
tree_map (Expr-F.RawAddr x) = refl
tree_map (Expr-F.Expr::Reference x) = refl
tree_map (Expr-F.Repeat x) = refl
tree_map (Expr-F.Return x) = search (rules, map-map, map-append)
tree_map (Expr-F.Expr::Struct x) = search (rules, map-map, map-append)
tree_map (Expr-F.Try x) = refl
tree_map (Expr-F.TryBlock x) = refl
tree_map (Expr-F.Expr::Tuple x) = search (rules, map-map, map-append)
tree_map (Expr-F.Unary x) = refl
tree_map (Expr-F.Unsafe x) = refl
tree_map (Expr-F.While x) = refl
tree_map (Expr-F.Yield x) = search (rules, map-map, map-append)
tree_map (Expr-F.Verbatim x) = refl

pub tree_out : (x : Expr) → tree_of x ≡ tree_layer views (out-Expr x)
unfolding tree_of pat_of closure_of arm_of for_loop_of let_of match_of guard_of
tree_out x = fold_out-Expr Tree PatView Tree ArmView Tree Tree Tree PatView tree_step pat_step closure_step arm_step for_loop_step let_step match_step guard_step x ∙ tree_map (out-Expr x)

-- ---- the fields of a struct pattern
--
-- A fold goes into them by maps that are written for each place where a list, an option or an enum stands. What is shown of
-- each is the same after its map, from the inside out.

abbrev SeesField : (FieldPatKindOf Pat → FieldPatKindOf PatView) → Type 0
SeesField m = (x : FieldPatKindOf Pat) → (field_of (λ v. v) (m x) ≡ field_of pat_of x) × (field_guards (λ v. v) (m x) ≡ field_guards pat_of x)

field-10 : SeesField (shapes.former-Pat-Struct-0-at-10.map Pat PatView pat_of)
field-10 = elim [ field.Short x ↦ (refl, refl) | field.Full x ↦ (refl, refl) ]

field-22 : SeesField (shapes.former-Pat-Struct-0-at-22.map Pat PatView pat_of)
field-22 = elim [ field.Short x ↦ (refl, refl) | field.Full x ↦ (refl, refl) ]

-- what is shown of the last value is the same
abbrev SameLast : {A B C S : Type 0} → (A → C) → (B → C) → (A → List S) → (B → List S) → Option (Box A Global) → Option (Box B Global) → Type 0
SameLast f g h k o o' = (map g (last_of o') ≡ map f (last_of o)) × (flat_map k (last_of o') ≡ flat_map h (last_of o)) × (is_some o' ≡ is_some o)

abbrev SeesLast : (Option (Box (FieldPatOf Pat) Global) → Option (Box (FieldPatOf PatView) Global)) → Type 0
SeesLast m =
    (o : Option (Box (FieldPatOf Pat) Global))
    → SameLast (field_pat_of pat_of) (field_pat_of (λ v. v)) (λ y. field_guards pat_of y.kind) (λ y. field_guards (λ v. v) y.kind) o (m o)

last-25 : SeesLast (shapes.former-Pat-Struct-0-at-25.map Pat PatView pat_of)
last-25 = elim [ None ↦ (refl, refl, refl) | Some b ↦ (ap (λ x. record { attrs = attributes_of b.value.attrs; field = x } ∷ []) (field-22 b.value.kind).0, ap (λ gs. gs ++ []) (field-22 b.value.kind).1, refl) ]

list_same : {A B C P : Type 0} (f : A → C) (g : B → C) (m : A × P → B × P) → ((q : A × P) → g (m q).0 ≡ f q.0) → (xs : List (A × P)) → map g (map (λ q. q.0) (map m xs)) ≡ map f (map (λ q. q.0) xs)
list_same f g m h [] = refl
list_same f g m h (x ∷ xs) = let a = h x in let r = list_same f g m h xs in cc

guards_same : {A B S P : Type 0} (f : A → List S) (g : B → List S) (m : A × P → B × P) → ((q : A × P) → g (m q).0 ≡ f q.0) → (xs : List (A × P)) → flat_map g (map (λ q. q.0) (map m xs)) ≡ flat_map f (map (λ q. q.0) xs)
guards_same f g m h [] = refl
guards_same f g m h (x ∷ xs) = let a = h x in let r = guards_same f g m h xs in cc

pub pairs_same : {A B : Type 0} (m : A → B) (xs : List A) → is_some_pair (map m xs) ≡ is_some_pair xs
pairs_same m [] = refl
pairs_same m (x ∷ xs) = refl

fields_same : {A B C D S P : Type 0} (f : A → C) (g : B → C) (h : A → List S) (k : B → List S) (m : A × P → B × P) (show : List C → Bool → List S → D)
    → ((q : A × P) → g (m q).0 ≡ f q.0) → ((q : A × P) → k (m q).0 ≡ h q.0) → (xs : List (A × P)) (o : Option (Box A Global)) (o' : Option (Box B Global)) → SameLast f g h k o o'
    → show (map g (map (λ q. q.0) (map m xs) ++ last_of o')) (is_some_pair (map m xs) && not (is_some o')) (flat_map k (map (λ q. q.0) (map m xs) ++ last_of o'))
    ≡ show (map f (map (λ q. q.0) xs ++ last_of o)) (is_some_pair xs && not (is_some o)) (flat_map h (map (λ q. q.0) xs ++ last_of o))
fields_same f g h k m show sees_values sees_guards xs o o' s =
    let v = list_same f g m sees_values xs in
    let w = guards_same h k m sees_guards xs in
    let e = pairs_same m xs in
    let a = map-append g (map (λ q. q.0) (map m xs)) (last_of o') in
    let b = map-append f (map (λ q. q.0) xs) (last_of o) in
    let c = flat_map-append k (map (λ q. q.0) (map m xs)) (last_of o') in
    let d = flat_map-append h (map (λ q. q.0) xs) (last_of o) in
    let s0 = s.0 in let s1 = s.1 in let s2 = s.2 in
    cc

pat_map : (l : Pat-F Expr Pat ExprClosure Arm ExprForLoop ExprLet ExprMatch PatGuard) → pat_step (map-Pat Expr Pat ExprClosure Arm ExprForLoop ExprLet ExprMatch PatGuard Tree PatView Tree ArmView Tree Tree Tree PatView tree_of pat_of closure_of arm_of for_loop_of let_of match_of guard_of l) ≡ pat_layer views l
unfolding values trails
pat_map (Pat-F.Pat::Const x) = refl
pat_map (Pat-F.Ident x) = search (rules, map-map, map-append, flat_map-map, flat_map-append)
pat_map (Pat-F.Pat::Lit x) = refl
pat_map (Pat-F.Pat::Macro x) = refl
pat_map (Pat-F.Or x) = search (rules, map-map, map-append, flat_map-map, flat_map-append)
pat_map (Pat-F.Pat::Paren x) = refl
pat_map (Pat-F.Pat::Path x) = refl
pat_map (Pat-F.Pat::Range x) = refl
pat_map (Pat-F.Pat::Reference x) = refl
pat_map (Pat-F.Rest x) = refl
pat_map (Pat-F.Slice x) = search (rules, map-map, map-append, flat_map-map, flat_map-append)
pat_map (Pat-F.Pat::Struct x) =
    fields_same (field_pat_of pat_of) (field_pat_of (λ v. v)) (λ y. field_guards pat_of y.kind) (λ y. field_guards (λ v. v) y.kind) _
    (λ fs e gs. view_with x.attrs (t.a_struct (path_of type_of x.path) (t.fields_of fs) e (is_some x.rest)) gs)
    (λ q. ap (λ k. record { attrs = attributes_of q.0.attrs; field = k }) (field-10 q.0.kind).0) (λ q. (field-10 q.0.kind).1)
    x.fields.inner.items x.fields.last _ (last-25 x.fields.last)
pat_map (Pat-F.Pat::Tuple x) = search (rules, map-map, map-append, flat_map-map, flat_map-append)
pat_map (Pat-F.TupleStruct x) = search (rules, map-map, map-append, flat_map-map, flat_map-append)
pat_map (Pat-F.Typed x) = refl
pat_map (Pat-F.Wild x) = refl
pat_map (Pat-F.Guard x) = refl

pub pat_out : (x : Pat) → pat_of x ≡ pat_layer views (out-Pat x)
unfolding tree_of pat_of closure_of arm_of for_loop_of let_of match_of guard_of
pat_out x = fold_out-Pat Tree PatView Tree ArmView Tree Tree Tree PatView tree_step pat_step closure_step arm_step for_loop_step let_step match_step guard_step x ∙ pat_map (out-Pat x)

closure_map : (l : ExprClosure-F Expr Pat ExprClosure Arm ExprForLoop ExprLet ExprMatch PatGuard) → closure_step (map-ExprClosure Expr Pat ExprClosure Arm ExprForLoop ExprLet ExprMatch PatGuard Tree PatView Tree ArmView Tree Tree Tree PatView tree_of pat_of closure_of arm_of for_loop_of let_of match_of guard_of l) ≡ closure_layer views l
unfolding values trails
closure_map x = search (rules, map-map, map-append, flat_map-map, flat_map-append)

pub closure-is : (x : ExprClosure) → closure_of x ≡ closure_layer views (out-ExprClosure x)
unfolding tree_of pat_of closure_of arm_of for_loop_of let_of match_of guard_of
closure-is x = fold_out-ExprClosure Tree PatView Tree ArmView Tree Tree Tree PatView tree_step pat_step closure_step arm_step for_loop_step let_step match_step guard_step x ∙ closure_map (out-ExprClosure x)

arm_map : (l : Arm-F Expr Pat ExprClosure Arm ExprForLoop ExprLet ExprMatch PatGuard) → arm_step (map-Arm Expr Pat ExprClosure Arm ExprForLoop ExprLet ExprMatch PatGuard Tree PatView Tree ArmView Tree Tree Tree PatView tree_of pat_of closure_of arm_of for_loop_of let_of match_of guard_of l) ≡ arm_layer views l
unfolding values trails
arm_map x = refl

pub arm-is : (x : Arm) → arm_of x ≡ arm_layer views (out-Arm x)
unfolding tree_of pat_of closure_of arm_of for_loop_of let_of match_of guard_of
arm-is x = fold_out-Arm Tree PatView Tree ArmView Tree Tree Tree PatView tree_step pat_step closure_step arm_step for_loop_step let_step match_step guard_step x ∙ arm_map (out-Arm x)

for_loop_map : (l : ExprForLoop-F Expr Pat ExprClosure Arm ExprForLoop ExprLet ExprMatch PatGuard) → for_loop_step (map-ExprForLoop Expr Pat ExprClosure Arm ExprForLoop ExprLet ExprMatch PatGuard Tree PatView Tree ArmView Tree Tree Tree PatView tree_of pat_of closure_of arm_of for_loop_of let_of match_of guard_of l) ≡ for_loop_layer views l
unfolding values trails
for_loop_map x = refl

pub for_loop-is : (x : ExprForLoop) → for_loop_of x ≡ for_loop_layer views (out-ExprForLoop x)
unfolding tree_of pat_of closure_of arm_of for_loop_of let_of match_of guard_of
for_loop-is x = fold_out-ExprForLoop Tree PatView Tree ArmView Tree Tree Tree PatView tree_step pat_step closure_step arm_step for_loop_step let_step match_step guard_step x ∙ for_loop_map (out-ExprForLoop x)

let_map : (l : ExprLet-F Expr Pat ExprClosure Arm ExprForLoop ExprLet ExprMatch PatGuard) → let_step (map-ExprLet Expr Pat ExprClosure Arm ExprForLoop ExprLet ExprMatch PatGuard Tree PatView Tree ArmView Tree Tree Tree PatView tree_of pat_of closure_of arm_of for_loop_of let_of match_of guard_of l) ≡ let_layer views l
unfolding values trails
let_map x = refl

pub let_expr-is : (x : ExprLet) → let_of x ≡ let_layer views (out-ExprLet x)
unfolding tree_of pat_of closure_of arm_of for_loop_of let_of match_of guard_of
let_expr-is x = fold_out-ExprLet Tree PatView Tree ArmView Tree Tree Tree PatView tree_step pat_step closure_step arm_step for_loop_step let_step match_step guard_step x ∙ let_map (out-ExprLet x)

match_map : (l : ExprMatch-F Expr Pat ExprClosure Arm ExprForLoop ExprLet ExprMatch PatGuard) → match_step (map-ExprMatch Expr Pat ExprClosure Arm ExprForLoop ExprLet ExprMatch PatGuard Tree PatView Tree ArmView Tree Tree Tree PatView tree_of pat_of closure_of arm_of for_loop_of let_of match_of guard_of l) ≡ match_layer views l
unfolding values trails
match_map x = search (rules, map-map)

pub match_expr-is : (x : ExprMatch) → match_of x ≡ match_layer views (out-ExprMatch x)
unfolding tree_of pat_of closure_of arm_of for_loop_of let_of match_of guard_of
match_expr-is x = fold_out-ExprMatch Tree PatView Tree ArmView Tree Tree Tree PatView tree_step pat_step closure_step arm_step for_loop_step let_step match_step guard_step x ∙ match_map (out-ExprMatch x)

guard_map : (l : PatGuard-F Expr Pat ExprClosure Arm ExprForLoop ExprLet ExprMatch PatGuard) → guard_step (map-PatGuard Expr Pat ExprClosure Arm ExprForLoop ExprLet ExprMatch PatGuard Tree PatView Tree ArmView Tree Tree Tree PatView tree_of pat_of closure_of arm_of for_loop_of let_of match_of guard_of l) ≡ guard_layer views l
unfolding values trails
guard_map x = refl

pub guard-is : (x : PatGuard) → guard_of x ≡ guard_layer views (out-PatGuard x)
unfolding tree_of pat_of closure_of arm_of for_loop_of let_of match_of guard_of
guard-is x = fold_out-PatGuard Tree PatView Tree ArmView Tree Tree Tree PatView tree_step pat_step closure_step arm_step for_loop_step let_step match_step guard_step x ∙ guard_map (out-PatGuard x)

-- ---- each kind of expression

pub tree-Array : (x : ExprArrayOf Expr) → tree_of (ex.Array x) ≡ expr_array_of tree_of x
tree-Array x = tree_out (ex.Array x) ∙ ap (tree_layer views) (ex.outs-Array x)

pub tree-Assign : (x : ExprAssignOf Expr) → tree_of (ex.Assign x) ≡ expr_assign_of tree_of x
tree-Assign x = tree_out (ex.Assign x) ∙ ap (tree_layer views) (ex.outs-Assign x)

pub tree-Async : (x : ExprAsync) → tree_of (ex.Async x) ≡ expr_async_of x
tree-Async x = tree_out (ex.Async x) ∙ ap (tree_layer views) (ex.outs-Async x)

pub tree-Await : (x : ExprAwaitOf Expr) → tree_of (ex.Await x) ≡ expr_await_of tree_of x
tree-Await x = tree_out (ex.Await x) ∙ ap (tree_layer views) (ex.outs-Await x)

pub tree-Binary : (x : ExprBinaryOf Expr) → tree_of (ex.Binary x) ≡ expr_binary_of tree_of x
tree-Binary x = tree_out (ex.Binary x) ∙ ap (tree_layer views) (ex.outs-Binary x)

pub tree-Block : (x : ExprBlock) → tree_of (ex.Block x) ≡ expr_block_of x
tree-Block x = tree_out (ex.Block x) ∙ ap (tree_layer views) (ex.outs-Block x)

pub tree-Break : (x : ExprBreakOf Expr) → tree_of (ex.Break x) ≡ expr_break_of tree_of x
tree-Break x = tree_out (ex.Break x) ∙ ap (tree_layer views) (ex.outs-Break x)

pub tree-Call : (x : ExprCallOf Expr) → tree_of (ex.Call x) ≡ expr_call_of tree_of x
tree-Call x = tree_out (ex.Call x) ∙ ap (tree_layer views) (ex.outs-Call x)

pub tree-Cast : (x : ExprCastOf Expr) → tree_of (ex.Cast x) ≡ expr_cast_of tree_of x
tree-Cast x = tree_out (ex.Cast x) ∙ ap (tree_layer views) (ex.outs-Cast x)

pub tree-Closure : (x : ExprClosure) → tree_of (ex.Closure x) ≡ closure_of x
tree-Closure x = tree_out (ex.Closure x) ∙ ap (tree_layer views) (ex.outs-Closure x)

pub tree-Const : (x : ExprConst) → tree_of (ex.Const x) ≡ expr_const_of x
tree-Const x = tree_out (ex.Const x) ∙ ap (tree_layer views) (ex.outs-Const x)

pub tree-Continue : (x : ExprContinue) → tree_of (ex.Continue x) ≡ expr_continue_of x
tree-Continue x = tree_out (ex.Continue x) ∙ ap (tree_layer views) (ex.outs-Continue x)

pub tree-Field : (x : ExprFieldOf Expr) → tree_of (ex.Field x) ≡ expr_field_of tree_of x
tree-Field x = tree_out (ex.Field x) ∙ ap (tree_layer views) (ex.outs-Field x)

pub tree-ForLoop : (x : ExprForLoop) → tree_of (ex.ForLoop x) ≡ for_loop_of x
tree-ForLoop x = tree_out (ex.ForLoop x) ∙ ap (tree_layer views) (ex.outs-ForLoop x)

pub tree-Group : (x : ExprGroupOf Expr) → tree_of (ex.Group x) ≡ expr_group_of tree_of x
tree-Group x = tree_out (ex.Group x) ∙ ap (tree_layer views) (ex.outs-Group x)

pub tree-If : (x : ExprIfOf Expr) → tree_of (ex.If x) ≡ expr_if_of tree_of x
tree-If x = tree_out (ex.If x) ∙ ap (tree_layer views) (ex.outs-If x)

pub tree-Index : (x : ExprIndexOf Expr) → tree_of (ex.Index x) ≡ expr_index_of tree_of x
tree-Index x = tree_out (ex.Index x) ∙ ap (tree_layer views) (ex.outs-Index x)

pub tree-Infer : (x : ExprInfer) → tree_of (ex.Infer x) ≡ expr_infer_of x
tree-Infer x = tree_out (ex.Infer x) ∙ ap (tree_layer views) (ex.outs-Infer x)

pub tree-Let : (x : ExprLet) → tree_of (ex.Let x) ≡ let_of x
tree-Let x = tree_out (ex.Let x) ∙ ap (tree_layer views) (ex.outs-Let x)

pub tree-Lit : (x : ExprLit) → tree_of (ex.Lit x) ≡ expr_lit_of x
tree-Lit x = tree_out (ex.Lit x) ∙ ap (tree_layer views) (ex.outs-Lit x)

pub tree-Loop : (x : ExprLoop) → tree_of (ex.Loop x) ≡ expr_loop_of x
tree-Loop x = tree_out (ex.Loop x) ∙ ap (tree_layer views) (ex.outs-Loop x)

pub tree-Macro : (x : ExprMacro) → tree_of (ex.Macro x) ≡ expr_macro_of x
tree-Macro x = tree_out (ex.Macro x) ∙ ap (tree_layer views) (ex.outs-Macro x)

pub tree-Match : (x : ExprMatch) → tree_of (ex.Match x) ≡ match_of x
tree-Match x = tree_out (ex.Match x) ∙ ap (tree_layer views) (ex.outs-Match x)

pub tree-MethodCall : (x : ExprMethodCallOf Expr) → tree_of (ex.MethodCall x) ≡ expr_method_call_of tree_of x
tree-MethodCall x = tree_out (ex.MethodCall x) ∙ ap (tree_layer views) (ex.outs-MethodCall x)

pub tree-Paren : (x : ExprParenOf Expr) → tree_of (ex.Paren x) ≡ expr_paren_of tree_of x
tree-Paren x = tree_out (ex.Paren x) ∙ ap (tree_layer views) (ex.outs-Paren x)

pub tree-Path : (x : ExprPath) → tree_of (ex.Path x) ≡ expr_path_of x
tree-Path x = tree_out (ex.Path x) ∙ ap (tree_layer views) (ex.outs-Path x)

pub tree-Range : (x : ExprRangeOf Expr) → tree_of (ex.Range x) ≡ expr_range_of tree_of x
tree-Range x = tree_out (ex.Range x) ∙ ap (tree_layer views) (ex.outs-Range x)

pub tree-RawAddr : (x : ExprRawAddrOf Expr) → tree_of (ex.RawAddr x) ≡ expr_raw_addr_of tree_of x
tree-RawAddr x = tree_out (ex.RawAddr x) ∙ ap (tree_layer views) (ex.outs-RawAddr x)

pub tree-Reference : (x : ExprReferenceOf Expr) → tree_of (ex.Reference x) ≡ expr_reference_of tree_of x
tree-Reference x = tree_out (ex.Reference x) ∙ ap (tree_layer views) (ex.outs-Reference x)

pub tree-Repeat : (x : ExprRepeatOf Expr) → tree_of (ex.Repeat x) ≡ expr_repeat_of tree_of x
tree-Repeat x = tree_out (ex.Repeat x) ∙ ap (tree_layer views) (ex.outs-Repeat x)

pub tree-Return : (x : ExprReturnOf Expr) → tree_of (ex.Return x) ≡ expr_return_of tree_of x
tree-Return x = tree_out (ex.Return x) ∙ ap (tree_layer views) (ex.outs-Return x)

pub tree-Struct : (x : ExprStructOf Expr) → tree_of (ex.Struct x) ≡ expr_struct_of tree_of x
tree-Struct x = tree_out (ex.Struct x) ∙ ap (tree_layer views) (ex.outs-Struct x)

pub tree-Try : (x : ExprTryOf Expr) → tree_of (ex.Try x) ≡ expr_try_of tree_of x
tree-Try x = tree_out (ex.Try x) ∙ ap (tree_layer views) (ex.outs-Try x)

pub tree-TryBlock : (x : ExprTryBlock) → tree_of (ex.TryBlock x) ≡ expr_try_block_of x
tree-TryBlock x = tree_out (ex.TryBlock x) ∙ ap (tree_layer views) (ex.outs-TryBlock x)

pub tree-Tuple : (x : ExprTupleOf Expr) → tree_of (ex.Tuple x) ≡ expr_tuple_of tree_of x
tree-Tuple x = tree_out (ex.Tuple x) ∙ ap (tree_layer views) (ex.outs-Tuple x)

pub tree-Unary : (x : ExprUnaryOf Expr) → tree_of (ex.Unary x) ≡ expr_unary_of tree_of x
tree-Unary x = tree_out (ex.Unary x) ∙ ap (tree_layer views) (ex.outs-Unary x)

pub tree-Unsafe : (x : ExprUnsafe) → tree_of (ex.Unsafe x) ≡ expr_unsafe_of x
tree-Unsafe x = tree_out (ex.Unsafe x) ∙ ap (tree_layer views) (ex.outs-Unsafe x)

pub tree-While : (x : ExprWhileOf Expr) → tree_of (ex.While x) ≡ expr_while_of tree_of x
tree-While x = tree_out (ex.While x) ∙ ap (tree_layer views) (ex.outs-While x)

pub tree-Yield : (x : ExprYieldOf Expr) → tree_of (ex.Yield x) ≡ expr_yield_of tree_of x
tree-Yield x = tree_out (ex.Yield x) ∙ ap (tree_layer views) (ex.outs-Yield x)

pub tree-Verbatim : (x : List Tok) → tree_of (ex.Verbatim x) ≡ leaf (verbatim x)
tree-Verbatim x = tree_out (ex.Verbatim x) ∙ ap (tree_layer views) (ex.outs-Verbatim x)

pub ruleset kinds = (tree-Array, tree-Assign, tree-Async, tree-Await, tree-Binary, tree-Block, tree-Break, tree-Call, tree-Cast, tree-Closure, tree-Const, tree-Continue, tree-Field, tree-ForLoop, tree-Group, tree-If, tree-Index, tree-Infer, tree-Let, tree-Lit, tree-Loop, tree-Macro, tree-Match, tree-MethodCall, tree-Paren, tree-Path, tree-Range, tree-RawAddr, tree-Reference, tree-Repeat, tree-Return, tree-Struct, tree-Try, tree-TryBlock, tree-Tuple, tree-Unary, tree-Unsafe, tree-While, tree-Yield, tree-Verbatim)

-- ---- each kind of pattern

pub pat-Const : (x : PatConst) → pat_of (pt.Const x) ≡ pat_const_of x
pat-Const x = pat_out (pt.Const x) ∙ ap (pat_layer views) (pt.outs-Const x)

pub pat-Ident : (x : PatIdentOf Pat) → pat_of (pt.Ident x) ≡ pat_ident_of pat_of x
pat-Ident x = pat_out (pt.Ident x) ∙ ap (pat_layer views) (pt.outs-Ident x)

pub pat-Lit : (x : PatLit) → pat_of (pt.Lit x) ≡ pat_lit_of x
pat-Lit x = pat_out (pt.Lit x) ∙ ap (pat_layer views) (pt.outs-Lit x)

pub pat-Macro : (x : PatMacro) → pat_of (pt.Macro x) ≡ pat_macro_of x
pat-Macro x = pat_out (pt.Macro x) ∙ ap (pat_layer views) (pt.outs-Macro x)

pub pat-Or : (x : PatOrOf Pat) → pat_of (pt.Or x) ≡ pat_or_of pat_of x
pat-Or x = pat_out (pt.Or x) ∙ ap (pat_layer views) (pt.outs-Or x)

pub pat-Paren : (x : PatParenOf Pat) → pat_of (pt.Paren x) ≡ pat_paren_of pat_of x
pat-Paren x = pat_out (pt.Paren x) ∙ ap (pat_layer views) (pt.outs-Paren x)

pub pat-Path : (x : PatPath) → pat_of (pt.Path x) ≡ pat_path_of x
pat-Path x = pat_out (pt.Path x) ∙ ap (pat_layer views) (pt.outs-Path x)

pub pat-Range : (x : PatRange) → pat_of (pt.Range x) ≡ pat_range_of x
pat-Range x = pat_out (pt.Range x) ∙ ap (pat_layer views) (pt.outs-Range x)

pub pat-Reference : (x : PatReferenceOf Pat) → pat_of (pt.Reference x) ≡ pat_reference_of pat_of x
pat-Reference x = pat_out (pt.Reference x) ∙ ap (pat_layer views) (pt.outs-Reference x)

pub pat-Rest : (x : PatRest) → pat_of (pt.Rest x) ≡ pat_rest_of x
pat-Rest x = pat_out (pt.Rest x) ∙ ap (pat_layer views) (pt.outs-Rest x)

pub pat-Slice : (x : PatSliceOf Pat) → pat_of (pt.Slice x) ≡ pat_slice_of pat_of x
pat-Slice x = pat_out (pt.Slice x) ∙ ap (pat_layer views) (pt.outs-Slice x)

pub pat-Struct : (x : PatStructOf Pat) → pat_of (pt.Struct x) ≡ pat_struct_of pat_of x
pat-Struct x = pat_out (pt.Struct x) ∙ ap (pat_layer views) (pt.outs-Struct x)

pub pat-Tuple : (x : PatTupleOf Pat) → pat_of (pt.Tuple x) ≡ pat_tuple_of pat_of x
pat-Tuple x = pat_out (pt.Tuple x) ∙ ap (pat_layer views) (pt.outs-Tuple x)

pub pat-TupleStruct : (x : PatTupleStructOf Pat) → pat_of (pt.TupleStruct x) ≡ pat_tuple_struct_of pat_of x
pat-TupleStruct x = pat_out (pt.TupleStruct x) ∙ ap (pat_layer views) (pt.outs-TupleStruct x)

pub pat-Typed : (x : PatTypeOf Pat) → pat_of (pt.Typed x) ≡ pat_type_of pat_of x
pat-Typed x = pat_out (pt.Typed x) ∙ ap (pat_layer views) (pt.outs-Typed x)

pub pat-Wild : (x : PatWild) → pat_of (pt.Wild x) ≡ pat_wild_of x
pat-Wild x = pat_out (pt.Wild x) ∙ ap (pat_layer views) (pt.outs-Wild x)

pub pat-Guard : (x : PatGuard) → pat_of (pt.Guard x) ≡ guard_of x
pat-Guard x = pat_out (pt.Guard x) ∙ ap (pat_layer views) (pt.outs-Guard x)

pub ruleset pats = (pat-Const, pat-Ident, pat-Lit, pat-Macro, pat-Or, pat-Paren, pat-Path, pat-Range, pat-Reference, pat-Rest, pat-Slice, pat-Struct, pat-Tuple, pat-TupleStruct, pat-Typed, pat-Wild, pat-Guard)

-- ---- those that hold both expressions and patterns

pub ruleset members = (closure-is, arm-is, for_loop-is, let_expr-is, match_expr-is, guard-is)

-- ---- an expression of no kind that has a shape has nothing of that shape

-- ---- kinds whose shape depends on what they hold

closure_no_leaf : (r : ReturnTree) (h : ClosureHead) (gs : List Tree) (t : Tree) → leaf_at (closure_by r h gs t) ≡ None
closure_no_leaf default h gs t = refl
closure_no_leaf (given ty) h gs t = refl

closure_no_paren : (r : ReturnTree) (h : ClosureHead) (gs : List Tree) (t : Tree) → is_paren (closure_by r h gs t) ≡ false
closure_no_paren default h gs t = refl
closure_no_paren (given ty) h gs t = refl

range_no_paren : (op : Limits) (x y : Option Tree) → is_paren (range_between op x y) ≡ false
range_no_paren op None None = refl
range_no_paren op None (Some y) = refl
range_no_paren op (Some x) None = refl
range_no_paren op (Some x) (Some y) = refl

jump_no_paren : (j : Jump) (x : Option Tree) → is_paren (jump_with j x) ≡ false
jump_no_paren j None = refl
jump_no_paren j (Some x) = refl

closure_no_operator : (r : ReturnTree) (h : ClosureHead) (gs : List Tree) (t : Tree) → operator_at (closure_by r h gs t) ≡ None
closure_no_operator default h gs t = refl
closure_no_operator (given ty) h gs t = refl

jump_no_operator : (j : Jump) (x : Option Tree) → operator_at (jump_with j x) ≡ None
jump_no_operator j None = refl
jump_no_operator j (Some x) = refl

closure_no_postfix : (r : ReturnTree) (h : ClosureHead) (gs : List Tree) (t : Tree) → postfix_at (closure_by r h gs t) ≡ None
closure_no_postfix default h gs t = refl
closure_no_postfix (given ty) h gs t = refl

jump_no_postfix : (j : Jump) (x : Option Tree) → postfix_at (jump_with j x) ≡ None
jump_no_postfix j None = refl
jump_no_postfix j (Some x) = refl

closure_no_trailer : (r : ReturnTree) (h : ClosureHead) (gs : List Tree) (t : Tree) → trailer_at (closure_by r h gs t) ≡ None
closure_no_trailer default h gs t = refl
closure_no_trailer (given ty) h gs t = refl

range_no_trailer : (op : Limits) (x y : Option Tree) → trailer_at (range_between op x y) ≡ None
range_no_trailer op None None = refl
range_no_trailer op None (Some y) = refl
range_no_trailer op (Some x) None = refl
range_no_trailer op (Some x) (Some y) = refl

jump_no_trailer : (j : Jump) (x : Option Tree) → trailer_at (jump_with j x) ≡ None
jump_no_trailer j None = refl
jump_no_trailer j (Some x) = refl

range_no_frame : (op : Limits) (x y : Option Tree) → frame_at (range_between op x y) ≡ None
range_no_frame op None None = refl
range_no_frame op None (Some y) = refl
range_no_frame op (Some x) None = refl
range_no_frame op (Some x) (Some y) = refl

jump_no_frame : (j : Jump) (x : Option Tree) → frame_at (jump_with j x) ≡ None
jump_no_frame j None = refl
jump_no_frame j (Some x) = refl

-- ---- each shape

pub no-leaf : (x : Expr)
    → ((y : ExprAsync) → x ≡ ex.Async y → ⊥)
    → ((y : ExprBlock) → x ≡ ex.Block y → ⊥)
    → ((y : ExprBreakOf Expr) → x ≡ ex.Break y → ⊥)
    → ((y : ExprConst) → x ≡ ex.Const y → ⊥)
    → ((y : ExprContinue) → x ≡ ex.Continue y → ⊥)
    → ((y : ExprInfer) → x ≡ ex.Infer y → ⊥)
    → ((y : ExprLit) → x ≡ ex.Lit y → ⊥)
    → ((y : ExprLoop) → x ≡ ex.Loop y → ⊥)
    → ((y : ExprMacro) → x ≡ ex.Macro y → ⊥)
    → ((y : ExprPath) → x ≡ ex.Path y → ⊥)
    → ((y : ExprRangeOf Expr) → x ≡ ex.Range y → ⊥)
    → ((y : ExprReturnOf Expr) → x ≡ ex.Return y → ⊥)
    → ((y : ExprTryBlock) → x ≡ ex.TryBlock y → ⊥)
    → ((y : ExprUnsafe) → x ≡ ex.Unsafe y → ⊥)
    → ((y : List Tok) → x ≡ ex.Verbatim y → ⊥)
    → ((y : ExprYieldOf Expr) → x ≡ ex.Yield y → ⊥)
    → leaf_at (tree_of x) ≡ None
no-leaf x not_async not_block not_break not_const not_continue not_infer not_lit not_loop not_macro not_path not_range not_return not_try_block not_unsafe not_verbatim not_yield =
    ap leaf_at (tree_out x) ∙ elim (out-Expr x) as (λ l. roll-Expr l ≡ x → leaf_at (tree_layer views l) ≡ None) [
      | Expr-F.Async y ↦ λ r. absurd (not_async y (sym r ∙ ex.rolls-Async y))
      | Expr-F.Block y ↦ λ r. absurd (not_block y (sym r ∙ ex.rolls-Block y))
      | Expr-F.Break y ↦ λ r. absurd (not_break y (sym r ∙ ex.rolls-Break y))
      | Expr-F.Expr::Const y ↦ λ r. absurd (not_const y (sym r ∙ ex.rolls-Const y))
      | Expr-F.Continue y ↦ λ r. absurd (not_continue y (sym r ∙ ex.rolls-Continue y))
      | Expr-F.Infer y ↦ λ r. absurd (not_infer y (sym r ∙ ex.rolls-Infer y))
      | Expr-F.Expr::Lit y ↦ λ r. absurd (not_lit y (sym r ∙ ex.rolls-Lit y))
      | Expr-F.Loop y ↦ λ r. absurd (not_loop y (sym r ∙ ex.rolls-Loop y))
      | Expr-F.Expr::Macro y ↦ λ r. absurd (not_macro y (sym r ∙ ex.rolls-Macro y))
      | Expr-F.Expr::Path y ↦ λ r. absurd (not_path y (sym r ∙ ex.rolls-Path y))
      | Expr-F.Expr::Range y ↦ λ r. absurd (not_range y (sym r ∙ ex.rolls-Range y))
      | Expr-F.Return y ↦ λ r. absurd (not_return y (sym r ∙ ex.rolls-Return y))
      | Expr-F.TryBlock y ↦ λ r. absurd (not_try_block y (sym r ∙ ex.rolls-TryBlock y))
      | Expr-F.Unsafe y ↦ λ r. absurd (not_unsafe y (sym r ∙ ex.rolls-Unsafe y))
      | Expr-F.Verbatim y ↦ λ r. absurd (not_verbatim y (sym r ∙ ex.rolls-Verbatim y))
      | Expr-F.Yield y ↦ λ r. absurd (not_yield y (sym r ∙ ex.rolls-Yield y))
      | Expr-F.Closure y ↦ λ r. ap leaf_at (closure-is y) ∙ search (rules, leaf-attributed_with, closure_no_leaf)
      | Expr-F.ForLoop y ↦ λ r. ap leaf_at (for_loop-is y) ∙ search (rules, leaf-attributed_with)
      | Expr-F.Let y ↦ λ r. ap leaf_at (let_expr-is y) ∙ search (rules, leaf-attributed_with)
      | Expr-F.Match y ↦ λ r. ap leaf_at (match_expr-is y) ∙ search (rules, leaf-attributed_with)
      | _ ↦ λ r. search (rules, leaf-attributed_with)
    ] (roll-out-Expr x)

pub no-paren : (x : Expr)
    → ((y : ExprParenOf Expr) → x ≡ ex.Paren y → ⊥)
    → is_paren (tree_of x) ≡ false
no-paren x not_paren =
    ap is_paren (tree_out x) ∙ elim (out-Expr x) as (λ l. roll-Expr l ≡ x → is_paren (tree_layer views l) ≡ false) [
      | Expr-F.Expr::Paren y ↦ λ r. absurd (not_paren y (sym r ∙ ex.rolls-Paren y))
      | Expr-F.Closure y ↦ λ r. ap is_paren (closure-is y) ∙ search (rules, paren-attributed_with, closure_no_paren)
      | Expr-F.ForLoop y ↦ λ r. ap is_paren (for_loop-is y) ∙ search (rules, paren-attributed_with)
      | Expr-F.Let y ↦ λ r. ap is_paren (let_expr-is y) ∙ search (rules, paren-attributed_with)
      | Expr-F.Match y ↦ λ r. ap is_paren (match_expr-is y) ∙ search (rules, paren-attributed_with)
      | Expr-F.Expr::Range y ↦ λ r. search (rules, paren-attributed_with, range_no_paren)
      | Expr-F.Break y ↦ λ r. search (rules, paren-attributed_with, jump_no_paren)
      | Expr-F.Return y ↦ λ r. search (rules, paren-attributed_with, jump_no_paren)
      | Expr-F.Yield y ↦ λ r. search (rules, paren-attributed_with, jump_no_paren)
      | Expr-F.Verbatim y ↦ λ r. refl
      | _ ↦ λ r. search (rules, paren-attributed_with)
    ] (roll-out-Expr x)

pub no-prefixed : (x : Expr)
    → ((y : ExprBreakOf Expr) → x ≡ ex.Break y → ⊥)
    → ((y : ExprClosure) → x ≡ ex.Closure y → ⊥)
    → ((y : ExprLet) → x ≡ ex.Let y → ⊥)
    → ((y : ExprRangeOf Expr) → x ≡ ex.Range y → ⊥)
    → ((y : ExprRawAddrOf Expr) → x ≡ ex.RawAddr y → ⊥)
    → ((y : ExprReferenceOf Expr) → x ≡ ex.Reference y → ⊥)
    → ((y : ExprReturnOf Expr) → x ≡ ex.Return y → ⊥)
    → ((y : ExprUnaryOf Expr) → x ≡ ex.Unary y → ⊥)
    → ((y : ExprYieldOf Expr) → x ≡ ex.Yield y → ⊥)
    → prefix_at (tree_of x) ≡ None
no-prefixed x not_break not_closure not_let not_range not_raw_addr not_reference not_return not_unary not_yield =
    ap prefix_at (tree_out x) ∙ elim (out-Expr x) as (λ l. roll-Expr l ≡ x → prefix_at (tree_layer views l) ≡ None) [
      | Expr-F.Break y ↦ λ r. absurd (not_break y (sym r ∙ ex.rolls-Break y))
      | Expr-F.Closure y ↦ λ r. absurd (not_closure y (sym r ∙ ex.rolls-Closure y))
      | Expr-F.Let y ↦ λ r. absurd (not_let y (sym r ∙ ex.rolls-Let y))
      | Expr-F.Expr::Range y ↦ λ r. absurd (not_range y (sym r ∙ ex.rolls-Range y))
      | Expr-F.RawAddr y ↦ λ r. absurd (not_raw_addr y (sym r ∙ ex.rolls-RawAddr y))
      | Expr-F.Expr::Reference y ↦ λ r. absurd (not_reference y (sym r ∙ ex.rolls-Reference y))
      | Expr-F.Return y ↦ λ r. absurd (not_return y (sym r ∙ ex.rolls-Return y))
      | Expr-F.Unary y ↦ λ r. absurd (not_unary y (sym r ∙ ex.rolls-Unary y))
      | Expr-F.Yield y ↦ λ r. absurd (not_yield y (sym r ∙ ex.rolls-Yield y))
      | Expr-F.ForLoop y ↦ λ r. ap prefix_at (for_loop-is y) ∙ search (rules, prefixed-attributed_with)
      | Expr-F.Match y ↦ λ r. ap prefix_at (match_expr-is y) ∙ search (rules, prefixed-attributed_with)
      | Expr-F.Verbatim y ↦ λ r. refl
      | _ ↦ λ r. search (rules, prefixed-attributed_with)
    ] (roll-out-Expr x)

pub no-operator : (x : Expr)
    → ((y : ExprAssignOf Expr) → x ≡ ex.Assign y → ⊥)
    → ((y : ExprBinaryOf Expr) → x ≡ ex.Binary y → ⊥)
    → ((y : ExprRangeOf Expr) → x ≡ ex.Range y → ⊥)
    → operator_at (tree_of x) ≡ None
no-operator x not_assign not_binary not_range =
    ap operator_at (tree_out x) ∙ elim (out-Expr x) as (λ l. roll-Expr l ≡ x → operator_at (tree_layer views l) ≡ None) [
      | Expr-F.Assign y ↦ λ r. absurd (not_assign y (sym r ∙ ex.rolls-Assign y))
      | Expr-F.Binary y ↦ λ r. absurd (not_binary y (sym r ∙ ex.rolls-Binary y))
      | Expr-F.Expr::Range y ↦ λ r. absurd (not_range y (sym r ∙ ex.rolls-Range y))
      | Expr-F.Closure y ↦ λ r. ap operator_at (closure-is y) ∙ search (rules, operator-attributed_with, closure_no_operator)
      | Expr-F.ForLoop y ↦ λ r. ap operator_at (for_loop-is y) ∙ search (rules, operator-attributed_with)
      | Expr-F.Let y ↦ λ r. ap operator_at (let_expr-is y) ∙ search (rules, operator-attributed_with)
      | Expr-F.Match y ↦ λ r. ap operator_at (match_expr-is y) ∙ search (rules, operator-attributed_with)
      | Expr-F.Break y ↦ λ r. search (rules, operator-attributed_with, jump_no_operator)
      | Expr-F.Return y ↦ λ r. search (rules, operator-attributed_with, jump_no_operator)
      | Expr-F.Yield y ↦ λ r. search (rules, operator-attributed_with, jump_no_operator)
      | Expr-F.Verbatim y ↦ λ r. refl
      | _ ↦ λ r. search (rules, operator-attributed_with)
    ] (roll-out-Expr x)

pub no-postfixed : (x : Expr)
    → ((y : ExprCastOf Expr) → x ≡ ex.Cast y → ⊥)
    → ((y : ExprRangeOf Expr) → x ≡ ex.Range y → ⊥)
    → postfix_at (tree_of x) ≡ None
no-postfixed x not_cast not_range =
    ap postfix_at (tree_out x) ∙ elim (out-Expr x) as (λ l. roll-Expr l ≡ x → postfix_at (tree_layer views l) ≡ None) [
      | Expr-F.Cast y ↦ λ r. absurd (not_cast y (sym r ∙ ex.rolls-Cast y))
      | Expr-F.Expr::Range y ↦ λ r. absurd (not_range y (sym r ∙ ex.rolls-Range y))
      | Expr-F.Closure y ↦ λ r. ap postfix_at (closure-is y) ∙ search (rules, postfixed-attributed_with, closure_no_postfix)
      | Expr-F.ForLoop y ↦ λ r. ap postfix_at (for_loop-is y) ∙ search (rules, postfixed-attributed_with)
      | Expr-F.Let y ↦ λ r. ap postfix_at (let_expr-is y) ∙ search (rules, postfixed-attributed_with)
      | Expr-F.Match y ↦ λ r. ap postfix_at (match_expr-is y) ∙ search (rules, postfixed-attributed_with)
      | Expr-F.Break y ↦ λ r. search (rules, postfixed-attributed_with, jump_no_postfix)
      | Expr-F.Return y ↦ λ r. search (rules, postfixed-attributed_with, jump_no_postfix)
      | Expr-F.Yield y ↦ λ r. search (rules, postfixed-attributed_with, jump_no_postfix)
      | Expr-F.Verbatim y ↦ λ r. refl
      | _ ↦ λ r. search (rules, postfixed-attributed_with)
    ] (roll-out-Expr x)

pub no-trailer : (x : Expr)
    → ((y : ExprAwaitOf Expr) → x ≡ ex.Await y → ⊥)
    → ((y : ExprCallOf Expr) → x ≡ ex.Call y → ⊥)
    → ((y : ExprFieldOf Expr) → x ≡ ex.Field y → ⊥)
    → ((y : ExprIndexOf Expr) → x ≡ ex.Index y → ⊥)
    → ((y : ExprMethodCallOf Expr) → x ≡ ex.MethodCall y → ⊥)
    → ((y : ExprTryOf Expr) → x ≡ ex.Try y → ⊥)
    → trailer_at (tree_of x) ≡ None
no-trailer x not_await not_call not_field not_index not_method_call not_try =
    ap trailer_at (tree_out x) ∙ elim (out-Expr x) as (λ l. roll-Expr l ≡ x → trailer_at (tree_layer views l) ≡ None) [
      | Expr-F.Await y ↦ λ r. absurd (not_await y (sym r ∙ ex.rolls-Await y))
      | Expr-F.Call y ↦ λ r. absurd (not_call y (sym r ∙ ex.rolls-Call y))
      | Expr-F.Field y ↦ λ r. absurd (not_field y (sym r ∙ ex.rolls-Field y))
      | Expr-F.Index y ↦ λ r. absurd (not_index y (sym r ∙ ex.rolls-Index y))
      | Expr-F.MethodCall y ↦ λ r. absurd (not_method_call y (sym r ∙ ex.rolls-MethodCall y))
      | Expr-F.Try y ↦ λ r. absurd (not_try y (sym r ∙ ex.rolls-Try y))
      | Expr-F.Closure y ↦ λ r. ap trailer_at (closure-is y) ∙ search (rules, trailer-attributed_with, closure_no_trailer)
      | Expr-F.ForLoop y ↦ λ r. ap trailer_at (for_loop-is y) ∙ search (rules, trailer-attributed_with)
      | Expr-F.Let y ↦ λ r. ap trailer_at (let_expr-is y) ∙ search (rules, trailer-attributed_with)
      | Expr-F.Match y ↦ λ r. ap trailer_at (match_expr-is y) ∙ search (rules, trailer-attributed_with)
      | Expr-F.Expr::Range y ↦ λ r. search (rules, trailer-attributed_with, range_no_trailer)
      | Expr-F.Break y ↦ λ r. search (rules, trailer-attributed_with, jump_no_trailer)
      | Expr-F.Return y ↦ λ r. search (rules, trailer-attributed_with, jump_no_trailer)
      | Expr-F.Yield y ↦ λ r. search (rules, trailer-attributed_with, jump_no_trailer)
      | Expr-F.Verbatim y ↦ λ r. refl
      | _ ↦ λ r. search (rules, trailer-attributed_with)
    ] (roll-out-Expr x)

pub no-frame : (x : Expr)
    → ((y : ExprArrayOf Expr) → x ≡ ex.Array y → ⊥)
    → ((y : ExprClosure) → x ≡ ex.Closure y → ⊥)
    → ((y : ExprForLoop) → x ≡ ex.ForLoop y → ⊥)
    → ((y : ExprGroupOf Expr) → x ≡ ex.Group y → ⊥)
    → ((y : ExprIfOf Expr) → x ≡ ex.If y → ⊥)
    → ((y : ExprMatch) → x ≡ ex.Match y → ⊥)
    → ((y : ExprRepeatOf Expr) → x ≡ ex.Repeat y → ⊥)
    → ((y : ExprStructOf Expr) → x ≡ ex.Struct y → ⊥)
    → ((y : ExprTupleOf Expr) → x ≡ ex.Tuple y → ⊥)
    → ((y : ExprWhileOf Expr) → x ≡ ex.While y → ⊥)
    → frame_at (tree_of x) ≡ None
no-frame x not_array not_closure not_for_loop not_group not_if not_match not_repeat not_struct not_tuple not_while =
    ap frame_at (tree_out x) ∙ elim (out-Expr x) as (λ l. roll-Expr l ≡ x → frame_at (tree_layer views l) ≡ None) [
      | Expr-F.Array y ↦ λ r. absurd (not_array y (sym r ∙ ex.rolls-Array y))
      | Expr-F.Closure y ↦ λ r. absurd (not_closure y (sym r ∙ ex.rolls-Closure y))
      | Expr-F.ForLoop y ↦ λ r. absurd (not_for_loop y (sym r ∙ ex.rolls-ForLoop y))
      | Expr-F.Group y ↦ λ r. absurd (not_group y (sym r ∙ ex.rolls-Group y))
      | Expr-F.If y ↦ λ r. absurd (not_if y (sym r ∙ ex.rolls-If y))
      | Expr-F.Match y ↦ λ r. absurd (not_match y (sym r ∙ ex.rolls-Match y))
      | Expr-F.Repeat y ↦ λ r. absurd (not_repeat y (sym r ∙ ex.rolls-Repeat y))
      | Expr-F.Expr::Struct y ↦ λ r. absurd (not_struct y (sym r ∙ ex.rolls-Struct y))
      | Expr-F.Expr::Tuple y ↦ λ r. absurd (not_tuple y (sym r ∙ ex.rolls-Tuple y))
      | Expr-F.While y ↦ λ r. absurd (not_while y (sym r ∙ ex.rolls-While y))
      | Expr-F.Let y ↦ λ r. ap frame_at (let_expr-is y) ∙ search (rules, frame-attributed_with)
      | Expr-F.Expr::Range y ↦ λ r. search (rules, frame-attributed_with, range_no_frame)
      | Expr-F.Break y ↦ λ r. search (rules, frame-attributed_with, jump_no_frame)
      | Expr-F.Return y ↦ λ r. search (rules, frame-attributed_with, jump_no_frame)
      | Expr-F.Yield y ↦ λ r. search (rules, frame-attributed_with, jump_no_frame)
      | Expr-F.Verbatim y ↦ λ r. refl
      | _ ↦ λ r. search (rules, frame-attributed_with)
    ] (roll-out-Expr x)

pub ruleset rest = (no-leaf, no-paren, no-prefixed, no-operator, no-postfixed, no-trailer, no-frame)
