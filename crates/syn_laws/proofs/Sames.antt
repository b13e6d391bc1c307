-- The equality of expressions and patterns, which hold one another: the test of their trees is what one step of the derived test
-- makes of it, and only the derived test is.
use Rattle.std.proofs.Common.{◌≡◌, ℕ, Bool, true, false, not, ◌&&◌, List, [], ◌∷◌, ◌++◌, map, flat_map, Option, Some, None, is_some, refl, sym, ◌∙◌, ap}
use mathlib.Core.HLevel.{Discrete, ×_discrete}
use mathlib.Core.Bool.{Bool-discrete}
use mathlib.Core.List.{List-discrete}
use native.Mathlib.Decide.{map_dec}
use denote.Enum.Declared.{Choice}
use denote.Hole.Carrier.{Values}
use denote.Hole.Compared.{compared}
use Rattle.syn_lower_spec.specs.Tree.{AttributeTree, ReturnTree, default, given}
use Rattle.syn_lower_spec.specs.Pat as t
use Rattle.syn_lower_spec.specs.Pat.{PatTree}
use Rattle.syn_expr_spec.specs.Tree as e
use Rattle.syn_expr_spec.specs.Tree.{Tree, Leaf, Prefix, Jump, Frame, Trailer, leaf, paren, prefixed, infixed, postfixed, tail, frame, none, child, attributed_with, attributed}
use Rattle.syn_expr_spec.specs.declared.kinds.Limits.{Limits}
use Rattle.syn_expr_spec.specs.declared.kinds.Infix.{Infix}
use Rattle.syn_expr_spec.specs.declared.kinds.Infix.TheVariants as inf
use Rattle.syn_lower_spec.specs.Equal.{IsEqualityOf}
use Rattle.syn_lower_leaves.proofs.Ties.{both_tie, on_tie, into_tie, made_tie, option_tie, some_tie, list_tie, pair_path, along, by_test, rank_end, rank_more, decides, decided_tie, one_test, is_compared}
use Rattle.syn_lower_leaves.proofs.LeafTies.{toks_tie, block_tie}
use Rattle.syn_lower_leaves.specs.View.{lit_of, lifetime_of}
use Rattle.syn_lower.specs.View.{mapped, lifetimes_of, return_of, values, trails, type_of, path_of, qself_or, macro_of, is_mut}
use Rattle.syn_expr_tokens.specs.View.{bin_kind, un_kind, limits_kind, label_of, member_of, modifiers_of}
use Rattle.syn_laws.proofs.PartTies.{lifetimes_tie}
use Rattle.syn_laws.proofs.LowerSames.{return_tie}
use Rattle.syn_expr_tokens.proofs.Ties.{label_tie, modifiers_tie}
use Rattle.syn_pat.specs.View.{PatView, attributed_by, attributes_of, pats_in, sub_of, field_pat_of, is_closed, bound_of}
use Rattle.syn_expr_ast.specs.Pats.{ArmView, closure_by}
use Rattle.syn_expr_ast.specs.Attrs.{attrs_of, outer_of, inner_of}
use Rattle.syn_expr_ast.specs.View.{range_between, jump_with, field_value_of, elements, boxed, fields, option_child, body_of, else_of, turbofish_of}
use Rattle.syn_expr_ast.specs.contracts.structure.FieldValueOfPartialEq.TheImpl as field_value_test
use Rattle.syn_expr_core.specs.declared.expr.Expr.{Expr}
use Rattle.syn_expr_core.specs.declared.expr.Expr.TheBlock as block
use Rattle.syn_expr_core.specs.declared.pat.Pat.{Pat}
use Rattle.syn_expr_core.specs.declared.pat.PatGuard.{PatGuard, out-PatGuard}
use Rattle.syn_expr_core.specs.declared.closure.ExprClosure.{ExprClosure, out-ExprClosure}
use Rattle.syn_expr_core.specs.declared.control.Arm.{Arm, out-Arm}
use Rattle.syn_expr_core.specs.declared.control.ExprForLoop.{ExprForLoop, out-ExprForLoop}
use Rattle.syn_expr_core.specs.declared.control.ExprLet.{ExprLet, out-ExprLet}
use Rattle.syn_expr_core.specs.declared.control.ExprMatch.{ExprMatch, out-ExprMatch}
use Rattle.syn_expr_core.specs.contracts.expr.Expr as expr_row
use Rattle.syn_expr_core.specs.contracts.pat.Pat as pat_row
use Rattle.syn_expr_core.specs.contracts.expr.ExprPartialEq.TheImpl as expr_test
use Rattle.syn_expr_core.specs.contracts.expr.ExprPartialEq.TheImpl.Laws as expr_laws
use Rattle.syn_expr_core.specs.contracts.pat.PatPartialEq.TheImpl as pat_test
use Rattle.syn_expr_core.specs.contracts.pat.PatGuardPartialEq.TheImpl as guard_test
use Rattle.syn_expr_core.specs.contracts.closure.ExprClosurePartialEq.TheImpl as closure_test
use Rattle.syn_expr_core.specs.contracts.control.ArmPartialEq.TheImpl as arm_test
use Rattle.syn_expr_core.specs.contracts.control.ExprForLoopPartialEq.TheImpl as for_loop_test
use Rattle.syn_expr_core.specs.contracts.control.ExprLetPartialEq.TheImpl as let_test
use Rattle.syn_expr_core.specs.contracts.control.ExprMatchPartialEq.TheImpl as match_test
use Rattle.syn_expr_core.specs.View.{tree_of, pat_of, closure_of, arm_of, for_loop_of, let_of, match_of, guard_of}
use Rattle.syn_expr_core.proofs.TreeOf.{tree-Array, tree-Assign, tree-Async, tree-Await, tree-Binary, tree-Block, tree-Break, tree-Call, tree-Cast, tree-Closure, tree-Const, tree-Continue, tree-Field, tree-ForLoop, tree-Group, tree-If, tree-Index, tree-Infer, tree-Let, tree-Lit, tree-Loop, tree-Macro, tree-Match, tree-MethodCall, tree-Paren, tree-Path, tree-Range, tree-RawAddr, tree-Reference, tree-Repeat, tree-Return, tree-Struct, tree-Try, tree-TryBlock, tree-Tuple, tree-Unary, tree-Unsafe, tree-While, tree-Yield, tree-Verbatim, pat-Const, pat-Guard, pat-Ident, pat-Lit, pat-Macro, pat-Or, pat-Paren, pat-Path, pat-Range, pat-Reference, pat-Rest, pat-Slice, pat-Struct, pat-Tuple, pat-TupleStruct, pat-Typed, pat-Wild, closure-is, arm-is, for_loop-is, let_expr-is, match_expr-is, guard-is}
use Rattle.syn_laws.proofs.TreeEq.{tree_eq, pat_eq, attributes_eq}
use Rattle.syn_laws.proofs.Shapes.{attrs_tie, behind_tie, around_tie}
use Rattle.syn_laws.proofs.TreeEq as kinds
use Rattle.syn_laws.proofs.StructTies as structs
use Rattle.syn_laws.proofs.PatTies as pats
use Rattle.syn_laws.proofs.PatTies.{pat_tie, known_tie}
use Rattle.syn_laws.proofs.Members.{ClosureParts, closure_head, closure_with, closure_core, closure_parts_once, LoopParts, loop_with, loop_once, LetParts, let_with, let_once, match_with, match_once, last_once}
use Rattle.syn_laws.proofs.Guards.{view_path}
use Rattle.syn_laws.proofs.Filled.{filled}

-- ---- the test of the trees

view_eq : Discrete PatView
view_eq v w = map_dec (λ h. view_path v w (ap (λ p. p.0) h) (ap (λ p. p.1) h)) (λ h. pair_path (ap (λ (v : PatView). v.tree) h) (ap (λ (v : PatView). v.guards) h)) (×_discrete pat_eq (List-discrete tree_eq) (v.tree, v.guards) (w.tree, w.guards))

arm_eq : Discrete ArmView
arm_eq x y = map_dec
    (λ h. let a = ap (λ p. p.0) h in let b = ap (λ p. p.1.0) h in let c = ap (λ p. p.1.1.0) h in let d = ap (λ p. p.1.1.1) h in λ i. record { attrs = a i; pat = b i; body = c i; comma = d i })
    (λ h. pair_path (ap (λ (v : ArmView). v.attrs) h) (pair_path (ap (λ (v : ArmView). v.pat) h) (pair_path (ap (λ (v : ArmView). v.body) h) (ap (λ (v : ArmView). v.comma) h))))
    (×_discrete attributes_eq (×_discrete view_eq (×_discrete tree_eq Bool-discrete)) (x.attrs, (x.pat, (x.body, x.comma))) (y.attrs, (y.pat, (y.body, y.comma))))

abbrev Value : block.the_members → Type 0
Value = Values block.the_members block.the_sigs block.the_carrier

test : (j : block.the_members) → Value j → Value j → Bool
test block.member-Expr x y = decides (tree_eq (tree_of x) (tree_of y))
test block.member-Pat x y = decides (view_eq (pat_of x) (pat_of y))
test block.member-ExprClosure x y = decides (tree_eq (closure_of x) (closure_of y))
test block.member-Arm x y = decides (arm_eq (arm_of x) (arm_of y))
test block.member-ExprForLoop x y = decides (tree_eq (for_loop_of x) (for_loop_of y))
test block.member-ExprLet x y = decides (tree_eq (let_of x) (let_of y))
test block.member-ExprMatch x y = decides (tree_eq (match_of x) (match_of y))
test block.member-PatGuard x y = decides (view_eq (guard_of x) (guard_of y))

expr_tests : IsEqualityOf tree_of (λ (x y : Expr). test block.member-Expr x y)
unfolding test
expr_tests = decided_tie tree_of tree_eq

pat_tests : IsEqualityOf pat_of (λ (x y : Pat). test block.member-Pat x y)
unfolding test
pat_tests = decided_tie pat_of view_eq

closure_tests : IsEqualityOf closure_of (λ (x y : ExprClosure). test block.member-ExprClosure x y)
unfolding test
closure_tests = decided_tie closure_of tree_eq

arm_tests : IsEqualityOf arm_of (λ (x y : Arm). test block.member-Arm x y)
unfolding test
arm_tests = decided_tie arm_of arm_eq

for_loop_tests : IsEqualityOf for_loop_of (λ (x y : ExprForLoop). test block.member-ExprForLoop x y)
unfolding test
for_loop_tests = decided_tie for_loop_of tree_eq

let_tests : IsEqualityOf let_of (λ (x y : ExprLet). test block.member-ExprLet x y)
unfolding test
let_tests = decided_tie let_of tree_eq

match_tests : IsEqualityOf match_of (λ (x y : ExprMatch). test block.member-ExprMatch x y)
unfolding test
match_tests = decided_tie match_of tree_eq

guard_tests : IsEqualityOf guard_of (λ (x y : PatGuard). test block.member-PatGuard x y)
unfolding test
guard_tests = decided_tie guard_of view_eq

-- ---- one step of the derived test

abbrev step : (j : block.the_members) → Value j → Value j → Bool
step = expr_test.the_step test

abbrev closure_parts : ExprClosure → ClosureParts
closure_parts x = let c = out-ExprClosure x in (mapped lifetimes_of c.lifetimes, (modifiers_of c.modifiers, (is_some c.constness, (is_some c.asyncness, (is_some c.capture, ((map (λ v. v.tree) (map pat_of (values c.inputs)), (flat_map (λ v. v.guards) (map pat_of (values c.inputs)), trails c.inputs)), (return_of c.output, tree_of c.body.value)))))))

closure_steps : IsEqualityOf closure_of (λ (x y : ExprClosure). step block.member-ExprClosure x y)
closure_steps = along closure-is (behind_tie {A = ExprClosure} (λ x. (out-ExprClosure x).attrs) (λ x. closure_core (closure_parts x)) (made_tie {B = ClosureParts} closure_with closure_parts_once
    (both_tie (on_tie {C = ExprClosure} (λ x. (out-ExprClosure x).lifetimes) (option_tie lifetimes_tie)) (both_tie (on_tie {C = ExprClosure} (λ x. (out-ExprClosure x).modifiers) modifiers_tie) (both_tie (on_tie {C = ExprClosure} (λ x. (out-ExprClosure x).constness) some_tie) (both_tie (on_tie {C = ExprClosure} (λ x. (out-ExprClosure x).asyncness) some_tie)
    (both_tie (on_tie {C = ExprClosure} (λ x. (out-ExprClosure x).capture) some_tie) (both_tie (on_tie {C = ExprClosure} (λ x. (out-ExprClosure x).inputs) (known_tie pat_row.the_row pat_tests filled)) (both_tie (on_tie {C = ExprClosure} (λ x. (out-ExprClosure x).output) return_tie)
    (on_tie {C = ExprClosure} (λ x. (out-ExprClosure x).body.value) expr_tests))))))))))

arm_steps : IsEqualityOf arm_of (λ (x y : Arm). step block.member-Arm x y)
arm_steps = along arm-is (made_tie {B = List AttributeTree × (PatView × (Tree × Bool))} {C = ArmView} (λ p. record { attrs = p.0; pat = p.1.0; body = p.1.1.0; comma = p.1.1.1 })
    (λ p q h. pair_path (ap (λ (v : ArmView). v.attrs) h) (pair_path (ap (λ (v : ArmView). v.pat) h) (pair_path (ap (λ (v : ArmView). v.body) h) (ap (λ (v : ArmView). v.comma) h))))
    (both_tie (on_tie {C = Arm} (λ x. (out-Arm x).attrs) attrs_tie) (both_tie (on_tie {C = Arm} (λ x. (out-Arm x).pat) pat_tests) (both_tie (on_tie {C = Arm} (λ x. (out-Arm x).body.value) expr_tests) (on_tie {C = Arm} (λ x. (out-Arm x).comma) some_tie)))))

-- a pattern by its tree and its guards
parts_tests : {A : Type 0} (p : A → Pat) → IsEqualityOf {A = A} {B = PatTree × List Tree} (λ x. ((pat_of (p x)).tree, (pat_of (p x)).guards)) (λ x y. test block.member-Pat (p x) (p y))
parts_tests {A} p = into_tie {f = λ x. pat_of (p x)} (λ x. ((pat_of (p x)).tree, (pat_of (p x)).guards)) (λ x y h. ap (λ (v : PatView). (v.tree, v.guards)) h) (λ x y h. view_path (pat_of (p x)) (pat_of (p y)) (ap (λ q. q.0) h) (ap (λ q. q.1) h)) (on_tie p pat_tests)

for_loop_steps : IsEqualityOf for_loop_of (λ (x y : ExprForLoop). step block.member-ExprForLoop x y)
for_loop_steps = along for_loop-is (around_tie {A = ExprForLoop} {B = LoopParts} (λ x. (out-ExprForLoop x).attrs) loop_with (λ a p. refl) loop_once
    (both_tie (on_tie {C = ExprForLoop} (λ x. (out-ExprForLoop x).label) (option_tie label_tie)) (both_tie (parts_tests (λ x. (out-ExprForLoop x).pat.value)) (both_tie (on_tie {C = ExprForLoop} (λ x. (out-ExprForLoop x).expr.value) expr_tests) (on_tie {C = ExprForLoop} (λ x. (out-ExprForLoop x).body) block_tie)))))

let_steps : IsEqualityOf let_of (λ (x y : ExprLet). step block.member-ExprLet x y)
let_steps = along let_expr-is (behind_tie {A = ExprLet} (λ x. (out-ExprLet x).attrs) (λ x. refl) (made_tie {B = LetParts} let_with let_once
    (both_tie (parts_tests (λ x. (out-ExprLet x).pat.value)) (on_tie {C = ExprLet} (λ x. (out-ExprLet x).expr.value) expr_tests))))

match_steps : IsEqualityOf match_of (λ (x y : ExprMatch). step block.member-ExprMatch x y)
match_steps = along match_expr-is (around_tie {A = ExprMatch} {B = Tree × List ArmView} (λ x. (out-ExprMatch x).attrs) match_with (λ a p. refl) match_once
    (both_tie (on_tie {C = ExprMatch} (λ x. (out-ExprMatch x).expr.value) expr_tests) (on_tie {C = ExprMatch} (λ x. (out-ExprMatch x).arms.items) (list_tie arm_tests))))

guard_steps : IsEqualityOf guard_of (λ (x y : PatGuard). step block.member-PatGuard x y)
guard_steps = along guard-is (pat_tie {A = PatGuard} {B = (PatTree × List Tree) × Tree} (λ x. (out-PatGuard x).attrs) (λ b. t.guarded b.0.0) (λ b. b.0.1 ++ b.1 ∷ []) (λ b. refl)
    (λ x y h k. let r = last_once (pat_of (out-PatGuard x).pat.value).guards (pat_of (out-PatGuard y).pat.value).guards (tree_of (out-PatGuard x).guard.value) (tree_of (out-PatGuard y).guard.value) k in pair_path (pair_path (cc) r.0) r.1)
    (both_tie (parts_tests (λ x. (out-PatGuard x).pat.value)) (on_tie {C = PatGuard} (λ x. (out-PatGuard x).guard.value) expr_tests)))

-- ---- which variant a tree is of

abbrev jump_kind : Jump → ℕ
jump_kind e.returning = 30
jump_kind e.yielding = 38
jump_kind (e.breaking l) = 6

abbrev leaf_kind : Leaf → ℕ
leaf_kind (e.lit x) = 19
leaf_kind (e.path q p) = 25
leaf_kind (e.mac m) = 21
leaf_kind e.infer = 17
leaf_kind (e.full_range l) = 26
leaf_kind (e.bare_jump j) = jump_kind j
leaf_kind (e.continuing l) = 11
leaf_kind (e.block l b) = 5
leaf_kind (e.loop_expr l b) = 20
leaf_kind (e.unsafe_block b) = 36
leaf_kind (e.const_block b) = 10
leaf_kind (e.async_block m ts) = 2
leaf_kind (e.try_block ts) = 33
leaf_kind (e.verbatim ts) = 39

abbrev prefix_kind : Prefix → ℕ
prefix_kind (e.unary op) = 35
prefix_kind (e.reference m) = 28
prefix_kind (e.raw_addr m) = 27
prefix_kind (e.range_to l) = 26
prefix_kind (e.let_expr p) = 18
prefix_kind (e.jump j) = jump_kind j
prefix_kind (e.closure h) = 9

abbrev infix_kind : Infix → ℕ
infix_kind (inf.Binary op) = 4
infix_kind inf.Assign = 1
infix_kind (inf.Range l) = 26
infix_kind inf.Cast = 8

abbrev trailer_kind : Trailer → ℕ
trailer_kind e.call = 7
trailer_kind e.index = 16
trailer_kind (e.method w a) = 23
trailer_kind (e.field m) = 12
trailer_kind e.await = 3
trailer_kind e.try_expr = 32

abbrev frame_kind : Frame → ℕ
frame_kind e.array = 0
frame_kind e.tuple = 34
frame_kind e.repeat = 29
frame_kind (e.structure q p d) = 31
frame_kind (e.closure_block h) = 9
frame_kind e.if_expr = 15
frame_kind (e.while_loop l) = 37
frame_kind (e.for_loop l p) = 13
frame_kind e.match_expr = 22
frame_kind e.group_expr = 14

abbrev tree_kind : Tree → ℕ
tree_kind (leaf k) = leaf_kind k
tree_kind (paren m x) = 24
tree_kind (attributed a more x) = tree_kind x
tree_kind (prefixed k gs x) = prefix_kind k
tree_kind (infixed x k y) = infix_kind k
tree_kind (postfixed x (e.cast ty)) = 8
tree_kind (postfixed x (e.range_from l)) = 26
tree_kind (tail b k ks) = trailer_kind k
tree_kind (frame k ks) = frame_kind k

kind_behind : (ats : List AttributeTree) (x : Tree) → tree_kind (attributed_with ats x) ≡ tree_kind x
kind_behind [] x = refl
kind_behind (a ∷ more) x = refl

kind_range : (l : Limits) (a b : Option Tree) → tree_kind (range_between l a b) ≡ 26
kind_range l None None = refl
kind_range l None (Some y) = refl
kind_range l (Some x) None = refl
kind_range l (Some x) (Some y) = refl

kind_jump : (j : Jump) (a : Option Tree) → tree_kind (jump_with j a) ≡ jump_kind j
kind_jump j None = refl
kind_jump j (Some x) = refl

kind_closure : (p : ClosureParts) → tree_kind (closure_with p) ≡ 9
kind_closure p = by p.1.1.1.1.1.1.0
  where
    by : (r : ReturnTree) → tree_kind (closure_by r (closure_head p) p.1.1.1.1.1.0.1.0 p.1.1.1.1.1.1.1) ≡ 9
    by default = refl
    by (given x) = refl

-- what comes after the attributes of each
abbrev loop_core : ExprForLoop → Tree
loop_core x = let c = out-ExprForLoop x in loop_with (inner_of c.attrs) (mapped label_of c.label, (((pat_of c.pat.value).tree, (pat_of c.pat.value).guards), (tree_of c.expr.value, c.body.stmts)))

abbrev let_core : ExprLet → Tree
let_core x = let c = out-ExprLet x in let_with (((pat_of c.pat.value).tree, (pat_of c.pat.value).guards), tree_of c.expr.value)

abbrev match_core : ExprMatch → Tree
match_core x = let c = out-ExprMatch x in match_with (inner_of c.attrs) (tree_of c.expr.value, map arm_of c.arms.items)

expr_steps : IsEqualityOf tree_of (λ (x y : Expr). step block.member-Expr x y)
expr_steps =
    let it = (rank_more tree_kind {k = 0} {view = λ (c : Choice expr_row.the_parts). tree_of (expr_row.the_make c)} (along (λ v. tree-Array v.0) (on_tie (λ v. v.0) (kinds.array_kind_tie expr_row.the_row expr_tests))) (λ v. ap tree_kind (tree-Array v.0) ∙ kind_behind (attrs_of v.0.attrs) (frame e.array (elements (map tree_of (values v.0.elems)) (trails v.0.elems))))
    (rank_more tree_kind (along (λ v. tree-Assign v.0) (on_tie (λ v. v.0) (kinds.assign_kind_tie expr_row.the_row expr_tests))) (λ v. ap tree_kind (tree-Assign v.0) ∙ kind_behind (attrs_of v.0.attrs) (infixed (tree_of v.0.left.value) inf.Assign (tree_of v.0.right.value)))
    (rank_more tree_kind (along (λ v. tree-Async v.0) (on_tie (λ v. v.0) kinds.async_kind_tie)) (λ v. ap tree_kind (tree-Async v.0) ∙ kind_behind (attrs_of v.0.attrs) (leaf (e.async_block (is_some v.0.capture) v.0.block.stmts)))
    (rank_more tree_kind (along (λ v. tree-Await v.0) (on_tie (λ v. v.0) (kinds.await_kind_tie expr_row.the_row expr_tests))) (λ v. ap tree_kind (tree-Await v.0) ∙ kind_behind (attrs_of v.0.attrs) (tail (tree_of v.0.base.value) e.await none))
    (rank_more tree_kind (along (λ v. tree-Binary v.0) (on_tie (λ v. v.0) (kinds.binary_kind_tie expr_row.the_row expr_tests))) (λ v. ap tree_kind (tree-Binary v.0) ∙ kind_behind (attrs_of v.0.attrs) (infixed (tree_of v.0.left.value) (inf.Binary (bin_kind v.0.op)) (tree_of v.0.right.value)))
    (rank_more tree_kind (along (λ v. tree-Block v.0) (on_tie (λ v. v.0) kinds.block_kind_tie)) (λ v. ap tree_kind (tree-Block v.0) ∙ kind_behind (outer_of v.0.attrs) (leaf (e.block (mapped label_of v.0.label) (body_of (inner_of v.0.attrs) v.0.block.stmts))))
    (rank_more tree_kind (along (λ v. tree-Break v.0) (on_tie (λ v. v.0) (kinds.break_kind_tie expr_row.the_row expr_tests))) (λ v. ap tree_kind (tree-Break v.0) ∙ (kind_behind (attrs_of v.0.attrs) (jump_with (e.breaking (mapped lifetime_of v.0.label)) (boxed tree_of v.0.expr)) ∙ kind_jump (e.breaking (mapped lifetime_of v.0.label)) (boxed tree_of v.0.expr)))
    (rank_more tree_kind (along (λ v. tree-Call v.0) (on_tie (λ v. v.0) (kinds.call_kind_tie expr_row.the_row expr_tests))) (λ v. ap tree_kind (tree-Call v.0) ∙ kind_behind (attrs_of v.0.attrs) (tail (tree_of v.0.func.value) e.call (elements (map tree_of (values v.0.args)) (trails v.0.args))))
    (rank_more tree_kind (along (λ v. tree-Cast v.0) (on_tie (λ v. v.0) (kinds.cast_kind_tie expr_row.the_row expr_tests))) (λ v. ap tree_kind (tree-Cast v.0) ∙ kind_behind (attrs_of v.0.attrs) (postfixed (tree_of v.0.expr.value) (e.cast (type_of v.0.ty.value))))
    (rank_more tree_kind (along (λ v. tree-Closure v.0) (on_tie (λ v. v.0) closure_tests)) (λ v. ap tree_kind (tree-Closure v.0) ∙ (ap tree_kind (closure-is v.0) ∙ (kind_behind (attrs_of (out-ExprClosure v.0).attrs) (closure_with (closure_parts v.0)) ∙ kind_closure (closure_parts v.0))))
    (rank_more tree_kind (along (λ v. tree-Const v.0) (on_tie (λ v. v.0) kinds.const_kind_tie)) (λ v. ap tree_kind (tree-Const v.0) ∙ kind_behind (outer_of v.0.attrs) (leaf (e.const_block (body_of (inner_of v.0.attrs) v.0.block.stmts))))
    (rank_more tree_kind (along (λ v. tree-Continue v.0) (on_tie (λ v. v.0) kinds.continue_kind_tie)) (λ v. ap tree_kind (tree-Continue v.0) ∙ kind_behind (attrs_of v.0.attrs) (leaf (e.continuing (mapped lifetime_of v.0.label))))
    (rank_more tree_kind (along (λ v. tree-Field v.0) (on_tie (λ v. v.0) (kinds.field_kind_tie expr_row.the_row expr_tests))) (λ v. ap tree_kind (tree-Field v.0) ∙ kind_behind (attrs_of v.0.attrs) (tail (tree_of v.0.base.value) (e.field (member_of v.0.member)) none))
    (rank_more tree_kind (along (λ v. tree-ForLoop v.0) (on_tie (λ v. v.0) for_loop_tests)) (λ v. ap tree_kind (tree-ForLoop v.0) ∙ (ap tree_kind (for_loop-is v.0) ∙ kind_behind (outer_of (out-ExprForLoop v.0).attrs) (loop_core v.0)))
    (rank_more tree_kind (along (λ v. tree-Group v.0) (on_tie (λ v. v.0) (kinds.group_kind_tie expr_row.the_row expr_tests))) (λ v. ap tree_kind (tree-Group v.0) ∙ kind_behind (attrs_of v.0.attrs) (frame e.group_expr (child e.grouped e.no_ending (tree_of v.0.expr.value) none)))
    (rank_more tree_kind (along (λ v. tree-If v.0) (on_tie (λ v. v.0) (kinds.if_kind_tie expr_row.the_row expr_tests))) (λ v. ap tree_kind (tree-If v.0) ∙ kind_behind (attrs_of v.0.attrs) (frame e.if_expr (child e.condition (e.braced (body_of [] v.0.then_branch.stmts)) (tree_of v.0.cond.value) (else_of tree_of v.0.else_branch))))
    (rank_more tree_kind (along (λ v. tree-Index v.0) (on_tie (λ v. v.0) (kinds.index_kind_tie expr_row.the_row expr_tests))) (λ v. ap tree_kind (tree-Index v.0) ∙ kind_behind (attrs_of v.0.attrs) (tail (tree_of v.0.expr.value) e.index (child e.value e.no_ending (tree_of v.0.index.value) none)))
    (rank_more tree_kind (along (λ v. tree-Infer v.0) (on_tie (λ v. v.0) kinds.infer_kind_tie)) (λ v. ap tree_kind (tree-Infer v.0) ∙ kind_behind (attrs_of v.0.attrs) (leaf e.infer))
    (rank_more tree_kind (along (λ v. tree-Let v.0) (on_tie (λ v. v.0) let_tests)) (λ v. ap tree_kind (tree-Let v.0) ∙ (ap tree_kind (let_expr-is v.0) ∙ kind_behind (attrs_of (out-ExprLet v.0).attrs) (let_core v.0)))
    (rank_more tree_kind (along (λ v. tree-Lit v.0) (on_tie (λ v. v.0) kinds.lit_kind_tie)) (λ v. ap tree_kind (tree-Lit v.0) ∙ kind_behind (attrs_of v.0.attrs) (leaf (e.lit (lit_of v.0.lit))))
    (rank_more tree_kind (along (λ v. tree-Loop v.0) (on_tie (λ v. v.0) kinds.loop_kind_tie)) (λ v. ap tree_kind (tree-Loop v.0) ∙ kind_behind (outer_of v.0.attrs) (leaf (e.loop_expr (mapped label_of v.0.label) (body_of (inner_of v.0.attrs) v.0.body.stmts))))
    (rank_more tree_kind (along (λ v. tree-Macro v.0) (on_tie (λ v. v.0) kinds.mac_kind_tie)) (λ v. ap tree_kind (tree-Macro v.0) ∙ kind_behind (attrs_of v.0.attrs) (leaf (e.mac (macro_of type_of v.0.mac))))
    (rank_more tree_kind (along (λ v. tree-Match v.0) (on_tie (λ v. v.0) match_tests)) (λ v. ap tree_kind (tree-Match v.0) ∙ (ap tree_kind (match_expr-is v.0) ∙ kind_behind (outer_of (out-ExprMatch v.0).attrs) (match_core v.0)))
    (rank_more tree_kind (along (λ v. tree-MethodCall v.0) (on_tie (λ v. v.0) (kinds.method_kind_tie expr_row.the_row expr_tests))) (λ v. ap tree_kind (tree-MethodCall v.0) ∙ kind_behind (attrs_of v.0.attrs) (tail (tree_of v.0.receiver.value) (e.method v.0.method (turbofish_of v.0.turbofish)) (elements (map tree_of (values v.0.args)) (trails v.0.args))))
    (rank_more tree_kind (along (λ v. tree-Paren v.0) (on_tie (λ v. v.0) (kinds.paren_kind_tie expr_row.the_row expr_tests))) (λ v. ap tree_kind (tree-Paren v.0) ∙ kind_behind (attrs_of v.0.attrs) (paren false (tree_of v.0.expr.value)))
    (rank_more tree_kind (along (λ v. tree-Path v.0) (on_tie (λ v. v.0) kinds.path_kind_tie)) (λ v. ap tree_kind (tree-Path v.0) ∙ kind_behind (attrs_of v.0.attrs) (leaf (e.path (qself_or type_of v.0.qself) (path_of type_of v.0.path))))
    (rank_more tree_kind (along (λ v. tree-Range v.0) (on_tie (λ v. v.0) (kinds.range_kind_tie expr_row.the_row expr_tests))) (λ v. ap tree_kind (tree-Range v.0) ∙ (kind_behind (attrs_of v.0.attrs) (range_between (limits_kind v.0.limits) (boxed tree_of v.0.start) (boxed tree_of v.0.end)) ∙ kind_range (limits_kind v.0.limits) (boxed tree_of v.0.start) (boxed tree_of v.0.end)))
    (rank_more tree_kind (along (λ v. tree-RawAddr v.0) (on_tie (λ v. v.0) (kinds.raw_addr_kind_tie expr_row.the_row expr_tests))) (λ v. ap tree_kind (tree-RawAddr v.0) ∙ kind_behind (attrs_of v.0.attrs) (prefixed (e.raw_addr (is_mut v.0.mutability)) none (tree_of v.0.expr.value)))
    (rank_more tree_kind (along (λ v. tree-Reference v.0) (on_tie (λ v. v.0) (kinds.reference_kind_tie expr_row.the_row expr_tests))) (λ v. ap tree_kind (tree-Reference v.0) ∙ kind_behind (attrs_of v.0.attrs) (prefixed (e.reference (is_some v.0.mutability)) none (tree_of v.0.expr.value)))
    (rank_more tree_kind (along (λ v. tree-Repeat v.0) (on_tie (λ v. v.0) (kinds.repeat_kind_tie expr_row.the_row expr_tests))) (λ v. ap tree_kind (tree-Repeat v.0) ∙ kind_behind (attrs_of v.0.attrs) (frame e.repeat (child e.repeated e.no_ending (tree_of v.0.expr.value) (child e.value e.no_ending (tree_of v.0.len.value) none))))
    (rank_more tree_kind (along (λ v. tree-Return v.0) (on_tie (λ v. v.0) (kinds.return_kind_tie expr_row.the_row expr_tests))) (λ v. ap tree_kind (tree-Return v.0) ∙ (kind_behind (attrs_of v.0.attrs) (jump_with e.returning (boxed tree_of v.0.expr)) ∙ kind_jump e.returning (boxed tree_of v.0.expr)))
    (rank_more tree_kind (along (λ v. tree-Struct v.0) (on_tie (λ v. v.0) (structs.struct_kind_tie expr_row.the_row expr_tests))) (λ v. ap tree_kind (tree-Struct v.0) ∙ kind_behind (attrs_of v.0.attrs) (let dots = is_some v.0.dot2_token in let rest = boxed tree_of v.0.rest in frame (e.structure (qself_or type_of v.0.qself) (path_of type_of v.0.path) (dots && not (is_some rest))) (fields (map (field_value_of tree_of) (values v.0.fields)) (trails v.0.fields) (option_child (e.rest dots) rest))))
    (rank_more tree_kind (along (λ v. tree-Try v.0) (on_tie (λ v. v.0) (kinds.try_kind_tie expr_row.the_row expr_tests))) (λ v. ap tree_kind (tree-Try v.0) ∙ kind_behind (attrs_of v.0.attrs) (tail (tree_of v.0.expr.value) e.try_expr none))
    (rank_more tree_kind (along (λ v. tree-TryBlock v.0) (on_tie (λ v. v.0) kinds.try_block_kind_tie)) (λ v. ap tree_kind (tree-TryBlock v.0) ∙ kind_behind (attrs_of v.0.attrs) (leaf (e.try_block v.0.block.stmts)))
    (rank_more tree_kind (along (λ v. tree-Tuple v.0) (on_tie (λ v. v.0) (kinds.tuple_kind_tie expr_row.the_row expr_tests))) (λ v. ap tree_kind (tree-Tuple v.0) ∙ kind_behind (attrs_of v.0.attrs) (frame e.tuple (elements (map tree_of (values v.0.elems)) (trails v.0.elems))))
    (rank_more tree_kind (along (λ v. tree-Unary v.0) (on_tie (λ v. v.0) (kinds.unary_kind_tie expr_row.the_row expr_tests))) (λ v. ap tree_kind (tree-Unary v.0) ∙ kind_behind (attrs_of v.0.attrs) (prefixed (e.unary (un_kind v.0.op)) none (tree_of v.0.expr.value)))
    (rank_more tree_kind (along (λ v. tree-Unsafe v.0) (on_tie (λ v. v.0) kinds.unsafe_kind_tie)) (λ v. ap tree_kind (tree-Unsafe v.0) ∙ kind_behind (outer_of v.0.attrs) (leaf (e.unsafe_block (body_of (inner_of v.0.attrs) v.0.block.stmts))))
    (rank_more tree_kind (along (λ v. tree-While v.0) (on_tie (λ v. v.0) (kinds.while_kind_tie expr_row.the_row expr_tests))) (λ v. ap tree_kind (tree-While v.0) ∙ kind_behind (outer_of v.0.attrs) (frame (e.while_loop (mapped label_of v.0.label)) (child e.loop_head (e.braced (body_of (inner_of v.0.attrs) v.0.body.stmts)) (tree_of v.0.cond.value) none)))
    (rank_more tree_kind (along (λ v. tree-Yield v.0) (on_tie (λ v. v.0) (kinds.yield_kind_tie expr_row.the_row expr_tests))) (λ v. ap tree_kind (tree-Yield v.0) ∙ (kind_behind (attrs_of v.0.attrs) (jump_with e.yielding (boxed tree_of v.0.expr)) ∙ kind_jump e.yielding (boxed tree_of v.0.expr)))
    (rank_more tree_kind (along (λ v. tree-Verbatim v.0) (on_tie (λ v. v.0) (made_tie (λ ts. leaf (e.verbatim ts)) (λ p q h. cc) toks_tie))) (λ v. ap tree_kind (tree-Verbatim v.0)) (rank_end tree_kind))))))))))))))))))))))))))))))))))))))))) in
    along (λ x. ap tree_of (sym (expr_row.the_eta x))) (on_tie {C = Expr} expr_row.as_values it.tie)

abbrev pattern_kind : PatTree → ℕ
pattern_kind (t.a_block ts) = 0
pattern_kind (t.guarded p) = 1
pattern_kind (t.a_binding r m w s) = 2
pattern_kind (t.a_lit l) = 3
pattern_kind (t.a_mac m) = 4
pattern_kind (t.alternatives l ps b) = 5
pattern_kind (t.a_paren p) = 6
pattern_kind (t.a_path q p) = 7
pattern_kind (t.range a b c) = 8
pattern_kind (t.a_reference m p) = 9
pattern_kind t.rest = 10
pattern_kind (t.a_slice ps b) = 11
pattern_kind (t.a_struct p fs b d) = 12
pattern_kind (t.a_tuple ps b) = 13
pattern_kind (t.tuple_struct p ps b) = 14
pattern_kind (t.typed p ty) = 15
pattern_kind t.wild = 16
pattern_kind (t.attributed a more p) = pattern_kind p

abbrev view_kind : PatView → ℕ
view_kind v = pattern_kind v.tree

pattern_behind : (ats : List AttributeTree) (p : PatTree) → pattern_kind (attributed_by ats p) ≡ pattern_kind p
pattern_behind [] p = refl
pattern_behind (a ∷ more) p = refl

pat_steps : IsEqualityOf pat_of (λ (x y : Pat). step block.member-Pat x y)
pat_steps =
    let it = (rank_more view_kind {k = 0} {view = λ (c : Choice pat_row.the_parts). pat_of (pat_row.the_make c)} (along (λ v. pat-Const v.0) (on_tie (λ v. v.0) pats.const_tie)) (λ v. ap view_kind (pat-Const v.0) ∙ pattern_behind (attributes_of v.0.attrs) (t.a_block v.0.block.stmts))
    (rank_more view_kind (along (λ v. pat-Guard v.0) (on_tie (λ v. v.0) guard_tests)) (λ v. ap view_kind (pat-Guard v.0) ∙ (ap view_kind (guard-is v.0) ∙ pattern_behind (attributes_of (out-PatGuard v.0).attrs) (t.guarded (pat_of (out-PatGuard v.0).pat.value).tree)))
    (rank_more view_kind (along (λ v. pat-Ident v.0) (on_tie (λ v. v.0) (pats.ident_tie pat_row.the_row pat_tests filled))) (λ v. ap view_kind (pat-Ident v.0) ∙ pattern_behind (attributes_of v.0.attrs) (t.a_binding (is_some v.0.by_ref) (is_some v.0.mutability) v.0.ident (sub_of pat_of v.0.subpat)))
    (rank_more view_kind (along (λ v. pat-Lit v.0) (on_tie (λ v. v.0) pats.lit_pat_tie)) (λ v. ap view_kind (pat-Lit v.0) ∙ pattern_behind (attributes_of v.0.attrs) (t.a_lit (lit_of v.0.lit)))
    (rank_more view_kind (along (λ v. pat-Macro v.0) (on_tie (λ v. v.0) pats.mac_pat_tie)) (λ v. ap view_kind (pat-Macro v.0) ∙ pattern_behind (attributes_of v.0.attrs) (t.a_mac (macro_of type_of v.0.mac)))
    (rank_more view_kind (along (λ v. pat-Or v.0) (on_tie (λ v. v.0) (pats.or_tie pat_row.the_row pat_tests filled))) (λ v. ap view_kind (pat-Or v.0) ∙ pattern_behind (attributes_of v.0.attrs) (t.alternatives (is_some v.0.leading_vert) (pats_in pat_of (values v.0.cases)) (trails v.0.cases)))
    (rank_more view_kind (along (λ v. pat-Paren v.0) (on_tie (λ v. v.0) (pats.paren_tie pat_row.the_row pat_tests filled))) (λ v. ap view_kind (pat-Paren v.0) ∙ pattern_behind (attributes_of v.0.attrs) (t.a_paren (pat_of v.0.pat.value).tree))
    (rank_more view_kind (along (λ v. pat-Path v.0) (on_tie (λ v. v.0) pats.path_pat_tie)) (λ v. ap view_kind (pat-Path v.0) ∙ pattern_behind (attributes_of v.0.attrs) (t.a_path (qself_or type_of v.0.qself) (path_of type_of v.0.path)))
    (rank_more view_kind (along (λ v. pat-Range v.0) (on_tie (λ v. v.0) pats.range_tie)) (λ v. ap view_kind (pat-Range v.0) ∙ pattern_behind (attributes_of v.0.attrs) (t.range (mapped bound_of v.0.start) (is_closed v.0.limits) (mapped bound_of v.0.end)))
    (rank_more view_kind (along (λ v. pat-Reference v.0) (on_tie (λ v. v.0) (pats.reference_tie pat_row.the_row pat_tests filled))) (λ v. ap view_kind (pat-Reference v.0) ∙ pattern_behind (attributes_of v.0.attrs) (t.a_reference (is_some v.0.mutability) (pat_of v.0.pat.value).tree))
    (rank_more view_kind (along (λ v. pat-Rest v.0) (on_tie (λ v. v.0) pats.rest_tie)) (λ v. ap view_kind (pat-Rest v.0) ∙ pattern_behind (attributes_of v.0.attrs) t.rest)
    (rank_more view_kind (along (λ v. pat-Slice v.0) (on_tie (λ v. v.0) (pats.slice_tie pat_row.the_row pat_tests filled))) (λ v. ap view_kind (pat-Slice v.0) ∙ pattern_behind (attributes_of v.0.attrs) (t.a_slice (pats_in pat_of (values v.0.elems)) (trails v.0.elems)))
    (rank_more view_kind (along (λ v. pat-Struct v.0) (on_tie (λ v. v.0) (pats.struct_tie pat_row.the_row pat_tests filled))) (λ v. ap view_kind (pat-Struct v.0) ∙ pattern_behind (attributes_of v.0.attrs) (t.a_struct (path_of type_of v.0.path) (t.fields_of (map (field_pat_of pat_of) (values v.0.fields))) (trails v.0.fields) (is_some v.0.rest)))
    (rank_more view_kind (along (λ v. pat-Tuple v.0) (on_tie (λ v. v.0) (pats.tuple_tie pat_row.the_row pat_tests filled))) (λ v. ap view_kind (pat-Tuple v.0) ∙ pattern_behind (attributes_of v.0.attrs) (t.a_tuple (pats_in pat_of (values v.0.elems)) (trails v.0.elems)))
    (rank_more view_kind (along (λ v. pat-TupleStruct v.0) (on_tie (λ v. v.0) (pats.tuple_struct_tie pat_row.the_row pat_tests filled))) (λ v. ap view_kind (pat-TupleStruct v.0) ∙ pattern_behind (attributes_of v.0.attrs) (t.tuple_struct (path_of type_of v.0.path) (pats_in pat_of (values v.0.elems)) (trails v.0.elems)))
    (rank_more view_kind (along (λ v. pat-Typed v.0) (on_tie (λ v. v.0) (pats.typed_tie pat_row.the_row pat_tests filled))) (λ v. ap view_kind (pat-Typed v.0) ∙ pattern_behind (attributes_of v.0.attrs) (t.typed (pat_of v.0.pat.value).tree (type_of v.0.ty.value)))
    (rank_more view_kind (along (λ v. pat-Wild v.0) (on_tie (λ v. v.0) pats.wild_tie)) (λ v. ap view_kind (pat-Wild v.0) ∙ pattern_behind (attributes_of v.0.attrs) t.wild) (rank_end view_kind)))))))))))))))))) in
    along (λ x. ap pat_of (sym (pat_row.the_eta x))) (on_tie {C = Pat} pat_row.as_values it.tie)

-- ---- the derived test

fixed : (j : block.the_members) (x y : Value j) → test j x y ≡ step j x y
fixed block.member-Expr x y = one_test expr_tests expr_steps x y
fixed block.member-Pat x y = one_test pat_tests pat_steps x y
fixed block.member-ExprClosure x y = one_test closure_tests closure_steps x y
fixed block.member-Arm x y = one_test arm_tests arm_steps x y
fixed block.member-ExprForLoop x y = one_test for_loop_tests for_loop_steps x y
fixed block.member-ExprLet x y = one_test let_tests let_steps x y
fixed block.member-ExprMatch x y = one_test match_tests match_steps x y
fixed block.member-PatGuard x y = one_test guard_tests guard_steps x y

derived : (j : block.the_members) (x y : Value j) → compared block.the_members Value block.the_depth Bool true expr_test.the_step j x y ≡ test j x y
derived = is_compared block.the_members Value block.the_depth expr_test.the_step expr_laws.local test fixed

pub expr_tie : IsEqualityOf tree_of expr_test.ghosts.eq
expr_tie = by_test (derived block.member-Expr) expr_tests

pub pattern_tie : IsEqualityOf pat_of pat_test.ghosts.eq
pattern_tie = by_test (derived block.member-Pat) pat_tests

pub closure_tie : IsEqualityOf closure_of closure_test.ghosts.eq
closure_tie = by_test (derived block.member-ExprClosure) closure_tests

pub arm_tie : IsEqualityOf arm_of arm_test.ghosts.eq
arm_tie = by_test (derived block.member-Arm) arm_tests

pub for_loop_tie : IsEqualityOf for_loop_of for_loop_test.ghosts.eq
for_loop_tie = by_test (derived block.member-ExprForLoop) for_loop_tests

pub let_tie : IsEqualityOf let_of let_test.ghosts.eq
let_tie = by_test (derived block.member-ExprLet) let_tests

pub match_tie : IsEqualityOf match_of match_test.ghosts.eq
match_tie = by_test (derived block.member-ExprMatch) match_tests

pub guard_tie : IsEqualityOf guard_of guard_test.ghosts.eq
guard_tie = by_test (derived block.member-PatGuard) guard_tests

pub field_value_tie : IsEqualityOf (field_value_of tree_of) (field_value_test.ghosts expr_row.the_row expr_test.ghosts expr_test.dict).eq
field_value_tie = kinds.field_value_kind_tie expr_row.the_row expr_tie

pub ruleset sames = (expr_tie, pattern_tie, arm_tie, field_value_tie, closure_tie, for_loop_tie, let_tie, match_tie, guard_tie)
