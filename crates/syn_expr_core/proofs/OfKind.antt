-- An expression is of a kind exactly where it is of the variant of it.
use Rattle.std.proofs.Common.{◌≡◌, ◌⊎◌, inl, inr, ⊎_elim, Bool, true, false, List, [], ◌∷◌, Option, Some, None, refl, ap, sym, subst, ◌∙◌, rules}
use Rattle.std.proofs.lemmas.Bool.{false_from_ne_true}
use Rattle.syn_lower_spec.specs.Text.{Text}
use Rattle.syn_lower_spec.specs.Tree.{AttributeTree, ReturnTree, default, given}
use Rattle.syn_expr_spec.specs.declared.kinds.Infix.{Infix}
use Rattle.syn_expr_spec.specs.declared.kinds.Infix.TheVariants as inf
use Rattle.syn_expr_spec.specs.declared.kinds.Limits.{Limits}
use Rattle.syn_expr_spec.specs.Tree as tr
use Rattle.syn_expr_spec.specs.Tree.{Tree, Leaf, Prefix, Postfix, Trailer, Frame, Jump, ClosureHead, leaf, paren, attributed, prefixed, infixed, postfixed, tail, frame, none, child, attributed_with, is_block_like}
use Rattle.syn_expr_spec.specs.Stands.{is_attributed, is_if_expr, is_cast, is_range, holds_block}
use Rattle.syn_expr_spec.specs.Alone.{unattributed, ungrouped, is_array, is_assign, is_await, is_binary, is_break, is_call, is_closure, is_field, is_for_loop, is_index, is_let, is_match, is_method_call, is_paren, is_raw_addr, is_repeat, is_return, is_try, is_tuple, is_unary, is_while, is_yield}
use Rattle.syn_expr_ast.specs.Attrs.{attrs_of}
use Rattle.syn_expr_ast.specs.Pats.{closure_by}
use Rattle.syn_expr_ast.specs.View.{jump_with, range_between, expr_array_of, expr_assign_of, expr_await_of, expr_binary_of, expr_break_of, expr_call_of, expr_cast_of, expr_field_of, expr_if_of, expr_index_of, expr_method_call_of, expr_paren_of, expr_range_of, expr_raw_addr_of, expr_repeat_of, expr_return_of, expr_try_of, expr_tuple_of, expr_unary_of, expr_while_of, expr_yield_of}
use Rattle.syn_expr_ast.specs.declared.atom.ExprArrayOf.{ExprArrayOf}
use Rattle.syn_expr_ast.specs.declared.operation.ExprAssignOf.{ExprAssignOf}
use Rattle.syn_expr_ast.specs.declared.trailer.ExprAwaitOf.{ExprAwaitOf}
use Rattle.syn_expr_ast.specs.declared.operation.ExprBinaryOf.{ExprBinaryOf}
use Rattle.syn_expr_ast.specs.declared.jump.ExprBreakOf.{ExprBreakOf}
use Rattle.syn_expr_ast.specs.declared.trailer.ExprCallOf.{ExprCallOf}
use Rattle.syn_expr_ast.specs.declared.operation.ExprCastOf.{ExprCastOf}
use Rattle.syn_expr_ast.specs.declared.trailer.ExprFieldOf.{ExprFieldOf}
use Rattle.syn_expr_ast.specs.declared.atom.ExprGroupOf.{ExprGroupOf}
use Rattle.syn_expr_ast.specs.declared.block.ExprIfOf.{ExprIfOf}
use Rattle.syn_expr_ast.specs.declared.trailer.ExprIndexOf.{ExprIndexOf}
use Rattle.syn_expr_ast.specs.declared.trailer.ExprMethodCallOf.{ExprMethodCallOf}
use Rattle.syn_expr_ast.specs.declared.atom.ExprParenOf.{ExprParenOf}
use Rattle.syn_expr_ast.specs.declared.operation.ExprRangeOf.{ExprRangeOf}
use Rattle.syn_expr_ast.specs.declared.operation.ExprRawAddrOf.{ExprRawAddrOf}
use Rattle.syn_expr_ast.specs.declared.atom.ExprRepeatOf.{ExprRepeatOf}
use Rattle.syn_expr_ast.specs.declared.jump.ExprReturnOf.{ExprReturnOf}
use Rattle.syn_expr_ast.specs.declared.trailer.ExprTryOf.{ExprTryOf}
use Rattle.syn_expr_ast.specs.declared.atom.ExprTupleOf.{ExprTupleOf}
use Rattle.syn_expr_ast.specs.declared.operation.ExprUnaryOf.{ExprUnaryOf}
use Rattle.syn_expr_ast.specs.declared.block.ExprWhileOf.{ExprWhileOf}
use Rattle.syn_expr_ast.specs.declared.jump.ExprYieldOf.{ExprYieldOf}
use Rattle.syn_expr_core.specs.declared.expr.Expr.{Expr, out-Expr, roll-Expr, roll-out-Expr}
use Rattle.syn_expr_core.specs.declared.expr.Expr.TheVariants as ex
use Rattle.syn_expr_core.specs.declared.expr.Expr.TheOpen.{Expr-F}
use Rattle.syn_expr_core.specs.declared.pat.Pat.{Pat}
use Rattle.syn_expr_core.specs.declared.pat.PatGuard.{PatGuard}
use Rattle.syn_expr_core.specs.declared.closure.ExprClosure.{ExprClosure}
use Rattle.syn_expr_core.specs.declared.control.Arm.{Arm}
use Rattle.syn_expr_core.specs.declared.control.ExprForLoop.{ExprForLoop}
use Rattle.syn_expr_core.specs.declared.control.ExprLet.{ExprLet}
use Rattle.syn_expr_core.specs.declared.control.ExprMatch.{ExprMatch}
use Rattle.syn_expr_core.specs.Taken.{taken_at, taken_of, IsStruct}
use Rattle.syn_expr_core.specs.declared.expr.taken.Taken.{Taken}
use Rattle.syn_expr_core.specs.View.{tree_layer, tree_of, views, closure_of, for_loop_of, let_of, match_of}
use Rattle.syn_expr_core.proofs.TreeOf.{tree_out, tree-Group, tree-Array, tree-Assign, tree-Await, tree-Binary, tree-Break, tree-Call, tree-Cast, tree-Closure, tree-Field, tree-ForLoop, tree-If, tree-Index, tree-Let, tree-Match, tree-MethodCall, tree-Paren, tree-Range, tree-RawAddr, tree-Repeat, tree-Return, tree-Try, tree-Tuple, tree-Unary, tree-While, tree-Yield, closure-is, for_loop-is, let_expr-is, match_expr-is}

-- ---- a name of each kind that is taken out

data Kind : Type 0 where
  k_array : Kind
  k_assign : Kind
  k_await : Kind
  k_binary : Kind
  k_break : Kind
  k_call : Kind
  k_cast : Kind
  k_closure : Kind
  k_field : Kind
  k_for_loop : Kind
  k_group : Kind
  k_if : Kind
  k_index : Kind
  k_let : Kind
  k_match : Kind
  k_method_call : Kind
  k_paren : Kind
  k_range : Kind
  k_raw_addr : Kind
  k_repeat : Kind
  k_return : Kind
  k_try : Kind
  k_tuple : Kind
  k_unary : Kind
  k_while : Kind
  k_yield : Kind
  another : Kind

abbrev jump_kind : Jump → Kind
jump_kind tr.returning = k_return
jump_kind tr.yielding = k_yield
jump_kind (tr.breaking w) = k_break

abbrev leaf_kind : Leaf → Kind
leaf_kind (tr.full_range op) = k_range
leaf_kind (tr.bare_jump j) = jump_kind j
leaf_kind _ = another

abbrev prefix_kind : Prefix → Kind
prefix_kind (tr.unary op) = k_unary
prefix_kind (tr.reference m) = another
prefix_kind (tr.raw_addr m) = k_raw_addr
prefix_kind (tr.range_to op) = k_range
prefix_kind (tr.let_expr p) = k_let
prefix_kind (tr.jump j) = jump_kind j
prefix_kind (tr.closure h) = k_closure

abbrev infix_kind : Infix → Kind
infix_kind (inf.Binary op) = k_binary
infix_kind inf.Assign = k_assign
infix_kind (inf.Range op) = k_range
infix_kind inf.Cast = another

abbrev postfix_kind : Postfix → Kind
postfix_kind (tr.cast ty) = k_cast
postfix_kind (tr.range_from op) = k_range

abbrev trailer_kind : Trailer → Kind
trailer_kind tr.call = k_call
trailer_kind tr.index = k_index
trailer_kind (tr.method w a) = k_method_call
trailer_kind (tr.field m) = k_field
trailer_kind tr.await = k_await
trailer_kind tr.try_expr = k_try

abbrev frame_kind : Frame → Kind
frame_kind tr.array = k_array
frame_kind tr.tuple = k_tuple
frame_kind tr.repeat = k_repeat
frame_kind (tr.structure q w d) = another
frame_kind (tr.closure_block h) = k_closure
frame_kind tr.if_expr = k_if
frame_kind (tr.while_loop w) = k_while
frame_kind (tr.for_loop w p) = k_for_loop
frame_kind tr.match_expr = k_match
frame_kind tr.group_expr = k_group

-- of a tree, after attributes too
abbrev kind : Tree → Kind
kind (leaf k) = leaf_kind k
kind (paren m x) = k_paren
kind (attributed a more x) = kind x
kind (prefixed k gs x) = prefix_kind k
kind (infixed x op y) = infix_kind op
kind (postfixed x k) = postfix_kind k
kind (tail b k ks) = trailer_kind k
kind (frame k ks) = frame_kind k

-- of a variant
abbrev layer_kind : Expr-F Expr Pat ExprClosure Arm ExprForLoop ExprLet ExprMatch PatGuard → Kind
layer_kind (Expr-F.Array x) = k_array
layer_kind (Expr-F.Assign x) = k_assign
layer_kind (Expr-F.Await x) = k_await
layer_kind (Expr-F.Binary x) = k_binary
layer_kind (Expr-F.Break x) = k_break
layer_kind (Expr-F.Call x) = k_call
layer_kind (Expr-F.Cast x) = k_cast
layer_kind (Expr-F.Closure x) = k_closure
layer_kind (Expr-F.Field x) = k_field
layer_kind (Expr-F.ForLoop x) = k_for_loop
layer_kind (Expr-F.Group x) = k_group
layer_kind (Expr-F.If x) = k_if
layer_kind (Expr-F.Index x) = k_index
layer_kind (Expr-F.Let x) = k_let
layer_kind (Expr-F.Match x) = k_match
layer_kind (Expr-F.MethodCall x) = k_method_call
layer_kind (Expr-F.Expr::Paren x) = k_paren
layer_kind (Expr-F.Expr::Range x) = k_range
layer_kind (Expr-F.RawAddr x) = k_raw_addr
layer_kind (Expr-F.Repeat x) = k_repeat
layer_kind (Expr-F.Return x) = k_return
layer_kind (Expr-F.Try x) = k_try
layer_kind (Expr-F.Expr::Tuple x) = k_tuple
layer_kind (Expr-F.Unary x) = k_unary
layer_kind (Expr-F.While x) = k_while
layer_kind (Expr-F.Yield x) = k_yield
layer_kind _ = another

attributed_with_kind : (ats : List AttributeTree) (t : Tree) (k : Kind) → kind t ≡ k → kind (attributed_with ats t) ≡ k
attributed_with_kind [] t k h = h
attributed_with_kind (a ∷ more) t k h = h

jump_with_kind : (j : Jump) (x : Option Tree) → kind (jump_with j x) ≡ jump_kind j
jump_with_kind j None = refl
jump_with_kind j (Some x) = refl

range_between_kind : (op : Limits) (x y : Option Tree) → kind (range_between op x y) ≡ k_range
range_between_kind op None None = refl
range_between_kind op None (Some y) = refl
range_between_kind op (Some x) None = refl
range_between_kind op (Some x) (Some y) = refl

closure_by_kind : (r : ReturnTree) (h : ClosureHead) (gs : List Tree) (t : Tree) → kind (closure_by r h gs t) ≡ k_closure
closure_by_kind default h gs t = refl
closure_by_kind (given ty) h gs t = refl

ruleset spelled = (attributed_with_kind, jump_with_kind, range_between_kind, closure_by_kind, closure-is, for_loop-is, let_expr-is, match_expr-is)

kind_is : (l : Expr-F Expr Pat ExprClosure Arm ExprForLoop ExprLet ExprMatch PatGuard) → kind (tree_layer views l) ≡ layer_kind l
kind_is (Expr-F.Verbatim x) = refl
kind_is _ = search (rules, spelled)

-- ---- what is no value of a kind's variant is not of the kind

behind : (is : Tree → Bool) (k : Kind) → ((t : Tree) → is t ≡ true → kind t ≡ k) → (t : Tree) → is (unattributed t) ≡ true → kind t ≡ k
behind is k f (attributed a more x) h = f x h
behind is k f (leaf j) h = f (leaf j) h
behind is k f (paren m x) h = f (paren m x) h
behind is k f (prefixed j gs x) h = f (prefixed j gs x) h
behind is k f (infixed x op y) h = f (infixed x op y) h
behind is k f (postfixed x j) h = f (postfixed x j) h
behind is k f (tail b j ks) h = f (tail b j ks) h
behind is k f (frame j ks) h = f (frame j ks) h

not_kind : {S : Type 0} (variant : S → Expr) (is : Tree → Bool) (k : Kind) → ((t : Tree) → is t ≡ true → kind t ≡ k)
    → ((l : Expr-F Expr Pat ExprClosure Arm ExprForLoop ExprLet ExprMatch PatGuard) → ((x : S) × (roll-Expr l ≡ variant x)) ⊎ (layer_kind l ≡ k → ⊥))
    → (v : Expr) → ((x : S) → v ≡ variant x → ⊥) → is (unattributed (tree_of v)) ≡ false
not_kind variant is k f levels v other = false_from_ne_true (is (unattributed (tree_of v))) (λ e.
    ⊎_elim (λ h. other h.0 (sym (roll-out-Expr v) ∙ h.1))
    (λ h. h (sym (kind_is (out-Expr v)) ∙ ap kind (sym (tree_out v)) ∙ behind is k f (tree_of v) e)) (levels (out-Expr v)))

array_kind : (t : Tree) → is_array t ≡ true → kind t ≡ k_array
array_kind (frame tr.array ks) h = refl
array_kind _ h = absurd cc

assign_kind : (t : Tree) → is_assign t ≡ true → kind t ≡ k_assign
assign_kind (infixed x inf.Assign y) h = refl
assign_kind _ h = absurd cc

await_kind : (t : Tree) → is_await t ≡ true → kind t ≡ k_await
await_kind (tail b tr.await ks) h = refl
await_kind _ h = absurd cc

binary_kind : (t : Tree) → is_binary t ≡ true → kind t ≡ k_binary
binary_kind (infixed x (inf.Binary op) y) h = refl
binary_kind _ h = absurd cc

break_kind : (t : Tree) → is_break t ≡ true → kind t ≡ k_break
break_kind (leaf (tr.bare_jump (tr.breaking w))) h = refl
break_kind (prefixed (tr.jump (tr.breaking w)) gs x) h = refl
break_kind _ h = absurd cc

call_kind : (t : Tree) → is_call t ≡ true → kind t ≡ k_call
call_kind (tail b tr.call ks) h = refl
call_kind _ h = absurd cc

cast_kind : (t : Tree) → is_cast t ≡ true → kind t ≡ k_cast
cast_kind (postfixed x (tr.cast ty)) h = refl
cast_kind _ h = absurd cc

closure_kind : (t : Tree) → is_closure t ≡ true → kind t ≡ k_closure
closure_kind (prefixed (tr.closure c) gs x) h = refl
closure_kind (frame (tr.closure_block c) ks) h = refl
closure_kind _ h = absurd cc

field_kind : (t : Tree) → is_field t ≡ true → kind t ≡ k_field
field_kind (tail b (tr.field m) ks) h = refl
field_kind _ h = absurd cc

for_loop_kind : (t : Tree) → is_for_loop t ≡ true → kind t ≡ k_for_loop
for_loop_kind (frame (tr.for_loop w p) ks) h = refl
for_loop_kind _ h = absurd cc

if_kind : (t : Tree) → is_if_expr t ≡ true → kind t ≡ k_if
if_kind (frame tr.if_expr ks) h = refl
if_kind _ h = absurd cc

index_kind : (t : Tree) → is_index t ≡ true → kind t ≡ k_index
index_kind (tail b tr.index ks) h = refl
index_kind _ h = absurd cc

let_kind : (t : Tree) → is_let t ≡ true → kind t ≡ k_let
let_kind (prefixed (tr.let_expr p) gs x) h = refl
let_kind _ h = absurd cc

match_kind : (t : Tree) → is_match t ≡ true → kind t ≡ k_match
match_kind (frame tr.match_expr ks) h = refl
match_kind _ h = absurd cc

method_call_kind : (t : Tree) → is_method_call t ≡ true → kind t ≡ k_method_call
method_call_kind (tail b (tr.method w a) ks) h = refl
method_call_kind _ h = absurd cc

paren_kind : (t : Tree) → is_paren t ≡ true → kind t ≡ k_paren
paren_kind (paren m x) h = refl
paren_kind _ h = absurd cc

range_kind : (t : Tree) → is_range t ≡ true → kind t ≡ k_range
range_kind (attributed a more x) h = range_kind x h
range_kind (leaf (tr.full_range op)) h = refl
range_kind (prefixed (tr.range_to op) gs x) h = refl
range_kind (infixed x (inf.Range op) y) h = refl
range_kind (postfixed x (tr.range_from op)) h = refl
range_kind _ h = absurd cc

raw_addr_kind : (t : Tree) → is_raw_addr t ≡ true → kind t ≡ k_raw_addr
raw_addr_kind (prefixed (tr.raw_addr m) gs x) h = refl
raw_addr_kind _ h = absurd cc

repeat_kind : (t : Tree) → is_repeat t ≡ true → kind t ≡ k_repeat
repeat_kind (frame tr.repeat ks) h = refl
repeat_kind _ h = absurd cc

return_kind : (t : Tree) → is_return t ≡ true → kind t ≡ k_return
return_kind (leaf (tr.bare_jump tr.returning)) h = refl
return_kind (prefixed (tr.jump tr.returning) gs x) h = refl
return_kind _ h = absurd cc

try_kind : (t : Tree) → is_try t ≡ true → kind t ≡ k_try
try_kind (tail b tr.try_expr ks) h = refl
try_kind _ h = absurd cc

tuple_kind : (t : Tree) → is_tuple t ≡ true → kind t ≡ k_tuple
tuple_kind (frame tr.tuple ks) h = refl
tuple_kind _ h = absurd cc

unary_kind : (t : Tree) → is_unary t ≡ true → kind t ≡ k_unary
unary_kind (prefixed (tr.unary op) gs x) h = refl
unary_kind _ h = absurd cc

while_kind : (t : Tree) → is_while t ≡ true → kind t ≡ k_while
while_kind (frame (tr.while_loop w) ks) h = refl
while_kind _ h = absurd cc

yield_kind : (t : Tree) → is_yield t ≡ true → kind t ≡ k_yield
yield_kind (leaf (tr.bare_jump tr.yielding)) h = refl
yield_kind (prefixed (tr.jump tr.yielding) gs x) h = refl
yield_kind _ h = absurd cc

-- ---- and a value of it is

of_kind : (is : Tree → Bool) (ats : List AttributeTree) (t : Tree) → is_attributed t ≡ false → is t ≡ true → is (unattributed (attributed_with ats t)) ≡ true
of_kind is [] (attributed a more t) b h = absurd cc
of_kind is [] (leaf k) b h = h
of_kind is [] (paren m x) b h = h
of_kind is [] (prefixed k gs x) b h = h
of_kind is [] (infixed x op y) b h = h
of_kind is [] (postfixed x k) b h = h
of_kind is [] (tail x k ks) b h = h
of_kind is [] (frame k ks) b h = h
of_kind is (a ∷ more) t b h = h

jump_bare : (j : Jump) (x : Option Tree) → is_attributed (jump_with j x) ≡ false
jump_bare j None = refl
jump_bare j (Some x) = refl

break_with : (w : Option Text) (x : Option Tree) → is_break (jump_with (tr.breaking w) x) ≡ true
break_with w None = refl
break_with w (Some x) = refl

return_with : (x : Option Tree) → is_return (jump_with tr.returning x) ≡ true
return_with None = refl
return_with (Some x) = refl

yield_with : (x : Option Tree) → is_yield (jump_with tr.yielding x) ≡ true
yield_with None = refl
yield_with (Some x) = refl

range_bare : (op : Limits) (x y : Option Tree) → is_attributed (range_between op x y) ≡ false
range_bare op None None = refl
range_bare op None (Some y) = refl
range_bare op (Some x) None = refl
range_bare op (Some x) (Some y) = refl

range_with : (op : Limits) (x y : Option Tree) → is_range (range_between op x y) ≡ true
range_with op None None = refl
range_with op None (Some y) = refl
range_with op (Some x) None = refl
range_with op (Some x) (Some y) = refl

closure_bare : (r : ReturnTree) (h : ClosureHead) (gs : List Tree) (t : Tree) → is_attributed (closure_by r h gs t) ≡ false
closure_bare default h gs t = refl
closure_bare (given ty) h gs t = refl

closure_with : (r : ReturnTree) (h : ClosureHead) (gs : List Tree) (t : Tree) → is_closure (closure_by r h gs t) ≡ true
closure_with default h gs t = refl
closure_with (given ty) h gs t = refl

array_is : (x : ExprArrayOf Expr) → is_array (unattributed (expr_array_of tree_of x)) ≡ true
array_is x = search (rules, of_kind is_array)

assign_is : (x : ExprAssignOf Expr) → is_assign (unattributed (expr_assign_of tree_of x)) ≡ true
assign_is x = search (rules, of_kind is_assign)

await_is : (x : ExprAwaitOf Expr) → is_await (unattributed (expr_await_of tree_of x)) ≡ true
await_is x = search (rules, of_kind is_await)

binary_is : (x : ExprBinaryOf Expr) → is_binary (unattributed (expr_binary_of tree_of x)) ≡ true
binary_is x = search (rules, of_kind is_binary)

break_is : (x : ExprBreakOf Expr) → is_break (unattributed (expr_break_of tree_of x)) ≡ true
break_is x = search (rules, of_kind is_break, jump_bare, break_with)

call_is : (x : ExprCallOf Expr) → is_call (unattributed (expr_call_of tree_of x)) ≡ true
call_is x = search (rules, of_kind is_call)

cast_is : (x : ExprCastOf Expr) → is_cast (unattributed (expr_cast_of tree_of x)) ≡ true
cast_is x = search (rules, of_kind is_cast)

closure_is : (x : ExprClosure) → is_closure (unattributed (closure_of x)) ≡ true
closure_is x = search (rules, of_kind is_closure, closure_bare, closure_with, closure-is)

field_is : (x : ExprFieldOf Expr) → is_field (unattributed (expr_field_of tree_of x)) ≡ true
field_is x = search (rules, of_kind is_field)

for_loop_is : (x : ExprForLoop) → is_for_loop (unattributed (for_loop_of x)) ≡ true
for_loop_is x = search (rules, of_kind is_for_loop, for_loop-is)

if_is : (x : ExprIfOf Expr) → is_if_expr (unattributed (expr_if_of tree_of x)) ≡ true
if_is x = search (rules, of_kind is_if_expr)

index_is : (x : ExprIndexOf Expr) → is_index (unattributed (expr_index_of tree_of x)) ≡ true
index_is x = search (rules, of_kind is_index)

let_is : (x : ExprLet) → is_let (unattributed (let_of x)) ≡ true
let_is x = search (rules, of_kind is_let, let_expr-is)

match_is : (x : ExprMatch) → is_match (unattributed (match_of x)) ≡ true
match_is x = search (rules, of_kind is_match, match_expr-is)

method_call_is : (x : ExprMethodCallOf Expr) → is_method_call (unattributed (expr_method_call_of tree_of x)) ≡ true
method_call_is x = search (rules, of_kind is_method_call)

paren_is : (x : ExprParenOf Expr) → is_paren (unattributed (expr_paren_of tree_of x)) ≡ true
paren_is x = search (rules, of_kind is_paren)

range_is : (x : ExprRangeOf Expr) → is_range (unattributed (expr_range_of tree_of x)) ≡ true
range_is x = search (rules, of_kind is_range, range_bare, range_with)

raw_addr_is : (x : ExprRawAddrOf Expr) → is_raw_addr (unattributed (expr_raw_addr_of tree_of x)) ≡ true
raw_addr_is x = search (rules, of_kind is_raw_addr)

repeat_is : (x : ExprRepeatOf Expr) → is_repeat (unattributed (expr_repeat_of tree_of x)) ≡ true
repeat_is x = search (rules, of_kind is_repeat)

return_is : (x : ExprReturnOf Expr) → is_return (unattributed (expr_return_of tree_of x)) ≡ true
return_is x = search (rules, of_kind is_return, jump_bare, return_with)

try_is : (x : ExprTryOf Expr) → is_try (unattributed (expr_try_of tree_of x)) ≡ true
try_is x = search (rules, of_kind is_try)

tuple_is : (x : ExprTupleOf Expr) → is_tuple (unattributed (expr_tuple_of tree_of x)) ≡ true
tuple_is x = search (rules, of_kind is_tuple)

unary_is : (x : ExprUnaryOf Expr) → is_unary (unattributed (expr_unary_of tree_of x)) ≡ true
unary_is x = search (rules, of_kind is_unary)

while_is : (x : ExprWhileOf Expr) → is_while (unattributed (expr_while_of tree_of x)) ≡ true
while_is x = search (rules, of_kind is_while)

yield_is : (x : ExprYieldOf Expr) → is_yield (unattributed (expr_yield_of tree_of x)) ≡ true
yield_is x = search (rules, of_kind is_yield, jump_bare, yield_with)

-- of a variant by itself, for who asks by reference

found : {S : Type 0} (variant : S → Expr) (tree : S → Tree) (is : Tree → Bool) → ((x : S) → tree_of (variant x) ≡ tree x) → ((x : S) → is (unattributed (tree x)) ≡ true)
    → (v : Expr) (x : S) → v ≡ variant x → (tree x ≡ tree_of v) × (is (unattributed (tree_of v)) ≡ true)
found variant tree is shown holds v x same =
    let h : tree_of v ≡ tree x = ap tree_of same ∙ shown x in
    (sym h, ap (λ t. is (unattributed t)) h ∙ holds x)

pub found_closure : (v : Expr) (x : ExprClosure) → v ≡ ex.Closure x → (closure_of x ≡ tree_of v) × (is_closure (unattributed (tree_of v)) ≡ true)
found_closure = found ex.Closure closure_of is_closure tree-Closure closure_is

pub not_closure : (v : Expr) → ((x : ExprClosure) → v ≡ ex.Closure x → ⊥) → is_closure (unattributed (tree_of v)) ≡ false
not_closure = not_kind ex.Closure is_closure k_closure closure_kind (elim [ Expr-F.Closure x ↦ inl (x, ex.rolls-Closure x) | _ ↦ inr (λ h. cc) ])

pub not_method_call : (v : Expr) → ((x : ExprMethodCallOf Expr) → v ≡ ex.MethodCall x → ⊥) → is_method_call (unattributed (tree_of v)) ≡ false
not_method_call = not_kind ex.MethodCall is_method_call k_method_call method_call_kind (elim [ Expr-F.MethodCall x ↦ inl (x, ex.rolls-MethodCall x) | _ ↦ inr (λ h. cc) ])

pub found_return : (v : Expr) (x : ExprReturnOf Expr) → v ≡ ex.Return x → (expr_return_of tree_of x ≡ tree_of v) × (is_return (unattributed (tree_of v)) ≡ true)
found_return = found ex.Return (expr_return_of tree_of) is_return tree-Return return_is

pub not_return : (v : Expr) → ((x : ExprReturnOf Expr) → v ≡ ex.Return x → ⊥) → is_return (unattributed (tree_of v)) ≡ false
not_return = not_kind ex.Return is_return k_return return_kind (elim [ Expr-F.Return x ↦ inl (x, ex.rolls-Return x) | _ ↦ inr (λ h. cc) ])

-- ---- the place of each kind in what an expression is taken apart to

taken_kind : {S : Type 0} (variant : S → Expr) (place : Taken → Option S) (tree : S → Tree) (is : Tree → Bool) (k : Kind) → ((t : Tree) → is t ≡ true → kind t ≡ k)
    → ((x : S) → tree_of (variant x) ≡ tree x) → ((x : S) → is (unattributed (tree x)) ≡ true)
    → ((e : Expr) (l : Expr-F Expr Pat ExprClosure Arm ExprForLoop ExprLet ExprMatch PatGuard)
    → ((x : S) × (roll-Expr l ≡ variant x) × (place (taken_at e l) ≡ Some x)) ⊎ ((place (taken_at e l) ≡ None) × (layer_kind l ≡ k → ⊥)))
    → (v : Expr) → IsStruct tree is v (place (taken_of v))
taken_kind variant place tree is k f shown holds levels v =
    ⊎_elim (λ h.
    let same : v ≡ variant h.0 = sym (roll-out-Expr v) ∙ h.1 in
    let e : tree_of v ≡ tree h.0 = ap tree_of same ∙ shown h.0 in
    subst (IsStruct tree is v) (sym h.2) (sym e, ap (λ t. is (unattributed t)) e ∙ holds h.0))
    (λ h. subst (IsStruct tree is v) (sym h.0) (false_from_ne_true (is (unattributed (tree_of v)))
    (λ e. h.1 (sym (kind_is (out-Expr v)) ∙ ap kind (sym (tree_out v)) ∙ behind is k f (tree_of v) e))))
    (levels v (out-Expr v))

-- as it is asked: of what was taken, and of what the place gave
placed : {S : Type 0} (place : Taken → Option S) (tree : S → Tree) (is : Tree → Bool) → ((v : Expr) → IsStruct tree is v (place (taken_of v)))
    → (t : Taken) (o : Option S) → o ≡ place t → (v : Expr) → t ≡ taken_of v → IsStruct tree is v o
placed place tree is f t o e v h = subst (IsStruct tree is v) (sym (e ∙ ap place h)) (f v)

pub taken_array : (t : Taken) (o : Option (ExprArrayOf Expr)) → o ≡ t.array → (v : Expr) → t ≡ taken_of v → IsStruct (expr_array_of tree_of) is_array v o
taken_array = placed (λ t. t.array) (expr_array_of tree_of) is_array (taken_kind ex.Array (λ t. t.array) (expr_array_of tree_of) is_array k_array array_kind tree-Array array_is (λ e. elim [ Expr-F.Array x ↦ inl (x, ex.rolls-Array x, refl) | _ ↦ inr (refl, λ h. cc) ]))

pub taken_assign : (t : Taken) (o : Option (ExprAssignOf Expr)) → o ≡ t.assign → (v : Expr) → t ≡ taken_of v → IsStruct (expr_assign_of tree_of) is_assign v o
taken_assign = placed (λ t. t.assign) (expr_assign_of tree_of) is_assign (taken_kind ex.Assign (λ t. t.assign) (expr_assign_of tree_of) is_assign k_assign assign_kind tree-Assign assign_is (λ e. elim [ Expr-F.Assign x ↦ inl (x, ex.rolls-Assign x, refl) | _ ↦ inr (refl, λ h. cc) ]))

pub taken_await : (t : Taken) (o : Option (ExprAwaitOf Expr)) → o ≡ t.await_expr → (v : Expr) → t ≡ taken_of v → IsStruct (expr_await_of tree_of) is_await v o
taken_await = placed (λ t. t.await_expr) (expr_await_of tree_of) is_await (taken_kind ex.Await (λ t. t.await_expr) (expr_await_of tree_of) is_await k_await await_kind tree-Await await_is (λ e. elim [ Expr-F.Await x ↦ inl (x, ex.rolls-Await x, refl) | _ ↦ inr (refl, λ h. cc) ]))

pub taken_binary : (t : Taken) (o : Option (ExprBinaryOf Expr)) → o ≡ t.binary → (v : Expr) → t ≡ taken_of v → IsStruct (expr_binary_of tree_of) is_binary v o
taken_binary = placed (λ t. t.binary) (expr_binary_of tree_of) is_binary (taken_kind ex.Binary (λ t. t.binary) (expr_binary_of tree_of) is_binary k_binary binary_kind tree-Binary binary_is (λ e. elim [ Expr-F.Binary x ↦ inl (x, ex.rolls-Binary x, refl) | _ ↦ inr (refl, λ h. cc) ]))

pub taken_break : (t : Taken) (o : Option (ExprBreakOf Expr)) → o ≡ t.break_expr → (v : Expr) → t ≡ taken_of v → IsStruct (expr_break_of tree_of) is_break v o
taken_break = placed (λ t. t.break_expr) (expr_break_of tree_of) is_break (taken_kind ex.Break (λ t. t.break_expr) (expr_break_of tree_of) is_break k_break break_kind tree-Break break_is (λ e. elim [ Expr-F.Break x ↦ inl (x, ex.rolls-Break x, refl) | _ ↦ inr (refl, λ h. cc) ]))

pub taken_call : (t : Taken) (o : Option (ExprCallOf Expr)) → o ≡ t.call → (v : Expr) → t ≡ taken_of v → IsStruct (expr_call_of tree_of) is_call v o
taken_call = placed (λ t. t.call) (expr_call_of tree_of) is_call (taken_kind ex.Call (λ t. t.call) (expr_call_of tree_of) is_call k_call call_kind tree-Call call_is (λ e. elim [ Expr-F.Call x ↦ inl (x, ex.rolls-Call x, refl) | _ ↦ inr (refl, λ h. cc) ]))

pub taken_cast : (t : Taken) (o : Option (ExprCastOf Expr)) → o ≡ t.cast → (v : Expr) → t ≡ taken_of v → IsStruct (expr_cast_of tree_of) is_cast v o
taken_cast = placed (λ t. t.cast) (expr_cast_of tree_of) is_cast (taken_kind ex.Cast (λ t. t.cast) (expr_cast_of tree_of) is_cast k_cast cast_kind tree-Cast cast_is (λ e. elim [ Expr-F.Cast x ↦ inl (x, ex.rolls-Cast x, refl) | _ ↦ inr (refl, λ h. cc) ]))

pub taken_closure : (t : Taken) (o : Option (ExprClosure)) → o ≡ t.closure → (v : Expr) → t ≡ taken_of v → IsStruct closure_of is_closure v o
taken_closure = placed (λ t. t.closure) closure_of is_closure (taken_kind ex.Closure (λ t. t.closure) closure_of is_closure k_closure closure_kind tree-Closure closure_is (λ e. elim [ Expr-F.Closure x ↦ inl (x, ex.rolls-Closure x, refl) | _ ↦ inr (refl, λ h. cc) ]))

pub taken_field : (t : Taken) (o : Option (ExprFieldOf Expr)) → o ≡ t.field → (v : Expr) → t ≡ taken_of v → IsStruct (expr_field_of tree_of) is_field v o
taken_field = placed (λ t. t.field) (expr_field_of tree_of) is_field (taken_kind ex.Field (λ t. t.field) (expr_field_of tree_of) is_field k_field field_kind tree-Field field_is (λ e. elim [ Expr-F.Field x ↦ inl (x, ex.rolls-Field x, refl) | _ ↦ inr (refl, λ h. cc) ]))

pub taken_for_loop : (t : Taken) (o : Option (ExprForLoop)) → o ≡ t.for_loop → (v : Expr) → t ≡ taken_of v → IsStruct for_loop_of is_for_loop v o
taken_for_loop = placed (λ t. t.for_loop) for_loop_of is_for_loop (taken_kind ex.ForLoop (λ t. t.for_loop) for_loop_of is_for_loop k_for_loop for_loop_kind tree-ForLoop for_loop_is (λ e. elim [ Expr-F.ForLoop x ↦ inl (x, ex.rolls-ForLoop x, refl) | _ ↦ inr (refl, λ h. cc) ]))

pub taken_if : (t : Taken) (o : Option (ExprIfOf Expr)) → o ≡ t.if_expr → (v : Expr) → t ≡ taken_of v → IsStruct (expr_if_of tree_of) is_if_expr v o
taken_if = placed (λ t. t.if_expr) (expr_if_of tree_of) is_if_expr (taken_kind ex.If (λ t. t.if_expr) (expr_if_of tree_of) is_if_expr k_if if_kind tree-If if_is (λ e. elim [ Expr-F.If x ↦ inl (x, ex.rolls-If x, refl) | _ ↦ inr (refl, λ h. cc) ]))

pub taken_index : (t : Taken) (o : Option (ExprIndexOf Expr)) → o ≡ t.index → (v : Expr) → t ≡ taken_of v → IsStruct (expr_index_of tree_of) is_index v o
taken_index = placed (λ t. t.index) (expr_index_of tree_of) is_index (taken_kind ex.Index (λ t. t.index) (expr_index_of tree_of) is_index k_index index_kind tree-Index index_is (λ e. elim [ Expr-F.Index x ↦ inl (x, ex.rolls-Index x, refl) | _ ↦ inr (refl, λ h. cc) ]))

pub taken_let : (t : Taken) (o : Option (ExprLet)) → o ≡ t.let_expr → (v : Expr) → t ≡ taken_of v → IsStruct let_of is_let v o
taken_let = placed (λ t. t.let_expr) let_of is_let (taken_kind ex.Let (λ t. t.let_expr) let_of is_let k_let let_kind tree-Let let_is (λ e. elim [ Expr-F.Let x ↦ inl (x, ex.rolls-Let x, refl) | _ ↦ inr (refl, λ h. cc) ]))

pub taken_match : (t : Taken) (o : Option (ExprMatch)) → o ≡ t.match_expr → (v : Expr) → t ≡ taken_of v → IsStruct match_of is_match v o
taken_match = placed (λ t. t.match_expr) match_of is_match (taken_kind ex.Match (λ t. t.match_expr) match_of is_match k_match match_kind tree-Match match_is (λ e. elim [ Expr-F.Match x ↦ inl (x, ex.rolls-Match x, refl) | _ ↦ inr (refl, λ h. cc) ]))

pub taken_method_call : (t : Taken) (o : Option (ExprMethodCallOf Expr)) → o ≡ t.method_call → (v : Expr) → t ≡ taken_of v → IsStruct (expr_method_call_of tree_of) is_method_call v o
taken_method_call = placed (λ t. t.method_call) (expr_method_call_of tree_of) is_method_call (taken_kind ex.MethodCall (λ t. t.method_call) (expr_method_call_of tree_of) is_method_call k_method_call method_call_kind tree-MethodCall method_call_is (λ e. elim [ Expr-F.MethodCall x ↦ inl (x, ex.rolls-MethodCall x, refl) | _ ↦ inr (refl, λ h. cc) ]))

pub taken_paren : (t : Taken) (o : Option (ExprParenOf Expr)) → o ≡ t.paren → (v : Expr) → t ≡ taken_of v → IsStruct (expr_paren_of tree_of) is_paren v o
taken_paren = placed (λ t. t.paren) (expr_paren_of tree_of) is_paren (taken_kind ex.Paren (λ t. t.paren) (expr_paren_of tree_of) is_paren k_paren paren_kind tree-Paren paren_is (λ e. elim [ Expr-F.Expr::Paren x ↦ inl (x, ex.rolls-Paren x, refl) | _ ↦ inr (refl, λ h. cc) ]))

pub taken_range : (t : Taken) (o : Option (ExprRangeOf Expr)) → o ≡ t.range → (v : Expr) → t ≡ taken_of v → IsStruct (expr_range_of tree_of) is_range v o
taken_range = placed (λ t. t.range) (expr_range_of tree_of) is_range (taken_kind ex.Range (λ t. t.range) (expr_range_of tree_of) is_range k_range range_kind tree-Range range_is (λ e. elim [ Expr-F.Expr::Range x ↦ inl (x, ex.rolls-Range x, refl) | _ ↦ inr (refl, λ h. cc) ]))

pub taken_raw_addr : (t : Taken) (o : Option (ExprRawAddrOf Expr)) → o ≡ t.raw_addr → (v : Expr) → t ≡ taken_of v → IsStruct (expr_raw_addr_of tree_of) is_raw_addr v o
taken_raw_addr = placed (λ t. t.raw_addr) (expr_raw_addr_of tree_of) is_raw_addr (taken_kind ex.RawAddr (λ t. t.raw_addr) (expr_raw_addr_of tree_of) is_raw_addr k_raw_addr raw_addr_kind tree-RawAddr raw_addr_is (λ e. elim [ Expr-F.RawAddr x ↦ inl (x, ex.rolls-RawAddr x, refl) | _ ↦ inr (refl, λ h. cc) ]))

pub taken_repeat : (t : Taken) (o : Option (ExprRepeatOf Expr)) → o ≡ t.repeat → (v : Expr) → t ≡ taken_of v → IsStruct (expr_repeat_of tree_of) is_repeat v o
taken_repeat = placed (λ t. t.repeat) (expr_repeat_of tree_of) is_repeat (taken_kind ex.Repeat (λ t. t.repeat) (expr_repeat_of tree_of) is_repeat k_repeat repeat_kind tree-Repeat repeat_is (λ e. elim [ Expr-F.Repeat x ↦ inl (x, ex.rolls-Repeat x, refl) | _ ↦ inr (refl, λ h. cc) ]))

pub taken_return : (t : Taken) (o : Option (ExprReturnOf Expr)) → o ≡ t.return_expr → (v : Expr) → t ≡ taken_of v → IsStruct (expr_return_of tree_of) is_return v o
taken_return = placed (λ t. t.return_expr) (expr_return_of tree_of) is_return (taken_kind ex.Return (λ t. t.return_expr) (expr_return_of tree_of) is_return k_return return_kind tree-Return return_is (λ e. elim [ Expr-F.Return x ↦ inl (x, ex.rolls-Return x, refl) | _ ↦ inr (refl, λ h. cc) ]))

pub taken_try : (t : Taken) (o : Option (ExprTryOf Expr)) → o ≡ t.try_expr → (v : Expr) → t ≡ taken_of v → IsStruct (expr_try_of tree_of) is_try v o
taken_try = placed (λ t. t.try_expr) (expr_try_of tree_of) is_try (taken_kind ex.Try (λ t. t.try_expr) (expr_try_of tree_of) is_try k_try try_kind tree-Try try_is (λ e. elim [ Expr-F.Try x ↦ inl (x, ex.rolls-Try x, refl) | _ ↦ inr (refl, λ h. cc) ]))

pub taken_tuple : (t : Taken) (o : Option (ExprTupleOf Expr)) → o ≡ t.tuple → (v : Expr) → t ≡ taken_of v → IsStruct (expr_tuple_of tree_of) is_tuple v o
taken_tuple = placed (λ t. t.tuple) (expr_tuple_of tree_of) is_tuple (taken_kind ex.Tuple (λ t. t.tuple) (expr_tuple_of tree_of) is_tuple k_tuple tuple_kind tree-Tuple tuple_is (λ e. elim [ Expr-F.Expr::Tuple x ↦ inl (x, ex.rolls-Tuple x, refl) | _ ↦ inr (refl, λ h. cc) ]))

pub taken_unary : (t : Taken) (o : Option (ExprUnaryOf Expr)) → o ≡ t.unary → (v : Expr) → t ≡ taken_of v → IsStruct (expr_unary_of tree_of) is_unary v o
taken_unary = placed (λ t. t.unary) (expr_unary_of tree_of) is_unary (taken_kind ex.Unary (λ t. t.unary) (expr_unary_of tree_of) is_unary k_unary unary_kind tree-Unary unary_is (λ e. elim [ Expr-F.Unary x ↦ inl (x, ex.rolls-Unary x, refl) | _ ↦ inr (refl, λ h. cc) ]))

pub taken_while : (t : Taken) (o : Option (ExprWhileOf Expr)) → o ≡ t.while_expr → (v : Expr) → t ≡ taken_of v → IsStruct (expr_while_of tree_of) is_while v o
taken_while = placed (λ t. t.while_expr) (expr_while_of tree_of) is_while (taken_kind ex.While (λ t. t.while_expr) (expr_while_of tree_of) is_while k_while while_kind tree-While while_is (λ e. elim [ Expr-F.While x ↦ inl (x, ex.rolls-While x, refl) | _ ↦ inr (refl, λ h. cc) ]))

pub taken_yield : (t : Taken) (o : Option (ExprYieldOf Expr)) → o ≡ t.yield_expr → (v : Expr) → t ≡ taken_of v → IsStruct (expr_yield_of tree_of) is_yield v o
taken_yield = placed (λ t. t.yield_expr) (expr_yield_of tree_of) is_yield (taken_kind ex.Yield (λ t. t.yield_expr) (expr_yield_of tree_of) is_yield k_yield yield_kind tree-Yield yield_is (λ e. elim [ Expr-F.Yield x ↦ inl (x, ex.rolls-Yield x, refl) | _ ↦ inr (refl, λ h. cc) ]))

-- ---- invisible groups

-- a group, after attributes too
abbrev is_group : Tree → Bool
is_group (frame tr.group_expr ks) = true
is_group (attributed a more x) = is_group x
is_group _ = false

group_kind : (t : Tree) → is_group t ≡ true → kind t ≡ k_group
group_kind (attributed a more x) h = group_kind x h
group_kind (frame tr.group_expr ks) h = refl
group_kind _ h = absurd cc

bare_group : (t : Tree) → is_group (unattributed t) ≡ false → is_group t ≡ false
bare_group (attributed a more x) h = h
bare_group (leaf k) h = refl
bare_group (paren m x) h = refl
bare_group (prefixed k gs x) h = refl
bare_group (infixed x op y) h = refl
bare_group (postfixed x k) h = refl
bare_group (tail b k ks) h = refl
bare_group (frame k ks) h = h

not_group : (v : Expr) → ((x : ExprGroupOf Expr) → v ≡ ex.Group x → ⊥) → is_group (tree_of v) ≡ false
not_group v other = bare_group (tree_of v) (not_kind ex.Group is_group k_group group_kind (elim [ Expr-F.Group x ↦ inl (x, ex.rolls-Group x) | _ ↦ inr (λ h. cc) ]) v other)

ungrouped_bare : (t : Tree) → is_group t ≡ false → ungrouped t ≡ t
ungrouped_bare (frame tr.group_expr (child k c x ks)) h = absurd cc
ungrouped_bare (attributed a more (frame tr.group_expr (child k c x ks))) h = absurd cc
ungrouped_bare _ h = refl

holds_bare : (t : Tree) → is_group t ≡ false → holds_block t ≡ is_block_like t
holds_bare (frame tr.group_expr (child k c x ks)) h = absurd cc
holds_bare (attributed a more x) h = holds_bare x h
holds_bare _ h = refl

-- another is what it is in no group
pub ungrouped_other : (v : Expr) → ((x : ExprGroupOf Expr) → v ≡ ex.Group x → ⊥) → ungrouped (tree_of v) ≡ tree_of v
ungrouped_other v other = ungrouped_bare (tree_of v) (not_group v other)

pub holds_other : (v : Expr) → ((x : ExprGroupOf Expr) → v ≡ ex.Group x → ⊥) → holds_block (tree_of v) ≡ is_block_like (tree_of v)
holds_other v other = holds_bare (tree_of v) (not_group v other)

-- attributes before a group go with it
ungrouped_in : (ats : List AttributeTree) (t : Tree) → ungrouped (attributed_with ats (frame tr.group_expr (child tr.grouped tr.no_ending t none))) ≡ ungrouped t
ungrouped_in [] t = refl
ungrouped_in (a ∷ more) t = refl

-- what a group holds, in no group
pub ungrouped_from : (v r : Expr) (x : ExprGroupOf Expr) → v ≡ ex.Group x → tree_of r ≡ ungrouped (tree_of x.expr.value) → tree_of r ≡ ungrouped (tree_of v)
ungrouped_from v r x same h =
    h ∙ sym (ap (λ u. ungrouped (tree_of u)) same ∙ ap ungrouped (tree-Group x) ∙ ungrouped_in (attrs_of x.attrs) (tree_of x.expr.value))

pub ruleset held = (holds_other)
