-- The operands of each kind of node, by its parts and by the struct of the kind.
use Rattle.std.proofs.Common.{◌≡◌, Bool, false, not, ◌&&◌, List, [], ◌∷◌, ◌++◌, map, flat_map, Option, Some, None, is_some, Result, refl, sym, ap, ◌∙◌}
use Rattle.std.proofs.lemmas.List.{append-nil, append_assoc, map-append}
use denote.Ref.{MutBor}
use Rattle.std.specs.declared.boxed.Box.{Box}
use Rattle.std.specs.declared.alloc.Global.{Global}
use Rattle.std.proofs.lemmas.List.Folds.{flat_map-map}
use Rattle.syn_lower_leaves.specs.View.{lifetime_of}
use Rattle.syn_lower.specs.View.{is_mut, last_of, mapped, path_of, qself_or, return_of, trails, type_of, values}
use Rattle.syn_expr_tokens.specs.View.{bin_kind, limits_kind, un_kind, label_of, member_of}
use Rattle.syn_lower_spec.specs.Tree.{AttributeTree, ReturnTree, default, given}
use Rattle.syn_lower_spec.specs.Pat as p
use Rattle.syn_lower_spec.specs.Pat.{PatTree}
use Rattle.syn_expr_spec.specs.declared.kinds.Infix.TheVariants as inf
use Rattle.syn_expr_spec.specs.declared.kinds.Limits.{Limits}
use Rattle.syn_expr_spec.specs.Tree as e
use Rattle.syn_expr_spec.specs.Tree.{Tree, Children, Piece, Jump, ClosureHead, paren, prefixed, infixed, postfixed, tail, frame, none, child, attributed_with, body_of}
use Rattle.syn_pat.specs.View.{PatView}
use Rattle.syn_expr_ast.specs.Attrs.{attrs_of, inner_of, outer_of}
use Rattle.syn_expr_ast.specs.Both.{closure_head_of, expr_closure_of, expr_for_loop_of, expr_let_of, expr_match_of}
use Rattle.syn_expr_ast.specs.Pats.{ArmView, arm_ending, arm_children, arms, closure_by, guard_children, guards, strays}
use Rattle.syn_expr_ast.specs.View.{FieldView, boxed, elements, else_of, fields, jump_with, option_child, range_between, field_value_of, turbofish_of, expr_array_of, expr_assign_of, expr_await_of, expr_binary_of, expr_break_of, expr_call_of, expr_cast_of, expr_field_of, expr_group_of, expr_if_of, expr_index_of, expr_method_call_of, expr_paren_of, expr_range_of, expr_raw_addr_of, expr_reference_of, expr_repeat_of, expr_return_of, expr_struct_of, expr_try_of, expr_tuple_of, expr_unary_of, expr_while_of, expr_yield_of}
use Rattle.syn_expr_ast.specs.declared.atom.ExprArrayOf.{ExprArrayOf}
use Rattle.syn_expr_ast.specs.declared.atom.ExprGroupOf.{ExprGroupOf}
use Rattle.syn_expr_ast.specs.declared.atom.ExprParenOf.{ExprParenOf}
use Rattle.syn_expr_ast.specs.declared.atom.ExprRepeatOf.{ExprRepeatOf}
use Rattle.syn_expr_ast.specs.declared.atom.ExprTupleOf.{ExprTupleOf}
use Rattle.syn_expr_ast.specs.declared.operation.ExprAssignOf.{ExprAssignOf}
use Rattle.syn_expr_ast.specs.declared.operation.ExprBinaryOf.{ExprBinaryOf}
use Rattle.syn_expr_ast.specs.declared.operation.ExprCastOf.{ExprCastOf}
use Rattle.syn_expr_ast.specs.declared.operation.ExprRangeOf.{ExprRangeOf}
use Rattle.syn_expr_ast.specs.declared.operation.ExprRawAddrOf.{ExprRawAddrOf}
use Rattle.syn_expr_ast.specs.declared.operation.ExprReferenceOf.{ExprReferenceOf}
use Rattle.syn_expr_ast.specs.declared.operation.ExprUnaryOf.{ExprUnaryOf}
use Rattle.syn_expr_ast.specs.declared.trailer.ExprAwaitOf.{ExprAwaitOf}
use Rattle.syn_expr_ast.specs.declared.trailer.ExprCallOf.{ExprCallOf}
use Rattle.syn_expr_ast.specs.declared.trailer.ExprFieldOf.{ExprFieldOf}
use Rattle.syn_expr_ast.specs.declared.trailer.ExprIndexOf.{ExprIndexOf}
use Rattle.syn_expr_ast.specs.declared.trailer.ExprMethodCallOf.{ExprMethodCallOf}
use Rattle.syn_expr_ast.specs.declared.trailer.ExprTryOf.{ExprTryOf}
use Rattle.syn_expr_ast.specs.declared.block.ExprIfOf.{ExprIfOf}
use Rattle.syn_expr_ast.specs.declared.block.ExprWhileOf.{ExprWhileOf}
use Rattle.syn_expr_ast.specs.declared.jump.ExprBreakOf.{ExprBreakOf}
use Rattle.syn_expr_ast.specs.declared.jump.ExprReturnOf.{ExprReturnOf}
use Rattle.syn_expr_ast.specs.declared.jump.ExprYieldOf.{ExprYieldOf}
use Rattle.syn_expr_ast.specs.declared.structure.ExprStructOf.{ExprStructOf}
use Rattle.syn_expr_ast.specs.declared.structure.FieldValueOf.{FieldValueOf}
use Rattle.syn_expr_ast.specs.declared.pattern.ExprClosureOf.{ExprClosureOf}
use Rattle.syn_expr_ast.specs.declared.pattern.ExprForLoopOf.{ExprForLoopOf}
use Rattle.syn_expr_ast.specs.declared.pattern.ExprLetOf.{ExprLetOf}
use Rattle.syn_expr_ast.specs.declared.pattern.ExprMatchOf.{ExprMatchOf}
use Rattle.syn_visit_kinds.specs.Changes.{Change, Changed, ChangedIn, SameAround}
use Rattle.syn_visit_kinds.specs.Nodes.{child_operands, operands_in}
use Rattle.syn_visit_kinds.specs.Parts.{arm_operands, else_operand}
use Rattle.syn_visit_kinds.proofs.Changes.{change_shown, changed_map, changed_same}

-- ---- the operands of a node

abbrev pub optional : {A : Type 0} → Option A → List A
optional None = []
optional (Some x) = x ∷ []

pub attributed_operands : (ats : List AttributeTree) (t : Tree) → operands_in (attributed_with ats t) ≡ operands_in t
attributed_operands [] t = refl
attributed_operands (a ∷ more) t = refl

pub elements_operands : (ts : List Tree) (b : Bool) → child_operands (elements ts b) ≡ ts
elements_operands [] b = refl
elements_operands (t ∷ ts) b = ap (λ l. t ∷ l) (elements_operands ts b)

pub option_operands : (k : Piece) (o : Option Tree) → child_operands (option_child k o) ≡ optional o
option_operands k None = refl
option_operands k (Some t) = refl

pub fields_operands : (xs : List FieldView) (b : Bool) (ks : Children) → child_operands (fields xs b ks) ≡ map (λ (x : FieldView). x.value) xs ++ child_operands ks
fields_operands [] b ks = refl
fields_operands (x ∷ xs) b ks = ap (λ l. x.value ∷ l) (fields_operands xs b ks)

pub jump_operands : (j : Jump) (o : Option Tree) → operands_in (jump_with j o) ≡ optional o
jump_operands j None = refl
jump_operands j (Some t) = refl

pub range_operands : (op : Limits) (o n : Option Tree) → operands_in (range_between op o n) ≡ optional o ++ optional n
range_operands op None None = refl
range_operands op None (Some y) = refl
range_operands op (Some x) None = refl
range_operands op (Some x) (Some y) = refl

pub strays_operands : (gs : List Tree) (ks : Children) → child_operands (strays gs ks) ≡ gs ++ child_operands ks
strays_operands [] ks = refl
strays_operands (g ∷ gs) ks = ap (λ l. g ∷ l) (strays_operands gs ks)

pub prefix_operands : (gs : List Tree) → child_operands (strays gs none) ≡ gs
prefix_operands gs = strays_operands gs none ∙ append-nil gs

pub closure_operands : (r : ReturnTree) (h : ClosureHead) (gs : List Tree) (t : Tree) → operands_in (closure_by r h gs t) ≡ gs ++ t ∷ []
closure_operands default h gs t = ap (λ l. l ++ t ∷ []) (prefix_operands gs)
closure_operands (given ty) h gs t = strays_operands gs (child e.output_block e.no_ending t none)

guard_operands : (k : Piece) (t : Tree) (gs : List Tree) (ks : Children) → child_operands (guard_children k t gs ks) ≡ (t ∷ gs) ++ child_operands ks
guard_operands k t [] ks = refl
guard_operands k t (g ∷ gs) ks = ap (λ l. t ∷ l) (guard_operands k g gs ks)

plain_operands : (x : ArmView) (q : PatTree) (gs : List Tree) (ks : Children) → child_operands (strays gs (child (e.arm x.attrs q) (arm_ending x.comma) x.body ks)) ≡ gs ++ x.body ∷ child_operands ks
plain_operands x q gs ks = strays_operands gs (child (e.arm x.attrs q) (arm_ending x.comma) x.body ks)

arm_children_operands : (x : ArmView) (q : PatTree) (gs : List Tree) (ks : Children) → child_operands (arm_children x q gs ks) ≡ gs ++ x.body ∷ child_operands ks
arm_children_operands x (p.guarded q) (g ∷ gs) ks = guard_operands (e.guard x.attrs q) g gs (child e.guarded (arm_ending x.comma) x.body ks)
arm_children_operands x (p.guarded q) [] ks = refl
arm_children_operands x _ gs ks = plain_operands x _ gs ks

pub arms_operands : (xs : List ArmView) → child_operands (arms xs) ≡ flat_map arm_operands xs
arms_operands [] = refl
arms_operands (x ∷ xs) =
    arm_children_operands x x.pat.tree x.pat.guards (arms xs) ∙ ap (λ l. x.pat.guards ++ x.body ∷ l) (arms_operands xs)
    ∙ sym (append_assoc x.pat.guards (x.body ∷ []) (flat_map arm_operands xs))

-- ---- of each kind

pub record HasOperands (t : Tree) (ts : List Tree) : Type 0 where
  pub are : operands_in t ≡ ts

-- after attributes
after : (ats : List AttributeTree) (t : Tree) (ts : List Tree) → operands_in t ≡ ts → HasOperands (attributed_with ats t) ts
after ats t ts h = record { are = attributed_operands ats t ∙ h }

option_shown : {E : Type 0} (f : E → Tree) (o : Option (Box E Global)) → optional (boxed f o) ≡ map f (last_of o)
option_shown f None = refl
option_shown f (Some b) = refl

else_shown : {E S : Type 0} (f : E → Tree) (o : Option (S × Box E Global)) → child_operands (else_of f o) ≡ map f (else_operand o)
else_shown f None = refl
else_shown f (Some q) = refl

map_both : {A B C : Type 0} (h : B → C) (k : A → B) (xs : List A) → map h (map k xs) ≡ map (λ x. h (k x)) xs
map_both h k [] = refl
map_both h k (x ∷ xs) = ap (λ l. h (k x) ∷ l) (map_both h k xs)

-- where these are passed to a call
pub changed_in : {E R : Type 0} (h : E → Tree) {post : MutBor E → Result (Unit {0}) R → MutBor E → Type 0} {xs ys : List E} {t u : Tree} {r : Result (Unit {0}) R} → Changed (Change (λ z. z) post) xs r ys
    → HasOperands t (map h xs) → HasOperands u (map h ys) → SameAround t u → ChangedIn (Change h post) t r u
changed_in h c old new around = record { operands = changed_same old.are new.are (changed_map h (change_shown h) c); around = around }

module _ {E : Type 0} (f : E → Tree) where
  pub array_operands : (x : ExprArrayOf E) → HasOperands (expr_array_of f x) (map f (values x.elems))
  array_operands x = after (attrs_of x.attrs) (frame e.array (elements (map f (values x.elems)) (trails x.elems))) _ (elements_operands (map f (values x.elems)) (trails x.elems))

  pub group_operands : (x : ExprGroupOf E) → HasOperands (expr_group_of f x) (f x.expr.value ∷ [])
  group_operands x = after (attrs_of x.attrs) (frame e.group_expr (child e.grouped e.no_ending (f x.expr.value) none)) _ refl

  pub paren_operands : (x : ExprParenOf E) → HasOperands (expr_paren_of f x) (f x.expr.value ∷ [])
  paren_operands x = after (attrs_of x.attrs) (paren false (f x.expr.value)) _ refl

  pub repeat_operands : (x : ExprRepeatOf E) → HasOperands (expr_repeat_of f x) (f x.expr.value ∷ f x.len.value ∷ [])
  repeat_operands x = after (attrs_of x.attrs) (frame e.repeat (child e.repeated e.no_ending (f x.expr.value) (child e.value e.no_ending (f x.len.value) none))) _ refl

  pub tuple_operands : (x : ExprTupleOf E) → HasOperands (expr_tuple_of f x) (map f (values x.elems))
  tuple_operands x = after (attrs_of x.attrs) (frame e.tuple (elements (map f (values x.elems)) (trails x.elems))) _ (elements_operands (map f (values x.elems)) (trails x.elems))

  pub assign_operands : (x : ExprAssignOf E) → HasOperands (expr_assign_of f x) (f x.left.value ∷ f x.right.value ∷ [])
  assign_operands x = after (attrs_of x.attrs) (infixed (f x.left.value) inf.Assign (f x.right.value)) _ refl

  pub binary_operands : (x : ExprBinaryOf E) → HasOperands (expr_binary_of f x) (f x.left.value ∷ f x.right.value ∷ [])
  binary_operands x = after (attrs_of x.attrs) (infixed (f x.left.value) (inf.Binary (bin_kind x.op)) (f x.right.value)) _ refl

  pub cast_operands : (x : ExprCastOf E) → HasOperands (expr_cast_of f x) (f x.expr.value ∷ [])
  cast_operands x = after (attrs_of x.attrs) (postfixed (f x.expr.value) (e.cast (type_of x.ty.value))) _ refl

  pub range_expr_operands : (x : ExprRangeOf E) → HasOperands (expr_range_of f x) (map f (last_of x.start ++ last_of x.end))
  range_expr_operands x =
      after (attrs_of x.attrs) (range_between (limits_kind x.limits) (boxed f x.start) (boxed f x.end)) _ (range_operands (limits_kind x.limits) (boxed f x.start) (boxed f x.end)
      ∙ ap (λ l. l ++ optional (boxed f x.end)) (option_shown f x.start) ∙ ap (λ l. map f (last_of x.start) ++ l) (option_shown f x.end)
      ∙ sym (map-append f (last_of x.start) (last_of x.end)))

  pub raw_addr_operands : (x : ExprRawAddrOf E) → HasOperands (expr_raw_addr_of f x) (f x.expr.value ∷ [])
  raw_addr_operands x = after (attrs_of x.attrs) (prefixed (e.raw_addr (is_mut x.mutability)) none (f x.expr.value)) _ refl

  pub reference_operands : (x : ExprReferenceOf E) → HasOperands (expr_reference_of f x) (f x.expr.value ∷ [])
  reference_operands x = after (attrs_of x.attrs) (prefixed (e.reference (is_some x.mutability)) none (f x.expr.value)) _ refl

  pub unary_operands : (x : ExprUnaryOf E) → HasOperands (expr_unary_of f x) (f x.expr.value ∷ [])
  unary_operands x = after (attrs_of x.attrs) (prefixed (e.unary (un_kind x.op)) none (f x.expr.value)) _ refl

  pub await_operands : (x : ExprAwaitOf E) → HasOperands (expr_await_of f x) (f x.base.value ∷ [])
  await_operands x = after (attrs_of x.attrs) (tail (f x.base.value) e.await none) _ refl

  pub call_operands : (x : ExprCallOf E) → HasOperands (expr_call_of f x) (f x.func.value ∷ map f (values x.args))
  call_operands x = after (attrs_of x.attrs) (tail (f x.func.value) e.call (elements (map f (values x.args)) (trails x.args))) _ (ap (λ l. f x.func.value ∷ l) (elements_operands (map f (values x.args)) (trails x.args)))

  pub field_operands : (x : ExprFieldOf E) → HasOperands (expr_field_of f x) (f x.base.value ∷ [])
  field_operands x = after (attrs_of x.attrs) (tail (f x.base.value) (e.field (member_of x.member)) none) _ refl

  pub index_operands : (x : ExprIndexOf E) → HasOperands (expr_index_of f x) (f x.expr.value ∷ f x.index.value ∷ [])
  index_operands x = after (attrs_of x.attrs) (tail (f x.expr.value) e.index (child e.value e.no_ending (f x.index.value) none)) _ refl

  pub method_call_operands : (x : ExprMethodCallOf E) → HasOperands (expr_method_call_of f x) (f x.receiver.value ∷ map f (values x.args))
  method_call_operands x = after (attrs_of x.attrs) (tail (f x.receiver.value) (e.method x.method (turbofish_of x.turbofish)) (elements (map f (values x.args)) (trails x.args))) _ (ap (λ l. f x.receiver.value ∷ l) (elements_operands (map f (values x.args)) (trails x.args)))

  pub try_operands : (x : ExprTryOf E) → HasOperands (expr_try_of f x) (f x.expr.value ∷ [])
  try_operands x = after (attrs_of x.attrs) (tail (f x.expr.value) e.try_expr none) _ refl

  pub if_operands : (x : ExprIfOf E) → HasOperands (expr_if_of f x) (f x.cond.value ∷ map f (else_operand x.else_branch))
  if_operands x = after (attrs_of x.attrs) (frame e.if_expr (child e.condition (e.braced (body_of [] x.then_branch.stmts)) (f x.cond.value) (else_of f x.else_branch))) _ (ap (λ l. f x.cond.value ∷ l) (else_shown f x.else_branch))

  pub while_operands : (x : ExprWhileOf E) → HasOperands (expr_while_of f x) (f x.cond.value ∷ [])
  while_operands x = after (outer_of x.attrs) (frame (e.while_loop (mapped label_of x.label)) (child e.loop_head (e.braced (body_of (inner_of x.attrs) x.body.stmts)) (f x.cond.value) none)) _ refl

  pub break_operands : (x : ExprBreakOf E) → HasOperands (expr_break_of f x) (map f (last_of x.expr))
  break_operands x = after (attrs_of x.attrs) (jump_with (e.breaking (mapped lifetime_of x.label)) (boxed f x.expr)) _ (jump_operands (e.breaking (mapped lifetime_of x.label)) (boxed f x.expr) ∙ option_shown f x.expr)

  pub return_operands : (x : ExprReturnOf E) → HasOperands (expr_return_of f x) (map f (last_of x.expr))
  return_operands x = after (attrs_of x.attrs) (jump_with e.returning (boxed f x.expr)) _ (jump_operands e.returning (boxed f x.expr) ∙ option_shown f x.expr)

  pub yield_operands : (x : ExprYieldOf E) → HasOperands (expr_yield_of f x) (map f (last_of x.expr))
  yield_operands x = after (attrs_of x.attrs) (jump_with e.yielding (boxed f x.expr)) _ (jump_operands e.yielding (boxed f x.expr) ∙ option_shown f x.expr)

  pub struct_operands : (x : ExprStructOf E) → HasOperands (expr_struct_of f x) (map f (map (λ (y : FieldValueOf E). y.expr) (values x.fields) ++ last_of x.rest))
  struct_operands x =
      let dots = is_some x.dot2_token in
      let rest = boxed f x.rest in
      let more = option_child (e.rest dots) rest in
      after (attrs_of x.attrs)
      (frame (e.structure (qself_or type_of x.qself) (path_of type_of x.path) (dots && not (is_some rest))) (fields (map (field_value_of f) (values x.fields)) (trails x.fields) more)) _
      (fields_operands (map (field_value_of f) (values x.fields)) (trails x.fields) more
      ∙ ap (λ l. l ++ child_operands more) (map_both (λ (v : FieldView). v.value) (field_value_of f) (values x.fields) ∙ sym (map_both f (λ (y : FieldValueOf E). y.expr) (values x.fields)))
      ∙ ap (λ l. map f (map (λ (y : FieldValueOf E). y.expr) (values x.fields)) ++ l) (option_operands (e.rest dots) rest ∙ option_shown f x.rest)
      ∙ sym (map-append f (map (λ (y : FieldValueOf E). y.expr) (values x.fields)) (last_of x.rest)))

module _ {E P : Type 0} (f : E → Tree) (g : P → PatView) where
  pub closure_viewed : (x : ExprClosureOf E P) → HasOperands (expr_closure_of f g x) (guards (map g (values x.inputs)) ++ f x.body.value ∷ [])
  closure_viewed x =
      after (attrs_of x.attrs) (closure_by (return_of x.output) (closure_head_of g x) (guards (map g (values x.inputs))) (f x.body.value)) _
      (closure_operands (return_of x.output) (closure_head_of g x) (guards (map g (values x.inputs))) (f x.body.value))

  pub closure_expr_operands : (x : ExprClosureOf E P) → HasOperands (expr_closure_of f g x) (flat_map (λ y. (g y).guards) (values x.inputs) ++ f x.body.value ∷ [])
  closure_expr_operands x = record { are = (closure_viewed x).are ∙ ap (λ l. l ++ f x.body.value ∷ []) (flat_map-map (λ (v : PatView). v.guards) g (values x.inputs)) }

  pub for_loop_operands : (x : ExprForLoopOf E P) → HasOperands (expr_for_loop_of f g x) ((g x.pat.value).guards ++ f x.expr.value ∷ [])
  for_loop_operands x =
      let inside = child e.loop_head (e.braced (body_of (inner_of x.attrs) x.body.stmts)) (f x.expr.value) none in
      after (outer_of x.attrs) (frame (e.for_loop (mapped label_of x.label) (g x.pat.value).tree) (strays (g x.pat.value).guards inside)) _ (strays_operands (g x.pat.value).guards inside)

  pub let_operands : (x : ExprLetOf E P) → HasOperands (expr_let_of f g x) ((g x.pat.value).guards ++ f x.expr.value ∷ [])
  let_operands x = after (attrs_of x.attrs) (prefixed (e.let_expr (g x.pat.value).tree) (strays (g x.pat.value).guards none) (f x.expr.value)) _ (ap (λ l. l ++ f x.expr.value ∷ []) (prefix_operands (g x.pat.value).guards))

module _ {E A : Type 0} (f : E → Tree) (a : A → ArmView) where
  pub match_viewed : (x : ExprMatchOf E A) → HasOperands (expr_match_of f a x) (f x.expr.value ∷ flat_map arm_operands (map a x.arms.items))
  match_viewed x = after (outer_of x.attrs) (frame e.match_expr (child e.scrutinee (e.opened (inner_of x.attrs)) (f x.expr.value) (arms (map a x.arms.items)))) _ (ap (λ l. f x.expr.value ∷ l) (arms_operands (map a x.arms.items)))

  pub match_operands : (x : ExprMatchOf E A) → HasOperands (expr_match_of f a x) (f x.expr.value ∷ flat_map (λ y. arm_operands (a y)) x.arms.items)
  match_operands x = record { are = (match_viewed x).are ∙ ap (λ l. f x.expr.value ∷ l) (flat_map-map arm_operands a x.arms.items) }
