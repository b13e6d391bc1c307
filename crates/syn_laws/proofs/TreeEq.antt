-- Whether two trees of expressions are equal can be decided.
use Rattle.std.proofs.Common.{◌≡◌, Bool, true, false, List, Option, Some, None, refl, ap, ◌↔◌, []}
use mathlib.Core.HLevel.{Discrete, ×_discrete}
use mathlib.Core.Bool.{Bool-discrete}
use mathlib.Core.List.{List-discrete}
use native.Mathlib.Decide.{ℕ_discrete, map_dec}
use denote.Enum.Bare.{same_true, true_same}
use Rattle.syn_lexer.specs.declared.front.Delimiter.{Delimiter}
use Rattle.syn_tokens.specs.Tok.{Tok}
use Rattle.syn_tokens.specs.Front.{same_delimiter}
use Rattle.syn_tokens.specs.Same.{same_list, same_list-true, same_list_equiv, same_delimiter-true, same_delimiter-refl}
use Rattle.syn_lower_spec.specs.Text.{Text}
use Rattle.syn_lower_spec.specs.Tree as t
use Rattle.syn_lower_spec.specs.Tree.{LitTree, AttributeTree, LifetimesTree, TypeTree, PathTree, QSelfTree, no_qself, ReturnTree, ArgumentsTree}
use Rattle.syn_lower_spec.specs.Part.{MacroTree}
use Rattle.syn_lower_spec.specs.Pat.{MemberTree, a_name, an_index, PatBound, lit_bound, path_bound, PatTree, wild, rest, range, a_lit, a_binding, a_path, a_mac, a_struct, tuple_struct, a_tuple, a_paren, a_slice, a_reference, a_block, alternatives, guarded, typed, attributed, SubPat, no_sub, sub, Pats, no_pats, more_pats, Fields, no_fields, more_fields, FieldTree, short, full}
use Rattle.syn_lower_spec.specs.Same.{same_lit}
use Rattle.syn_lower_spec.proofs.Same.{compares_lits}
use Rattle.syn_lower_spec.proofs.TreeEq.{type_eq, arguments_eq, return_eq}
use Rattle.syn_expr_spec.specs.Tree as e
use Rattle.syn_expr_spec.specs.Tree.{Body, Jump, Leaf, ClosureHead, Prefix, Postfix, Trailer, Frame, Piece, Ending, Tree, Children, leaf, paren, prefixed, infixed, postfixed, tail, frame, none, child}
use Rattle.syn_expr_spec.specs.declared.kinds.BinKind.{BinKind}
use Rattle.syn_expr_spec.specs.declared.kinds.UnKind.{UnKind}
use Rattle.syn_expr_spec.specs.declared.kinds.Limits.{Limits}
use Rattle.syn_expr_spec.specs.declared.kinds.Infix.{Infix}
use Rattle.syn_expr_spec.specs.declared.kinds.Infix.TheVariants as inf
use Rattle.syn_expr_spec.specs.contracts.kinds.BinKind as bin_type
use Rattle.syn_expr_spec.specs.contracts.kinds.UnKind as un_type
use Rattle.syn_expr_spec.specs.contracts.kinds.Limits as limits_type
use Rattle.syn_expr_spec.specs.contracts.kinds.BinKindPartialEq.TheImpl as bin_test
use Rattle.syn_expr_spec.specs.contracts.kinds.UnKindPartialEq.TheImpl as un_test
use Rattle.syn_expr_spec.specs.contracts.kinds.LimitsPartialEq.TheImpl as limits_test
use Rattle.std.specs.Option.{option_eq}
use denote.RattleType.{RattleType}
use mir.Syntax.{Dict, impl, tnil, dnil}
use Rattle.std.specs.declared.boxed.Box.{Box}
use Rattle.std.specs.declared.alloc.Global.{Global}
use Rattle.syn_lower_spec.specs.Equal.{IsEqualityOf}
use Rattle.syn_lower_leaves.specs.View.{mapped, lifetime_of}
use Rattle.syn_lower_leaves.proofs.Ties.{both_tie, on_tie, made_tie, option_tie, some_tie, text_tie, pair_path, and_true_tie, constant_tie}
use Rattle.syn_lower_leaves.proofs.LeafTies.{lifetime_tie, block_tie, lit_tie}
use Rattle.syn_lower.specs.View.{type_of, qself_or}
use Rattle.syn_lower.specs.declared.ty.«Type».{«Type»}
use Rattle.syn_lower.specs.contracts.ty.«Type» as type_row
use Rattle.syn_lower.specs.contracts.ty.TypePartialEq.TheImpl as type_test
use Rattle.syn_lower_types.specs.declared.path.QSelfOf.{QSelfOf}
use Rattle.syn_lower_types.specs.declared.path.AngleBracketedGenericArgumentsOf.{AngleBracketedGenericArgumentsOf}
use Rattle.syn_lower_types.specs.contracts.path.QSelfOfPartialEq.TheImpl as qself_test
use Rattle.syn_lower_types.specs.contracts.path.AngleBracketedGenericArgumentsOfPartialEq.TheImpl as angle_test
use Rattle.syn_laws.proofs.PartTies.{pointer_tie, segments_once}
use Rattle.syn_laws.proofs.LowerSames.{type_tie, path_tie, macro_tie, qself_tie, angle_tie}
use Rattle.syn_expr_tokens.specs.View.{bin_kind, un_kind, limits_kind}
use Rattle.syn_expr_tokens.specs.contracts.same.BinOpPartialEq.TheImpl as kind_ties_bin_test
use Rattle.syn_expr_tokens.specs.contracts.same.UnOpPartialEq.TheImpl as kind_ties_un_test
use Rattle.syn_expr_tokens.specs.contracts.same.RangeLimitsPartialEq.TheImpl as kind_ties_limits_test
use Rattle.syn_expr_tokens.proofs.Equality.{binary, prefix, limits}
use Rattle.syn_expr_tokens.proofs.Ties.{member_tie, label_tie}
use Rattle.syn_expr_ast.specs.declared.atom.ExprArrayOf.{ExprArrayOf}
use Rattle.syn_expr_ast.specs.contracts.atom.ExprArrayOfPartialEq.TheImpl as array_test
use Rattle.syn_expr_ast.specs.declared.atom.ExprGroupOf.{ExprGroupOf}
use Rattle.syn_expr_ast.specs.contracts.atom.ExprGroupOfPartialEq.TheImpl as group_test
use Rattle.syn_expr_ast.specs.declared.atom.ExprParenOf.{ExprParenOf}
use Rattle.syn_expr_ast.specs.contracts.atom.ExprParenOfPartialEq.TheImpl as paren_test
use Rattle.syn_expr_ast.specs.declared.atom.ExprRepeatOf.{ExprRepeatOf}
use Rattle.syn_expr_ast.specs.contracts.atom.ExprRepeatOfPartialEq.TheImpl as repeat_test
use Rattle.syn_expr_ast.specs.declared.atom.ExprTupleOf.{ExprTupleOf}
use Rattle.syn_expr_ast.specs.contracts.atom.ExprTupleOfPartialEq.TheImpl as tuple_test
use Rattle.syn_expr_ast.specs.contracts.atom.ExprInferPartialEq.TheImpl as infer_test
use Rattle.syn_expr_ast.specs.declared.atom.ExprLit.{ExprLit}
use Rattle.syn_expr_ast.specs.contracts.atom.ExprLitPartialEq.TheImpl as lit_test
use Rattle.syn_expr_ast.specs.declared.atom.ExprMacro.{ExprMacro}
use Rattle.syn_expr_ast.specs.contracts.atom.ExprMacroPartialEq.TheImpl as mac_test
use Rattle.syn_expr_ast.specs.declared.atom.ExprPath.{ExprPath}
use Rattle.syn_expr_ast.specs.contracts.atom.ExprPathPartialEq.TheImpl as path_test
use Rattle.syn_expr_ast.specs.declared.operation.ExprAssignOf.{ExprAssignOf}
use Rattle.syn_expr_ast.specs.contracts.operation.ExprAssignOfPartialEq.TheImpl as assign_test
use Rattle.syn_expr_ast.specs.declared.operation.ExprBinaryOf.{ExprBinaryOf}
use Rattle.syn_expr_ast.specs.contracts.operation.ExprBinaryOfPartialEq.TheImpl as binary_kind_test
use Rattle.syn_expr_ast.specs.declared.operation.ExprCastOf.{ExprCastOf}
use Rattle.syn_expr_ast.specs.contracts.operation.ExprCastOfPartialEq.TheImpl as cast_test
use Rattle.syn_expr_ast.specs.declared.operation.ExprRangeOf.{ExprRangeOf}
use Rattle.syn_expr_ast.specs.contracts.operation.ExprRangeOfPartialEq.TheImpl as range_test
use Rattle.syn_expr_ast.specs.declared.operation.ExprRawAddrOf.{ExprRawAddrOf}
use Rattle.syn_expr_ast.specs.contracts.operation.ExprRawAddrOfPartialEq.TheImpl as raw_addr_test
use Rattle.syn_expr_ast.specs.declared.operation.ExprReferenceOf.{ExprReferenceOf}
use Rattle.syn_expr_ast.specs.contracts.operation.ExprReferenceOfPartialEq.TheImpl as reference_test
use Rattle.syn_expr_ast.specs.declared.operation.ExprUnaryOf.{ExprUnaryOf}
use Rattle.syn_expr_ast.specs.contracts.operation.ExprUnaryOfPartialEq.TheImpl as unary_test
use Rattle.syn_expr_ast.specs.declared.trailer.ExprAwaitOf.{ExprAwaitOf}
use Rattle.syn_expr_ast.specs.contracts.trailer.ExprAwaitOfPartialEq.TheImpl as await_test
use Rattle.syn_expr_ast.specs.declared.trailer.ExprCallOf.{ExprCallOf}
use Rattle.syn_expr_ast.specs.contracts.trailer.ExprCallOfPartialEq.TheImpl as call_test
use Rattle.syn_expr_ast.specs.declared.trailer.ExprFieldOf.{ExprFieldOf}
use Rattle.syn_expr_ast.specs.contracts.trailer.ExprFieldOfPartialEq.TheImpl as field_kind_test
use Rattle.syn_expr_ast.specs.declared.trailer.ExprIndexOf.{ExprIndexOf}
use Rattle.syn_expr_ast.specs.contracts.trailer.ExprIndexOfPartialEq.TheImpl as index_test
use Rattle.syn_expr_ast.specs.declared.trailer.ExprMethodCallOf.{ExprMethodCallOf}
use Rattle.syn_expr_ast.specs.contracts.trailer.ExprMethodCallOfPartialEq.TheImpl as method_test
use Rattle.syn_expr_ast.specs.declared.trailer.ExprTryOf.{ExprTryOf}
use Rattle.syn_expr_ast.specs.contracts.trailer.ExprTryOfPartialEq.TheImpl as try_test
use Rattle.syn_expr_ast.specs.declared.block.ExprAsync.{ExprAsync}
use Rattle.syn_expr_ast.specs.contracts.block.ExprAsyncPartialEq.TheImpl as async_test
use Rattle.syn_expr_ast.specs.declared.block.ExprBlock.{ExprBlock}
use Rattle.syn_expr_ast.specs.contracts.block.ExprBlockPartialEq.TheImpl as block_test
use Rattle.syn_expr_ast.specs.declared.block.ExprConst.{ExprConst}
use Rattle.syn_expr_ast.specs.contracts.block.ExprConstPartialEq.TheImpl as const_test
use Rattle.syn_expr_ast.specs.declared.block.ExprIfOf.{ExprIfOf}
use Rattle.syn_expr_ast.specs.contracts.block.ExprIfOfPartialEq.TheImpl as if_test
use Rattle.syn_expr_ast.specs.declared.block.ExprLoop.{ExprLoop}
use Rattle.syn_expr_ast.specs.contracts.block.ExprLoopPartialEq.TheImpl as loop_test
use Rattle.syn_expr_ast.specs.declared.block.ExprTryBlock.{ExprTryBlock}
use Rattle.syn_expr_ast.specs.contracts.block.ExprTryBlockPartialEq.TheImpl as try_block_test
use Rattle.syn_expr_ast.specs.declared.block.ExprUnsafe.{ExprUnsafe}
use Rattle.syn_expr_ast.specs.contracts.block.ExprUnsafePartialEq.TheImpl as unsafe_test
use Rattle.syn_expr_ast.specs.declared.block.ExprWhileOf.{ExprWhileOf}
use Rattle.syn_expr_ast.specs.contracts.block.ExprWhileOfPartialEq.TheImpl as while_test
use Rattle.syn_expr_ast.specs.declared.jump.ExprBreakOf.{ExprBreakOf}
use Rattle.syn_expr_ast.specs.contracts.jump.ExprBreakOfPartialEq.TheImpl as break_test
use Rattle.syn_expr_ast.specs.declared.jump.ExprContinue.{ExprContinue}
use Rattle.syn_expr_ast.specs.contracts.jump.ExprContinuePartialEq.TheImpl as continue_test
use Rattle.syn_expr_ast.specs.declared.jump.ExprReturnOf.{ExprReturnOf}
use Rattle.syn_expr_ast.specs.contracts.jump.ExprReturnOfPartialEq.TheImpl as return_test
use Rattle.syn_expr_ast.specs.declared.jump.ExprYieldOf.{ExprYieldOf}
use Rattle.syn_expr_ast.specs.contracts.jump.ExprYieldOfPartialEq.TheImpl as yield_test
use Rattle.syn_expr_ast.specs.declared.structure.FieldValueOf.{FieldValueOf}
use Rattle.syn_expr_ast.specs.contracts.structure.FieldValueOfPartialEq.TheImpl as field_value_test
use Rattle.syn_expr_ast.specs.View.{boxed, FieldView, range_between, jump_with, body_of, else_of, turbofish_of, expr_array_of, expr_group_of, expr_paren_of, expr_repeat_of, expr_tuple_of, expr_infer_of, expr_lit_of, expr_macro_of, expr_path_of, expr_assign_of, expr_binary_of, expr_cast_of, expr_range_of, expr_raw_addr_of, expr_reference_of, expr_unary_of, expr_await_of, expr_call_of, expr_field_of, expr_index_of, expr_method_call_of, expr_try_of, expr_async_of, expr_block_of, expr_const_of, expr_if_of, expr_loop_of, expr_try_block_of, expr_unsafe_of, expr_while_of, expr_break_of, expr_continue_of, expr_return_of, expr_yield_of, field_value_of}
use Rattle.syn_laws.proofs.Shapes.{behind_tie, around_tie, attrs_tie, elements_tie, boxed_tie, is_core}

-- ---- by a test, and through what tells as much

tested : {A : Type 0} (test : A → A → Bool) → ((x y : A) → test x y ≡ true → x ≡ y) → ((x : A) → test x x ≡ true) → Discrete A
tested test sound whole x y = go (test x y) refl
  where
    go : (b : Bool) → test x y ≡ b → Dec (x ≡ y)
    go true h = yes (sound x y h)
    go false h = no (λ e. absurd (let k = whole x in cc))

through : {A B : Type 0} (f : A → B) → ((x y : A) → f x ≡ f y → x ≡ y) → Discrete B → Discrete A
through f k d x y = map_dec (k x y) (λ e. ap f e) (d (f x) (f y))

option_discrete : {A : Type 0} → Discrete A → Discrete (Option A)
option_discrete d None None = yes refl
option_discrete d None (Some y) = no (λ e. absurd cc)
option_discrete d (Some x) None = no (λ e. absurd cc)
option_discrete d (Some x) (Some y) = map_dec (λ h. cc) (λ h. cc) (d x y)

both : {P Q : Type 0} → Dec P → Dec Q → Dec (P × Q)
both (yes p) (yes q) = yes (p, q)
both (yes p) (no n) = no (λ r. n r.1)
both (no n) d = no (λ r. n r.0)

-- ---- tokens and lower parts

toks_eq : Discrete (List Tok)
toks_eq = tested same_list same_list-true (λ l. same_list_equiv.refl l)

delimiter_eq : Discrete Delimiter
delimiter_eq = tested same_delimiter same_delimiter-true same_delimiter-refl

text_eq : Discrete Text
text_eq = List-discrete ℕ_discrete

label_eq : Discrete (Option Text)
label_eq = option_discrete text_eq

lit_eq : Discrete LitTree
lit_eq = tested same_lit compares_lits.equal compares_lits.itself

lifetimes_eq : Discrete LifetimesTree
lifetimes_eq = ×_discrete (List-discrete text_eq) Bool-discrete

pub attribute_eq : Discrete AttributeTree
attribute_eq = through {B = Bool × List Tok} (λ x. (x.inner, x.tokens)) (λ x y h. let a = ap (λ p. p.0) h in let b = ap (λ p. p.1) h in λ i. record { inner = a i; tokens = b i }) (×_discrete Bool-discrete toks_eq)

pub attributes_eq : Discrete (List AttributeTree)
attributes_eq = List-discrete attribute_eq

-- a path as a type
abbrev as_type : PathTree → TypeTree
as_type p = t.path no_qself p.leading (t.segments_of p.segments) p.trailing

path_once : (p q : PathTree) → as_type p ≡ as_type q → p ≡ q
path_once p q h = let a : p.leading ≡ q.leading = cc in let b = segments_once p.segments q.segments (cc) in let c : p.trailing ≡ q.trailing = cc in λ i. record { leading = a i; segments = b i; trailing = c i }

path_eq : Discrete PathTree
path_eq = through as_type path_once type_eq

-- the type that qualifies a path, as that of a type
qself_eq : Discrete QSelfTree
qself_eq = through (λ q. t.path q false t.no_segments false) (λ p q h. cc) type_eq

macro_eq : Discrete MacroTree
macro_eq = through {B = PathTree × (Delimiter × List Tok)} (λ m. (m.path, (m.delimiter, m.tokens))) (λ x y h. let a = ap (λ p. p.0) h in let b = ap (λ p. p.1.0) h in let c = ap (λ p. p.1.1) h in λ i. record { path = a i; delimiter = b i; tokens = c i }) (×_discrete path_eq (×_discrete delimiter_eq toks_eq))

-- ---- patterns

member_eq : (x y : MemberTree) → Dec (x ≡ y)
member_eq (a_name a0) (a_name a1) = map_dec (λ h. cc) (λ h. cc) (text_eq a0 a1)
member_eq (an_index a0) (an_index a1) = map_dec (λ h. cc) (λ h. cc) (ℕ_discrete a0 a1)
member_eq _ _ = no (λ e. absurd cc)

bound_eq : (x y : PatBound) → Dec (x ≡ y)
bound_eq (lit_bound a0) (lit_bound a1) = map_dec (λ h. cc) (λ h. cc) (lit_eq a0 a1)
bound_eq (path_bound a0 b0) (path_bound a1 b1) = map_dec (λ h. let p0 = h.0 in let p1 = h.1 in cc) (λ h. (cc, cc)) (both (qself_eq a0 a1) (path_eq b0 b1))
bound_eq _ _ = no (λ e. absurd cc)

bounds_eq : Discrete (Option PatBound)
bounds_eq = option_discrete bound_eq

mutual
  pub pat_eq : (x y : PatTree) → Dec (x ≡ y)
  pat_eq wild wild = yes refl
  pat_eq rest rest = yes refl
  pat_eq (range a0 b0 c0) (range a1 b1 c1) = map_dec (λ h. let p0 = h.0 in let p1 = h.1.0 in let p2 = h.1.1 in cc) (λ h. (cc, (cc, cc))) (both (bounds_eq a0 a1) (both (Bool-discrete b0 b1) (bounds_eq c0 c1)))
  pat_eq (a_lit a0) (a_lit a1) = map_dec (λ h. cc) (λ h. cc) (lit_eq a0 a1)
  pat_eq (a_binding a0 b0 c0 d0) (a_binding a1 b1 c1 d1) = map_dec (λ h. let p0 = h.0 in let p1 = h.1.0 in let p2 = h.1.1.0 in let p3 = h.1.1.1 in cc) (λ h. (cc, (cc, (cc, cc)))) (both (Bool-discrete a0 a1) (both (Bool-discrete b0 b1) (both (text_eq c0 c1) (sub_eq d0 d1))))
  pat_eq (a_path a0 b0) (a_path a1 b1) = map_dec (λ h. let p0 = h.0 in let p1 = h.1 in cc) (λ h. (cc, cc)) (both (qself_eq a0 a1) (path_eq b0 b1))
  pat_eq (a_mac a0) (a_mac a1) = map_dec (λ h. cc) (λ h. cc) (macro_eq a0 a1)
  pat_eq (a_struct a0 b0 c0 d0) (a_struct a1 b1 c1 d1) = map_dec (λ h. let p0 = h.0 in let p1 = h.1.0 in let p2 = h.1.1.0 in let p3 = h.1.1.1 in cc) (λ h. (cc, (cc, (cc, cc)))) (both (path_eq a0 a1) (both (fields_eq b0 b1) (both (Bool-discrete c0 c1) (Bool-discrete d0 d1))))
  pat_eq (tuple_struct a0 b0 c0) (tuple_struct a1 b1 c1) = map_dec (λ h. let p0 = h.0 in let p1 = h.1.0 in let p2 = h.1.1 in cc) (λ h. (cc, (cc, cc))) (both (path_eq a0 a1) (both (pats_eq b0 b1) (Bool-discrete c0 c1)))
  pat_eq (a_tuple a0 b0) (a_tuple a1 b1) = map_dec (λ h. let p0 = h.0 in let p1 = h.1 in cc) (λ h. (cc, cc)) (both (pats_eq a0 a1) (Bool-discrete b0 b1))
  pat_eq (a_paren a0) (a_paren a1) = map_dec (λ h. cc) (λ h. cc) (pat_eq a0 a1)
  pat_eq (a_slice a0 b0) (a_slice a1 b1) = map_dec (λ h. let p0 = h.0 in let p1 = h.1 in cc) (λ h. (cc, cc)) (both (pats_eq a0 a1) (Bool-discrete b0 b1))
  pat_eq (a_reference a0 b0) (a_reference a1 b1) = map_dec (λ h. let p0 = h.0 in let p1 = h.1 in cc) (λ h. (cc, cc)) (both (Bool-discrete a0 a1) (pat_eq b0 b1))
  pat_eq (a_block a0) (a_block a1) = map_dec (λ h. cc) (λ h. cc) (toks_eq a0 a1)
  pat_eq (alternatives a0 b0 c0) (alternatives a1 b1 c1) = map_dec (λ h. let p0 = h.0 in let p1 = h.1.0 in let p2 = h.1.1 in cc) (λ h. (cc, (cc, cc))) (both (Bool-discrete a0 a1) (both (pats_eq b0 b1) (Bool-discrete c0 c1)))
  pat_eq (guarded a0) (guarded a1) = map_dec (λ h. cc) (λ h. cc) (pat_eq a0 a1)
  pat_eq (typed a0 b0) (typed a1 b1) = map_dec (λ h. let p0 = h.0 in let p1 = h.1 in cc) (λ h. (cc, cc)) (both (pat_eq a0 a1) (type_eq b0 b1))
  pat_eq (attributed a0 b0 c0) (attributed a1 b1 c1) = map_dec (λ h. let p0 = h.0 in let p1 = h.1.0 in let p2 = h.1.1 in cc) (λ h. (cc, (cc, cc))) (both (attribute_eq a0 a1) (both (attributes_eq b0 b1) (pat_eq c0 c1)))
  pat_eq _ _ = no (λ e. absurd cc)

  sub_eq : (x y : SubPat) → Dec (x ≡ y)
  sub_eq no_sub no_sub = yes refl
  sub_eq (sub a0) (sub a1) = map_dec (λ h. cc) (λ h. cc) (pat_eq a0 a1)
  sub_eq _ _ = no (λ e. absurd cc)

  pats_eq : (x y : Pats) → Dec (x ≡ y)
  pats_eq no_pats no_pats = yes refl
  pats_eq (more_pats a0 b0) (more_pats a1 b1) = map_dec (λ h. let p0 = h.0 in let p1 = h.1 in cc) (λ h. (cc, cc)) (both (pat_eq a0 a1) (pats_eq b0 b1))
  pats_eq _ _ = no (λ e. absurd cc)

  fields_eq : (x y : Fields) → Dec (x ≡ y)
  fields_eq no_fields no_fields = yes refl
  fields_eq (more_fields a0 b0 c0) (more_fields a1 b1 c1) = map_dec (λ h. let p0 = h.0 in let p1 = h.1.0 in let p2 = h.1.1 in cc) (λ h. (cc, (cc, cc))) (both (attributes_eq a0 a1) (both (field_eq b0 b1) (fields_eq c0 c1)))
  fields_eq _ _ = no (λ e. absurd cc)

  field_eq : (x y : FieldTree) → Dec (x ≡ y)
  field_eq (short a0 b0 c0) (short a1 b1 c1) = map_dec (λ h. let p0 = h.0 in let p1 = h.1.0 in let p2 = h.1.1 in cc) (λ h. (cc, (cc, cc))) (both (Bool-discrete a0 a1) (both (Bool-discrete b0 b1) (text_eq c0 c1)))
  field_eq (full a0 b0) (full a1 b1) = map_dec (λ h. let p0 = h.0 in let p1 = h.1 in cc) (λ h. (cc, cc)) (both (member_eq a0 a1) (pat_eq b0 b1))
  field_eq _ _ = no (λ e. absurd cc)

-- ---- operators and heads

bin_eq : Discrete BinKind
bin_eq = tested bin_test.ghosts.eq (λ x y h. same_true bin_type.the_type tt x y h) (λ x. true_same bin_type.the_type x x refl)

un_eq : Discrete UnKind
un_eq = tested un_test.ghosts.eq (λ x y h. same_true un_type.the_type tt x y h) (λ x. true_same un_type.the_type x x refl)

limits_eq : Discrete Limits
limits_eq = tested limits_test.ghosts.eq (λ x y h. same_true limits_type.the_type tt x y h) (λ x. true_same limits_type.the_type x x refl)

infix_eq : (x y : Infix) → Dec (x ≡ y)
infix_eq (inf.Binary a0) (inf.Binary a1) = map_dec (λ h. cc) (λ h. cc) (bin_eq a0 a1)
infix_eq inf.Assign inf.Assign = yes refl
infix_eq (inf.Range a0) (inf.Range a1) = map_dec (λ h. cc) (λ h. cc) (limits_eq a0 a1)
infix_eq inf.Cast inf.Cast = yes refl
infix_eq _ _ = no (λ e. absurd cc)

body_eq : Discrete Body
body_eq = through {B = List AttributeTree × List Tok} (λ x. (x.inner, x.tokens)) (λ x y h. let a = ap (λ p. p.0) h in let b = ap (λ p. p.1) h in λ i. record { inner = a i; tokens = b i }) (×_discrete attributes_eq toks_eq)

abbrev HeadParts : Type 0
HeadParts = Option LifetimesTree × (Bool × ((Bool × Bool) × (Bool × (Bool × (List PatTree × (Bool × ReturnTree))))))

closure_head_eq : Discrete ClosureHead
closure_head_eq = through {B = HeadParts} (λ x. (x.lifetimes, (x.constness, ((x.movability, x.usage), (x.asyncness, (x.capture, (x.inputs, (x.trailing, x.output))))))))
    (λ x y h. let a = ap (λ p. p.0) h in let b = ap (λ p. p.1.0) h in let m = ap (λ p. p.1.1.0.0) h in let u = ap (λ p. p.1.1.0.1) h in
    let c = ap (λ p. p.1.1.1.0) h in let d = ap (λ p. p.1.1.1.1.0) h in let f = ap (λ p. p.1.1.1.1.1.0) h in let g = ap (λ p. p.1.1.1.1.1.1.0) h in let k = ap (λ p. p.1.1.1.1.1.1.1) h in
    λ i. record { lifetimes = a i; constness = b i; movability = m i; asyncness = c i; capture = d i; usage = u i; inputs = f i; trailing = g i; output = k i })
    (×_discrete (option_discrete lifetimes_eq) (×_discrete Bool-discrete (×_discrete (×_discrete Bool-discrete Bool-discrete) (×_discrete Bool-discrete (×_discrete Bool-discrete (×_discrete (List-discrete pat_eq) (×_discrete Bool-discrete return_eq)))))))

jump_eq : (x y : Jump) → Dec (x ≡ y)
jump_eq e.returning e.returning = yes refl
jump_eq e.yielding e.yielding = yes refl
jump_eq (e.breaking a0) (e.breaking a1) = map_dec (λ h. cc) (λ h. cc) (label_eq a0 a1)
jump_eq _ _ = no (λ e. absurd cc)

leaf_eq : (x y : Leaf) → Dec (x ≡ y)
leaf_eq (e.lit a0) (e.lit a1) = map_dec (λ h. cc) (λ h. cc) (lit_eq a0 a1)
leaf_eq (e.path a0 b0) (e.path a1 b1) = map_dec (λ h. let p0 = h.0 in let p1 = h.1 in cc) (λ h. (cc, cc)) (both (qself_eq a0 a1) (path_eq b0 b1))
leaf_eq (e.mac a0) (e.mac a1) = map_dec (λ h. cc) (λ h. cc) (macro_eq a0 a1)
leaf_eq e.infer e.infer = yes refl
leaf_eq (e.full_range a0) (e.full_range a1) = map_dec (λ h. cc) (λ h. cc) (limits_eq a0 a1)
leaf_eq (e.bare_jump a0) (e.bare_jump a1) = map_dec (λ h. cc) (λ h. cc) (jump_eq a0 a1)
leaf_eq (e.continuing a0) (e.continuing a1) = map_dec (λ h. cc) (λ h. cc) (label_eq a0 a1)
leaf_eq (e.block a0 b0) (e.block a1 b1) = map_dec (λ h. let p0 = h.0 in let p1 = h.1 in cc) (λ h. (cc, cc)) (both (label_eq a0 a1) (body_eq b0 b1))
leaf_eq (e.loop_expr a0 b0) (e.loop_expr a1 b1) = map_dec (λ h. let p0 = h.0 in let p1 = h.1 in cc) (λ h. (cc, cc)) (both (label_eq a0 a1) (body_eq b0 b1))
leaf_eq (e.unsafe_block a0) (e.unsafe_block a1) = map_dec (λ h. cc) (λ h. cc) (body_eq a0 a1)
leaf_eq (e.const_block a0) (e.const_block a1) = map_dec (λ h. cc) (λ h. cc) (body_eq a0 a1)
leaf_eq (e.async_block a0 b0) (e.async_block a1 b1) = map_dec (λ h. let p0 = h.0 in let p1 = h.1 in cc) (λ h. (cc, cc)) (both (Bool-discrete a0 a1) (toks_eq b0 b1))
leaf_eq (e.try_block a0) (e.try_block a1) = map_dec (λ h. cc) (λ h. cc) (toks_eq a0 a1)
leaf_eq (e.verbatim a0) (e.verbatim a1) = map_dec (λ h. cc) (λ h. cc) (toks_eq a0 a1)
leaf_eq _ _ = no (λ e. absurd cc)

prefix_eq : (x y : Prefix) → Dec (x ≡ y)
prefix_eq (e.unary a0) (e.unary a1) = map_dec (λ h. cc) (λ h. cc) (un_eq a0 a1)
prefix_eq (e.reference a0) (e.reference a1) = map_dec (λ h. cc) (λ h. cc) (Bool-discrete a0 a1)
prefix_eq (e.raw_addr a0) (e.raw_addr a1) = map_dec (λ h. cc) (λ h. cc) (Bool-discrete a0 a1)
prefix_eq (e.range_to a0) (e.range_to a1) = map_dec (λ h. cc) (λ h. cc) (limits_eq a0 a1)
prefix_eq (e.let_expr a0) (e.let_expr a1) = map_dec (λ h. cc) (λ h. cc) (pat_eq a0 a1)
prefix_eq (e.jump a0) (e.jump a1) = map_dec (λ h. cc) (λ h. cc) (jump_eq a0 a1)
prefix_eq (e.closure a0) (e.closure a1) = map_dec (λ h. cc) (λ h. cc) (closure_head_eq a0 a1)
prefix_eq _ _ = no (λ e. absurd cc)

postfix_eq : (x y : Postfix) → Dec (x ≡ y)
postfix_eq (e.cast a0) (e.cast a1) = map_dec (λ h. cc) (λ h. cc) (type_eq a0 a1)
postfix_eq (e.range_from a0) (e.range_from a1) = map_dec (λ h. cc) (λ h. cc) (limits_eq a0 a1)
postfix_eq _ _ = no (λ e. absurd cc)

trailer_eq : (x y : Trailer) → Dec (x ≡ y)
trailer_eq e.call e.call = yes refl
trailer_eq e.index e.index = yes refl
trailer_eq (e.method a0 b0) (e.method a1 b1) = map_dec (λ h. let p0 = h.0 in let p1 = h.1 in cc) (λ h. (cc, cc)) (both (text_eq a0 a1) (arguments_eq b0 b1))
trailer_eq (e.field a0) (e.field a1) = map_dec (λ h. cc) (λ h. cc) (member_eq a0 a1)
trailer_eq e.await e.await = yes refl
trailer_eq e.try_expr e.try_expr = yes refl
trailer_eq _ _ = no (λ e. absurd cc)

frame_eq : (x y : Frame) → Dec (x ≡ y)
frame_eq e.array e.array = yes refl
frame_eq e.tuple e.tuple = yes refl
frame_eq e.repeat e.repeat = yes refl
frame_eq (e.structure a0 b0 c0) (e.structure a1 b1 c1) = map_dec (λ h. let p0 = h.0 in let p1 = h.1.0 in let p2 = h.1.1 in cc) (λ h. (cc, (cc, cc))) (both (qself_eq a0 a1) (both (path_eq b0 b1) (Bool-discrete c0 c1)))
frame_eq (e.closure_block a0) (e.closure_block a1) = map_dec (λ h. cc) (λ h. cc) (closure_head_eq a0 a1)
frame_eq e.if_expr e.if_expr = yes refl
frame_eq (e.while_loop a0) (e.while_loop a1) = map_dec (λ h. cc) (λ h. cc) (label_eq a0 a1)
frame_eq (e.for_loop a0 b0) (e.for_loop a1 b1) = map_dec (λ h. let p0 = h.0 in let p1 = h.1 in cc) (λ h. (cc, cc)) (both (label_eq a0 a1) (pat_eq b0 b1))
frame_eq e.match_expr e.match_expr = yes refl
frame_eq e.group_expr e.group_expr = yes refl
frame_eq _ _ = no (λ e. absurd cc)

piece_eq : (x y : Piece) → Dec (x ≡ y)
piece_eq e.element e.element = yes refl
piece_eq e.value e.value = yes refl
piece_eq e.repeated e.repeated = yes refl
piece_eq (e.field_value a0 b0 c0) (e.field_value a1 b1 c1) = map_dec (λ h. let p0 = h.0 in let p1 = h.1.0 in let p2 = h.1.1 in cc) (λ h. (cc, (cc, cc))) (both (attributes_eq a0 a1) (both (member_eq b0 b1) (Bool-discrete c0 c1)))
piece_eq (e.rest a0) (e.rest a1) = map_dec (λ h. cc) (λ h. cc) (Bool-discrete a0 a1)
piece_eq e.condition e.condition = yes refl
piece_eq e.loop_head e.loop_head = yes refl
piece_eq e.scrutinee e.scrutinee = yes refl
piece_eq e.chained e.chained = yes refl
piece_eq (e.guard a0 b0) (e.guard a1 b1) = map_dec (λ h. let p0 = h.0 in let p1 = h.1 in cc) (λ h. (cc, cc)) (both (attributes_eq a0 a1) (pat_eq b0 b1))
piece_eq e.guarded e.guarded = yes refl
piece_eq (e.arm a0 b0) (e.arm a1 b1) = map_dec (λ h. let p0 = h.0 in let p1 = h.1 in cc) (λ h. (cc, cc)) (both (attributes_eq a0 a1) (pat_eq b0 b1))
piece_eq e.output_block e.output_block = yes refl
piece_eq e.grouped e.grouped = yes refl
piece_eq e.stray e.stray = yes refl
piece_eq _ _ = no (λ e. absurd cc)

ending_eq : (x y : Ending) → Dec (x ≡ y)
ending_eq e.no_ending e.no_ending = yes refl
ending_eq e.comma e.comma = yes refl
ending_eq (e.braced a0) (e.braced a1) = map_dec (λ h. cc) (λ h. cc) (body_eq a0 a1)
ending_eq (e.opened a0) (e.opened a1) = map_dec (λ h. cc) (λ h. cc) (attributes_eq a0 a1)
ending_eq _ _ = no (λ e. absurd cc)

-- ---- expressions

mutual
  pub tree_eq : (x y : Tree) → Dec (x ≡ y)
  tree_eq (e.leaf a0) (e.leaf a1) = map_dec (λ h. cc) (λ h. cc) (leaf_eq a0 a1)
  tree_eq (e.paren a0 b0) (e.paren a1 b1) = map_dec (λ h. let p0 = h.0 in let p1 = h.1 in cc) (λ h. (cc, cc)) (both (Bool-discrete a0 a1) (tree_eq b0 b1))
  tree_eq (e.attributed a0 b0 c0) (e.attributed a1 b1 c1) = map_dec (λ h. let p0 = h.0 in let p1 = h.1.0 in let p2 = h.1.1 in cc) (λ h. (cc, (cc, cc))) (both (attribute_eq a0 a1) (both (attributes_eq b0 b1) (tree_eq c0 c1)))
  tree_eq (e.prefixed a0 b0 c0) (e.prefixed a1 b1 c1) = map_dec (λ h. let p0 = h.0 in let p1 = h.1.0 in let p2 = h.1.1 in cc) (λ h. (cc, (cc, cc))) (both (prefix_eq a0 a1) (both (children_eq b0 b1) (tree_eq c0 c1)))
  tree_eq (e.infixed a0 b0 c0) (e.infixed a1 b1 c1) = map_dec (λ h. let p0 = h.0 in let p1 = h.1.0 in let p2 = h.1.1 in cc) (λ h. (cc, (cc, cc))) (both (tree_eq a0 a1) (both (infix_eq b0 b1) (tree_eq c0 c1)))
  tree_eq (e.postfixed a0 b0) (e.postfixed a1 b1) = map_dec (λ h. let p0 = h.0 in let p1 = h.1 in cc) (λ h. (cc, cc)) (both (tree_eq a0 a1) (postfix_eq b0 b1))
  tree_eq (e.tail a0 b0 c0) (e.tail a1 b1 c1) = map_dec (λ h. let p0 = h.0 in let p1 = h.1.0 in let p2 = h.1.1 in cc) (λ h. (cc, (cc, cc))) (both (tree_eq a0 a1) (both (trailer_eq b0 b1) (children_eq c0 c1)))
  tree_eq (e.frame a0 b0) (e.frame a1 b1) = map_dec (λ h. let p0 = h.0 in let p1 = h.1 in cc) (λ h. (cc, cc)) (both (frame_eq a0 a1) (children_eq b0 b1))
  tree_eq _ _ = no (λ e. absurd cc)

  children_eq : (x y : Children) → Dec (x ≡ y)
  children_eq e.none e.none = yes refl
  children_eq (e.child a0 b0 c0 d0) (e.child a1 b1 c1 d1) = map_dec (λ h. let p0 = h.0 in let p1 = h.1.0 in let p2 = h.1.1.0 in let p3 = h.1.1.1 in cc) (λ h. (cc, (cc, (cc, cc)))) (both (piece_eq a0 a1) (both (ending_eq b0 b1) (both (tree_eq c0 c1) (children_eq d0 d1))))
  children_eq _ _ = no (λ e. absurd cc)

-- ---- the equality of each kind of expression that holds no pattern, by that of the expressions in it

abbrev pub no_dict : Dict
no_dict = impl [] tnil dnil

-- ---- operators and lower parts

bin_tie : IsEqualityOf bin_kind kind_ties_bin_test.ghosts.eq
bin_tie = record { same = binary.same }

un_tie : IsEqualityOf un_kind kind_ties_un_test.ghosts.eq
un_tie = record { same = prefix.same }

pub limits_tie : IsEqualityOf limits_kind kind_ties_limits_test.ghosts.eq
limits_tie = record { same = limits.same }

abbrev pub qself_same : QSelfOf «Type» → QSelfOf «Type» → Bool
qself_same = (qself_test.ghosts type_row.the_row type_test.ghosts type_test.dict).eq

pub qself_or_tie : IsEqualityOf (qself_or type_of) (option_eq qself_same)
qself_or_tie = record { same = go }
  where
    go : (x y : Option (QSelfOf «Type»)) → (option_eq qself_same x y ≡ true) ↔ (qself_or type_of x ≡ qself_or type_of y)
    go None None = (λ h. refl, λ h. refl)
    go None (Some y) = (λ h. absurd cc, λ h. absurd cc)
    go (Some x) None = (λ h. absurd cc, λ h. absurd cc)
    go (Some x) (Some y) = qself_tie.same x y

abbrev angle_same : AngleBracketedGenericArgumentsOf «Type» → AngleBracketedGenericArgumentsOf «Type» → Bool
angle_same = (angle_test.ghosts type_row.the_row type_test.ghosts type_test.dict).eq

turbofish_tie : IsEqualityOf turbofish_of (option_eq angle_same)
turbofish_tie = record { same = go }
  where
    go : (x y : Option (AngleBracketedGenericArgumentsOf «Type»)) → (option_eq angle_same x y ≡ true) ↔ (turbofish_of x ≡ turbofish_of y)
    go None None = (λ h. refl, λ h. refl)
    go None (Some y) = (λ h. absurd cc, λ h. absurd cc)
    go (Some x) None = (λ h. absurd cc, λ h. absurd cc)
    go (Some x) (Some y) = angle_tie.same x y

-- ---- ranges and jumps by their operands

range_core : (l : Limits) (a b : Option Tree) → is_core (range_between l a b) ≡ true
range_core l None None = refl
range_core l None (Some y) = refl
range_core l (Some x) None = refl
range_core l (Some x) (Some y) = refl

range_once : (l m : Limits) (a b c d : Option Tree) → range_between l a b ≡ range_between m c d → (a ≡ c) × ((l ≡ m) × (b ≡ d))
range_once l m None None None None h = (refl, (cc, refl))
range_once l m None (Some y) None (Some z) h = let p : y ≡ z = cc in (refl, (cc, ap Some p))
range_once l m (Some x) None (Some w) None h = let p : x ≡ w = cc in (ap Some p, (cc, refl))
range_once l m (Some x) (Some y) (Some w) (Some z) h = let p : x ≡ w = cc in let q : y ≡ z = cc in (ap Some p, (cc, ap Some q))
range_once l m None None None (Some z) h = absurd cc
range_once l m None None (Some w) None h = absurd cc
range_once l m None None (Some w) (Some z) h = absurd cc
range_once l m None (Some y) None None h = absurd cc
range_once l m None (Some y) (Some w) None h = absurd cc
range_once l m None (Some y) (Some w) (Some z) h = absurd cc
range_once l m (Some x) None None None h = absurd cc
range_once l m (Some x) None None (Some z) h = absurd cc
range_once l m (Some x) None (Some w) (Some z) h = absurd cc
range_once l m (Some x) (Some y) None None h = absurd cc
range_once l m (Some x) (Some y) None (Some z) h = absurd cc
range_once l m (Some x) (Some y) (Some w) None h = absurd cc

jump_core : (j : Jump) (o : Option Tree) → is_core (jump_with j o) ≡ true
jump_core j None = refl
jump_core j (Some x) = refl

jump_once : (j k : Jump) (o p : Option Tree) → jump_with j o ≡ jump_with k p → (j ≡ k) × (o ≡ p)
jump_once j k None None h = (cc, refl)
jump_once j k (Some x) (Some y) h = let p : x ≡ y = cc in (cc, ap Some p)
jump_once j k None (Some y) h = absurd cc
jump_once j k (Some x) None h = absurd cc

-- ---- each kind

pub infer_kind_tie : IsEqualityOf expr_infer_of infer_test.ghosts.eq
infer_kind_tie =
    let it = behind_tie (λ x. x.attrs) (λ x. refl) (constant_tie (leaf e.infer)) in it

pub lit_kind_tie : IsEqualityOf expr_lit_of lit_test.ghosts.eq
lit_kind_tie =
    let it = behind_tie (λ x. x.attrs) (λ x. refl) (made_tie (λ l. leaf (e.lit l)) (λ p q h. cc) (on_tie {C = ExprLit} (λ x. x.lit) lit_tie)) in it

pub mac_kind_tie : IsEqualityOf expr_macro_of mac_test.ghosts.eq
mac_kind_tie =
    let it = behind_tie (λ x. x.attrs) (λ x. refl) (made_tie (λ m. leaf (e.mac m)) (λ p q h. cc) (on_tie {C = ExprMacro} (λ x. x.mac) macro_tie)) in it

pub path_kind_tie : IsEqualityOf expr_path_of path_test.ghosts.eq
path_kind_tie =
    let it = behind_tie (λ x. x.attrs) (λ x. refl) (made_tie {B = QSelfTree × PathTree} (λ p. leaf (e.path p.0 p.1)) (λ p q h. pair_path (cc) (cc)) (both_tie (on_tie {C = ExprPath} (λ x. x.qself) qself_or_tie) (on_tie {C = ExprPath} (λ x. x.path) path_tie))) in it

pub async_kind_tie : IsEqualityOf expr_async_of async_test.ghosts.eq
async_kind_tie =
    let it = behind_tie (λ x. x.attrs) (λ x. refl) (made_tie {B = Bool × List Tok} (λ p. leaf (e.async_block p.0 p.1)) (λ p q h. pair_path (cc) (cc)) (both_tie (on_tie {C = ExprAsync} (λ x. x.capture) some_tie) (on_tie {C = ExprAsync} (λ x. x.block) block_tie))) in it

pub block_kind_tie : IsEqualityOf expr_block_of block_test.ghosts.eq
block_kind_tie =
    let it = around_tie {B = Option Text × List Tok} (λ x. x.attrs) (λ a p. leaf (e.block p.0 (body_of a p.1))) (λ a p. refl) (λ a b p q h. let k : body_of a p.1 ≡ body_of b q.1 = cc in (ap (λ (x : Body). x.inner) k, pair_path (cc) (ap (λ (x : Body). x.tokens) k))) (both_tie (on_tie {C = ExprBlock} (λ x. x.label) (option_tie label_tie)) (on_tie {C = ExprBlock} (λ x. x.block) block_tie)) in it

pub const_kind_tie : IsEqualityOf expr_const_of const_test.ghosts.eq
const_kind_tie =
    let it = around_tie {B = List Tok} (λ x. x.attrs) (λ a p. leaf (e.const_block (body_of a p))) (λ a p. refl) (λ a b p q h. let k : body_of a p ≡ body_of b q = cc in (ap (λ (x : Body). x.inner) k, ap (λ (x : Body). x.tokens) k)) (on_tie {C = ExprConst} (λ x. x.block) block_tie) in it

pub loop_kind_tie : IsEqualityOf expr_loop_of loop_test.ghosts.eq
loop_kind_tie =
    let it = around_tie {B = Option Text × List Tok} (λ x. x.attrs) (λ a p. leaf (e.loop_expr p.0 (body_of a p.1))) (λ a p. refl) (λ a b p q h. let k : body_of a p.1 ≡ body_of b q.1 = cc in (ap (λ (x : Body). x.inner) k, pair_path (cc) (ap (λ (x : Body). x.tokens) k))) (both_tie (on_tie {C = ExprLoop} (λ x. x.label) (option_tie label_tie)) (on_tie {C = ExprLoop} (λ x. x.body) block_tie)) in it

pub try_block_kind_tie : IsEqualityOf expr_try_block_of try_block_test.ghosts.eq
try_block_kind_tie =
    let it = behind_tie (λ x. x.attrs) (λ x. refl) (made_tie (λ p. leaf (e.try_block p)) (λ p q h. cc) (on_tie {C = ExprTryBlock} (λ x. x.block) block_tie)) in it

pub unsafe_kind_tie : IsEqualityOf expr_unsafe_of unsafe_test.ghosts.eq
unsafe_kind_tie =
    let it = around_tie {B = List Tok} (λ x. x.attrs) (λ a p. leaf (e.unsafe_block (body_of a p))) (λ a p. refl) (λ a b p q h. let k : body_of a p ≡ body_of b q = cc in (ap (λ (x : Body). x.inner) k, ap (λ (x : Body). x.tokens) k)) (on_tie {C = ExprUnsafe} (λ x. x.block) block_tie) in it

pub continue_kind_tie : IsEqualityOf expr_continue_of continue_test.ghosts.eq
continue_kind_tie =
    let it = behind_tie (λ x. x.attrs) (λ x. refl) (made_tie (λ l. leaf (e.continuing l)) (λ p q h. cc) (on_tie {C = ExprContinue} (λ x. x.label) (option_tie lifetime_tie))) in it

module _ (T : RattleType) {f : T.Denot → Tree} {E : T.Denot → T.Denot → Bool} (tie : IsEqualityOf f E) where
  box : IsEqualityOf (λ (x : Box T.Denot Global). f x.value) (λ x y. E x.value y.value)
  box = on_tie {C = Box T.Denot Global} (λ x. x.value) tie

  else_tie : {S : Type 0} → IsEqualityOf {A = Option (S × Box T.Denot Global)} (else_of f) (option_eq (λ a b. E a.1.value b.1.value))
  else_tie {S} = record { same = go }
    where
      go : (x y : Option (S × Box T.Denot Global)) → (option_eq (λ (a b : S × Box T.Denot Global). E a.1.value b.1.value) x y ≡ true) ↔ (else_of f x ≡ else_of f y)
      go None None = (λ h. refl, λ h. refl)
      go None (Some y) = (λ h. absurd cc, λ h. absurd cc)
      go (Some x) None = (λ h. absurd cc, λ h. absurd cc)
      go (Some x) (Some y) = (λ h. let k = (tie.same x.1.value y.1.value).0 h in cc, λ h. (tie.same x.1.value y.1.value).1 cc)

  pub array_kind_tie : IsEqualityOf (expr_array_of f) (array_test.ghosts T (record { eq = E }) no_dict).eq
  array_kind_tie =
      let it = behind_tie (λ x. x.attrs) (λ x. refl) (made_tie (λ ks. frame e.array ks) (λ p q h. cc) (on_tie {C = ExprArrayOf T.Denot} (λ x. x.elems) (elements_tie tie))) in it

  pub group_kind_tie : IsEqualityOf (expr_group_of f) (group_test.ghosts T (record { eq = E }) no_dict).eq
  group_kind_tie =
      let it = behind_tie (λ x. x.attrs) (λ x. refl) (made_tie (λ t. frame e.group_expr (child e.grouped e.no_ending t none)) (λ p q h. cc) (on_tie {C = ExprGroupOf T.Denot} (λ x. x.expr) box)) in it

  pub paren_kind_tie : IsEqualityOf (expr_paren_of f) (paren_test.ghosts T (record { eq = E }) no_dict).eq
  paren_kind_tie =
      let it = behind_tie (λ x. x.attrs) (λ x. refl) (made_tie (λ t. paren false t) (λ p q h. cc) (on_tie {C = ExprParenOf T.Denot} (λ x. x.expr) box)) in it

  pub repeat_kind_tie : IsEqualityOf (expr_repeat_of f) (repeat_test.ghosts T (record { eq = E }) no_dict).eq
  repeat_kind_tie =
      let it = behind_tie (λ x. x.attrs) (λ x. refl) (made_tie {B = Tree × Tree} (λ p. frame e.repeat (child e.repeated e.no_ending p.0 (child e.value e.no_ending p.1 none))) (λ p q h. pair_path (cc) (cc)) (both_tie (on_tie {C = ExprRepeatOf T.Denot} (λ x. x.expr) box) (on_tie {C = ExprRepeatOf T.Denot} (λ x. x.len) box))) in it

  pub tuple_kind_tie : IsEqualityOf (expr_tuple_of f) (tuple_test.ghosts T (record { eq = E }) no_dict).eq
  tuple_kind_tie =
      let it = behind_tie (λ x. x.attrs) (λ x. refl) (made_tie (λ ks. frame e.tuple ks) (λ p q h. cc) (on_tie {C = ExprTupleOf T.Denot} (λ x. x.elems) (elements_tie tie))) in it

  pub assign_kind_tie : IsEqualityOf (expr_assign_of f) (assign_test.ghosts T (record { eq = E }) no_dict).eq
  assign_kind_tie =
      let it = behind_tie (λ x. x.attrs) (λ x. refl) (made_tie {B = Tree × Tree} (λ p. infixed p.0 inf.Assign p.1) (λ p q h. pair_path (cc) (cc)) (both_tie (on_tie {C = ExprAssignOf T.Denot} (λ x. x.left) box) (on_tie {C = ExprAssignOf T.Denot} (λ x. x.right) box))) in it

  pub binary_kind_tie : IsEqualityOf (expr_binary_of f) (binary_kind_test.ghosts T (record { eq = E }) no_dict).eq
  binary_kind_tie =
      let it = behind_tie (λ x. x.attrs) (λ x. refl) (made_tie {B = Tree × (BinKind × Tree)} (λ p. infixed p.0 (inf.Binary p.1.0) p.1.1) (λ p q h. pair_path (cc) (pair_path (cc) (cc))) (both_tie (on_tie {C = ExprBinaryOf T.Denot} (λ x. x.left) box) (both_tie (on_tie {C = ExprBinaryOf T.Denot} (λ x. x.op) bin_tie) (on_tie {C = ExprBinaryOf T.Denot} (λ x. x.right) box)))) in it

  pub cast_kind_tie : IsEqualityOf (expr_cast_of f) (cast_test.ghosts T (record { eq = E }) no_dict).eq
  cast_kind_tie =
      let it = behind_tie (λ x. x.attrs) (λ x. refl) (made_tie {B = Tree × TypeTree} (λ p. postfixed p.0 (e.cast p.1)) (λ p q h. pair_path (cc) (cc)) (both_tie (on_tie {C = ExprCastOf T.Denot} (λ x. x.expr) box) (on_tie {C = ExprCastOf T.Denot} (λ x. x.ty.value) type_tie))) in it

  pub range_kind_tie : IsEqualityOf (expr_range_of f) (range_test.ghosts T (record { eq = E }) no_dict).eq
  range_kind_tie =
      let it = behind_tie (λ x. x.attrs) (λ x. range_core (limits_kind x.limits) (boxed f x.start) (boxed f x.end)) (made_tie {B = Option Tree × (Limits × Option Tree)} (λ p. range_between p.1.0 p.0 p.1.1) (λ p q h. let r = range_once p.1.0 q.1.0 p.0 p.1.1 q.0 q.1.1 h in pair_path r.0 (pair_path r.1.0 r.1.1)) (both_tie (on_tie {C = ExprRangeOf T.Denot} (λ x. x.start) (boxed_tie tie)) (both_tie (on_tie {C = ExprRangeOf T.Denot} (λ x. x.limits) limits_tie) (on_tie {C = ExprRangeOf T.Denot} (λ x. x.end) (boxed_tie tie))))) in it

  pub raw_addr_kind_tie : IsEqualityOf (expr_raw_addr_of f) (raw_addr_test.ghosts T (record { eq = E }) no_dict).eq
  raw_addr_kind_tie =
      let it = behind_tie (λ x. x.attrs) (λ x. refl) (made_tie {B = Bool × Tree} (λ p. prefixed (e.raw_addr p.0) none p.1) (λ p q h. pair_path (cc) (cc)) (both_tie (on_tie {C = ExprRawAddrOf T.Denot} (λ x. x.mutability) pointer_tie) (on_tie {C = ExprRawAddrOf T.Denot} (λ x. x.expr) box))) in it

  pub reference_kind_tie : IsEqualityOf (expr_reference_of f) (reference_test.ghosts T (record { eq = E }) no_dict).eq
  reference_kind_tie =
      let it = behind_tie (λ x. x.attrs) (λ x. refl) (made_tie {B = Bool × Tree} (λ p. prefixed (e.reference p.0) none p.1) (λ p q h. pair_path (cc) (cc)) (both_tie (on_tie {C = ExprReferenceOf T.Denot} (λ x. x.mutability) some_tie) (on_tie {C = ExprReferenceOf T.Denot} (λ x. x.expr) box))) in it

  pub unary_kind_tie : IsEqualityOf (expr_unary_of f) (unary_test.ghosts T (record { eq = E }) no_dict).eq
  unary_kind_tie =
      let it = behind_tie (λ x. x.attrs) (λ x. refl) (made_tie {B = UnKind × Tree} (λ p. prefixed (e.unary p.0) none p.1) (λ p q h. pair_path (cc) (cc)) (both_tie (on_tie {C = ExprUnaryOf T.Denot} (λ x. x.op) un_tie) (on_tie {C = ExprUnaryOf T.Denot} (λ x. x.expr) box))) in it

  pub await_kind_tie : IsEqualityOf (expr_await_of f) (await_test.ghosts T (record { eq = E }) no_dict).eq
  await_kind_tie =
      let it = behind_tie (λ x. x.attrs) (λ x. refl) (made_tie (λ t. tail t e.await none) (λ p q h. cc) (and_true_tie (on_tie {C = ExprAwaitOf T.Denot} (λ x. x.base) box))) in it

  pub call_kind_tie : IsEqualityOf (expr_call_of f) (call_test.ghosts T (record { eq = E }) no_dict).eq
  call_kind_tie =
      let it = behind_tie (λ x. x.attrs) (λ x. refl) (made_tie {B = Tree × Children} (λ p. tail p.0 e.call p.1) (λ p q h. pair_path (cc) (cc)) (both_tie (on_tie {C = ExprCallOf T.Denot} (λ x. x.func) box) (on_tie {C = ExprCallOf T.Denot} (λ x. x.args) (elements_tie tie)))) in it

  pub field_kind_tie : IsEqualityOf (expr_field_of f) (field_kind_test.ghosts T (record { eq = E }) no_dict).eq
  field_kind_tie =
      let it = behind_tie (λ x. x.attrs) (λ x. refl) (made_tie {B = Tree × MemberTree} (λ p. tail p.0 (e.field p.1) none) (λ p q h. pair_path (cc) (cc)) (both_tie (on_tie {C = ExprFieldOf T.Denot} (λ x. x.base) box) (on_tie {C = ExprFieldOf T.Denot} (λ x. x.member) member_tie))) in it

  pub index_kind_tie : IsEqualityOf (expr_index_of f) (index_test.ghosts T (record { eq = E }) no_dict).eq
  index_kind_tie =
      let it = behind_tie (λ x. x.attrs) (λ x. refl) (made_tie {B = Tree × Tree} (λ p. tail p.0 e.index (child e.value e.no_ending p.1 none)) (λ p q h. pair_path (cc) (cc)) (both_tie (on_tie {C = ExprIndexOf T.Denot} (λ x. x.expr) box) (on_tie {C = ExprIndexOf T.Denot} (λ x. x.index) box))) in it

  pub method_kind_tie : IsEqualityOf (expr_method_call_of f) (method_test.ghosts T (record { eq = E }) no_dict).eq
  method_kind_tie =
      let it = behind_tie (λ x. x.attrs) (λ x. refl) (made_tie {B = Tree × (Text × (ArgumentsTree × Children))} (λ p. tail p.0 (e.method p.1.0 p.1.1.0) p.1.1.1) (λ p q h. pair_path (cc) (pair_path (cc) (pair_path (cc) (cc)))) (both_tie (on_tie {C = ExprMethodCallOf T.Denot} (λ x. x.receiver) box) (both_tie (on_tie {C = ExprMethodCallOf T.Denot} (λ x. x.method) text_tie) (both_tie (on_tie {C = ExprMethodCallOf T.Denot} (λ x. x.turbofish) turbofish_tie) (on_tie {C = ExprMethodCallOf T.Denot} (λ x. x.args) (elements_tie tie)))))) in it

  pub try_kind_tie : IsEqualityOf (expr_try_of f) (try_test.ghosts T (record { eq = E }) no_dict).eq
  try_kind_tie =
      let it = behind_tie (λ x. x.attrs) (λ x. refl) (made_tie (λ t. tail t e.try_expr none) (λ p q h. cc) (and_true_tie (on_tie {C = ExprTryOf T.Denot} (λ x. x.expr) box))) in it

  pub if_kind_tie : IsEqualityOf (expr_if_of f) (if_test.ghosts T (record { eq = E }) no_dict).eq
  if_kind_tie =
      let it = behind_tie (λ x. x.attrs) (λ x. refl) (made_tie {B = Tree × (List Tok × Children)} (λ p. frame e.if_expr (child e.condition (e.braced (body_of [] p.1.0)) p.0 p.1.1)) (λ p q h. let k : body_of [] p.1.0 ≡ body_of [] q.1.0 = cc in pair_path (cc) (pair_path (ap (λ (b : Body). b.tokens) k) (cc))) (both_tie (on_tie {C = ExprIfOf T.Denot} (λ x. x.cond) box) (both_tie (on_tie {C = ExprIfOf T.Denot} (λ x. x.then_branch) block_tie) (on_tie {C = ExprIfOf T.Denot} (λ x. x.else_branch) else_tie)))) in it

  pub while_kind_tie : IsEqualityOf (expr_while_of f) (while_test.ghosts T (record { eq = E }) no_dict).eq
  while_kind_tie =
      let it = around_tie {B = Option Text × (Tree × List Tok)} (λ x. x.attrs) (λ a p. frame (e.while_loop p.0) (child e.loop_head (e.braced (body_of a p.1.1)) p.1.0 none)) (λ a p. refl) (λ a b p q h. let k : body_of a p.1.1 ≡ body_of b q.1.1 = cc in (ap (λ (x : Body). x.inner) k, pair_path (cc) (pair_path (cc) (ap (λ (x : Body). x.tokens) k)))) (both_tie (on_tie {C = ExprWhileOf T.Denot} (λ x. x.label) (option_tie label_tie)) (both_tie (on_tie {C = ExprWhileOf T.Denot} (λ x. x.cond) box) (on_tie {C = ExprWhileOf T.Denot} (λ x. x.body) block_tie))) in it

  pub break_kind_tie : IsEqualityOf (expr_break_of f) (break_test.ghosts T (record { eq = E }) no_dict).eq
  break_kind_tie =
      let it = behind_tie (λ x. x.attrs) (λ x. jump_core (e.breaking (mapped lifetime_of x.label)) (boxed f x.expr)) (made_tie {B = Option Text × Option Tree} (λ p. jump_with (e.breaking p.0) p.1) (λ p q h. let r = jump_once (e.breaking p.0) (e.breaking q.0) p.1 q.1 h in let k : e.breaking p.0 ≡ e.breaking q.0 = r.0 in pair_path (cc) r.1) (both_tie (on_tie {C = ExprBreakOf T.Denot} (λ x. x.label) (option_tie lifetime_tie)) (on_tie {C = ExprBreakOf T.Denot} (λ x. x.expr) (boxed_tie tie)))) in it

  pub return_kind_tie : IsEqualityOf (expr_return_of f) (return_test.ghosts T (record { eq = E }) no_dict).eq
  return_kind_tie =
      let it = behind_tie (λ x. x.attrs) (λ x. jump_core e.returning (boxed f x.expr)) (made_tie (λ p. jump_with e.returning p) (λ p q h. (jump_once e.returning e.returning p q h).1) (on_tie {C = ExprReturnOf T.Denot} (λ x. x.expr) (boxed_tie tie))) in it

  pub yield_kind_tie : IsEqualityOf (expr_yield_of f) (yield_test.ghosts T (record { eq = E }) no_dict).eq
  yield_kind_tie =
      let it = behind_tie (λ x. x.attrs) (λ x. jump_core e.yielding (boxed f x.expr)) (made_tie (λ p. jump_with e.yielding p) (λ p q h. (jump_once e.yielding e.yielding p q h).1) (on_tie {C = ExprYieldOf T.Denot} (λ x. x.expr) (boxed_tie tie))) in it

  pub field_value_kind_tie : IsEqualityOf (field_value_of f) (field_value_test.ghosts T (record { eq = E }) no_dict).eq
  field_value_kind_tie =
      let it = made_tie {B = List AttributeTree × (MemberTree × (Bool × Tree))} {C = FieldView} (λ p. record { attrs = p.0; member = p.1.0; colon = p.1.1.0; value = p.1.1.1 }) (λ p q h. pair_path (ap (λ (r : FieldView). r.attrs) h) (pair_path (ap (λ (r : FieldView). r.member) h) (pair_path (ap (λ (r : FieldView). r.colon) h) (ap (λ (r : FieldView). r.value) h)))) (both_tie (on_tie {C = FieldValueOf T.Denot} (λ x. x.attrs) attrs_tie) (both_tie (on_tie {C = FieldValueOf T.Denot} (λ x. x.member) member_tie) (both_tie (on_tie {C = FieldValueOf T.Denot} (λ x. x.colon_token) some_tie) (on_tie {C = FieldValueOf T.Denot} (λ x. x.expr) tie)))) in it
