-- The equality of types, which may hold themselves: the test of their trees is what one step of the derived test makes of
-- it, and only the derived test is. With it the equality of each part over types.
use Rattle.std.proofs.Common.{◌≡◌, ℕ, Bool, true, sym, ap}
use denote.Enum.Declared.{Choice}
use denote.Hole.Carrier.{Values}
use denote.Hole.Compared.{compared}
use Rattle.syn_lower_spec.specs.Tree as t
use Rattle.syn_lower_spec.specs.Tree.{TypeTree}
use Rattle.syn_lower_spec.specs.Equal.{IsEqualityOf}
use Rattle.syn_lower_types.specs.View.{path_of, segment_of, arguments_of, angle_of, round_of, generic_of, assoc_of, macro_of, qself_of, arg_of, return_of, bound_of, trait_of}
use Rattle.syn_lower.specs.View.{type_of}
use Rattle.syn_lower.specs.declared.ty.«Type».{«Type»}
use Rattle.syn_lower.specs.declared.ty.«Type».TheBlock as block
use Rattle.syn_lower.specs.declared.ty.«Type».TheVariants as ty
use Rattle.syn_lower.specs.contracts.ty.«Type» as type_row
use Rattle.syn_lower.specs.contracts.ty.TypePartialEq.TheImpl as type_test
use Rattle.syn_lower.specs.contracts.ty.TypePartialEq.TheImpl.Laws as type_laws
use Rattle.syn_lower_types.specs.contracts.path.PathOfPartialEq.TheImpl as path_test
use Rattle.syn_lower_types.specs.contracts.path.PathSegmentOfPartialEq.TheImpl as segment_test
use Rattle.syn_lower_types.specs.contracts.path.PathArgumentsOfPartialEq.TheImpl as args_test
use Rattle.syn_lower_types.specs.contracts.path.AngleBracketedGenericArgumentsOfPartialEq.TheImpl as angle_test
use Rattle.syn_lower_types.specs.contracts.path.ParenthesizedGenericArgumentsOfPartialEq.TheImpl as round_test
use Rattle.syn_lower_types.specs.contracts.path.GenericArgumentOfPartialEq.TheImpl as generic_test
use Rattle.syn_lower_types.specs.contracts.path.AssocTypeOfPartialEq.TheImpl as assoc_test
use Rattle.syn_lower_types.specs.contracts.mac.MacroOfPartialEq.TheImpl as macro_test
use Rattle.syn_lower_types.specs.contracts.path.QSelfOfPartialEq.TheImpl as qself_test
use Rattle.syn_lower_types.specs.contracts.ty.BareFnArgOfPartialEq.TheImpl as arg_test
use Rattle.syn_lower_types.specs.contracts.ty.ReturnTypeOfPartialEq.TheImpl as return_test
use Rattle.syn_lower_types.specs.contracts.ty.TypeParamBoundOfPartialEq.TheImpl as bound_test
use Rattle.syn_lower_types.specs.contracts.ty.TraitBoundOfPartialEq.TheImpl as trait_test
use Rattle.syn_lower_types.specs.contracts.ty.TypePathOfPartialEq.TheImpl as path_kind_test
use Rattle.syn_lower_types.specs.contracts.ty.TypeMacroOfPartialEq.TheImpl as macro_kind_test
use Rattle.syn_lower_types.specs.contracts.ty.TypeReferenceOfPartialEq.TheImpl as reference_kind_test
use Rattle.syn_lower_types.specs.contracts.ty.TypePtrOfPartialEq.TheImpl as ptr_kind_test
use Rattle.syn_lower_types.specs.contracts.ty.TypeSliceOfPartialEq.TheImpl as slice_kind_test
use Rattle.syn_lower_types.specs.contracts.ty.TypeArrayOfPartialEq.TheImpl as array_kind_test
use Rattle.syn_lower_types.specs.contracts.ty.TypeTupleOfPartialEq.TheImpl as tuple_kind_test
use Rattle.syn_lower_types.specs.contracts.ty.TypeParenOfPartialEq.TheImpl as paren_kind_test
use Rattle.syn_lower.specs.contracts.ty.TypeNeverPartialEq.TheImpl as never_kind_test
use Rattle.syn_lower.specs.contracts.ty.TypeInferPartialEq.TheImpl as infer_kind_test
use Rattle.syn_lower_types.specs.contracts.ty.TypeFnPtrOfPartialEq.TheImpl as fn_ptr_kind_test
use Rattle.syn_lower_types.specs.contracts.ty.TypeImplTraitOfPartialEq.TheImpl as impl_kind_test
use Rattle.syn_lower_types.specs.contracts.ty.TypeTraitObjectOfPartialEq.TheImpl as object_kind_test
use Rattle.syn_lower.proofs.Makes.{type-Path, type-Macro, type-Reference, type-Ptr, type-Slice, type-Array, type-Tuple, type-Paren, type-Never, type-Infer, type-FnPtr, type-ImplTrait, type-TraitObject}
use Rattle.syn_lower_spec.proofs.TreeEq.{type_eq}
use Rattle.syn_lower_leaves.proofs.Ties.{on_tie, constant_tie, along, by_test, rank_end, rank_more, decides, decided_tie, one_test, is_compared}
use Rattle.syn_laws.proofs.PartTies as parts
use Rattle.syn_laws.proofs.PartTies.{lifetimes_tie, abi_tie, pointer_tie}

-- ---- the test of the trees

abbrev Value : block.the_members → Type 0
Value = Values block.the_members block.the_sigs block.the_carrier

abbrev test : (j : block.the_members) → Value j → Value j → Bool
test block.member-Type x y = decides (type_eq (type_of x) (type_of y))

tests : IsEqualityOf type_of (test block.member-Type)
tests = decided_tie type_of type_eq

-- ---- one step of the derived test

abbrev step : (j : block.the_members) → Value j → Value j → Bool
step = type_test.the_step test

abbrev kind : TypeTree → ℕ
kind (t.path q l s e) = 0
kind (t.mac l s e d i) = 1
kind (t.reference l m x) = 2
kind (t.ptr m x) = 3
kind (t.slice x) = 4
kind (t.array x i) = 5
kind (t.tuple x e) = 6
kind (t.paren x) = 7
kind t.never = 8
kind t.infer = 9
kind (t.fn_ptr l u a x e r) = 10
kind (t.impl_trait x e) = 11
kind (t.trait_object x e) = 12

steps : IsEqualityOf type_of (step block.member-Type)
steps =
    let it = rank_more kind {k = 0} {view = λ (c : Choice type_row.the_parts). type_of (type_row.the_make c)} (along (λ v. type-Path v.0) (on_tie (λ v. v.0) (parts.type_path_tie type_row.the_row tests))) (λ v. ap kind (type-Path v.0))
    (rank_more kind (along (λ v. type-Macro v.0) (on_tie (λ v. v.0) (parts.type_macro_tie type_row.the_row tests))) (λ v. ap kind (type-Macro v.0))
    (rank_more kind (along (λ v. type-Reference v.0) (on_tie (λ v. v.0) (parts.reference_tie type_row.the_row tests))) (λ v. ap kind (type-Reference v.0))
    (rank_more kind (along (λ v. type-Ptr v.0) (on_tie (λ v. v.0) (parts.ptr_tie type_row.the_row tests))) (λ v. ap kind (type-Ptr v.0))
    (rank_more kind (along (λ v. type-Slice v.0) (on_tie (λ v. v.0) (parts.slice_tie type_row.the_row tests))) (λ v. ap kind (type-Slice v.0))
    (rank_more kind (along (λ v. type-Array v.0) (on_tie (λ v. v.0) (parts.array_tie type_row.the_row tests))) (λ v. ap kind (type-Array v.0))
    (rank_more kind (along (λ v. type-Tuple v.0) (on_tie (λ v. v.0) (parts.tuple_tie type_row.the_row tests))) (λ v. ap kind (type-Tuple v.0))
    (rank_more kind (along (λ v. type-Paren v.0) (on_tie (λ v. v.0) (parts.paren_tie type_row.the_row tests))) (λ v. ap kind (type-Paren v.0))
    (rank_more kind (along (λ v. type-Never v.0) (constant_tie t.never)) (λ v. ap kind (type-Never v.0))
    (rank_more kind (along (λ v. type-Infer v.0) (constant_tie t.infer)) (λ v. ap kind (type-Infer v.0))
    (rank_more kind (along (λ v. type-FnPtr v.0) (on_tie (λ v. v.0) (parts.fn_ptr_tie type_row.the_row tests))) (λ v. ap kind (type-FnPtr v.0))
    (rank_more kind (along (λ v. type-ImplTrait v.0) (on_tie (λ v. v.0) (parts.impl_tie type_row.the_row tests))) (λ v. ap kind (type-ImplTrait v.0))
    (rank_more kind (along (λ v. type-TraitObject v.0) (on_tie (λ v. v.0) (parts.object_tie type_row.the_row tests))) (λ v. ap kind (type-TraitObject v.0)) (rank_end kind))))))))))))) in
    along (λ x. ap type_of (sym (type_row.the_eta x))) (on_tie {C = «Type»} type_row.as_values it.tie)

fixed : (j : block.the_members) (x y : Value j) → test j x y ≡ step j x y
fixed block.member-Type x y = one_test tests steps x y

-- ---- the derived test

derived : (j : block.the_members) (x y : Value j) → compared block.the_members Value block.the_depth Bool true type_test.the_step j x y ≡ test j x y
derived = is_compared block.the_members Value block.the_depth type_test.the_step type_laws.local test fixed

pub type_tie : IsEqualityOf type_of type_test.ghosts.eq
type_tie = by_test (derived block.member-Type) tests

-- ---- the parts over types

pub path_tie : IsEqualityOf (path_of type_of) (path_test.ghosts type_row.the_row type_test.ghosts type_test.dict).eq
path_tie = parts.path_tie type_row.the_row type_tie

pub segment_tie : IsEqualityOf (segment_of type_of) (segment_test.ghosts type_row.the_row type_test.ghosts type_test.dict).eq
segment_tie = parts.segment_tie type_row.the_row type_tie

pub args_tie : IsEqualityOf (arguments_of type_of) (args_test.ghosts type_row.the_row type_test.ghosts type_test.dict).eq
args_tie = parts.args_tie type_row.the_row type_tie

pub angle_tie : IsEqualityOf (angle_of type_of) (angle_test.ghosts type_row.the_row type_test.ghosts type_test.dict).eq
angle_tie = parts.angle_tie type_row.the_row type_tie

pub round_tie : IsEqualityOf (round_of type_of) (round_test.ghosts type_row.the_row type_test.ghosts type_test.dict).eq
round_tie = parts.round_tie type_row.the_row type_tie

pub generic_tie : IsEqualityOf (generic_of type_of) (generic_test.ghosts type_row.the_row type_test.ghosts type_test.dict).eq
generic_tie = parts.generic_tie type_row.the_row type_tie

pub assoc_tie : IsEqualityOf (assoc_of type_of) (assoc_test.ghosts type_row.the_row type_test.ghosts type_test.dict).eq
assoc_tie = parts.assoc_tie type_row.the_row type_tie

pub macro_tie : IsEqualityOf (macro_of type_of) (macro_test.ghosts type_row.the_row type_test.ghosts type_test.dict).eq
macro_tie = parts.macro_tie type_row.the_row type_tie

pub qself_tie : IsEqualityOf (qself_of type_of) (qself_test.ghosts type_row.the_row type_test.ghosts type_test.dict).eq
qself_tie = parts.qself_tie type_row.the_row type_tie

pub arg_tie : IsEqualityOf (arg_of type_of) (arg_test.ghosts type_row.the_row type_test.ghosts type_test.dict).eq
arg_tie = parts.arg_tie type_row.the_row type_tie

pub return_tie : IsEqualityOf (return_of type_of) (return_test.ghosts type_row.the_row type_test.ghosts type_test.dict).eq
return_tie = parts.return_tie type_row.the_row type_tie

pub bound_tie : IsEqualityOf (bound_of type_of) (bound_test.ghosts type_row.the_row type_test.ghosts type_test.dict).eq
bound_tie = parts.bound_tie type_row.the_row type_tie

pub trait_tie : IsEqualityOf (trait_of type_of) (trait_test.ghosts type_row.the_row type_test.ghosts type_test.dict).eq
trait_tie = parts.trait_tie type_row.the_row type_tie

-- ---- each kind of type

pub path_kind_tie : IsEqualityOf (λ x. type_of (ty.Path x)) (path_kind_test.ghosts type_row.the_row type_test.ghosts type_test.dict).eq
path_kind_tie = along type-Path (parts.type_path_tie type_row.the_row type_tie)

pub macro_kind_tie : IsEqualityOf (λ x. type_of (ty.Macro x)) (macro_kind_test.ghosts type_row.the_row type_test.ghosts type_test.dict).eq
macro_kind_tie = along type-Macro (parts.type_macro_tie type_row.the_row type_tie)

pub reference_kind_tie : IsEqualityOf (λ x. type_of (ty.Reference x)) (reference_kind_test.ghosts type_row.the_row type_test.ghosts type_test.dict).eq
reference_kind_tie = along type-Reference (parts.reference_tie type_row.the_row type_tie)

pub ptr_kind_tie : IsEqualityOf (λ x. type_of (ty.Ptr x)) (ptr_kind_test.ghosts type_row.the_row type_test.ghosts type_test.dict).eq
ptr_kind_tie = along type-Ptr (parts.ptr_tie type_row.the_row type_tie)

pub slice_kind_tie : IsEqualityOf (λ x. type_of (ty.Slice x)) (slice_kind_test.ghosts type_row.the_row type_test.ghosts type_test.dict).eq
slice_kind_tie = along type-Slice (parts.slice_tie type_row.the_row type_tie)

pub array_kind_tie : IsEqualityOf (λ x. type_of (ty.Array x)) (array_kind_test.ghosts type_row.the_row type_test.ghosts type_test.dict).eq
array_kind_tie = along type-Array (parts.array_tie type_row.the_row type_tie)

pub tuple_kind_tie : IsEqualityOf (λ x. type_of (ty.Tuple x)) (tuple_kind_test.ghosts type_row.the_row type_test.ghosts type_test.dict).eq
tuple_kind_tie = along type-Tuple (parts.tuple_tie type_row.the_row type_tie)

pub paren_kind_tie : IsEqualityOf (λ x. type_of (ty.Paren x)) (paren_kind_test.ghosts type_row.the_row type_test.ghosts type_test.dict).eq
paren_kind_tie = along type-Paren (parts.paren_tie type_row.the_row type_tie)

pub never_kind_tie : IsEqualityOf (λ x. type_of (ty.Never x)) never_kind_test.ghosts.eq
never_kind_tie = along type-Never (constant_tie t.never)

pub infer_kind_tie : IsEqualityOf (λ x. type_of (ty.Infer x)) infer_kind_test.ghosts.eq
infer_kind_tie = along type-Infer (constant_tie t.infer)

pub fn_ptr_kind_tie : IsEqualityOf (λ x. type_of (ty.FnPtr x)) (fn_ptr_kind_test.ghosts type_row.the_row type_test.ghosts type_test.dict).eq
fn_ptr_kind_tie = along type-FnPtr (parts.fn_ptr_tie type_row.the_row type_tie)

pub impl_kind_tie : IsEqualityOf (λ x. type_of (ty.ImplTrait x)) (impl_kind_test.ghosts type_row.the_row type_test.ghosts type_test.dict).eq
impl_kind_tie = along type-ImplTrait (parts.impl_tie type_row.the_row type_tie)

pub object_kind_tie : IsEqualityOf (λ x. type_of (ty.TraitObject x)) (object_kind_test.ghosts type_row.the_row type_test.ghosts type_test.dict).eq
object_kind_tie = along type-TraitObject (parts.object_tie type_row.the_row type_tie)

pub ruleset sames = (lifetimes_tie, abi_tie, pointer_tie, type_tie, path_tie, segment_tie, args_tie, angle_tie, round_tie, generic_tie, assoc_tie, macro_tie, qself_tie, arg_tie, return_tie, bound_tie, trait_tie, path_kind_tie, macro_kind_tie, reference_kind_tie, ptr_kind_tie, slice_kind_tie, array_kind_tie, tuple_kind_tie, paren_kind_tie, never_kind_tie, infer_kind_tie, fn_ptr_kind_tie, impl_kind_tie, object_kind_tie)
