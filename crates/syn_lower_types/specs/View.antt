-- The parts that hold types as trees, without their places, by the trees of the types.
use Rattle.std.specs.Prelude.{Bool, map, Option, Some, None, is_some}
use Rattle.syn_lower_spec.specs.Text.{Text}
use Rattle.syn_lower_spec.specs.Tree as t
use Rattle.syn_lower_spec.specs.Tree.{LifetimesTree, TypeTree, SegmentTree, PathTree, FnArgTree, ArgumentsTree, GenericTree, ReturnTree, BoundTree, QSelfTree}
use Rattle.syn_lower_spec.specs.Part.{MacroTree}
pub use Rattle.syn_lower_leaves.specs.View.{mapped, lifetime_of, lit_str_of, delimiter_of, last_of, is_some_pair, lifetimes_of, abi_of, is_mut}
unfoldable pub use Rattle.syn_lower_leaves.specs.View.{values, trails}
use Rattle.syn_lower_types.specs.declared.mac.MacroOf.{MacroOf}
use Rattle.syn_lower_types.specs.declared.path.PathOf.{PathOf}
use Rattle.syn_lower_types.specs.declared.path.PathSegmentOf.{PathSegmentOf}
use Rattle.syn_lower_types.specs.declared.path.AngleBracketedGenericArgumentsOf.{AngleBracketedGenericArgumentsOf}
use Rattle.syn_lower_types.specs.declared.path.AssocTypeOf.{AssocTypeOf}
use Rattle.syn_lower_types.specs.declared.path.QSelfOf.{QSelfOf}
use Rattle.syn_lower_types.specs.declared.ty.BareFnArgOf.{BareFnArgOf}
use Rattle.syn_lower_types.specs.declared.ty.TraitBoundOf.{TraitBoundOf}
use Rattle.syn_lower_types.specs.declared.path.PathArgumentsOf.{PathArgumentsOf}
use Rattle.syn_lower_types.specs.declared.path.PathArgumentsOf.TheVariants as arguments
use Rattle.syn_lower_types.specs.declared.path.ParenthesizedGenericArgumentsOf.{ParenthesizedGenericArgumentsOf}
use Rattle.syn_lower_types.specs.declared.path.GenericArgumentOf.{GenericArgumentOf}
use Rattle.syn_lower_types.specs.declared.path.GenericArgumentOf.TheVariants as generic
use Rattle.syn_lower_types.specs.declared.ty.ReturnTypeOf.{ReturnTypeOf}
use Rattle.syn_lower_types.specs.declared.ty.ReturnTypeOf.TheVariants as output
use Rattle.syn_lower_types.specs.declared.ty.TypeParamBoundOf.{TypeParamBoundOf}
use Rattle.syn_lower_types.specs.declared.ty.TypeParamBoundOf.TheVariants as bound
use Rattle.syn_lower_types.specs.declared.ty.TypePathOf.{TypePathOf}
use Rattle.syn_lower_types.specs.declared.ty.TypeFnPtrOf.{TypeFnPtrOf}
use Rattle.syn_lower_types.specs.declared.ty.TypeMacroOf.{TypeMacroOf}
use Rattle.syn_lower_types.specs.declared.ty.TypeReferenceOf.{TypeReferenceOf}
use Rattle.syn_lower_types.specs.declared.ty.TypePtrOf.{TypePtrOf}
use Rattle.syn_lower_types.specs.declared.ty.TypeSliceOf.{TypeSliceOf}
use Rattle.syn_lower_types.specs.declared.ty.TypeArrayOf.{TypeArrayOf}
use Rattle.syn_lower_types.specs.declared.ty.TypeTupleOf.{TypeTupleOf}
use Rattle.syn_lower_types.specs.declared.ty.TypeParenOf.{TypeParenOf}
use Rattle.syn_lower_types.specs.declared.ty.TypeImplTraitOf.{TypeImplTraitOf}
use Rattle.syn_lower_types.specs.declared.ty.TypeTraitObjectOf.{TypeTraitObjectOf}

-- ---- types in brackets and after words

abbrev pub return_of : {T : Type 0} → (T → TypeTree) → ReturnTypeOf T → ReturnTree
return_of f output.Default = t.default
return_of f (output.Given a b) = t.given (f b.value)

abbrev pub assoc_of : {T : Type 0} → (T → TypeTree) → AssocTypeOf T → GenericTree
assoc_of f x = t.an_assoc x.ident (f x.ty)

-- the name and the type of an associated type
abbrev pub name_and_type : {T : Type 0} → (T → TypeTree) → AssocTypeOf T → Text × TypeTree
name_and_type f x = (x.ident, f x.ty)

abbrev pub generic_of : {T : Type 0} → (T → TypeTree) → GenericArgumentOf T → GenericTree
generic_of f (generic.Lifetime x) = t.a_lifetime (lifetime_of x)
generic_of f (generic.Const x) = t.a_const x
generic_of f (generic.AssocType x) = assoc_of f x
generic_of f (generic.Ty x) = t.a_type (f x)

abbrev pub angle_of : {T : Type 0} → (T → TypeTree) → AngleBracketedGenericArgumentsOf T → ArgumentsTree
angle_of f x = t.angle (is_some x.colon2_token) (t.generics_of (map (generic_of f) (values x.args))) (trails x.args)

abbrev pub round_of : {T : Type 0} → (T → TypeTree) → ParenthesizedGenericArgumentsOf T → ArgumentsTree
round_of f x = t.round (t.types_of (map f (values x.inputs))) (trails x.inputs) (return_of f x.output)

abbrev pub arguments_of : {T : Type 0} → (T → TypeTree) → PathArgumentsOf T → ArgumentsTree
arguments_of f arguments.None = t.no_arguments
arguments_of f (arguments.AngleBracketed x) = angle_of f x
arguments_of f (arguments.Parenthesized x) = round_of f x

abbrev pub arg_of : {T : Type 0} → (T → TypeTree) → BareFnArgOf T → FnArgTree
arg_of f x = record { name = mapped (λ p. p.0) x.name; ty = f x.ty }

-- ---- paths

abbrev pub segment_of : {T : Type 0} → (T → TypeTree) → PathSegmentOf T → SegmentTree
segment_of f x = record { ident = x.ident; arguments = arguments_of f x.arguments }

abbrev pub path_of : {T : Type 0} → (T → TypeTree) → PathOf T → PathTree
path_of f x = record { leading = is_some x.leading_colon; segments = map (segment_of f) (values x.segments); trailing = trails x.segments }

abbrev pub qself_of : {T : Type 0} → (T → TypeTree) → QSelfOf T → QSelfTree
qself_of f x = t.qself (f x.ty.value) x.position (is_some x.as_token)

abbrev pub qself_or : {T : Type 0} → (T → TypeTree) → Option (QSelfOf T) → QSelfTree
qself_or f None = t.no_qself
qself_or f (Some x) = qself_of f x

abbrev pub macro_of : {T : Type 0} → (T → TypeTree) → MacroOf T → MacroTree
macro_of f x = record { path = path_of f x.path; delimiter = delimiter_of x.delimiter; tokens = x.tokens }

abbrev pub trait_with : Bool → Option LifetimesTree → PathTree → BoundTree
trait_with q l p = t.a_trait q l p.leading (t.segments_of p.segments) p.trailing

abbrev pub trait_of : {T : Type 0} → (T → TypeTree) → TraitBoundOf T → BoundTree
trait_of f x = trait_with (is_some x.maybe) (mapped lifetimes_of x.lifetimes) (path_of f x.path)

abbrev pub bound_of : {T : Type 0} → (T → TypeTree) → TypeParamBoundOf T → BoundTree
bound_of f (bound.Lifetime x) = t.outlives (lifetime_of x)
bound_of f (bound.Trait x) = trait_of f x

-- ---- each kind of type

abbrev pub path_with : QSelfTree → PathTree → TypeTree
path_with q p = t.path q p.leading (t.segments_of p.segments) p.trailing

abbrev pub mac_with : MacroTree → TypeTree
mac_with m = t.mac m.path.leading (t.segments_of m.path.segments) m.path.trailing m.delimiter m.tokens

abbrev pub type_path_of : {T : Type 0} → (T → TypeTree) → TypePathOf T → TypeTree
type_path_of f x = path_with (qself_or f x.qself) (path_of f x.path)

abbrev pub type_macro_of : {T : Type 0} → (T → TypeTree) → TypeMacroOf T → TypeTree
type_macro_of f x = mac_with (macro_of f x.mac)

abbrev pub reference_of : {T : Type 0} → (T → TypeTree) → TypeReferenceOf T → TypeTree
reference_of f x = t.reference (mapped lifetime_of x.lifetime) (is_some x.mutability) (f x.elem.value)

abbrev pub ptr_of : {T : Type 0} → (T → TypeTree) → TypePtrOf T → TypeTree
ptr_of f x = t.ptr (is_mut x.mutability) (f x.elem.value)

abbrev pub slice_of : {T : Type 0} → (T → TypeTree) → TypeSliceOf T → TypeTree
slice_of f x = t.slice (f x.elem.value)

abbrev pub array_of : {T : Type 0} → (T → TypeTree) → TypeArrayOf T → TypeTree
array_of f x = t.array (f x.elem.value) x.len

abbrev pub tuple_of : {T : Type 0} → (T → TypeTree) → TypeTupleOf T → TypeTree
tuple_of f x = t.tuple (t.types_of (map f (values x.elems))) (trails x.elems)

abbrev pub paren_of : {T : Type 0} → (T → TypeTree) → TypeParenOf T → TypeTree
paren_of f x = t.paren (f x.elem.value)

abbrev pub fn_ptr_of : {T : Type 0} → (T → TypeTree) → TypeFnPtrOf T → TypeTree
fn_ptr_of f x = t.fn_ptr (mapped lifetimes_of x.lifetimes) (is_some x.unsafety) (mapped abi_of x.abi) (t.args_of (map (arg_of f) (values x.inputs))) (trails x.inputs) (return_of f x.output)

abbrev pub impl_trait_of : {T : Type 0} → (T → TypeTree) → TypeImplTraitOf T → TypeTree
impl_trait_of f x = t.impl_trait (t.bounds_of (map (bound_of f) (values x.bounds))) (trails x.bounds)

abbrev pub trait_object_of : {T : Type 0} → (T → TypeTree) → TypeTraitObjectOf T → TypeTree
trait_object_of f x = t.trait_object (t.bounds_of (map (bound_of f) (values x.bounds))) (trails x.bounds)
