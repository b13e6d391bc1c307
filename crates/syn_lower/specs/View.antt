-- Types as trees, without their places, and the parts that hold types by them.
use Rattle.syn_lower_spec.specs.Tree as t
use Rattle.syn_lower_spec.specs.Tree.{TypeTree, ArgumentsTree, GenericTree, ReturnTree, BoundTree}
use Rattle.syn_lower_types.specs.View as parts
pub use Rattle.syn_lower_types.specs.View.{mapped, last_of, is_some_pair, lifetimes_of, abi_of, is_mut, segment_of, path_of, qself_of, qself_or, macro_of, trait_of, assoc_of, angle_of, arg_of, path_with}
unfoldable pub use Rattle.syn_lower_types.specs.View.{values, trails}
use Rattle.syn_lower_types.specs.declared.path.PathArgumentsOf.{PathArgumentsOf}
use Rattle.syn_lower_types.specs.declared.path.ParenthesizedGenericArgumentsOf.{ParenthesizedGenericArgumentsOf}
use Rattle.syn_lower_types.specs.declared.path.GenericArgumentOf.{GenericArgumentOf}
use Rattle.syn_lower_types.specs.declared.ty.ReturnTypeOf.{ReturnTypeOf}
use Rattle.syn_lower_types.specs.declared.ty.TypeParamBoundOf.{TypeParamBoundOf}
use Rattle.syn_lower.specs.declared.ty.«Type».{«Type», fold-Type}
use Rattle.syn_lower.specs.declared.ty.«Type».TheOpen.{Type-F}

-- one level of a type, by the trees of the types in it
abbrev pub type_layer : {T : Type 0} → (T → TypeTree) → Type-F T → TypeTree
type_layer f (Type-F.Path x) = parts.type_path_of f x
type_layer f (Type-F.Macro x) = parts.type_macro_of f x
type_layer f (Type-F.Reference x) = parts.reference_of f x
type_layer f (Type-F.Ptr x) = parts.ptr_of f x
type_layer f (Type-F.Slice x) = parts.slice_of f x
type_layer f (Type-F.Array x) = parts.array_of f x
type_layer f (Type-F.Tuple x) = parts.tuple_of f x
type_layer f (Type-F.Paren x) = parts.paren_of f x
type_layer f (Type-F.Never x) = t.never
type_layer f (Type-F.Infer x) = t.infer
type_layer f (Type-F.FnPtr x) = parts.fn_ptr_of f x
type_layer f (Type-F.ImplTrait x) = parts.impl_trait_of f x
type_layer f (Type-F.TraitObject x) = parts.trait_object_of f x

unfoldable pub type_of : «Type» → TypeTree
type_of x = fold-Type TypeTree (type_layer (λ x. x)) x

-- ---- what holds types

abbrev pub generic_of : GenericArgumentOf «Type» → GenericTree
generic_of x = parts.generic_of type_of x

abbrev pub arguments_of : PathArgumentsOf «Type» → ArgumentsTree
arguments_of x = parts.arguments_of type_of x

abbrev pub return_of : ReturnTypeOf «Type» → ReturnTree
return_of x = parts.return_of type_of x

abbrev pub bound_of : TypeParamBoundOf «Type» → BoundTree
bound_of x = parts.bound_of type_of x

abbrev pub round_of : ParenthesizedGenericArgumentsOf «Type» → ArgumentsTree
round_of x = parts.round_of type_of x
