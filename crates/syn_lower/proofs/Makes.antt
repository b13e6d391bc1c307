-- The tree of each kind of type, by its fields.
use Rattle.std.proofs.Common.{◌≡◌, ◌∙◌, ap}
use Rattle.syn_lower_spec.specs.Tree as t
use Rattle.syn_lower_types.specs.View as parts
use Rattle.syn_lower_types.specs.declared.ty.TypePathOf.{TypePathOf}
use Rattle.syn_lower_types.specs.declared.ty.TypeMacroOf.{TypeMacroOf}
use Rattle.syn_lower_types.specs.declared.ty.TypeReferenceOf.{TypeReferenceOf}
use Rattle.syn_lower_types.specs.declared.ty.TypePtrOf.{TypePtrOf}
use Rattle.syn_lower_types.specs.declared.ty.TypeSliceOf.{TypeSliceOf}
use Rattle.syn_lower_types.specs.declared.ty.TypeArrayOf.{TypeArrayOf}
use Rattle.syn_lower_types.specs.declared.ty.TypeTupleOf.{TypeTupleOf}
use Rattle.syn_lower_types.specs.declared.ty.TypeParenOf.{TypeParenOf}
use Rattle.syn_lower.specs.declared.ty.TypeNever.{TypeNever}
use Rattle.syn_lower.specs.declared.ty.TypeInfer.{TypeInfer}
use Rattle.syn_lower_types.specs.declared.ty.TypeFnPtrOf.{TypeFnPtrOf}
use Rattle.syn_lower_types.specs.declared.ty.TypeImplTraitOf.{TypeImplTraitOf}
use Rattle.syn_lower_types.specs.declared.ty.TypeTraitObjectOf.{TypeTraitObjectOf}
use Rattle.syn_lower.specs.declared.ty.«Type».{«Type»}
use Rattle.syn_lower.specs.declared.ty.«Type».TheVariants as ty
use Rattle.syn_lower.specs.View.{type_layer, type_of}
use Rattle.syn_lower.proofs.Layers.{type_of-out}

pub type-Path : (x : TypePathOf «Type») → type_of (ty.Path x) ≡ parts.type_path_of type_of x
type-Path x = type_of-out (ty.Path x) ∙ ap (type_layer type_of) (ty.outs-Path x)

pub type-Macro : (x : TypeMacroOf «Type») → type_of (ty.Macro x) ≡ parts.type_macro_of type_of x
type-Macro x = type_of-out (ty.Macro x) ∙ ap (type_layer type_of) (ty.outs-Macro x)

pub type-Reference : (x : TypeReferenceOf «Type») → type_of (ty.Reference x) ≡ parts.reference_of type_of x
type-Reference x = type_of-out (ty.Reference x) ∙ ap (type_layer type_of) (ty.outs-Reference x)

pub type-Ptr : (x : TypePtrOf «Type») → type_of (ty.Ptr x) ≡ parts.ptr_of type_of x
type-Ptr x = type_of-out (ty.Ptr x) ∙ ap (type_layer type_of) (ty.outs-Ptr x)

pub type-Slice : (x : TypeSliceOf «Type») → type_of (ty.Slice x) ≡ parts.slice_of type_of x
type-Slice x = type_of-out (ty.Slice x) ∙ ap (type_layer type_of) (ty.outs-Slice x)

pub type-Array : (x : TypeArrayOf «Type») → type_of (ty.Array x) ≡ parts.array_of type_of x
type-Array x = type_of-out (ty.Array x) ∙ ap (type_layer type_of) (ty.outs-Array x)

pub type-Tuple : (x : TypeTupleOf «Type») → type_of (ty.Tuple x) ≡ parts.tuple_of type_of x
type-Tuple x = type_of-out (ty.Tuple x) ∙ ap (type_layer type_of) (ty.outs-Tuple x)

pub type-Paren : (x : TypeParenOf «Type») → type_of (ty.Paren x) ≡ parts.paren_of type_of x
type-Paren x = type_of-out (ty.Paren x) ∙ ap (type_layer type_of) (ty.outs-Paren x)

pub type-Never : (x : TypeNever) → type_of (ty.Never x) ≡ t.never
type-Never x = type_of-out (ty.Never x) ∙ ap (type_layer type_of) (ty.outs-Never x)

pub type-Infer : (x : TypeInfer) → type_of (ty.Infer x) ≡ t.infer
type-Infer x = type_of-out (ty.Infer x) ∙ ap (type_layer type_of) (ty.outs-Infer x)

pub type-FnPtr : (x : TypeFnPtrOf «Type») → type_of (ty.FnPtr x) ≡ parts.fn_ptr_of type_of x
type-FnPtr x = type_of-out (ty.FnPtr x) ∙ ap (type_layer type_of) (ty.outs-FnPtr x)

pub type-ImplTrait : (x : TypeImplTraitOf «Type») → type_of (ty.ImplTrait x) ≡ parts.impl_trait_of type_of x
type-ImplTrait x = type_of-out (ty.ImplTrait x) ∙ ap (type_layer type_of) (ty.outs-ImplTrait x)

pub type-TraitObject : (x : TypeTraitObjectOf «Type») → type_of (ty.TraitObject x) ≡ parts.trait_object_of type_of x
type-TraitObject x = type_of-out (ty.TraitObject x) ∙ ap (type_layer type_of) (ty.outs-TraitObject x)

pub ruleset makes = (type-Path, type-Macro, type-Reference, type-Ptr, type-Slice, type-Array, type-Tuple, type-Paren, type-Never, type-Infer, type-FnPtr, type-ImplTrait, type-TraitObject)
