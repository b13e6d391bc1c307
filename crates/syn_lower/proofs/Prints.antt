-- What is printed of each kind of type is its tree's own tokens.
use Rattle.std.proofs.Common.{◌≡◌, List, [], ◌∷◌, refl}
use Rattle.std.specs.Prelude.{codes}
use Rattle.syn_tokens.specs.Tok.{Tok, ident}
use Rattle.syn_lower_spec.specs.Own.{alone, type_own}
use Rattle.syn_lower_types.specs.Printed.{type_path_printed, macro_printed, reference_printed, ptr_printed, slice_printed, array_printed, tuple_printed, paren_printed, fn_ptr_printed, impl_printed, object_printed}
use Rattle.syn_lower_types.proofs.Prints.{type_path_print, type_macro_print, reference_print, ptr_print, slice_print, array_print, tuple_print, paren_print, fn_ptr_print, impl_trait_print, trait_object_print}
use Rattle.syn_lower.specs.View.{type_of}
use Rattle.syn_lower.proofs.Makes.{type-Path, type-Macro, type-Reference, type-Ptr, type-Slice, type-Array, type-Tuple, type-Paren, type-Never, type-Infer, type-FnPtr, type-ImplTrait, type-TraitObject}
use Rattle.syn_lower_types.specs.declared.ty.TypePathOf.{TypePathOf}
use Rattle.syn_lower_types.specs.declared.ty.TypeMacroOf.{TypeMacroOf}
use Rattle.syn_lower_types.specs.declared.ty.TypeReferenceOf.{TypeReferenceOf}
use Rattle.syn_lower_types.specs.declared.ty.TypePtrOf.{TypePtrOf}
use Rattle.syn_lower_types.specs.declared.ty.TypeSliceOf.{TypeSliceOf}
use Rattle.syn_lower_types.specs.declared.ty.TypeArrayOf.{TypeArrayOf}
use Rattle.syn_lower_types.specs.declared.ty.TypeTupleOf.{TypeTupleOf}
use Rattle.syn_lower_types.specs.declared.ty.TypeParenOf.{TypeParenOf}
use Rattle.syn_lower_types.specs.declared.ty.TypeFnPtrOf.{TypeFnPtrOf}
use Rattle.syn_lower_types.specs.declared.ty.TypeImplTraitOf.{TypeImplTraitOf}
use Rattle.syn_lower_types.specs.declared.ty.TypeTraitObjectOf.{TypeTraitObjectOf}
use Rattle.syn_lower.specs.declared.ty.«Type».{«Type»}
use Rattle.syn_lower.specs.declared.ty.«Type».TheVariants as ty
use Rattle.syn_lower.specs.declared.ty.TypeNever.{TypeNever}
use Rattle.syn_lower.specs.declared.ty.TypeInfer.{TypeInfer}

abbrev pub ty_toks : «Type» → List Tok
ty_toks x = type_own (type_of x) []

pub ty-Path : (x : TypePathOf «Type») → ty_toks (ty.Path x) ≡ type_path_printed ty_toks x
ty-Path x = rw (type-Path x) (type_path_print type_of x)

pub ty-Macro : (x : TypeMacroOf «Type») → ty_toks (ty.Macro x) ≡ macro_printed ty_toks x.mac
ty-Macro x = rw (type-Macro x) (type_macro_print type_of x)

pub ty-Reference : (x : TypeReferenceOf «Type») → ty_toks (ty.Reference x) ≡ reference_printed ty_toks x
ty-Reference x = rw (type-Reference x) (reference_print type_of x)

pub ty-Ptr : (x : TypePtrOf «Type») → ty_toks (ty.Ptr x) ≡ ptr_printed ty_toks x
ty-Ptr x = rw (type-Ptr x) (ptr_print type_of x)

pub ty-Slice : (x : TypeSliceOf «Type») → ty_toks (ty.Slice x) ≡ slice_printed ty_toks x
ty-Slice x = rw (type-Slice x) (slice_print type_of x)

pub ty-Array : (x : TypeArrayOf «Type») → ty_toks (ty.Array x) ≡ array_printed ty_toks x
ty-Array x = rw (type-Array x) (array_print type_of x)

pub ty-Tuple : (x : TypeTupleOf «Type») → ty_toks (ty.Tuple x) ≡ tuple_printed ty_toks x
ty-Tuple x = rw (type-Tuple x) (tuple_print type_of x)

pub ty-Paren : (x : TypeParenOf «Type») → ty_toks (ty.Paren x) ≡ paren_printed ty_toks x
ty-Paren x = rw (type-Paren x) (paren_print type_of x)

pub ty-FnPtr : (x : TypeFnPtrOf «Type») → ty_toks (ty.FnPtr x) ≡ fn_ptr_printed ty_toks x
ty-FnPtr x = rw (type-FnPtr x) (fn_ptr_print type_of x)

pub ty-ImplTrait : (x : TypeImplTraitOf «Type») → ty_toks (ty.ImplTrait x) ≡ impl_printed ty_toks x
ty-ImplTrait x = rw (type-ImplTrait x) (impl_trait_print type_of x)

pub ty-TraitObject : (x : TypeTraitObjectOf «Type») → ty_toks (ty.TraitObject x) ≡ object_printed ty_toks x
ty-TraitObject x = rw (type-TraitObject x) (trait_object_print type_of x)

pub ty-Never : (x : TypeNever) → ty_toks (ty.Never x) ≡ alone 33 ∷ []
ty-Never x = rw (type-Never x) refl

pub ty-Infer : (x : TypeInfer) → ty_toks (ty.Infer x) ≡ ident (codes "_") ∷ []
ty-Infer x = rw (type-Infer x) refl

pub ruleset kinds = (ty-Path, ty-Macro, ty-Reference, ty-Ptr, ty-Slice, ty-Array, ty-Tuple, ty-Paren, ty-Never, ty-Infer, ty-FnPtr, ty-ImplTrait, ty-TraitObject)
