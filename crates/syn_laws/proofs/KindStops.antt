-- The kind of each type, and what is after those that end by themselves.
use Rattle.std.proofs.Common.{◌≡◌, true, List, refl}
use Rattle.syn_tokens.specs.Tok.{Tok}
use Rattle.syn_lower_spec.specs.Part.{is_never, is_infer}
use Rattle.syn_lower_spec.specs.Fits.{type_stops}
use Rattle.syn_lower_spec.specs.Kind.{is_reference, is_pointer, is_slice, is_array, is_tuple, is_paren, is_fn_pointer, is_impl_trait, is_trait_object}
use Rattle.syn_lower.specs.View.{type_of}
use Rattle.syn_lower.proofs.Makes.{type-Reference, type-Ptr, type-Slice, type-Array, type-Tuple, type-Paren, type-Never, type-Infer, type-FnPtr, type-ImplTrait, type-TraitObject}
use Rattle.syn_lower.specs.declared.ty.«Type».{«Type»}
use Rattle.syn_lower.specs.declared.ty.«Type».TheVariants as ty
use Rattle.syn_lower_types.specs.declared.ty.TypeReferenceOf.{TypeReferenceOf}
use Rattle.syn_lower_types.specs.declared.ty.TypePtrOf.{TypePtrOf}
use Rattle.syn_lower_types.specs.declared.ty.TypeSliceOf.{TypeSliceOf}
use Rattle.syn_lower_types.specs.declared.ty.TypeArrayOf.{TypeArrayOf}
use Rattle.syn_lower_types.specs.declared.ty.TypeTupleOf.{TypeTupleOf}
use Rattle.syn_lower_types.specs.declared.ty.TypeParenOf.{TypeParenOf}
use Rattle.syn_lower.specs.declared.ty.TypeNever.{TypeNever}
use Rattle.syn_lower.specs.declared.ty.TypeInfer.{TypeInfer}
use Rattle.syn_lower_types.specs.declared.ty.TypeFnPtrOf.{TypeFnPtrOf}
use Rattle.syn_lower_types.specs.declared.ty.TypeImplTraitOf.{TypeImplTraitOf}
use Rattle.syn_lower_types.specs.declared.ty.TypeTraitObjectOf.{TypeTraitObjectOf}

pub is-Reference : (x : TypeReferenceOf «Type») → is_reference (type_of (ty.Reference x)) ≡ true
is-Reference x = rw (type-Reference x) refl

pub is-Ptr : (x : TypePtrOf «Type») → is_pointer (type_of (ty.Ptr x)) ≡ true
is-Ptr x = rw (type-Ptr x) refl

pub is-Slice : (x : TypeSliceOf «Type») → is_slice (type_of (ty.Slice x)) ≡ true
is-Slice x = rw (type-Slice x) refl

pub is-Array : (x : TypeArrayOf «Type») → is_array (type_of (ty.Array x)) ≡ true
is-Array x = rw (type-Array x) refl

pub is-Tuple : (x : TypeTupleOf «Type») → is_tuple (type_of (ty.Tuple x)) ≡ true
is-Tuple x = rw (type-Tuple x) refl

pub is-Paren : (x : TypeParenOf «Type») → is_paren (type_of (ty.Paren x)) ≡ true
is-Paren x = rw (type-Paren x) refl

pub is-Never : (x : TypeNever) → is_never (type_of (ty.Never x)) ≡ true
is-Never x = rw (type-Never x) refl

pub is-Infer : (x : TypeInfer) → is_infer (type_of (ty.Infer x)) ≡ true
is-Infer x = rw (type-Infer x) refl

pub is-FnPtr : (x : TypeFnPtrOf «Type») → is_fn_pointer (type_of (ty.FnPtr x)) ≡ true
is-FnPtr x = rw (type-FnPtr x) refl

pub is-ImplTrait : (x : TypeImplTraitOf «Type») → is_impl_trait (type_of (ty.ImplTrait x)) ≡ true
is-ImplTrait x = rw (type-ImplTrait x) refl

pub is-TraitObject : (x : TypeTraitObjectOf «Type») → is_trait_object (type_of (ty.TraitObject x)) ≡ true
is-TraitObject x = rw (type-TraitObject x) refl

pub stops-Slice : (x : TypeSliceOf «Type») (rest : List Tok) → type_stops true (type_of (ty.Slice x)) rest ≡ true
stops-Slice x rest = rw (type-Slice x) refl

pub stops-Array : (x : TypeArrayOf «Type») (rest : List Tok) → type_stops true (type_of (ty.Array x)) rest ≡ true
stops-Array x rest = rw (type-Array x) refl

pub stops-Tuple : (x : TypeTupleOf «Type») (rest : List Tok) → type_stops true (type_of (ty.Tuple x)) rest ≡ true
stops-Tuple x rest = rw (type-Tuple x) refl

pub stops-Paren : (x : TypeParenOf «Type») (rest : List Tok) → type_stops true (type_of (ty.Paren x)) rest ≡ true
stops-Paren x rest = rw (type-Paren x) refl

pub stops-Never : (x : TypeNever) (rest : List Tok) → type_stops true (type_of (ty.Never x)) rest ≡ true
stops-Never x rest = rw (type-Never x) refl

pub stops-Infer : (x : TypeInfer) (rest : List Tok) → type_stops true (type_of (ty.Infer x)) rest ≡ true
stops-Infer x rest = rw (type-Infer x) refl
