-- A type that is no value of a kind's variant doesn't pass the kind's test.
use Rattle.std.proofs.Common.{◌≡◌, ◌⊎◌, inl, inr, ⊎_elim, Bool, false, refl, ap, sym, ◌∙◌}
use Rattle.syn_lower_spec.specs.Tree.{TypeTree}
use Rattle.syn_lower_spec.specs.Part.{is_never, is_infer}
use Rattle.syn_lower_spec.specs.Kind.{is_reference, is_pointer, is_slice, is_array, is_tuple, is_paren, is_fn_pointer, is_impl_trait, is_trait_object}
use Rattle.syn_lower.specs.declared.ty.«Type».{«Type», out-Type, roll-Type, roll-out-Type}
use Rattle.syn_lower.specs.declared.ty.«Type».TheOpen.{Type-F}
use Rattle.syn_lower.specs.declared.ty.«Type».TheVariants as ty
use Rattle.syn_lower_types.specs.declared.ty.TypeReferenceOf.{TypeReferenceOf}
use Rattle.syn_lower_types.specs.declared.ty.TypePtrOf.{TypePtrOf}
use Rattle.syn_lower_types.specs.declared.ty.TypeSliceOf.{TypeSliceOf}
use Rattle.syn_lower_types.specs.declared.ty.TypeArrayOf.{TypeArrayOf}
use Rattle.syn_lower_types.specs.declared.ty.TypeTupleOf.{TypeTupleOf}
use Rattle.syn_lower_types.specs.declared.ty.TypeParenOf.{TypeParenOf}
use Rattle.syn_lower.specs.declared.ty.TypeNever.{TypeNever}
use Rattle.syn_lower.specs.declared.ty.TypeInfer.{TypeInfer}
use Rattle.syn_lower_types.specs.declared.ty.TypeFnPtrOf.{TypeFnPtrOf}
use Rattle.syn_lower_types.specs.declared.ty.TypeImplTraitOf.{TypeImplTraitOf}
use Rattle.syn_lower_types.specs.declared.ty.TypeTraitObjectOf.{TypeTraitObjectOf}
use Rattle.syn_lower.specs.View.{type_layer, type_of}
use Rattle.syn_lower.proofs.Layers.{type_of-out}
use Rattle.syn_lower.proofs.Makes.{makes}

-- by one level of a type: it is of the variant, or the test fails there
not_kind : {S : Type 0} (variant : S → «Type») (is : TypeTree → Bool) → ((l : Type-F «Type») → ((x : S) × (roll-Type l ≡ variant x)) ⊎ (is (type_layer type_of l) ≡ false)) → (v : «Type») → ((x : S) → v ≡ variant x → ⊥) → is (type_of v) ≡ false
not_kind variant is levels v other = ap is (type_of-out v) ∙ ⊎_elim (λ h. absurd (other h.0 (sym (roll-out-Type v) ∙ h.1))) (λ e. e) (levels (out-Type v))

pub not_reference : (v : «Type») → ((x : TypeReferenceOf «Type») → v ≡ ty.Reference x → ⊥) → is_reference (type_of v) ≡ false
not_reference = not_kind ty.Reference is_reference (elim [ Type-F.Reference x ↦ inl (x, ty.rolls-Reference x) | _ ↦ inr refl ])

pub not_pointer : (v : «Type») → ((x : TypePtrOf «Type») → v ≡ ty.Ptr x → ⊥) → is_pointer (type_of v) ≡ false
not_pointer = not_kind ty.Ptr is_pointer (elim [ Type-F.Ptr x ↦ inl (x, ty.rolls-Ptr x) | _ ↦ inr refl ])

pub not_slice : (v : «Type») → ((x : TypeSliceOf «Type») → v ≡ ty.Slice x → ⊥) → is_slice (type_of v) ≡ false
not_slice = not_kind ty.Slice is_slice (elim [ Type-F.Slice x ↦ inl (x, ty.rolls-Slice x) | _ ↦ inr refl ])

pub not_array : (v : «Type») → ((x : TypeArrayOf «Type») → v ≡ ty.Array x → ⊥) → is_array (type_of v) ≡ false
not_array = not_kind ty.Array is_array (elim [ Type-F.Array x ↦ inl (x, ty.rolls-Array x) | _ ↦ inr refl ])

pub not_tuple : (v : «Type») → ((x : TypeTupleOf «Type») → v ≡ ty.Tuple x → ⊥) → is_tuple (type_of v) ≡ false
not_tuple = not_kind ty.Tuple is_tuple (elim [ Type-F.Tuple x ↦ inl (x, ty.rolls-Tuple x) | _ ↦ inr refl ])

pub not_paren : (v : «Type») → ((x : TypeParenOf «Type») → v ≡ ty.Paren x → ⊥) → is_paren (type_of v) ≡ false
not_paren = not_kind ty.Paren is_paren (elim [ Type-F.Paren x ↦ inl (x, ty.rolls-Paren x) | _ ↦ inr refl ])

pub not_never : (v : «Type») → ((x : TypeNever) → v ≡ ty.Never x → ⊥) → is_never (type_of v) ≡ false
not_never = not_kind ty.Never is_never (elim [ Type-F.Never x ↦ inl (x, ty.rolls-Never x) | _ ↦ inr refl ])

pub not_infer : (v : «Type») → ((x : TypeInfer) → v ≡ ty.Infer x → ⊥) → is_infer (type_of v) ≡ false
not_infer = not_kind ty.Infer is_infer (elim [ Type-F.Infer x ↦ inl (x, ty.rolls-Infer x) | _ ↦ inr refl ])

pub not_fn_pointer : (v : «Type») → ((x : TypeFnPtrOf «Type») → v ≡ ty.FnPtr x → ⊥) → is_fn_pointer (type_of v) ≡ false
not_fn_pointer = not_kind ty.FnPtr is_fn_pointer (elim [ Type-F.FnPtr x ↦ inl (x, ty.rolls-FnPtr x) | _ ↦ inr refl ])

pub not_impl_trait : (v : «Type») → ((x : TypeImplTraitOf «Type») → v ≡ ty.ImplTrait x → ⊥) → is_impl_trait (type_of v) ≡ false
not_impl_trait = not_kind ty.ImplTrait is_impl_trait (elim [ Type-F.ImplTrait x ↦ inl (x, ty.rolls-ImplTrait x) | _ ↦ inr refl ])

pub not_trait_object : (v : «Type») → ((x : TypeTraitObjectOf «Type») → v ≡ ty.TraitObject x → ⊥) → is_trait_object (type_of v) ≡ false
not_trait_object = not_kind ty.TraitObject is_trait_object (elim [ Type-F.TraitObject x ↦ inl (x, ty.rolls-TraitObject x) | _ ↦ inr refl ])

pub ruleset other_kinds = (makes, not_reference, not_pointer, not_slice, not_array, not_tuple, not_paren, not_never, not_infer, not_fn_pointer, not_impl_trait, not_trait_object)
