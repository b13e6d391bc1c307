-- Types of one kind, and parts of others, that are printed and read back.
use Rattle.std.proofs.Common.{◌≡◌, Bool, true, List, [], ◌∷◌, ◌++◌, Some, refl, ap}
use Rattle.syn_tokens.specs.Tok.{Tok, ident}
use Rattle.syn_lower_spec.specs.declared.label.PathStyle.TheVariants as style
use Rattle.syn_lower_spec.specs.Tree.{TypeTree}
use Rattle.syn_lower_spec.specs.Own.{type_own, return_own, arguments_own, assoc_own, bound_own, mutability_own, alone}
use Rattle.syn_lower_spec.specs.Fits.{type_fits, type_stops, arguments_fit, generic_fits, bound_fits, bound_stops, in_angle_fits, in_round_fits, assoc_fits, trait_fits}
use Rattle.syn_lower_spec.proofs.Whole.{parts_read_back}
use Rattle.syn_lower_spec.specs.Kind.{type_of_kind}
use Rattle.syn_lower_types.specs.View.{name_and_type}
use Rattle.syn_lower.specs.View.{type_of, generic_of, arguments_of, return_of, bound_of, round_of, angle_of, trait_of, is_mut}
use Rattle.syn_lower_types.specs.declared.ty.ReturnTypeOf.{ReturnTypeOf}
use Rattle.syn_lower_types.specs.Printed.{mutability_printed, angle_printed, assoc_printed, trait_printed, return_printed as return_typed}
use Rattle.syn_laws.proofs.OwnTokens.{type_printed, arguments_printed, return_printed, bound_printed}
use Rattle.syn_lower_types.proofs.Prints.{return_print, angle_print, trait_print}
use Rattle.syn_lower.proofs.Prints.{ty_toks}
use Rattle.syn_lower_types.specs.declared.path.AngleBracketedGenericArgumentsOf.{AngleBracketedGenericArgumentsOf}
use Rattle.syn_lower_types.specs.declared.path.ParenthesizedGenericArgumentsOf.{ParenthesizedGenericArgumentsOf}
use Rattle.syn_lower_types.specs.declared.path.GenericArgumentOf.TheVariants as ge
use Rattle.syn_lower_types.specs.declared.path.PathArgumentsOf.TheVariants as ar
use Rattle.syn_lower_types.specs.declared.path.AssocTypeOf.{AssocTypeOf}
use Rattle.syn_lower.specs.declared.ty.«Type».{«Type»}
use Rattle.syn_lower_types.specs.declared.ty.TraitBoundOf.{TraitBoundOf}
use Rattle.syn_lower_types.specs.declared.ty.TypeParamBoundOf.TheVariants as bo
use Rattle.syn_lower_leaves.specs.declared.ty.PointerMutability.{PointerMutability}
use Rattle.syn_lower_leaves.specs.declared.ty.PointerMutability.TheVariants as pointer

-- a type of this kind, by what is printed of it
pub kind_back : (is : TypeTree → Bool) (x : TypeTree) (printed rest : List Tok) → is x ≡ true → type_own x [] ≡ printed → type_fits true x ≡ true → type_stops true x rest ≡ true → (type_of_kind is).behind x (printed ++ rest) ≡ Some rest
unfolding type_of_kind
kind_back is x printed rest k p f s = rw (k, type_printed x printed rest p) (parts_read_back.types true x rest f s)

pub returns_print : (x : ReturnTypeOf «Type») (rest : List Tok) → return_typed ty_toks x ++ rest ≡ return_own (return_of x) rest
returns_print x rest = return_printed (return_of x) _ rest (return_print type_of x)

pub mutabilities_print : (m : PointerMutability) (rest : List Tok) → mutability_printed m ++ rest ≡ mutability_own (is_mut m) rest
mutabilities_print (pointer.Const c) rest = refl
mutabilities_print (pointer.Mut c) rest = refl

pub angle_fits-is : (x : AngleBracketedGenericArgumentsOf «Type») → arguments_fit style.Type (arguments_of (ar.AngleBracketed x)) ≡ in_angle_fits (angle_of type_of x)
angle_fits-is x = refl

pub angles_print : (x : AngleBracketedGenericArgumentsOf «Type») (rest : List Tok) → angle_printed ty_toks x ++ rest ≡ arguments_own (angle_of type_of x) rest
angles_print x rest = arguments_printed (angle_of type_of x) (angle_printed ty_toks x) rest (angle_print type_of x)

pub round_fits-is : (x : ParenthesizedGenericArgumentsOf «Type») → arguments_fit style.Type (arguments_of (ar.Parenthesized x)) ≡ in_round_fits (round_of x)
round_fits-is x = refl

pub assoc_fits-is : (x : AssocTypeOf «Type») → generic_fits (generic_of (ge.AssocType x)) ≡ assoc_fits (name_and_type type_of x)
assoc_fits-is x = refl

pub assocs_print : (x : AssocTypeOf «Type») (rest : List Tok) → assoc_printed ty_toks x ++ rest ≡ assoc_own (name_and_type type_of x) rest
assocs_print x rest = ap (λ m. ident x.ident ∷ alone 61 ∷ m) (type_printed (type_of x.ty) (ty_toks x.ty) rest refl)

pub trait_fits-is : (x : TraitBoundOf «Type») → bound_fits (bound_of (bo.Trait x)) ≡ trait_fits (trait_of type_of x)
trait_fits-is x = refl

pub trait_stops-is : (x : TraitBoundOf «Type») (rest : List Tok) → bound_stops (bound_of (bo.Trait x)) rest ≡ bound_stops (trait_of type_of x) rest
trait_stops-is x rest = refl

pub traits_print : (x : TraitBoundOf «Type») (rest : List Tok) → trait_printed ty_toks x ++ rest ≡ bound_own (trait_of type_of x) rest
traits_print x rest = bound_printed (trait_of type_of x) (trait_printed ty_toks x) rest (trait_print type_of x)
