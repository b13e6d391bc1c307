-- What holds of each type that is in a part.
use Rattle.std.specs.Prelude.{Contains, Option}
use Rattle.std.specs.Option.{ForSome}
use Rattle.syn_lower_leaves.specs.declared.punctuated.Punctuated.{Punctuated}
use Rattle.syn_lower_types.specs.declared.path.PathOf.{PathOf}
use Rattle.syn_lower_types.specs.declared.path.PathSegmentOf.{PathSegmentOf}
use Rattle.syn_lower_types.specs.declared.path.AngleBracketedGenericArgumentsOf.{AngleBracketedGenericArgumentsOf}
use Rattle.syn_lower_types.specs.declared.path.QSelfOf.{QSelfOf}
use Rattle.syn_lower_types.specs.declared.path.PathArgumentsOf.{PathArgumentsOf}
use Rattle.syn_lower_types.specs.declared.path.PathArgumentsOf.TheVariants as arguments
use Rattle.syn_lower_types.specs.declared.path.ParenthesizedGenericArgumentsOf.{ParenthesizedGenericArgumentsOf}
use Rattle.syn_lower_types.specs.declared.path.GenericArgumentOf.{GenericArgumentOf}
use Rattle.syn_lower_types.specs.declared.path.GenericArgumentOf.TheVariants as generic
use Rattle.syn_lower_types.specs.declared.ty.ReturnTypeOf.{ReturnTypeOf}
use Rattle.syn_lower_types.specs.declared.ty.ReturnTypeOf.TheVariants as output
use Rattle.syn_lower_types.specs.declared.ty.TypeParamBoundOf.{TypeParamBoundOf}
use Rattle.syn_lower_types.specs.declared.ty.TypeParamBoundOf.TheVariants as bound
use Rattle.syn_lower_types.specs.declared.ty.TypePathOf.{TypePathOf}
use Rattle.syn_lower_types.specs.declared.ty.TypeFnPtrOf.{TypeFnPtrOf}

-- of each value of a list
pub record InList {A P : Type 0} (R : A → Type 0) (x : Punctuated A P) : Type 0 where
  pub inner : (q : A × P) → Contains x.inner.items q → R q.0
  pub last : ForSome x.last (λ b. R b.value)

abbrev pub InOutput : {T : Type 0} → (T → Type 0) → ReturnTypeOf T → Type 0
InOutput R output.Default = Unit {0}
InOutput R (output.Given a b) = R b.value

abbrev pub InGeneric : {T : Type 0} → (T → Type 0) → GenericArgumentOf T → Type 0
InGeneric R (generic.Lifetime x) = Unit {0}
InGeneric R (generic.Const x) = Unit {0}
InGeneric R (generic.AssocType x) = R x.ty
InGeneric R (generic.Ty x) = R x

abbrev pub InAngle : {T : Type 0} → (T → Type 0) → AngleBracketedGenericArgumentsOf T → Type 0
InAngle R x = InList (InGeneric R) x.args

pub record InRound {T : Type 0} (R : T → Type 0) (x : ParenthesizedGenericArgumentsOf T) : Type 0 where
  pub inputs : InList R x.inputs
  pub output : InOutput R x.output

abbrev pub InArguments : {T : Type 0} → (T → Type 0) → PathArgumentsOf T → Type 0
InArguments R arguments.None = Unit {0}
InArguments R (arguments.AngleBracketed x) = InAngle R x
InArguments R (arguments.Parenthesized x) = InRound R x

abbrev pub InSegment : {T : Type 0} → (T → Type 0) → PathSegmentOf T → Type 0
InSegment R x = InArguments R x.arguments

abbrev pub InPath : {T : Type 0} → (T → Type 0) → PathOf T → Type 0
InPath R x = InList (InSegment R) x.segments

abbrev pub InQSelf : {T : Type 0} → (T → Type 0) → Option (QSelfOf T) → Type 0
InQSelf R x = ForSome x (λ q. R q.ty.value)

abbrev pub InBound : {T : Type 0} → (T → Type 0) → TypeParamBoundOf T → Type 0
InBound R (bound.Lifetime x) = Unit {0}
InBound R (bound.Trait x) = InPath R x.path

pub record InTypePath {T : Type 0} (R : T → Type 0) (x : TypePathOf T) : Type 0 where
  pub qself : InQSelf R x.qself
  pub path : InPath R x.path

pub record InFnPtr {T : Type 0} (R : T → Type 0) (x : TypeFnPtrOf T) : Type 0 where
  pub inputs : InList (λ a. R a.ty) x.inputs
  pub output : InOutput R x.output
