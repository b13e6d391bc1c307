-- What holds of types of less than a size holds of each type in a part of less than that size.
use Rattle.std.proofs.Common.{◌≡◌, ℕ, ◌+◌, ◌<◌, List, [], ◌∷◌, ◌++◌, map, Option, Some, None, arith, subst, refl, ap}
use Rattle.std.specs.List.{AllByRecursion}
use Rattle.std.specs.Option.{ForSome}
use Rattle.std.proofs.lemmas.List.Elements.{All-from_recursion, All-contains}
use Rattle.std.specs.declared.boxed.Box.{Box}
use Rattle.std.specs.declared.alloc.Global.{Global}
use Rattle.syn_lower_spec.specs.Tree as t
use Rattle.syn_lower_spec.specs.Tree.{TypeTree}
use Rattle.syn_lower_leaves.specs.View.{values, last_of}
use Rattle.syn_lower_leaves.specs.declared.punctuated.Punctuated.{Punctuated}
use Rattle.syn_lower_types.specs.View.{type_path_of, type_macro_of, tuple_of, fn_ptr_of, impl_trait_of, trait_object_of, path_of, qself_or, segment_of, arguments_of, angle_of, round_of, generic_of, return_of, arg_of, bound_of}
use Rattle.syn_lower_types.specs.declared.path.PathOf.{PathOf}
use Rattle.syn_lower_types.specs.declared.path.AngleBracketedGenericArgumentsOf.{AngleBracketedGenericArgumentsOf}
use Rattle.syn_lower_types.specs.declared.path.QSelfOf.{QSelfOf}
use Rattle.syn_lower_types.specs.declared.path.PathArgumentsOf.{PathArgumentsOf}
use Rattle.syn_lower_types.specs.declared.path.PathArgumentsOf.TheVariants as arguments
use Rattle.syn_lower_types.specs.declared.path.ParenthesizedGenericArgumentsOf.{ParenthesizedGenericArgumentsOf}
use Rattle.syn_lower_types.specs.declared.path.GenericArgumentOf.{GenericArgumentOf}
use Rattle.syn_lower_types.specs.declared.path.GenericArgumentOf.TheVariants as generic
use Rattle.syn_lower_types.specs.declared.ty.ReturnTypeOf.{ReturnTypeOf}
use Rattle.syn_lower_types.specs.declared.ty.ReturnTypeOf.TheVariants as output
use Rattle.syn_lower_types.specs.declared.ty.TypeParamBoundOf.{TypeParamBoundOf}
use Rattle.syn_lower_types.specs.declared.ty.TypeParamBoundOf.TheVariants as bound
use Rattle.syn_lower_types.specs.declared.ty.TypePathOf.{TypePathOf}
use Rattle.syn_lower_types.specs.declared.ty.TypeMacroOf.{TypeMacroOf}
use Rattle.syn_lower_types.specs.declared.ty.TypeTupleOf.{TypeTupleOf}
use Rattle.syn_lower_types.specs.declared.ty.TypeFnPtrOf.{TypeFnPtrOf}
use Rattle.syn_lower_types.specs.declared.ty.TypeImplTraitOf.{TypeImplTraitOf}
use Rattle.syn_lower_types.specs.declared.ty.TypeTraitObjectOf.{TypeTraitObjectOf}
use Rattle.syn_lower_copy.specs.Within.{InList, InOutput, InGeneric, InAngle, InRound, InArguments, InSegment, InPath, InQSelf, InBound, InTypePath, InFnPtr}
use Rattle.syn_lower_copy.proofs.Sizes.{type_size, types_size, qself_size, segments_size, arguments_size, generics_size, generic_size, return_size, args_size, bounds_size, bound_size}

-- ---- lists, by the sizes of their values

module _ {A S : Type 0} (see : A → S) (size : S → ℕ) (sizes : List S → ℕ) (step : (s : S) (ss : List S) → sizes (s ∷ ss) ≡ size s + sizes ss) (R : A → Type 0) (n : ℕ) (small : (a : A) → size (see a) < n → R a) where
  last_in : (b : Option (Box A Global)) → sizes (map see (last_of b)) < n → ForSome b (λ y. R y.value)
  last_in None h = λ x e. absurd cc
  last_in (Some b) h = λ x e. let i : b ≡ x = cc in subst (λ y. R y.value) i (small b.value (let k = step (see b.value) [] in omega arith))

module _ {A P S : Type 0} (see : A → S) (size : S → ℕ) (sizes : List S → ℕ) (step : (s : S) (ss : List S) → sizes (s ∷ ss) ≡ size s + sizes ss) (R : A → Type 0) (n : ℕ) (small : (a : A) → size (see a) < n → R a) where
  inner_in : (xs : List (A × P)) (l : List A) → sizes (map see (map (λ q. q.0) xs ++ l)) < n → AllByRecursion (λ q. R q.0) xs × (sizes (map see l) < n)
  inner_in [] l h = (tt, h)
  inner_in (x ∷ xs) l h =
      let k = step (see x.0) (map see (map (λ q. q.0) xs ++ l)) in
      let r = inner_in xs l (omega arith) in
      ((small x.0 (omega arith), r.0), r.1)

  list_in : (x : Punctuated A P) → sizes (map see (values x)) < n → InList R x
  unfolding values
  list_in x h =
      let r = inner_in x.inner.items (last_of x.last) h in
      record {
        inner = λ q has. All-contains (λ q. R q.0) x.inner.items q (All-from_recursion (λ q. R q.0) x.inner.items r.0) has;
        last = last_in see size sizes step R n small x.last r.1;
      }

-- ---- what holds types

module _ {T : Type 0} (f : T → TypeTree) (R : T → Type 0) (n : ℕ) (small : (x : T) → type_size (f x) < n → R x) where
  pub output_in : (x : ReturnTypeOf T) → return_size (return_of f x) < n → InOutput R x
  output_in output.Default h = tt
  output_in (output.Given a b) h = small b.value h

  generic_in : (x : GenericArgumentOf T) → generic_size (generic_of f x) < n → InGeneric R x
  generic_in (generic.Lifetime x) h = tt
  generic_in (generic.Const x) h = tt
  generic_in (generic.AssocType x) h = small x.ty h
  generic_in (generic.Ty x) h = small x h

  pub angle_in : (x : AngleBracketedGenericArgumentsOf T) → arguments_size (angle_of f x) < n → InAngle R x
  angle_in x h = list_in (generic_of f) generic_size (λ gs. generics_size (t.generics_of gs)) (λ g gs. refl) (InGeneric R) n generic_in x.args h

  round_in : (x : ParenthesizedGenericArgumentsOf T) → arguments_size (round_of f x) < n → InRound R x
  round_in x h = record {
    inputs = list_in f type_size (λ ts. types_size (t.types_of ts)) (λ g gs. refl) R n small x.inputs (omega arith);
    output = output_in x.output (omega arith);
  }

  arguments_in : (x : PathArgumentsOf T) → arguments_size (arguments_of f x) < n → InArguments R x
  arguments_in arguments.None h = tt
  arguments_in (arguments.AngleBracketed x) h = angle_in x h
  arguments_in (arguments.Parenthesized x) h = round_in x h

  pub path_in : (x : PathOf T) → segments_size (t.segments_of (path_of f x).segments) < n → InPath R x
  path_in x h = list_in (segment_of f) (λ s. arguments_size s.arguments) (λ ss. segments_size (t.segments_of ss)) (λ s ss. refl) (InSegment R) n (λ s k. arguments_in s.arguments k) x.segments h

  pub qself_in : (x : Option (QSelfOf T)) → qself_size (qself_or f x) < n → InQSelf R x
  qself_in None h = λ y e. absurd cc
  qself_in (Some q) h = λ y e. let i : q ≡ y = cc in subst (λ y. R y.ty.value) i (small q.ty.value h)

  bound_in : (x : TypeParamBoundOf T) → bound_size (bound_of f x) < n → InBound R x
  bound_in (bound.Lifetime x) h = tt
  bound_in (bound.Trait x) h = path_in x.path h

  -- ---- kinds

  pub type_path_in : (x : TypePathOf T) → qself_size (qself_or f x.qself) + segments_size (t.segments_of (path_of f x.path).segments) < n → InTypePath R x
  type_path_in x h = record { qself = qself_in x.qself (omega arith); path = path_in x.path (omega arith) }

  pub type_macro_in : (x : TypeMacroOf T) → segments_size (t.segments_of (path_of f x.mac.path).segments) < n → InPath R x.mac.path
  type_macro_in x h = path_in x.mac.path h

  pub tuple_in : (x : TypeTupleOf T) → types_size (t.types_of (map f (values x.elems))) < n → InList R x.elems
  tuple_in x h = list_in f type_size (λ ts. types_size (t.types_of ts)) (λ g gs. refl) R n small x.elems h

  pub fn_ptr_in : (x : TypeFnPtrOf T) → args_size (t.args_of (map (arg_of f) (values x.inputs))) + return_size (return_of f x.output) < n → InFnPtr R x
  fn_ptr_in x h = record {
    inputs = list_in (arg_of f) (λ a. type_size a.ty) (λ xs. args_size (t.args_of xs)) (λ g gs. refl) (λ a. R a.ty) n (λ a k. small a.ty k) x.inputs (omega arith);
    output = output_in x.output (omega arith);
  }

  pub impl_trait_in : (x : TypeImplTraitOf T) → bounds_size (t.bounds_of (map (bound_of f) (values x.bounds))) < n → InList (InBound R) x.bounds
  impl_trait_in x h = list_in (bound_of f) bound_size (λ bs. bounds_size (t.bounds_of bs)) (λ g gs. refl) (InBound R) n bound_in x.bounds h

  pub trait_object_in : (x : TypeTraitObjectOf T) → bounds_size (t.bounds_of (map (bound_of f) (values x.bounds))) < n → InList (InBound R) x.bounds
  trait_object_in x h = list_in (bound_of f) bound_size (λ bs. bounds_size (t.bounds_of bs)) (λ g gs. refl) (InBound R) n bound_in x.bounds h

-- ---- the same of a type that is made of the part

module _ {T : Type 0} (f : T → TypeTree) (R : T → Type 0) (w : TypeTree) (small : (x : T) → type_size (f x) < type_size w → R x) where
  pub in_path : (x : TypePathOf T) → w ≡ type_path_of f x → InTypePath R x
  in_path x e = type_path_in f R (type_size w) small x (let s = ap type_size e in omega arith)

  pub in_macro : (x : TypeMacroOf T) → w ≡ type_macro_of f x → InPath R x.mac.path
  in_macro x e = type_macro_in f R (type_size w) small x (let s = ap type_size e in omega arith)

  pub in_tuple : (x : TypeTupleOf T) → w ≡ tuple_of f x → InList R x.elems
  in_tuple x e = tuple_in f R (type_size w) small x (let s = ap type_size e in omega arith)

  pub in_fn_ptr : (x : TypeFnPtrOf T) → w ≡ fn_ptr_of f x → InFnPtr R x
  in_fn_ptr x e = fn_ptr_in f R (type_size w) small x (let s = ap type_size e in omega arith)

  pub in_impl_trait : (x : TypeImplTraitOf T) → w ≡ impl_trait_of f x → InList (InBound R) x.bounds
  in_impl_trait x e = impl_trait_in f R (type_size w) small x (let s = ap type_size e in omega arith)

  pub in_trait_object : (x : TypeTraitObjectOf T) → w ≡ trait_object_of f x → InList (InBound R) x.bounds
  in_trait_object x e = trait_object_in f R (type_size w) small x (let s = ap type_size e in omega arith)
