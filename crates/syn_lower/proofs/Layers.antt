-- Each level of a type shows the trees of what it holds.
--
-- A fold goes into a type by maps that are written for each place where a list, an option or an enum stands. What is shown
-- of each of these is the same after its map, from the inside out.
use Rattle.std.proofs.Common.{◌≡◌, Bool, not, ◌&&◌, List, [], ◌∷◌, ◌++◌, map, Option, Some, None, refl, ◌∙◌, ap, rules}
use Rattle.std.proofs.lemmas.List.{map-append}
use Rattle.std.proofs.lemmas.Simd.{map-map}
use Rattle.std.specs.Prelude.{is_some}
use Rattle.std.specs.declared.boxed.Box.{Box}
use Rattle.std.specs.declared.alloc.Global.{Global}
use Rattle.syn_lower_spec.specs.Tree as t
use Rattle.syn_lower_spec.specs.Tree.{TypeTree}
use Rattle.syn_lower_types.specs.declared.path.PathArgumentsOf.{PathArgumentsOf}
use Rattle.syn_lower_types.specs.declared.path.PathArgumentsOf.TheVariants as arguments
use Rattle.syn_lower_types.specs.declared.path.PathSegmentOf.{PathSegmentOf}
use Rattle.syn_lower_types.specs.declared.path.GenericArgumentOf.{GenericArgumentOf}
use Rattle.syn_lower_types.specs.declared.path.GenericArgumentOf.TheVariants as generic
use Rattle.syn_lower_types.specs.declared.path.QSelfOf.{QSelfOf}
use Rattle.syn_lower_types.specs.declared.ty.ReturnTypeOf.{ReturnTypeOf}
use Rattle.syn_lower_types.specs.declared.ty.ReturnTypeOf.TheVariants as output
use Rattle.syn_lower_types.specs.declared.ty.TypeParamBoundOf.{TypeParamBoundOf}
use Rattle.syn_lower_types.specs.declared.ty.TypeParamBoundOf.TheVariants as bound
use Rattle.syn_lower_types.specs.View.{values, trails, last_of, is_some_pair, mapped, lifetimes_of, delimiter_of, generic_of, arguments_of, return_of, bound_of, segment_of, qself_or}
use Rattle.syn_lower.specs.declared.ty.«Type».{«Type», map-Type, fold_out-Type, out-Type}
use Rattle.syn_lower.specs.declared.ty.«Type».TheOpen.{Type-F}
use Rattle.syn_lower.specs.declared.ty.«Type».TheShapes as shapes
use Rattle.syn_lower.specs.View.{type_layer, type_of}

-- ---- lists with puncts

-- what is shown of the last value is the same
abbrev SameLast : {A B C : Type 0} → (A → C) → (B → C) → Option (Box A Global) → Option (Box B Global) → Type 0
SameLast f g o o' = (map g (last_of o') ≡ map f (last_of o)) × (is_some o' ≡ is_some o)

list_same : {A B C P : Type 0} (f : A → C) (g : B → C) (m : A × P → B × P) → ((q : A × P) → g (m q).0 ≡ f q.0) → (xs : List (A × P)) (ys : List C) (zs : List C) → ys ≡ zs → (map g (map (λ q. q.0) (map m xs))) ++ ys ≡ map f (map (λ q. q.0) xs) ++ zs
list_same f g m h [] ys zs e = e
list_same f g m h (x ∷ xs) ys zs e = let a = h x in let r = list_same f g m h xs ys zs e in cc

trails_same : {A B : Type 0} (m : A → B) (xs : List A) (b d : Bool) → b ≡ d → (is_some_pair (map m xs) && not b) ≡ (is_some_pair xs && not d)
trails_same m [] b d e = refl
trails_same m (x ∷ xs) b d e = ap not e

-- what is shown of the values and of whether a punct ends them
punctuated_same : {A B C D P : Type 0} (f : A → C) (g : B → C) (m : A × P → B × P) (k : List C → Bool → D) → ((q : A × P) → g (m q).0 ≡ f q.0) → (xs : List (A × P)) (o : Option (Box A Global)) (o' : Option (Box B Global)) → SameLast f g o o'
    → k (map g (map (λ q. q.0) (map m xs) ++ last_of o')) (is_some_pair (map m xs) && not (is_some o')) ≡ k (map f (map (λ q. q.0) xs ++ last_of o)) (is_some_pair xs && not (is_some o))
punctuated_same f g m k h xs o o' s =
    let v = list_same f g m h xs (map g (last_of o')) (map f (last_of o)) s.0 in
    let e = trails_same m xs (is_some o') (is_some o) s.1 in
    let a = map-append g (map (λ q. q.0) (map m xs)) (last_of o') in
    let b = map-append f (map (λ q. q.0) xs) (last_of o) in
    cc

-- ---- what each map is to show

abbrev SeesGeneric : (GenericArgumentOf «Type» → GenericArgumentOf TypeTree) → Type 0
SeesGeneric m = (a : GenericArgumentOf «Type») → generic_of (λ x. x) (m a) ≡ generic_of type_of a

abbrev SeesOutput : (ReturnTypeOf «Type» → ReturnTypeOf TypeTree) → Type 0
SeesOutput m = (a : ReturnTypeOf «Type») → return_of (λ x. x) (m a) ≡ return_of type_of a

abbrev SeesArguments : (PathArgumentsOf «Type» → PathArgumentsOf TypeTree) → Type 0
SeesArguments m = (a : PathArgumentsOf «Type») → arguments_of (λ x. x) (m a) ≡ arguments_of type_of a

abbrev SeesBound : (TypeParamBoundOf «Type» → TypeParamBoundOf TypeTree) → Type 0
SeesBound m = (a : TypeParamBoundOf «Type») → bound_of (λ x. x) (m a) ≡ bound_of type_of a

abbrev SeesLastGeneric : (Option (Box (GenericArgumentOf «Type») Global) → Option (Box (GenericArgumentOf TypeTree) Global)) → Type 0
SeesLastGeneric m = (o : Option (Box (GenericArgumentOf «Type») Global)) → SameLast (generic_of type_of) (generic_of (λ x. x)) o (m o)

abbrev SeesLastSegment : (Option (Box (PathSegmentOf «Type») Global) → Option (Box (PathSegmentOf TypeTree) Global)) → Type 0
SeesLastSegment m = (o : Option (Box (PathSegmentOf «Type») Global)) → SameLast (segment_of type_of) (segment_of (λ x. x)) o (m o)

abbrev SeesLastBound : (Option (Box (TypeParamBoundOf «Type») Global) → Option (Box (TypeParamBoundOf TypeTree) Global)) → Type 0
SeesLastBound m = (o : Option (Box (TypeParamBoundOf «Type») Global)) → SameLast (bound_of type_of) (bound_of (λ x. x)) o (m o)

-- ---- each map

generic-Path-19 : SeesGeneric (shapes.former-Type-Path-0-at-19.map «Type» TypeTree type_of)
generic-Path-19 = elim [ generic.Lifetime a ↦ refl | generic.Const a ↦ refl | generic.AssocType a ↦ refl | generic.Ty a ↦ refl ]

generic-Path-30 : SeesGeneric (shapes.former-Type-Path-0-at-30.map «Type» TypeTree type_of)
generic-Path-30 = elim [ generic.Lifetime a ↦ refl | generic.Const a ↦ refl | generic.AssocType a ↦ refl | generic.Ty a ↦ refl ]

last-Path-32 : SeesLastGeneric (shapes.former-Type-Path-0-at-32.map «Type» TypeTree type_of)
last-Path-32 = elim [ None ↦ (refl, refl) | Some b ↦ (ap (λ x. x ∷ []) (generic-Path-30 b.value), refl) ]

output-Path-48 : SeesOutput (shapes.former-Type-Path-0-at-48.map «Type» TypeTree type_of)
output-Path-48 = elim [ output.Default ↦ refl | output.Given a b ↦ refl ]

arguments-Path-50 : SeesArguments (shapes.former-Type-Path-0-at-50.map «Type» TypeTree type_of)
unfolding values trails
arguments-Path-50 = elim [ arguments.None ↦ refl | arguments.AngleBracketed a ↦ punctuated_same (generic_of type_of) (generic_of (λ x. x)) _ (λ ss e. t.angle (is_some a.colon2_token) (t.generics_of ss) e) (λ q. generic-Path-19 q.0) a.args.inner.items a.args.last _ (last-Path-32 a.args.last) | arguments.Parenthesized a ↦ let e = output-Path-48 a.output in search (rules, map-map, map-append, e) ]

generic-Path-65 : SeesGeneric (shapes.former-Type-Path-0-at-65.map «Type» TypeTree type_of)
generic-Path-65 = elim [ generic.Lifetime a ↦ refl | generic.Const a ↦ refl | generic.AssocType a ↦ refl | generic.Ty a ↦ refl ]

generic-Path-76 : SeesGeneric (shapes.former-Type-Path-0-at-76.map «Type» TypeTree type_of)
generic-Path-76 = elim [ generic.Lifetime a ↦ refl | generic.Const a ↦ refl | generic.AssocType a ↦ refl | generic.Ty a ↦ refl ]

last-Path-78 : SeesLastGeneric (shapes.former-Type-Path-0-at-78.map «Type» TypeTree type_of)
last-Path-78 = elim [ None ↦ (refl, refl) | Some b ↦ (ap (λ x. x ∷ []) (generic-Path-76 b.value), refl) ]

output-Path-94 : SeesOutput (shapes.former-Type-Path-0-at-94.map «Type» TypeTree type_of)
output-Path-94 = elim [ output.Default ↦ refl | output.Given a b ↦ refl ]

arguments-Path-96 : SeesArguments (shapes.former-Type-Path-0-at-96.map «Type» TypeTree type_of)
unfolding values trails
arguments-Path-96 = elim [ arguments.None ↦ refl | arguments.AngleBracketed a ↦ punctuated_same (generic_of type_of) (generic_of (λ x. x)) _ (λ ss e. t.angle (is_some a.colon2_token) (t.generics_of ss) e) (λ q. generic-Path-65 q.0) a.args.inner.items a.args.last _ (last-Path-78 a.args.last) | arguments.Parenthesized a ↦ let e = output-Path-94 a.output in search (rules, map-map, map-append, e) ]

segment-Path-99 : SeesLastSegment (shapes.former-Type-Path-0-at-99.map «Type» TypeTree type_of)
segment-Path-99 = elim [ None ↦ (refl, refl) | Some b ↦ (ap (λ a. record { ident = b.value.ident; arguments = a } ∷ []) (arguments-Path-96 b.value.arguments), refl) ]

generic-Macro-11 : SeesGeneric (shapes.former-Type-Macro-0-at-11.map «Type» TypeTree type_of)
generic-Macro-11 = elim [ generic.Lifetime a ↦ refl | generic.Const a ↦ refl | generic.AssocType a ↦ refl | generic.Ty a ↦ refl ]

generic-Macro-22 : SeesGeneric (shapes.former-Type-Macro-0-at-22.map «Type» TypeTree type_of)
generic-Macro-22 = elim [ generic.Lifetime a ↦ refl | generic.Const a ↦ refl | generic.AssocType a ↦ refl | generic.Ty a ↦ refl ]

last-Macro-24 : SeesLastGeneric (shapes.former-Type-Macro-0-at-24.map «Type» TypeTree type_of)
last-Macro-24 = elim [ None ↦ (refl, refl) | Some b ↦ (ap (λ x. x ∷ []) (generic-Macro-22 b.value), refl) ]

output-Macro-40 : SeesOutput (shapes.former-Type-Macro-0-at-40.map «Type» TypeTree type_of)
output-Macro-40 = elim [ output.Default ↦ refl | output.Given a b ↦ refl ]

arguments-Macro-42 : SeesArguments (shapes.former-Type-Macro-0-at-42.map «Type» TypeTree type_of)
unfolding values trails
arguments-Macro-42 = elim [ arguments.None ↦ refl | arguments.AngleBracketed a ↦ punctuated_same (generic_of type_of) (generic_of (λ x. x)) _ (λ ss e. t.angle (is_some a.colon2_token) (t.generics_of ss) e) (λ q. generic-Macro-11 q.0) a.args.inner.items a.args.last _ (last-Macro-24 a.args.last) | arguments.Parenthesized a ↦ let e = output-Macro-40 a.output in search (rules, map-map, map-append, e) ]

generic-Macro-57 : SeesGeneric (shapes.former-Type-Macro-0-at-57.map «Type» TypeTree type_of)
generic-Macro-57 = elim [ generic.Lifetime a ↦ refl | generic.Const a ↦ refl | generic.AssocType a ↦ refl | generic.Ty a ↦ refl ]

generic-Macro-68 : SeesGeneric (shapes.former-Type-Macro-0-at-68.map «Type» TypeTree type_of)
generic-Macro-68 = elim [ generic.Lifetime a ↦ refl | generic.Const a ↦ refl | generic.AssocType a ↦ refl | generic.Ty a ↦ refl ]

last-Macro-70 : SeesLastGeneric (shapes.former-Type-Macro-0-at-70.map «Type» TypeTree type_of)
last-Macro-70 = elim [ None ↦ (refl, refl) | Some b ↦ (ap (λ x. x ∷ []) (generic-Macro-68 b.value), refl) ]

output-Macro-86 : SeesOutput (shapes.former-Type-Macro-0-at-86.map «Type» TypeTree type_of)
output-Macro-86 = elim [ output.Default ↦ refl | output.Given a b ↦ refl ]

arguments-Macro-88 : SeesArguments (shapes.former-Type-Macro-0-at-88.map «Type» TypeTree type_of)
unfolding values trails
arguments-Macro-88 = elim [ arguments.None ↦ refl | arguments.AngleBracketed a ↦ punctuated_same (generic_of type_of) (generic_of (λ x. x)) _ (λ ss e. t.angle (is_some a.colon2_token) (t.generics_of ss) e) (λ q. generic-Macro-57 q.0) a.args.inner.items a.args.last _ (last-Macro-70 a.args.last) | arguments.Parenthesized a ↦ let e = output-Macro-86 a.output in search (rules, map-map, map-append, e) ]

segment-Macro-91 : SeesLastSegment (shapes.former-Type-Macro-0-at-91.map «Type» TypeTree type_of)
segment-Macro-91 = elim [ None ↦ (refl, refl) | Some b ↦ (ap (λ a. record { ident = b.value.ident; arguments = a } ∷ []) (arguments-Macro-88 b.value.arguments), refl) ]

generic-ImplTrait-15 : SeesGeneric (shapes.former-Type-ImplTrait-0-at-15.map «Type» TypeTree type_of)
generic-ImplTrait-15 = elim [ generic.Lifetime a ↦ refl | generic.Const a ↦ refl | generic.AssocType a ↦ refl | generic.Ty a ↦ refl ]

generic-ImplTrait-26 : SeesGeneric (shapes.former-Type-ImplTrait-0-at-26.map «Type» TypeTree type_of)
generic-ImplTrait-26 = elim [ generic.Lifetime a ↦ refl | generic.Const a ↦ refl | generic.AssocType a ↦ refl | generic.Ty a ↦ refl ]

last-ImplTrait-28 : SeesLastGeneric (shapes.former-Type-ImplTrait-0-at-28.map «Type» TypeTree type_of)
last-ImplTrait-28 = elim [ None ↦ (refl, refl) | Some b ↦ (ap (λ x. x ∷ []) (generic-ImplTrait-26 b.value), refl) ]

output-ImplTrait-44 : SeesOutput (shapes.former-Type-ImplTrait-0-at-44.map «Type» TypeTree type_of)
output-ImplTrait-44 = elim [ output.Default ↦ refl | output.Given a b ↦ refl ]

arguments-ImplTrait-46 : SeesArguments (shapes.former-Type-ImplTrait-0-at-46.map «Type» TypeTree type_of)
unfolding values trails
arguments-ImplTrait-46 = elim [ arguments.None ↦ refl | arguments.AngleBracketed a ↦ punctuated_same (generic_of type_of) (generic_of (λ x. x)) _ (λ ss e. t.angle (is_some a.colon2_token) (t.generics_of ss) e) (λ q. generic-ImplTrait-15 q.0) a.args.inner.items a.args.last _ (last-ImplTrait-28 a.args.last) | arguments.Parenthesized a ↦ let e = output-ImplTrait-44 a.output in search (rules, map-map, map-append, e) ]

generic-ImplTrait-61 : SeesGeneric (shapes.former-Type-ImplTrait-0-at-61.map «Type» TypeTree type_of)
generic-ImplTrait-61 = elim [ generic.Lifetime a ↦ refl | generic.Const a ↦ refl | generic.AssocType a ↦ refl | generic.Ty a ↦ refl ]

generic-ImplTrait-72 : SeesGeneric (shapes.former-Type-ImplTrait-0-at-72.map «Type» TypeTree type_of)
generic-ImplTrait-72 = elim [ generic.Lifetime a ↦ refl | generic.Const a ↦ refl | generic.AssocType a ↦ refl | generic.Ty a ↦ refl ]

last-ImplTrait-74 : SeesLastGeneric (shapes.former-Type-ImplTrait-0-at-74.map «Type» TypeTree type_of)
last-ImplTrait-74 = elim [ None ↦ (refl, refl) | Some b ↦ (ap (λ x. x ∷ []) (generic-ImplTrait-72 b.value), refl) ]

output-ImplTrait-90 : SeesOutput (shapes.former-Type-ImplTrait-0-at-90.map «Type» TypeTree type_of)
output-ImplTrait-90 = elim [ output.Default ↦ refl | output.Given a b ↦ refl ]

arguments-ImplTrait-92 : SeesArguments (shapes.former-Type-ImplTrait-0-at-92.map «Type» TypeTree type_of)
unfolding values trails
arguments-ImplTrait-92 = elim [ arguments.None ↦ refl | arguments.AngleBracketed a ↦ punctuated_same (generic_of type_of) (generic_of (λ x. x)) _ (λ ss e. t.angle (is_some a.colon2_token) (t.generics_of ss) e) (λ q. generic-ImplTrait-61 q.0) a.args.inner.items a.args.last _ (last-ImplTrait-74 a.args.last) | arguments.Parenthesized a ↦ let e = output-ImplTrait-90 a.output in search (rules, map-map, map-append, e) ]

segment-ImplTrait-95 : SeesLastSegment (shapes.former-Type-ImplTrait-0-at-95.map «Type» TypeTree type_of)
segment-ImplTrait-95 = elim [ None ↦ (refl, refl) | Some b ↦ (ap (λ a. record { ident = b.value.ident; arguments = a } ∷ []) (arguments-ImplTrait-92 b.value.arguments), refl) ]

bound-ImplTrait-99 : SeesBound (shapes.former-Type-ImplTrait-0-at-99.map «Type» TypeTree type_of)
unfolding values trails
bound-ImplTrait-99 = elim [ bound.Lifetime a ↦ refl | bound.Trait a ↦ punctuated_same (segment_of type_of) (segment_of (λ x. x)) _ (λ ss e. t.a_trait (is_some a.maybe) (mapped lifetimes_of a.lifetimes) (is_some a.path.leading_colon) (t.segments_of ss) e) (λ q. ap (λ a. record { ident = q.0.ident; arguments = a }) (arguments-ImplTrait-46 q.0.arguments)) a.path.segments.inner.items a.path.segments.last _ (segment-ImplTrait-95 a.path.segments.last) ]

generic-ImplTrait-117 : SeesGeneric (shapes.former-Type-ImplTrait-0-at-117.map «Type» TypeTree type_of)
generic-ImplTrait-117 = elim [ generic.Lifetime a ↦ refl | generic.Const a ↦ refl | generic.AssocType a ↦ refl | generic.Ty a ↦ refl ]

generic-ImplTrait-128 : SeesGeneric (shapes.former-Type-ImplTrait-0-at-128.map «Type» TypeTree type_of)
generic-ImplTrait-128 = elim [ generic.Lifetime a ↦ refl | generic.Const a ↦ refl | generic.AssocType a ↦ refl | generic.Ty a ↦ refl ]

last-ImplTrait-130 : SeesLastGeneric (shapes.former-Type-ImplTrait-0-at-130.map «Type» TypeTree type_of)
last-ImplTrait-130 = elim [ None ↦ (refl, refl) | Some b ↦ (ap (λ x. x ∷ []) (generic-ImplTrait-128 b.value), refl) ]

output-ImplTrait-146 : SeesOutput (shapes.former-Type-ImplTrait-0-at-146.map «Type» TypeTree type_of)
output-ImplTrait-146 = elim [ output.Default ↦ refl | output.Given a b ↦ refl ]

arguments-ImplTrait-148 : SeesArguments (shapes.former-Type-ImplTrait-0-at-148.map «Type» TypeTree type_of)
unfolding values trails
arguments-ImplTrait-148 = elim [ arguments.None ↦ refl | arguments.AngleBracketed a ↦ punctuated_same (generic_of type_of) (generic_of (λ x. x)) _ (λ ss e. t.angle (is_some a.colon2_token) (t.generics_of ss) e) (λ q. generic-ImplTrait-117 q.0) a.args.inner.items a.args.last _ (last-ImplTrait-130 a.args.last) | arguments.Parenthesized a ↦ let e = output-ImplTrait-146 a.output in search (rules, map-map, map-append, e) ]

generic-ImplTrait-163 : SeesGeneric (shapes.former-Type-ImplTrait-0-at-163.map «Type» TypeTree type_of)
generic-ImplTrait-163 = elim [ generic.Lifetime a ↦ refl | generic.Const a ↦ refl | generic.AssocType a ↦ refl | generic.Ty a ↦ refl ]

generic-ImplTrait-174 : SeesGeneric (shapes.former-Type-ImplTrait-0-at-174.map «Type» TypeTree type_of)
generic-ImplTrait-174 = elim [ generic.Lifetime a ↦ refl | generic.Const a ↦ refl | generic.AssocType a ↦ refl | generic.Ty a ↦ refl ]

last-ImplTrait-176 : SeesLastGeneric (shapes.former-Type-ImplTrait-0-at-176.map «Type» TypeTree type_of)
last-ImplTrait-176 = elim [ None ↦ (refl, refl) | Some b ↦ (ap (λ x. x ∷ []) (generic-ImplTrait-174 b.value), refl) ]

output-ImplTrait-192 : SeesOutput (shapes.former-Type-ImplTrait-0-at-192.map «Type» TypeTree type_of)
output-ImplTrait-192 = elim [ output.Default ↦ refl | output.Given a b ↦ refl ]

arguments-ImplTrait-194 : SeesArguments (shapes.former-Type-ImplTrait-0-at-194.map «Type» TypeTree type_of)
unfolding values trails
arguments-ImplTrait-194 = elim [ arguments.None ↦ refl | arguments.AngleBracketed a ↦ punctuated_same (generic_of type_of) (generic_of (λ x. x)) _ (λ ss e. t.angle (is_some a.colon2_token) (t.generics_of ss) e) (λ q. generic-ImplTrait-163 q.0) a.args.inner.items a.args.last _ (last-ImplTrait-176 a.args.last) | arguments.Parenthesized a ↦ let e = output-ImplTrait-192 a.output in search (rules, map-map, map-append, e) ]

segment-ImplTrait-197 : SeesLastSegment (shapes.former-Type-ImplTrait-0-at-197.map «Type» TypeTree type_of)
segment-ImplTrait-197 = elim [ None ↦ (refl, refl) | Some b ↦ (ap (λ a. record { ident = b.value.ident; arguments = a } ∷ []) (arguments-ImplTrait-194 b.value.arguments), refl) ]

bound-ImplTrait-201 : SeesBound (shapes.former-Type-ImplTrait-0-at-201.map «Type» TypeTree type_of)
unfolding values trails
bound-ImplTrait-201 = elim [ bound.Lifetime a ↦ refl | bound.Trait a ↦ punctuated_same (segment_of type_of) (segment_of (λ x. x)) _ (λ ss e. t.a_trait (is_some a.maybe) (mapped lifetimes_of a.lifetimes) (is_some a.path.leading_colon) (t.segments_of ss) e) (λ q. ap (λ a. record { ident = q.0.ident; arguments = a }) (arguments-ImplTrait-148 q.0.arguments)) a.path.segments.inner.items a.path.segments.last _ (segment-ImplTrait-197 a.path.segments.last) ]

bounds-ImplTrait-203 : SeesLastBound (shapes.former-Type-ImplTrait-0-at-203.map «Type» TypeTree type_of)
bounds-ImplTrait-203 = elim [ None ↦ (refl, refl) | Some b ↦ (ap (λ x. x ∷ []) (bound-ImplTrait-201 b.value), refl) ]

generic-TraitObject-15 : SeesGeneric (shapes.former-Type-TraitObject-0-at-15.map «Type» TypeTree type_of)
generic-TraitObject-15 = elim [ generic.Lifetime a ↦ refl | generic.Const a ↦ refl | generic.AssocType a ↦ refl | generic.Ty a ↦ refl ]

generic-TraitObject-26 : SeesGeneric (shapes.former-Type-TraitObject-0-at-26.map «Type» TypeTree type_of)
generic-TraitObject-26 = elim [ generic.Lifetime a ↦ refl | generic.Const a ↦ refl | generic.AssocType a ↦ refl | generic.Ty a ↦ refl ]

last-TraitObject-28 : SeesLastGeneric (shapes.former-Type-TraitObject-0-at-28.map «Type» TypeTree type_of)
last-TraitObject-28 = elim [ None ↦ (refl, refl) | Some b ↦ (ap (λ x. x ∷ []) (generic-TraitObject-26 b.value), refl) ]

output-TraitObject-44 : SeesOutput (shapes.former-Type-TraitObject-0-at-44.map «Type» TypeTree type_of)
output-TraitObject-44 = elim [ output.Default ↦ refl | output.Given a b ↦ refl ]

arguments-TraitObject-46 : SeesArguments (shapes.former-Type-TraitObject-0-at-46.map «Type» TypeTree type_of)
unfolding values trails
arguments-TraitObject-46 = elim [ arguments.None ↦ refl | arguments.AngleBracketed a ↦ punctuated_same (generic_of type_of) (generic_of (λ x. x)) _ (λ ss e. t.angle (is_some a.colon2_token) (t.generics_of ss) e) (λ q. generic-TraitObject-15 q.0) a.args.inner.items a.args.last _ (last-TraitObject-28 a.args.last) | arguments.Parenthesized a ↦ let e = output-TraitObject-44 a.output in search (rules, map-map, map-append, e) ]

generic-TraitObject-61 : SeesGeneric (shapes.former-Type-TraitObject-0-at-61.map «Type» TypeTree type_of)
generic-TraitObject-61 = elim [ generic.Lifetime a ↦ refl | generic.Const a ↦ refl | generic.AssocType a ↦ refl | generic.Ty a ↦ refl ]

generic-TraitObject-72 : SeesGeneric (shapes.former-Type-TraitObject-0-at-72.map «Type» TypeTree type_of)
generic-TraitObject-72 = elim [ generic.Lifetime a ↦ refl | generic.Const a ↦ refl | generic.AssocType a ↦ refl | generic.Ty a ↦ refl ]

last-TraitObject-74 : SeesLastGeneric (shapes.former-Type-TraitObject-0-at-74.map «Type» TypeTree type_of)
last-TraitObject-74 = elim [ None ↦ (refl, refl) | Some b ↦ (ap (λ x. x ∷ []) (generic-TraitObject-72 b.value), refl) ]

output-TraitObject-90 : SeesOutput (shapes.former-Type-TraitObject-0-at-90.map «Type» TypeTree type_of)
output-TraitObject-90 = elim [ output.Default ↦ refl | output.Given a b ↦ refl ]

arguments-TraitObject-92 : SeesArguments (shapes.former-Type-TraitObject-0-at-92.map «Type» TypeTree type_of)
unfolding values trails
arguments-TraitObject-92 = elim [ arguments.None ↦ refl | arguments.AngleBracketed a ↦ punctuated_same (generic_of type_of) (generic_of (λ x. x)) _ (λ ss e. t.angle (is_some a.colon2_token) (t.generics_of ss) e) (λ q. generic-TraitObject-61 q.0) a.args.inner.items a.args.last _ (last-TraitObject-74 a.args.last) | arguments.Parenthesized a ↦ let e = output-TraitObject-90 a.output in search (rules, map-map, map-append, e) ]

segment-TraitObject-95 : SeesLastSegment (shapes.former-Type-TraitObject-0-at-95.map «Type» TypeTree type_of)
segment-TraitObject-95 = elim [ None ↦ (refl, refl) | Some b ↦ (ap (λ a. record { ident = b.value.ident; arguments = a } ∷ []) (arguments-TraitObject-92 b.value.arguments), refl) ]

bound-TraitObject-99 : SeesBound (shapes.former-Type-TraitObject-0-at-99.map «Type» TypeTree type_of)
unfolding values trails
bound-TraitObject-99 = elim [ bound.Lifetime a ↦ refl | bound.Trait a ↦ punctuated_same (segment_of type_of) (segment_of (λ x. x)) _ (λ ss e. t.a_trait (is_some a.maybe) (mapped lifetimes_of a.lifetimes) (is_some a.path.leading_colon) (t.segments_of ss) e) (λ q. ap (λ a. record { ident = q.0.ident; arguments = a }) (arguments-TraitObject-46 q.0.arguments)) a.path.segments.inner.items a.path.segments.last _ (segment-TraitObject-95 a.path.segments.last) ]

generic-TraitObject-117 : SeesGeneric (shapes.former-Type-TraitObject-0-at-117.map «Type» TypeTree type_of)
generic-TraitObject-117 = elim [ generic.Lifetime a ↦ refl | generic.Const a ↦ refl | generic.AssocType a ↦ refl | generic.Ty a ↦ refl ]

generic-TraitObject-128 : SeesGeneric (shapes.former-Type-TraitObject-0-at-128.map «Type» TypeTree type_of)
generic-TraitObject-128 = elim [ generic.Lifetime a ↦ refl | generic.Const a ↦ refl | generic.AssocType a ↦ refl | generic.Ty a ↦ refl ]

last-TraitObject-130 : SeesLastGeneric (shapes.former-Type-TraitObject-0-at-130.map «Type» TypeTree type_of)
last-TraitObject-130 = elim [ None ↦ (refl, refl) | Some b ↦ (ap (λ x. x ∷ []) (generic-TraitObject-128 b.value), refl) ]

output-TraitObject-146 : SeesOutput (shapes.former-Type-TraitObject-0-at-146.map «Type» TypeTree type_of)
output-TraitObject-146 = elim [ output.Default ↦ refl | output.Given a b ↦ refl ]

arguments-TraitObject-148 : SeesArguments (shapes.former-Type-TraitObject-0-at-148.map «Type» TypeTree type_of)
unfolding values trails
arguments-TraitObject-148 = elim [ arguments.None ↦ refl | arguments.AngleBracketed a ↦ punctuated_same (generic_of type_of) (generic_of (λ x. x)) _ (λ ss e. t.angle (is_some a.colon2_token) (t.generics_of ss) e) (λ q. generic-TraitObject-117 q.0) a.args.inner.items a.args.last _ (last-TraitObject-130 a.args.last) | arguments.Parenthesized a ↦ let e = output-TraitObject-146 a.output in search (rules, map-map, map-append, e) ]

generic-TraitObject-163 : SeesGeneric (shapes.former-Type-TraitObject-0-at-163.map «Type» TypeTree type_of)
generic-TraitObject-163 = elim [ generic.Lifetime a ↦ refl | generic.Const a ↦ refl | generic.AssocType a ↦ refl | generic.Ty a ↦ refl ]

generic-TraitObject-174 : SeesGeneric (shapes.former-Type-TraitObject-0-at-174.map «Type» TypeTree type_of)
generic-TraitObject-174 = elim [ generic.Lifetime a ↦ refl | generic.Const a ↦ refl | generic.AssocType a ↦ refl | generic.Ty a ↦ refl ]

last-TraitObject-176 : SeesLastGeneric (shapes.former-Type-TraitObject-0-at-176.map «Type» TypeTree type_of)
last-TraitObject-176 = elim [ None ↦ (refl, refl) | Some b ↦ (ap (λ x. x ∷ []) (generic-TraitObject-174 b.value), refl) ]

output-TraitObject-192 : SeesOutput (shapes.former-Type-TraitObject-0-at-192.map «Type» TypeTree type_of)
output-TraitObject-192 = elim [ output.Default ↦ refl | output.Given a b ↦ refl ]

arguments-TraitObject-194 : SeesArguments (shapes.former-Type-TraitObject-0-at-194.map «Type» TypeTree type_of)
unfolding values trails
arguments-TraitObject-194 = elim [ arguments.None ↦ refl | arguments.AngleBracketed a ↦ punctuated_same (generic_of type_of) (generic_of (λ x. x)) _ (λ ss e. t.angle (is_some a.colon2_token) (t.generics_of ss) e) (λ q. generic-TraitObject-163 q.0) a.args.inner.items a.args.last _ (last-TraitObject-176 a.args.last) | arguments.Parenthesized a ↦ let e = output-TraitObject-192 a.output in search (rules, map-map, map-append, e) ]

segment-TraitObject-197 : SeesLastSegment (shapes.former-Type-TraitObject-0-at-197.map «Type» TypeTree type_of)
segment-TraitObject-197 = elim [ None ↦ (refl, refl) | Some b ↦ (ap (λ a. record { ident = b.value.ident; arguments = a } ∷ []) (arguments-TraitObject-194 b.value.arguments), refl) ]

bound-TraitObject-201 : SeesBound (shapes.former-Type-TraitObject-0-at-201.map «Type» TypeTree type_of)
unfolding values trails
bound-TraitObject-201 = elim [ bound.Lifetime a ↦ refl | bound.Trait a ↦ punctuated_same (segment_of type_of) (segment_of (λ x. x)) _ (λ ss e. t.a_trait (is_some a.maybe) (mapped lifetimes_of a.lifetimes) (is_some a.path.leading_colon) (t.segments_of ss) e) (λ q. ap (λ a. record { ident = q.0.ident; arguments = a }) (arguments-TraitObject-148 q.0.arguments)) a.path.segments.inner.items a.path.segments.last _ (segment-TraitObject-197 a.path.segments.last) ]

bounds-TraitObject-203 : SeesLastBound (shapes.former-Type-TraitObject-0-at-203.map «Type» TypeTree type_of)
bounds-TraitObject-203 = elim [ None ↦ (refl, refl) | Some b ↦ (ap (λ x. x ∷ []) (bound-TraitObject-201 b.value), refl) ]

qself : (o : Option (QSelfOf «Type»)) → qself_or (λ x. x) (shapes.former-Type-Path-0-at-7.map «Type» TypeTree type_of o) ≡ qself_or type_of o
qself = elim [ None ↦ refl | Some q ↦ refl ]

-- ---- a type

type_step-map : (l : Type-F «Type») → type_layer (λ x. x) (map-Type «Type» TypeTree type_of l) ≡ type_layer type_of l
unfolding values trails
type_step-map (Type-F.Path x) = punctuated_same (segment_of type_of) (segment_of (λ x. x)) _ (λ ss e. t.path (qself_or (λ x. x) (shapes.former-Type-Path-0-at-7.map «Type» TypeTree type_of x.qself)) (is_some x.path.leading_colon) (t.segments_of ss) e) (λ q. ap (λ a. record { ident = q.0.ident; arguments = a }) (arguments-Path-50 q.0.arguments)) x.path.segments.inner.items x.path.segments.last _ (segment-Path-99 x.path.segments.last) ∙ ap (λ q. t.path q (is_some x.path.leading_colon) (t.segments_of (map (segment_of type_of) (values x.path.segments))) (trails x.path.segments)) (qself x.qself)
type_step-map (Type-F.Macro x) = punctuated_same (segment_of type_of) (segment_of (λ x. x)) _ (λ ss e. t.mac (is_some x.mac.path.leading_colon) (t.segments_of ss) e (delimiter_of x.mac.delimiter) x.mac.tokens) (λ q. ap (λ a. record { ident = q.0.ident; arguments = a }) (arguments-Macro-42 q.0.arguments)) x.mac.path.segments.inner.items x.mac.path.segments.last _ (segment-Macro-91 x.mac.path.segments.last)
type_step-map (Type-F.Reference x) = refl
type_step-map (Type-F.Ptr x) = refl
type_step-map (Type-F.Slice x) = refl
type_step-map (Type-F.Array x) = refl
type_step-map (Type-F.Tuple x) = search (rules, map-map, map-append)
type_step-map (Type-F.Paren x) = refl
type_step-map (Type-F.Never x) = refl
type_step-map (Type-F.Infer x) = refl
type_step-map (Type-F.FnPtr x) = search (rules, map-map, map-append)
type_step-map (Type-F.ImplTrait x) = punctuated_same (bound_of type_of) (bound_of (λ x. x)) _ (λ bs e. t.impl_trait (t.bounds_of bs) e) (λ q. bound-ImplTrait-99 q.0) x.bounds.inner.items x.bounds.last _ (bounds-ImplTrait-203 x.bounds.last)
type_step-map (Type-F.TraitObject x) = punctuated_same (bound_of type_of) (bound_of (λ x. x)) _ (λ bs e. t.trait_object (t.bounds_of bs) e) (λ q. bound-TraitObject-99 q.0) x.bounds.inner.items x.bounds.last _ (bounds-TraitObject-203 x.bounds.last)

-- a type opened once
pub type_of-out : (x : «Type») → type_of x ≡ type_layer type_of (out-Type x)
unfolding type_of
type_of-out x = fold_out-Type TypeTree (type_layer (λ x. x)) x ∙ type_step-map (out-Type x)
