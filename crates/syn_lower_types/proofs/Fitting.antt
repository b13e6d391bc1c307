-- Which parts are read back, by what their code looks at.
use Rattle.std.proofs.Common.{◌≡◌, ℕ, zero, suc, ◌-◌, ◌==◌, ◌&&◌, ◌||◌, Bool, true, false, not, List, [], ◌∷◌, ◌++◌, map, length, Option, Some, None, refl, sym, ap, ◌∙◌, arith}
use mathlib.Core.Bool.{and-true, and-false, or-true, and_assoc}
use Rattle.std.proofs.lemmas.Grind.{common_steps}
use Rattle.std.specs.List.{list_all}
use Rattle.std.specs.Prelude.{is_some}
use Rattle.std.specs.declared.boxed.Box.{Box}
use Rattle.std.specs.declared.alloc.Global.{Global}
use Rattle.syn_tokens.specs.Tok.{Tok, ident}
use Rattle.syn_tokens.specs.Front.{group_at}
use Rattle.syn_lower_spec.specs.declared.label.PathStyle.{PathStyle}
use Rattle.syn_lower_spec.specs.declared.label.PathStyle.TheVariants as style
use Rattle.syn_lower_spec.specs.Text.{Text, is_segment, stands_alone}
use Rattle.syn_lower_spec.specs.Mark.{sign_at, round_at, colon2}
use Rattle.syn_lower_spec.specs.Part.{angle_at, turbofish_at, has_none, is_arg_name}
use Rattle.syn_lower_spec.specs.Tree as t
use Rattle.syn_lower_spec.specs.Tree.{TypeTree, Segments, SegmentTree, ArgumentsTree, GenericTree, ReturnTree, Bounds, BoundTree, FnArgTree}
use Rattle.syn_lower_spec.specs.Own.{colon2_before, no_more_types, no_more_generics, no_more_args, no_more_bounds, no_more_segments, one_less, at_most, count_segments}
use Rattle.syn_lower_spec.specs.Fits.{segment_fits, arg_fits, is_string, macro_fits, path_fits, ends_well, is_none, lifetimes_fit, fits_if, is_one_type, is_one_bound, bare_segments, style_at, takes_angle, takes_round, is_macro_delimiter, position_fits, name_stops, type_stops, mac_stops, segments_stop, arguments_stop, return_stops, bounds_stop, bound_stops, goes_over, type_fits, types_fit, segments_fit, arguments_fit, generics_fit, generic_fits, return_fits, args_fit, bounds_fit, bound_fits, qpath_fits, output_fits}
use Rattle.syn_lower_leaves.specs.Punct.{is_one}
use Rattle.syn_lower_types.specs.ReadBack.{inner_fits, rows_fit, path_fits_inside, qpath_fits_by}
use Rattle.syn_lower_types.specs.View.{values, trails, macro_of, last_of, is_some_pair, mapped, lifetime_of, lifetimes_of, abi_of, arg_of, delimiter_of, segment_of, path_of, qself_or, generic_of, return_of, bound_of, trait_of, angle_of, round_of, type_path_of, type_macro_of, tuple_of, fn_ptr_of, impl_trait_of, trait_object_of}
use Rattle.syn_lower_types.proofs.Prints.{one_less-is}
use Rattle.syn_lower_leaves.proofs.Fitting.{holds}
use Rattle.syn_lower_leaves.specs.declared.lifetime.Lifetime.{Lifetime}
use Rattle.syn_lower_leaves.specs.declared.punctuated.Punctuated.{Punctuated}
use Rattle.syn_lower_types.specs.declared.mac.MacroOf.{MacroOf}
use Rattle.syn_lower_leaves.specs.declared.mac.MacroDelimiter.{MacroDelimiter}
use Rattle.syn_lower_leaves.specs.declared.mac.MacroDelimiter.TheVariants as mac
use Rattle.syn_lower_types.specs.declared.path.PathOf.{PathOf}
use Rattle.syn_lower_types.specs.declared.path.PathSegmentOf.{PathSegmentOf}
use Rattle.syn_lower_types.specs.declared.path.QSelfOf.{QSelfOf}
use Rattle.syn_lower_types.specs.declared.path.AngleBracketedGenericArgumentsOf.{AngleBracketedGenericArgumentsOf}
use Rattle.syn_lower_types.specs.declared.path.ParenthesizedGenericArgumentsOf.{ParenthesizedGenericArgumentsOf}
use Rattle.syn_lower_types.specs.declared.ty.TypeParamBoundOf.{TypeParamBoundOf}
use Rattle.syn_lower_types.specs.declared.ty.TypeParamBoundOf.TheVariants as bo
use Rattle.syn_lower_types.specs.declared.ty.TypeFnPtrOf.{TypeFnPtrOf}
use Rattle.syn_lower_types.specs.declared.ty.TypePathOf.{TypePathOf}
use Rattle.syn_lower_leaves.specs.declared.ty.BoundLifetimes.{BoundLifetimes}
use Rattle.syn_lower_types.specs.declared.ty.TraitBoundOf.{TraitBoundOf}
use Rattle.syn_lower_types.specs.declared.ty.TypeMacroOf.{TypeMacroOf}
use Rattle.syn_lower_types.specs.declared.ty.TypeTupleOf.{TypeTupleOf}
use Rattle.syn_lower_types.specs.declared.ty.TypeImplTraitOf.{TypeImplTraitOf}
use Rattle.syn_lower_types.specs.declared.ty.TypeTraitObjectOf.{TypeTraitObjectOf}

-- ---- lists

types_all : {A : Type 0} (f : A → TypeTree) (xs : List A) → types_fit (t.types_of (map f xs)) ≡ list_all (λ x. type_fits true (f x)) xs
types_all f [] = refl
types_all f (x ∷ xs) = ap (λ b. type_fits true (f x) && b) (types_all f xs)

generics_all : {A : Type 0} (f : A → GenericTree) (xs : List A) → generics_fit (t.generics_of (map f xs)) ≡ list_all (λ x. generic_fits (f x)) xs
generics_all f [] = refl
generics_all f (x ∷ xs) = ap (λ b. generic_fits (f x) && b) (generics_all f xs)

bounds_all : {A : Type 0} (f : A → BoundTree) (xs : List A) → bounds_fit (t.bounds_of (map f xs)) ≡ list_all (λ x. bound_fits (f x)) xs
bounds_all f [] = refl
bounds_all f (x ∷ xs) = ap (λ b. bound_fits (f x) && b) (bounds_all f xs)

args_all : {A : Type 0} (f : A → FnArgTree) (xs : List A) → args_fit (t.args_of (map f xs)) ≡ list_all (λ x. fits_if is_arg_name (f x).name && type_fits true (f x).ty) xs
args_all f [] = refl
args_all f (x ∷ xs) = ap (λ b. fits_if is_arg_name (f x).name && (type_fits true (f x).ty && b)) (args_all f xs) ∙ sym (and_assoc (fits_if is_arg_name (f x).name) (type_fits true (f x).ty) _)

-- a punct ends a list only after a value
ends : {A P : Type 0} (none : List A → Bool) → ((x : A) (xs : List A) → none (x ∷ xs) ≡ false) → (p : Punctuated A P) → ends_well (none (values p)) (trails p) ≡ true
unfolding values trails
ends {A} {P} none h p = by p.inner.items p.last
  where
    by : (xs : List (A × P)) (o : Option (Box A Global)) → ends_well (none (map (λ q. q.0) xs ++ last_of o)) (is_some_pair xs && not (is_some o)) ≡ true
    by [] o = ap not (and-false (none (last_of o)))
    by (q ∷ xs) o = ap (λ b. not (b && (not (is_some o)))) (h q.0 _)

types_end : {A P : Type 0} (f : A → TypeTree) (p : Punctuated A P) → ends_well (no_more_types (t.types_of (map f (values p)))) (trails p) ≡ true
types_end f p = ends (λ xs. no_more_types (t.types_of (map f xs))) (λ x xs. refl) p

generics_end : {A P : Type 0} (f : A → GenericTree) (p : Punctuated A P) → ends_well (no_more_generics (t.generics_of (map f (values p)))) (trails p) ≡ true
generics_end f p = ends (λ xs. no_more_generics (t.generics_of (map f xs))) (λ x xs. refl) p

args_end : {A P : Type 0} (f : A → FnArgTree) (p : Punctuated A P) → ends_well (no_more_args (t.args_of (map f (values p)))) (trails p) ≡ true
args_end f p = ends (λ xs. no_more_args (t.args_of (map f xs))) (λ x xs. refl) p

pub lifetimes_always : (x : BoundLifetimes) → lifetimes_fit (lifetimes_of x) ≡ true
lifetimes_always x = ends (λ xs. is_none (map lifetime_of xs)) (λ y xs. refl) x.lifetimes

some_lifetimes : (o : Option BoundLifetimes) → fits_if lifetimes_fit (mapped lifetimes_of o) ≡ true
some_lifetimes None = refl
some_lifetimes (Some x) = lifetimes_always x

one_type : {A : Type 0} (f : A → TypeTree) (xs : List A) (e : Bool) → (is_one_type (t.types_of (map f xs)) && not e) ≡ is_one xs e
one_type f [] e = refl
one_type f (x ∷ []) e = refl
one_type f (x ∷ y ∷ xs) e = refl

shown_delimiter : (d : MacroDelimiter) → is_macro_delimiter (delimiter_of d) ≡ true
shown_delimiter (mac.Paren x) = refl
shown_delimiter (mac.Brace x) = refl
shown_delimiter (mac.Bracket x) = refl

segments_hold : {A P : Type 0} (f : A → SegmentTree) (p : Punctuated A P) (b : Bool) → (not (trails p) && (not (no_more_segments (t.segments_of (map f (values p)))) && b)) ≡ (is_some p.last && b)
segments_hold f p b = holds (λ xs. no_more_segments (t.segments_of (map f xs))) refl (λ x xs. refl) p b

values_some : {A P : Type 0} (p : Punctuated A P) (b : Box A Global) → p.last ≡ Some b → values p ≡ map (λ q. q.0) p.inner.items ++ b.value ∷ []
unfolding values
values_some p b h = ap (λ o. map (λ q. q.0) p.inner.items ++ last_of o) h

bounds_kind : {A : Type 0} (f : A → BoundTree) (b e : Bool) (xs : List A)
    → (not e && (not (no_more_bounds (t.bounds_of (map f xs))) && ((b || is_one_bound (t.bounds_of (map f xs))) && bounds_fit (t.bounds_of (map f xs)))))
    ≡ (not e && (not (is_none xs) && ((b || is_one xs e) && list_all (λ x. bound_fits (f x)) xs)))
bounds_kind f b true xs = refl
bounds_kind f b false [] = refl
bounds_kind f b false (x ∷ []) = refl
bounds_kind f b false (x ∷ y ∷ xs) = ap (λ a. (b || false) && (bound_fits (f x) && (bound_fits (f y) && a))) (bounds_all f xs)

-- ---- what `::` goes on with

module _ (l : List Tok) where
  colons_end : (b : Bool) → (b && not (colon2.at (colon2_before l))) ≡ false
  unfolding sign_at
  colons_end b = and-false b

  colons_end_path : (b d : Bool) → (b && (not (colon2.at (colon2_before l)) && d)) ≡ false
  unfolding sign_at
  colons_end_path b d = and-false b

mutual
  unfolding sign_at

  type_at_colons : (x : TypeTree) (l m : List Tok) → type_stops false x (colon2_before l) ≡ type_stops false x (colon2_before m)
  type_at_colons (t.path q b ss e) l m = colons_end_path l (segments_stop style.Type ss (colon2_before l)) (mac_stops q ss (colon2_before l)) ∙ sym (colons_end_path m (segments_stop style.Type ss (colon2_before m)) (mac_stops q ss (colon2_before m)))
  type_at_colons (t.mac b ss e d ts) l m = refl
  type_at_colons (t.reference a b x) l m = type_at_colons x l m
  type_at_colons (t.ptr b x) l m = type_at_colons x l m
  type_at_colons (t.slice x) l m = refl
  type_at_colons (t.array x n) l m = refl
  type_at_colons (t.tuple xs e) l m = refl
  type_at_colons (t.paren x) l m = refl
  type_at_colons t.never l m = refl
  type_at_colons t.infer l m = refl
  type_at_colons (t.fn_ptr f u a xs e o) l m = return_at_colons o l m
  type_at_colons (t.impl_trait bs e) l m = ap (λ b. b && true) (bounds_at_colons bs l m)
  type_at_colons (t.trait_object bs e) l m = ap (λ b. b && true) (bounds_at_colons bs l m)

  return_at_colons : (o : ReturnTree) (l m : List Tok) → return_stops o (colon2_before l) ≡ return_stops o (colon2_before m)
  return_at_colons t.default l m = refl
  return_at_colons (t.given x) l m = type_at_colons x l m

  bounds_at_colons : (bs : Bounds) (l m : List Tok) → bounds_stop bs (colon2_before l) ≡ bounds_stop bs (colon2_before m)
  bounds_at_colons t.no_bounds l m = refl
  bounds_at_colons (t.more_bounds b t.no_bounds) l m = bound_at_colons b l m
  bounds_at_colons (t.more_bounds b (t.more_bounds d bs)) l m = bounds_at_colons (t.more_bounds d bs) l m

  bound_at_colons : (b : BoundTree) (l m : List Tok) → bound_stops b (colon2_before l) ≡ bound_stops b (colon2_before m)
  bound_at_colons (t.outlives w) l m = refl
  bound_at_colons (t.a_trait q f b ss e) l m = colons_end l (segments_stop style.Type ss (colon2_before l)) ∙ sym (colons_end m (segments_stop style.Type ss (colon2_before m)))

name_at_colons : (s : PathStyle) (w v : Text) → name_stops s w (colon2_before (ident v ∷ [])) ≡ true
unfolding sign_at round_at angle_at turbofish_at group_at
name_at_colons style.Mod w v = refl
name_at_colons style.Expr w v = or-true (stands_alone w)
name_at_colons style.Type w v = or-true (stands_alone w)

pub name_before : name_stops style.Type [] (colon2_before []) ≡ true
unfolding sign_at round_at angle_at turbofish_at group_at
name_before = or-true (stands_alone [])

arguments_at_colons : (s : PathStyle) (w v : Text) (a : ArgumentsTree) → arguments_stop s w a (colon2_before (ident v ∷ [])) ≡ arguments_stop style.Type [] a (colon2_before [])
arguments_at_colons s w v t.no_arguments = name_at_colons s w v ∙ sym name_before
arguments_at_colons s w v (t.angle c gs e) = refl
arguments_at_colons s w v (t.round xs e o) = return_at_colons o (ident v ∷ []) []

-- ---- segments

over : (n : ℕ) (s : PathStyle) (w v : Text) (a d : ArgumentsTree) (ss : Segments) → goes_over n s w a (t.more_segments v d ss) ≡ (n == 1 || arguments_stop style.Type [] a (colon2_before []))
over zero s w v a d ss = arguments_at_colons s w v a
over (suc zero) s w v a d ss = refl
over (suc (suc n)) s w v a d ss = let h : ((suc (suc n)) == 1) ≡ false = grind (arith, common_steps) in arguments_at_colons s w v a ∙ ap (λ b. b || arguments_stop style.Type [] a (colon2_before [])) (sym h)

regroup : (a b d e f : Bool) → (a && (b && (d && (e && f)))) ≡ (((a && (b && (d && true))) && e) && f)
regroup true true true e f = refl
regroup true true false e f = refl
regroup true false d e f = refl
regroup false b d e f = refl

follow : (n : ℕ) (s : PathStyle) (x : SegmentTree) (v : Text) (d : ArgumentsTree) (ss : Segments)
    → segments_fit n s (t.more_segments x.ident x.arguments (t.more_segments v d ss))
    ≡ (inner_fits n s x && segments_fit (n - 1) s (t.more_segments v d ss))
follow n s x v d ss =
    rw (over n (style_at n s) x.ident v x.arguments d ss, one_less-is n) (
    regroup (is_segment x.ident) (not (stands_alone x.ident) || has_none x.arguments) (arguments_fit (style_at n s) x.arguments) (n == 1 || arguments_stop style.Type [] x.arguments (colon2_before [])) (segments_fit (n - 1) s (t.more_segments v d ss)))

-- a segment that others follow, and the last one
segments_fit-more : {A : Type 0} (f : A → SegmentTree) (n : ℕ) (s : PathStyle) (x : A) (xs : List A) (y : A)
    → segments_fit n s (t.segments_of (map f (x ∷ (xs ++ y ∷ []))))
    ≡ (inner_fits n s (f x) && segments_fit (n - 1) s (t.segments_of (map f (xs ++ y ∷ []))))
segments_fit-more f n s x [] y = follow n s (f x) (f y).ident (f y).arguments t.no_segments
segments_fit-more f n s x (z ∷ xs) y = follow n s (f x) (f z).ident (f z).arguments (t.segments_of (map f (xs ++ y ∷ [])))

segments_fit-last : (n : ℕ) (s : PathStyle) (x : SegmentTree) → segments_fit n s (t.segments_of (x ∷ [])) ≡ segment_fits (style_at n s) x
segments_fit-last n s x = ap (λ b. is_segment x.ident && ((not (stands_alone x.ident) || has_none x.arguments) && (arguments_fit (style_at n s) x.arguments && b))) (by n)
  where
    by : (n : ℕ) → (goes_over n (style_at n s) x.ident x.arguments t.no_segments && segments_fit (one_less n) s t.no_segments) ≡ true
    by zero = refl
    by (suc n) = refl

pub segment_fits-is : (s : PathStyle) (x : SegmentTree) → segment_fits s x ≡ (is_segment x.ident && ((not (stands_alone x.ident) || has_none x.arguments) && arguments_fit s x.arguments))
segment_fits-is s x = ap (λ b. is_segment x.ident && ((not (stands_alone x.ident) || has_none x.arguments) && b)) (and-true (arguments_fit s x.arguments))

pub ruleset segments = (segment_fits-is)

rows : {A P : Type 0} (f : A → SegmentTree) (n : ℕ) (s : PathStyle) (ps : List (A × P)) (y : A) → segments_fit n s (t.segments_of (map f (map (λ q. q.0) ps ++ y ∷ []))) ≡ rows_fit f n s ps y
rows f n s [] y = segments_fit-last n s (f y)
rows f n s (q ∷ ps) y = segments_fit-more f n s q.0 (map (λ q. q.0) ps) y ∙ ap (λ b. inner_fits n s (f q.0) && b) (rows f (n - 1) s ps y)

-- ---- what ends before `::`

pub ends_by_nothing : return_stops t.default (colon2_before []) ≡ true
unfolding sign_at
ends_by_nothing = refl

module _ {T : Type 0} (f : T → TypeTree) where
  bounds_stop-last : (xs : List (TypeParamBoundOf T)) (b : TypeParamBoundOf T) (r : List Tok) → bounds_stop (t.bounds_of (map (bound_of f) (xs ++ b ∷ []))) r ≡ bound_stops (bound_of f b) r
  bounds_stop-last [] b r = refl
  bounds_stop-last (x ∷ []) b r = refl
  bounds_stop-last (x ∷ y ∷ xs) b r = bounds_stop-last (y ∷ xs) b r

  pub ends_by_lifetime : (vs xs : List (TypeParamBoundOf T)) (x : Lifetime) → vs ≡ xs ++ bo.Lifetime x ∷ [] → bounds_stop (t.bounds_of (map (bound_of f) vs)) (colon2_before []) ≡ true
  ends_by_lifetime vs xs x h = rw (h, bounds_stop-last xs (bo.Lifetime x) (colon2_before [])) refl

  pub ends_by_trait : (vs xs : List (TypeParamBoundOf T)) (x : TraitBoundOf T) → vs ≡ xs ++ bo.Trait x ∷ [] → bounds_stop (t.bounds_of (map (bound_of f) vs)) (colon2_before []) ≡ false
  ends_by_trait vs xs x h = rw (h, bounds_stop-last xs (bo.Trait x) (colon2_before [])) (colons_end [] _)

  pub ends_by_none : (vs : List (TypeParamBoundOf T)) → vs ≡ [] → bounds_stop (t.bounds_of (map (bound_of f) vs)) (colon2_before []) ≡ true
  ends_by_none vs h = rw h refl

  -- the kinds of types
  pub ends-Path : (x : TypePathOf T) → type_stops false (type_path_of f x) (colon2_before []) ≡ false
  ends-Path x = colons_end_path [] _ _

  pub ends-ImplTrait : (x : TypeImplTraitOf T) → type_stops false (impl_trait_of f x) (colon2_before []) ≡ bounds_stop (t.bounds_of (map (bound_of f) (values x.bounds))) (colon2_before [])
  ends-ImplTrait x = and-true _

  pub ends-TraitObject : (x : TypeTraitObjectOf T) → type_stops false (trait_object_of f x) (colon2_before []) ≡ bounds_stop (t.bounds_of (map (bound_of f) (values x.bounds))) (colon2_before [])
  ends-TraitObject x = and-true _

pub ruleset colons = (name_before, ends_by_nothing, ends_by_lifetime, ends_by_trait, ends_by_none, ends-Path, ends-ImplTrait, ends-TraitObject)

-- ---- each kind

pub fits-AngleBracketed : {T : Type 0} (f : T → TypeTree) (s : PathStyle) (x : AngleBracketedGenericArgumentsOf T)
    → arguments_fit s (angle_of f x) ≡ (takes_angle s (is_some x.colon2_token) && list_all (λ y. generic_fits (generic_of f y)) (values x.args))
fits-AngleBracketed f s x = rw (generics_all (generic_of f) (values x.args), generics_end (generic_of f) x.args) (ap (λ b. takes_angle s (is_some x.colon2_token) && b) (and-true _))

output_is : (o : ReturnTree) → return_fits o ≡ output_fits false o
output_is t.default = refl
output_is (t.given y) = refl

round_by : {T : Type 0} (f : T → TypeTree) (s : PathStyle) (x : ParenthesizedGenericArgumentsOf T)
    → arguments_fit s (round_of f x) ≡ (takes_round s && (list_all (λ y. type_fits true (f y)) (values x.inputs) && output_fits false (return_of f x.output)))
round_by f s x = rw (types_all f (values x.inputs), types_end f x.inputs) (ap (λ b. takes_round s && (list_all (λ y. type_fits true (f y)) (values x.inputs) && b)) (output_is (return_of f x.output)))

pub fits-Parenthesized : {T : Type 0} (f : T → TypeTree) (s : PathStyle) (x : ParenthesizedGenericArgumentsOf T) → arguments_fit s (round_of f x) ≡ (takes_round s && arguments_fit style.Type (round_of f x))
fits-Parenthesized f s x = round_by f s x ∙ ap (λ b. takes_round s && b) (sym (round_by f style.Type x))

pub fits-round : {T : Type 0} (f : T → TypeTree) (x : ParenthesizedGenericArgumentsOf T) → arguments_fit style.Type (round_of f x) ≡ (list_all (λ y. type_fits true (f y)) (values x.inputs) && output_fits false (return_of f x.output))
fits-round f x = round_by f style.Type x

pub fits-Trait : {T : Type 0} (f : T → TypeTree) (x : TraitBoundOf T) → bound_fits (trait_of f x) ≡ path_fits_inside 0 style.Type (path_of f x.path)
fits-Trait f x = rw (some_lifetimes x.lifetimes) refl

no_mod : (a b : Bool) → (a && (b && false)) ≡ false
no_mod true b = and-false b
no_mod false b = refl

none_over : (s : PathStyle) (w : Text) (ss : Segments) → goes_over 0 s w t.no_arguments ss ≡ true
none_over s w t.no_segments = refl
none_over s w (t.more_segments v a ss) = name_at_colons s w v

bare_mod : (ss : Segments) → (bare_segments ss && segments_fit 0 style.Type ss) ≡ segments_fit 0 style.Mod ss
bare_mod t.no_segments = refl
bare_mod (t.more_segments w t.no_arguments ss) = by (is_segment w) (goes_over 0 style.Type w t.no_arguments ss) (goes_over 0 style.Mod w t.no_arguments ss) (none_over style.Type w ss) (none_over style.Mod w ss) (bare_mod ss)
  where
    by : (a b d : Bool) → b ≡ true → d ≡ true → (bare_segments ss && segments_fit 0 style.Type ss) ≡ segments_fit 0 style.Mod ss
        → (bare_segments ss && (a && ((not (stands_alone w) || true) && (b && segments_fit 0 style.Type ss)))) ≡ (a && ((not (stands_alone w) || true) && (d && segments_fit 0 style.Mod ss)))
    by true b d g h k = rw (g, h, or-true (not (stands_alone w))) k
    by false b d g h k = and-false (bare_segments ss)
bare_mod (t.more_segments w (t.angle c gs e) ss) = sym (no_mod (is_segment w) (not (stands_alone w) || false))
bare_mod (t.more_segments w (t.round xs e o) ss) = sym (no_mod (is_segment w) (not (stands_alone w) || false))

count_is : (ss : List SegmentTree) → count_segments (t.segments_of ss) ≡ length ss
count_is [] = refl
count_is (x ∷ ss) = ap suc (count_is ss)

position_most : (a : Bool) (n : ℕ) (l : Bool) (k : ℕ) → position_fits a n l k ≡ true → at_most n k ≡ n
position_most false n l k h = grind (arith, common_steps)
position_most true n l k h = grind (arith, common_steps)

shuffle : (p t e m f g : Bool) → (p ≡ true → f ≡ g) → (p && (t && (e && (m && f)))) ≡ (e && (m && ((t && p) && g)))
shuffle true true true true f g h = h refl
shuffle true true true false f g h = refl
shuffle true true false m f g h = refl
shuffle true false true true f g h = refl
shuffle true false true false f g h = refl
shuffle true false false m f g h = refl
shuffle false true true true f g h = refl
shuffle false false true true f g h = refl
shuffle false t true false f g h = refl
shuffle false t false m f g h = refl

pub qpath_fits-is : {T : Type 0} (f : T → TypeTree) (s : PathStyle) (q : Option (QSelfOf T)) (p : PathOf T) → qpath_fits_by (λ x. type_fits true (f x)) s q (path_of f p) ≡ qpath_fits s (qself_or f q, path_of f p)
qpath_fits-is f s None p = refl
qpath_fits-is f s (Some q) p = by (is_some q.as_token) q.position (is_some p.leading_colon) (t.segments_of (map (segment_of f) (values p.segments))) (length (map (segment_of f) (values p.segments))) (count_is (map (segment_of f) (values p.segments)))
  where
    by : (a : Bool) (n : ℕ) (l : Bool) (ss : Segments) (k : ℕ) → count_segments ss ≡ k
        → (position_fits a n l k && (type_fits true (f q.ty.value) && (not (trails p.segments) && (not (no_more_segments ss) && segments_fit n s ss))))
        ≡ (not (trails p.segments) && (not (no_more_segments ss) && ((type_fits true (f q.ty.value) && position_fits a n l (count_segments ss)) && segments_fit (at_most n (count_segments ss)) s ss)))
    by a n l ss k h = rw h (shuffle (position_fits a n l k) (type_fits true (f q.ty.value)) (not (trails p.segments)) (not (no_more_segments ss)) (segments_fit n s ss) (segments_fit (at_most n k) s ss) (λ e. ap (λ m. segments_fit m s ss) (sym (position_most a n l k e))))

pub fits-Path : {T : Type 0} (f : T → TypeTree) (b : Bool) (x : TypePathOf T) → type_fits b (type_path_of f x) ≡ qpath_fits_by (λ y. type_fits true (f y)) style.Type x.qself (path_of f x.path)
fits-Path f b x = sym (qpath_fits-is f style.Type x.qself x.path)

pub fits-Macro : {T : Type 0} (f : T → TypeTree) (b : Bool) (x : TypeMacroOf T) → type_fits b (type_macro_of f x) ≡ path_fits_inside 0 style.Mod (path_of f x.mac.path)
fits-Macro f b x = rw (shown_delimiter x.mac.delimiter) (ap (λ c. not (trails x.mac.path.segments) && (not (no_more_segments (t.segments_of (map (segment_of f) (values x.mac.path.segments)))) && c)) (
    ap (λ c. bare_segments (t.segments_of (map (segment_of f) (values x.mac.path.segments))) && c) (and-true _) ∙ bare_mod _))

pub fits-Tuple : {T : Type 0} (f : T → TypeTree) (b : Bool) (x : TypeTupleOf T) → type_fits b (tuple_of f x) ≡ (list_all (λ y. type_fits true (f y)) (values x.elems) && not (is_one (values x.elems) (trails x.elems)))
fits-Tuple f b x = rw (types_all f (values x.elems), types_end f x.elems, one_type f (values x.elems) (trails x.elems)) refl

pub fits-FnPtr : {T : Type 0} (f : T → TypeTree) (b : Bool) (x : TypeFnPtrOf T)
    → type_fits b (fn_ptr_of f x) ≡ (fits_if (fits_if is_string) (mapped abi_of x.abi) && (list_all (λ y. fits_if is_arg_name (mapped (λ n. n.0) y.name) && type_fits true (f y.ty)) (values x.inputs) && output_fits false (return_of f x.output)))
fits-FnPtr f b x = rw (some_lifetimes x.lifetimes, args_all (arg_of f) (values x.inputs), args_end (arg_of f) x.inputs) (ap (λ c. fits_if (fits_if is_string) (mapped abi_of x.abi) && (list_all (λ y. fits_if is_arg_name (mapped (λ n. n.0) y.name) && type_fits true (f y.ty)) (values x.inputs) && c)) (output_is (return_of f x.output)))

pub fits-ImplTrait : {T : Type 0} (f : T → TypeTree) (b : Bool) (x : TypeImplTraitOf T)
    → type_fits b (impl_trait_of f x) ≡ (not (trails x.bounds) && (not (is_none (values x.bounds)) && ((b || is_one (values x.bounds) (trails x.bounds)) && list_all (λ y. bound_fits (bound_of f y)) (values x.bounds))))
fits-ImplTrait f b x = bounds_kind (bound_of f) b (trails x.bounds) (values x.bounds)

pub fits-TraitObject : {T : Type 0} (f : T → TypeTree) (b : Bool) (x : TypeTraitObjectOf T)
    → type_fits b (trait_object_of f x) ≡ (not (trails x.bounds) && (not (is_none (values x.bounds)) && ((b || is_one (values x.bounds) (trails x.bounds)) && list_all (λ y. bound_fits (bound_of f y)) (values x.bounds))))
fits-TraitObject f b x = bounds_kind (bound_of f) b (trails x.bounds) (values x.bounds)

pub ruleset kinds = (fits-AngleBracketed, fits-Parenthesized, fits-round, fits-Trait, fits-Path, fits-Macro, fits-Tuple, fits-FnPtr, fits-ImplTrait, fits-TraitObject)

pub path_fits-some : {T : Type 0} (f : T → TypeTree) (n : ℕ) (s : PathStyle) (x : PathOf T) (b : Box (PathSegmentOf T) Global) → x.segments.last ≡ Some b → path_fits_inside n s (path_of f x) ≡ rows_fit (segment_of f) n s x.segments.inner.items b.value
path_fits-some f n s x b h =
    segments_hold (segment_of f) x.segments _ ∙ ap (λ o. is_some o && segments_fit n s (t.segments_of (map (segment_of f) (values x.segments)))) h
    ∙ ap (λ vs. segments_fit n s (t.segments_of (map (segment_of f) vs))) (values_some x.segments b h) ∙ rows (segment_of f) n s x.segments.inner.items b.value

pub path_fits-none : {T : Type 0} (f : T → TypeTree) (n : ℕ) (s : PathStyle) (x : PathOf T) → x.segments.last ≡ None → path_fits_inside n s (path_of f x) ≡ false
path_fits-none f n s x h = segments_hold (segment_of f) x.segments _ ∙ ap (λ o. is_some o && segments_fit n s (t.segments_of (map (segment_of f) (values x.segments)))) h

pub ruleset paths = (path_fits-some, path_fits-none)

-- ---- paths and macros

pub macro_fits-is : {T : Type 0} (f : T → TypeTree) (x : MacroOf T) → macro_fits (macro_of f x) ≡ path_fits style.Mod (path_of f x.path)
macro_fits-is f x = rw (shown_delimiter x.delimiter) (and-true _)

pub fits-macro : {T : Type 0} (f : T → TypeTree) (b : Bool) (x : TypeMacroOf T) → type_fits b (type_macro_of f x) ≡ macro_fits (macro_of f x.mac)
fits-macro f b x = fits-Macro f b x ∙ sym (macro_fits-is f x.mac)

pub ruleset macros = (macro_fits-is, fits-macro)

pub arg_fits-is : (x : FnArgTree) → arg_fits x ≡ (fits_if is_arg_name x.name && type_fits true x.ty)
arg_fits-is x = ap (λ b. fits_if is_arg_name x.name && b) (and-true (type_fits true x.ty))

pub ruleset args = (arg_fits-is)
