-- What is printed of each part that holds types is its tree's own tokens, where that of each type is.
use Rattle.std.proofs.Common.{◌≡◌, ℕ, zero, suc, ◌-◌, ◌==◌, Bool, false, not, ◌&&◌, List, [], ◌∷◌, ◌++◌, map, length, Option, Some, None, refl, sym, ap, ◌∙◌, append_assoc, arith}
use Rattle.std.proofs.lemmas.List.{append-nil}
use Rattle.std.proofs.lemmas.Grind.{common_steps}
use Rattle.std.specs.Prelude.{is_some, codes, if◌then◌else◌}
use Rattle.std.specs.declared.boxed.Box.{Box}
use Rattle.std.specs.declared.alloc.Global.{Global}
use Rattle.syn_lexer.specs.declared.front.Delimiter.TheVariants as del
use Rattle.syn_tokens.specs.Tok.{Tok, ident}
use Rattle.syn_lower_spec.specs.Text.{Text}
use Rattle.syn_lower_spec.specs.Tree as t
use Rattle.syn_lower_spec.specs.Tree.{TypeTree, SegmentTree, FnArgTree, GenericTree, BoundTree}
use Rattle.syn_lower_spec.specs.Own.{alone, joint, one_less, before_if, before_some, comma_before, colon2_before, closed_at, qself_end, at_most, count_segments, lifetime_own, lifetimes_own, extern_own, enclosed, elements_own, type_own, types_own, segments_own, arguments_own, generics_own, generic_own, return_own, args_own, bounds_own, bound_own, segment_own, arg_own, macro_own}
use Rattle.syn_lower_spec.proofs.Appends.{type_append, arguments_append, generic_append, bound_append, lifetimes_own-append, extern_append}
use Rattle.syn_lower_spec.proofs.TypesBack.{plus_before}
use Rattle.syn_lower_leaves.proofs.Owns.{punctuated_same, Appends, listed_own-punctuated}
use Rattle.syn_lower_leaves.specs.declared.punctuated.Punctuated.{Punctuated}
use Rattle.syn_lower_leaves.specs.declared.ty.BoundLifetimes.{BoundLifetimes}
use Rattle.syn_lower_leaves.specs.declared.ty.Abi.{Abi}
use Rattle.syn_lower_leaves.specs.declared.lifetime.Lifetime.{Lifetime}
use Rattle.syn_lower_types.specs.View.{values, trails, last_of, is_some_pair, lifetime_of, lifetimes_of, mapped, abi_of, return_of, assoc_of, generic_of, angle_of, round_of, arguments_of, arg_of, segment_of, path_of, qself_or, macro_of, trait_of, bound_of, path_with, type_path_of, type_macro_of, reference_of, ptr_of, slice_of, array_of, tuple_of, paren_of, fn_ptr_of, impl_trait_of, trait_object_of}
use Rattle.syn_lower_types.specs.Printed.{option_printed, punctuated_printed, comma, colon2, plus, word, return_printed, assoc_printed, generic_printed, angle_printed, round_printed, parenthesized_printed, arguments_printed, segment_printed, path_printed, macro_printed, closed_printed, inside_printed, qself_end_printed, qualified_printed, qpath_printed, trait_printed, bound_printed, type_path_printed, reference_printed, ptr_printed, slice_printed, array_printed, tuple_printed, paren_printed, impl_printed, object_printed, arg_printed, fn_head_printed, fn_ptr_printed}
use Rattle.syn_lower_types.specs.declared.mac.MacroOf.{MacroOf}
use Rattle.syn_lower_types.specs.declared.path.PathOf.{PathOf}
use Rattle.syn_lower_types.specs.declared.path.PathSegmentOf.{PathSegmentOf}
use Rattle.syn_lower_types.specs.declared.path.PathArgumentsOf.{PathArgumentsOf}
use Rattle.syn_lower_types.specs.declared.path.PathArgumentsOf.TheVariants as arguments
use Rattle.syn_lower_types.specs.declared.path.AngleBracketedGenericArgumentsOf.{AngleBracketedGenericArgumentsOf}
use Rattle.syn_lower_types.specs.declared.path.GenericArgumentOf.{GenericArgumentOf}
use Rattle.syn_lower_types.specs.declared.path.GenericArgumentOf.TheVariants as generic
use Rattle.syn_lower_types.specs.declared.path.AssocTypeOf.{AssocTypeOf}
use Rattle.syn_lower_types.specs.declared.path.ParenthesizedGenericArgumentsOf.{ParenthesizedGenericArgumentsOf}
use Rattle.syn_lower_types.specs.declared.path.QSelfOf.{QSelfOf}
use Rattle.syn_lower_types.specs.declared.ty.ReturnTypeOf.{ReturnTypeOf}
use Rattle.syn_lower_types.specs.declared.ty.ReturnTypeOf.TheVariants as output
use Rattle.syn_lower_types.specs.declared.ty.TypeParamBoundOf.{TypeParamBoundOf}
use Rattle.syn_lower_types.specs.declared.ty.TypeParamBoundOf.TheVariants as bound
use Rattle.syn_lower_types.specs.declared.ty.TraitBoundOf.{TraitBoundOf}
use Rattle.syn_lower_types.specs.declared.ty.BareFnArgOf.{BareFnArgOf}
use Rattle.syn_lower_types.specs.declared.ty.TypePathOf.{TypePathOf}
use Rattle.syn_lower_types.specs.declared.ty.TypeMacroOf.{TypeMacroOf}
use Rattle.syn_lower_types.specs.declared.ty.TypeReferenceOf.{TypeReferenceOf}
use Rattle.syn_lower_types.specs.declared.ty.TypePtrOf.{TypePtrOf}
use Rattle.syn_lower_types.specs.declared.ty.TypeSliceOf.{TypeSliceOf}
use Rattle.syn_lower_types.specs.declared.ty.TypeArrayOf.{TypeArrayOf}
use Rattle.syn_lower_types.specs.declared.ty.TypeTupleOf.{TypeTupleOf}
use Rattle.syn_lower_types.specs.declared.ty.TypeParenOf.{TypeParenOf}
use Rattle.syn_lower_types.specs.declared.ty.TypeFnPtrOf.{TypeFnPtrOf}
use Rattle.syn_lower_types.specs.declared.ty.TypeImplTraitOf.{TypeImplTraitOf}
use Rattle.syn_lower_types.specs.declared.ty.TypeTraitObjectOf.{TypeTraitObjectOf}

-- ---- lists

types_listed : (xs : List TypeTree) (e : Bool) (r : List Tok) → types_own (t.types_of xs) e r ≡ elements_own type_own comma_before xs e r
types_listed [] e r = refl
types_listed (x ∷ []) e r = refl
types_listed (x ∷ y ∷ xs) e r = ap (λ m. type_own x (comma_before m)) (types_listed (y ∷ xs) e r)

generics_listed : (xs : List GenericTree) (e : Bool) (r : List Tok) → generics_own (t.generics_of xs) e r ≡ elements_own generic_own comma_before xs e r
generics_listed [] e r = refl
generics_listed (x ∷ []) e r = refl
generics_listed (x ∷ y ∷ xs) e r = ap (λ m. generic_own x (comma_before m)) (generics_listed (y ∷ xs) e r)

args_listed : (xs : List FnArgTree) (e : Bool) (r : List Tok) → args_own (t.args_of xs) e r ≡ elements_own arg_own comma_before xs e r
args_listed [] e r = refl
args_listed (x ∷ []) e r = refl
args_listed (x ∷ y ∷ xs) e r = ap (λ m. arg_own x (comma_before m)) (args_listed (y ∷ xs) e r)

bounds_listed : (xs : List BoundTree) (e : Bool) (r : List Tok) → bounds_own (t.bounds_of xs) e r ≡ elements_own bound_own plus_before xs e r
bounds_listed [] e r = refl
bounds_listed (x ∷ []) e r = refl
bounds_listed (x ∷ y ∷ xs) e r = ap (λ m. bound_own x (plus_before m)) (bounds_listed (y ∷ xs) e r)

segments_listed : (xs : List SegmentTree) (e : Bool) (r : List Tok) → segments_own 0 (t.segments_of xs) e r ≡ elements_own segment_own colon2_before xs e r
segments_listed [] e r = refl
segments_listed (x ∷ []) e r = refl
segments_listed (x ∷ y ∷ xs) e r = ap (λ m. segment_own x (colon2_before m)) (segments_listed (y ∷ xs) e r)

type_appends : Appends type_own
type_appends = record { before = type_append }

generic_appends : Appends generic_own
generic_appends = record { before = generic_append }

bound_appends : Appends bound_own
bound_appends = record { before = bound_append }

pub segment_appends : Appends segment_own
segment_appends = record { before = λ s r. ap (λ m. ident s.ident ∷ m) (arguments_append s.arguments r) }

pub arg_appends : Appends arg_own
arg_appends = record { before = λ x r. by x.name x.ty r }
  where
    by : (n : Option Text) (x : TypeTree) (r : List Tok) → before_some n (λ w l. ident w ∷ alone 58 ∷ l) (type_own x r) ≡ before_some n (λ w l. ident w ∷ alone 58 ∷ l) (type_own x []) ++ r
    by None x r = type_append x r
    by (Some w) x r = ap (λ m. ident w ∷ alone 58 ∷ m) (type_append x r)

-- ---- what may be missing

colon2_print : {S : Type 0} (o : Option S) (m : List Tok) → before_if (is_some o) colon2_before m ≡ option_printed colon2 o ++ m
unfolding option_printed
colon2_print None m = refl
colon2_print (Some s) m = refl

lifetimes_some : (o : Option BoundLifetimes) (m : List Tok) → before_some (mapped lifetimes_of o) lifetimes_own m ≡ option_printed (λ l. lifetimes_own (lifetimes_of l) []) o ++ m
unfolding option_printed
lifetimes_some None m = refl
lifetimes_some (Some l) m = lifetimes_own-append (lifetimes_of l) m

sign_if : {S : Type 0} (w : Tok) (o : Option S) (m : List Tok) → before_if (is_some o) (λ l. w ∷ l) m ≡ option_printed (λ q. w ∷ []) o ++ m
unfolding option_printed
sign_if w None m = refl
sign_if w (Some s) m = refl

lifetime_some : (o : Option Lifetime) (m : List Tok) → before_some (mapped lifetime_of o) lifetime_own m ≡ option_printed (λ a. lifetime_own (lifetime_of a) []) o ++ m
unfolding option_printed
lifetime_some None m = refl
lifetime_some (Some l) m = refl

extern_some : (o : Option Abi) (m : List Tok) → before_some (mapped abi_of o) extern_own m ≡ option_printed (λ a. extern_own (abi_of a) []) o ++ m
unfolding option_printed
extern_some None m = refl
extern_some (Some a) m = extern_append (abi_of a) m

fn_head : {S : Type 0} (l : Option BoundLifetimes) (u : Option S) (a : Option Abi) (m : List Tok)
    → before_some (mapped lifetimes_of l) lifetimes_own (before_if (is_some u) (λ l. ident (codes "unsafe") ∷ l) (before_some (mapped abi_of a) extern_own (ident (codes "fn") ∷ m)))
    ≡ fn_head_printed l u a ++ m
unfolding fn_head_printed
fn_head l u a m =
    lifetimes_some l _ ∙ ap (λ m. option_printed (λ l. lifetimes_own (lifetimes_of l) []) l ++ m) (
    sign_if (ident (codes "unsafe")) u _ ∙ ap (λ m. option_printed (word (codes "unsafe")) u ++ m) (
    extern_some a _)) ∙ grind (arith, append_assoc)

-- ---- segments before `>`

close_print : (n : ℕ) (r : List Tok) → closed_at n r ≡ closed_printed n ++ r
close_print zero r = refl
close_print (suc zero) r = refl
close_print (suc (suc n)) r = let h : ((suc (suc n)) == 1) ≡ false = grind (arith, common_steps) in ap (λ (b : Bool). (if b then alone 62 ∷ [] else []) ++ r) (sym h)

end_print : (n : ℕ) (r : List Tok) → qself_end n r ≡ qself_end_printed n ++ r
end_print zero r = refl
end_print (suc n) r = let h : ((suc n) == 0) ≡ false = grind (arith, common_steps) in ap (λ (b : Bool). (if b then alone 62 ∷ [] else ident (codes "as") ∷ []) ++ r) (sym h)

pub one_less-is : (n : ℕ) → one_less n ≡ n - 1
one_less-is zero = refl
one_less-is (suc n) = omega arith

count_is : {A : Type 0} (f : A → SegmentTree) (xs : List A) → count_segments (t.segments_of (map f xs)) ≡ length xs
count_is f [] = refl
count_is f (x ∷ xs) = let e = count_is f xs in cc

-- ---- each part, by the trees of the types

module _ {T : Type 0} (f : T → TypeTree) where
  -- the own tokens of a type
  abbrev pub toks : T → List Tok
  toks x = type_own (f x) []

  types_print : {S : Type 0} (p : Punctuated T S) (r : List Tok) → types_own (t.types_of (map f (values p))) (trails p) r ≡ punctuated_printed toks comma p ++ r
  types_print p r = types_listed (map f (values p)) (trails p) r ∙ listed_own-punctuated type_own comma_before f comma type_appends (λ q m. refl) p r

  pub return_print : (x : ReturnTypeOf T) → return_own (return_of f x) [] ≡ return_printed toks x
  return_print output.Default = refl
  return_print (output.Given a b) = refl

  -- ---- arguments of segments

  pub assoc_print : (x : AssocTypeOf T) → generic_own (assoc_of f x) [] ≡ assoc_printed toks x
  assoc_print x = refl

  pub generic_print : (x : GenericArgumentOf T) → generic_own (generic_of f x) [] ≡ generic_printed toks x
  generic_print (generic.Lifetime x) = refl
  generic_print (generic.Const x) = append-nil x
  generic_print (generic.AssocType x) = refl
  generic_print (generic.Ty x) = refl

  generics_print : {S : Type 0} (p : Punctuated (GenericArgumentOf T) S) (r : List Tok) → generics_own (t.generics_of (map (generic_of f) (values p))) (trails p) r ≡ punctuated_printed (generic_printed toks) comma p ++ r
  generics_print p r =
      generics_listed (map (generic_of f) (values p)) (trails p) r ∙ listed_own-punctuated generic_own comma_before (generic_of f) comma generic_appends (λ q m. refl) p r
      ∙ ap (λ m. m ++ r) (punctuated_same (λ x. generic_own (generic_of f x) []) (generic_printed toks) comma generic_print p)

  pub angle_print : (x : AngleBracketedGenericArgumentsOf T) → arguments_own (angle_of f x) [] ≡ angle_printed toks x
  angle_print x = colon2_print x.colon2_token _ ∙ ap (λ m. option_printed colon2 x.colon2_token ++ alone 60 ∷ m) (generics_print x.args (alone 62 ∷ []))

  pub parenthesized_print : (x : ParenthesizedGenericArgumentsOf T) → arguments_own (round_of f x) [] ≡ parenthesized_printed toks x
  unfolding round_printed
  parenthesized_print x =
      ap (λ ts. enclosed del.Parenthesis ts (return_own (return_of f x.output) [])) (types_print x.inputs [] ∙ append-nil (punctuated_printed toks comma x.inputs))
      ∙ ap (λ r. enclosed del.Parenthesis (punctuated_printed toks comma x.inputs) r) (return_print x.output)

  pub arguments_print : (x : PathArgumentsOf T) → arguments_own (arguments_of f x) [] ≡ arguments_printed toks x
  arguments_print arguments.None = refl
  arguments_print (arguments.AngleBracketed x) = angle_print x
  arguments_print (arguments.Parenthesized x) = parenthesized_print x

  -- ---- paths

  pub segment_print : (x : PathSegmentOf T) → segment_own (segment_of f x) [] ≡ segment_printed toks x
  segment_print x = ap (λ m. ident x.ident ∷ m) (arguments_print x.arguments)

  segments_print : {S : Type 0} (p : Punctuated (PathSegmentOf T) S) (r : List Tok) → segments_own 0 (t.segments_of (map (segment_of f) (values p))) (trails p) r ≡ punctuated_printed (segment_printed toks) colon2 p ++ r
  segments_print p r =
      segments_listed (map (segment_of f) (values p)) (trails p) r ∙ listed_own-punctuated segment_own colon2_before (segment_of f) colon2 segment_appends (λ q m. refl) p r
      ∙ ap (λ m. m ++ r) (punctuated_same (λ x. segment_own (segment_of f x) []) (segment_printed toks) colon2 segment_print p)

  pub path_print : (x : PathOf T) (r : List Tok) → before_if (is_some x.leading_colon) colon2_before (segments_own 0 (t.segments_of (map (segment_of f) (values x.segments))) (trails x.segments) r) ≡ path_printed toks x ++ r
  path_print x r = colon2_print x.leading_colon _ ∙ ap (λ m. option_printed colon2 x.leading_colon ++ m) (segments_print x.segments r) ∙ sym (append_assoc (option_printed colon2 x.leading_colon) (punctuated_printed (segment_printed toks) colon2 x.segments) r)

  pub macro_print : (x : MacroOf T) → macro_own (macro_of f x) [] ≡ macro_printed toks x
  macro_print x = path_print x.path _

  -- ---- qualified paths

  -- a segment, `>` where it is the last inside, and what follows
  segment_last : (s : PathSegmentOf T) (n : ℕ) (r : List Tok) → segment_own (segment_of f s) (closed_at n r) ≡ (segment_printed toks s ++ closed_printed n) ++ r
  segment_last s n r =
      segment_appends.before (segment_of f s) (closed_at n r) ∙ ap (λ m. m ++ closed_at n r) (segment_print s) ∙ ap (λ m. segment_printed toks s ++ m) (close_print n r)
      ∙ sym (append_assoc (segment_printed toks s) (closed_printed n) r)

  segment_step : (s : PathSegmentOf T) (n : ℕ) (ts r m : List Tok) → m ≡ ts ++ r → segment_own (segment_of f s) (closed_at n (colon2_before m)) ≡ (segment_printed toks s ++ (closed_printed n ++ (joint 58 ∷ alone 58 ∷ [] ++ ts))) ++ r
  segment_step s n ts r m e =
      segment_last s n (colon2_before m) ∙ ap (λ l. (segment_printed toks s ++ closed_printed n) ++ joint 58 ∷ alone 58 ∷ l) e
      ∙ grind (arith, append_assoc)

  inside_print : {S : Type 0} (n : ℕ) (xs : List (PathSegmentOf T × S)) (o : Option (Box (PathSegmentOf T) Global)) (r : List Tok)
      → segments_own n (t.segments_of (map (segment_of f) (map (λ q. q.0) xs ++ last_of o))) (is_some_pair xs && not (is_some o)) r
      ≡ inside_printed (segment_printed toks) n xs o ++ r
  inside_print n [] None r = refl
  inside_print n [] (Some b) r = segment_last b.value n r
  inside_print n (q ∷ []) None r = segment_step q.0 n [] r r refl
  inside_print {S} n (q ∷ []) (Some b) r = segment_step q.0 n (inside_printed {P = S} (segment_printed toks) (n - 1) [] (Some b)) r _ (rw (one_less-is n) (inside_print {S = S} (n - 1) [] (Some b) r))
  inside_print n (q ∷ u ∷ xs) o r = segment_step q.0 n (inside_printed (segment_printed toks) (n - 1) (u ∷ xs) o) r _ (rw (one_less-is n) (inside_print (n - 1) (u ∷ xs) o r))

  qualified_print : (q : QSelfOf T) (p : PathOf T) (n : ℕ)
      → alone 60 ∷ type_own (f q.ty.value) (qself_end n (before_if (is_some p.leading_colon) colon2_before (segments_own n (t.segments_of (map (segment_of f) (values p.segments))) (trails p.segments) [])))
      ≡ qualified_printed toks q p n
  unfolding values trails
  qualified_print q p n =
      let segments = inside_print n p.segments.inner.items p.segments.last [] ∙ append-nil (inside_printed (segment_printed toks) n p.segments.inner.items p.segments.last) in
      let colons = colon2_print p.leading_colon (segments_own n (t.segments_of (map (segment_of f) (values p.segments))) (trails p.segments) []) ∙ ap (λ m. option_printed colon2 p.leading_colon ++ m) segments in
      ap (λ m. alone 60 ∷ m) (type_append (f q.ty.value) _ ∙ ap (λ m. toks q.ty.value ++ m) (end_print n _ ∙ ap (λ m. qself_end_printed n ++ m) colons))

  pub qpath_print : (q : Option (QSelfOf T)) (p : PathOf T) → type_own (path_with (qself_or f q) (path_of f p)) [] ≡ qpath_printed toks q p
  qpath_print None p = path_print p [] ∙ append-nil (path_printed toks p)
  qpath_print (Some q) p = rw (count_is (segment_of f) (values p.segments)) (qualified_print q p (at_most q.position (length (values p.segments))))

  -- ---- bounds

  pub trait_print : (x : TraitBoundOf T) → bound_own (trait_of f x) [] ≡ trait_printed toks x
  trait_print x =
      sign_if (alone 63) x.maybe _ ∙ ap (λ m. option_printed (λ q. alone 63 ∷ []) x.maybe ++ m) (
      lifetimes_some x.lifetimes _ ∙ ap (λ m. option_printed (λ l. lifetimes_own (lifetimes_of l) []) x.lifetimes ++ m) (
      path_print x.path [] ∙ append-nil (path_printed toks x.path)))

  pub bound_print : (x : TypeParamBoundOf T) → bound_own (bound_of f x) [] ≡ bound_printed toks x
  bound_print (bound.Lifetime x) = refl
  bound_print (bound.Trait x) = trait_print x

  bounds_print : {S : Type 0} (p : Punctuated (TypeParamBoundOf T) S) → bounds_own (t.bounds_of (map (bound_of f) (values p))) (trails p) [] ≡ punctuated_printed (bound_printed toks) plus p
  bounds_print p =
      bounds_listed (map (bound_of f) (values p)) (trails p) [] ∙ listed_own-punctuated bound_own plus_before (bound_of f) plus bound_appends (λ q m. refl) p [] ∙ append-nil _
      ∙ punctuated_same (λ x. bound_own (bound_of f x) []) (bound_printed toks) plus bound_print p

  -- ---- each kind of type

  pub type_path_print : (x : TypePathOf T) → type_own (type_path_of f x) [] ≡ type_path_printed toks x
  type_path_print x = qpath_print x.qself x.path

  pub type_macro_print : (x : TypeMacroOf T) → type_own (type_macro_of f x) [] ≡ macro_printed toks x.mac
  type_macro_print x = macro_print x.mac

  pub reference_print : (x : TypeReferenceOf T) → type_own (reference_of f x) [] ≡ reference_printed toks x
  reference_print x = ap (λ m. alone 38 ∷ m) (lifetime_some x.lifetime _ ∙ ap (λ m. option_printed (λ a. lifetime_own (lifetime_of a) []) x.lifetime ++ m) (sign_if (ident (codes "mut")) x.mutability _))

  pub ptr_print : (x : TypePtrOf T) → type_own (ptr_of f x) [] ≡ ptr_printed toks x
  ptr_print x = refl

  pub slice_print : (x : TypeSliceOf T) → type_own (slice_of f x) [] ≡ slice_printed toks x
  slice_print x = refl

  pub array_print : (x : TypeArrayOf T) → type_own (array_of f x) [] ≡ array_printed toks x
  array_print x = ap (λ ts. enclosed del.Bracket ts []) (type_append (f x.elem.value) (alone 59 ∷ x.len))

  pub tuple_print : (x : TypeTupleOf T) → type_own (tuple_of f x) [] ≡ tuple_printed toks x
  tuple_print x = ap (λ ts. enclosed del.Parenthesis ts []) (types_print x.elems [] ∙ append-nil (punctuated_printed toks comma x.elems))

  pub paren_print : (x : TypeParenOf T) → type_own (paren_of f x) [] ≡ paren_printed toks x
  paren_print x = refl

  pub impl_trait_print : (x : TypeImplTraitOf T) → type_own (impl_trait_of f x) [] ≡ impl_printed toks x
  impl_trait_print x = ap (λ m. ident (codes "impl") ∷ m) (bounds_print x.bounds)

  pub trait_object_print : (x : TypeTraitObjectOf T) → type_own (trait_object_of f x) [] ≡ object_printed toks x
  trait_object_print x = ap (λ m. ident (codes "dyn") ∷ m) (bounds_print x.bounds)

  -- ---- pointers to functions

  pub arg_print : (x : BareFnArgOf T) → arg_own (arg_of f x) [] ≡ arg_printed toks x
  unfolding option_printed
  arg_print x = by x.name x.ty
    where
      by : {S : Type 0} (n : Option (Text × S)) (x : T) → before_some (mapped (λ q. q.0) n) (λ w l. ident w ∷ alone 58 ∷ l) (toks x) ≡ option_printed (λ q. ident q.0 ∷ alone 58 ∷ []) n ++ toks x
      by None x = refl
      by (Some q) x = refl

  args_print : {S : Type 0} (p : Punctuated (BareFnArgOf T) S) → args_own (t.args_of (map (arg_of f) (values p))) (trails p) [] ≡ punctuated_printed (arg_printed toks) comma p
  args_print p =
      args_listed (map (arg_of f) (values p)) (trails p) [] ∙ listed_own-punctuated arg_own comma_before (arg_of f) comma arg_appends (λ q m. refl) p [] ∙ append-nil _
      ∙ punctuated_same (λ x. arg_own (arg_of f x) []) (arg_printed toks) comma arg_print p

  pub fn_ptr_print : (x : TypeFnPtrOf T) → type_own (fn_ptr_of f x) [] ≡ fn_ptr_printed toks x
  unfolding round_printed
  fn_ptr_print x =
      fn_head x.lifetimes x.unsafety x.abi _ ∙ ap (λ m. fn_head_printed x.lifetimes x.unsafety x.abi ++ m) (
      ap (λ ts. enclosed del.Parenthesis ts (return_own (return_of f x.output) [])) (args_print x.inputs)
      ∙ ap (λ r. enclosed del.Parenthesis (punctuated_printed (arg_printed toks) comma x.inputs) r) (return_print x.output))

-- for a printer of qualified paths
pub ruleset qpaths = (qpath_print)
