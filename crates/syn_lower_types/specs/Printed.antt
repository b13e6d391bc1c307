-- What is printed of the parts that hold others, by what is printed of these.
use Rattle.std.specs.Prelude.{ℕ, ◌-◌, ◌==◌, if◌then◌else◌, length, List, [], ◌∷◌, ◌++◌, codes, Option, Some, None}
use Rattle.std.specs.declared.boxed.Box.{Box}
use Rattle.std.specs.declared.alloc.Global.{Global}
use Rattle.syn_lexer.specs.declared.front.Delimiter.{Delimiter}
use Rattle.syn_lexer.specs.declared.front.Delimiter.TheVariants as del
use Rattle.syn_tokens.specs.Tok.{Tok, ident, group, inside}
use Rattle.syn_lower_spec.specs.Own.{alone, joint, at_most, lifetime_own, lifetimes_own, extern_own, mutability_own}
pub use Rattle.syn_lower_leaves.specs.Printed.{pairs_printed, comma, colon2, plus, word, mutability_printed}
unfoldable pub use Rattle.syn_lower_leaves.specs.Printed.{option_printed, punctuated_printed}
use Rattle.syn_lower_types.specs.View.{values, lifetime_of, lifetimes_of, abi_of, is_mut, delimiter_of}
use Rattle.syn_lower_leaves.specs.declared.ty.Abi.{Abi}
use Rattle.syn_lower_leaves.specs.declared.ty.BoundLifetimes.{BoundLifetimes}
use Rattle.syn_lower_types.specs.declared.ty.ReturnTypeOf.{ReturnTypeOf}
use Rattle.syn_lower_types.specs.declared.ty.ReturnTypeOf.TheVariants as output
use Rattle.syn_lower_types.specs.declared.ty.TypeParamBoundOf.{TypeParamBoundOf}
use Rattle.syn_lower_types.specs.declared.ty.TypeParamBoundOf.TheVariants as bound
use Rattle.syn_lower_types.specs.declared.ty.TypePathOf.{TypePathOf}
use Rattle.syn_lower_types.specs.declared.ty.TypeFnPtrOf.{TypeFnPtrOf}
use Rattle.syn_lower_types.specs.declared.path.QSelfOf.{QSelfOf}
use Rattle.syn_lower_leaves.specs.declared.punctuated.Punctuated.{Punctuated}
use Rattle.syn_lower_types.specs.declared.mac.MacroOf.{MacroOf}
use Rattle.syn_lower_types.specs.declared.path.PathOf.{PathOf}
use Rattle.syn_lower_types.specs.declared.path.PathSegmentOf.{PathSegmentOf}
use Rattle.syn_lower_types.specs.declared.path.AngleBracketedGenericArgumentsOf.{AngleBracketedGenericArgumentsOf}
use Rattle.syn_lower_types.specs.declared.path.AssocTypeOf.{AssocTypeOf}
use Rattle.syn_lower_types.specs.declared.path.GenericArgumentOf.{GenericArgumentOf}
use Rattle.syn_lower_types.specs.declared.path.GenericArgumentOf.TheVariants as generic
use Rattle.syn_lower_types.specs.declared.path.PathArgumentsOf.{PathArgumentsOf}
use Rattle.syn_lower_types.specs.declared.path.PathArgumentsOf.TheVariants as arguments
use Rattle.syn_lower_types.specs.declared.path.ParenthesizedGenericArgumentsOf.{ParenthesizedGenericArgumentsOf}
use Rattle.syn_lower_types.specs.declared.ty.TypeReferenceOf.{TypeReferenceOf}
use Rattle.syn_lower_types.specs.declared.ty.TypePtrOf.{TypePtrOf}
use Rattle.syn_lower_types.specs.declared.ty.TypeSliceOf.{TypeSliceOf}
use Rattle.syn_lower_types.specs.declared.ty.TypeArrayOf.{TypeArrayOf}
use Rattle.syn_lower_types.specs.declared.ty.TypeTupleOf.{TypeTupleOf}
use Rattle.syn_lower_types.specs.declared.ty.TypeParenOf.{TypeParenOf}
use Rattle.syn_lower_types.specs.declared.ty.TypeImplTraitOf.{TypeImplTraitOf}
use Rattle.syn_lower_types.specs.declared.ty.TypeTraitObjectOf.{TypeTraitObjectOf}
use Rattle.syn_lower_types.specs.declared.ty.BareFnArgOf.{BareFnArgOf}
use Rattle.syn_lower_types.specs.declared.ty.TraitBoundOf.{TraitBoundOf}

abbrev pub grouped : Delimiter → List Tok → List Tok
grouped d ts = group d (inside ts) ∷ []

-- ---- types in brackets and after words

abbrev pub return_printed : {T : Type 0} → (T → List Tok) → ReturnTypeOf T → List Tok
return_printed f output.Default = []
return_printed f (output.Given a b) = joint 45 ∷ alone 62 ∷ f b.value

abbrev pub assoc_printed : {T : Type 0} → (T → List Tok) → AssocTypeOf T → List Tok
assoc_printed f x = ident x.ident ∷ alone 61 ∷ f x.ty

abbrev pub generic_printed : {T : Type 0} → (T → List Tok) → GenericArgumentOf T → List Tok
generic_printed f (generic.Lifetime x) = lifetime_own (lifetime_of x) []
generic_printed f (generic.Const x) = x
generic_printed f (generic.AssocType x) = assoc_printed f x
generic_printed f (generic.Ty x) = f x

abbrev pub angle_printed : {T : Type 0} → (T → List Tok) → AngleBracketedGenericArgumentsOf T → List Tok
angle_printed f x = option_printed colon2 x.colon2_token ++ alone 60 ∷ (punctuated_printed (generic_printed f) comma x.args ++ alone 62 ∷ [])

-- values in parentheses, and what follows them
unfoldable pub round_printed : {T R S : Type 0} → (T → List Tok) → (R → List Tok) → Punctuated T S → R → List Tok
round_printed f g inputs output = grouped del.Parenthesis (punctuated_printed f comma inputs) ++ g output

abbrev pub parenthesized_printed : {T : Type 0} → (T → List Tok) → ParenthesizedGenericArgumentsOf T → List Tok
parenthesized_printed f x = round_printed f (return_printed f) x.inputs x.output

abbrev pub arguments_printed : {T : Type 0} → (T → List Tok) → PathArgumentsOf T → List Tok
arguments_printed f arguments.None = []
arguments_printed f (arguments.AngleBracketed x) = angle_printed f x
arguments_printed f (arguments.Parenthesized x) = parenthesized_printed f x

-- ---- paths

abbrev pub segment_printed : {T : Type 0} → (T → List Tok) → PathSegmentOf T → List Tok
segment_printed f x = ident x.ident ∷ arguments_printed f x.arguments

abbrev pub path_printed : {T : Type 0} → (T → List Tok) → PathOf T → List Tok
path_printed f x = option_printed colon2 x.leading_colon ++ punctuated_printed (segment_printed f) colon2 x.segments

abbrev pub macro_printed : {T : Type 0} → (T → List Tok) → MacroOf T → List Tok
macro_printed f x = path_printed f x.path ++ alone 33 ∷ grouped (delimiter_of x.delimiter) x.tokens

-- ---- qualified paths

abbrev pub closed_printed : ℕ → List Tok
closed_printed n = if n == 1 then alone 62 ∷ [] else []

-- `>` after the last of the n segments that are inside
abbrev pub inside_printed : {A P : Type 0} → (A → List Tok) → ℕ → List (A × P) → Option (Box A Global) → List Tok
inside_printed f n [] None = []
inside_printed f n [] (Some b) = f b.value ++ closed_printed n
inside_printed f n (q ∷ qs) o = f q.0 ++ (closed_printed n ++ (colon2 q.1 ++ inside_printed f (n - 1) qs o))

-- `>` at once where none are inside, else `as`
abbrev pub qself_end_printed : ℕ → List Tok
qself_end_printed n = if n == 0 then alone 62 ∷ [] else ident (codes "as") ∷ []

abbrev pub qualified_printed : {T : Type 0} → (T → List Tok) → QSelfOf T → PathOf T → ℕ → List Tok
qualified_printed f q p n =
    alone 60 ∷ (f q.ty.value ++ (qself_end_printed n ++ (option_printed colon2 p.leading_colon ++ inside_printed (segment_printed f) n p.segments.inner.items p.segments.last)))

abbrev pub qpath_printed : {T : Type 0} → (T → List Tok) → Option (QSelfOf T) → PathOf T → List Tok
qpath_printed f None p = path_printed f p
qpath_printed f (Some q) p = qualified_printed f q p (at_most q.position (length (values p.segments)))

-- ---- bounds

abbrev pub trait_printed : {T : Type 0} → (T → List Tok) → TraitBoundOf T → List Tok
trait_printed f x =
    option_printed (λ q. alone 63 ∷ []) x.maybe ++ (option_printed (λ l. lifetimes_own (lifetimes_of l) []) x.lifetimes ++ path_printed f x.path)

abbrev pub bound_printed : {T : Type 0} → (T → List Tok) → TypeParamBoundOf T → List Tok
bound_printed f (bound.Lifetime x) = lifetime_own (lifetime_of x) []
bound_printed f (bound.Trait x) = trait_printed f x

-- ---- types

abbrev pub type_path_printed : {T : Type 0} → (T → List Tok) → TypePathOf T → List Tok
type_path_printed f x = qpath_printed f x.qself x.path

abbrev pub reference_printed : {T : Type 0} → (T → List Tok) → TypeReferenceOf T → List Tok
reference_printed f x =
    alone 38 ∷ (option_printed (λ a. lifetime_own (lifetime_of a) []) x.lifetime ++ (option_printed (word (codes "mut")) x.mutability ++ f x.elem.value))

abbrev pub ptr_printed : {T : Type 0} → (T → List Tok) → TypePtrOf T → List Tok
ptr_printed f x = alone 42 ∷ mutability_own (is_mut x.mutability) (f x.elem.value)

abbrev pub slice_printed : {T : Type 0} → (T → List Tok) → TypeSliceOf T → List Tok
slice_printed f x = grouped del.Bracket (f x.elem.value)

abbrev pub array_printed : {T : Type 0} → (T → List Tok) → TypeArrayOf T → List Tok
array_printed f x = grouped del.Bracket (f x.elem.value ++ alone 59 ∷ x.len)

abbrev pub tuple_printed : {T : Type 0} → (T → List Tok) → TypeTupleOf T → List Tok
tuple_printed f x = grouped del.Parenthesis (punctuated_printed f comma x.elems)

abbrev pub paren_printed : {T : Type 0} → (T → List Tok) → TypeParenOf T → List Tok
paren_printed f x = grouped del.Parenthesis (f x.elem.value)

abbrev pub impl_printed : {T : Type 0} → (T → List Tok) → TypeImplTraitOf T → List Tok
impl_printed f x = ident (codes "impl") ∷ punctuated_printed (bound_printed f) plus x.bounds

abbrev pub object_printed : {T : Type 0} → (T → List Tok) → TypeTraitObjectOf T → List Tok
object_printed f x = ident (codes "dyn") ∷ punctuated_printed (bound_printed f) plus x.bounds

abbrev pub arg_printed : {T : Type 0} → (T → List Tok) → BareFnArgOf T → List Tok
arg_printed f x = option_printed (λ n. ident n.0 ∷ alone 58 ∷ []) x.name ++ f x.ty

unfoldable pub fn_head_printed : {S : Type 0} → Option BoundLifetimes → Option S → Option Abi → List Tok
fn_head_printed l u a =
    option_printed (λ l. lifetimes_own (lifetimes_of l) []) l ++ (option_printed (word (codes "unsafe")) u ++ (option_printed (λ a. extern_own (abi_of a) []) a ++ ident (codes "fn") ∷ []))

abbrev pub fn_ptr_printed : {T : Type 0} → (T → List Tok) → TypeFnPtrOf T → List Tok
fn_ptr_printed f x = fn_head_printed x.lifetimes x.unsafety x.abi ++ round_printed (arg_printed f) (return_printed f) x.inputs x.output
