-- Before nothing, a part is read back exactly where it passes its test.
use Rattle.std.proofs.Common.{◌≡◌, Bool, true, not, List, [], Option, Some, None, refl}
use Rattle.std.proofs.Math.Bool.{and-false}
use Rattle.syn_lexer.specs.Keywords.{is_reserved_word}
use Rattle.syn_tokens.specs.Tok.{Tok}
use Rattle.syn_lower_spec.specs.declared.label.PathStyle.{PathStyle}
use Rattle.syn_lower_spec.specs.declared.label.PathStyle.TheVariants as style
use Rattle.syn_lower_spec.specs.Text.{Text}
use Rattle.syn_lower_spec.specs.Tree as t
use Rattle.syn_lower_spec.specs.Tree.{LitTree, TypeTree, PathTree, ArgumentsTree, GenericTree, ReturnTree}
use Rattle.syn_lower_spec.specs.Form.{Form, Test}
use Rattle.syn_lower_spec.specs.Mark.{sign_at, round_at}
use Rattle.syn_lower_spec.specs.Part.{string_at, is_arg_name, angle_at, turbofish_at, name, lit, unsigned, lifetimes, macro, path, qpath, segment, arguments, angle_bracketed, parenthesized, angle, generic, assoc, fn_arg, abi, bound, trait_bound, bounds, output, type}
use Rattle.syn_lower_spec.specs.Kind.{of_kind}
use Rattle.syn_lower_spec.specs.Own.{word_own, lit_own, lifetimes_own, macro_own, path_own, qualified_own, segment_own, arguments_own, angle_own, generic_own, assoc_own, arg_own, extern_own, bound_own, bounds_list_own, return_own, type_own}
use Rattle.syn_tokens.specs.Front.{group_at}
use Rattle.syn_lower_spec.specs.Fits.{is_word, after_name_stops, abi_stops, generic_stops, arg_stops_by, path_stops, output_stops, type_stops}
use Rattle.syn_lower_spec.specs.Laws.{FitsWhereReadBack, IsTestOf, PartsAreReadBack, PartsThatAreReadBackFit, TestsAreExact}
use Rattle.syn_lower_spec.proofs.Behind.{nil_calm, type_calm, segments_calm, arguments_calm, return_calm, bound_calm}
use Rattle.syn_lower_spec.proofs.Whole.{parts_read_back}
use Rattle.syn_lower_spec.proofs.WholeComplete.{parts_complete}

pub exact : {A : Type 0} (f : Form A) (own : A → List Tok → List Tok) (fits : A → Bool) (stops : A → Test) → FitsWhereReadBack f own fits stops
    → ((x : A) (r : List Tok) → fits x ≡ true → stops x r ≡ true → f.behind x (own x r) ≡ Some r) → ((x : A) → stops x [] ≡ true) → IsTestOf f own fits
exact f own fits stops complete back none x = ((λ h. let q = complete x [] [] h in q.passes), (λ h. back x [] h (none x)))

back : PartsAreReadBack
back = parts_read_back

complete : PartsThatAreReadBackFit
complete = parts_complete

pub type_none : (b : Bool) (x : TypeTree) → type_stops b x [] ≡ true
unfolding sign_at
type_none b x = type_calm [] nil_calm b x (and-false b)

path_none : (s : PathStyle) (p : PathTree) → path_stops s p [] ≡ true
unfolding sign_at
path_none s p = rw (segments_calm [] nil_calm s (t.segments_of p.segments)) refl

after_name_none : (s : PathStyle) (a : ArgumentsTree) → after_name_stops s a [] ≡ true
unfolding angle_at turbofish_at round_at sign_at group_at
after_name_none style.Mod t.no_arguments = refl
after_name_none s (t.round xs e o) = return_calm [] nil_calm o
after_name_none _ _ = refl

generic_none : (g : GenericTree) → generic_stops g [] ≡ true
unfolding sign_at
generic_none (t.a_lifetime w) = refl
generic_none (t.a_const ts) = refl
generic_none (t.an_assoc w x) = type_none true x
generic_none (t.a_type x) = rw (type_none true x, and-false (is_word (λ w. not (is_reserved_word w)) x)) refl

arg_none : (w : Option Text) (x : TypeTree) → arg_stops_by w x [] ≡ true
unfolding sign_at
arg_none (Some w) x = type_none true x
arg_none None x = rw (type_none true x, and-false (is_word is_arg_name x)) refl

abi_none : (o : Option LitTree) → abi_stops o [] ≡ true
unfolding string_at
abi_none None = refl
abi_none (Some x) = refl

output_none : (b : Bool) (o : ReturnTree) → output_stops b o [] ≡ true
unfolding sign_at
output_none b t.default = refl
output_none b (t.given x) = type_none b x

pub tests_exact : TestsAreExact
tests_exact = record {
  names = exact name word_own _ _ complete.names (λ x r f c. back.names x r f) (λ x. refl);
  literals = exact lit lit_own _ _ complete.literals (λ x r f c. back.literals x r f) (λ x. refl);
  unsigned_literals = exact unsigned lit_own _ _ complete.unsigned_literals (λ x r f c. back.unsigned_literals x r f) (λ x. refl);
  literals_of_kind = λ k. exact (of_kind k) lit_own _ _ (complete.literals_of_kind k) (λ x r f c. back.literals_of_kind k x r f) (λ x. refl);
  bound_lifetimes = exact lifetimes lifetimes_own _ _ complete.bound_lifetimes (λ x r f c. back.bound_lifetimes x r f) (λ x. refl);
  macros = exact macro macro_own _ _ complete.macros (λ x r f c. back.macros x r f) (λ x. refl);
  paths = λ s. exact (path type s) path_own _ _ (complete.paths s) (back.paths s) (path_none s);
  qualified_paths = λ s. exact (qpath type s) qualified_own _ _ (complete.qualified_paths s) (back.qualified_paths s) (λ q. path_none s q.1);
  path_segments = λ s. exact (segment type s) segment_own _ _ (complete.path_segments s) (back.path_segments s) (λ x. arguments_calm [] nil_calm s x.ident x.arguments);
  segment_arguments = λ s. exact (arguments type s) arguments_own _ _ (complete.segment_arguments s) (back.segment_arguments s) (after_name_none s);
  angle_bracketed = exact (angle_bracketed type) arguments_own _ _ complete.angle_bracketed (λ x r f c. back.angle_bracketed x r f) (λ x. refl);
  parenthesized = exact (parenthesized type) arguments_own _ _ complete.parenthesized back.parenthesized (after_name_none style.Type);
  angles = exact (angle type) angle_own _ _ complete.angles (λ x r f c. back.angles x r f) (λ x. refl);
  generic_arguments = exact (generic type) generic_own _ _ complete.generic_arguments back.generic_arguments generic_none;
  associated_types = exact (assoc type) assoc_own _ _ complete.associated_types back.associated_types (λ p. type_none true p.1);
  fn_args = exact (fn_arg type) arg_own _ _ complete.fn_args back.fn_args (λ x. arg_none x.name x.ty);
  abis = exact abi extern_own _ _ complete.abis back.abis abi_none;
  trait_bounds = exact (bound type) bound_own _ _ complete.trait_bounds back.trait_bounds (bound_calm [] nil_calm);
  traits = exact (trait_bound type) bound_own _ _ complete.traits back.traits (bound_calm [] nil_calm);
  lists_of_bounds = λ b. exact (bounds type b) bounds_list_own _ _ (complete.lists_of_bounds b) (back.lists_of_bounds b) (λ p. type_none b (t.impl_trait (t.bounds_of p.0) p.1));
  outputs = λ b. exact (output type b) return_own _ _ (complete.outputs b) (back.outputs b) (output_none b);
  types = λ b. exact (type b) type_own _ _ (complete.types b) (back.types b) (type_none b);
}
