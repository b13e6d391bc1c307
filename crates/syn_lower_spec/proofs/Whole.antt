-- The laws of the lower parts.
use Rattle.std.proofs.Common.{◌≡◌, Bool, true, false, not, ◌||◌, List, ◌∷◌, Some, refl, subst}
use Rattle.syn_tokens.specs.Tok.{Tok}
use Rattle.syn_lower_spec.specs.declared.label.PathStyle.{PathStyle}
use Rattle.syn_lower_spec.specs.declared.label.PathStyle.TheVariants as style
use Rattle.syn_lower_spec.specs.Text.{Text, is_segment, stands_alone}
use Rattle.syn_lower_spec.specs.Tree as t
use Rattle.syn_lower_spec.specs.Tree.{SegmentTree, Segments, ReturnTree}
use Rattle.syn_lower_spec.specs.Form.{Form}
use Rattle.syn_lower_spec.specs.Mark.{sign_at, colon2, arrow}
use Rattle.syn_lower_spec.specs.Part.{has_none, macro, path, qpath, output, type, MacroTree}
use Rattle.syn_lower_spec.specs.Own.{alone, enclosed, before_if, colon2_before, segments_own, path_own, qualified_own, macro_own, return_own, count_segments, no_more_segments}
use Rattle.syn_lower_spec.specs.Fits.{goes_over, path_fits, path_stops, qpath_fits, macro_fits, is_macro_delimiter, output_fits, output_stops, segments_fit, segments_stop, arguments_fit, arguments_stop, qself_fits}
use Rattle.syn_lower_spec.specs.Laws.{IsExact, PartsAreExact, PartsAreReadBack}
use Rattle.syn_lower_spec.proofs.Same.{both_true, not_true}
use Rattle.syn_lower_spec.proofs.Forms.{Alike, weaker}
use Rattle.syn_lower_spec.proofs.Parts.{name_alike, lifetime_alike, lit_alike, unsigned_alike, attribute_alike, outer_attributes_alike, inner_attributes_alike, block_alike, lifetimes_alike, macro_alike, whole_path_alike, whole_segment_alike, qpath_alike, arguments_alike, generic_alike, assoc_alike, angle_alike, angle_bracketed_alike, parenthesized_alike, fn_arg_alike, abi_alike, mutability_alike, trait_bound_alike, bounds_alike, bound_alike, output_alike, type_alike, types_alike}
use Rattle.syn_lower_spec.proofs.ReadBack.{name_back, lifetime_back, lit_back, attribute_back, block_back}
use Rattle.syn_lower_spec.proofs.SimpleComplete.{unsigned_back, of_kind_back}
use Rattle.syn_lower_spec.proofs.MoreBack.{abi_back, mutability_back, arguments_again, in_angle_back, in_round_back, angle_back, segment_back, generic_again, assoc_back, arg_back, trait_back, bounds_back}
use Rattle.syn_lower_spec.proofs.LitKinds.{of_kind_alike}
use Rattle.syn_lower_spec.proofs.TypesBack.{lifetimes_back, path_back, qpath_back, type_back, bound_back, group_back}
use Rattle.syn_lower_spec.proofs.Trees.{segments-segments_of}

pub exact : {A : Type 0} (f : Form A) → Alike 0 f f → IsExact f
exact f a l x n = (a.sound l x n, a.complete l x n)

pub parts_exact : PartsAreExact
parts_exact = record {
  names = exact _ name_alike;
  lifetime_names = exact _ lifetime_alike;
  literals = exact _ lit_alike;
  unsigned_literals = exact _ unsigned_alike;
  attribute = exact _ (weaker attribute_alike);
  outer = exact _ outer_attributes_alike;
  inner = exact _ inner_attributes_alike;
  blocks = exact _ block_alike;
  bound_lifetimes = exact _ lifetimes_alike;
  macros = exact _ macro_alike;
  paths = λ s. exact _ (whole_path_alike s);
  qualified_paths = λ s. exact _ (weaker (qpath_alike {k = 0} types_alike s));
  path_segments = λ s. exact _ (whole_segment_alike s);
  segment_arguments = λ s. exact _ (weaker (arguments_alike {k = 0} types_alike s));
  generic_arguments = exact _ (generic_alike {k = 0} types_alike);
  trait_bounds = exact _ (weaker (bound_alike {k = 0} types_alike));
  outputs = λ b. exact _ (weaker (output_alike {k = 0} types_alike b));
  types = λ b. exact _ (type_alike 0 b);
  literals_of_kind = λ k. exact _ (of_kind_alike k);
  angle_bracketed = exact _ (weaker (angle_bracketed_alike {k = 0} types_alike));
  parenthesized = exact _ (weaker (parenthesized_alike {k = 0} types_alike));
  angles = exact _ (weaker (angle_alike {k = 0} types_alike));
  associated_types = exact _ (assoc_alike {k = 0} types_alike);
  fn_args = exact _ (fn_arg_alike {k = 0} types_alike);
  abis = exact _ abi_alike;
  mutabilities = exact _ mutability_alike;
  traits = exact _ (weaker (trait_bound_alike {k = 0} types_alike));
  lists_of_bounds = λ b. exact _ (weaker (bounds_alike {k = 0} types_alike b));
}

-- ---- read back

path_at : (s : PathStyle) (l e : Bool) (xs : List SegmentTree) (r : List Tok) → path_fits s (record { leading = l; segments = xs; trailing = e }) ≡ true → path_stops s (record { leading = l; segments = xs; trailing = e }) r ≡ true
    → (path type s).behind (record { leading = l; segments = xs; trailing = e }) (path_own (record { leading = l; segments = xs; trailing = e }) r) ≡ Some r
path_at s l true xs r f c = absurd cc
path_at s l false xs r f c =
    let (g, h) = both_true (not (no_more_segments (t.segments_of xs))) _ f in
    let (i, j) = both_true (segments_stop s (t.segments_of xs) r) (not (colon2.at r)) c in
    subst (λ ys. (path type s).behind (record { leading = l; segments = ys; trailing = false }) (before_if l colon2_before (segments_own 0 (t.segments_of xs) false r)) ≡ Some r) (segments-segments_of xs)
    (path_back s l (t.segments_of xs) r (not_true (no_more_segments (t.segments_of xs)) g) h i (not_true (colon2.at r) j))

qpath_at : (s : PathStyle) (q : t.QSelfTree) (l e : Bool) (xs : List SegmentTree) (r : List Tok) → qpath_fits s (q, record { leading = l; segments = xs; trailing = e }) ≡ true → path_stops s (record { leading = l; segments = xs; trailing = e }) r ≡ true
    → (qpath type s).behind (q, record { leading = l; segments = xs; trailing = e }) (qualified_own (q, record { leading = l; segments = xs; trailing = e }) r) ≡ Some r
qpath_at s q l true xs r f c = absurd cc
qpath_at s q l false xs r f c =
    let (g, h) = both_true (not (no_more_segments (t.segments_of xs))) _ f in
    let (k, m) = both_true (qself_fits q l (count_segments (t.segments_of xs))) _ h in
    let (i, j) = both_true (segments_stop s (t.segments_of xs) r) (not (colon2.at r)) c in
    subst (λ ys. (qpath type s).behind (q, record { leading = l; segments = ys; trailing = false }) (qualified_own (q, record { leading = l; segments = xs; trailing = false }) r) ≡ Some r) (segments-segments_of xs)
    (qpath_back s q l (t.segments_of xs) r (not_true (no_more_segments (t.segments_of xs)) g) k m i (not_true (colon2.at r) j))

-- no segment of a macro's path has arguments, so each stops at `!`
mod_arguments : (w : Text) (a : t.ArgumentsTree) (r : List Tok) → arguments_fit style.Mod a ≡ true → arguments_stop style.Mod w a r ≡ true
mod_arguments w t.no_arguments r f = refl
mod_arguments w (t.angle c gs e) r f = refl
mod_arguments w (t.round xs e o) r f = let d : false ≡ true = f in absurd cc

mod_stops : (ss : Segments) (r : List Tok) → segments_fit 0 style.Mod ss ≡ true → segments_stop style.Mod ss r ≡ true
mod_stops t.no_segments r f = refl
mod_stops (t.more_segments w a t.no_segments) r f =
    let (g, h) = both_true (is_segment w) _ f in
    let (i, j) = both_true (not (stands_alone w) || has_none a) _ h in
    let (k, m) = both_true (arguments_fit style.Mod a) _ j in
    mod_arguments w a r k
mod_stops (t.more_segments w a (t.more_segments v d ss)) r f =
    let (g, h) = both_true (is_segment w) _ f in
    let (i, j) = both_true (not (stands_alone w) || has_none a) _ h in
    let (k, m) = both_true (arguments_fit style.Mod a) _ j in
    let (n, o) = both_true (goes_over 0 style.Mod w a (t.more_segments v d ss)) _ m in
    mod_stops (t.more_segments v d ss) r o

bang_no_colon2 : (l : List Tok) → not (colon2.at (alone 33 ∷ l)) ≡ true
unfolding sign_at
bang_no_colon2 l = refl

macro_back : (m : MacroTree) (r : List Tok) → macro_fits m ≡ true → macro.behind m (macro_own m r) ≡ Some r
unfolding macro sign_at
macro_back m r f =
    let (g, h) = both_true (path_fits style.Mod m.path) (is_macro_delimiter m.delimiter) f in
    let (i, j) = both_true (not m.path.trailing) _ g in
    let (k, n) = both_true (not (no_more_segments (t.segments_of m.path.segments))) _ j in
    let after = alone 33 ∷ enclosed m.delimiter m.tokens r in
    let stops : path_stops style.Mod m.path after ≡ true = rw (mod_stops (t.segments_of m.path.segments) after n) (bang_no_colon2 (enclosed m.delimiter m.tokens r)) in
    rw (path_at style.Mod m.path.leading m.path.trailing m.path.segments after g stops) (group_back m.delimiter m.tokens r h)

output_back : (b : Bool) (o : ReturnTree) (r : List Tok) → output_fits b o ≡ true → output_stops b o r ≡ true → (output type b).behind o (return_own o r) ≡ Some r
unfolding output sign_at
output_back b t.default r f c = rw (not_true (arrow.at r) c) refl
output_back b (t.given x) r f c = type_back b x r f c

pub parts_read_back : PartsAreReadBack
parts_read_back = record {
  names = name_back;
  lifetime_names = lifetime_back;
  literals = lit_back;
  attributes = attribute_back;
  blocks = block_back;
  bound_lifetimes = lifetimes_back;
  macros = macro_back;
  paths = λ s p r f c. path_at s p.leading p.trailing p.segments r f c;
  qualified_paths = λ s q r f c. qpath_at s q.0 q.1.leading q.1.trailing q.1.segments r f c;
  trait_bounds = bound_back;
  outputs = output_back;
  types = type_back;
  unsigned_literals = unsigned_back;
  literals_of_kind = of_kind_back;
  path_segments = segment_back;
  segment_arguments = arguments_again;
  angle_bracketed = in_angle_back;
  parenthesized = in_round_back;
  angles = angle_back;
  generic_arguments = generic_again;
  associated_types = assoc_back;
  fn_args = arg_back;
  abis = abi_back;
  mutabilities = mutability_back;
  traits = trait_back;
  lists_of_bounds = λ b p. bounds_back b p.0 p.1;
}
