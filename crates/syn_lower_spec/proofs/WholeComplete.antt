-- What is read back passes its test.
use Rattle.std.proofs.Common.{◌≡◌, Bool, true, false, List, [], ◌∷◌, Some, refl, sym, ◌∙◌}
use Rattle.syn_tokens.specs.Tok.{Tok}
use Rattle.syn_lower_spec.specs.declared.label.PathStyle.{PathStyle}
use Rattle.syn_lower_spec.specs.declared.label.PathStyle.TheVariants as style
use Rattle.syn_lower_spec.specs.Text.{Text}
use Rattle.syn_lower_spec.specs.Tree as t
use Rattle.syn_lower_spec.specs.Tree.{TypeTree, QSelfTree, SegmentTree, ArgumentsTree, GenericTree, ReturnTree, BoundTree}
use Rattle.syn_lower_spec.specs.Form.{mark}
use Rattle.syn_lower_spec.specs.Mark.{sign_at, not_ne}
use Rattle.syn_lower_spec.specs.Part.{path, qpath, segment, trait_bound, bounds, assoc, angle, angle_bracketed, parenthesized, output, macro, type, any_group, MacroTree}
use Rattle.syn_lower_spec.specs.Own.{alone, enclosed, type_own, types_own, return_own, generics_own, arguments_own, assoc_own, angle_own, bound_own, bounds_list_own, segment_own, path_own, qualified_own, macro_own}
use Rattle.syn_lower_spec.specs.Fits.{path_fits, path_stops, qpath_fits, macro_fits, assoc_fits, angle_fits, in_angle_fits, in_round_fits, after_name_stops, segment_fits, segment_stops, output_fits, output_stops, trait_fits, bounds_list_fits, bounds_list_stops, bound_stops, type_stops}
use Rattle.syn_lower_spec.specs.Laws.{Fitted, PartsThatAreReadBackFit}
use Rattle.syn_lower_spec.proofs.Weights.{some_is}
use Rattle.syn_lower_spec.proofs.TypesBack.{group_back}
use Rattle.syn_lower_spec.proofs.Complete.{after}
use Rattle.syn_lower_spec.proofs.SimpleComplete.{name_complete, lit_complete, unsigned_complete, of_kind_complete, lifetimes_complete, abi_complete, group_complete}
use Rattle.syn_lower_spec.proofs.TypesComplete.{type_complete, types_complete, generics_complete, arg_complete, generic_complete, segments_complete, arguments_complete, return_complete, bound_complete, bounds_complete, bounds_tells, segment_tells, assoc_tells, in_angle_tells, round_tells, generics_listed, types_listed, default_tells, given_tells, path_tells, bare_tells, qself_tells, trait_tells}
use Rattle.syn_lower_spec.proofs.Trees.{bounds-bounds_of, generics-generics_of, segments-segments_of}

path_complete : (s : PathStyle) (l e : Bool) (xs : List SegmentTree) (r n : List Tok) → (path type s).behind (record { leading = l; segments = xs; trailing = e }) (path_own (record { leading = l; segments = xs; trailing = e }) r) ≡ Some n
    → Fitted (path_fits s (record { leading = l; segments = xs; trailing = e })) (path_stops s (record { leading = l; segments = xs; trailing = e }) r) r n
path_complete s l e xs r n h =
    let i : (path type s).behind (record { leading = l; segments = t.segments (t.segments_of xs); trailing = e }) (path_own (record { leading = l; segments = xs; trailing = e }) r) ≡ Some n = rw (segments-segments_of xs) h in
    path_tells s l (t.segments_of xs) e r n (segments_complete s (t.segments_of xs)) i

qpath_complete : (s : PathStyle) (q : QSelfTree) (l e : Bool) (xs : List SegmentTree) (r n : List Tok) → (qpath type s).behind (q, record { leading = l; segments = xs; trailing = e }) (qualified_own (q, record { leading = l; segments = xs; trailing = e }) r) ≡ Some n
    → Fitted (qpath_fits s (q, record { leading = l; segments = xs; trailing = e })) (path_stops s (record { leading = l; segments = xs; trailing = e }) r) r n
qpath_complete s t.no_qself l e xs r n h = path_complete s l e xs r n (bare_tells s (record { leading = l; segments = xs; trailing = e }) _ n h)
qpath_complete s (t.qself x k a) l e xs r n h =
    let ss = t.segments_of xs in
    let i : (qpath type s).behind (t.qself x k a, record { leading = l; segments = t.segments ss; trailing = e }) (qualified_own (t.qself x k a, record { leading = l; segments = xs; trailing = e }) r) ≡ Some n = rw (segments-segments_of xs) h in
    qself_tells s x ss (λ o p w. type_complete true x o p w) (segments_complete style.Type ss) (segments_complete s ss) k a l e r n i

macro_complete : (m : MacroTree) (r n : List Tok) → macro.behind m (macro_own m r) ≡ Some n → Fitted (macro_fits m) true r n
unfolding macro sign_at
macro_complete m r n h =
    let k = alone 33 ∷ enclosed m.delimiter m.tokens r in
    let (i, j) = after (path type style.Mod) (λ y. mark not_ne any_group) m.path (m.delimiter, m.tokens) (path_own m.path k) k n (λ o d. let q = path_complete style.Mod m.path.leading m.path.trailing m.path.segments k o d in q.same) h in
    let q = path_complete style.Mod m.path.leading m.path.trailing m.path.segments k k i in
    let g = group_complete m.delimiter m.tokens r n j in
    record { passes = rw q.passes g; ends = refl; same = some_is (sym j ∙ group_back m.delimiter m.tokens r g) }

segment_complete : (s : PathStyle) (x : SegmentTree) (r n : List Tok) → (segment type s).behind x (segment_own x r) ≡ Some n → Fitted (segment_fits s x) (segment_stops s x r) r n
segment_complete s x r n h = segment_tells s x.ident x.arguments r n (λ m d. arguments_complete s x.arguments r m d) h

in_angle_complete : (a : ArgumentsTree) (r n : List Tok) → (angle_bracketed type).behind a (arguments_own a r) ≡ Some n → Fitted (in_angle_fits a) true r n
unfolding angle_bracketed
in_angle_complete t.no_arguments r n h = absurd cc
in_angle_complete (t.round xs e o) r n h = absurd cc
in_angle_complete (t.angle c gs e) r n h =
    let l = generics_own gs e (alone 62 ∷ r) in
    let (j, d) = in_angle_tells c gs e l r n (λ m g. let (u, v, w) = generics_listed gs e (alone 62 ∷ r) m (generics_complete gs) g in w) h in
    let (u, v, w) = generics_listed gs e (alone 62 ∷ r) (alone 62 ∷ r) (generics_complete gs) j in
    record { passes = rw u v; ends = refl; same = d }

in_round_complete : (a : ArgumentsTree) (r n : List Tok) → (parenthesized type).behind a (arguments_own a r) ≡ Some n → Fitted (in_round_fits a) (after_name_stops style.Type a r) r n
unfolding parenthesized
in_round_complete t.no_arguments r n h = absurd cc
in_round_complete (t.angle c gs e) r n h = absurd cc
in_round_complete (t.round xs e o) r n h =
    let (j, d) = round_tells xs e o (types_own xs e []) (return_own o r) n h in
    let (u, v) = types_listed xs e [] (types_complete xs) j in
    let q = return_complete o r n d in
    record { passes = rw (u, v) q.passes; ends = q.ends; same = q.same }

angle_complete : (p : List GenericTree × Bool) (r n : List Tok) → (angle type).behind p (angle_own p r) ≡ Some n → Fitted (angle_fits p) true r n
unfolding angle_bracketed sign_at
angle_complete (gs, e) r n h =
    let i : (angle type).behind (t.generics (t.generics_of gs), e) (angle_own (gs, e) r) ≡ Some n = rw (generics-generics_of gs) h in
    in_angle_complete (t.angle false (t.generics_of gs) e) r n i

assoc_complete : (p : Text × TypeTree) (r n : List Tok) → (assoc type).behind p (assoc_own p r) ≡ Some n → Fitted (assoc_fits p) (type_stops true p.1 r) r n
assoc_complete (w, x) r n h =
    let (a, i) = assoc_tells w x (type_own x r) n h in
    let q = type_complete true x r n i in
    record { passes = rw a q.passes; ends = q.ends; same = q.same }

trait_complete : (b : BoundTree) (r n : List Tok) → (trait_bound type).behind b (bound_own b r) ≡ Some n → Fitted (trait_fits b) (bound_stops b r) r n
trait_complete (t.outlives w) r n h = absurd cc
trait_complete (t.a_trait q f d ss e) r n h = trait_tells q f d ss e r n (segments_complete style.Type ss) h

bounds_list_complete : (b : Bool) (xs : List BoundTree) (e : Bool) (r n : List Tok) → (bounds type b).behind (xs, e) (bounds_list_own (xs, e) r) ≡ Some n → Fitted (bounds_list_fits b (xs, e)) (bounds_list_stops b (xs, e) r) r n
bounds_list_complete b xs e r n h =
    let i : (bounds type b).behind (t.bounds (t.bounds_of xs), e) (bounds_list_own (xs, e) r) ≡ Some n = rw (bounds-bounds_of xs) h in
    bounds_tells b (t.bounds_of xs) e r n (bounds_complete (t.bounds_of xs)) i

output_complete : (b : Bool) (o : ReturnTree) (r n : List Tok) → (output type b).behind o (return_own o r) ≡ Some n → Fitted (output_fits b o) (output_stops b o r) r n
output_complete b t.default r n h = let (a, c) = default_tells b r n h in record { passes = refl; ends = a; same = c }
output_complete b (t.given x) r n h = type_complete b x r n (given_tells b x (type_own x r) n h)

pub parts_complete : PartsThatAreReadBackFit
parts_complete = record {
  names = name_complete;
  literals = lit_complete;
  unsigned_literals = unsigned_complete;
  literals_of_kind = of_kind_complete;
  bound_lifetimes = lifetimes_complete;
  macros = macro_complete;
  paths = λ s p. path_complete s p.leading p.trailing p.segments;
  qualified_paths = λ s q. qpath_complete s q.0 q.1.leading q.1.trailing q.1.segments;
  path_segments = segment_complete;
  segment_arguments = arguments_complete;
  angle_bracketed = in_angle_complete;
  parenthesized = in_round_complete;
  angles = angle_complete;
  generic_arguments = generic_complete;
  associated_types = assoc_complete;
  fn_args = λ x. arg_complete x.name x.ty;
  abis = abi_complete;
  trait_bounds = bound_complete;
  traits = trait_complete;
  lists_of_bounds = λ b p. bounds_list_complete b p.0 p.1;
  outputs = output_complete;
  types = type_complete;
}
