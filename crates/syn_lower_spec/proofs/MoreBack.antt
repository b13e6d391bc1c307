-- The parts of paths and of function pointers are read back from their own tokens.
use Rattle.std.proofs.Common.{◌≡◌, Bool, true, false, not, ◌&&◌, ◌||◌, List, [], Option, Some, None, refl, ◌∙◌, subst}
use Rattle.syn_lexer.specs.Keywords.{is_reserved_word}
use Rattle.syn_tokens.specs.Tok.{Tok}
use Rattle.syn_lower_spec.specs.declared.label.PathStyle.{PathStyle}
use Rattle.syn_lower_spec.specs.declared.label.PathStyle.TheVariants as style
use Rattle.syn_lower_spec.specs.Text.{Text, is_segment, stands_alone}
use Rattle.syn_lower_spec.specs.Tree as t
use Rattle.syn_lower_spec.specs.Tree.{LitTree, TypeTree, SegmentTree, FnArgTree, ArgumentsTree, GenericTree, BoundTree}
use Rattle.syn_lower_spec.specs.Mark.{sign_at, word_at, eq, lone_colon}
use Rattle.syn_lower_spec.specs.Part.{string_at, abi, mutability, arg_name_at, assoc_at, is_arg_name, has_none, type, generic, assoc, angle, angle_bracketed, parenthesized, arguments, segment, trait_bound, bounds, fn_arg}
use Rattle.syn_lower_spec.specs.Own.{type_own, generic_own, arguments_own, segment_own, arg_own, assoc_own, angle_own, mutability_own, extern_own, lifetimes_own, bound_own, bounds_own, bounds_list_own}
use Rattle.syn_lower_spec.specs.Fits.{fits_if, is_string, abi_stops, type_fits, type_stops, generic_fits, generic_stops, is_word, arguments_fit, after_name_stops, in_angle_fits, in_round_fits, angle_fits, segment_fits, segment_stops, assoc_fits, arg_fits, arg_stops, bound_stops, trait_fits, bounds_list_fits, bounds_list_stops}
use Rattle.syn_lower_spec.proofs.Same.{both_true, not_true}
use Rattle.syn_lower_spec.proofs.Fronts.{Front, type_begins}
use Rattle.syn_lower_spec.proofs.TypesBack.{string_back, string_seen, segment_step, arguments_back, type_back, bound_back, const_step, a_lifetime_step, assoc_step, named_arg_step}
use Rattle.syn_lower_spec.proofs.TypesComplete.{after_name, angle_only, round_only, assoc_only, trait_only, impl_tells, type_opens}
use Rattle.syn_lower_spec.proofs.Trees.{bounds-bounds_of, generics-generics_of}

pub abi_back : (o : Option LitTree) (r : List Tok) → fits_if is_string o ≡ true → abi_stops o r ≡ true → abi.behind o (extern_own o r) ≡ Some r
unfolding word_at
abi_back None r f s = rw (not_true (string_at r) s) refl
abi_back (Some x) r f s = rw (string_seen x r f) (string_back x r f)

pub mutability_back : (m : Bool) (r : List Tok) → mutability.behind m (mutability_own m r) ≡ Some r
unfolding word_at
mutability_back true r = refl
mutability_back false r = refl

-- ---- arguments and segments

pub arguments_again : (s : PathStyle) (a : ArgumentsTree) (r : List Tok) → arguments_fit s a ≡ true → after_name_stops s a r ≡ true → (arguments type s).behind a (arguments_own a r) ≡ Some r
unfolding stands_alone
arguments_again s a r f c = arguments_back s [] a r refl f (after_name s [] a r c)

pub in_angle_back : (a : ArgumentsTree) (r : List Tok) → in_angle_fits a ≡ true → (angle_bracketed type).behind a (arguments_own a r) ≡ Some r
in_angle_back t.no_arguments r f = absurd cc
in_angle_back (t.round xs e o) r f = absurd cc
in_angle_back (t.angle c gs e) r f = let (a, i) = angle_only style.Type c gs e _ r (arguments_again style.Type (t.angle c gs e) r f refl) in i

pub in_round_back : (a : ArgumentsTree) (r : List Tok) → in_round_fits a ≡ true → after_name_stops style.Type a r ≡ true → (parenthesized type).behind a (arguments_own a r) ≡ Some r
in_round_back t.no_arguments r f c = absurd cc
in_round_back (t.angle d gs e) r f c = absurd cc
in_round_back (t.round xs e o) r f c = let (a, i) = round_only style.Type xs e o _ r (arguments_again style.Type (t.round xs e o) r f c) in i

pub angle_back : (p : List GenericTree × Bool) (r : List Tok) → angle_fits p ≡ true → (angle type).behind p (angle_own p r) ≡ Some r
unfolding angle_bracketed sign_at
angle_back (gs, e) r f =
    let h : (angle type).behind (t.generics (t.generics_of gs), e) (angle_own (gs, e) r) ≡ Some r = in_angle_back (t.angle false (t.generics_of gs) e) r f in
    subst (λ z. (angle type).behind (z, e) (angle_own (gs, e) r) ≡ Some r) (generics-generics_of gs) h

pub segment_back : (s : PathStyle) (x : SegmentTree) (r : List Tok) → segment_fits s x ≡ true → segment_stops s x r ≡ true → (segment type s).behind x (segment_own x r) ≡ Some r
segment_back s x r f c =
    let (g, h) = both_true (is_segment x.ident) _ f in
    let (i, j) = both_true (not (stands_alone x.ident) || has_none x.arguments) _ h in
    let (k, m) = both_true (arguments_fit s x.arguments) _ j in
    segment_step r s x.ident x.arguments g i (λ n. arguments_back s x.ident x.arguments r n k c)

-- ---- generic arguments, and those of function pointers

-- the first two tokens of a type that is no such word are its own
own_front : (x : TypeTree) (r : List Tok) → type_fits true x ≡ true
    → (is_word (λ w. not (is_reserved_word w)) x ≡ false → assoc_at (type_own x r) ≡ assoc_at (type_own x [])) × (is_word is_arg_name x ≡ false → arg_name_at (type_own x r) ≡ arg_name_at (type_own x []))
unfolding assoc_at arg_name_at sign_at is_reserved_word lifetimes_own
own_front (t.path t.no_qself false (t.more_segments w t.no_arguments t.no_segments) false) r f = ((λ e. rw e refl), (λ e. rw e refl))
own_front (t.path t.no_qself false (t.more_segments w (t.angle true gs e) ss) d) r f = ((λ e. refl), (λ e. refl))
own_front (t.path t.no_qself false (t.more_segments w (t.angle false gs e) ss) d) r f = ((λ e. refl), (λ e. refl))
own_front (t.path t.no_qself false t.no_segments true) r f = absurd cc
own_front (t.path t.no_qself false t.no_segments false) r f = absurd cc
own_front (t.mac false (t.more_segments w (t.angle true gs e) ss) d g ts) r f = ((λ e. refl), (λ e. refl))
own_front (t.mac false (t.more_segments w (t.angle false gs e) ss) d g ts) r f = ((λ e. refl), (λ e. refl))
own_front (t.mac false (t.more_segments w t.no_arguments t.no_segments) true g ts) r f = ((λ e. refl), (λ e. refl))
own_front (t.mac false (t.more_segments w t.no_arguments t.no_segments) false g ts) r f = ((λ e. refl), (λ e. refl))
own_front (t.mac true ss d g ts) r f = ((λ e. refl), (λ e. refl))
own_front t.infer r f = ((λ e. refl), (λ e. absurd cc))
own_front (t.fn_ptr (Some p) u a xs e o) r f = ((λ e. refl), (λ e. refl))
own_front (t.fn_ptr None true a xs e o) r f = ((λ e. refl), (λ e. refl))
own_front (t.fn_ptr None false (Some a) xs e o) r f = ((λ e. refl), (λ e. refl))
own_front (t.fn_ptr None false None xs e o) r f = ((λ e. refl), (λ e. refl))
own_front _ r f = ((λ e. refl), (λ e. refl))

-- where such a word ends, the test doesn't see it
unseen : (such : Text → Bool) (at behind : List Tok → Bool) (x : TypeTree) (r : List Tok) → (behind r ≡ false → at (type_own x r) ≡ false) → at (type_own x []) ≡ false → (is_word such x ≡ false → at (type_own x r) ≡ at (type_own x []))
    → not (is_word such x && behind r) ≡ true → at (type_own x r) ≡ false
unseen such at behind x r front none same h = by_word (is_word such x) refl (behind r) refl h
  where
    by_word : (b : Bool) → is_word such x ≡ b → (c : Bool) → behind r ≡ c → not (b && c) ≡ true → at (type_own x r) ≡ false
    by_word true d true e h = absurd cc
    by_word true d false e h = front e
    by_word false d c e h = same d ∙ none

nil_eq : eq.at [] ≡ false
unfolding sign_at
nil_eq = refl

nil_colon : lone_colon.at [] ≡ false
unfolding sign_at
nil_colon = refl

no_assoc : (x : TypeTree) (r : List Tok) → type_fits true x ≡ true → not (is_word (λ w. not (is_reserved_word w)) x && eq.at r) ≡ true → assoc_at (type_own x r) ≡ false
no_assoc x r f h =
    let p = type_begins true x r f in
    let q = type_begins true x [] f in
    let (i, j) = own_front x r f in
    unseen (λ w. not (is_reserved_word w)) assoc_at eq.at x r p.no_assoc (q.no_assoc nil_eq) i h

no_name : (x : TypeTree) (r : List Tok) → type_fits true x ≡ true → not (is_word is_arg_name x && lone_colon.at r) ≡ true → arg_name_at (type_own x r) ≡ false
no_name x r f h =
    let p = type_begins true x r f in
    let q = type_begins true x [] f in
    let (i, j) = own_front x r f in
    unseen is_arg_name arg_name_at lone_colon.at x r p.no_name (q.no_name nil_colon) j h

type_argument : (x : TypeTree) (l r : List Tok) → Front l r → assoc_at l ≡ false → (type true).behind x l ≡ Some r → (generic type).behind (t.a_type x) l ≡ Some r
unfolding generic
type_argument x l r f a h = rw (f.no_lifetime, f.no_const, a, h) refl

bare_argument : (x : TypeTree) (l r : List Tok) → arg_name_at l ≡ false → (type true).behind x l ≡ Some r → (fn_arg type).behind (record { name = None; ty = x }) l ≡ Some r
unfolding fn_arg
bare_argument x l r a h = rw (a, h) refl

pub generic_again : (g : GenericTree) (r : List Tok) → generic_fits g ≡ true → generic_stops g r ≡ true → (generic type).behind g (generic_own g r) ≡ Some r
generic_again (t.a_lifetime w) r f c = a_lifetime_step w r
generic_again (t.a_const ts) r f c = const_step ts r f
generic_again (t.an_assoc w x) r f c =
    let (g, h) = both_true (not (is_reserved_word w)) (type_fits true x) f in
    assoc_step w x (type_own x r) r g (type_back true x r h c)
generic_again (t.a_type x) r f c =
    let (g, h) = both_true (type_stops true x r) _ c in
    type_argument x (type_own x r) r (type_begins true x r f) (no_assoc x r f h) (type_back true x r f g)

pub assoc_back : (p : Text × TypeTree) (r : List Tok) → assoc_fits p ≡ true → type_stops true p.1 r ≡ true → (assoc type).behind p (assoc_own p r) ≡ Some r
assoc_back (w, x) r f c = assoc_only w x (assoc_own (w, x) r) r (generic_again (t.an_assoc w x) r f c)

pub arg_back : (x : FnArgTree) (r : List Tok) → arg_fits x ≡ true → arg_stops x r ≡ true → (fn_arg type).behind x (arg_own x r) ≡ Some r
arg_back x r f c = by_name x.name x.ty f c
  where
    by_name : (w : Option Text) (y : TypeTree) → arg_fits (record { name = w; ty = y }) ≡ true → arg_stops (record { name = w; ty = y }) r ≡ true
        → (fn_arg type).behind (record { name = w; ty = y }) (arg_own (record { name = w; ty = y }) r) ≡ Some r
    by_name (Some w) y f c =
        let (g, h) = both_true (is_arg_name w) _ f in
        let (i, j) = both_true (type_fits true y) true h in
        named_arg_step w y (type_own y r) r g (type_back true y r i c)
    by_name None y f c =
        let (g, h) = both_true (type_fits true y) true f in
        let (i, j) = both_true (type_stops true y r) _ c in
        bare_argument y (type_own y r) r (no_name y r g j) (type_back true y r g i)

pub trait_back : (b : BoundTree) (r : List Tok) → trait_fits b ≡ true → bound_stops b r ≡ true → (trait_bound type).behind b (bound_own b r) ≡ Some r
trait_back (t.outlives w) r f c = absurd cc
trait_back (t.a_trait q p d ss e) r f c = trait_only q p d ss e _ r (bound_back (t.a_trait q p d ss e) r f c)

pub bounds_back : (b : Bool) (xs : List BoundTree) (e : Bool) (r : List Tok) → bounds_list_fits b (xs, e) ≡ true → bounds_list_stops b (xs, e) r ≡ true → (bounds type b).behind (xs, e) (bounds_list_own (xs, e) r) ≡ Some r
bounds_back b xs e r f c =
    let bs = t.bounds_of xs in
    let h = impl_tells b bs e (bounds_own bs e r) r (type_opens b (t.impl_trait bs e) _ r (type_back b (t.impl_trait bs e) r f c)) in
    subst (λ z. (bounds type b).behind (z, e) (bounds_list_own (xs, e) r) ≡ Some r) (bounds-bounds_of xs) h
