-- A type that could go on with a `<` doesn't stand before one, whatever list it is read from.
use Rattle.std.specs.Prelude.{nat_le, ◌==◌}
use Rattle.std.proofs.Common.{◌≡◌, ℕ, zero, suc, Bool, true, false, not, cond, ◌&&◌, List, [], ◌∷◌, take, drop, length, Option, Some, None, refl, sym, ◌∙◌, ap, subst}
use Rattle.syn_lexer.specs.declared.front.Delimiter.TheVariants as del
use Rattle.syn_tokens.specs.Tok.{Tok}
use Rattle.syn_tokens.specs.Front.{is_empty}
use Rattle.syn_lower_spec.specs.declared.label.PathStyle.TheVariants as style
use Rattle.syn_lower_spec.specs.Text.{Text, stands_alone}
use Rattle.syn_lower_spec.specs.Tree as t
use Rattle.syn_lower_spec.specs.Tree.{TypeTree, Types, QSelfTree, Segments, SegmentTree, ArgumentsTree, FnArgs, ReturnTree, Bounds, BoundTree, LifetimesTree, LitTree, PathTree}
use Rattle.syn_lower_spec.specs.Form as form
use Rattle.syn_lower_spec.specs.Form.{Form, Mark, when, case, mark, maybe, flag, pure, joined, more, listed, closed_by, then_behind, both}
use Rattle.syn_lower_spec.specs.Mark.{and, star, implementing, dynamic, comma, plus, colon2, lt, less, arrow, fn_word, mutable, lifetime_at, round_at, gt, as_word, not_ne, question}
use Rattle.syn_lower_spec.specs.Part.{type, at_place, reference, pointer, slice_or_array, tuple_or_paren, fn_at, fn_pointer, fn_head, fn_arg, implements, object, named, is_default, no_arguments, angle_at, angle_bracketed, parenthesized, arguments, segment, segment_name, output, path, pieces, qualified, qpath, macro_end, bounds, bound, trait_bound, lifetime, lifetimes, lifetimes_at, mutability, from_given, from_outlives, is_bare, to_bare, from_bare, qualified_by, Qualified, QPathTree}
use Rattle.syn_lower_spec.specs.Ends.{ends_open, segments_open, arguments_open, return_open, bounds_open, bound_open}
use Rattle.syn_lower_spec.proofs.Weights.{some_is}
use Rattle.syn_lower_spec.proofs.Marks.{colon2_present, plus_present}
use Rattle.syn_lower_spec.proofs.Forms.{Alike, Present, behind_some, more_opens, when_refuses, mark_refuses, inside_refuses, shown_refuses, pure_refuses}
use Rattle.syn_lower_spec.proofs.Parts.{whole_segment_alike}
use Rattle.syn_lower_spec.proofs.TypesBack.{bound_whole}
use Rattle.syn_lower_spec.proofs.TypesComplete.{type_opens, from_bang, from_star, by_words, past_fn, path_named}
use Rattle.syn_lower_spec.proofs.Complete.{first_only, second_only, mark_tells}
use Rattle.syn_expr_spec.proofs.Chains.{only_some}
use Rattle.syn_expr_spec.proofs.Shown.{TypesClose}

-- ---- which kind of type it is

impl_bounds : (b : Bool) (bs : Bounds) (e : Bool) (l n : List Tok) → (at_place type b).behind (t.impl_trait bs e) l ≡ Some n → (bounds type b).behind (t.bounds bs, e) (drop 1 l) ≡ Some n
unfolding reference pointer slice_or_array tuple_or_paren fn_pointer implements object named
impl_bounds b bs e l n h =
    let x = t.impl_trait bs e in
    let h0 = past_fn b x (search shown_refuses) (search shown_refuses) refl refl (search shown_refuses) (search shown_refuses) (search shown_refuses) l n h in
    let (a2, h2) = first_only implementing.at (mark implementing (implements type b)) (case dynamic (object type b) (named type)) x (search (when_refuses, mark_refuses, shown_refuses) depth 8) l n h0 in
    (mark_tells implementing (implements type b) x l n h2).1

object_bounds : (b : Bool) (bs : Bounds) (e : Bool) (l n : List Tok) → (at_place type b).behind (t.trait_object bs e) l ≡ Some n → (bounds type b).behind (t.bounds bs, e) (drop 1 l) ≡ Some n
unfolding reference pointer slice_or_array tuple_or_paren fn_pointer implements object named
object_bounds b bs e l n h =
    let x = t.trait_object bs e in
    let h0 = past_fn b x (search shown_refuses) (search shown_refuses) refl refl (search shown_refuses) (search shown_refuses) (search shown_refuses) l n h in
    let (a2, h2) = second_only implementing.at (mark implementing (implements type b)) (case dynamic (object type b) (named type)) x (mark_refuses {f = implements type b} implementing (search shown_refuses)) l n h0 in
    let (a3, h3) = first_only dynamic.at (mark dynamic (object type b)) (named type) x (search shown_refuses) l n h2 in
    (mark_tells dynamic (object type b) x l n h3).1

-- a type at the end of another
abbrev EndsWith : Form TypeTree → TypeTree → List Tok → Type 0
EndsWith f x n = (k : List Tok) × (f.behind x k ≡ Some n)

reference_end : (b : Bool) (a : Option Text) (m : Bool) (x : TypeTree) (l n : List Tok) → (at_place type b).behind (t.reference a m x) l ≡ Some n → EndsWith (type false) x n
unfolding at_place reference pointer slice_or_array tuple_or_paren fn_pointer implements object named
reference_end b a m x l n h =
    let y = t.reference a m x in
    let (c, h1) = first_only and.at (mark and (reference type)) (from_star b) y (search (when_refuses, mark_refuses, shown_refuses, inside_refuses, pure_refuses) depth 20) l n h in
    let (d, h2) = mark_tells and (reference type) y l n h1 in
    let (k, i, j) = behind_some ((maybe lifetime_at lifetime).behind a (drop 1 l)) (λ o. then_behind ((flag mutable).behind m o) ((type false).behind x)) n h2 in
    let (u, v, w) = behind_some ((flag mutable).behind m k) ((type false).behind x) n j in
    (u, w)

pointer_end : (b : Bool) (m : Bool) (x : TypeTree) (l n : List Tok) → (at_place type b).behind (t.ptr m x) l ≡ Some n → EndsWith (type false) x n
unfolding at_place reference pointer slice_or_array tuple_or_paren fn_pointer implements object named
pointer_end b m x l n h =
    let y = t.ptr m x in
    let (c, h1) = second_only and.at (mark and (reference type)) (from_star b) y (mark_refuses {f = reference type} and (search shown_refuses)) l n h in
    let (d, h2) = first_only star.at (mark star (pointer type)) (from_bang b) y (search (when_refuses, mark_refuses, shown_refuses, inside_refuses, pure_refuses) depth 20) l n h1 in
    let (u, h3) = mark_tells star (pointer type) y l n h2 in
    let (k, i, j) = behind_some (mutability.behind m (drop 1 l)) ((type false).behind x) n h3 in
    (k, j)

abbrev OutputEnds : ReturnTree → List Tok → Type 0
OutputEnds o n = (k : List Tok) × ((output type false).behind o k ≡ Some n)

fn_end : (b : Bool) (f : Option LifetimesTree) (u : Bool) (a : Option (Option LitTree)) (xs : FnArgs) (e : Bool) (o : ReturnTree) (l n : List Tok) → (at_place type b).behind (t.fn_ptr f u a xs e o) l ≡ Some n → OutputEnds o n
unfolding reference pointer slice_or_array tuple_or_paren fn_pointer implements object named
fn_end b f u a xs e o l n h =
    let y = t.fn_ptr f u a xs e o in
    let h0 = by_words b y (search shown_refuses) (search shown_refuses) refl refl (search shown_refuses) (search shown_refuses) l n h in
    let (c, h1) = first_only fn_at (fn_pointer type) (case implementing (implements type b) (case dynamic (object type b) (named type))) y (search (when_refuses, mark_refuses, shown_refuses) depth 8) l n h0 in
    let args = form.inside del.Parenthesis (listed comma is_empty (fn_arg type)) in
    let (k, i, j) = behind_some (fn_head.behind (f, (u, a)) l) ((mark fn_word (both args (output type false))).behind ((t.args xs, e), o)) n h1 in
    let (d, h2) = mark_tells fn_word (both args (output type false)) ((t.args xs, e), o) k n j in
    let (v, w, z) = behind_some (args.behind (t.args xs, e) (drop 1 k)) ((output type false).behind o) n h2 in
    (v, z)

-- ---- lists with a mark between

-- an element that is open comes before no `<`
record Shuts {A : Type 0} (f : Form A) (goes : A → Bool) (x : A) : Type 0 where
  shuts : (l n : List Tok) → f.behind x l ≡ Some n → lt.at n ≡ true → goes x ≡ false

abbrev AllShut : {A : Type 0} → Form A → (A → Bool) → List A → Type 0
AllShut f goes [] = Unit {0}
AllShut f goes (x ∷ xs) = Shuts f goes x × AllShut f goes xs

abbrev last_open : {A : Type 0} → (A → Bool) → List A → Bool
last_open goes [] = false
last_open goes (x ∷ []) = goes x
last_open goes (x ∷ y ∷ xs) = last_open goes (y ∷ xs)

module _ {A : Type 0} (m : Mark) (f : Form A) (goes : A → Bool) (p : Present m) (a : (k : ℕ) → Alike k f f) where
  more_shut : (x : A) (xs : List A) → Shuts f goes x → AllShut f goes xs → (l k n : List Tok) → f.behind x l ≡ Some k → (more m f).behind xs k ≡ Some n → lt.at n ≡ true → last_open goes (x ∷ xs) ≡ false
  more_shut x [] s ss l k n h g i = go (m.at k) (more_opens m f p a [] k n g)
    where
      go : (b : Bool) → cond {A = Option (List Tok)} b (cond b None None) (Some k) ≡ Some n → goes x ≡ false
      go true j = absurd cc
      go false j = s.shuts l n (subst (λ z. f.behind x l ≡ Some z) (some_is j) h) i
  more_shut x (y ∷ ys) s ss l k n h g i = go (λ u v w. more_shut y ys ss.0 ss.1 (drop m.count k) u n v w i) (m.at k) (more_opens m f p a (y ∷ ys) k n g)
    where
      go : ((u : List Tok) → f.behind y (drop m.count k) ≡ Some u → (more m f).behind ys u ≡ Some n → last_open goes (y ∷ ys) ≡ false) → (b : Bool)
          → cond {A = Option (List Tok)} b (cond b (then_behind (f.behind y (drop m.count k)) ((more m f).behind ys)) None) None ≡ Some n → last_open goes (y ∷ ys) ≡ false
      go again true j = let (u, v, w) = behind_some (f.behind y (drop m.count k)) ((more m f).behind ys) n j in again u v w
      go again false j = absurd cc

  joined_shut : (xs : List A) → AllShut f goes xs → (l n : List Tok) → (joined m f).behind xs l ≡ Some n → lt.at n ≡ true → last_open goes xs ≡ false
  joined_shut [] ss l n h i = refl
  joined_shut (x ∷ xs) ss l n h i =
      let (u, v, w) = behind_some (f.behind x l) ((more m f).behind xs) n h in
      more_shut x xs ss.0 ss.1 l u n v w i

-- ---- paths

abbrev seg_open : SegmentTree → Bool
seg_open s = arguments_open s.ident s.arguments

abbrev Segs : List SegmentTree → Type 0
Segs ss = AllShut (segment type style.Type) seg_open ss

segments_last : (ss : Segments) → last_open seg_open (t.segments ss) ≡ segments_open ss
segments_last t.no_segments = refl
segments_last (t.more_segments w a t.no_segments) = refl
segments_last (t.more_segments w a (t.more_segments v c ss)) = segments_last (t.more_segments v c ss)

segs_shut : (ss : List SegmentTree) → Segs ss → (l n : List Tok) → (joined colon2 (segment type style.Type)).behind ss l ≡ Some n → lt.at n ≡ true → last_open seg_open ss ≡ false
segs_shut ss s l n h i = joined_shut colon2 (segment type style.Type) seg_open colon2_present (λ k. whole_segment_alike style.Type) ss s l n h i

path_shut : (d e : Bool) (ss : List SegmentTree) → Segs ss → (l n : List Tok) → (path type style.Type).behind (record { leading = d; segments = ss; trailing = e }) l ≡ Some n → lt.at n ≡ true → last_open seg_open ss ≡ false
unfolding path pieces
path_shut d true ss s l n h i = absurd cc
path_shut d false ss s l n h i =
    let (u, v, w) = behind_some ((flag colon2).behind d l) ((joined colon2 (segment type style.Type)).behind ss) n h in
    segs_shut ss s u n w i

named_path : (q : QSelfTree) (d : Bool) (ss : Segments) (e : Bool) (l n : List Tok) → (named type).behind (t.path q d ss e) l ≡ Some n → (qpath type style.Type).behind (q, record { leading = d; segments = t.segments ss; trailing = e }) l ≡ Some n
unfolding named macro_end
named_path q d ss e l n h =
    let p : PathTree = record { leading = d; segments = t.segments ss; trailing = e } in
    let (m, i, j) = behind_some ((qpath type style.Type).behind (q, p) l) ((macro_end (q, p)).behind None) n h in
    go m i (is_bare (q, p) && not_ne.at m) j
  where
    go : (m : List Tok) → (qpath type style.Type).behind (q, record { leading = d; segments = t.segments ss; trailing = e }) l ≡ Some m → (b : Bool) → cond {A = Option (List Tok)} b None (Some m) ≡ Some n
        → (qpath type style.Type).behind (q, record { leading = d; segments = t.segments ss; trailing = e }) l ≡ Some n
    go m i true j = absurd cc
    go m i false j = i ∙ j

bare_path : (p : PathTree) (l n : List Tok) → (qpath type style.Type).behind (t.no_qself, p) l ≡ Some n → (path type style.Type).behind p l ≡ Some n
unfolding qpath qualified
bare_path p l n h = (second_only less.at (mark less (qualified type style.Type)) (form.shown to_bare from_bare (path type style.Type)) (t.no_qself, p) (mark_refuses {f = qualified type style.Type} less (search shown_refuses)) l n h).1

drop_none : {A : Type 0} (k : ℕ) → drop {A = A} k [] ≡ []
drop_none zero = refl
drop_none (suc k) = refl

abbrev has_some : {A : Type 0} → List A → Bool
has_some [] = false
has_some (x ∷ xs) = true

last_drop : (k : ℕ) (ss : List SegmentTree) → has_some (drop k ss) ≡ true → last_open seg_open (drop k ss) ≡ last_open seg_open ss
last_drop zero ss h = refl
last_drop (suc k) [] h = absurd cc
last_drop (suc k) (x ∷ []) h = absurd (let q : false ≡ true = sym (ap has_some (drop_none k)) ∙ h in cc)
last_drop (suc k) (x ∷ y ∷ ys) h = last_drop k (y ∷ ys) h

all_drop : (k : ℕ) (ss : List SegmentTree) → Segs ss → Segs (drop k ss)
all_drop zero ss s = s
all_drop (suc k) [] s = s
all_drop (suc k) (x ∷ xs) s = all_drop k xs s.1

joined_some : (ss : List SegmentTree) (l n : List Tok) → (joined colon2 (segment type style.Type)).behind ss l ≡ Some n → has_some ss ≡ true
joined_some [] l n h = absurd cc
joined_some (x ∷ xs) l n h = refl

dropped_shut : (k : ℕ) (ss rest : List SegmentTree) → Segs ss → rest ≡ drop k ss → (l n : List Tok) → (joined colon2 (segment type style.Type)).behind rest l ≡ Some n → lt.at n ≡ true → last_open seg_open ss ≡ false
dropped_shut k ss rest s q l n h i =
    let j : (joined colon2 (segment type style.Type)).behind (drop k ss) l ≡ Some n = subst (λ (z : List SegmentTree). (joined colon2 (segment type style.Type)).behind z l ≡ Some n) q h in
    sym (last_drop k ss (joined_some (drop k ss) l n j)) ∙ segs_shut (drop k ss) (all_drop k ss s) l n j i

qualified_rest : (x : TypeTree) (z : ℕ) (a : Bool) (p : PathTree) (v : Qualified × List SegmentTree) → qualified_by x z a p ≡ Some v → (k : ℕ) × (v.1 ≡ drop k p.segments)
qualified_rest x z false p v h = (0, sym (ap (λ (r : Qualified × List SegmentTree). r.1) (some_is (only_some (z == 0 && (p.leading && not p.trailing)) (Some ((x, None), p.segments)) v h).1)))
qualified_rest x z true p v h =
    (z, sym (ap (λ (r : Qualified × List SegmentTree). r.1) (some_is (only_some (nat_le z (length p.segments) && not p.trailing) (Some ((x, Some (p.leading, take z p.segments)), drop z p.segments)) v h).1)))

abbrev self_form : Form Qualified
self_form = closed_by gt (both (type true) (maybe as_word.at (mark as_word (pieces type style.Type))))

qualified_shut : (x : TypeTree) (z : ℕ) (a d e : Bool) (ss : List SegmentTree) → Segs ss → (l n : List Tok) → (qpath type style.Type).behind (t.qself x z a, record { leading = d; segments = ss; trailing = e }) l ≡ Some n → lt.at n ≡ true → last_open seg_open ss ≡ false
unfolding qpath qualified
qualified_shut x z a d e ss s l n h i =
    let p : PathTree = record { leading = d; segments = ss; trailing = e } in
    let y : QPathTree = (t.qself x z a, p) in
    let (b, h1) = first_only less.at (mark less (qualified type style.Type)) (form.shown to_bare from_bare (path type style.Type)) y (search shown_refuses) l n h in
    let (c, h2) = mark_tells less (qualified type style.Type) y l n h1 in
    go (qualified_by x z a p) refl h2
  where
    rest : (v : Qualified × List SegmentTree) → qualified_by x z a (record { leading = d; segments = ss; trailing = e }) ≡ Some v → (both self_form (mark colon2 (joined colon2 (segment type style.Type)))).behind v (drop 1 l) ≡ Some n → last_open seg_open ss ≡ false
    rest v q j =
        let (u, w, g) = behind_some (self_form.behind v.0 (drop 1 l)) ((mark colon2 (joined colon2 (segment type style.Type))).behind v.1) n j in
        let (o, r) = mark_tells colon2 (joined colon2 (segment type style.Type)) v.1 u n g in
        let (k, t) = qualified_rest x z a (record { leading = d; segments = ss; trailing = e }) v q in
        dropped_shut k ss v.1 s t (drop 2 u) n r i

    go : (o : Option (Qualified × List SegmentTree)) → qualified_by x z a (record { leading = d; segments = ss; trailing = e }) ≡ o → then_behind o (λ v. (both self_form (mark colon2 (joined colon2 (segment type style.Type)))).behind v (drop 1 l)) ≡ Some n
        → last_open seg_open ss ≡ false
    go None q j = absurd cc
    go (Some v) q j = rest v q j

qpath_shut : (q : QSelfTree) (d e : Bool) (ss : List SegmentTree) → Segs ss → (l n : List Tok) → (qpath type style.Type).behind (q, record { leading = d; segments = ss; trailing = e }) l ≡ Some n → lt.at n ≡ true → last_open seg_open ss ≡ false
qpath_shut t.no_qself d e ss s l n h i = path_shut d e ss s l n (bare_path (record { leading = d; segments = ss; trailing = e }) l n h) i
qpath_shut (t.qself x z a) d e ss s l n h i = qualified_shut x z a d e ss s l n h i

-- ---- bounds

bound_last : (bs : Bounds) → last_open bound_open (t.bounds bs) ≡ bounds_open bs
bound_last t.no_bounds = refl
bound_last (t.more_bounds x t.no_bounds) = refl
bound_last (t.more_bounds x (t.more_bounds y bs)) = bound_last (t.more_bounds y bs)

bounds_shut : (b : Bool) (bs : Bounds) (e : Bool) → AllShut (bound type) bound_open (t.bounds bs) → (l n : List Tok) → (bounds type b).behind (t.bounds bs, e) l ≡ Some n → lt.at n ≡ true → bounds_open bs ≡ false
unfolding bounds
bounds_shut true bs false s l n h i = sym (bound_last bs) ∙ joined_shut plus (bound type) bound_open plus_present bound_whole (t.bounds bs) s l n h i
bounds_shut false t.no_bounds e s l n h i = refl
bounds_shut false (t.more_bounds x t.no_bounds) false s l n h i = s.0.shuts l n h i
bounds_shut _ _ _ s l n h i = absurd cc

-- ---- by the last part

given_end : (x : TypeTree) (l n : List Tok) → (output type false).behind (t.given x) l ≡ Some n → EndsWith (type false) x n
unfolding output
given_end x l n h =
    let (a, g) = first_only arrow.at (mark arrow (form.shown t.given from_given (type false))) (pure t.default is_default) (t.given x) (search pure_refuses) l n h in
    let (b, j) = mark_tells arrow (form.shown t.given from_given (type false)) (t.given x) l n g in
    (drop 2 l, j)

angle_less : (l : List Tok) → lt.at l ≡ true → angle_at l ≡ true
unfolding angle_at
angle_less l h = rw h refl

bare_segment : (w : Text) (l n : List Tok) → (segment type style.Type).behind (record { ident = w; arguments = t.no_arguments }) l ≡ Some n → lt.at n ≡ true → not (stands_alone w) ≡ false
unfolding segment arguments angle_bracketed parenthesized no_arguments
bare_segment w l n h i =
    let (m, j, k) = behind_some (segment_name.behind w l) ((when (λ o. stands_alone w) no_arguments (arguments type style.Type)).behind t.no_arguments) n h in
    go m (stands_alone w) k
  where
    go : (m : List Tok) (b : Bool) → cond b (no_arguments.behind t.no_arguments m) ((arguments type style.Type).behind t.no_arguments m) ≡ Some n → not b ≡ false
    go m true k = refl
    go m false k =
        let (a, g) = second_only angle_at (angle_bracketed type) (when round_at (parenthesized type) no_arguments) t.no_arguments (search shown_refuses) m n k in
        let (c, f) = second_only round_at (parenthesized type) no_arguments t.no_arguments (search shown_refuses) m n g in
        let q : m ≡ n = some_is f in
        let r : true ≡ false = sym (angle_less n i) ∙ ap (λ z. angle_at z) (sym q) ∙ a in
        absurd cc

round_segment : (w : Text) (xs : Types) (e : Bool) (o : ReturnTree) (l n : List Tok) → (segment type style.Type).behind (record { ident = w; arguments = t.round xs e o }) l ≡ Some n → OutputEnds o n
unfolding segment arguments angle_bracketed parenthesized no_arguments
round_segment w xs e o l n h =
    let x = t.round xs e o in
    let (m, j, k) = behind_some (segment_name.behind w l) ((when (λ o. stands_alone w) no_arguments (arguments type style.Type)).behind x) n h in
    let (a, g) = second_only (λ o. stands_alone w) no_arguments (arguments type style.Type) x (search pure_refuses) m n k in
    let (b, f) = second_only angle_at (angle_bracketed type) (when round_at (parenthesized type) no_arguments) x (search shown_refuses) m n g in
    let (c, d) = first_only round_at (parenthesized type) no_arguments x (search pure_refuses) m n f in
    let (u, v, z) = behind_some ((form.inside del.Parenthesis (listed comma is_empty (type true))).behind (t.types xs, e) m) ((output type false).behind o) n d in
    (u, z)

trait_path : (q : Bool) (f : Option LifetimesTree) (d : Bool) (ss : Segments) (e : Bool) (l n : List Tok) → (bound type).behind (t.a_trait q f d ss e) l ≡ Some n → (k : List Tok) × ((path type style.Type).behind (record { leading = d; segments = t.segments ss; trailing = e }) k ≡ Some n)
unfolding bound
trait_path q f d ss e l n h =
    let x = t.a_trait q f d ss e in
    let p : PathTree = record { leading = d; segments = t.segments ss; trailing = e } in
    let (a, g) = second_only lifetime_at (form.shown t.outlives from_outlives lifetime) (trait_bound type) x (search shown_refuses) l n h in
    let (u, v, w) = behind_some ((flag question).behind q l) ((both (maybe lifetimes_at lifetimes) (path type style.Type)).behind (f, p)) n g in
    let (y, z, o) = behind_some ((maybe lifetimes_at lifetimes).behind f u) ((path type style.Type).behind p) n w in
    (y, o)

mutual
  type_shut : (b : Bool) (x : TypeTree) (l n : List Tok) → (type b).behind x l ≡ Some n → lt.at n ≡ true → ends_open x ≡ false
  type_shut b (t.path q d ss e) l n h i =
      sym (segments_last ss) ∙ qpath_shut q d e (t.segments ss) (all_segments ss) l n (named_path q d ss e l n (path_named b q d ss e l n (type_opens b (t.path q d ss e) l n h))) i
  type_shut b (t.reference a m x) l n h i = let (k, j) = reference_end b a m x l n (type_opens b (t.reference a m x) l n h) in type_shut false x k n j i
  type_shut b (t.ptr m x) l n h i = let (k, j) = pointer_end b m x l n (type_opens b (t.ptr m x) l n h) in type_shut false x k n j i
  type_shut b (t.fn_ptr f u a xs e o) l n h i = let (k, j) = fn_end b f u a xs e o l n (type_opens b (t.fn_ptr f u a xs e o) l n h) in return_shut o k n j i
  type_shut b (t.impl_trait bs e) l n h i = bounds_shut b bs e (all_bounds bs) (drop 1 l) n (impl_bounds b bs e l n (type_opens b (t.impl_trait bs e) l n h)) i
  type_shut b (t.trait_object bs e) l n h i = bounds_shut b bs e (all_bounds bs) (drop 1 l) n (object_bounds b bs e l n (type_opens b (t.trait_object bs e) l n h)) i
  type_shut b _ l n h i = refl

  return_shut : (o : ReturnTree) (l n : List Tok) → (output type false).behind o l ≡ Some n → lt.at n ≡ true → return_open o ≡ false
  return_shut t.default l n h i = refl
  return_shut (t.given x) l n h i = let (k, j) = given_end x l n h in type_shut false x k n j i

  segment_shut : (w : Text) (a : ArgumentsTree) (l n : List Tok) → (segment type style.Type).behind (record { ident = w; arguments = a }) l ≡ Some n → lt.at n ≡ true → arguments_open w a ≡ false
  segment_shut w t.no_arguments l n h i = bare_segment w l n h i
  segment_shut w (t.angle c gs e) l n h i = refl
  segment_shut w (t.round xs e o) l n h i = let (k, j) = round_segment w xs e o l n h in return_shut o k n j i

  all_segments : (ss : Segments) → Segs (t.segments ss)
  all_segments t.no_segments = tt
  all_segments (t.more_segments w a ss) = (record { shuts = λ l n h i. segment_shut w a l n h i }, all_segments ss)

  all_bounds : (bs : Bounds) → AllShut (bound type) bound_open (t.bounds bs)
  all_bounds t.no_bounds = tt
  all_bounds (t.more_bounds b bs) = (record { shuts = λ l n h i. bound_shut b l n h i }, all_bounds bs)

  bound_shut : (b : BoundTree) (l n : List Tok) → (bound type).behind b l ≡ Some n → lt.at n ≡ true → bound_open b ≡ false
  bound_shut (t.outlives w) l n h i = refl
  bound_shut (t.a_trait q f d ss e) l n h i = let (k, j) = trait_path q f d ss e l n h in sym (segments_last ss) ∙ path_shut d e (t.segments ss) (all_segments ss) k n j i

-- a type that could go on with a `<` comes before none
pub open_types : TypesClose
open_types x l n h i = type_shut false x l n h i
