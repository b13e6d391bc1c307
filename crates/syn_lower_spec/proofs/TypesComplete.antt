-- Types, and the paths, arguments and bounds in them, that are read of their own tokens pass their tests.
use Rattle.std.proofs.Common.{◌≡◌, ℕ, zero, suc, Bool, true, false, not, ◌&&◌, ◌||◌, ◌==◌, nat_le, nat_lt, cond, List, [], ◌∷◌, ◌++◌, length, take, drop, Option, Some, None, refl, sym, ◌∙◌, subst, codes, arith}
use Rattle.std.proofs.lemmas.Bool.Decides.{nat_tests}
use Rattle.std.specs.Option.{is_some}
use Rattle.syn_lexer.specs.Keywords.{is_reserved_word}
use Rattle.syn_lexer.specs.declared.front.Delimiter.{Delimiter}
use Rattle.syn_lexer.specs.declared.front.Delimiter.TheVariants as del
use Rattle.syn_tokens.specs.Tok.{Tok, ident}
use Rattle.syn_tokens.specs.Front.{group_at, is_empty}
use Rattle.syn_lower_spec.specs.declared.label.PathStyle.{PathStyle}
use Rattle.syn_lower_spec.specs.declared.label.PathStyle.TheVariants as style
use Rattle.syn_lower_spec.specs.Text.{Text, is_segment, stands_alone}
use Rattle.syn_lower_spec.specs.Tree as t
use Rattle.syn_lower_spec.specs.Tree.{LifetimesTree, TypeTree, Types, QSelfTree, Segments, SegmentTree, PathTree, FnArgs, ArgumentsTree, Generics, GenericTree, ReturnTree, Bounds, BoundTree}
use Rattle.syn_lower_spec.specs.Form.{Form, Test, when, case, group_case, mark, both, maybe, flag, shown, pure, listed, joined, closed_by, then_behind, is_nil}
use Rattle.syn_lower_spec.specs.Form as form
use Rattle.syn_lower_spec.specs.Mark.{sign_at, word_at, lifetime_at, round_at, comma, colon2, plus, question, gt, less, eq, lone_colon, not_ne, arrow, mutable, unsafe_word, extern_word, fn_word, semi, and, star, bang, underscore, implementing, dynamic, as_word}
use Rattle.syn_lower_spec.specs.Part.{name, segment_name, lifetime, lifetimes, lifetimes_at, const_at, assoc_at, arg_name_at, angle_at, turbofish_at, fn_at, rest_of, constant_tokens, any_group, arg_name, is_arg_name, no_arguments, has_none, fn_head, abi, macro_end, type, output, generic, assoc, angle, angle_bracketed, parenthesized, arguments, is_default, from_given, segment, pieces, path, qualified, qpath, bound, trait_bound, bounds, reference, pointer, slice_or_array, tuple_or_paren, fn_arg, fn_pointer, implements, object, named, at_place, tuple_of, is_bare, FnHead, is_never, is_infer, to_assoc, from_assoc, from_lifetime, from_const, from_type, from_outlives, to_bare, from_bare}
use Rattle.syn_lower_spec.specs.Own.{alone, comma_before, colon2_before, arrow_before, before_if, before_some, enclosed, lifetime_own, lifetimes_own, extern_own, mutability_own, elements_own, count_segments, at_most, qself_end, type_own, types_own, segments_own, arguments_own, generics_own, generic_own, return_own, args_own, bounds_own, bound_own, segment_own, arg_own, no_more_types, no_more_segments, no_more_generics, no_more_args, no_more_bounds}
use Rattle.syn_lower_spec.specs.Fits.{fits_if, lifetimes_fit, is_string, is_macro_delimiter, is_one_type, is_one_bound, position_fits, bare_segments, ends_well, type_fits, types_fit, segments_fit, arguments_fit, generics_fit, generic_fits, return_fits, args_fit, bounds_fit, bound_fits, takes_angle, takes_round, none_stops, name_stops, type_stops, segments_stop, arguments_stop, return_stops, bounds_stop, bound_stops, mac_stops, segment_fits, segment_stops, after_name_stops, arg_fits, arg_stops, generic_stops, is_word}
use Rattle.syn_lower_spec.specs.Laws.{Fitted}
use Rattle.syn_lower_spec.proofs.Weights.{some_is}
use Rattle.syn_lower_spec.proofs.Same.{both_true, not_true}
use Rattle.syn_lower_spec.proofs.Marks.{colon2_present, plus_present}
use Rattle.syn_lower_spec.proofs.Forms.{Refuses, behind_some, seen_some, when_refuses, mark_refuses, inside_refuses, shown_refuses, pure_refuses}
use Rattle.syn_lower_spec.proofs.Parts.{types_alike, type_alike, spells_is, whole_segment_alike, generic_alike, fn_arg_alike}
use Rattle.syn_lower_spec.proofs.ReadBack.{next_own}
use Rattle.syn_lower_spec.proofs.Behind.{or_true, arguments_front, colon2_same}
use Rattle.syn_lower_spec.proofs.TypesBack.{types_elements, generics_elements, args_elements, bounds_elements, segments_elements, segments_count, bare_is, plus_before, fn_tokens, head_own, group_back, bound_whole, colon2_seen, plus_seen, at_most_zero, at_most_less, segments_split, suc_zero, const_step, types_end, generics_end, args_end}
use Rattle.syn_lower_spec.proofs.Complete.{after, first_only, second_only, maybe_none, maybe_some, piece, piece_fits, flag_left, mark_tells, inside_tells, closed_tells, Complete, none_complete, complete, Fitting, fit, listed_tells, joined_tells}
use Rattle.syn_lower_spec.proofs.SimpleComplete.{name_complete, segment_name_complete, arg_name_complete, lifetime_complete, lifetimes_complete, abi_complete, const_complete, group_complete}

pub type_opens : (b : Bool) (x : TypeTree) (l n : List Tok) → (type b).behind x l ≡ Some n → (at_place type b).behind x l ≡ Some n
type_opens b x l n h = let (f, g) = spells_is b l x n in f h

-- ---- which kind of type it is

abbrev from_words : Bool → Form TypeTree
from_words b = when fn_at (fn_pointer type) (case implementing (implements type b) (case dynamic (object type b) (named type)))

abbrev from_round_group : Bool → Form TypeTree
from_round_group b = group_case del.Parenthesis (tuple_or_paren type) (from_words b)

abbrev from_bracket : Bool → Form TypeTree
from_bracket b = group_case del.Bracket (slice_or_array type) (from_round_group b)

abbrev from_underscore : Bool → Form TypeTree
from_underscore b = case underscore (pure t.infer is_infer) (from_bracket b)

abbrev pub from_bang : Bool → Form TypeTree
from_bang b = case bang (pure t.never is_never) (from_underscore b)

abbrev pub from_star : Bool → Form TypeTree
from_star b = case star (pointer type) (from_bang b)

-- a function pointer or a path, which begin with words
module _ (b : Bool) (x : TypeTree) (r1 : Refuses (reference type) x) (r2 : Refuses (pointer type) x) (r3 : is_never x ≡ false) (r4 : is_infer x ≡ false) (r5 : Refuses (slice_or_array type) x) (r6 : Refuses (tuple_or_paren type) x) where
  pub by_words : (l n : List Tok) → (at_place type b).behind x l ≡ Some n → (from_words b).behind x l ≡ Some n
  unfolding at_place
  by_words l n h =
      let (a1, h1) = second_only and.at (mark and (reference type)) (from_star b) x (mark_refuses and r1) l n h in
      let (a2, h2) = second_only star.at (mark star (pointer type)) (from_bang b) x (mark_refuses star r2) l n h1 in
      let (a3, h3) = second_only bang.at (mark bang (pure t.never is_never)) (from_underscore b) x (mark_refuses bang (pure_refuses t.never is_never x r3)) l n h2 in
      let (a4, h4) = second_only underscore.at (mark underscore (pure t.infer is_infer)) (from_bracket b) x (mark_refuses underscore (pure_refuses t.infer is_infer x r4)) l n h3 in
      let (a5, h5) = second_only (λ l. is_some (group_at del.Bracket l)) (form.inside del.Bracket (slice_or_array type)) (from_round_group b) x (inside_refuses del.Bracket r5) l n h4 in
      let (a6, h6) = second_only (λ l. is_some (group_at del.Parenthesis l)) (form.inside del.Parenthesis (tuple_or_paren type)) (from_words b) x (inside_refuses del.Parenthesis r6) l n h5 in
      h6

  pub past_fn : Refuses (fn_pointer type) x → (l n : List Tok) → (at_place type b).behind x l ≡ Some n → (case implementing (implements type b) (case dynamic (object type b) (named type))).behind x l ≡ Some n
  past_fn r7 l n h = (second_only fn_at (fn_pointer type) (case implementing (implements type b) (case dynamic (object type b) (named type))) x r7 l n (by_words l n h)).1

  by_path : Refuses (fn_pointer type) x → Refuses (implements type b) x → Refuses (object type b) x → (l n : List Tok) → (at_place type b).behind x l ≡ Some n → (named type).behind x l ≡ Some n
  by_path r7 r8 r9 l n h =
      let (a2, h2) = second_only implementing.at (mark implementing (implements type b)) (case dynamic (object type b) (named type)) x (mark_refuses implementing r8) l n (past_fn r7 l n h) in
      let (a3, h3) = second_only dynamic.at (mark dynamic (object type b)) (named type) x (mark_refuses dynamic r9) l n h2 in
      h3

pub path_named : (b : Bool) (q : QSelfTree) (d : Bool) (ss : Segments) (e : Bool) (l n : List Tok) → (at_place type b).behind (t.path q d ss e) l ≡ Some n → (named type).behind (t.path q d ss e) l ≡ Some n
unfolding reference pointer slice_or_array tuple_or_paren fn_pointer implements object
path_named b q d ss e l n h =
    by_path b (t.path q d ss e) (search shown_refuses) (search shown_refuses) refl refl (search shown_refuses) (search shown_refuses) (search shown_refuses) (search shown_refuses) (search shown_refuses) l n h

mac_named : (b d : Bool) (ss : Segments) (e : Bool) (g : Delimiter) (ts l n : List Tok) → (at_place type b).behind (t.mac d ss e g ts) l ≡ Some n → (named type).behind (t.mac d ss e g ts) l ≡ Some n
unfolding reference pointer slice_or_array tuple_or_paren fn_pointer implements object
mac_named b d ss e g ts l n h =
    by_path b (t.mac d ss e g ts) (search shown_refuses) (search shown_refuses) refl refl (search shown_refuses) (search shown_refuses) (search shown_refuses) (search shown_refuses) (search shown_refuses) l n h

fn_only : (b : Bool) (h : FnHead) (xs : FnArgs) (e : Bool) (o : ReturnTree) (l n : List Tok) → (at_place type b).behind (t.fn_ptr h.0 h.1.0 h.1.1 xs e o) l ≡ Some n → (fn_pointer type).behind (t.fn_ptr h.0 h.1.0 h.1.1 xs e o) l ≡ Some n
unfolding reference pointer slice_or_array tuple_or_paren implements object named
fn_only b h xs e o l n i =
    let x = t.fn_ptr h.0 h.1.0 h.1.1 xs e o in
    let j = by_words b x (search shown_refuses) (search shown_refuses) refl refl (search shown_refuses) (search shown_refuses) l n i in
    let (a, k) = first_only fn_at (fn_pointer type) (case implementing (implements type b) (case dynamic (object type b) (named type))) x (search (when_refuses, mark_refuses, shown_refuses) depth 8) l n j in
    k

-- ---- one kind of type, by what it holds

module _ (b : Bool) where
  reference_tells : (a : Option Text) (m : Bool) (x : TypeTree) (l n : List Tok) → (at_place type b).behind (t.reference a m x) (alone 38 ∷ before_some a lifetime_own (before_if m (λ k. ident (codes "mut") ∷ k) l)) ≡ Some n
      → (type false).behind x l ≡ Some n
  unfolding at_place reference sign_at word_at
  reference_tells a m x l n h =
      let k = before_if m (λ k. ident (codes "mut") ∷ k) l in
      let (e, j) = after (maybe lifetime_at lifetime) (λ y. both (flag mutable) (type false)) a (m, x) (before_some a lifetime_own k) k n (λ o d. piece lifetime_at lifetime lifetime_own a k o (λ w z i. let q = lifetime_complete w k z i in q.same) d) h in
      let (i, g) = after (flag mutable) (λ y. type false) m x k l n (λ o d. flag_left mutable (λ k. ident (codes "mut") ∷ k) m l o refl refl d) j in
      g

  pointer_tells : (m : Bool) (x : TypeTree) (l n : List Tok) → (at_place type b).behind (t.ptr m x) (alone 42 ∷ mutability_own m l) ≡ Some n → (type false).behind x l ≡ Some n
  unfolding at_place pointer sign_at word_at
  pointer_tells true x l n h = h
  pointer_tells false x l n h = h

  slice_tells : (x : TypeTree) (ts r n : List Tok) → ((m : List Tok) → (type true).behind x ts ≡ Some m → m ≡ []) → (at_place type b).behind (t.slice x) (enclosed del.Bracket ts r) ≡ Some n
      → ((type true).behind x ts ≡ Some []) × (n ≡ r)
  unfolding at_place sign_at word_at group_at slice_or_array
  slice_tells x ts r n only h =
      let (e, d) = inside_tells del.Bracket (slice_or_array type) (t.slice x) ts r n h in
      let (i, j) = after (type true) (λ y. maybe semi.at (mark semi rest_of)) x None ts [] [] only e in
      (i, d)

  array_tells : (x : TypeTree) (k ts r n : List Tok) → ((m : List Tok) → (type true).behind x ts ≡ Some m → m ≡ alone 59 ∷ k) → (at_place type b).behind (t.array x k) (enclosed del.Bracket ts r) ≡ Some n
      → ((type true).behind x ts ≡ Some (alone 59 ∷ k)) × (not (is_empty k) ≡ true) × (n ≡ r)
  unfolding at_place sign_at word_at group_at slice_or_array rest_of
  array_tells x k ts r n only h =
      let (e, d) = inside_tells del.Bracket (slice_or_array type) (t.array x k) ts r n h in
      let (i, j) = after (type true) (λ y. maybe semi.at (mark semi rest_of)) x (Some k) ts (alone 59 ∷ k) [] only e in
      (i, some_tokens k j, d)
    where
      some_tokens : (k : List Tok) → rest_of.behind k k ≡ Some [] → not (is_empty k) ≡ true
      some_tokens [] h = absurd cc
      some_tokens (y ∷ ys) h = refl

  tuple_tells : (xs : Types) (e : Bool) (ts r n : List Tok) → (at_place type b).behind (t.tuple xs e) (enclosed del.Parenthesis ts r) ≡ Some n
      → ((listed comma is_empty (type true)).behind (t.types xs, e) ts ≡ Some []) × (not (is_one_type xs && not e) ≡ true) × (n ≡ r)
  unfolding at_place sign_at word_at group_at tuple_or_paren
  tuple_tells xs e ts r n h =
      let (i, d) = inside_tells del.Parenthesis (tuple_or_paren type) (t.tuple xs e) ts r n h in
      let (p, f, j) = seen_some (tuple_of (t.types xs) e) (λ y. (listed comma is_empty (type true)).behind y ts) [] i in
      let (k, o) = by_list xs e p f in
      (subst (λ y. (listed comma is_empty (type true)).behind y ts ≡ Some []) k j, o, d)
    where
      by_list : (xs : Types) (e : Bool) (p : List TypeTree × Bool) → tuple_of (t.types xs) e ≡ Some p → (p ≡ (t.types xs, e)) × (not (is_one_type xs && not e) ≡ true)
      by_list t.no_types e p h = (sym (some_is h), refl)
      by_list (t.more_types x t.no_types) true p h = (sym (some_is h), refl)
      by_list (t.more_types x t.no_types) false p h = absurd cc
      by_list (t.more_types x (t.more_types y ys)) e p h = (sym (some_is h), refl)

  paren_tells : (x : TypeTree) (ts r n : List Tok) → (at_place type b).behind (t.paren x) (enclosed del.Parenthesis ts r) ≡ Some n
      → ((listed comma is_empty (type true)).behind (x ∷ [], false) ts ≡ Some []) × (n ≡ r)
  unfolding at_place sign_at word_at group_at tuple_or_paren
  paren_tells x ts r n h = inside_tells del.Parenthesis (tuple_or_paren type) (t.paren x) ts r n h

  never_tells : (r n : List Tok) → (at_place type b).behind t.never (alone 33 ∷ r) ≡ Some n → n ≡ r
  unfolding at_place sign_at
  never_tells r n h = some_is (sym h)

  infer_tells : (r n : List Tok) → (at_place type b).behind t.infer (ident (codes "_") ∷ r) ≡ Some n → n ≡ r
  unfolding at_place sign_at word_at
  infer_tells r n h = some_is (sym h)

  pub impl_tells : (bs : Bounds) (e : Bool) (l n : List Tok) → (at_place type b).behind (t.impl_trait bs e) (ident (codes "impl") ∷ l) ≡ Some n → (bounds type b).behind (t.bounds bs, e) l ≡ Some n
  unfolding at_place implements sign_at word_at fn_at lifetimes_at group_at
  impl_tells bs e l n h = h

  object_tells : (bs : Bounds) (e : Bool) (l n : List Tok) → (at_place type b).behind (t.trait_object bs e) (ident (codes "dyn") ∷ l) ≡ Some n → (bounds type b).behind (t.bounds bs, e) l ≡ Some n
  unfolding at_place object sign_at word_at fn_at lifetimes_at group_at
  object_tells bs e l n h = h

-- ---- a function pointer

head_tells : (h : FnHead) (l n : List Tok) → fn_head.behind h (head_own h l) ≡ Some n → (fits_if lifetimes_fit h.0 ≡ true) × (fits_if (fits_if is_string) h.1.1 ≡ true) × (n ≡ fn_tokens l)
unfolding fn_head word_at
head_tells (f, (u, a)) l n h =
    let k = before_some a extern_own (fn_tokens l) in
    let m = before_if u (λ k. ident (codes "unsafe") ∷ k) k in
    let (e, i) = after (maybe lifetimes_at lifetimes) (λ y. both (flag unsafe_word) (maybe extern_word.at abi)) f (u, a) (before_some f lifetimes_own m) m n
    (λ o d. piece lifetimes_at lifetimes lifetimes_own f m o (λ p z c. let q = lifetimes_complete p m z c in q.same) d) h in
    let (g, j) = after (flag unsafe_word) (λ y. maybe extern_word.at abi) u a m k n (λ o d. flag_left unsafe_word (λ k. ident (codes "unsafe") ∷ k) u k o refl refl d) i in
    (piece_fits lifetimes_at lifetimes lifetimes_own lifetimes_fit f m m (λ p z c. let q = lifetimes_complete p m z c in q.passes) e, piece_fits extern_word.at abi extern_own (fits_if is_string) a (fn_tokens l) n (λ p z c. let q = abi_complete p (fn_tokens l) z c in q.passes) j, piece extern_word.at abi extern_own a (fn_tokens l) n (λ p z c. let q = abi_complete p (fn_tokens l) z c in q.same) j)

fn_tells : (b : Bool) (h : FnHead) (xs : FnArgs) (e : Bool) (o : ReturnTree) (ts l n : List Tok) → (at_place type b).behind (t.fn_ptr h.0 h.1.0 h.1.1 xs e o) (head_own h (enclosed del.Parenthesis ts l)) ≡ Some n
    → (fits_if lifetimes_fit h.0 ≡ true) × (fits_if (fits_if is_string) h.1.1 ≡ true) × ((listed comma is_empty (fn_arg type)).behind (t.args xs, e) ts ≡ Some []) × ((output type false).behind o l ≡ Some n)
unfolding fn_pointer word_at
fn_tells b h xs e o ts l n i =
    let k = enclosed del.Parenthesis ts l in
    let args = form.inside del.Parenthesis (listed comma is_empty (fn_arg type)) in
    let (c, d) = after fn_head (λ y. mark fn_word (both args (output type false))) h ((t.args xs, e), o) (head_own h k) (fn_tokens k) n (λ m g. let (u, v, w) = head_tells h k m g in w) (fn_only b h xs e o (head_own h k) n i) in
    let (u, v, w) = head_tells h k (fn_tokens k) c in
    let (f, g) = after args (λ y. output type false) (t.args xs, e) o k l n (λ m g. let (x, y) = inside_tells del.Parenthesis (listed comma is_empty (fn_arg type)) (t.args xs, e) ts l m g in y) d in
    let (x, y) = inside_tells del.Parenthesis (listed comma is_empty (fn_arg type)) (t.args xs, e) ts l l f in
    (u, v, x, g)

-- ---- arguments of a segment, by what they hold

none_tells : (s : PathStyle) (r n : List Tok) → (arguments type s).behind t.no_arguments r ≡ Some n → (none_stops s r ≡ true) × (n ≡ r)
unfolding arguments no_arguments angle_bracketed parenthesized
none_tells style.Mod r n h = (refl, some_is (sym h))
none_tells style.Expr r n h =
    let (a, e) = second_only turbofish_at (angle_bracketed type) no_arguments t.no_arguments (search shown_refuses) r n h in
    (rw a refl, some_is (sym e))
none_tells style.Type r n h =
    let (a, e) = second_only angle_at (angle_bracketed type) (when round_at (parenthesized type) no_arguments) t.no_arguments (search shown_refuses) r n h in
    let (c, i) = second_only round_at (parenthesized type) no_arguments t.no_arguments (search shown_refuses) r n e in
    (rw (a, c) refl, some_is (sym i))

pub in_angle_tells : (c : Bool) (gs : Generics) (e : Bool) (l r n : List Tok) → ((m : List Tok) → (listed comma gt.at (generic type)).behind (t.generics gs, e) l ≡ Some m → m ≡ alone 62 ∷ r)
    → (angle_bracketed type).behind (t.angle c gs e) (before_if c colon2_before (alone 60 ∷ l)) ≡ Some n → ((listed comma gt.at (generic type)).behind (t.generics gs, e) l ≡ Some (alone 62 ∷ r)) × (n ≡ r)
unfolding angle_bracketed angle sign_at
in_angle_tells c gs e l r n only h =
    let (i, j) = after (flag colon2) (λ y. angle type) c (t.generics gs, e) (before_if c colon2_before (alone 60 ∷ l)) (alone 60 ∷ l) n (λ m d. flag_left colon2 colon2_before c (alone 60 ∷ l) m refl refl d) h in
    closed_tells (listed comma gt.at (generic type)) (t.generics gs, e) l r n only j

pub angle_only : (s : PathStyle) (c : Bool) (gs : Generics) (e : Bool) (l n : List Tok) → (arguments type s).behind (t.angle c gs e) (before_if c colon2_before (alone 60 ∷ l)) ≡ Some n
    → (takes_angle s c ≡ true) × ((angle_bracketed type).behind (t.angle c gs e) (before_if c colon2_before (alone 60 ∷ l)) ≡ Some n)
unfolding arguments no_arguments parenthesized turbofish_at sign_at
angle_only style.Mod c gs e l n h = absurd cc
angle_only style.Expr true gs e l n h =
    let (a, i) = first_only turbofish_at (angle_bracketed type) no_arguments (t.angle true gs e) (search pure_refuses) (colon2_before (alone 60 ∷ l)) n h in (refl, i)
angle_only style.Expr false gs e l n h =
    let (a, i) = first_only turbofish_at (angle_bracketed type) no_arguments (t.angle false gs e) (search pure_refuses) (alone 60 ∷ l) n h in absurd cc
angle_only style.Type c gs e l n h =
    let (a, i) = first_only angle_at (angle_bracketed type) (when round_at (parenthesized type) no_arguments) (t.angle c gs e) (search (when_refuses, shown_refuses, pure_refuses) depth 8) (before_if c colon2_before (alone 60 ∷ l)) n h in (refl, i)

pub round_tells : (xs : Types) (e : Bool) (o : ReturnTree) (ts l n : List Tok) → (parenthesized type).behind (t.round xs e o) (enclosed del.Parenthesis ts l) ≡ Some n
    → ((listed comma is_empty (type true)).behind (t.types xs, e) ts ≡ Some []) × ((output type false).behind o l ≡ Some n)
unfolding parenthesized
round_tells xs e o ts l n h =
    let args = form.inside del.Parenthesis (listed comma is_empty (type true)) in
    let (f, g) = after args (λ y. output type false) (t.types xs, e) o (enclosed del.Parenthesis ts l) l n (λ m i. let (x, y) = inside_tells del.Parenthesis (listed comma is_empty (type true)) (t.types xs, e) ts l m i in y) h in
    let (x, y) = inside_tells del.Parenthesis (listed comma is_empty (type true)) (t.types xs, e) ts l l f in
    (x, g)

pub round_only : (s : PathStyle) (xs : Types) (e : Bool) (o : ReturnTree) (l n : List Tok) → (arguments type s).behind (t.round xs e o) l ≡ Some n
    → (takes_round s ≡ true) × ((parenthesized type).behind (t.round xs e o) l ≡ Some n)
unfolding arguments no_arguments angle_bracketed
round_only style.Mod xs e o l n h = absurd cc
round_only style.Expr xs e o l n h =
    let (a, i) = second_only turbofish_at (angle_bracketed type) no_arguments (t.round xs e o) (search shown_refuses) l n h in absurd cc
round_only style.Type xs e o l n h =
    let (a, i) = second_only angle_at (angle_bracketed type) (when round_at (parenthesized type) no_arguments) (t.round xs e o) (search shown_refuses) l n h in
    let (c, j) = first_only round_at (parenthesized type) no_arguments (t.round xs e o) (search pure_refuses) l n i in
    (refl, j)

pub after_name : (s : PathStyle) (w : Text) (a : ArgumentsTree) (r : List Tok) → after_name_stops s a r ≡ true → arguments_stop s w a r ≡ true
after_name style.Mod w t.no_arguments r h = refl
after_name style.Expr w t.no_arguments r h = rw h (or_true (stands_alone w))
after_name style.Type w t.no_arguments r h = rw h (or_true (stands_alone w))
after_name s w (t.angle c gs e) r h = refl
after_name s w (t.round xs e o) r h = h

-- a name that stands alone has none
alone_stops : (s : PathStyle) (w : Text) (r : List Tok) → stands_alone w ≡ true → name_stops s w r ≡ true
alone_stops style.Mod w r h = refl
alone_stops style.Expr w r h = rw h refl
alone_stops style.Type w r h = rw h refl

pub segment_tells : (s : PathStyle) (w : Text) (a : ArgumentsTree) (r n : List Tok) → ((m : List Tok) → (arguments type s).behind a (arguments_own a r) ≡ Some m → Fitted (arguments_fit s a) (after_name_stops s a r) r m)
    → (segment type s).behind (record { ident = w; arguments = a }) (ident w ∷ arguments_own a r) ≡ Some n → Fitted (segment_fits s (record { ident = w; arguments = a })) (arguments_stop s w a r) r n
unfolding segment no_arguments
segment_tells s w a r n only h =
    let rest = arguments_own a r in
    let (i, j) = after segment_name (λ v. when (λ l. stands_alone v) no_arguments (arguments type s)) w a (ident w ∷ rest) rest n (λ m d. let q = segment_name_complete w rest m d in q.same) h in
    let q = segment_name_complete w rest rest i in
    by_word (stands_alone w) refl q.passes j
  where
    by_args : (a : ArgumentsTree) → stands_alone w ≡ true → is_segment w ≡ true → no_arguments.behind a (arguments_own a r) ≡ Some n → Fitted (segment_fits s (record { ident = w; arguments = a })) (arguments_stop s w a r) r n
    by_args t.no_arguments e p h = record { passes = rw (p, or_true (not (stands_alone w))) refl; ends = alone_stops s w r e; same = some_is (sym h) }
    by_args (t.angle c gs d) e p h = absurd cc
    by_args (t.round xs d o) e p h = absurd cc

    by_word : (v : Bool) → stands_alone w ≡ v → is_segment w ≡ true → cond v (no_arguments.behind a (arguments_own a r)) ((arguments type s).behind a (arguments_own a r)) ≡ Some n
        → Fitted (segment_fits s (record { ident = w; arguments = a })) (arguments_stop s w a r) r n
    by_word true e p h = by_args a e p h
    by_word false e p h = let q = only n h in record { passes = rw (p, e, q.passes) refl; ends = after_name s w a r q.ends; same = q.same }

-- ---- paths, by their segments

abbrev AllComplete : PathStyle → List SegmentTree → Type 0
AllComplete s xs = Complete (segment type s) segment_own (segment_fits s) (segment_stops s) xs

abbrev AllFit : PathStyle → List Tok → List SegmentTree → Type 0
AllFit s r xs = Fitting segment_own (segment_fits s) (segment_stops s) colon2_before false r xs

some_fit : (s : PathStyle) (w v : Text) (a : ArgumentsTree) (l : List Tok) → arguments_stop s w a (colon2_before (ident v ∷ l)) ≡ true → arguments_stop s w a (colon2_before (ident v ∷ [])) ≡ true
some_fit s w v a l h = arguments_front (colon2_before (ident v ∷ [])) (colon2_before (ident v ∷ l)) (colon2_same v [] l) s w a ∙ h

segments_pass : (s : PathStyle) (ss : Segments) (r : List Tok) → AllFit s r (t.segments ss) → (segments_fit 0 s ss ≡ true) × (segments_stop s ss r ≡ true)
segments_pass s t.no_segments r f = (refl, refl)
segments_pass s (t.more_segments w a t.no_segments) r (fit p q f) = (p, q)
segments_pass s (t.more_segments w a (t.more_segments v c ss)) r (fit p q f) =
    let (i, j) = segments_pass s (t.more_segments v c ss) r f in
    let (d, e) = both_true (is_segment w) _ p in
    let (g, h) = both_true (not (stands_alone w) || has_none a) _ e in
    let (k, m) = both_true (arguments_fit s a) _ h in
    let l = arguments_own c (next_own segment_own colon2_before (t.segments ss) false r) in
    (rw (d, g, k, some_fit s w v a l q) i, j)

-- the first are inside of `<` and `>`
segments_pass_within : (n : ℕ) (s : PathStyle) (ss : Segments) (m r : List Tok) → nat_lt (suc n) (count_segments ss) ≡ true → AllFit style.Type (alone 62 ∷ m) (take (suc n) (t.segments ss)) → AllFit s r (drop (suc n) (t.segments ss))
    → (segments_fit (suc n) s ss ≡ true) × (segments_stop s ss r ≡ true)
segments_pass_within n s t.no_segments m r fewer f g = absurd (grind (arith, nat_tests, fewer))
segments_pass_within n s (t.more_segments w a t.no_segments) m r fewer f g = absurd (grind (arith, nat_tests, fewer))
segments_pass_within zero s (t.more_segments w a (t.more_segments v c ss)) m r fewer (fit p q f) others =
    let (i, j) = segments_pass s (t.more_segments v c ss) r others in
    let (d, e) = both_true (is_segment w) _ p in
    let (g, h) = both_true (not (stands_alone w) || has_none a) _ e in
    let (k, o) = both_true (arguments_fit style.Type a) _ h in
    (rw (d, g, k) i, j)
segments_pass_within (suc n) s (t.more_segments w a (t.more_segments v c ss)) m r fewer (fit p q f) others =
    let smaller : nat_lt (suc n) (count_segments (t.more_segments v c ss)) ≡ true = grind (arith, nat_tests, fewer) in
    let (i, j) = segments_pass_within n s (t.more_segments v c ss) m r smaller f others in
    let (d, e) = both_true (is_segment w) _ p in
    let (g, h) = both_true (not (stands_alone w) || has_none a) _ e in
    let (k, o) = both_true (arguments_fit style.Type a) _ h in
    let l = arguments_own c (next_own segment_own colon2_before (take n (t.segments ss)) false (alone 62 ∷ m)) in
    (rw (d, g, k, some_fit style.Type w v a l q) i, j)

joined_some : (s : PathStyle) (xs : List SegmentTree) (l n : List Tok) → (joined colon2 (segment type s)).behind xs l ≡ Some n → is_nil xs ≡ false
joined_some s [] l n h = absurd cc
joined_some s (x ∷ xs) l n h = refl

segments_joined : (s : PathStyle) (xs : List SegmentTree) (r n : List Tok) → AllComplete s xs → (joined colon2 (segment type s)).behind xs (elements_own segment_own colon2_before xs false r) ≡ Some n
    → (is_nil xs ≡ false) × (AllFit s r xs) × (colon2.at r ≡ false) × (n ≡ r)
segments_joined s xs r n all h = joined_tells colon2 (segment type s) segment_own (segment_fits s) (segment_stops s) colon2_before colon2_present (λ k. whole_segment_alike s) colon2_seen (λ l. refl) xs r n all h

pieces_tells : (s : PathStyle) (b : Bool) (xs : List SegmentTree) (r n : List Tok) → AllComplete s xs → (pieces type s).behind (b, xs) (before_if b colon2_before (elements_own segment_own colon2_before xs false r)) ≡ Some n
    → (is_nil xs ≡ false) × (AllFit s r xs) × (colon2.at r ≡ false) × (n ≡ r)
unfolding pieces
pieces_tells s b xs r n all h =
    let l = elements_own segment_own colon2_before xs false r in
    let (i, j) = after (flag colon2) (λ y. joined colon2 (segment type s)) b xs (before_if b colon2_before l) l n (λ m d. flag_left colon2 colon2_before b l m (colon2_seen l) refl d) h in
    segments_joined s xs r n all j

some_segments : (ss : Segments) → is_nil (t.segments ss) ≡ false → no_more_segments ss ≡ false
some_segments t.no_segments h = absurd cc
some_segments (t.more_segments w a ss) h = refl

abbrev PathFits : PathStyle → Segments → Bool → Bool
PathFits s ss e = not e && (not (no_more_segments ss) && segments_fit 0 s ss)

abbrev PathStops : PathStyle → Segments → List Tok → Bool
PathStops s ss r = segments_stop s ss r && not (colon2.at r)

pub path_tells : (s : PathStyle) (l : Bool) (ss : Segments) (e : Bool) (r n : List Tok) → AllComplete s (t.segments ss)
    → (path type s).behind (record { leading = l; segments = t.segments ss; trailing = e }) (before_if l colon2_before (segments_own 0 ss e r)) ≡ Some n
    → Fitted (PathFits s ss e) (PathStops s ss r) r n
unfolding path
path_tells s l ss true r n all h = absurd cc
path_tells s l ss false r n all h =
    let (a, b, c, d) = pieces_tells s l (t.segments ss) r n all (subst (λ k. (pieces type s).behind (l, t.segments ss) (before_if l colon2_before k) ≡ Some n) (segments_elements ss r) h) in
    let (i, j) = segments_pass s ss r b in
    record { passes = rw (some_segments ss a, i) refl; ends = rw (j, c) refl; same = d }

pub bare_tells : (s : PathStyle) (p : PathTree) (l n : List Tok) → (qpath type s).behind (t.no_qself, p) l ≡ Some n → (path type s).behind p l ≡ Some n
unfolding qpath qualified
bare_tells s p l n h = let (a, i) = second_only less.at (mark less (qualified type s)) (shown to_bare from_bare (path type s)) (t.no_qself, p) (search (mark_refuses, shown_refuses)) l n h in i

-- ---- qualified paths

take_complete : {A : Type 0} {f : Form A} {own : A → List Tok → List Tok} {fits : A → Bool} {stops : A → Test} (k : ℕ) (xs : List A) → Complete f own fits stops xs → Complete f own fits stops (take k xs)
take_complete zero xs a = none_complete
take_complete (suc k) [] a = none_complete
take_complete (suc k) (x ∷ xs) (complete h a) = complete h (take_complete k xs a)

drop_complete : {A : Type 0} {f : Form A} {own : A → List Tok → List Tok} {fits : A → Bool} {stops : A → Test} (k : ℕ) (xs : List A) → Complete f own fits stops xs → Complete f own fits stops (drop k xs)
drop_complete zero xs a = a
drop_complete (suc k) [] a = none_complete
drop_complete (suc k) (x ∷ xs) (complete h a) = drop_complete k xs a

left_some : {A : Type 0} (n : ℕ) (xs : List A) → is_nil (drop n xs) ≡ false → nat_lt n (length xs) ≡ true
left_some zero [] h = absurd cc
left_some (suc n) [] h = absurd cc
left_some zero (x ∷ xs) h = grind (arith, nat_tests)
left_some (suc n) (x ∷ xs) h = let e = left_some n xs h in grind (arith, nat_tests, e)

-- what is in `<` and `>`
abbrev in_less : Form (TypeTree × Option (Bool × List SegmentTree))
in_less = both (type true) (maybe as_word.at (mark as_word (pieces type style.Type)))

abbrev behind_less : PathStyle → Form (List SegmentTree)
behind_less s = mark colon2 (joined colon2 (segment type s))

abbrev selfed : PathStyle → Form ((TypeTree × Option (Bool × List SegmentTree)) × List SegmentTree)
selfed s = both (closed_by gt in_less) (behind_less s)

-- some segments are inside, and some after
inside_some : (s : PathStyle) (x : TypeTree) (c : Bool) (xs ys : List SegmentTree) (l n : List Tok) → (selfed s).behind ((x, Some (c, xs)), ys) l ≡ Some n → (is_nil xs ≡ false) × (is_nil ys ≡ false)
unfolding pieces
inside_some s x c xs ys l n h =
    let (m, e, j) = behind_some ((closed_by gt in_less).behind (x, Some (c, xs)) l) ((behind_less s).behind ys) n h in
    let (a, i) = mark_tells colon2 (joined colon2 (segment type s)) ys m n j in
    let (o, f, g) = behind_some (in_less.behind (x, Some (c, xs)) l) ((mark gt (pure tt (λ (u : Unit {0}). true))).behind tt) m e in
    let (p, d, k) = behind_some ((type true).behind x l) ((maybe as_word.at (mark as_word (pieces type style.Type))).behind (Some (c, xs))) o f in
    let (q, r) = maybe_some as_word.at (mark as_word (pieces type style.Type)) (c, xs) p o k in
    let (u, v) = mark_tells as_word (pieces type style.Type) (c, xs) p o r in
    let (w, y, z) = behind_some ((flag colon2).behind c (drop 1 p)) ((joined colon2 (segment type style.Type)).behind xs) o v in
    (joined_some style.Type xs w o z, joined_some s ys (drop 2 m) n i)

chosen : {A : Type 0} (b : Bool) (x : A) (f : A → Option (List Tok)) (n : List Tok) → then_behind (cond b (Some x) None) f ≡ Some n → (b ≡ true) × (f x ≡ Some n)
chosen true x f n h = (refl, h)
chosen false x f n h = absurd cc

module _ (s : PathStyle) (x : TypeTree) (ss : Segments) (only : (k m : List Tok) → (type true).behind x (type_own x k) ≡ Some m → Fitted (type_fits true x) (type_stops true x k) k m)
    (within : AllComplete style.Type (t.segments ss)) (all : AllComplete s (t.segments ss)) where
  bare_qself : (r m : List Tok) → (selfed s).behind ((x, None), t.segments ss) (type_own x (alone 62 ∷ colon2_before (segments_own 0 ss false r))) ≡ Some m
      → (type_fits true x ≡ true) × (no_more_segments ss ≡ false) × (segments_fit 0 s ss ≡ true) × (segments_stop s ss r ≡ true) × (colon2.at r ≡ false) × (m ≡ r)
  unfolding sign_at word_at
  bare_qself r m h =
      let k = colon2_before (segments_own 0 ss false r) in
      let l = type_own x (alone 62 ∷ k) in
      let left = λ (o : List Tok) (e : in_less.behind (x, None) l ≡ Some o).
      after (type true) (λ y. maybe as_word.at (mark as_word (pieces type style.Type))) x None l (alone 62 ∷ k) o (λ p d. let q = only (alone 62 ∷ k) p d in q.same) e in
      let close = λ (o : List Tok) (e : in_less.behind (x, None) l ≡ Some o).
      let (i, j) = left o e in let (a, d) = maybe_none as_word.at (mark as_word (pieces type style.Type)) (alone 62 ∷ k) o j in d in
      let (e, j) = after (closed_by gt in_less) (λ y. behind_less s) (x, None) (t.segments ss) l k m (λ o d. let (f, g) = closed_tells in_less (x, None) l k o close d in g) h in
      let (f, g) = closed_tells in_less (x, None) l k k close e in
      let (i, u) = left (alone 62 ∷ k) f in
      let q = only (alone 62 ∷ k) (alone 62 ∷ k) i in
      let (a, b, c, d) = segments_joined s (t.segments ss) r m all (subst (λ z. (joined colon2 (segment type s)).behind (t.segments ss) z ≡ Some m) (segments_elements ss r) j) in
      let (v, w) = segments_pass s ss r b in
      (q.passes, some_segments ss a, v, w, c, d)

  as_qself : (n : ℕ) (c : Bool) (r m : List Tok) → nat_lt (suc n) (count_segments ss) ≡ true
      → (selfed s).behind ((x, Some (c, take (suc n) (t.segments ss))), drop (suc n) (t.segments ss)) (type_own x (ident (codes "as") ∷ before_if c colon2_before (segments_own (suc n) ss false r))) ≡ Some m
      → (type_fits true x ≡ true) × (segments_fit (suc n) s ss ≡ true) × (segments_stop s ss r ≡ true) × (colon2.at r ≡ false) × (m ≡ r)
  unfolding sign_at word_at
  as_qself n c r m fewer h =
      let xs = take (suc n) (t.segments ss) in
      let ys = drop (suc n) (t.segments ss) in
      let k = colon2_before (elements_own segment_own colon2_before ys false r) in
      let inner = before_if c colon2_before (elements_own segment_own colon2_before xs false (alone 62 ∷ k)) in
      let l = type_own x (ident (codes "as") ∷ inner) in
      let start : (selfed s).behind ((x, Some (c, xs)), ys) l ≡ Some m =
      subst (λ z. (selfed s).behind ((x, Some (c, xs)), ys) (type_own x (ident (codes "as") ∷ before_if c colon2_before z)) ≡ Some m) (segments_split n ss r fewer) h in
      let left = λ (o : List Tok) (e : in_less.behind (x, Some (c, xs)) l ≡ Some o).
      after (type true) (λ y. maybe as_word.at (mark as_word (pieces type style.Type))) x (Some (c, xs)) l (ident (codes "as") ∷ inner) o (λ p d. let q = only (ident (codes "as") ∷ inner) p d in q.same) e in
      let close = λ (o : List Tok) (e : in_less.behind (x, Some (c, xs)) l ≡ Some o).
      let (i, j) = left o e in pieces_tells style.Type c xs (alone 62 ∷ k) o (take_complete (suc n) (t.segments ss) within) j in
      let (e, j) = after (closed_by gt in_less) (λ y. behind_less s) (x, Some (c, xs)) ys l k m (λ o d. let (f, g) = closed_tells in_less (x, Some (c, xs)) l k o (λ p z. let (u, v, w, y) = close p z in y) d in g) start in
      let (f, g) = closed_tells in_less (x, Some (c, xs)) l k k (λ p z. let (u, v, w, y) = close p z in y) e in
      let (i, o) = left (alone 62 ∷ k) f in
      let (u, v, w, y) = close (alone 62 ∷ k) f in
      let q = only (ident (codes "as") ∷ inner) (ident (codes "as") ∷ inner) i in
      let (a, b, z, d) = segments_joined s ys r m (drop_complete (suc n) (t.segments ss) all) j in
      let (i1, i2) = segments_pass_within n s ss (colon2_before (elements_own segment_own colon2_before ys false r)) r fewer v b in
      (q.passes, i1, i2, z, d)

  abbrev SelfFits : ℕ → Bool → Bool → Bool → ℕ → Bool
  SelfFits n a l e z = not e && (not (no_more_segments ss) && ((type_fits true x && position_fits a n l (count_segments ss)) && segments_fit z s ss))

  -- how many are inside, as the tokens say it
  abbrev self_own : ℕ → Bool → Bool → List Tok → List Tok
  self_own z l e r = type_own x (qself_end z (before_if l colon2_before (segments_own z ss e r)))

  qself_zero : (r m : List Tok) → (selfed s).behind ((x, None), t.segments ss) (self_own (at_most 0 (count_segments ss)) true false r) ≡ Some m
      → Fitted (SelfFits 0 false true false (at_most 0 (count_segments ss))) (PathStops s ss r) r m
  qself_zero r m h =
      let z = at_most_zero (count_segments ss) in
      let (a, b, c, d, e, f) = bare_qself r m (subst (λ k. (selfed s).behind ((x, None), t.segments ss) (self_own k true false r) ≡ Some m) z h) in
      record { passes = rw (a, b, z) c; ends = rw (d, e) refl; same = f }

  qself_some : (n : ℕ) (l : Bool) (r m : List Tok) → nat_lt (suc n) (count_segments ss) ≡ true
      → (selfed s).behind ((x, Some (l, take (suc n) (t.segments ss))), drop (suc n) (t.segments ss)) (self_own (at_most (suc n) (count_segments ss)) l false r) ≡ Some m
      → Fitted (SelfFits (suc n) true l false (at_most (suc n) (count_segments ss))) (PathStops s ss r) r m
  qself_some n l r m fewer h =
      let z = at_most_less (suc n) (count_segments ss) fewer in
      let (a, c, d, e, f) = as_qself n l r m fewer (subst (λ k. (selfed s).behind ((x, Some (l, take (suc n) (t.segments ss))), drop (suc n) (t.segments ss)) (self_own k l false r) ≡ Some m) z h) in
      let some : nat_lt 0 (suc n) ≡ true = grind (arith, nat_tests) in
      let more : nat_lt 0 (count_segments ss) ≡ true = grind (arith, nat_tests, fewer) in
      record { passes = rw (a, has_segments ss more, some, fewer, z) c; ends = rw (d, e) refl; same = f }
    where
      has_segments : (ss : Segments) → nat_lt 0 (count_segments ss) ≡ true → no_more_segments ss ≡ false
      has_segments t.no_segments h = absurd (grind (arith, nat_tests, h))
      has_segments (t.more_segments w a ss) h = refl

  pub qself_tells : (n : ℕ) (a l e : Bool) (r m : List Tok) → (qpath type s).behind (t.qself x n a, record { leading = l; segments = t.segments ss; trailing = e }) (alone 60 ∷ self_own (at_most n (count_segments ss)) l e r) ≡ Some m
      → Fitted (SelfFits n a l e (at_most n (count_segments ss))) (PathStops s ss r) r m
  unfolding qpath qualified sign_at
  qself_tells zero false true false r m h = qself_zero r m h
  qself_tells zero false true true r m h = absurd cc
  qself_tells zero false false e r m h = absurd cc
  qself_tells (suc n) false l e r m h =
      let (a, i) = chosen (suc n == 0 && (l && not e)) ((x, None), t.segments ss) (λ y. (selfed s).behind y (self_own (at_most (suc n) (count_segments ss)) l e r)) m h in
      absurd (suc_zero n (l && not e) a)
  qself_tells n true l e r m h =
      let k = self_own (at_most n (count_segments ss)) l e r in
      let xs = take n (t.segments ss) in
      let ys = drop n (t.segments ss) in
      let (a, i) = chosen (nat_le n (length (t.segments ss)) && not e) ((x, Some (l, xs)), ys) (λ y. (selfed s).behind y k) m h in
      let (b, c) = both_true (nat_le n (length (t.segments ss))) (not e) a in
      let (d, f) = inside_some s x l xs ys k m i in
      let fewer : nat_lt n (count_segments ss) ≡ true = subst (λ z. nat_lt n z ≡ true) (sym (segments_count ss)) (left_some n (t.segments ss) f) in
      by_number n e (not_true e c) d fewer i
    where
      by_number : (n : ℕ) (e : Bool) → e ≡ false → is_nil (take n (t.segments ss)) ≡ false → nat_lt n (count_segments ss) ≡ true
          → (selfed s).behind ((x, Some (l, take n (t.segments ss))), drop n (t.segments ss)) (self_own (at_most n (count_segments ss)) l e r) ≡ Some m
          → Fitted (SelfFits n true l e (at_most n (count_segments ss))) (PathStops s ss r) r m
      by_number n true c d fewer h = absurd cc
      by_number zero false c d fewer h = absurd cc
      by_number (suc n) false c d fewer h = qself_some n l r m fewer h

-- ---- a path or a macro

named_tells : (q : QSelfTree) (d : Bool) (ss : Segments) (e fits : Bool) (l r n : List Tok)
    → ((m : List Tok) → (qpath type style.Type).behind (q, record { leading = d; segments = t.segments ss; trailing = e }) l ≡ Some m → Fitted fits (PathStops style.Type ss r) r m)
    → (named type).behind (t.path q d ss e) l ≡ Some n → Fitted fits (segments_stop style.Type ss r && (not (colon2.at r) && mac_stops q ss r)) r n
unfolding named macro_end
named_tells q d ss e fits l r n only h =
    let p : QSelfTree × PathTree = (q, record { leading = d; segments = t.segments ss; trailing = e }) in
    let (i, j) = after (qpath type style.Type) macro_end p None l r n (λ m g. let w = only m g in w.same) h in
    let (a, c) = maybe_none (λ k. is_bare p && not_ne.at k) (mark not_ne any_group) r n j in
    let w = only r i in
    let (u, v) = both_true (segments_stop style.Type ss r) (not (colon2.at r)) w.ends in
    record { passes = w.passes; ends = rw (u, v) (by_self q a); same = c }
  where
    by_self : (q : QSelfTree) → (is_bare (q, record { leading = d; segments = t.segments ss; trailing = e }) && not_ne.at r) ≡ false → mac_stops q ss r ≡ true
    by_self t.no_qself a = let c : (bare_segments ss && not_ne.at r) ≡ false = rw (bare_is ss) at a in rw c refl
    by_self (t.qself x k z) a = refl

mac_tells : (d : Bool) (ss : Segments) (e fits : Bool) (g : Delimiter) (ts l r n : List Tok)
    → ((m : List Tok) → (qpath type style.Type).behind (t.no_qself, record { leading = d; segments = t.segments ss; trailing = e }) l ≡ Some m → Fitted fits (PathStops style.Type ss (alone 33 ∷ enclosed g ts r)) (alone 33 ∷ enclosed g ts r) m)
    → (named type).behind (t.mac d ss e g ts) l ≡ Some n → (fits ≡ true) × (bare_segments ss ≡ true) × (is_macro_delimiter g ≡ true) × (n ≡ r)
unfolding named macro_end sign_at
mac_tells d ss e fits g ts l r n only h =
    let p : QSelfTree × PathTree = (t.no_qself, record { leading = d; segments = t.segments ss; trailing = e }) in
    let k = alone 33 ∷ enclosed g ts r in
    let (i, j) = after (qpath type style.Type) macro_end p (Some (g, ts)) l k n (λ m z. let w = only m z in w.same) h in
    let (a, c) = maybe_some (λ k. is_bare p && not_ne.at k) (mark not_ne any_group) (g, ts) k n j in
    let (u, v) = both_true (is_bare p) (not_ne.at k) a in
    let w = only k i in
    let o = group_complete g ts r n c in
    (w.passes, rw (bare_is ss) at u, o, some_is (sym c ∙ group_back g ts r o))

-- ---- bounds

pub trait_tells : (q : Bool) (f : Option LifetimesTree) (d : Bool) (ss : Segments) (e : Bool) (r n : List Tok) → AllComplete style.Type (t.segments ss)
    → (trait_bound type).behind (t.a_trait q f d ss e) (bound_own (t.a_trait q f d ss e) r) ≡ Some n → Fitted (bound_fits (t.a_trait q f d ss e)) (bound_stops (t.a_trait q f d ss e) r) r n
unfolding sign_at
trait_tells q f d ss e r n all h =
    let k = before_if d colon2_before (segments_own 0 ss e r) in
    let m = before_some f lifetimes_own k in
    let p : PathTree = record { leading = d; segments = t.segments ss; trailing = e } in
    let (a, i) = after (flag question) (λ y. both (maybe lifetimes_at lifetimes) (path type style.Type)) q (f, p) (before_if q (λ l. alone 63 ∷ l) m) m n (λ o z. flag_left question (λ l. alone 63 ∷ l) q m o refl refl z) h in
    let (b, j) = after (maybe lifetimes_at lifetimes) (λ y. path type style.Type) f p m k n (λ o z. piece lifetimes_at lifetimes lifetimes_own f k o (λ x y g. let w = lifetimes_complete x k y g in w.same) z) i in
    let w = path_tells style.Type d ss e r n all j in
    let (u, v) = both_true (not e) (not (no_more_segments ss) && segments_fit 0 style.Type ss) w.passes in
    let (x, y) = both_true (not (no_more_segments ss)) (segments_fit 0 style.Type ss) v in
    record { passes = rw (u, x, piece_fits lifetimes_at lifetimes lifetimes_own lifetimes_fit f k k (λ p z g. let w = lifetimes_complete p k z g in w.passes) b) y; ends = w.ends; same = w.same }

pub trait_only : (q : Bool) (f : Option LifetimesTree) (d : Bool) (ss : Segments) (e : Bool) (l n : List Tok) → (bound type).behind (t.a_trait q f d ss e) l ≡ Some n → (trait_bound type).behind (t.a_trait q f d ss e) l ≡ Some n
unfolding bound
trait_only q f d ss e l n h = let (a, i) = second_only lifetime_at (shown t.outlives from_outlives lifetime) (trait_bound type) (t.a_trait q f d ss e) (search shown_refuses) l n h in i

outlives_tells : (w : Text) (r n : List Tok) → (bound type).behind (t.outlives w) (lifetime_own w r) ≡ Some n → n ≡ r
unfolding bound lifetime_at
outlives_tells w r n h = let q = lifetime_complete w r n h in q.same

bounds_pass : (bs : Bounds) (r : List Tok) → Fitting bound_own bound_fits bound_stops plus_before false r (t.bounds bs) → (bounds_fit bs ≡ true) × (bounds_stop bs r ≡ true)
bounds_pass t.no_bounds r f = (refl, refl)
bounds_pass (t.more_bounds b t.no_bounds) r (fit p q f) = (rw p refl, q)
bounds_pass (t.more_bounds b (t.more_bounds c bs)) r (fit p q f) = let (i, j) = bounds_pass (t.more_bounds c bs) r f in (rw p i, j)

first_complete : (b : BoundTree) (r n : List Tok) → Complete (bound type) bound_own bound_fits bound_stops (b ∷ []) → (bound type).behind b (bound_own b r) ≡ Some n → Fitted (bound_fits b) (bound_stops b r) r n
first_complete b r n (complete here others) h = here r n h

pub bounds_tells : (b : Bool) (bs : Bounds) (e : Bool) (r n : List Tok) → Complete (bound type) bound_own bound_fits bound_stops (t.bounds bs) → (bounds type b).behind (t.bounds bs, e) (bounds_own bs e r) ≡ Some n
    → Fitted (not e && (not (no_more_bounds bs) && ((b || is_one_bound bs) && bounds_fit bs))) (bounds_stop bs r && not (b && plus.at r)) r n
unfolding bounds
bounds_tells true bs true r n all h = absurd cc
bounds_tells true bs false r n all h =
    let i : (joined plus (bound type)).behind (t.bounds bs) (elements_own bound_own plus_before (t.bounds bs) false r) ≡ Some n = subst (λ l. (joined plus (bound type)).behind (t.bounds bs) l ≡ Some n) (bounds_elements bs r) h in
    let (a, f, c, d) = joined_tells plus (bound type) bound_own bound_fits bound_stops plus_before plus_present bound_whole plus_seen (λ l. refl) (t.bounds bs) r n all i in
    let (u, v) = bounds_pass bs r f in
    record { passes = rw (some_bounds bs a) u; ends = rw (v, c) refl; same = d }
  where
    some_bounds : (bs : Bounds) → is_nil (t.bounds bs) ≡ false → no_more_bounds bs ≡ false
    some_bounds t.no_bounds h = absurd cc
    some_bounds (t.more_bounds x xs) h = refl
bounds_tells false t.no_bounds e r n all h = absurd cc
bounds_tells false (t.more_bounds x t.no_bounds) true r n all h = absurd cc
bounds_tells false (t.more_bounds x t.no_bounds) false r n all h =
    let q = first_complete x r n all h in
    record { passes = rw q.passes refl; ends = rw q.ends refl; same = q.same }
bounds_tells false (t.more_bounds x (t.more_bounds y ys)) e r n all h = absurd cc

-- ---- generic arguments, outputs, arguments of function pointers

-- a test that sees a word of this kind, and what comes after it
pub record Sees (such : Text → Bool) (at behind : Test) : Type 0 where
  pub word : (w : Text) (l : List Tok) → at (ident w ∷ l) ≡ (such w && behind l)

-- a type that is one word ends where the test doesn't see it
word_ends : (such : Text → Bool) (at behind : Test) → Sees such at behind → (x : TypeTree) (r : List Tok) → at (type_own x r) ≡ false → not (is_word such x && behind r) ≡ true
word_ends such at behind s (t.path t.no_qself false (t.more_segments w t.no_arguments t.no_segments) false) r h = let e : (such w && behind r) ≡ false = rw (s.word w r) at h in rw e refl
word_ends such at behind s t.infer r h = let e : (such (codes "_") && behind r) ≡ false = rw (s.word (codes "_") r) at h in rw e refl
word_ends such at behind s _ r h = refl

pub assoc_sees : Sees (λ w. not (is_reserved_word w)) assoc_at eq.at
unfolding assoc_at
assoc_sees = record { word = λ w l. refl }

pub name_sees : Sees is_arg_name arg_name_at lone_colon.at
unfolding arg_name_at
name_sees = record { word = λ w l. refl }

a_lifetime_tells : (w : Text) (r n : List Tok) → (generic type).behind (t.a_lifetime w) (lifetime_own w r) ≡ Some n → n ≡ r
unfolding generic lifetime_at
a_lifetime_tells w r n h = let q = lifetime_complete w r n h in q.same

abbrev from_name : Form GenericTree
from_name = when assoc_at (shown to_assoc from_assoc (assoc type)) (shown t.a_type from_type (type true))

abbrev from_constant : Form GenericTree
from_constant = when const_at (shown t.a_const from_const constant_tokens) from_name

a_const_tells : (ts l n : List Tok) → (generic type).behind (t.a_const ts) l ≡ Some n → constant_tokens.behind ts l ≡ Some n
unfolding generic
a_const_tells ts l n h =
    let (a, i) = second_only lifetime_at (shown t.a_lifetime from_lifetime lifetime) from_constant (t.a_const ts) (search shown_refuses) l n h in
    let (b, j) = first_only const_at (shown t.a_const from_const constant_tokens) from_name (t.a_const ts) (search (when_refuses, shown_refuses) depth 8) l n i in
    j

pub assoc_only : (w : Text) (x : TypeTree) (l n : List Tok) → (generic type).behind (t.an_assoc w x) l ≡ Some n → (assoc type).behind (w, x) l ≡ Some n
unfolding generic
assoc_only w x l n h =
    let (a, i) = second_only lifetime_at (shown t.a_lifetime from_lifetime lifetime) from_constant (t.an_assoc w x) (search shown_refuses) l n h in
    let (b, j) = second_only const_at (shown t.a_const from_const constant_tokens) from_name (t.an_assoc w x) (search shown_refuses) l n i in
    let (c, k) = first_only assoc_at (shown to_assoc from_assoc (assoc type)) (shown t.a_type from_type (type true)) (t.an_assoc w x) (search shown_refuses) l n j in
    k

pub assoc_tells : (w : Text) (x : TypeTree) (l n : List Tok) → (assoc type).behind (w, x) (ident w ∷ alone 61 ∷ l) ≡ Some n → (not (is_reserved_word w) ≡ true) × ((type true).behind x l ≡ Some n)
unfolding sign_at
assoc_tells w x l n h =
    let (i, j) = after name (λ y. mark eq (type true)) w x (ident w ∷ alone 61 ∷ l) (alone 61 ∷ l) n (λ m d. let q = name_complete w (alone 61 ∷ l) m d in q.same) h in
    let q = name_complete w (alone 61 ∷ l) (alone 61 ∷ l) i in
    (q.passes, j)

a_type_tells : (x : TypeTree) (l n : List Tok) → (generic type).behind (t.a_type x) l ≡ Some n → (assoc_at l ≡ false) × ((type true).behind x l ≡ Some n)
unfolding generic
a_type_tells x l n h =
    let (a, i) = second_only lifetime_at (shown t.a_lifetime from_lifetime lifetime) from_constant (t.a_type x) (search shown_refuses) l n h in
    let (b, j) = second_only const_at (shown t.a_const from_const constant_tokens) from_name (t.a_type x) (search shown_refuses) l n i in
    second_only assoc_at (shown to_assoc from_assoc (assoc type)) (shown t.a_type from_type (type true)) (t.a_type x) (search shown_refuses) l n j

pub default_tells : (b : Bool) (r n : List Tok) → (output type b).behind t.default r ≡ Some n → (not (arrow.at r) ≡ true) × (n ≡ r)
unfolding output
default_tells b r n h =
    let (a, i) = second_only arrow.at (mark arrow (shown t.given from_given (type b))) (pure t.default is_default) t.default (search (mark_refuses, shown_refuses)) r n h in
    (rw a refl, some_is (sym i))

pub given_tells : (b : Bool) (x : TypeTree) (l n : List Tok) → (output type b).behind (t.given x) (arrow_before l) ≡ Some n → (type b).behind x l ≡ Some n
unfolding output sign_at
given_tells b x l n h = h

named_arg_tells : (w : Text) (x : TypeTree) (l n : List Tok) → (fn_arg type).behind (record { name = Some w; ty = x }) (ident w ∷ alone 58 ∷ l) ≡ Some n → (is_arg_name w ≡ true) × ((type true).behind x l ≡ Some n)
unfolding fn_arg sign_at
named_arg_tells w x l n h =
    let k = ident w ∷ alone 58 ∷ l in
    let close = λ (m : List Tok) (d : (closed_by lone_colon arg_name).behind w k ≡ Some m).
    after arg_name (λ y. mark lone_colon (pure tt (λ (u : Unit {0}). true))) w tt k (alone 58 ∷ l) m (λ o z. let q = arg_name_complete w (alone 58 ∷ l) o z in q.same) d in
    let (i, j) = after (maybe arg_name_at (closed_by lone_colon arg_name)) (λ y. type true) (Some w) x k l n (λ m d. let (a, e) = maybe_some arg_name_at (closed_by lone_colon arg_name) w k m d in let (c, f) = close m e in some_is (sym f)) h in
    let (a, e) = maybe_some arg_name_at (closed_by lone_colon arg_name) w k l i in
    let (c, f) = close l e in
    let q = arg_name_complete w (alone 58 ∷ l) (alone 58 ∷ l) c in
    (q.passes, j)

arg_tells : (x : TypeTree) (l n : List Tok) → (fn_arg type).behind (record { name = None; ty = x }) l ≡ Some n → (arg_name_at l ≡ false) × ((type true).behind x l ≡ Some n)
unfolding fn_arg
arg_tells x l n h =
    let (i, j) = after (maybe arg_name_at (closed_by lone_colon arg_name)) (λ y. type true) None x l l n (λ m d. let (a, e) = maybe_none arg_name_at (closed_by lone_colon arg_name) l m d in e) h in
    let (a, e) = maybe_none arg_name_at (closed_by lone_colon arg_name) l l i in
    (a, j)

-- ---- lists

types_pass : (e : Bool) (r : List Tok) (xs : Types) → Fitting type_own (type_fits true) (type_stops true) comma_before e r (t.types xs) → types_fit xs ≡ true
types_pass e r t.no_types f = refl
types_pass e r (t.more_types x xs) (fit p q f) = rw p (types_pass e r xs f)

generics_pass : (e : Bool) (r : List Tok) (gs : Generics) → Fitting generic_own generic_fits generic_stops comma_before e r (t.generics gs) → generics_fit gs ≡ true
generics_pass e r t.no_generics f = refl
generics_pass e r (t.more_generics g gs) (fit p q f) = rw p (generics_pass e r gs f)

args_pass : (e : Bool) (r : List Tok) (xs : FnArgs) → Fitting arg_own arg_fits arg_stops comma_before e r (t.args xs) → args_fit xs ≡ true
args_pass e r t.no_args f = refl
args_pass e r (t.more_args n x xs) (fit p q f) =
    let (a, b) = both_true (fits_if is_arg_name n) (type_fits true x && true) p in
    let (c, d) = both_true (type_fits true x) true b in
    rw (a, c) (args_pass e r xs f)

pub types_listed : (xs : Types) (e : Bool) (n : List Tok) → Complete (type true) type_own (type_fits true) (type_stops true) (t.types xs) → (listed comma is_empty (type true)).behind (t.types xs, e) (types_own xs e []) ≡ Some n
    → (types_fit xs ≡ true) × (ends_well (no_more_types xs) e ≡ true)
types_listed xs e n all h =
    let i : (listed comma is_empty (type true)).behind (t.types xs, e) (elements_own type_own comma_before (t.types xs) e []) ≡ Some n = subst (λ l. (listed comma is_empty (type true)).behind (t.types xs, e) l ≡ Some n) (types_elements xs e []) h in
    let (a, b, c) = listed_tells (type true) type_own (type_fits true) (type_stops true) is_empty (λ k. type_alike k true) e (t.types xs) [] n all i in
    (types_pass e [] xs b, types_end xs e ∙ a)

args_listed : (xs : FnArgs) (e : Bool) (n : List Tok) → Complete (fn_arg type) arg_own arg_fits arg_stops (t.args xs) → (listed comma is_empty (fn_arg type)).behind (t.args xs, e) (args_own xs e []) ≡ Some n
    → (args_fit xs ≡ true) × (ends_well (no_more_args xs) e ≡ true)
args_listed xs e n all h =
    let i : (listed comma is_empty (fn_arg type)).behind (t.args xs, e) (elements_own arg_own comma_before (t.args xs) e []) ≡ Some n = subst (λ l. (listed comma is_empty (fn_arg type)).behind (t.args xs, e) l ≡ Some n) (args_elements xs e []) h in
    let (a, b, c) = listed_tells (fn_arg type) arg_own arg_fits arg_stops is_empty (λ k. fn_arg_alike {k = k} types_alike) e (t.args xs) [] n all i in
    (args_pass e [] xs b, args_end xs e ∙ a)

pub generics_listed : (gs : Generics) (e : Bool) (r n : List Tok) → Complete (generic type) generic_own generic_fits generic_stops (t.generics gs) → (listed comma gt.at (generic type)).behind (t.generics gs, e) (generics_own gs e r) ≡ Some n
    → (generics_fit gs ≡ true) × (ends_well (no_more_generics gs) e ≡ true) × (n ≡ r)
generics_listed gs e r n all h =
    let i : (listed comma gt.at (generic type)).behind (t.generics gs, e) (elements_own generic_own comma_before (t.generics gs) e r) ≡ Some n = subst (λ l. (listed comma gt.at (generic type)).behind (t.generics gs, e) l ≡ Some n) (generics_elements gs e r) h in
    let (a, b, c) = listed_tells (generic type) generic_own generic_fits generic_stops gt.at (λ k. generic_alike {k = k} types_alike) e (t.generics gs) r n all i in
    (generics_pass e r gs b, generics_end gs e ∙ a, c)

pub arg_by : (w : Option Text) (x : TypeTree) → ((r n : List Tok) → (type true).behind x (type_own x r) ≡ Some n → Fitted (type_fits true x) (type_stops true x r) r n)
    → (r n : List Tok) → (fn_arg type).behind (record { name = w; ty = x }) (arg_own (record { name = w; ty = x }) r) ≡ Some n
    → Fitted (arg_fits (record { name = w; ty = x })) (arg_stops (record { name = w; ty = x }) r) r n
arg_by (Some w) x only r n h =
    let (a, i) = named_arg_tells w x (type_own x r) n h in
    let q = only r n i in
    record { passes = rw (a, q.passes) refl; ends = q.ends; same = q.same }
arg_by None x only r n h =
    let (a, i) = arg_tells x (type_own x r) n h in
    let q = only r n i in
    record { passes = rw q.passes refl; ends = rw q.ends (word_ends is_arg_name arg_name_at lone_colon.at name_sees x r a); same = q.same }

-- ---- all together

mutual
  pub type_complete : (b : Bool) (x : TypeTree) (r n : List Tok) → (type b).behind x (type_own x r) ≡ Some n → Fitted (type_fits b x) (type_stops b x r) r n
  type_complete b (t.path t.no_qself l ss e) r n h =
      let k = before_if l colon2_before (segments_own 0 ss e r) in
      let i = path_named b t.no_qself l ss e k n (type_opens b (t.path t.no_qself l ss e) k n h) in
      named_tells t.no_qself l ss e (PathFits style.Type ss e) k r n (λ m g. path_tells style.Type l ss e r m (segments_complete style.Type ss) (bare_tells style.Type (record { leading = l; segments = t.segments ss; trailing = e }) k m g)) i
  type_complete b (t.path (t.qself x z a) l ss e) r n h =
      let k = type_own (t.path (t.qself x z a) l ss e) r in
      let i = path_named b (t.qself x z a) l ss e k n (type_opens b (t.path (t.qself x z a) l ss e) k n h) in
      named_tells (t.qself x z a) l ss e (type_fits b (t.path (t.qself x z a) l ss e)) k r n
      (λ m g. qself_tells style.Type x ss (λ o p w. type_complete true x o p w) (segments_complete style.Type ss) (segments_complete style.Type ss) z a l e r m g) i
  type_complete b (t.mac l ss e d ts) r n h =
      let after = alone 33 ∷ enclosed d ts r in
      let k = before_if l colon2_before (segments_own 0 ss e after) in
      let i = mac_named b l ss e d ts k n (type_opens b (t.mac l ss e d ts) k n h) in
      let (u, v, w, c) = mac_tells l ss e (PathFits style.Type ss e) d ts k r n (λ m g. path_tells style.Type l ss e after m (segments_complete style.Type ss) (bare_tells style.Type (record { leading = l; segments = t.segments ss; trailing = e }) k m g)) i in
      let (f, g) = both_true (not e) (not (no_more_segments ss) && segments_fit 0 style.Type ss) u in
      let (p, q) = both_true (not (no_more_segments ss)) (segments_fit 0 style.Type ss) g in
      record { passes = rw (f, p, v, q) w; ends = refl; same = c }
  type_complete b (t.reference a m x) r n h = type_complete false x r n (reference_tells b a m x (type_own x r) n (type_opens b (t.reference a m x) _ n h))
  type_complete b (t.ptr m x) r n h = type_complete false x r n (pointer_tells b m x (type_own x r) n (type_opens b (t.ptr m x) _ n h))
  type_complete b (t.slice x) r n h =
      let (i, c) = slice_tells b x (type_own x []) r n (λ m d. let q = type_complete true x [] m d in q.same) (type_opens b (t.slice x) _ n h) in
      let q = type_complete true x [] [] i in
      record { passes = q.passes; ends = refl; same = c }
  type_complete b (t.array x k) r n h =
      let (i, s, c) = array_tells b x k (type_own x (alone 59 ∷ k)) r n (λ m d. let q = type_complete true x (alone 59 ∷ k) m d in q.same) (type_opens b (t.array x k) _ n h) in
      let q = type_complete true x (alone 59 ∷ k) (alone 59 ∷ k) i in
      record { passes = rw q.passes s; ends = refl; same = c }
  type_complete b (t.tuple xs e) r n h =
      let (i, s, c) = tuple_tells b xs e (types_own xs e []) r n (type_opens b (t.tuple xs e) _ n h) in
      let (u, v) = types_listed xs e [] (types_complete xs) i in
      record { passes = rw (u, v) s; ends = refl; same = c }
  type_complete b (t.paren x) r n h =
      let (i, c) = paren_tells b x (type_own x []) r n (type_opens b (t.paren x) _ n h) in
      let (u, v) = types_listed (t.more_types x t.no_types) false [] (complete (λ l m d. type_complete true x l m d) none_complete) i in
      let (o, p) = both_true (type_fits true x) true u in
      record { passes = o; ends = refl; same = c }
  type_complete b t.never r n h = record { passes = refl; ends = refl; same = never_tells b r n (type_opens b t.never _ n h) }
  type_complete b t.infer r n h = record { passes = refl; ends = refl; same = infer_tells b r n (type_opens b t.infer _ n h) }
  type_complete b (t.fn_ptr f u a xs e o) r n h =
      let (i, s, l, j) = fn_tells b (f, (u, a)) xs e o (args_own xs e []) (return_own o r) n (type_opens b (t.fn_ptr f u a xs e o) _ n h) in
      let (v, w) = args_listed xs e [] (args_complete xs) l in
      let q = return_complete o r n j in
      record { passes = rw (i, s, v, w) q.passes; ends = q.ends; same = q.same }
  type_complete b (t.impl_trait bs e) r n h = bounds_tells b bs e r n (bounds_complete bs) (impl_tells b bs e (bounds_own bs e r) n (type_opens b (t.impl_trait bs e) _ n h))
  type_complete b (t.trait_object bs e) r n h = bounds_tells b bs e r n (bounds_complete bs) (object_tells b bs e (bounds_own bs e r) n (type_opens b (t.trait_object bs e) _ n h))

  pub types_complete : (xs : Types) → Complete (type true) type_own (type_fits true) (type_stops true) (t.types xs)
  types_complete t.no_types = none_complete
  types_complete (t.more_types x xs) = complete (λ r n h. type_complete true x r n h) (types_complete xs)

  pub args_complete : (xs : FnArgs) → Complete (fn_arg type) arg_own arg_fits arg_stops (t.args xs)
  args_complete t.no_args = none_complete
  args_complete (t.more_args w x xs) = complete (λ r n h. arg_by w x (λ k m d. type_complete true x k m d) r n h) (args_complete xs)

  pub generics_complete : (gs : Generics) → Complete (generic type) generic_own generic_fits generic_stops (t.generics gs)
  generics_complete t.no_generics = none_complete
  generics_complete (t.more_generics g gs) = complete (λ r n h. generic_complete g r n h) (generics_complete gs)

  pub generic_complete : (g : GenericTree) (r n : List Tok) → (generic type).behind g (generic_own g r) ≡ Some n → Fitted (generic_fits g) (generic_stops g r) r n
  generic_complete (t.a_lifetime w) r n h = record { passes = refl; ends = refl; same = a_lifetime_tells w r n h }
  generic_complete (t.a_const ts) r n h =
      let p = const_complete ts (ts ++ r) n (a_const_tells ts (ts ++ r) n h) in
      record { passes = p; ends = refl; same = some_is (sym h ∙ const_step ts r p) }
  generic_complete (t.an_assoc w x) r n h =
      let (a, i) = assoc_tells w x (type_own x r) n (assoc_only w x (ident w ∷ alone 61 ∷ type_own x r) n h) in
      let q = type_complete true x r n i in
      record { passes = rw a q.passes; ends = q.ends; same = q.same }
  generic_complete (t.a_type x) r n h =
      let (a, i) = a_type_tells x (type_own x r) n h in
      let q = type_complete true x r n i in
      record { passes = q.passes; ends = rw q.ends (word_ends (λ w. not (is_reserved_word w)) assoc_at eq.at assoc_sees x r a); same = q.same }

  pub return_complete : (o : ReturnTree) (r n : List Tok) → (output type false).behind o (return_own o r) ≡ Some n → Fitted (return_fits o) (return_stops o r) r n
  return_complete t.default r n h = let (a, c) = default_tells false r n h in record { passes = refl; ends = a; same = c }
  return_complete (t.given x) r n h = type_complete false x r n (given_tells false x (type_own x r) n h)

  pub segments_complete : (s : PathStyle) (ss : Segments) → AllComplete s (t.segments ss)
  segments_complete s t.no_segments = none_complete
  segments_complete s (t.more_segments w a ss) = complete (λ r n h. segment_tells s w a r n (λ m d. arguments_complete s a r m d) h) (segments_complete s ss)

  pub arguments_complete : (s : PathStyle) (a : ArgumentsTree) (r n : List Tok) → (arguments type s).behind a (arguments_own a r) ≡ Some n → Fitted (arguments_fit s a) (after_name_stops s a r) r n
  arguments_complete s t.no_arguments r n h = let (a, c) = none_tells s r n h in record { passes = refl; ends = a; same = c }
  arguments_complete s (t.angle c gs e) r n h =
      let (a, i) = angle_only s c gs e (generics_own gs e (alone 62 ∷ r)) n h in
      let (j, d) = in_angle_tells c gs e (generics_own gs e (alone 62 ∷ r)) r n (λ m g. let (u, v, w) = generics_listed gs e (alone 62 ∷ r) m (generics_complete gs) g in w) i in
      let (u, v, w) = generics_listed gs e (alone 62 ∷ r) (alone 62 ∷ r) (generics_complete gs) j in
      record { passes = rw (a, u) v; ends = refl; same = d }
  arguments_complete s (t.round xs e o) r n h =
      let (a, i) = round_only s xs e o (enclosed del.Parenthesis (types_own xs e []) (return_own o r)) n h in
      let (j, d) = round_tells xs e o (types_own xs e []) (return_own o r) n i in
      let (u, v) = types_listed xs e [] (types_complete xs) j in
      let q = return_complete o r n d in
      record { passes = rw (a, u, v) q.passes; ends = q.ends; same = q.same }

  pub bounds_complete : (bs : Bounds) → Complete (bound type) bound_own bound_fits bound_stops (t.bounds bs)
  bounds_complete t.no_bounds = none_complete
  bounds_complete (t.more_bounds b bs) = complete (λ r n h. bound_complete b r n h) (bounds_complete bs)

  pub bound_complete : (b : BoundTree) (r n : List Tok) → (bound type).behind b (bound_own b r) ≡ Some n → Fitted (bound_fits b) (bound_stops b r) r n
  bound_complete (t.outlives w) r n h = record { passes = refl; ends = refl; same = outlives_tells w r n h }
  bound_complete (t.a_trait q f d ss e) r n h = trait_tells q f d ss e r n (segments_complete style.Type ss) (trait_only q f d ss e _ n h)

pub arg_complete : (w : Option Text) (x : TypeTree) (r n : List Tok) → (fn_arg type).behind (record { name = w; ty = x }) (arg_own (record { name = w; ty = x }) r) ≡ Some n
    → Fitted (arg_fits (record { name = w; ty = x })) (arg_stops (record { name = w; ty = x }) r) r n
arg_complete w x r n h = arg_by w x (λ k m d. type_complete true x k m d) r n h
