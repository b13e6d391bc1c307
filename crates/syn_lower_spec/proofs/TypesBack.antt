-- Types, and the paths, arguments and bounds in them, are read back from their own tokens.
use Rattle.std.proofs.Common.{◌≡◌, ℕ, zero, suc, Bool, true, false, not, ◌&&◌, ◌||◌, ◌==◌, nat_le, nat_lt, cond, List, [], ◌∷◌, ◌++◌, length, take, drop, Option, Some, None, refl, ap, sym, ◌∙◌, subst, codes, arith}
use Rattle.std.proofs.lemmas.Bool.Decides.{nat_tests}
use Rattle.syn_lexer.specs.Keywords.{is_reserved_word}
use Rattle.syn_lexer.specs.declared.front.Delimiter.{Delimiter}
use Rattle.syn_lexer.specs.declared.front.Delimiter.TheVariants as del
use Rattle.syn_lexer.specs.declared.front.Spacing.TheVariants as spacing
use Rattle.syn_tokens.specs.Tok.{Tok, ident, punct, literal, group, toks-inside}
use Rattle.syn_tokens.specs.Front.{group_at, is_empty}
use Rattle.syn_lower_spec.specs.declared.label.LitKind.{LitKind}
use Rattle.syn_lower_spec.specs.declared.label.LitKind.TheVariants as kind
use Rattle.syn_lower_spec.specs.declared.label.PathStyle.{PathStyle}
use Rattle.syn_lower_spec.specs.declared.label.PathStyle.TheVariants as style
use Rattle.syn_lower_spec.specs.Text.{Text, is_segment, stands_alone, is_truth, is_number, kind_of}
use Rattle.syn_lower_spec.specs.Same.{same_group}
use Rattle.syn_lower_spec.specs.Tree as t
use Rattle.syn_lower_spec.specs.Tree.{LitTree, LifetimesTree, TypeTree, Types, QSelfTree, Segments, SegmentTree, FnArgs, ArgumentsTree, Generics, GenericTree, ReturnTree, Bounds, BoundTree}
use Rattle.syn_lower_spec.specs.Form.{maybe, flag, listed, joined, is_nil}
use Rattle.syn_lower_spec.specs.Mark.{sign_at, word_at, lifetime_at, round_at, brace_at, comma, colon2, plus, question, gt, less, eq, lone_colon, not_ne, arrow, mutable, unsafe_word, extern_word}
use Rattle.syn_lower_spec.specs.Part.{lifetime, lifetimes, lifetimes_at, const_at, assoc_at, arg_name_at, angle_at, turbofish_at, fn_at, string_at, string, abi, rest_of, constant_tokens, any_group, arg_name, is_arg_name, no_arguments, has_none, fn_head, macro_end, type, output, generic, angle, angle_bracketed, parenthesized, arguments, segment, pieces, path, qualified, qpath, bound, bounds, reference, pointer, slice_or_array, tuple_or_paren, fn_arg, fn_pointer, implements, object, named, at_place, tuple_of, segments_bare, FnHead}
use Rattle.syn_lower_spec.specs.Own.{alone, comma_before, colon2_before, arrow_before, before_if, before_some, enclosed, lifetime_own, lit_own, lifetimes_own, extern_own, elements_own, count_segments, at_most, inner_count, qself_end, type_own, types_own, qself_own, segments_own, arguments_own, generics_own, generic_own, return_own, args_own, bounds_own, bound_own, segment_own, arg_own, no_more_types, no_more_segments, no_more_generics, no_more_args, no_more_bounds}
use Rattle.syn_lower_spec.specs.Fits.{fits_if, lifetimes_fit, is_string, has_kind, is_const, is_macro_delimiter, is_one_type, is_one_bound, position_fits, bare_segments, ends_well, type_fits, types_fit, qself_fits, segments_fit, arguments_fit, generics_fit, generic_fits, return_fits, args_fit, bounds_fit, bound_fits, goes_over, takes_angle, takes_round, name_stops, type_stops, segments_stop, arguments_stop, return_stops, bounds_stop, bound_stops, mac_stops}
use Rattle.syn_lower_spec.proofs.Same.{both_true, same_toks-refl, same_lit-refl, same_kind-true, not_true}
use Rattle.syn_lower_spec.proofs.Marks.{colon2_present, plus_present}
use Rattle.syn_lower_spec.proofs.Forms.{Alike, weaker}
use Rattle.syn_lower_spec.proofs.Parts.{types_alike, type_alike, type_is, at_place_alike, whole_segment_alike, generic_alike, fn_arg_alike, bound_alike, lifetime_alike}
use Rattle.syn_lower_spec.proofs.ReadBack.{ends_is, text_same, name_back, segment_name_back, lifetime_back, next_own, Commas, no_element, element, Joins, no_join, join, listed_back, joined_back}
use Rattle.syn_lower_spec.proofs.Behind.{or_true, Calm, nil_calm, comma_calm, gt_calm, semi_calm, plus_calm, as_calm, type_calm, arguments_calm, bound_calm, arguments_front, colon2_same}
use Rattle.syn_lower_spec.proofs.Fronts.{Front, type_begins, named_word, named_colon2, named_less, no_truth, word_not, not_for}

-- ---- lists of the trees, as elements

abbrev pub plus_before : List Tok → List Tok
plus_before l = alone 43 ∷ l

pub types_elements : (xs : Types) (e : Bool) (r : List Tok) → types_own xs e r ≡ elements_own type_own comma_before (t.types xs) e r
types_elements t.no_types e r = refl
types_elements (t.more_types x t.no_types) e r = refl
types_elements (t.more_types x (t.more_types y ys)) e r = ap (λ l. type_own x (comma_before l)) (types_elements (t.more_types y ys) e r)

pub generics_elements : (xs : Generics) (e : Bool) (r : List Tok) → generics_own xs e r ≡ elements_own generic_own comma_before (t.generics xs) e r
generics_elements t.no_generics e r = refl
generics_elements (t.more_generics x t.no_generics) e r = refl
generics_elements (t.more_generics x (t.more_generics y ys)) e r = ap (λ l. generic_own x (comma_before l)) (generics_elements (t.more_generics y ys) e r)

pub args_elements : (xs : FnArgs) (e : Bool) (r : List Tok) → args_own xs e r ≡ elements_own arg_own comma_before (t.args xs) e r
args_elements t.no_args e r = refl
args_elements (t.more_args n x t.no_args) e r = refl
args_elements (t.more_args n x (t.more_args m y ys)) e r = ap (λ l. arg_own (record { name = n; ty = x }) (comma_before l)) (args_elements (t.more_args m y ys) e r)

pub bounds_elements : (xs : Bounds) (r : List Tok) → bounds_own xs false r ≡ elements_own bound_own plus_before (t.bounds xs) false r
bounds_elements t.no_bounds r = refl
bounds_elements (t.more_bounds x t.no_bounds) r = refl
bounds_elements (t.more_bounds x (t.more_bounds y ys)) r = ap (λ l. bound_own x (plus_before l)) (bounds_elements (t.more_bounds y ys) r)

pub segments_elements : (ss : Segments) (r : List Tok) → segments_own 0 ss false r ≡ elements_own segment_own colon2_before (t.segments ss) false r
segments_elements t.no_segments r = refl
segments_elements (t.more_segments w a t.no_segments) r = refl
segments_elements (t.more_segments w a (t.more_segments v c ss)) r = ap (λ l. ident w ∷ arguments_own a (colon2_before l)) (segments_elements (t.more_segments v c ss) r)

pub segments_count : (ss : Segments) → count_segments ss ≡ length (t.segments ss)
segments_count t.no_segments = refl
segments_count (t.more_segments w a ss) = ap suc (segments_count ss)

pub bare_is : (ss : Segments) → segments_bare (t.segments ss) ≡ bare_segments ss
bare_is t.no_segments = refl
bare_is (t.more_segments w a ss) = ap (λ b. has_none a && b) (bare_is ss)

-- ---- what is after an element of a list

pub record Quiet (l : List Tok) : Type 0 where
  pub calm : Calm l
  pub no_plus : plus.at l ≡ false
  pub no_eq : eq.at l ≡ false
  pub no_colon : lone_colon.at l ≡ false

nil_quiet : Quiet []
unfolding sign_at
nil_quiet = record { calm = nil_calm; no_plus = refl; no_eq = refl; no_colon = refl }

comma_quiet : (l : List Tok) → Quiet (alone 44 ∷ l)
unfolding sign_at
comma_quiet l = record { calm = comma_calm l; no_plus = refl; no_eq = refl; no_colon = refl }

gt_quiet : (l : List Tok) → Quiet (alone 62 ∷ l)
unfolding sign_at
gt_quiet l = record { calm = gt_calm l; no_plus = refl; no_eq = refl; no_colon = refl }

next_quiet : {A : Type 0} (own : A → List Tok → List Tok) (xs : List A) (e : Bool) (r : List Tok) → Quiet r → Quiet (next_own own comma_before xs e r)
next_quiet own [] true r q = comma_quiet _
next_quiet own [] false r q = q
next_quiet own (x ∷ xs) e r q = comma_quiet _

plus_of : (b : Bool) (r : List Tok) → plus.at r ≡ false → (b && plus.at r) ≡ false
plus_of true r h = h
plus_of false r h = refl

pub quiet_stops : (b : Bool) (x : TypeTree) (r : List Tok) → Quiet r → type_stops b x r ≡ true
quiet_stops b x r q = type_calm r q.calm b x (plus_of b r q.no_plus)

-- ---- lifetimes of a bound

lifetimes_commas : (e : Bool) (ws : List Text) (r : List Tok) → Commas lifetime lifetime_own gt.at e r ws
unfolding sign_at
lifetimes_commas e [] r = no_element
lifetimes_commas e (w ∷ ws) r = element (lifetime_back w _) refl (lifetimes_commas e ws r)

pub lifetimes_back : (p : LifetimesTree) (r : List Tok) → lifetimes_fit p ≡ true → lifetimes.behind p (lifetimes_own p r) ≡ Some r
unfolding lifetimes lifetimes_own sign_at word_at
lifetimes_back p r h =
    rw (listed_back lifetime lifetime_own gt.at (λ k. lifetime_alike) (alone 62 ∷ r) refl refl p.1 p.0 (sym (ends_is p.0 p.1) ∙ h) (lifetimes_commas p.1 p.0 (alone 62 ∷ r))) refl

lifetimes_seen : (p : LifetimesTree) (r : List Tok) → lifetimes_fit p ≡ true → lifetimes_at (lifetimes_own p r) ≡ true
unfolding lifetimes_at lifetimes_own sign_at word_at lifetime_at
lifetimes_seen ([], true) r h = absurd cc
lifetimes_seen ([], false) r h = refl
lifetimes_seen (w ∷ ws, e) r h = refl

-- ---- optional pieces

lifetime_piece : (a : Option Text) (l : List Tok) → lifetime_at l ≡ false → (maybe lifetime_at lifetime).behind a (before_some a lifetime_own l) ≡ Some l
unfolding lifetime_at
lifetime_piece None l h = rw h refl
lifetime_piece (Some w) l h = lifetime_back w l

mut_piece : (m : Bool) (l : List Tok) → mutable.at l ≡ false → (flag mutable).behind m (before_if m (λ k. ident (codes "mut") ∷ k) l) ≡ Some l
unfolding word_at
mut_piece false l h = rw h refl
mut_piece true l h = refl

mut_no_lifetime : (m : Bool) (l : List Tok) → lifetime_at l ≡ false → lifetime_at (before_if m (λ k. ident (codes "mut") ∷ k) l) ≡ false
unfolding lifetime_at
mut_no_lifetime false l h = h
mut_no_lifetime true l h = refl

rest_back : (n : List Tok) → not (is_empty n) ≡ true → rest_of.behind n n ≡ Some []
unfolding rest_of
rest_back [] h = absurd cc
rest_back (x ∷ l) h = rw (same_toks-refl (x ∷ l)) refl

pub group_back : (d : Delimiter) (ts r : List Tok) → is_macro_delimiter d ≡ true → any_group.behind (d, ts) (enclosed d ts r) ≡ Some r
unfolding any_group same_group
group_back del.None ts r h = absurd cc
group_back _ ts r h = rw (toks-inside ts, same_toks-refl ts) refl

type_stands : (b : Bool) (x : TypeTree) (l n : List Tok) → (at_place type b).behind x l ≡ Some n → (type b).behind x l ≡ Some n
type_stands b x l n h =
    let a = at_place_alike {k = 0} types_alike b in
    let f = type_alike 0 b in
    f.sound l x n (type_is b l ∙ a.complete l x n h)

-- ---- one kind of type, by what it holds

module _ (b : Bool) (r : List Tok) where
  reference_step : (a : Option Text) (m : Bool) (x : TypeTree) (l : List Tok) → lifetime_at l ≡ false → mutable.at l ≡ false → (type false).behind x l ≡ Some r
      → (at_place type b).behind (t.reference a m x) (alone 38 ∷ before_some a lifetime_own (before_if m (λ k. ident (codes "mut") ∷ k) l)) ≡ Some r
  unfolding at_place reference sign_at
  reference_step a m x l h k i = rw (lifetime_piece a _ (mut_no_lifetime m l h), mut_piece m l k) i

  pointer_step : (m : Bool) (x : TypeTree) (l : List Tok) → (type false).behind x l ≡ Some r
      → (at_place type b).behind (t.ptr m x) (alone 42 ∷ ident (cond m (codes "mut") (codes "const")) ∷ l) ≡ Some r
  unfolding at_place pointer sign_at word_at
  pointer_step true x l h = h
  pointer_step false x l h = h

  slice_step : (x : TypeTree) (ts : List Tok) → (type true).behind x ts ≡ Some [] → (at_place type b).behind (t.slice x) (enclosed del.Bracket ts r) ≡ Some r
  unfolding at_place slice_or_array sign_at word_at group_at
  slice_step x ts h = rw (toks-inside ts, h) refl

  array_step : (x : TypeTree) (n ts : List Tok) → not (is_empty n) ≡ true → (type true).behind x ts ≡ Some (alone 59 ∷ n) → (at_place type b).behind (t.array x n) (enclosed del.Bracket ts r) ≡ Some r
  unfolding at_place slice_or_array sign_at word_at group_at
  array_step x n ts k h = rw (toks-inside ts, h, rest_back n k) refl

  tuple_step : (xs : Types) (e : Bool) (ts : List Tok) → tuple_of (t.types xs) e ≡ Some (t.types xs, e) → (listed comma is_empty (type true)).behind (t.types xs, e) ts ≡ Some []
      → (at_place type b).behind (t.tuple xs e) (enclosed del.Parenthesis ts r) ≡ Some r
  unfolding at_place tuple_or_paren sign_at word_at group_at
  tuple_step xs e ts k h = rw (toks-inside ts, k, h) refl

  paren_step : (x : TypeTree) (ts : List Tok) → (listed comma is_empty (type true)).behind (x ∷ [], false) ts ≡ Some [] → (at_place type b).behind (t.paren x) (enclosed del.Parenthesis ts r) ≡ Some r
  unfolding at_place tuple_or_paren sign_at word_at group_at
  paren_step x ts h = rw (toks-inside ts, h) refl

  never_step : (at_place type b).behind t.never (alone 33 ∷ r) ≡ Some r
  unfolding at_place sign_at
  never_step = refl

  infer_step : (at_place type b).behind t.infer (ident (codes "_") ∷ r) ≡ Some r
  unfolding at_place sign_at word_at
  infer_step = refl

  impl_step : (bs : Bounds) (l : List Tok) → (bounds type b).behind (t.bounds bs, false) l ≡ Some r → (at_place type b).behind (t.impl_trait bs false) (ident (codes "impl") ∷ l) ≡ Some r
  unfolding at_place implements sign_at word_at fn_at lifetimes_at group_at
  impl_step bs l h = h

  object_step : (bs : Bounds) (l : List Tok) → (bounds type b).behind (t.bounds bs, false) l ≡ Some r → (at_place type b).behind (t.trait_object bs false) (ident (codes "dyn") ∷ l) ≡ Some r
  unfolding at_place object sign_at word_at fn_at lifetimes_at group_at
  object_step bs l h = h

-- ---- a function pointer

has_str : (o : Option LitKind) → has_kind o kind.Str ≡ true → o ≡ Some kind.Str
has_str None h = absurd cc
has_str (Some j) h = ap Some (same_kind-true j kind.Str h)

pub string_back : (x : LitTree) (r : List Tok) → is_string x ≡ true → string.behind x (lit_own x r) ≡ Some r
unfolding string lit_own
string_back x r h = by_kind x.kind x.text h
  where
    by_kind : (k : LitKind) (text : Text) → is_string (record { kind = k; text = text }) ≡ true → string.behind (record { kind = k; text = text }) (lit_own (record { kind = k; text = text }) r) ≡ Some r
    by_kind kind.Str text h = rw (has_str (kind_of text) h, same_lit-refl (record { kind = kind.Str; text = text })) refl
    by_kind _ text h = absurd cc

pub string_seen : (x : LitTree) (r : List Tok) → is_string x ≡ true → string_at (lit_own x r) ≡ true
unfolding string_at lit_own
string_seen x r h = by_kind x.kind x.text h
  where
    by_kind : (k : LitKind) (text : Text) → is_string (record { kind = k; text = text }) ≡ true → string_at (lit_own (record { kind = k; text = text }) r) ≡ true
    by_kind kind.Str text h = rw (has_str (kind_of text) h) refl
    by_kind _ text h = absurd cc

abbrev pub fn_tokens : List Tok → List Tok
fn_tokens l = ident (codes "fn") ∷ l

abbrev pub head_own : FnHead → List Tok → List Tok
head_own h l = before_some h.0 lifetimes_own (before_if h.1.0 (λ k. ident (codes "unsafe") ∷ k) (before_some h.1.1 extern_own (fn_tokens l)))

extern_piece : (a : Option (Option LitTree)) (l : List Tok) → fits_if (fits_if is_string) a ≡ true
    → (maybe extern_word.at abi).behind a (before_some a extern_own (fn_tokens l)) ≡ Some (fn_tokens l)
unfolding word_at string_at
extern_piece None l h = refl
extern_piece (Some None) l h = refl
extern_piece (Some (Some x)) l h = rw (string_seen x (fn_tokens l) h) (string_back x (fn_tokens l) h)

unsafe_piece : (u : Bool) (a : Option (Option LitTree)) (l : List Tok)
    → (flag unsafe_word).behind u (before_if u (λ k. ident (codes "unsafe") ∷ k) (before_some a extern_own (fn_tokens l))) ≡ Some (before_some a extern_own (fn_tokens l))
unfolding word_at
unsafe_piece true a l = refl
unsafe_piece false None l = refl
unsafe_piece false (Some s) l = refl

lifetimes_piece : (f : Option LifetimesTree) (u : Bool) (a : Option (Option LitTree)) (l : List Tok) → fits_if lifetimes_fit f ≡ true
    → (maybe lifetimes_at lifetimes).behind f (before_some f lifetimes_own (before_if u (λ k. ident (codes "unsafe") ∷ k) (before_some a extern_own (fn_tokens l)))) ≡ Some (before_if u (λ k. ident (codes "unsafe") ∷ k) (before_some a extern_own (fn_tokens l)))
unfolding lifetimes_at word_at sign_at
lifetimes_piece (Some p) u a l h = rw (lifetimes_seen p _ h) (lifetimes_back p _ h)
lifetimes_piece None true a l h = refl
lifetimes_piece None false (Some s) l h = refl
lifetimes_piece None false None l h = refl

fn_seen : (h : FnHead) (l : List Tok) → fits_if lifetimes_fit h.0 ≡ true → fn_at (head_own h l) ≡ true
unfolding fn_at word_at lifetimes_at sign_at
fn_seen (Some p, (u, a)) l k = rw (lifetimes_seen p _ k) refl
fn_seen (None, (true, a)) l k = refl
fn_seen (None, (false, Some s)) l k = refl
fn_seen (None, (false, None)) l k = refl

-- no other kind of type begins so
fn_first : (b : Bool) (x : TypeTree) (h : FnHead) (l : List Tok) → fits_if lifetimes_fit h.0 ≡ true → (at_place type b).behind x (head_own h l) ≡ (fn_pointer type).behind x (head_own h l)
unfolding at_place sign_at word_at group_at lifetimes_own
fn_first b x (Some p, (u, a)) l k = rw (fn_seen (Some p, (u, a)) l k) refl
fn_first b x (None, (true, a)) l k = rw (fn_seen (None, (true, a)) l k) refl
fn_first b x (None, (false, Some s)) l k = rw (fn_seen (None, (false, Some s)) l k) refl
fn_first b x (None, (false, None)) l k = rw (fn_seen (None, (false, None)) l k) refl

fn_step : (b : Bool) (h : FnHead) (xs : FnArgs) (e : Bool) (o : ReturnTree) (ts l r : List Tok) → fits_if lifetimes_fit h.0 ≡ true → fits_if (fits_if is_string) h.1.1 ≡ true
    → (listed comma is_empty (fn_arg type)).behind (t.args xs, e) ts ≡ Some [] → (output type false).behind o l ≡ Some r
    → (at_place type b).behind (t.fn_ptr h.0 h.1.0 h.1.1 xs e o) (head_own h (enclosed del.Parenthesis ts l)) ≡ Some r
unfolding fn_pointer fn_head word_at group_at
fn_step b h xs e o ts l r f s i j =
    fn_first b (t.fn_ptr h.0 h.1.0 h.1.1 xs e o) h (enclosed del.Parenthesis ts l) f
    ∙ (rw (lifetimes_piece h.0 h.1.0 h.1.1 (enclosed del.Parenthesis ts l) f, unsafe_piece h.1.0 h.1.1 (enclosed del.Parenthesis ts l), extern_piece h.1.1 (enclosed del.Parenthesis ts l) s, toks-inside ts, i) j)

-- ---- arguments and segments, by what they hold

other : (a b : Bool) → a ≡ false → (a || b) ≡ true → b ≡ true
other true b h k = absurd cc
other false b h k = k

module _ (m : List Tok) where
  angle_step : (s : PathStyle) (c : Bool) (gs : Generics) (e : Bool) (l : List Tok) → takes_angle s c ≡ true
      → (listed comma gt.at (generic type)).behind (t.generics gs, e) l ≡ Some (alone 62 ∷ m)
      → (arguments type s).behind (t.angle c gs e) (before_if c colon2_before (alone 60 ∷ l)) ≡ Some m
  unfolding arguments angle_bracketed angle angle_at turbofish_at sign_at
  angle_step style.Mod c gs e l k h = absurd cc
  angle_step style.Expr true gs e l k h = rw h refl
  angle_step style.Expr false gs e l k h = absurd cc
  angle_step style.Type true gs e l k h = rw h refl
  angle_step style.Type false gs e l k h = rw h refl

  round_step : (s : PathStyle) (xs : Types) (e : Bool) (o : ReturnTree) (ts l : List Tok) → takes_round s ≡ true
      → (listed comma is_empty (type true)).behind (t.types xs, e) ts ≡ Some [] → (output type false).behind o l ≡ Some m
      → (arguments type s).behind (t.round xs e o) (enclosed del.Parenthesis ts l) ≡ Some m
  unfolding arguments parenthesized angle_at round_at sign_at group_at
  round_step style.Mod xs e o ts l k h i = absurd cc
  round_step style.Expr xs e o ts l k h i = absurd cc
  round_step style.Type xs e o ts l k h i = rw (toks-inside ts, h) i

  none_step : (s : PathStyle) (w : Text) → stands_alone w ≡ false → name_stops s w m ≡ true → (arguments type s).behind t.no_arguments m ≡ Some m
  unfolding arguments no_arguments
  none_step style.Mod w h k = refl
  none_step style.Expr w h k = rw (not_true (turbofish_at m) (other (stands_alone w) (not (turbofish_at m)) h k)) refl
  none_step style.Type w h k =
      let (j, n) = both_true (not (angle_at m)) (not (round_at m)) (other (stands_alone w) (not (angle_at m) && not (round_at m)) h k) in
      rw (not_true (angle_at m) j, not_true (round_at m) n) refl

  pub segment_step : (s : PathStyle) (w : Text) (a : ArgumentsTree) → is_segment w ≡ true → (not (stands_alone w) || has_none a) ≡ true
      → (stands_alone w ≡ false → (arguments type s).behind a (arguments_own a m) ≡ Some m)
      → (segment type s).behind (record { ident = w; arguments = a }) (ident w ∷ arguments_own a m) ≡ Some m
  unfolding segment no_arguments
  segment_step s w a h k b = rw (segment_name_back w (arguments_own a m) h) (by_word (stands_alone w) refl k)
    where
      by_args : (a : ArgumentsTree) → has_none a ≡ true → no_arguments.behind a (arguments_own a m) ≡ Some m
      by_args t.no_arguments h = refl
      by_args (t.angle c gs e) h = absurd cc
      by_args (t.round xs e o) h = absurd cc

      by_word : (v : Bool) → stands_alone w ≡ v → (not v || has_none a) ≡ true → cond v (no_arguments.behind a (arguments_own a m)) ((arguments type s).behind a (arguments_own a m)) ≡ Some m
      by_word true e k = by_args a k
      by_word false e k = b e

-- ---- paths, by their segments

pieces_step : (s : PathStyle) (b : Bool) (ss : Segments) (r : List Tok) → no_more_segments ss ≡ false → colon2.at r ≡ false
    → Joins (segment type s) segment_own colon2_before r (t.segments ss)
    → (pieces type s).behind (b, t.segments ss) (before_if b colon2_before (segments_own 0 ss false r)) ≡ Some r
unfolding pieces sign_at
pieces_step s b t.no_segments r h c j = absurd cc
pieces_step s b (t.more_segments w a ss) r h c j =
    let e = segments_elements (t.more_segments w a ss) r in
    let i = joined_back colon2 (segment type s) segment_own colon2_before colon2_present (λ k. whole_segment_alike s) (λ l. refl) (λ l. refl) r c (record { ident = w; arguments = a }) (t.segments ss) j in
    by_colon b (subst (λ l. (joined colon2 (segment type s)).behind (t.segments (t.more_segments w a ss)) l ≡ Some r) (sym e) i)
  where
    by_colon : (b : Bool) → (joined colon2 (segment type s)).behind (t.segments (t.more_segments w a ss)) (segments_own 0 (t.more_segments w a ss) false r) ≡ Some r
        → (pieces type s).behind (b, t.segments (t.more_segments w a ss)) (before_if b colon2_before (segments_own 0 (t.more_segments w a ss) false r)) ≡ Some r
    by_colon true h = h
    by_colon false h = h

bare_mac : (ss : Segments) (r : List Tok) → mac_stops t.no_qself ss r ≡ true → (segments_bare (t.segments ss) && not_ne.at r) ≡ false
bare_mac ss r h = rw (bare_is ss) (not_true (bare_segments ss && not_ne.at r) h)

-- a path, from its pieces
path_step : (b l : Bool) (ss : Segments) (k r : List Tok) → (pieces type style.Type).behind (l, t.segments ss) k ≡ Some r → mac_stops t.no_qself ss r ≡ true → less.at k ≡ false
    → (named type).behind (t.path t.no_qself l ss false) k ≡ Some r
unfolding named qpath path macro_end
path_step b l ss k r h m i = rw (i, h, bare_mac ss r m) refl

mac_step : (b l : Bool) (ss : Segments) (d : Delimiter) (ts k r : List Tok) → (pieces type style.Type).behind (l, t.segments ss) k ≡ Some (alone 33 ∷ enclosed d ts r)
    → bare_segments ss ≡ true → is_macro_delimiter d ≡ true → less.at k ≡ false
    → (named type).behind (t.mac l ss false d ts) k ≡ Some r
unfolding named qpath path macro_end sign_at
mac_step b l ss d ts k r h m g i = rw (i, h, bare_is ss, m) (group_back d ts r g)

-- where a path begins, by a word or `::`
path_begins : (b : Bool) (x : TypeTree) (l : Bool) (ss : Segments) (e : Bool) (r : List Tok) → no_more_segments ss ≡ false → segments_fit 0 style.Type ss ≡ true
    → (at_place type b).behind x (before_if l colon2_before (segments_own 0 ss e r)) ≡ (named type).behind x (before_if l colon2_before (segments_own 0 ss e r))
path_begins b x true ss e r h f = named_colon2 b x (segments_own 0 ss e r)
path_begins b x false t.no_segments e r h f = absurd cc
path_begins b x false (t.more_segments w a ss) e r h f = let (g, rest) = both_true (is_segment w) _ f in named_word b x w _ g

no_less : (l : Bool) (ss : Segments) (e : Bool) (r : List Tok) → no_more_segments ss ≡ false → less.at (before_if l colon2_before (segments_own 0 ss e r)) ≡ false
unfolding sign_at
no_less true ss e r h = refl
no_less false t.no_segments e r h = absurd cc
no_less false (t.more_segments w a ss) e r h = refl

-- the segments that are inside of `<` and `>`, and those after
pub segments_split : (n : ℕ) (ss : Segments) (r : List Tok) → nat_lt (suc n) (count_segments ss) ≡ true
    → segments_own (suc n) ss false r ≡ elements_own segment_own colon2_before (take (suc n) (t.segments ss)) false (alone 62 ∷ colon2_before (elements_own segment_own colon2_before (drop (suc n) (t.segments ss)) false r))
segments_split n t.no_segments r h = absurd (grind (arith, nat_tests, h))
segments_split n (t.more_segments w a t.no_segments) r h = absurd (grind (arith, nat_tests, h))
segments_split zero (t.more_segments w a (t.more_segments v c ss)) r h = ap (λ l. ident w ∷ arguments_own a (alone 62 ∷ colon2_before l)) (segments_elements (t.more_segments v c ss) r)
segments_split (suc n) (t.more_segments w a (t.more_segments v c ss)) r h =
    let k : nat_lt (suc n) (count_segments (t.more_segments v c ss)) ≡ true = grind (arith, nat_tests, h) in
    ap (λ l. ident w ∷ arguments_own a (colon2_before l)) (segments_split n (t.more_segments v c ss) r k)

-- ---- qualified paths

pub at_most_zero : (k : ℕ) → at_most 0 k ≡ 0
at_most_zero k = by_bool (nat_le 0 k) refl
  where
    by_bool : (b : Bool) → nat_le 0 k ≡ b → cond b 0 k ≡ 0
    by_bool true e = refl
    by_bool false e = absurd (grind (arith, nat_tests, e))

pub at_most_less : (n k : ℕ) → nat_lt n k ≡ true → at_most n k ≡ n
at_most_less n k h = let e : nat_le n k ≡ true = grind (arith, nat_tests, h) in rw e refl

module _ (s : PathStyle) (x : TypeTree) (ss : Segments) (l r : List Tok) where
  qualified_step : (k : List Tok) → (type true).behind x l ≡ Some (alone 62 ∷ colon2_before k) → (joined colon2 (segment type s)).behind (t.segments ss) k ≡ Some r
      → (qpath type s).behind (t.qself x 0 false, record { leading = true; segments = t.segments ss; trailing = false }) (alone 60 ∷ l) ≡ Some r
  unfolding qpath qualified sign_at word_at
  qualified_step k h i = rw (h, i) refl

  qualified_as_step : (n : ℕ) (c : Bool) (k m : List Tok) → nat_le (suc n) (length (t.segments ss)) ≡ true → (type true).behind x l ≡ Some (ident (codes "as") ∷ k)
      → (pieces type style.Type).behind (c, take (suc n) (t.segments ss)) k ≡ Some (alone 62 ∷ colon2_before m)
      → (joined colon2 (segment type s)).behind (drop (suc n) (t.segments ss)) m ≡ Some r
      → (qpath type s).behind (t.qself x (suc n) true, record { leading = c; segments = t.segments ss; trailing = false }) (alone 60 ∷ l) ≡ Some r
  unfolding qpath qualified sign_at word_at
  qualified_as_step n c k m e h i j = rw (e, h, i, j) refl

-- a qualified path as a type
named_qself : (b : Bool) (x : TypeTree) (n : ℕ) (a c : Bool) (ss : Segments) (l r : List Tok)
    → (qpath type style.Type).behind (t.qself x n a, record { leading = c; segments = t.segments ss; trailing = false }) (alone 60 ∷ l) ≡ Some r
    → (at_place type b).behind (t.path (t.qself x n a) c ss false) (alone 60 ∷ l) ≡ Some r
unfolding named macro_end
named_qself b x n a c ss l r h = named_less b (t.path (t.qself x n a) c ss false) l ∙ (rw h refl)

-- pieces of which the first is there
elements_pieces : (s : PathStyle) (b : Bool) (x : SegmentTree) (xs : List SegmentTree) (r : List Tok) → colon2.at r ≡ false → Joins (segment type s) segment_own colon2_before r (x ∷ xs)
    → (pieces type s).behind (b, x ∷ xs) (before_if b colon2_before (elements_own segment_own colon2_before (x ∷ xs) false r)) ≡ Some r
unfolding pieces sign_at
elements_pieces s true x xs r c j = joined_back colon2 (segment type s) segment_own colon2_before colon2_present (λ k. whole_segment_alike s) (λ l. refl) (λ l. refl) r c x xs j
elements_pieces s false x xs r c j = joined_back colon2 (segment type s) segment_own colon2_before colon2_present (λ k. whole_segment_alike s) (λ l. refl) (λ l. refl) r c x xs j

pub colon2_seen : (l : List Tok) → colon2.at (colon2_before l) ≡ true
unfolding sign_at
colon2_seen l = refl

segments_joined : (s : PathStyle) (xs : List SegmentTree) (r : List Tok) → is_nil xs ≡ false → colon2.at r ≡ false → Joins (segment type s) segment_own colon2_before r xs
    → (joined colon2 (segment type s)).behind xs (elements_own segment_own colon2_before xs false r) ≡ Some r
segments_joined s [] r h c j = absurd cc
segments_joined s (x ∷ xs) r h c j = joined_back colon2 (segment type s) segment_own colon2_before colon2_present (λ k. whole_segment_alike s) colon2_seen (λ l. refl) r c x xs j

some_left : {A : Type 0} (n : ℕ) (xs : List A) → nat_lt n (length xs) ≡ true → is_nil (drop n xs) ≡ false
some_left n [] h = absurd (grind (arith, nat_tests, h))
some_left zero (x ∷ xs) h = refl
some_left (suc n) (x ∷ xs) h = let e : nat_lt n (length xs) ≡ true = grind (arith, nat_tests, h) in some_left n xs e

gt_no_colon2 : (l : List Tok) → colon2.at (alone 62 ∷ l) ≡ false
unfolding sign_at
gt_no_colon2 l = refl

inside_pieces : (n : ℕ) (c : Bool) (xs : List SegmentTree) (r : List Tok) → nat_lt 0 (length xs) ≡ true
    → Joins (segment type style.Type) segment_own colon2_before (alone 62 ∷ r) (take (suc n) xs)
    → (pieces type style.Type).behind (c, take (suc n) xs) (before_if c colon2_before (elements_own segment_own colon2_before (take (suc n) xs) false (alone 62 ∷ r))) ≡ Some (alone 62 ∷ r)
inside_pieces n c [] r h j = absurd (grind (arith, nat_tests, h))
inside_pieces n c (x ∷ xs) r h j = elements_pieces style.Type c x (take n xs) (alone 62 ∷ r) (gt_no_colon2 r) j

-- ---- bounds

question_piece : (q : Bool) (l : List Tok) → question.at l ≡ false → (flag question).behind q (before_if q (λ k. alone 63 ∷ k) l) ≡ Some l
unfolding sign_at
question_piece true l h = refl
question_piece false l h = rw h refl

bound_lifetimes_piece : (f : Option LifetimesTree) (l : List Tok) → fits_if lifetimes_fit f ≡ true → lifetimes_at l ≡ false → (maybe lifetimes_at lifetimes).behind f (before_some f lifetimes_own l) ≡ Some l
bound_lifetimes_piece None l h k = rw k refl
bound_lifetimes_piece (Some p) l h k = rw (lifetimes_seen p l h) (lifetimes_back p l h)

for_no_question : (f : Option LifetimesTree) (l : List Tok) → question.at l ≡ false → question.at (before_some f lifetimes_own l) ≡ false
unfolding sign_at lifetimes_own
for_no_question None l h = h
for_no_question (Some p) l h = refl

bound_no_lifetime : (q : Bool) (f : Option LifetimesTree) (l : List Tok) → lifetime_at l ≡ false → lifetime_at (before_if q (λ k. alone 63 ∷ k) (before_some f lifetimes_own l)) ≡ false
unfolding lifetime_at lifetimes_own
bound_no_lifetime true f l h = refl
bound_no_lifetime false None l h = h
bound_no_lifetime false (Some p) l h = refl

trait_step : (q : Bool) (f : Option LifetimesTree) (c : Bool) (ss : Segments) (l r : List Tok) → fits_if lifetimes_fit f ≡ true → question.at l ≡ false → lifetimes_at l ≡ false → lifetime_at l ≡ false
    → (pieces type style.Type).behind (c, t.segments ss) l ≡ Some r
    → (bound type).behind (t.a_trait q f c ss false) (before_if q (λ k. alone 63 ∷ k) (before_some f lifetimes_own l)) ≡ Some r
unfolding bound path
trait_step q f c ss l r h i j k p = rw (bound_no_lifetime q f l k, question_piece q (before_some f lifetimes_own l) (for_no_question f l i), bound_lifetimes_piece f l h j, p) refl

pub outlives_step : (w : Text) (r : List Tok) → (bound type).behind (t.outlives w) (lifetime_own w r) ≡ Some r
unfolding bound lifetime_at
outlives_step w r = lifetime_back w r

path_no_question : (c : Bool) (ss : Segments) (r : List Tok) → no_more_segments ss ≡ false → question.at (before_if c colon2_before (segments_own 0 ss false r)) ≡ false
unfolding sign_at
path_no_question true ss r h = refl
path_no_question false t.no_segments r h = absurd cc
path_no_question false (t.more_segments w a ss) r h = refl

path_no_lifetime : (c : Bool) (ss : Segments) (r : List Tok) → no_more_segments ss ≡ false → lifetime_at (before_if c colon2_before (segments_own 0 ss false r)) ≡ false
unfolding lifetime_at
path_no_lifetime true ss r h = refl
path_no_lifetime false t.no_segments r h = absurd cc
path_no_lifetime false (t.more_segments w a ss) r h = refl

path_no_lifetimes : (c : Bool) (ss : Segments) (r : List Tok) → no_more_segments ss ≡ false → segments_fit 0 style.Type ss ≡ true → lifetimes_at (before_if c colon2_before (segments_own 0 ss false r)) ≡ false
unfolding lifetimes_at word_at
path_no_lifetimes true ss r h f = refl
path_no_lifetimes false t.no_segments r h f = absurd cc
path_no_lifetimes false (t.more_segments w a ss) r h f = let (g, rest) = both_true (is_segment w) _ f in rw (word_not w (codes "for") g not_for) refl

several_step : (bs : Bounds) (l r : List Tok) → (joined plus (bound type)).behind (t.bounds bs) l ≡ Some r → (bounds type true).behind (t.bounds bs, false) l ≡ Some r
unfolding bounds
several_step bs l r h = h

one_step : (x : BoundTree) (l r : List Tok) → (bound type).behind x l ≡ Some r → (bounds type false).behind (x ∷ [], false) l ≡ Some r
unfolding bounds
one_step x l r h = h

pub plus_seen : (l : List Tok) → plus.at (plus_before l) ≡ true
unfolding sign_at
plus_seen l = refl

-- ---- generic arguments, outputs, arguments of function pointers

pub a_lifetime_step : (w : Text) (r : List Tok) → (generic type).behind (t.a_lifetime w) (lifetime_own w r) ≡ Some r
unfolding generic lifetime_at
a_lifetime_step w r = lifetime_back w r

pub const_step : (ts r : List Tok) → is_const ts ≡ true → (generic type).behind (t.a_const ts) (ts ++ r) ≡ Some r
unfolding generic lifetime_at const_at brace_at group_at constant_tokens
const_step (literal text ∷ []) r h = rw (same_toks-refl (literal text ∷ [])) refl
const_step (ident text ∷ []) r h = rw (h, same_toks-refl (ident text ∷ [])) refl
const_step (punct c spacing.Alone ∷ literal text ∷ []) r h =
    let (a, b) = both_true (c == 45) (is_number text) h in rw (a, b, same_toks-refl (punct c spacing.Alone ∷ literal text ∷ [])) refl
const_step (group del.Brace i ∷ []) r h = rw (same_toks-refl (group del.Brace i ∷ [])) refl
const_step _ r h = absurd cc

const_no_gt : (ts r : List Tok) → is_const ts ≡ true → gt.at (ts ++ r) ≡ false
unfolding sign_at
const_no_gt (literal text ∷ []) r h = refl
const_no_gt (ident text ∷ []) r h = refl
const_no_gt (punct c spacing.Alone ∷ literal text ∷ []) r h =
    let (a, b) = both_true (c == 45) (is_number text) h in let e : c ≡ 45 = grind (arith, nat_tests, a) in rw e refl
const_no_gt (group del.Brace i ∷ []) r h = refl
const_no_gt _ r h = absurd cc

name_no_truth : (w : Text) → not (is_reserved_word w) ≡ true → is_truth w ≡ false
unfolding is_segment
name_no_truth w h = no_truth w (rw (not_true (is_reserved_word w) h) refl)

pub assoc_step : (w : Text) (x : TypeTree) (l r : List Tok) → not (is_reserved_word w) ≡ true → (type true).behind x l ≡ Some r → (generic type).behind (t.an_assoc w x) (ident w ∷ alone 61 ∷ l) ≡ Some r
unfolding generic lifetime_at const_at brace_at group_at assoc_at sign_at
assoc_step w x l r h i = rw (name_no_truth w h, h, name_back w (alone 61 ∷ l) h, i) refl

a_type_step : (x : TypeTree) (l m r : List Tok) → Front l m → eq.at m ≡ false → (type true).behind x l ≡ Some r → (generic type).behind (t.a_type x) l ≡ Some r
unfolding generic
a_type_step x l m r f e h = rw (f.no_lifetime, f.no_const, f.no_assoc e, h) refl

pub default_step : (r : List Tok) → arrow.at r ≡ false → (output type false).behind t.default r ≡ Some r
unfolding output
default_step r h = rw h refl

pub given_step : (x : TypeTree) (l r : List Tok) → (type false).behind x l ≡ Some r → (output type false).behind (t.given x) (arrow_before l) ≡ Some r
unfolding output sign_at
given_step x l r h = h

pub named_arg_step : (w : Text) (x : TypeTree) (l r : List Tok) → is_arg_name w ≡ true → (type true).behind x l ≡ Some r → (fn_arg type).behind (record { name = Some w; ty = x }) (ident w ∷ alone 58 ∷ l) ≡ Some r
unfolding fn_arg arg_name_at arg_name sign_at
named_arg_step w x l r h i = rw (h, text_same w, i) refl

arg_step : (x : TypeTree) (l m r : List Tok) → Front l m → lone_colon.at m ≡ false → (type true).behind x l ≡ Some r → (fn_arg type).behind (record { name = None; ty = x }) l ≡ Some r
unfolding fn_arg
arg_step x l m r f c h = rw (f.no_name c, h) refl

-- ---- all together

tuple_is : (xs : Types) (e : Bool) → (ends_well (no_more_types xs) e && not (is_one_type xs && not e)) ≡ true → tuple_of (t.types xs) e ≡ Some (t.types xs, e)
tuple_is t.no_types e h = refl
tuple_is (t.more_types x t.no_types) true h = refl
tuple_is (t.more_types x t.no_types) false h = absurd cc
tuple_is (t.more_types x (t.more_types y ys)) e h = refl

pub types_end : (xs : Types) (e : Bool) → ends_well (no_more_types xs) e ≡ not (is_nil (t.types xs) && e)
types_end t.no_types e = refl
types_end (t.more_types x xs) e = refl

pub generics_end : (xs : Generics) (e : Bool) → ends_well (no_more_generics xs) e ≡ not (is_nil (t.generics xs) && e)
generics_end t.no_generics e = refl
generics_end (t.more_generics x xs) e = refl

pub args_end : (xs : FnArgs) (e : Bool) → ends_well (no_more_args xs) e ≡ not (is_nil (t.args xs) && e)
args_end t.no_args e = refl
args_end (t.more_args n x xs) e = refl

pub nil_comma : comma.at [] ≡ false
unfolding sign_at
nil_comma = refl

gt_ends : (r : List Tok) → gt.at (alone 62 ∷ r) ≡ true
unfolding sign_at
gt_ends r = refl

gt_comma : (r : List Tok) → comma.at (alone 62 ∷ r) ≡ false
unfolding sign_at
gt_comma r = refl

types_listed : (xs : Types) (e : Bool) → ends_well (no_more_types xs) e ≡ true → Commas (type true) type_own is_empty e [] (t.types xs)
    → (listed comma is_empty (type true)).behind (t.types xs, e) (types_own xs e []) ≡ Some []
types_listed xs e h c =
    subst (λ l. (listed comma is_empty (type true)).behind (t.types xs, e) l ≡ Some []) (sym (types_elements xs e []))
    (listed_back (type true) type_own is_empty (λ k. type_alike k true) [] refl nil_comma e (t.types xs) (sym (types_end xs e) ∙ h) c)

args_listed : (xs : FnArgs) (e : Bool) → ends_well (no_more_args xs) e ≡ true → Commas (fn_arg type) arg_own is_empty e [] (t.args xs)
    → (listed comma is_empty (fn_arg type)).behind (t.args xs, e) (args_own xs e []) ≡ Some []
args_listed xs e h c =
    subst (λ l. (listed comma is_empty (fn_arg type)).behind (t.args xs, e) l ≡ Some []) (sym (args_elements xs e []))
    (listed_back (fn_arg type) arg_own is_empty (λ k. fn_arg_alike {k = k} types_alike) [] refl nil_comma e (t.args xs) (sym (args_end xs e) ∙ h) c)

generics_listed : (gs : Generics) (e : Bool) (m : List Tok) → ends_well (no_more_generics gs) e ≡ true → Commas (generic type) generic_own gt.at e (alone 62 ∷ m) (t.generics gs)
    → (listed comma gt.at (generic type)).behind (t.generics gs, e) (generics_own gs e (alone 62 ∷ m)) ≡ Some (alone 62 ∷ m)
generics_listed gs e m h c =
    subst (λ l. (listed comma gt.at (generic type)).behind (t.generics gs, e) l ≡ Some (alone 62 ∷ m)) (sym (generics_elements gs e (alone 62 ∷ m)))
    (listed_back (generic type) generic_own gt.at (λ k. generic_alike {k = k} types_alike) (alone 62 ∷ m) (gt_ends m) (gt_comma m) e (t.generics gs) (sym (generics_end gs e) ∙ h) c)

pub bound_whole : (k : ℕ) → Alike k (bound type) (bound type)
bound_whole k = weaker (bound_alike {k = k} types_alike)

bounds_joined : (bs : Bounds) (r : List Tok) → no_more_bounds bs ≡ false → plus.at r ≡ false → Joins (bound type) bound_own plus_before r (t.bounds bs)
    → (joined plus (bound type)).behind (t.bounds bs) (bounds_own bs false r) ≡ Some r
bounds_joined t.no_bounds r h p j = absurd cc
bounds_joined (t.more_bounds b bs) r h p j =
    subst (λ l. (joined plus (bound type)).behind (t.bounds (t.more_bounds b bs)) l ≡ Some r) (sym (bounds_elements (t.more_bounds b bs) r))
    (joined_back plus (bound type) bound_own plus_before plus_present bound_whole plus_seen (λ l. refl) r p b (t.bounds bs) j)

first_bound : (b : BoundTree) (r : List Tok) → Joins (bound type) bound_own plus_before r (b ∷ []) → (bound type).behind b (bound_own b r) ≡ Some r
first_bound b r (join h j) = h

-- several, or one
bounds_step : (b : Bool) (bs : Bounds) (r : List Tok) → no_more_bounds bs ≡ false → (b || is_one_bound bs) ≡ true → not (b && plus.at r) ≡ true → Joins (bound type) bound_own plus_before r (t.bounds bs)
    → (bounds type b).behind (t.bounds bs, false) (bounds_own bs false r) ≡ Some r
bounds_step true bs r h o p j = several_step bs (bounds_own bs false r) r (bounds_joined bs r h (not_true (plus.at r) p) j)
bounds_step false t.no_bounds r h o p j = absurd cc
bounds_step false (t.more_bounds b t.no_bounds) r h o p j = one_step b (bound_own b r) r (first_bound b r j)
bounds_step false (t.more_bounds b (t.more_bounds c bs)) r h o p j = absurd cc

follows : (s : PathStyle) (w v : Text) (a : ArgumentsTree) (l : List Tok) → arguments_stop s w a (colon2_before (ident v ∷ [])) ≡ true → arguments_stop s w a (colon2_before (ident v ∷ l)) ≡ true
follows s w v a l h = arguments_front (colon2_before (ident v ∷ l)) (colon2_before (ident v ∷ [])) (colon2_same v l []) s w a ∙ h

bang_no_colon2 : (l : List Tok) → colon2.at (alone 33 ∷ l) ≡ false
unfolding sign_at
bang_no_colon2 l = refl

-- no name goes on at `!`
bang_names : (l : List Tok) (s : PathStyle) (w : Text) → name_stops s w (alone 33 ∷ l) ≡ true
unfolding angle_at turbofish_at round_at sign_at group_at
bang_names l style.Mod w = refl
bang_names l style.Expr w = or_true (stands_alone w)
bang_names l style.Type w = or_true (stands_alone w)

bare_stops : (ss : Segments) (l : List Tok) → bare_segments ss ≡ true → ((s : PathStyle) (w : Text) → name_stops s w l ≡ true) → segments_stop style.Type ss l ≡ true
bare_stops t.no_segments l h n = refl
bare_stops (t.more_segments w t.no_arguments t.no_segments) l h n = n style.Type w
bare_stops (t.more_segments w (t.angle c gs e) t.no_segments) l h n = absurd cc
bare_stops (t.more_segments w (t.round xs e o) t.no_segments) l h n = absurd cc
bare_stops (t.more_segments w a (t.more_segments v d ss)) l h n = let (g, i) = both_true (has_none a) _ h in bare_stops (t.more_segments v d ss) l i n

semi_no_plus : (n : List Tok) → plus.at (alone 59 ∷ n) ≡ false
unfolding sign_at
semi_no_plus n = refl

none_left : (n : ℕ) (r : List Tok) (s : PathStyle) → Joins (segment type s) segment_own colon2_before r (drop n [])
none_left zero r s = no_join
none_left (suc n) r s = no_join

generic_no_gt : (g : GenericTree) (r : List Tok) → generic_fits g ≡ true → gt.at (generic_own g r) ≡ false
unfolding sign_at
generic_no_gt (t.a_lifetime w) r f = refl
generic_no_gt (t.a_const ts) r f = const_no_gt ts r f
generic_no_gt (t.an_assoc w x) r f = refl
generic_no_gt (t.a_type x) r f = let p = type_begins true x r f in p.no_gt

pub zero_less : (k : ℕ) → (nat_lt 0 0 && nat_lt 0 k) ≡ true → ⊥
zero_less k h = let (a, b) = both_true (nat_lt 0 0) (nat_lt 0 k) h in grind (arith, nat_tests, a)

pub suc_zero : (n : ℕ) (l : Bool) → (suc n == 0 && l) ≡ true → ⊥
suc_zero n l h = let (a, b) = both_true (suc n == 0) l h in grind (arith, nat_tests, a)

pub no_leading : (0 == 0 && false) ≡ true → ⊥
no_leading h = let (a, b) = both_true (0 == 0) false h in absurd cc

some_segments : (ss : Segments) → no_more_segments ss ≡ false → is_nil (t.segments ss) ≡ false
some_segments t.no_segments h = absurd cc
some_segments (t.more_segments w a ss) h = refl

as_no_plus : (l : List Tok) → plus.at (ident (codes "as") ∷ l) ≡ false
unfolding sign_at
as_no_plus l = refl

-- a path after `<` `>`, by its type and its segments
qself_back : (s : PathStyle) (x : TypeTree) (n : ℕ) (a l : Bool) (ss : Segments) (r : List Tok) → position_fits a n l (count_segments ss) ≡ true → no_more_segments ss ≡ false
    → ((k : List Tok) → type_stops true x k ≡ true → (type true).behind x (type_own x k) ≡ Some k)
    → ((m : ℕ) (k : List Tok) → segments_fit (suc m) s ss ≡ true → Joins (segment type style.Type) segment_own colon2_before (alone 62 ∷ k) (take (suc m) (t.segments ss)))
    → ((m : ℕ) → segments_fit m s ss ≡ true → Joins (segment type s) segment_own colon2_before r (drop m (t.segments ss)))
    → segments_fit (at_most n (count_segments ss)) s ss ≡ true → colon2.at r ≡ false
    → (qpath type s).behind (t.qself x n a, record { leading = l; segments = t.segments ss; trailing = false }) (alone 60 ∷ type_own x (qself_end (at_most n (count_segments ss)) (before_if l colon2_before (segments_own (at_most n (count_segments ss)) ss false r)))) ≡ Some r
qself_back s x zero true l ss r p e ty inner outer f c = absurd (zero_less (count_segments ss) p)
qself_back s x (suc n) false l ss r p e ty inner outer f c = absurd (suc_zero n l p)
qself_back s x zero false false ss r p e ty inner outer f c = absurd (no_leading p)
qself_back s x zero false true ss r p e ty inner outer f c =
    let z = at_most_zero (count_segments ss) in
    let g : segments_fit 0 s ss ≡ true = subst (λ k. segments_fit k s ss ≡ true) z f in
    let i = segments_joined s (t.segments ss) r (some_segments ss e) c (outer 0 g) in
    let j : (joined colon2 (segment type s)).behind (t.segments ss) (segments_own 0 ss false r) ≡ Some r = subst (λ k. (joined colon2 (segment type s)).behind (t.segments ss) k ≡ Some r) (sym (segments_elements ss r)) i in
    let k = ty (alone 62 ∷ colon2_before (segments_own 0 ss false r)) (quiet_stops true x _ (gt_quiet _)) in
    let goal : (qpath type s).behind (t.qself x 0 false, record { leading = true; segments = t.segments ss; trailing = false }) (alone 60 ∷ type_own x (qself_end 0 (colon2_before (segments_own 0 ss false r)))) ≡ Some r
    = qualified_step s x ss (type_own x (alone 62 ∷ colon2_before (segments_own 0 ss false r))) r (segments_own 0 ss false r) k j in
    subst (λ v. (qpath type s).behind (t.qself x 0 false, record { leading = true; segments = t.segments ss; trailing = false }) (alone 60 ∷ type_own x (qself_end v (colon2_before (segments_own v ss false r)))) ≡ Some r) (sym z) goal
qself_back s x (suc n) true l ss r p e ty inner outer f c =
    let (o, q) = both_true (nat_lt 0 (suc n)) (nat_lt (suc n) (count_segments ss)) p in
    let z = at_most_less (suc n) (count_segments ss) q in
    let g : segments_fit (suc n) s ss ≡ true = subst (λ k. segments_fit k s ss ≡ true) z f in
    let more : nat_lt (suc n) (length (t.segments ss)) ≡ true = subst (λ k. nat_lt (suc n) k ≡ true) (segments_count ss) q in
    let some : nat_lt 0 (length (t.segments ss)) ≡ true = grind (arith, nat_tests, more) in
    let most : nat_le (suc n) (length (t.segments ss)) ≡ true = grind (arith, nat_tests, more) in
    let i = segments_joined s (drop (suc n) (t.segments ss)) r (some_left (suc n) (t.segments ss) more) c (outer (suc n) g) in
    let tail = elements_own segment_own colon2_before (drop (suc n) (t.segments ss)) false r in
    let h = inside_pieces n l (t.segments ss) (colon2_before tail) some (inner n (colon2_before tail) g) in
    let inside = before_if l colon2_before (elements_own segment_own colon2_before (take (suc n) (t.segments ss)) false (alone 62 ∷ colon2_before tail)) in
    let k = ty (ident (codes "as") ∷ inside) (type_calm (ident (codes "as") ∷ inside) (as_calm inside) true x (as_no_plus inside)) in
    let goal : (qpath type s).behind (t.qself x (suc n) true, record { leading = l; segments = t.segments ss; trailing = false }) (alone 60 ∷ type_own x (ident (codes "as") ∷ inside)) ≡ Some r
    = qualified_as_step s x ss (type_own x (ident (codes "as") ∷ inside)) r n l inside tail most k h i in
    let back : (qpath type s).behind (t.qself x (suc n) true, record { leading = l; segments = t.segments ss; trailing = false }) (alone 60 ∷ type_own x (qself_end (suc n) (before_if l colon2_before (segments_own (suc n) ss false r)))) ≡ Some r
    = subst (λ v. (qpath type s).behind (t.qself x (suc n) true, record { leading = l; segments = t.segments ss; trailing = false }) (alone 60 ∷ type_own x (ident (codes "as") ∷ before_if l colon2_before v)) ≡ Some r) (sym (segments_split n ss r q)) goal in
    subst (λ v. (qpath type s).behind (t.qself x (suc n) true, record { leading = l; segments = t.segments ss; trailing = false }) (alone 60 ∷ type_own x (qself_end v (before_if l colon2_before (segments_own v ss false r)))) ≡ Some r) (sym z) back

mutual
  pub type_back : (b : Bool) (x : TypeTree) (r : List Tok) → type_fits b x ≡ true → type_stops b x r ≡ true → (type b).behind x (type_own x r) ≡ Some r
  type_back b (t.path t.no_qself l ss true) r f s = absurd cc
  type_back b (t.path t.no_qself l ss false) r f s =
      let (n, g) = both_true (not (no_more_segments ss)) _ f in
      let (c, m) = both_true (segments_stop style.Type ss r) _ s in
      let (d, k) = both_true (not (colon2.at r)) _ m in
      let e = not_true (no_more_segments ss) n in
      let h = pieces_step style.Type l ss r e (not_true (colon2.at r) d) (segments_joins 0 style.Type ss r g c) in
      type_stands b (t.path t.no_qself l ss false) _ r (path_begins b (t.path t.no_qself l ss false) l ss false r e g ∙ path_step b l ss _ r h k (no_less l ss false r e))
  type_back b (t.path (t.qself x n a) l ss false) r f s =
      let (g, h) = both_true (not (no_more_segments ss)) _ f in
      let (i, j) = both_true (type_fits true x && position_fits a n l (count_segments ss)) _ h in
      let (k, p) = both_true (type_fits true x) (position_fits a n l (count_segments ss)) i in
      let (c, m) = both_true (segments_stop style.Type ss r) _ s in
      let (d, o) = both_true (not (colon2.at r)) _ m in
      type_stands b (t.path (t.qself x n a) l ss false) _ r (named_qself b x n a l ss _ r (qself_back style.Type x n a l ss r p (not_true (no_more_segments ss) g) (λ v w. type_back true x v k w) (λ v w y. segments_within v style.Type ss w y) (λ v w. segments_joins v style.Type ss r w c) j (not_true (colon2.at r) d)))
  type_back b (t.mac l ss false d ts) r f s =
      let (n, g) = both_true (not (no_more_segments ss)) _ f in
      let (m, h) = both_true (bare_segments ss) _ g in
      let (i, j) = both_true (segments_fit 0 style.Type ss) (is_macro_delimiter d) h in
      let e = not_true (no_more_segments ss) n in
      let p = pieces_step style.Type l ss (alone 33 ∷ enclosed d ts r) e (bang_no_colon2 (enclosed d ts r)) (segments_joins 0 style.Type ss (alone 33 ∷ enclosed d ts r) i (bare_stops ss (alone 33 ∷ enclosed d ts r) m (bang_names (enclosed d ts r)))) in
      type_stands b (t.mac l ss false d ts) _ r (path_begins b (t.mac l ss false d ts) l ss false (alone 33 ∷ enclosed d ts r) e i ∙ mac_step b l ss d ts _ r p m j (no_less l ss false (alone 33 ∷ enclosed d ts r) e))
  type_back b (t.reference a m x) r f s =
      let g = type_begins false x r f in
      type_stands b (t.reference a m x) _ r (reference_step b r a m x (type_own x r) g.no_lifetime g.no_mut (type_back false x r f s))
  type_back b (t.ptr true x) r f s = type_stands b (t.ptr true x) _ r (pointer_step b r true x (type_own x r) (type_back false x r f s))
  type_back b (t.ptr false x) r f s = type_stands b (t.ptr false x) _ r (pointer_step b r false x (type_own x r) (type_back false x r f s))
  type_back b (t.slice x) r f s = type_stands b (t.slice x) _ r (slice_step b r x (type_own x []) (type_back true x [] f (quiet_stops true x [] nil_quiet)))
  type_back b (t.array x n) r f s =
      let (g, h) = both_true (type_fits true x) (not (is_empty n)) f in
      type_stands b (t.array x n) _ r (array_step b r x n (type_own x (alone 59 ∷ n)) h (type_back true x (alone 59 ∷ n) g (type_calm (alone 59 ∷ n) (semi_calm n) true x (semi_no_plus n))))
  type_back b (t.tuple xs e) r f s =
      let (g, h) = both_true (types_fit xs) _ f in
      let (i, j) = both_true (ends_well (no_more_types xs) e) (not (is_one_type xs && not e)) h in
      type_stands b (t.tuple xs e) _ r (tuple_step b r xs e (types_own xs e []) (tuple_is xs e h) (types_listed xs e i (types_commas e xs g)))
  type_back b (t.paren x) r f s =
      let g = type_begins true x [] f in
      let h = type_back true x [] f (quiet_stops true x [] nil_quiet) in
      type_stands b (t.paren x) _ r (paren_step b r x (type_own x []) (listed_back (type true) type_own is_empty (λ k. type_alike k true) [] refl nil_comma false (x ∷ []) refl (element h g.some no_element)))
  type_back b t.never r f s = type_stands b t.never _ r (never_step b r)
  type_back b t.infer r f s = type_stands b t.infer _ r (infer_step b r)
  type_back b (t.fn_ptr p u a xs e o) r f s =
      let (g, h) = both_true (fits_if lifetimes_fit p) _ f in
      let (i, j) = both_true (fits_if (fits_if is_string) a) _ h in
      let (k, m) = both_true (args_fit xs) _ j in
      let (n, q) = both_true (ends_well (no_more_args xs) e) (return_fits o) m in
      type_stands b (t.fn_ptr p u a xs e o) _ r (fn_step b (p, (u, a)) xs e o (args_own xs e []) (return_own o r) r g i (args_listed xs e n (args_commas e xs k)) (return_back o r q s))
  type_back b (t.impl_trait bs false) r f s =
      let (g, h) = both_true (not (no_more_bounds bs)) _ f in
      let (i, j) = both_true (b || is_one_bound bs) (bounds_fit bs) h in
      let (k, m) = both_true (bounds_stop bs r) (not (b && plus.at r)) s in
      type_stands b (t.impl_trait bs false) _ r (impl_step b r bs (bounds_own bs false r) (bounds_step b bs r (not_true (no_more_bounds bs) g) i m (bounds_joins bs r j k)))
  type_back b (t.trait_object bs false) r f s =
      let (g, h) = both_true (not (no_more_bounds bs)) _ f in
      let (i, j) = both_true (b || is_one_bound bs) (bounds_fit bs) h in
      let (k, m) = both_true (bounds_stop bs r) (not (b && plus.at r)) s in
      type_stands b (t.trait_object bs false) _ r (object_step b r bs (bounds_own bs false r) (bounds_step b bs r (not_true (no_more_bounds bs) g) i m (bounds_joins bs r j k)))
  type_back b _ r f s = absurd cc

  types_commas : (e : Bool) (xs : Types) → types_fit xs ≡ true → Commas (type true) type_own is_empty e [] (t.types xs)
  types_commas e t.no_types f = no_element
  types_commas e (t.more_types x xs) f =
      let (g, h) = both_true (type_fits true x) (types_fit xs) f in
      let q = next_quiet type_own (t.types xs) e [] nil_quiet in
      let p = type_begins true x (next_own type_own comma_before (t.types xs) e []) g in
      element (type_back true x _ g (quiet_stops true x _ q)) p.some (types_commas e xs h)

  args_commas : (e : Bool) (xs : FnArgs) → args_fit xs ≡ true → Commas (fn_arg type) arg_own is_empty e [] (t.args xs)
  args_commas e t.no_args f = no_element
  args_commas e (t.more_args (Some w) x xs) f =
      let (g, h) = both_true (is_arg_name w) _ f in
      let (i, j) = both_true (type_fits true x) (args_fit xs) h in
      let q = next_quiet arg_own (t.args xs) e [] nil_quiet in
      element (named_arg_step w x _ _ g (type_back true x _ i (quiet_stops true x _ q))) refl (args_commas e xs j)
  args_commas e (t.more_args None x xs) f =
      let (i, j) = both_true (type_fits true x) (args_fit xs) f in
      let q = next_quiet arg_own (t.args xs) e [] nil_quiet in
      let p = type_begins true x (next_own arg_own comma_before (t.args xs) e []) i in
      element (arg_step x _ _ _ p q.no_colon (type_back true x _ i (quiet_stops true x _ q))) p.some (args_commas e xs j)

  generics_commas : (e : Bool) (m : List Tok) (gs : Generics) → generics_fit gs ≡ true → Commas (generic type) generic_own gt.at e (alone 62 ∷ m) (t.generics gs)
  generics_commas e m t.no_generics f = no_element
  generics_commas e m (t.more_generics g gs) f =
      let (h, i) = both_true (generic_fits g) (generics_fit gs) f in
      let q = next_quiet generic_own (t.generics gs) e (alone 62 ∷ m) (gt_quiet m) in
      element (generic_back g _ h q) (generic_no_gt g _ h) (generics_commas e m gs i)

  pub generic_back : (g : GenericTree) (r : List Tok) → generic_fits g ≡ true → Quiet r → (generic type).behind g (generic_own g r) ≡ Some r
  generic_back (t.a_lifetime w) r f q = a_lifetime_step w r
  generic_back (t.a_const ts) r f q = const_step ts r f
  generic_back (t.an_assoc w x) r f q =
      let (g, h) = both_true (not (is_reserved_word w)) (type_fits true x) f in
      assoc_step w x (type_own x r) r g (type_back true x r h (quiet_stops true x r q))
  generic_back (t.a_type x) r f q = a_type_step x (type_own x r) r r (type_begins true x r f) q.no_eq (type_back true x r f (quiet_stops true x r q))

  pub return_back : (o : ReturnTree) (r : List Tok) → return_fits o ≡ true → return_stops o r ≡ true → (output type false).behind o (return_own o r) ≡ Some r
  return_back t.default r f s = default_step r (not_true (arrow.at r) s)
  return_back (t.given x) r f s = given_step x (type_own x r) r (type_back false x r f s)

  -- the segments after the first n
  pub segments_joins : (n : ℕ) (s : PathStyle) (ss : Segments) (r : List Tok) → segments_fit n s ss ≡ true → segments_stop s ss r ≡ true → Joins (segment type s) segment_own colon2_before r (drop n (t.segments ss))
  segments_joins zero s t.no_segments r f c = no_join
  segments_joins zero s (t.more_segments w a t.no_segments) r f c =
      let (g, h) = both_true (is_segment w) _ f in
      let (i, j) = both_true (not (stands_alone w) || has_none a) _ h in
      let (k, m) = both_true (arguments_fit s a) _ j in
      join (segment_step r s w a g i (λ n. arguments_back s w a r n k c)) no_join
  segments_joins zero s (t.more_segments w a (t.more_segments v d ss)) r f c =
      let (g, h) = both_true (is_segment w) _ f in
      let (i, j) = both_true (not (stands_alone w) || has_none a) _ h in
      let (k, m) = both_true (arguments_fit s a) _ j in
      let (n, o) = both_true (goes_over 0 s w a (t.more_segments v d ss)) _ m in
      join (segment_step _ s w a g i (λ p. arguments_back s w a _ p k (follows s w v a _ n))) (segments_joins zero s (t.more_segments v d ss) r o c)
  segments_joins (suc n) s t.no_segments r f c = no_join
  segments_joins (suc n) s (t.more_segments w a t.no_segments) r f c = none_left n r s
  segments_joins (suc n) s (t.more_segments w a (t.more_segments v d ss)) r f c =
      let (g, h) = both_true (is_segment w) _ f in
      let (i, j) = both_true (not (stands_alone w) || has_none a) _ h in
      let (k, m) = both_true (arguments_fit style.Type a) _ j in
      let (o, p) = both_true (goes_over (suc n) style.Type w a (t.more_segments v d ss)) _ m in
      segments_joins n s (t.more_segments v d ss) r p c

  -- those that are inside
  pub segments_within : (n : ℕ) (s : PathStyle) (ss : Segments) (r : List Tok) → segments_fit (suc n) s ss ≡ true → Joins (segment type style.Type) segment_own colon2_before (alone 62 ∷ r) (take (suc n) (t.segments ss))
  segments_within n s t.no_segments r f = no_join
  segments_within zero s (t.more_segments w a ss) r f =
      let (g, h) = both_true (is_segment w) _ f in
      let (i, j) = both_true (not (stands_alone w) || has_none a) _ h in
      let (k, m) = both_true (arguments_fit style.Type a) _ j in
      join (segment_step (alone 62 ∷ r) style.Type w a g i (λ o. arguments_back style.Type w a (alone 62 ∷ r) o k (arguments_calm (alone 62 ∷ r) (gt_calm r) style.Type w a))) no_join
  segments_within (suc n) s (t.more_segments w a t.no_segments) r f =
      let (g, h) = both_true (is_segment w) _ f in
      let (i, j) = both_true (not (stands_alone w) || has_none a) _ h in
      let (k, m) = both_true (arguments_fit style.Type a) _ j in
      join (segment_step (alone 62 ∷ r) style.Type w a g i (λ o. arguments_back style.Type w a (alone 62 ∷ r) o k (arguments_calm (alone 62 ∷ r) (gt_calm r) style.Type w a))) no_join
  segments_within (suc n) s (t.more_segments w a (t.more_segments v d ss)) r f =
      let (g, h) = both_true (is_segment w) _ f in
      let (i, j) = both_true (not (stands_alone w) || has_none a) _ h in
      let (k, m) = both_true (arguments_fit style.Type a) _ j in
      let (o, p) = both_true (goes_over (suc (suc n)) style.Type w a (t.more_segments v d ss)) _ m in
      join (segment_step _ style.Type w a g i (λ q. arguments_back style.Type w a _ q k (follows style.Type w v a _ o))) (segments_within n s (t.more_segments v d ss) r p)

  pub arguments_back : (s : PathStyle) (w : Text) (a : ArgumentsTree) (m : List Tok) → stands_alone w ≡ false → arguments_fit s a ≡ true → arguments_stop s w a m ≡ true → (arguments type s).behind a (arguments_own a m) ≡ Some m
  arguments_back s w t.no_arguments m n f c = none_step m s w n c
  arguments_back s w (t.angle d gs e) m n f c =
      let (g, h) = both_true (takes_angle s d) _ f in
      let (i, j) = both_true (generics_fit gs) (ends_well (no_more_generics gs) e) h in
      angle_step m s d gs e (generics_own gs e (alone 62 ∷ m)) g (generics_listed gs e m j (generics_commas e m gs i))
  arguments_back s w (t.round xs e o) m n f c =
      let (g, h) = both_true (takes_round s) _ f in
      let (i, j) = both_true (types_fit xs) _ h in
      let (k, p) = both_true (ends_well (no_more_types xs) e) (return_fits o) j in
      round_step m s xs e o (types_own xs e []) (return_own o m) g (types_listed xs e k (types_commas e xs i)) (return_back o m p c)

  bounds_joins : (bs : Bounds) (r : List Tok) → bounds_fit bs ≡ true → bounds_stop bs r ≡ true → Joins (bound type) bound_own plus_before r (t.bounds bs)
  bounds_joins t.no_bounds r f c = no_join
  bounds_joins (t.more_bounds b t.no_bounds) r f c =
      let (g, h) = both_true (bound_fits b) _ f in
      join (bound_back b r g c) no_join
  bounds_joins (t.more_bounds b (t.more_bounds d bs)) r f c =
      let (g, h) = both_true (bound_fits b) _ f in
      join (bound_back b _ g (bound_calm _ (plus_calm _) b)) (bounds_joins (t.more_bounds d bs) r h c)

  pub bound_back : (b : BoundTree) (r : List Tok) → bound_fits b ≡ true → bound_stops b r ≡ true → (bound type).behind b (bound_own b r) ≡ Some r
  bound_back (t.outlives w) r f c = outlives_step w r
  bound_back (t.a_trait q p l ss true) r f c = absurd cc
  bound_back (t.a_trait q p l ss false) r f c =
      let (g, h) = both_true (not (no_more_segments ss)) _ f in
      let (i, j) = both_true (fits_if lifetimes_fit p) (segments_fit 0 style.Type ss) h in
      let (k, m) = both_true (segments_stop style.Type ss r) (not (colon2.at r)) c in
      let e = not_true (no_more_segments ss) g in
      trait_step q p l ss _ r i (path_no_question l ss r e) (path_no_lifetimes l ss r e j) (path_no_lifetime l ss r e)
      (pieces_step style.Type l ss r e (not_true (colon2.at r) m) (segments_joins 0 style.Type ss r j k))

-- ---- paths in each style, and macros

pub path_back : (s : PathStyle) (l : Bool) (ss : Segments) (r : List Tok) → no_more_segments ss ≡ false → segments_fit 0 s ss ≡ true → segments_stop s ss r ≡ true → colon2.at r ≡ false
    → (path type s).behind (record { leading = l; segments = t.segments ss; trailing = false }) (before_if l colon2_before (segments_own 0 ss false r)) ≡ Some r
unfolding path
path_back s l ss r h f c d = pieces_step s l ss r h d (segments_joins 0 s ss r f c)

qpath_bare : (s : PathStyle) (l : Bool) (ss : Segments) (k r : List Tok) → less.at k ≡ false → (path type s).behind (record { leading = l; segments = t.segments ss; trailing = false }) k ≡ Some r
    → (qpath type s).behind (t.no_qself, record { leading = l; segments = t.segments ss; trailing = false }) k ≡ Some r
unfolding qpath
qpath_bare s l ss k r h i = rw h i

pub qpath_back : (s : PathStyle) (q : QSelfTree) (l : Bool) (ss : Segments) (r : List Tok) → no_more_segments ss ≡ false → qself_fits q l (count_segments ss) ≡ true
    → segments_fit (inner_count q (count_segments ss)) s ss ≡ true → segments_stop s ss r ≡ true → colon2.at r ≡ false
    → (qpath type s).behind (q, record { leading = l; segments = t.segments ss; trailing = false }) (qself_own q (count_segments ss) (before_if l colon2_before (segments_own (inner_count q (count_segments ss)) ss false r))) ≡ Some r
qpath_back s t.no_qself l ss r h k f c d = qpath_bare s l ss _ r (no_less l ss false r h) (path_back s l ss r h f c d)
qpath_back s (t.qself x n a) l ss r h k f c d =
    let (g, p) = both_true (type_fits true x) (position_fits a n l (count_segments ss)) k in
    qself_back s x n a l ss r p h (λ v w. type_back true x v g w) (λ v w y. segments_within v s ss w y) (λ v w. segments_joins v s ss r w c) f d
