-- Types and paths that are read pass their tests.
use Rattle.std.proofs.Common.{◌≡◌, Bool, true, false, not, ◌&&◌, ◌||◌, List, [], ◌∷◌, ◌++◌, length, Option, Some, None, refl, sym, ◌∙◌, ap, subst, arith}
use Rattle.std.specs.Prelude.{◌==◌, if◌then◌else◌, nat_lt}
use Rattle.std.specs.Str.{bytes_eq}
use Rattle.std.proofs.lemmas.Bool.{and_parts, and_from, eqb-true}
use Rattle.std.proofs.lemmas.Bool.Decides.{nat_tests}
use Rattle.syn_lexer.specs.Keywords.{is_reserved_word}
use Rattle.syn_lexer.specs.declared.front.Delimiter.{Delimiter}
use Rattle.syn_lexer.specs.declared.front.Delimiter.TheVariants as del
use Rattle.syn_lexer.specs.declared.front.Spacing.TheVariants as spacing
use Rattle.syn_tokens.specs.Tok.{Tok, toks, ident, punct, literal, group}
use Rattle.syn_tokens.specs.Front.{is_empty, group_at}
use Rattle.syn_lower_spec.specs.declared.label.LitKind.{LitKind}
use Rattle.syn_lower_spec.specs.declared.label.LitKind.TheVariants as kind
use Rattle.syn_lower_spec.specs.declared.label.PathStyle.{PathStyle}
use Rattle.syn_lower_spec.specs.declared.label.PathStyle.TheVariants as style
use Rattle.syn_lower_spec.specs.Text.{Text, is_segment, stands_alone, is_truth, is_number, is_float_text, number_kind, kind_of}
use Rattle.syn_lower_spec.specs.Same.{same_kind, same_lit, same_toks, same_group}
use Rattle.syn_lower_spec.specs.Tree as t
use Rattle.syn_lower_spec.specs.Tree.{LitTree, TypeTree, QSelfTree, SegmentTree, PathTree, FnArgTree, ArgumentsTree, GenericTree, ReturnTree, BoundTree}
use Rattle.syn_lower_spec.specs.Form.{Form, is_nil, maybe, flag}
use Rattle.syn_lower_spec.specs.Mark.{sign_at, lifetime_at, comma, gt, less, lt, eq, colon2, arrow, plus, semi, question, not_ne, round_at, lone_colon, and, star, bang, underscore, implementing, dynamic, mutable, as_word, for_word, unsafe_word, extern_word, fn_word}
use Rattle.syn_lower_spec.specs.Part as p
use Rattle.syn_lower_spec.specs.Part.{QPathTree, has_none, is_arg_name, is_bare, segments_bare}
use Rattle.syn_lower_spec.specs.Own.{colon2_before, no_more_types, no_more_generics, no_more_args, no_more_bounds, no_more_segments, count_segments, at_most}
use Rattle.syn_lower_spec.specs.Fits.{has_kind, number_fits, is_none, bare_segments, is_one_bound, lit_fits_by, lit_fits, unsigned_fits_by, unsigned_fits, is_string, ends_well, lifetimes_fit, fits_if, is_const, is_macro_delimiter, arguments_stop, return_stops, type_stops, bound_stops, type_fits, types_fit, segments_fit, arguments_fit, generics_fit, generic_fits, return_fits, args_fit, bounds_fit, bound_fits, path_fits, qpath_fits, output_fits}
use Rattle.syn_lower_spec.proofs.TypesBack.{at_most_zero, at_most_less}
use Rattle.syn_text_spec.proofs.Finds.{Each}
use Rattle.syn_text_spec.proofs.FindParts.{no_truth_kind, no_sign_kind}
use Rattle.syn_text_spec.proofs.Tells.{Said, Tells, Of, Any, Where, moved, weaker, when_tells, or_tells, mark_tells, after_mark, Then, then_by_tells, both_tells, shown_tells, pure_tells, leaf_tells, inside_tells, fix_tells, IsFlag, flag_tells, If, maybe_tells, closed_by_tells, closed_of, AllOf, listed_tells, Chain, Linked, Several, joined_tells}

abbrev pub Ok : {A : Type 0} → (A → Bool) → Said A
Ok test l x n = test x ≡ true

pub any : {A : Type 0} {f : Form A} → Tells Any f
any = record { tells = λ l x n h. tt }

pub anything : {A : Type 0} (f : Form A) → Tells Any f
anything f = any

-- ---- words

word_passes : (test : Text → Bool) (w : Text) (l : List Tok) (x : Text) (n : List Tok) (b : Bool) → test w ≡ b → p.word_if b w l ≡ Some (x, n) → test x ≡ true
word_passes test w l x n true e h = moved (Ok test) l w x l n h e
word_passes test w l x n false e h = absurd cc

abbrev pub is_name : Text → Bool
is_name w = not (is_reserved_word w)

pub name_tells : Tells (Ok is_name) p.name
unfolding p.name
name_tells = leaf_tells bytes_eq found
  where
    found : (l : List Tok) (x : Text) (n : List Tok) → p.find_ident l ≡ Some (x, n) → is_name x ≡ true
    found (ident w ∷ l) x n h = word_passes is_name w l x n (is_name w) refl h
    found _ x n h = absurd cc

segment_name_tells : Tells (Ok is_segment) p.segment_name
unfolding p.segment_name
segment_name_tells = leaf_tells bytes_eq found
  where
    found : (l : List Tok) (x : Text) (n : List Tok) → p.find_segment l ≡ Some (x, n) → is_segment x ≡ true
    found (ident w ∷ l) x n h = word_passes is_segment w l x n (is_segment w) refl h
    found _ x n h = absurd cc

arg_name_tells : Tells (Ok is_arg_name) p.arg_name
unfolding p.arg_name
arg_name_tells = leaf_tells bytes_eq found
  where
    found : (l : List Tok) (x : Text) (n : List Tok) → p.find_arg_name l ≡ Some (x, n) → is_arg_name x ≡ true
    found (ident w ∷ l) x n h = word_passes is_arg_name w l x n (is_arg_name w) refl h
    found _ x n h = absurd cc

-- ---- literals

same_self : (k : LitKind) → same_kind k k ≡ true
same_self kind.Str = refl
same_self _ = refl

kind_is : (k : LitKind) (w : Text) → kind_of w ≡ Some k → has_kind (kind_of w) k ≡ true
kind_is k w e = ap (λ o. has_kind o k) e ∙ same_self k

unsigned_kind : (k : LitKind) (w : Text) → kind_of w ≡ Some k → unsigned_fits_by k w ≡ true
unsigned_kind kind.Bool w e = absurd (no_truth_kind w e)
unsigned_kind kind.Int w e = kind_is kind.Int w e
unsigned_kind kind.Float w e = kind_is kind.Float w e
unsigned_kind k w e = kind_is k w e

no_empty_kind : (k : LitKind) → kind_of [] ≡ Some k → ⊥
unfolding kind_of is_number
no_empty_kind k e = cc

number_kind_is : (k : LitKind) (w : Text) → kind_of w ≡ Some k → number_fits k w ≡ true
number_kind_is k [] e = absurd (no_empty_kind k e)
number_kind_is k (c ∷ z) e = by (c == 45) refl
  where
    by : (b : Bool) → (c == 45) ≡ b → (if b then is_number z && same_kind (number_kind z) k else has_kind (kind_of (c ∷ z)) k) ≡ true
    by true i = absurd (no_sign_kind z k (subst (λ d. kind_of (d ∷ z) ≡ Some k) (eqb-true c 45 i) e))
    by false i = kind_is k (c ∷ z) e

signed_kind : (k : LitKind) (w : Text) → kind_of w ≡ Some k → lit_fits_by k w ≡ true
signed_kind kind.Bool w e = absurd (no_truth_kind w e)
signed_kind kind.Int w e = number_kind_is kind.Int w e
signed_kind kind.Float w e = number_kind_is kind.Float w e
signed_kind k w e = kind_is k w e

-- the test by the kind and the text
abbrev By : (LitKind → Text → Bool) → LitTree → Bool
By test x = test x.kind x.text

lit_passes : (test : LitKind → Text → Bool) → ((k : LitKind) (w : Text) → kind_of w ≡ Some k → test k w ≡ true) → ((w : Text) → is_truth w ≡ true → test kind.Bool w ≡ true)
    → (l : List Tok) (x : LitTree) (n : List Tok) → p.find_lit l ≡ Some (x, n) → By test x ≡ true
lit_passes test k b (literal w ∷ l) x n h = by (kind_of w) refl h
  where
    by : (o : Option LitKind) → kind_of w ≡ o → p.lit_if o w l ≡ Some (x, n) → By test x ≡ true
    by None e i = absurd cc
    by (Some j) e i = moved (Ok (By test)) l (record { kind = j; text = w }) x l n i (k j w e)
lit_passes test k b (ident w ∷ l) x n h = by (is_truth w) refl h
  where
    by : (c : Bool) → is_truth w ≡ c → p.truth_if c w l ≡ Some (x, n) → By test x ≡ true
    by true e i = moved (Ok (By test)) l (record { kind = kind.Bool; text = w }) x l n i (b w e)
    by false e i = absurd cc
lit_passes test k b _ x n h = absurd cc

pub unsigned_tells : Tells (Ok unsigned_fits) p.unsigned
unfolding p.unsigned
unsigned_tells = leaf_tells same_lit (lit_passes unsigned_fits_by unsigned_kind (λ w e. e))

negative_by : (w : Text) (b : Bool) → is_float_text w ≡ b → is_number w ≡ true → lit_fits_by (if b then kind.Float else kind.Int) (45 ∷ w) ≡ true
negative_by w true e h = and_from _ _ h (rw e refl)
negative_by w false e h = and_from _ _ h (rw e refl)

pub signed_tells : Tells (Ok lit_fits) p.lit
unfolding p.lit lit_fits
signed_tells = leaf_tells same_lit found
  where
    negative : (w : Text) (l : List Tok) (x : LitTree) (n : List Tok) (a b : Bool) → is_number w ≡ b → p.negative_if (a && b) w l ≡ Some (x, n) → By lit_fits_by x ≡ true
    negative w l x n true true e h = moved (Ok (By lit_fits_by)) l (record { kind = number_kind w; text = 45 ∷ w }) x l n h (negative_by w (is_float_text w) refl e)
    negative w l x n true false e h = absurd cc
    negative w l x n false b e h = absurd cc

    plain : (l : List Tok) (x : LitTree) (n : List Tok) → p.find_lit l ≡ Some (x, n) → By lit_fits_by x ≡ true
    plain = lit_passes lit_fits_by signed_kind (λ w e. e)

    found : (l : List Tok) (x : LitTree) (n : List Tok) → p.find_signed l ≡ Some (x, n) → By lit_fits_by x ≡ true
    found (punct c s ∷ literal w ∷ l) x n h = negative w l x n (c == 45) (is_number w) refl h
    found [] x n h = absurd cc
    found (punct c s ∷ []) x n h = absurd cc
    found (punct c s ∷ ident w ∷ l) x n h = absurd cc
    found (punct c s ∷ punct d r ∷ l) x n h = absurd cc
    found (punct c s ∷ group d i ∷ l) x n h = absurd cc
    found (literal w ∷ l) x n h = plain (literal w ∷ l) x n h
    found (ident w ∷ l) x n h = plain (ident w ∷ l) x n h
    found (group d i ∷ l) x n h = absurd cc

string_tells : Tells (Ok is_string) p.string
unfolding p.string
string_tells = leaf_tells same_lit found
  where
    by : (w : Text) (l : List Tok) (x : LitTree) (n : List Tok) (o : Option LitKind) → kind_of w ≡ o → p.string_if o w l ≡ Some (x, n) → is_string x ≡ true
    by w l x n (Some kind.Str) e h = moved (Ok is_string) l (record { kind = kind.Str; text = w }) x l n h (kind_is kind.Str w e)
    by w l x n _ e h = absurd cc

    found : (l : List Tok) (x : LitTree) (n : List Tok) → p.find_string l ≡ Some (x, n) → is_string x ≡ true
    found (literal w ∷ l) x n h = by w l x n (kind_of w) refl h
    found _ x n h = absurd cc

-- ---- tokens that are kept

abbrev pub is_group : Delimiter × List Tok → Bool
is_group z = is_macro_delimiter z.0

pub any_group_tells : Tells (Ok is_group) p.any_group
unfolding p.any_group
any_group_tells = leaf_tells same_group found
  where
    found : (l : List Tok) (x : Delimiter × List Tok) (n : List Tok) → p.find_group l ≡ Some (x, n) → is_group x ≡ true
    found (group del.Parenthesis i ∷ l) x n h = moved (Ok is_group) l (del.Parenthesis, toks i) x l n h refl
    found (group del.Brace i ∷ l) x n h = moved (Ok is_group) l (del.Brace, toks i) x l n h refl
    found (group del.Bracket i ∷ l) x n h = moved (Ok is_group) l (del.Bracket, toks i) x l n h refl
    found _ x n h = absurd cc

abbrev is_some_token : List Tok → Bool
is_some_token ts = not (is_empty ts)

rest_of_tells : Tells (Ok is_some_token) p.rest_of
unfolding p.rest_of
rest_of_tells = leaf_tells same_toks found
  where
    found : (l x n : List Tok) → p.find_all l ≡ Some (x, n) → is_some_token x ≡ true
    found [] x n h = absurd cc
    found (y ∷ l) x n h = moved (Ok is_some_token) [] (y ∷ l) x [] n h refl

constant_tells : Tells (Ok is_const) p.constant_tokens
unfolding p.constant_tokens
constant_tells = leaf_tells same_toks found
  where
    const_if : (ts l x n : List Tok) (b : Bool) → is_const ts ≡ b → p.const_if b ts l ≡ Some (x, n) → is_const x ≡ true
    const_if ts l x n true e h = moved (Ok is_const) l ts x l n h e
    const_if ts l x n false e h = absurd cc

    found : (l x n : List Tok) → p.find_const l ≡ Some (x, n) → is_const x ≡ true
    found (literal w ∷ l) x n h = moved (Ok is_const) l (literal w ∷ []) x l n h refl
    found (ident w ∷ l) x n h = const_if (ident w ∷ []) l x n (is_truth w) refl h
    found (punct c s ∷ literal w ∷ l) x n h = const_if (punct c spacing.Alone ∷ literal w ∷ []) l x n (c == 45 && is_number w) refl h
    found (group del.Brace i ∷ l) x n h = moved (Ok is_const) l (group del.Brace i ∷ []) x l n h refl
    found _ x n h = absurd cc

-- ---- parts without types

is_none_list : {A : Type 0} (xs : List A) (b : Bool) → ends_well (is_nil xs) b ≡ true → ends_well (is_none xs) b ≡ true
is_none_list [] b h = h
is_none_list (x ∷ xs) b h = h

pub lifetimes_tells : Tells (Ok lifetimes_fit) p.lifetimes
unfolding p.lifetimes
lifetimes_tells =
    mark_tells {P = Ok lifetimes_fit} {Q = Ok lifetimes_fit} for_word
    (mark_tells {P = Ok lifetimes_fit} {Q = Ok lifetimes_fit} less
    (weaker (closed_of {T = AllOf (λ (w : Text). Unit {0})} gt (listed_tells {T = λ (w : Text). Unit {0}} comma gt.at any)) (λ l x n h. is_none_list x.0 x.1 h.1))
    (λ l x n e h. h))
    (λ l x n e h. h)

pub if_fits : {A : Type 0} (test : A → Bool) (at : List Tok → Bool) (l : List Tok) (o : Option A) (n : List Tok) → If at (Ok test) l o n → fits_if test o ≡ true
if_fits test at l None n h = refl
if_fits test at l (Some x) n h = h.1

pub maybe_fits : {A : Type 0} (test : A → Bool) {f : Form A} (at : List Tok → Bool) → Tells (Ok test) f → Tells (Ok (fits_if test)) (maybe at f)
maybe_fits test at a = weaker (maybe_tells at a) (if_fits test at)

abi_tells : Tells (Ok (fits_if is_string)) p.abi
abi_tells = mark_tells {Q = Ok (fits_if is_string)} extern_word (maybe_fits is_string p.string_at string_tells) (λ l x n e h. h)

abbrev head_fits : p.FnHead → Bool
head_fits x = fits_if lifetimes_fit x.0 && fits_if (fits_if is_string) x.1.1

fn_head_tells : Tells (Ok head_fits) p.fn_head
unfolding p.fn_head
fn_head_tells =
    weaker (both_tells (maybe_fits lifetimes_fit p.lifetimes_at lifetimes_tells) (both_tells (anything (flag unsafe_word)) (maybe_fits (fits_if is_string) extern_word.at abi_tells)))
    (λ l x n h. and_from _ _ h.1 h.2.2)

-- a group after `!`, where the path is bare
abbrev pub Macro : QPathTree → p.MacroEnd → Type 0
Macro q None = Unit {0}
Macro q (Some g) = (is_bare q ≡ true) × (is_macro_delimiter g.0 ≡ true)

pub macro_end_tells : (q : QPathTree) → Tells (λ l o n. Macro q o × (o ≡ None → n ≡ l)) (p.macro_end q)
unfolding p.macro_end
macro_end_tells q = weaker (maybe_tells (λ l. is_bare q && not_ne.at l) (mark_tells {Q = Ok is_group} not_ne any_group_tells (λ l x n e h. h))) found
  where
    found : (l : List Tok) (o : p.MacroEnd) (n : List Tok) → If (λ l. is_bare q && not_ne.at l) (Ok is_group) l o n → Macro q o × (o ≡ None → n ≡ l)
    found l None n h = (tt, λ e. h.1)
    found l (Some g) n h = (((and_parts (is_bare q) (not_ne.at l) h.0).0, h.1), λ e. absurd cc)

-- ---- lists as the trees hold them

types_pass : (xs : List TypeTree) → Each (λ x. type_fits true x ≡ true) xs → types_fit (t.types_of xs) ≡ true
types_pass [] h = refl
types_pass (x ∷ xs) h = and_from _ _ h.0 (types_pass xs h.1)

types_end : (xs : List TypeTree) (b : Bool) → ends_well (is_nil xs) b ≡ true → ends_well (no_more_types (t.types_of xs)) b ≡ true
types_end [] b h = h
types_end (x ∷ xs) b h = h

generics_pass : (gs : List GenericTree) → Each (λ g. generic_fits g ≡ true) gs → generics_fit (t.generics_of gs) ≡ true
generics_pass [] h = refl
generics_pass (g ∷ gs) h = and_from _ _ h.0 (generics_pass gs h.1)

generics_end : (xs : List GenericTree) (b : Bool) → ends_well (is_nil xs) b ≡ true → ends_well (no_more_generics (t.generics_of xs)) b ≡ true
generics_end [] b h = h
generics_end (x ∷ xs) b h = h

abbrev arg_passes : FnArgTree → Type 0
arg_passes x = (fits_if is_arg_name x.name ≡ true) × (type_fits true x.ty ≡ true)

args_pass : (xs : List FnArgTree) → Each arg_passes xs → args_fit (t.args_of xs) ≡ true
args_pass [] h = refl
args_pass (x ∷ xs) h = and_from _ _ h.0.0 (and_from _ _ h.0.1 (args_pass xs h.1))

args_end : (xs : List FnArgTree) (b : Bool) → ends_well (is_nil xs) b ≡ true → ends_well (no_more_args (t.args_of xs)) b ≡ true
args_end [] b h = h
args_end (x ∷ xs) b h = h

-- ---- paths

-- `::` and a word
abbrev pub on : Text → List Tok
on v = colon2_before (ident v ∷ [])

pub record Good (s : PathStyle) (x : SegmentTree) : Type 0 where
  pub name : is_segment x.ident ≡ true
  pub alone : not (stands_alone x.ident) || has_none x.arguments ≡ true
  pub arguments : arguments_fit s x.arguments ≡ true

-- another segment may follow it
pub record Links (s : PathStyle) (x : SegmentTree) : Type 0 where
  pub links : (v : Text) → arguments_stop s x.ident x.arguments (on v) ≡ true

abbrev pub Segments : PathStyle → List SegmentTree → Type 0
Segments s ss = Chain (Good s) (Links s) ss

pub segments_pass : (s : PathStyle) (ss : List SegmentTree) → Segments s ss → segments_fit 0 s (t.segments_of ss) ≡ true
segments_pass s [] h = refl
segments_pass s (x ∷ []) h = and_from _ _ h.name (and_from _ _ h.alone (and_from _ _ h.arguments refl))
segments_pass s (x ∷ y ∷ ss) h =
    let g = h.0 in
    let k = h.1 in
    and_from _ _ g.name (and_from _ _ g.alone (and_from _ _ g.arguments (and_from _ _ (k.links y.ident) (segments_pass s (y ∷ ss) h.2))))

-- those in a qualified path's `<` and `>`, and then the others
within_pass : (s : PathStyle) (xs ys : List SegmentTree) → Segments style.Type xs → Segments s ys → segments_fit (length xs) s (t.segments_of (xs ++ ys)) ≡ true
within_pass s [] ys h g = segments_pass s ys g
within_pass s (x ∷ []) [] h g = and_from _ _ h.name (and_from _ _ h.alone (and_from _ _ h.arguments refl))
within_pass s (x ∷ []) (y ∷ ys) h g = and_from _ _ h.name (and_from _ _ h.alone (and_from _ _ h.arguments (segments_pass s (y ∷ ys) g)))
within_pass s (x ∷ z ∷ xs) ys h g =
    let a = h.0 in
    let k = h.1 in
    and_from _ _ a.name (and_from _ _ a.alone (and_from _ _ a.arguments (and_from _ _ (k.links z.ident) (within_pass s (z ∷ xs) ys h.2 g))))

more_than : (xs ys : List SegmentTree) → is_nil ys ≡ false → nat_lt (length xs) (count_segments (t.segments_of (xs ++ ys))) ≡ true
more_than [] [] h = absurd cc
more_than [] (y ∷ ys) h = grind (arith, nat_tests)
more_than (x ∷ xs) ys h = let e : nat_lt (length xs) (count_segments (t.segments_of (xs ++ ys))) ≡ true = more_than xs ys h in grind (arith, nat_tests, e)

some_segment : (ss : List SegmentTree) → is_nil ss ≡ false → not (no_more_segments (t.segments_of ss)) ≡ true
some_segment [] h = absurd cc
some_segment (x ∷ ss) h = refl

some_of_both : (xs ys : List SegmentTree) → is_nil ys ≡ false → is_nil (xs ++ ys) ≡ false
some_of_both [] ys h = h
some_of_both (x ∷ xs) ys h = refl

-- a path passes, and no `::` follows
abbrev pub PathSaid : PathStyle → Said PathTree
PathSaid s l x n = (path_fits s x ≡ true) × (colon2.at n ≡ false)

abbrev pub QPathSaid : PathStyle → Said QPathTree
QPathSaid s l q n = (qpath_fits s q ≡ true) × (colon2.at n ≡ false)

-- ---- where a `::` follows

-- the type doesn't go on there
abbrev pub Over : TypeTree → Type 0
Over x = (v : Text) → type_stops false x (on v) ≡ true

abbrev pub ReturnOver : ReturnTree → Type 0
ReturnOver o = (v : Text) → return_stops o (on v) ≡ true

abbrev pub BoundOver : BoundTree → Type 0
BoundOver b = (v : Text) → bound_stops b (on v) ≡ true

-- a type passes, and one alone doesn't go on where a `::` follows
abbrev pub FitAt : Bool → TypeTree → List Tok → Type 0
FitAt b x n = (type_fits b x ≡ true) × (b ≡ false → colon2.at n ≡ true → Over x)

abbrev pub Fit : Bool → Said TypeTree
Fit b l x n = FitAt b x n

-- a type that is closed at its end
abbrev Closed : TypeTree → Type 0
Closed x = ((b : Bool) → type_fits b x ≡ true) × Over x

closed_fits : (b : Bool) (l : List Tok) (x : TypeTree) (n : List Tok) → Closed x → Fit b l x n
closed_fits b l x n h = (h.0 b, λ e c. h.1)

pub clash : {A : Type 0} (b : Bool) → b ≡ true → b ≡ false → A
clash true h g = absurd cc
clash false h g = absurd cc

pub or_true : (b : Bool) → b || true ≡ true
or_true true = refl
or_true false = refl

pub no_arguments_over : (s : PathStyle) (w v : Text) → arguments_stop s w t.no_arguments (on v) ≡ true
unfolding sign_at group_at p.turbofish_at p.angle_at round_at
no_arguments_over style.Mod w v = refl
no_arguments_over style.Expr w v = or_true (stands_alone w)
no_arguments_over style.Type w v = or_true (stands_alone w)

no_arguments_fit : (s : PathStyle) → arguments_fit s t.no_arguments ≡ true
no_arguments_fit style.Mod = refl
no_arguments_fit _ = refl

default_over : ReturnOver t.default
unfolding sign_at
default_over v = refl

-- arguments after this word
abbrev ArgsAt : PathStyle → Text → ArgumentsTree → List Tok → Type 0
ArgsAt s w a n = (arguments_fit s a ≡ true) × (colon2.at n ≡ true → (v : Text) → arguments_stop s w a (on v) ≡ true)

no_arguments_tells : (s : PathStyle) (w : Text) → Tells (λ l a n. ArgsAt s w a n × (has_none a ≡ true)) p.no_arguments
unfolding p.no_arguments
no_arguments_tells s w = pure_tells t.no_arguments has_none (λ l. ((no_arguments_fit s, λ c v. no_arguments_over s w v), refl))

none_fits : (a : ArgumentsTree) → has_none a ≡ true → arguments_fit style.Mod a ≡ true
none_fits t.no_arguments h = refl
none_fits _ h = absurd cc

none_over : (w : Text) (a : ArgumentsTree) (v : Text) → has_none a ≡ true → arguments_stop style.Mod w a (on v) ≡ true
none_over w t.no_arguments v h = refl
none_over w _ v h = absurd cc

bare_mod : (s : PathStyle) (ss : List SegmentTree) → segments_fit 0 s (t.segments_of ss) ≡ true → segments_bare ss ≡ true → segments_fit 0 style.Mod (t.segments_of ss) ≡ true
bare_mod s [] h g = refl
bare_mod s (x ∷ []) h g =
    let a = and_parts (is_segment x.ident) _ h in
    let c = and_parts (not (stands_alone x.ident) || has_none x.arguments) _ a.1 in
    and_from _ _ a.0 (and_from _ _ c.0 (and_from _ _ (none_fits x.arguments (and_parts (has_none x.arguments) _ g).0) refl))
bare_mod s (x ∷ y ∷ ss) h g =
    let a = and_parts (is_segment x.ident) _ h in
    let c = and_parts (not (stands_alone x.ident) || has_none x.arguments) _ a.1 in
    let d = and_parts (arguments_fit s x.arguments) _ c.1 in
    let f = and_parts (arguments_stop s x.ident x.arguments (on y.ident)) _ d.1 in
    let b = and_parts (has_none x.arguments) _ g in
    and_from _ _ a.0 (and_from _ _ c.0 (and_from _ _ (none_fits x.arguments b.0) (and_from _ _ (none_over x.ident x.arguments y.ident b.0) (bare_mod s (y ∷ ss) f.1 b.1))))

pub bare_macro : (s : PathStyle) (q : QSelfTree) (x : PathTree) → qpath_fits s (q, x) ≡ true → is_bare (q, x) ≡ true → path_fits style.Mod x ≡ true
bare_macro s (t.qself y n a) x h g = absurd cc
bare_macro s t.no_qself x h g =
    let a = and_parts (not x.trailing) _ h in
    let c = and_parts (not (no_more_segments (t.segments_of x.segments))) _ a.1 in
    and_from _ _ a.0 (and_from _ _ c.0 (bare_mod s x.segments (and_parts true _ c.1).1 g))

bare_of : (ss : List SegmentTree) → segments_bare ss ≡ true → bare_segments (t.segments_of ss) ≡ true
bare_of [] h = refl
bare_of (x ∷ ss) h = let a = and_parts (has_none x.arguments) _ h in and_from _ _ a.0 (bare_of ss a.1)

bounds_pass : (bs : List BoundTree) → Chain (λ b. bound_fits b ≡ true) (λ (b : BoundTree). Unit {0}) bs → bounds_fit (t.bounds_of bs) ≡ true
bounds_pass [] h = refl
bounds_pass (b ∷ []) h = and_from _ _ h refl
bounds_pass (b ∷ c ∷ bs) h = and_from _ _ h.0 (bounds_pass (c ∷ bs) h.2)

some_bound : (bs : List BoundTree) → is_nil bs ≡ false → not (no_more_bounds (t.bounds_of bs)) ≡ true
some_bound [] h = absurd cc
some_bound (b ∷ bs) h = refl

-- bounds, as they are after `impl` and `dyn`
abbrev BoundsAt : Bool → List BoundTree × Bool → List Tok → Type 0
BoundsAt b x n = (type_fits b (t.impl_trait (t.bounds_of x.0) x.1) ≡ true) × (b ≡ false → colon2.at n ≡ true → Over (t.impl_trait (t.bounds_of x.0) x.1))

-- ---- parts that hold types

module _ {type : Bool → Form TypeTree} (again : (b : Bool) → Tells (Fit b) (type b)) where
  abbrev OutputAt : Bool → ReturnTree → List Tok → Type 0
  OutputAt b o n = (output_fits b o ≡ true) × (b ≡ false → colon2.at n ≡ true → ReturnOver o)

  pub output_tells : (b : Bool) → Tells (λ l o n. OutputAt b o n) (p.output type b)
  unfolding p.output
  output_tells b =
      or_tells arrow.at (after_mark {T = OutputAt b} arrow (shown_tells t.given p.from_given (again b) (λ l x n h. h)))
      (pure_tells t.default p.is_default (λ l. (refl, λ e c. default_over)))

  one_type : Tells (Of (λ x. type_fits true x ≡ true)) (type true)
  one_type = weaker (again true) (λ l x n h. h.0)

  generic_tells : Tells (Of (λ g. generic_fits g ≡ true)) (p.generic type)
  unfolding p.generic
  generic_tells =
      or_tells lifetime_at (shown_tells {P = Any} t.a_lifetime p.from_lifetime any (λ l x n h. refl))
      (or_tells p.const_at (shown_tells t.a_const p.from_const constant_tells (λ l x n h. h))
      (or_tells p.assoc_at
      (shown_tells p.to_assoc p.from_assoc (both_tells name_tells (mark_tells {Q = Of (λ x. type_fits true x ≡ true)} eq one_type (λ l x n e h. h))) (λ l x n h. and_from _ _ h.1 h.2))
      (shown_tells t.a_type p.from_type one_type (λ l x n h. h))))

  angle_tells : Tells (Of (AllOf (λ g. generic_fits g ≡ true))) (p.angle type)
  unfolding p.angle
  angle_tells = mark_tells {Q = Of (AllOf (λ g. generic_fits g ≡ true))} lt (closed_of gt (listed_tells comma gt.at generic_tells)) (λ l x n e h. h)

  abbrev AngleSaid : Said ArgumentsTree
  AngleSaid l a n =
      (arguments_fit style.Type a ≡ true) × (colon2.at l ≡ true → arguments_fit style.Expr a ≡ true) × ((s : PathStyle) (w v : Text) → arguments_stop s w a (on v) ≡ true)

  pub angle_bracketed_tells : Tells AngleSaid (p.angle_bracketed type)
  unfolding p.angle_bracketed
  angle_bracketed_tells = shown_tells {Q = AngleSaid} p.to_angle p.from_angle (both_tells (flag_tells colon2) angle_tells) found
    where
      found : (l : List Tok) (x : Bool × (List GenericTree × Bool)) (n : List Tok) → Then (IsFlag colon2) (λ c. Of (AllOf (λ g. generic_fits g ≡ true))) l x n → AngleSaid l (p.to_angle x) n
      found l (c, (gs, e)) n (m, h, g) =
          let all = and_from _ _ (generics_pass gs g.0) (generics_end gs e g.1) in
          (all, (λ i. and_from _ _ (sym h.0 ∙ i) all), (λ s w v. refl))

  abbrev RoundSaid : Said ArgumentsTree
  RoundSaid l a n = (arguments_fit style.Type a ≡ true) × (colon2.at n ≡ true → (s : PathStyle) (w v : Text) → arguments_stop s w a (on v) ≡ true)

  return_is : (o : ReturnTree) → output_fits false o ≡ true → return_fits o ≡ true
  return_is t.default h = refl
  return_is (t.given x) h = h

  parenthesized_tells : Tells RoundSaid (p.parenthesized type)
  unfolding p.parenthesized
  parenthesized_tells =
      shown_tells {Q = RoundSaid} p.to_round p.from_round (both_tells (inside_tells del.Parenthesis (listed_tells comma is_empty one_type)) (output_tells false))
      (λ l x n h. (and_from _ _ (types_pass x.0.0 h.1.0) (and_from _ _ (types_end x.0.0 x.0.1 h.1.1) (return_is x.1 h.2.0)), λ c s w v. h.2.1 refl c v))

  arguments_tells : (s : PathStyle) (w : Text) → Tells (λ l a n. ArgsAt s w a n) (p.arguments type s)
  unfolding p.arguments p.turbofish_at
  arguments_tells style.Mod w = weaker (no_arguments_tells style.Mod w) (λ l a n h. h.0)
  arguments_tells style.Expr w =
      when_tells p.turbofish_at (weaker angle_bracketed_tells (λ l a n h e. (h.1 (and_parts (colon2.at l) _ e).0, λ c v. h.2 style.Expr w v)))
      (weaker (no_arguments_tells style.Expr w) (λ l a n h e. h.0))
  arguments_tells style.Type w =
      or_tells p.angle_at (weaker angle_bracketed_tells (λ l a n h. (h.0, λ c v. h.2 style.Type w v)))
      (or_tells round_at (weaker parenthesized_tells (λ l a n h. (h.0, λ c v. h.1 c style.Type w v))) (weaker (no_arguments_tells style.Type w) (λ l a n h. h.0)))

  pub method_arguments : Tells (Of (λ a. arguments_fit style.Expr a ≡ true)) (p.arguments type style.Expr)
  method_arguments = weaker (arguments_tells style.Expr []) (λ l a n h. h.0)

  abbrev AfterName : PathStyle → Text → Said ArgumentsTree
  AfterName s w l a n = (not (stands_alone w) || has_none a ≡ true) × ArgsAt s w a n

  pub segment_tells : (s : PathStyle) → Tells (Linked (Good s) (Links s) colon2) (p.segment type s)
  unfolding p.segment
  segment_tells s =
      shown_tells {Q = Linked (Good s) (Links s) colon2} p.to_segment p.from_segment
      (then_by_tells segment_name_tells (λ w. when_tells {P = AfterName s w} (λ l. stands_alone w)
      (weaker (no_arguments_tells s w) (λ l a n h e. (ap (λ b. not (stands_alone w) || b) h.1 ∙ or_true (not (stands_alone w)), h.0)))
      (weaker (arguments_tells s w) (λ l a n h e. (ap (λ b. not b || has_none a) e, h)))))
      (λ l x n h. (record { name = h.1; alone = h.2.0; arguments = h.2.1.0 }, λ c. record { links = λ v. h.2.1.1 c v }))

  abbrev PiecesSaid : PathStyle → Said (Bool × List SegmentTree)
  PiecesSaid s l x n = Segments s x.1 × (is_nil x.1 ≡ false) × (colon2.at n ≡ false)

  pieces_tells : (s : PathStyle) → Tells (PiecesSaid s) (p.pieces type s)
  unfolding p.pieces
  pieces_tells s = weaker {Q = PiecesSaid s} (both_tells (flag_tells colon2) (joined_tells (Good s) (Links s) colon2 (segment_tells s))) (λ l x n h. h.2)

  pub path_tells : (s : PathStyle) → Tells (PathSaid s) (p.path type s)
  unfolding p.path
  path_tells s =
      shown_tells {Q = PathSaid s} p.to_path p.from_path (pieces_tells s)
      (λ l x n h. (and_from _ _ (some_segment x.1 h.1) (segments_pass s x.1 h.0), h.2))

  qualified_tells : (s : PathStyle) → Tells (QPathSaid s) (p.qualified type s)
  unfolding p.qualified
  qualified_tells s =
      shown_tells {Q = QPathSaid s} p.to_qualified p.from_qualified
      (both_tells
      (closed_by_tells gt (both_tells one_type (maybe_tells as_word.at (mark_tells {Q = Of (λ x. Segments style.Type x.1 × (is_nil x.1 ≡ false))} as_word (pieces_tells style.Type) (λ l x n e h. (h.0, h.1))))))
      (mark_tells {Q = Several (Good s) (Links s) colon2} colon2 (joined_tells (Good s) (Links s) colon2 (segment_tells s)) (λ l x n e h. h)))
      (λ l x n h. let (m, (k, (j, fits, inner), e), g) = h in made x n fits j k inner g)
    where
      made : (x : p.Qualified × List SegmentTree) (n : List Tok) → type_fits true x.0.0 ≡ true → (j k : List Tok)
          → If as_word.at (Of (λ (y : Bool × List SegmentTree). Segments style.Type y.1 × (is_nil y.1 ≡ false))) j x.0.1 k
          → Segments s x.1 × (is_nil x.1 ≡ false) × (colon2.at n ≡ false) → (qpath_fits s (p.to_qualified x) ≡ true) × (colon2.at n ≡ false)
      made ((x, None), ss) n f j k i g =
          let zero_inside : segments_fit (at_most 0 (count_segments (t.segments_of ss))) s (t.segments_of ss) ≡ true =
          rw (at_most_zero (count_segments (t.segments_of ss))) (segments_pass s ss g.0) in
          (and_from _ _ (some_segment ss g.1) (and_from _ _ (and_from _ _ f refl) zero_inside), g.2)
      made ((x, Some y), ss) n f j k i g =
          let (chain, some) = i.1 in
          let less = more_than y.1 ss g.1 in
          let within : segments_fit (at_most (length y.1) (count_segments (t.segments_of (y.1 ++ ss)))) s (t.segments_of (y.1 ++ ss)) ≡ true =
          rw (at_most_less (length y.1) (count_segments (t.segments_of (y.1 ++ ss))) less) (within_pass s y.1 ss chain g.0) in
          (and_from _ _ (some_segment (y.1 ++ ss) (some_of_both y.1 ss g.1)) (and_from _ _ (and_from _ _ f (and_from _ _ (some_inside y.1 some) less)) within), g.2)
        where
          some_inside : (xs : List SegmentTree) → is_nil xs ≡ false → nat_lt 0 (length xs) ≡ true
          some_inside [] h = absurd cc
          some_inside (x ∷ xs) h = grind (arith, nat_tests)

  pub qpath_tells : (s : PathStyle) → Tells (QPathSaid s) (p.qpath type s)
  unfolding p.qpath
  qpath_tells s =
      or_tells less.at (after_mark {T = λ q n. (qpath_fits s q ≡ true) × (colon2.at n ≡ false)} less (qualified_tells s))
      (shown_tells p.to_bare p.from_bare (path_tells s) (λ l x n h. h))

  abbrev BoundAt : BoundTree → List Tok → Type 0
  BoundAt b n = (bound_fits b ≡ true) × (colon2.at n ≡ true → BoundOver b)

  trait_tells : Tells (λ l b n. BoundAt b n) (p.trait_bound type)
  trait_tells =
      shown_tells p.to_trait p.from_trait (both_tells (flag_tells question) (both_tells (maybe_fits lifetimes_fit p.lifetimes_at lifetimes_tells) (path_tells style.Type)))
      (λ l x n h.
      let f = h.2.1 in
      let g = h.2.2 in
      let a = and_parts (not x.1.1.trailing) _ g.0 in
      let c = and_parts (not (no_more_segments (t.segments_of x.1.1.segments))) _ a.1 in
      (and_from _ _ a.0 (and_from _ _ c.0 (and_from _ _ f c.1)), λ e. clash (colon2.at n) e g.1))

  bound_tells : Tells (λ l b n. BoundAt b n) (p.bound type)
  unfolding p.bound
  bound_tells = or_tells lifetime_at (shown_tells {P = Any} t.outlives p.from_outlives any (λ l x n h. (refl, λ c v. refl))) trait_tells

  bounds_tells : (b : Bool) → Tells (λ l x n. BoundsAt b x n) (p.bounds type b)
  unfolding p.bounds
  bounds_tells b =
      when_tells (λ l. b)
      (shown_tells {Q = Where (λ l. b) true (λ l x n. BoundsAt b x n)} p.to_several p.from_several
      (joined_tells (λ x. bound_fits x ≡ true) (λ (x : BoundTree). Unit {0}) plus (weaker bound_tells (λ l x n h. (h.0, λ c. tt))))
      (λ l bs n h e. (and_from _ _ (some_bound bs h.1) (and_from _ _ (ap (λ c. c || is_one_bound (t.bounds_of bs)) e) (bounds_pass bs h.0)), λ f. clash b e f)))
      (shown_tells {Q = Where (λ l. b) false (λ l x n. BoundsAt b x n)} p.to_one p.from_one bound_tells
      (λ l x n h e. (and_from _ _ (or_true b) (and_from _ _ h.0 refl), λ f c v. and_from _ _ (h.1 c v) refl)))

  reference_tells : (b : Bool) → Tells (Fit b) (p.reference type)
  unfolding p.reference
  reference_tells b = shown_tells {Q = Fit b} p.to_reference p.from_reference (both_tells (anything (maybe lifetime_at p.lifetime)) (both_tells (anything (flag mutable)) (again false))) (λ l x n h. let g = h.2.2 in (g.0, λ e c. g.1 refl c))

  pointer_tells : (b : Bool) → Tells (Fit b) (p.pointer type)
  unfolding p.pointer
  pointer_tells b = shown_tells {Q = Fit b} p.to_pointer p.from_pointer (both_tells (anything p.mutability) (again false)) (λ l x n h. let g = h.2 in (g.0, λ e c. g.1 refl c))

  row_tells : Tells (Of Closed) (p.slice_or_array type)
  unfolding p.slice_or_array
  row_tells = shown_tells {Q = Of Closed} p.to_row p.from_row (both_tells one_type (maybe_tells semi.at (mark_tells {Q = Ok is_some_token} semi rest_of_tells (λ l x n e h. h)))) (λ l x n h. let (m, f, g) = h in made x m n f g)
    where
      made : (x : TypeTree × Option (List Tok)) (m n : List Tok) → type_fits true x.0 ≡ true → If semi.at (Ok is_some_token) m x.1 n → Closed (p.to_row x)
      made (x, None) m n f g = ((λ b. f), λ v. refl)
      made (x, Some ts) m n f g = ((λ b. and_from _ _ f g.1), λ v. refl)

  round_tells : Tells (Of Closed) (p.tuple_or_paren type)
  unfolding p.tuple_or_paren
  round_tells = shown_tells {Q = Of Closed} p.to_tuple p.from_tuple (listed_tells comma is_empty one_type) (λ l x n h. made x h)
    where
      made : (x : List TypeTree × Bool) → AllOf (λ x. type_fits true x ≡ true) x → Closed (p.to_tuple x)
      made ([], c) h = ((λ b. and_from _ _ h.1 refl), λ v. refl)
      made (x ∷ [], true) h = ((λ b. and_from _ _ (types_pass (x ∷ []) h.0) refl), λ v. refl)
      made (x ∷ [], false) h = ((λ b. h.0.0), λ v. refl)
      made (x ∷ y ∷ ts, c) h = ((λ b. and_from _ _ (types_pass (x ∷ y ∷ ts) h.0) refl), λ v. refl)

  fn_arg_tells : Tells (Of arg_passes) (p.fn_arg type)
  unfolding p.fn_arg
  fn_arg_tells =
      shown_tells {Q = Of arg_passes} p.to_arg p.from_arg (both_tells (maybe_fits is_arg_name p.arg_name_at (closed_of lone_colon arg_name_tells)) one_type) (λ l x n h. (h.1, h.2))

  fn_pointer_tells : (b : Bool) → Tells (Fit b) (p.fn_pointer type)
  unfolding p.fn_pointer
  fn_pointer_tells b =
      shown_tells {Q = Fit b} p.to_fn p.from_fn
      (both_tells fn_head_tells
      (after_mark {T = λ x n. AllOf arg_passes x.0 × OutputAt false x.1 n} fn_word (weaker (both_tells (inside_tells del.Parenthesis (listed_tells comma is_empty fn_arg_tells)) (output_tells false)) (λ l x n h. (h.1, h.2)))))
      (λ l x n h.
      let a = and_parts (fits_if lifetimes_fit x.0.0) (fits_if (fits_if is_string) x.0.1.1) h.1 in
      let g = h.2 in
      (and_from _ _ a.0 (and_from _ _ a.1 (and_from _ _ (args_pass x.1.0.0 g.0.0) (and_from _ _ (args_end x.1.0.0 x.1.0.1 g.0.1) (return_is x.1.1 g.1.0)))), λ e c. g.1.1 refl c))

  implements_tells : (b : Bool) → Tells (Fit b) (p.implements type b)
  unfolding p.implements
  implements_tells b = shown_tells {Q = Fit b} p.to_impl p.from_impl (bounds_tells b) (λ l x n h. h)

  object_tells : (b : Bool) → Tells (Fit b) (p.object type b)
  unfolding p.object
  object_tells b = shown_tells {Q = Fit b} p.to_object p.from_object (bounds_tells b) (λ l x n h. h)

  named_tells : (b : Bool) → Tells (Fit b) (p.named type)
  unfolding p.named
  named_tells b = shown_tells {Q = Fit b} p.to_named p.from_named (then_by_tells (qpath_tells style.Type) macro_end_tells) (λ l x n h. let (m, f, g) = h in made x m n f g)
    where
      made : (x : QPathTree × p.MacroEnd) (m n : List Tok) → (qpath_fits style.Type x.0 ≡ true) × (colon2.at m ≡ false) → Macro x.0 x.1 × (x.1 ≡ None → n ≡ m) → FitAt b (p.to_named x) n
      made ((q, y), None) m n f g = (f.0, λ e c. clash (colon2.at n) c (ap colon2.at (g.1 refl) ∙ f.1))
      made ((t.qself x k a, y), Some z) m n f g = absurd (let i = g.0.0 in cc)
      made ((t.no_qself, y), Some z) m n f g =
          let a = and_parts (not y.trailing) _ f.0 in
          let c = and_parts (not (no_more_segments (t.segments_of y.segments))) _ a.1 in
          (and_from _ _ a.0 (and_from _ _ c.0 (and_from _ _ (bare_of y.segments g.0.0) (and_from _ _ (and_parts true _ c.1).1 g.0.1))), λ e d v. refl)

  at_place_tells : (b : Bool) → Tells (Fit b) (p.at_place type b)
  unfolding p.at_place
  at_place_tells b =
      or_tells and.at (after_mark {T = FitAt b} and (reference_tells b))
      (or_tells star.at (after_mark {T = FitAt b} star (pointer_tells b))
      (or_tells bang.at (after_mark {T = FitAt b} bang (pure_tells t.never p.is_never (λ l. (refl, λ e c v. refl))))
      (or_tells underscore.at (after_mark {T = FitAt b} underscore (pure_tells t.infer p.is_infer (λ l. (refl, λ e c v. refl))))
      (or_tells _ (weaker (inside_tells del.Bracket row_tells) (closed_fits b))
      (or_tells _ (weaker (inside_tells del.Parenthesis round_tells) (closed_fits b))
      (or_tells p.fn_at (fn_pointer_tells b)
      (or_tells implementing.at (after_mark {T = FitAt b} implementing (implements_tells b))
      (or_tells dynamic.at (after_mark {T = FitAt b} dynamic (object_tells b))
      (named_tells b)))))))))

pub type_tells : (b : Bool) → Tells (Fit b) (p.type b)
unfolding p.type
type_tells b = fix_tells {A = λ i. TypeTree} {P = Fit} {step = p.at_place} (λ f r c. at_place_tells r c) b
