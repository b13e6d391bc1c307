-- Where a part is read back from its own tokens: `x_fits x` is what a part must be for it, and `x_stops x r` says that the
-- tokens r after it don't go on with it.
use Rattle.std.specs.Prelude.{ℕ, zero, suc, Bool, true, false, not, ◌&&◌, ◌||◌, ◌==◌, nat_lt, if◌then◌else◌, List, [], ◌∷◌, codes, Option, Some, None}
use Rattle.syn_lexer.specs.Keywords.{is_reserved_word}
use Rattle.syn_lexer.specs.declared.front.Delimiter.{Delimiter}
use Rattle.syn_lexer.specs.declared.front.Delimiter.TheVariants as del
use Rattle.syn_lexer.specs.declared.front.Spacing.TheVariants as spacing
use Rattle.syn_tokens.specs.Tok.{Tok, ident, punct, literal, group}
use Rattle.syn_tokens.specs.Front.{is_empty}
use Rattle.syn_lower_spec.specs.declared.label.LitKind.{LitKind}
use Rattle.syn_lower_spec.specs.declared.label.LitKind.TheVariants as kind
use Rattle.syn_lower_spec.specs.declared.label.PathStyle.{PathStyle}
use Rattle.syn_lower_spec.specs.declared.label.PathStyle.TheVariants as style
use Rattle.syn_lower_spec.specs.Text.{Text, is_segment, stands_alone, is_truth, is_number, number_kind, kind_of}
use Rattle.syn_lower_spec.specs.Same.{same_kind}
use Rattle.syn_lower_spec.specs.Form.{Test}
use Rattle.syn_lower_spec.specs.Mark.{lone_colon, colon2, arrow, eq, plus, not_ne, round_at}
use Rattle.syn_lower_spec.specs.Part.{has_none, is_arg_name, angle_at, turbofish_at, string_at, MacroTree, QPathTree}
use Rattle.syn_lower_spec.specs.Own.{no_more_types, no_more_segments, no_more_generics, no_more_args, no_more_bounds, count_segments, inner_count, one_less, colon2_before}
use Rattle.syn_lower_spec.specs.Tree as t
use Rattle.syn_lower_spec.specs.Tree.{LitTree, LifetimesTree, TypeTree, Types, QSelfTree, Segments, SegmentTree, PathTree, FnArgs, FnArgTree, ArgumentsTree, Generics, GenericTree, ReturnTree, Bounds, BoundTree}

-- ---- literals

abbrev pub has_kind : Option LitKind → LitKind → Bool
has_kind None k = false
has_kind (Some j) k = same_kind j k

-- the text of a number after its sign
abbrev pub number_fits : LitKind → Text → Bool
number_fits k [] = false
number_fits k (c ∷ text) =
    if c == 45 then is_number text && same_kind (number_kind text) k else has_kind (kind_of (c ∷ text)) k

abbrev pub lit_fits_by : LitKind → Text → Bool
lit_fits_by kind.Bool text = is_truth text
lit_fits_by kind.Int text = number_fits kind.Int text
lit_fits_by kind.Float text = number_fits kind.Float text
lit_fits_by k text = has_kind (kind_of text) k

unfoldable pub lit_fits : LitTree → Bool
lit_fits x = lit_fits_by x.kind x.text

-- a literal without a sign, and one of this kind
abbrev pub unsigned_fits_by : LitKind → Text → Bool
unsigned_fits_by kind.Bool text = is_truth text
unsigned_fits_by k text = has_kind (kind_of text) k

abbrev pub unsigned_fits : LitTree → Bool
unsigned_fits x = unsigned_fits_by x.kind x.text

abbrev pub of_kind_fits : LitKind → LitTree → Bool
of_kind_fits k x = same_kind x.kind k && unsigned_fits x

-- no tokens go on with it
abbrev pub closed : {A : Type 0} → A → Test
closed x r = true

-- ---- lists: a separator ends only a list that has elements

abbrev pub ends_well : Bool → Bool → Bool
ends_well none e = not (none && e)

abbrev pub is_none : {A : Type 0} → List A → Bool
is_none [] = true
is_none (x ∷ xs) = false

abbrev pub lifetimes_fit : LifetimesTree → Bool
lifetimes_fit p = ends_well (is_none p.0) p.1

abbrev pub fits_if : {A : Type 0} → (A → Bool) → Option A → Bool
fits_if f None = true
fits_if f (Some x) = f x

-- ---- types

abbrev pub is_const : List Tok → Bool
is_const (literal text ∷ []) = true
is_const (ident text ∷ []) = is_truth text
is_const (punct c spacing.Alone ∷ literal text ∷ []) = c == 45 && is_number text
is_const (group del.Brace i ∷ []) = true
is_const _ = false

abbrev pub is_macro_delimiter : Delimiter → Bool
is_macro_delimiter del.None = false
is_macro_delimiter _ = true

abbrev pub is_string : LitTree → Bool
is_string x = same_kind x.kind kind.Str && has_kind (kind_of x.text) kind.Str

-- `extern` without a string goes on with one
abbrev pub abi_stops : Option LitTree → Test
abi_stops None r = not (string_at r)
abi_stops (Some x) r = true

abbrev pub is_one_type : Types → Bool
is_one_type (t.more_types x t.no_types) = true
is_one_type _ = false

abbrev pub is_one_bound : Bounds → Bool
is_one_bound (t.more_bounds b t.no_bounds) = true
is_one_bound _ = false

-- what `as` says of how many segments are inside
abbrev pub position_fits : Bool → ℕ → Bool → ℕ → Bool
position_fits false n leading count = n == 0 && leading
position_fits true n leading count = nat_lt 0 n && nat_lt n count

-- no segment has arguments
abbrev pub bare_segments : Segments → Bool
bare_segments t.no_segments = true
bare_segments (t.more_segments w a ss) = has_none a && bare_segments ss

-- the style of a segment: those that are inside are read as in a type
abbrev pub style_at : ℕ → PathStyle → PathStyle
style_at zero s = s
style_at (suc n) s = style.Type

abbrev pub takes_angle : PathStyle → Bool → Bool
takes_angle style.Mod c = false
takes_angle style.Expr c = c
takes_angle style.Type c = true

abbrev pub takes_round : PathStyle → Bool
takes_round style.Type = true
takes_round _ = false

-- ---- what is after a part

-- no arguments begin
abbrev pub none_stops : PathStyle → Test
none_stops style.Mod r = true
none_stops style.Expr r = not (turbofish_at r)
none_stops style.Type r = not (angle_at r) && not (round_at r)

-- what a segment without arguments would go on with
abbrev pub name_stops : PathStyle → Text → Test
name_stops style.Mod w r = true
name_stops style.Expr w r = stands_alone w || none_stops style.Expr r
name_stops style.Type w r = stands_alone w || none_stops style.Type r

abbrev mutual
  pub type_stops : Bool → TypeTree → Test
  type_stops b (t.path q l ss e) r = segments_stop style.Type ss r && (not (colon2.at r) && mac_stops q ss r)
  type_stops b (t.reference a m x) r = type_stops false x r
  type_stops b (t.ptr m x) r = type_stops false x r
  type_stops b (t.fn_ptr f u a xs e o) r = return_stops o r
  type_stops b (t.impl_trait bs e) r = bounds_stop bs r && not (b && plus.at r)
  type_stops b (t.trait_object bs e) r = bounds_stop bs r && not (b && plus.at r)
  type_stops b _ r = true

  -- a path without arguments goes on at `!`
  pub mac_stops : QSelfTree → Segments → Test
  mac_stops t.no_qself ss r = not (bare_segments ss && not_ne.at r)
  mac_stops (t.qself x n a) ss r = true

  pub segments_stop : PathStyle → Segments → Test
  segments_stop s t.no_segments r = true
  segments_stop s (t.more_segments w a t.no_segments) r = arguments_stop s w a r
  segments_stop s (t.more_segments w a (t.more_segments v c ss)) r = segments_stop s (t.more_segments v c ss) r

  pub arguments_stop : PathStyle → Text → ArgumentsTree → Test
  arguments_stop s w t.no_arguments r = name_stops s w r
  arguments_stop s w (t.angle c gs e) r = true
  arguments_stop s w (t.round xs e o) r = return_stops o r

  pub return_stops : ReturnTree → Test
  return_stops t.default r = not (arrow.at r)
  return_stops (t.given x) r = type_stops false x r

  pub bounds_stop : Bounds → Test
  bounds_stop t.no_bounds r = true
  bounds_stop (t.more_bounds b t.no_bounds) r = bound_stops b r
  bounds_stop (t.more_bounds b (t.more_bounds c bs)) r = bounds_stop (t.more_bounds c bs) r

  pub bound_stops : BoundTree → Test
  bound_stops (t.outlives w) r = true
  bound_stops (t.a_trait q f l ss e) r = segments_stop style.Type ss r && not (colon2.at r)

-- Where another segment follows after `::`, this one doesn't go on there: an output that ends in a path would.
abbrev pub goes_over : ℕ → PathStyle → Text → ArgumentsTree → Segments → Bool
goes_over n s w a t.no_segments = true
goes_over zero s w a (t.more_segments v c ss) = arguments_stop s w a (colon2_before (ident v ∷ []))
goes_over (suc zero) s w a (t.more_segments v c ss) = true
goes_over (suc (suc n)) s w a (t.more_segments v c ss) = arguments_stop s w a (colon2_before (ident v ∷ []))

-- ---- what is read back

abbrev mutual
  pub type_fits : Bool → TypeTree → Bool
  type_fits b (t.path q l ss e) = not e && (not (no_more_segments ss) && (qself_fits q l (count_segments ss) && segments_fit (inner_count q (count_segments ss)) style.Type ss))
  type_fits b (t.mac l ss e d ts) = not e && (not (no_more_segments ss) && (bare_segments ss && (segments_fit 0 style.Type ss && is_macro_delimiter d)))
  type_fits b (t.reference a m x) = type_fits false x
  type_fits b (t.ptr m x) = type_fits false x
  type_fits b (t.slice x) = type_fits true x
  type_fits b (t.array x n) = type_fits true x && not (is_empty n)
  type_fits b (t.tuple xs e) = types_fit xs && (ends_well (no_more_types xs) e && not (is_one_type xs && not e))
  type_fits b (t.paren x) = type_fits true x
  type_fits b t.never = true
  type_fits b t.infer = true
  type_fits b (t.fn_ptr f u a xs e o) = fits_if lifetimes_fit f && (fits_if (fits_if is_string) a && (args_fit xs && (ends_well (no_more_args xs) e && return_fits o)))
  type_fits b (t.impl_trait bs e) = not e && (not (no_more_bounds bs) && ((b || is_one_bound bs) && bounds_fit bs))
  type_fits b (t.trait_object bs e) = not e && (not (no_more_bounds bs) && ((b || is_one_bound bs) && bounds_fit bs))

  pub types_fit : Types → Bool
  types_fit t.no_types = true
  types_fit (t.more_types x xs) = type_fits true x && types_fit xs

  pub qself_fits : QSelfTree → Bool → ℕ → Bool
  qself_fits t.no_qself l k = true
  qself_fits (t.qself x n a) l k = type_fits true x && position_fits a n l k

  -- n segments are inside, the others are of this style
  pub segments_fit : ℕ → PathStyle → Segments → Bool
  segments_fit n s t.no_segments = true
  segments_fit n s (t.more_segments w a ss) =
      is_segment w && ((not (stands_alone w) || has_none a) && (arguments_fit (style_at n s) a && (goes_over n (style_at n s) w a ss && segments_fit (one_less n) s ss)))

  pub arguments_fit : PathStyle → ArgumentsTree → Bool
  arguments_fit s t.no_arguments = true
  arguments_fit s (t.angle c gs e) = takes_angle s c && (generics_fit gs && ends_well (no_more_generics gs) e)
  arguments_fit s (t.round xs e o) = takes_round s && (types_fit xs && (ends_well (no_more_types xs) e && return_fits o))

  pub generics_fit : Generics → Bool
  generics_fit t.no_generics = true
  generics_fit (t.more_generics g gs) = generic_fits g && generics_fit gs

  pub generic_fits : GenericTree → Bool
  generic_fits (t.a_lifetime w) = true
  generic_fits (t.a_const ts) = is_const ts
  generic_fits (t.an_assoc w x) = not (is_reserved_word w) && type_fits true x
  generic_fits (t.a_type x) = type_fits true x

  pub return_fits : ReturnTree → Bool
  return_fits t.default = true
  return_fits (t.given x) = type_fits false x

  pub args_fit : FnArgs → Bool
  args_fit t.no_args = true
  args_fit (t.more_args n x xs) = fits_if is_arg_name n && (type_fits true x && args_fit xs)

  pub bounds_fit : Bounds → Bool
  bounds_fit t.no_bounds = true
  bounds_fit (t.more_bounds b bs) = bound_fits b && bounds_fit bs

  pub bound_fits : BoundTree → Bool
  bound_fits (t.outlives w) = true
  bound_fits (t.a_trait q f l ss e) = not e && (not (no_more_segments ss) && (fits_if lifetimes_fit f && segments_fit 0 style.Type ss))

-- ---- paths and macros

abbrev pub path_fits : PathStyle → PathTree → Bool
path_fits s p = not p.trailing && (not (no_more_segments (t.segments_of p.segments)) && segments_fit 0 s (t.segments_of p.segments))

abbrev pub path_stops : PathStyle → PathTree → Test
path_stops s p r = segments_stop s (t.segments_of p.segments) r && not (colon2.at r)

abbrev pub qpath_fits : PathStyle → QPathTree → Bool
qpath_fits s q =
    not q.1.trailing && (not (no_more_segments (t.segments_of q.1.segments))
    && (qself_fits q.0 q.1.leading (count_segments (t.segments_of q.1.segments))
    && segments_fit (inner_count q.0 (count_segments (t.segments_of q.1.segments))) s (t.segments_of q.1.segments)))

abbrev pub macro_fits : MacroTree → Bool
macro_fits m = path_fits style.Mod m.path && is_macro_delimiter m.delimiter

abbrev pub output_fits : Bool → ReturnTree → Bool
output_fits b t.default = true
output_fits b (t.given x) = type_fits b x

abbrev pub output_stops : Bool → ReturnTree → Test
output_stops b t.default r = not (arrow.at r)
output_stops b (t.given x) r = type_stops b x r

-- ---- parts of paths and of function pointers

-- a segment, as the path that it is alone
abbrev pub segment_fits : PathStyle → SegmentTree → Bool
segment_fits s x = segments_fit 0 s (t.segments_of (x ∷ []))

abbrev pub segment_stops : PathStyle → SegmentTree → Test
segment_stops s x r = arguments_stop s x.ident x.arguments r

-- arguments after a name that may have some
abbrev pub after_name_stops : PathStyle → ArgumentsTree → Test
after_name_stops s t.no_arguments r = none_stops s r
after_name_stops s (t.angle c gs e) r = true
after_name_stops s (t.round xs e o) r = return_stops o r

-- in `<` and `>`, and in parentheses
abbrev pub in_angle_fits : ArgumentsTree → Bool
in_angle_fits (t.angle c gs e) = arguments_fit style.Type (t.angle c gs e)
in_angle_fits _ = false

abbrev pub in_round_fits : ArgumentsTree → Bool
in_round_fits (t.round xs e o) = arguments_fit style.Type (t.round xs e o)
in_round_fits _ = false

abbrev pub angle_fits : List GenericTree × Bool → Bool
angle_fits p = in_angle_fits (t.angle false (t.generics_of p.0) p.1)

-- the type is one such word
abbrev pub is_word : (Text → Bool) → TypeTree → Bool
is_word such (t.path t.no_qself false (t.more_segments w t.no_arguments t.no_segments) false) = such w
is_word such t.infer = such (codes "_")
is_word such _ = false

abbrev pub assoc_fits : Text × TypeTree → Bool
assoc_fits p = generic_fits (t.an_assoc p.0 p.1)

-- A name before `=` would begin an associated type.
abbrev pub generic_stops : GenericTree → Test
generic_stops (t.a_lifetime w) r = true
generic_stops (t.a_const ts) r = true
generic_stops (t.an_assoc w x) r = type_stops true x r
generic_stops (t.a_type x) r = type_stops true x r && not (is_word (λ w. not (is_reserved_word w)) x && eq.at r)

abbrev pub arg_fits : FnArgTree → Bool
arg_fits x = args_fit (t.args_of (x ∷ []))

-- A word before `:` would be the argument's name.
abbrev pub arg_stops_by : Option Text → TypeTree → Test
arg_stops_by (Some w) x r = type_stops true x r
arg_stops_by None x r = type_stops true x r && not (is_word is_arg_name x && lone_colon.at r)

abbrev pub arg_stops : FnArgTree → Test
arg_stops x r = arg_stops_by x.name x.ty r

-- `?`? `for<..>`? path
abbrev pub trait_fits : BoundTree → Bool
trait_fits (t.outlives w) = false
trait_fits (t.a_trait q f l ss e) = bound_fits (t.a_trait q f l ss e)

-- bounds, as what they are after `impl`
abbrev pub bounds_list_fits : Bool → List BoundTree × Bool → Bool
bounds_list_fits b p = type_fits b (t.impl_trait (t.bounds_of p.0) p.1)

abbrev pub bounds_list_stops : Bool → List BoundTree × Bool → Test
bounds_list_stops b p r = type_stops b (t.impl_trait (t.bounds_of p.0) p.1) r
