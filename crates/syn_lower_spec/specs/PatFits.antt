-- Where a pattern is read back from its own tokens: `x_fits x` is what a pattern must be for it, and `x_stops x r` says that
-- the tokens r after it don't go on with it.
use Rattle.std.specs.Prelude.{ℕ, Bool, true, false, not, ◌&&◌, ◌||◌, ◌==◌, List, [], ◌∷◌, Option, Some, None}
use Rattle.syn_lower_spec.specs.PatOwn.{index_text, no_more_pats, no_more_fields}
use Rattle.syn_lexer.specs.Keywords.{is_reserved_word}
use Rattle.syn_lower_spec.specs.declared.label.PathStyle.TheVariants as style
use Rattle.syn_lower_spec.specs.Tree as t
use Rattle.syn_lower_spec.specs.Tree.{AttributeTree, PathTree, SegmentTree, QSelfTree}
use Rattle.syn_lower_spec.specs.Form.{Test}
use Rattle.syn_lower_spec.specs.Mark.{colon, brace_at, round_at, not_ne}
use Rattle.syn_lower_spec.specs.Part.{has_none, segments_bare}
use Rattle.syn_lower_spec.specs.Fits.{type_fits, type_stops, lit_fits, path_fits, path_stops, qpath_fits, is_macro_delimiter, ends_well}
use Rattle.syn_lower_spec.specs.Pat.{MemberTree, a_name, an_index, index_of, PatBound, lit_bound, path_bound, PatTree, SubPat, Pats, Fields, FieldTree, wild, rest, range, a_lit, a_binding, a_path, a_mac, a_struct, tuple_struct, a_tuple, a_paren, a_slice, a_reference, a_block, alternatives, guarded, typed, attributed, no_sub, sub, no_pats, more_pats, no_fields, more_fields, short, full, is_rest, bound_at, dots, at_sign, vert, goes_on}

-- ---- what is after a pattern

abbrev pub range_bound_stops : Option PatBound → Test
range_bound_stops None r = not (bound_at r)
range_bound_stops (Some (lit_bound x)) r = true
range_bound_stops (Some (path_bound q p)) r = path_stops style.Expr p r

abbrev pub path_pat_stops : QSelfTree → PathTree → Test
path_pat_stops t.no_qself p r = not (segments_bare p.segments && not_ne.at r) && (not (brace_at r) && not (round_at r))
path_pat_stops (t.qself x n a) p r = true

abbrev mutual
  pub single_stops : PatTree → Test
  single_stops rest r = not (bound_at r)
  single_stops (range s c e) r = range_bound_stops e r
  single_stops (a_lit x) r = not (dots.at r)
  single_stops (a_binding b m w s) r = sub_stops s r && (b || (m || not_bare s r))
  single_stops (a_path q p) r = path_stops style.Expr p r && (not (dots.at r) && path_pat_stops q p r)
  single_stops (a_reference m p) r = single_stops p r
  single_stops (alternatives l ps e) r = or_stops ps r
  single_stops _ r = true

  pub sub_stops : SubPat → Test
  sub_stops no_sub r = not (at_sign.at r)
  sub_stops (sub p) r = single_stops p r

  -- a bare name is followed by nothing that makes it a path
  pub not_bare : SubPat → Test
  not_bare no_sub r = not (goes_on r)
  not_bare (sub p) r = true

  pub or_stops : Pats → Test
  or_stops no_pats r = true
  or_stops (more_pats p no_pats) r = single_stops p r
  or_stops (more_pats p (more_pats q ps)) r = or_stops (more_pats q ps) r

-- where alternatives may stand, no `|` follows
abbrev pub pat_stops : Bool → PatTree → Test
pat_stops several p r = single_stops p r && not (several && vert.at r)

-- ---- what is read back

-- an index whose decimal digits are read as it
abbrev pub same_index : Option ℕ → ℕ → Bool
same_index None n = false
same_index (Some m) n = m == n

abbrev pub member_fits : MemberTree → Bool
member_fits (a_name w) = not (is_reserved_word w)
member_fits (an_index n) = same_index (index_of (index_text n)) n

abbrev pub range_bound_fits : PatBound → Bool
range_bound_fits (lit_bound x) = lit_fits x
range_bound_fits (path_bound q p) = qpath_fits style.Expr (q, p)

abbrev pub bound_or : Bool → Option PatBound → Bool
bound_or b None = b
bound_or b (Some x) = range_bound_fits x

-- a closed range has an end, and one without any bound is a rest
abbrev pub range_fits : Option PatBound → Bool → Option PatBound → Bool
range_fits None false None = false
range_fits s c e = bound_or true s && bound_or (not c) e

-- a path that is one name is a binding
abbrev pub is_name_alone : Bool → List SegmentTree → Bool
is_name_alone false (s ∷ []) = not (is_reserved_word s.ident) && has_none s.arguments
is_name_alone _ _ = false

abbrev pub is_one_name : QSelfTree → PathTree → Bool
is_one_name t.no_qself p = is_name_alone p.leading p.segments
is_one_name (t.qself x n a) p = false

-- after `&` a `mut` would belong to it
abbrev pub begins_mut : PatTree → Bool
begins_mut (a_binding false true w s) = true
begins_mut _ = false

abbrev pub attributes_outer : List AttributeTree → Bool
attributes_outer [] = true
attributes_outer (a ∷ more) = not a.inner && attributes_outer more

abbrev pub is_one_pat : Pats → Bool
is_one_pat (more_pats p no_pats) = true
is_one_pat _ = false

abbrev pub is_one_rest : Pats → Bool
is_one_rest (more_pats p no_pats) = is_rest p
is_one_rest _ = false

abbrev mutual
  pub pat_fits : Bool → PatTree → Bool
  pat_fits b wild = true
  pat_fits b rest = true
  pat_fits b (range s c e) = range_fits s c e
  pat_fits b (a_lit x) = lit_fits x
  pat_fits b (a_binding r m w s) = not (is_reserved_word w) && sub_fits s
  pat_fits b (a_path q p) = qpath_fits style.Expr (q, p) && not (is_one_name q p)
  pat_fits b (a_mac m) = path_fits style.Expr m.path && (segments_bare m.path.segments && is_macro_delimiter m.delimiter)
  pat_fits b (a_struct p fs e d) = path_fits style.Expr p && (fields_fit fs && (ends_well (no_more_fields fs) e && (not d || (no_more_fields fs || e))))
  pat_fits b (tuple_struct p ps e) = path_fits style.Expr p && (pats_fit ps && ends_well (no_more_pats ps) e)
  pat_fits b (a_tuple ps e) = pats_fit ps && (ends_well (no_more_pats ps) e && (not (is_one_pat ps) || (e || is_one_rest ps)))
  pat_fits b (a_paren p) = pat_fits true p && not (is_rest p)
  pat_fits b (a_slice ps e) = pats_fit ps && ends_well (no_more_pats ps) e
  pat_fits b (a_reference m p) = pat_fits false p && (m || not (begins_mut p))
  pat_fits b (a_block ts) = true
  pat_fits b (alternatives l ps e) = b && (not e && (not (no_more_pats ps) && ((l || not (is_one_pat ps)) && or_fits ps)))
  pat_fits b (guarded p) = false
  pat_fits b (typed p x) = false
  pat_fits b (attributed a more p) = false

  pub sub_fits : SubPat → Bool
  sub_fits no_sub = true
  sub_fits (sub p) = pat_fits false p

  pub pats_fit : Pats → Bool
  pats_fit no_pats = true
  pats_fit (more_pats p ps) = pat_fits true p && pats_fit ps

  pub or_fits : Pats → Bool
  or_fits no_pats = true
  or_fits (more_pats p ps) = pat_fits false p && or_fits ps

  pub fields_fit : Fields → Bool
  fields_fit no_fields = true
  fields_fit (more_fields a f fs) = attributes_outer a && (field_fits f && fields_fit fs)

  pub field_fits : FieldTree → Bool
  field_fits (short b m w) = not (is_reserved_word w)
  field_fits (full k p) = member_fits k && pat_fits true p

-- ---- arguments of closures

abbrev pub typed_fits : PatTree → Bool
typed_fits (typed p x) = pat_fits false p && type_fits true x
typed_fits p = pat_fits false p

abbrev pub closure_arg_fits : PatTree → Bool
closure_arg_fits (attributed a more p) = attributes_outer (a ∷ more) && typed_fits p
closure_arg_fits p = typed_fits p

abbrev pub typed_stops : PatTree → Test
typed_stops (typed p x) r = type_stops true x r
typed_stops p r = pat_stops false p r && not (colon.at r)

abbrev pub closure_arg_stops : PatTree → Test
closure_arg_stops (attributed a more p) r = typed_stops p r
closure_arg_stops p r = typed_stops p r
