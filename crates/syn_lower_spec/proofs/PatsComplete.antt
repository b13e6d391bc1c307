-- Patterns that are read of their own tokens pass their tests.
use Rattle.std.proofs.Common.{◌≡◌, ℕ, Bool, true, false, not, ◌&&◌, ◌||◌, ◌==◌, cond, List, [], ◌∷◌, Option, Some, None, refl, sym, ◌∙◌, subst, codes, arith}
use Rattle.std.proofs.lemmas.Bool.Decides.{nat_tests}
use Rattle.syn_lower_spec.specs.PatOwn.{index_text}
use Rattle.std.specs.Option.{is_some}
use Rattle.std.specs.Str.{bytes_eq}
use Rattle.syn_lexer.specs.Keywords.{is_reserved_word}
use Rattle.syn_lexer.specs.declared.front.Delimiter.{Delimiter}
use Rattle.syn_lexer.specs.declared.front.Delimiter.TheVariants as del
use Rattle.syn_tokens.specs.Tok.{Tok, ident}
use Rattle.syn_tokens.specs.Front.{group_at, is_empty}
use Rattle.syn_lower_spec.specs.declared.label.PathStyle.TheVariants as style
use Rattle.syn_lower_spec.specs.Text.{Text}
use Rattle.syn_lower_spec.specs.Tree as t
use Rattle.syn_lower_spec.specs.Tree.{TypeTree, LitTree, AttributeTree, PathTree, SegmentTree, QSelfTree, ArgumentsTree}
use Rattle.syn_lower_spec.specs.Form.{Form, Test, flag, mark, maybe, pure, listed, joined, more, when, case, group_case, then_by, shown, both, then_behind, if_same, is_nil}
use Rattle.syn_lower_spec.specs.Form as form
use Rattle.syn_lower_spec.specs.Mark.{underscore, constant, pound, sign_at, word_at, brace_at, round_at, comma, colon, colon2, not_ne, mutable, and}
use Rattle.syn_lower_spec.specs.Part.{lit, name, block, qpath, type, QPathTree, MacroTree, has_none, segments_bare, is_bare, any_group, outer_attributes, outer_body}
use Rattle.syn_lower_spec.specs.Own.{type_own, alone, before_if, before_some, comma_before, enclosed, block_own, elements_own, lit_own, attribute_own, path_own, qualified_own, macro_own, arguments_own}
use Rattle.syn_lower_spec.specs.Fits.{lit_fits, path_fits, path_stops, qpath_fits, is_macro_delimiter, ends_well, segments_stop}
use Rattle.syn_lower_spec.specs.Laws.{Fitted, PartsThatAreReadBackFit}
use Rattle.syn_lower_spec.specs.Pat as p
use Rattle.syn_lower_spec.specs.Pat.{MemberTree, PatBound, PatTree, SubPat, Pats, Fields, FieldTree, FieldPatTree, PathEnd}
use Rattle.syn_lower_spec.specs.PatOwn as o
use Rattle.syn_lower_spec.specs.PatFits as test
use Rattle.syn_lower_spec.proofs.Weights.{some_is}
use Rattle.syn_lower_spec.proofs.Same.{both_true, not_true}
use Rattle.syn_lower_spec.proofs.ReadBack.{verbatim_bracket_back, block_back}
use Rattle.syn_lower_spec.proofs.TypesBack.{group_back}
use Rattle.syn_lower_spec.proofs.Marks.{pound_present}
use Rattle.syn_lower_spec.proofs.Forms.{Refuses, seen_some, more_opens, when_refuses, mark_refuses, inside_refuses, shown_refuses, pure_refuses}
use Rattle.syn_lower_spec.proofs.Parts.{outer_body_alike}
use Rattle.syn_lower_spec.proofs.Pats.{pattern_alike, vert_present, or_refused, guarded_refused, typed_refused, attributed_refused, arg_pieces}
use Rattle.syn_lower_spec.proofs.PatWhole.{spelled_by_kind}
use Rattle.syn_lower_spec.proofs.PatsBack.{limits_back, dots_single, binding_own, reserved_not, r_ref, r_mut, none_is, fields_rest, pat_field_own, single_is, is_single, is_or, from_single, vert_seen, field_whole, single_whole, pats_elements, or_elements, fields_elements, pats_end, fields_end, type_before, piece_fits, piece_stops, typed_own_is, typed_fits_is, typed_stops_is}
use Rattle.syn_lower_spec.proofs.Complete.{after, first_only, second_only, maybe_none, maybe_some, flag_left, mark_tells, inside_tells, Complete, none_complete, complete, Fitting, fit, listed_tells, joined_tells}
use Rattle.syn_lower_spec.proofs.SimpleComplete.{name_complete, lit_complete, group_complete}
use Rattle.syn_lower_spec.proofs.WholeComplete.{parts_complete}

lower : PartsThatAreReadBackFit
lower = parts_complete

-- ---- ranges

pub bound_complete : (b : PatBound) (r n : List Tok) → p.range_bound.behind b (o.range_bound_own b r) ≡ Some n → Fitted (test.range_bound_fits b) (test.range_bound_stops (Some b) r) r n
unfolding p.range_bound
bound_complete (p.lit_bound x) r n h =
    let (a, i) = first_only p.lit_first (shown p.lit_bound p.from_lit_bound lit) (shown p.to_path_bound p.from_path_bound (qpath type style.Expr)) (p.lit_bound x) (search shown_refuses) (lit_own x r) n h in
    lit_complete x r n i
bound_complete (p.path_bound q z) r n h =
    let (a, i) = second_only p.lit_first (shown p.lit_bound p.from_lit_bound lit) (shown p.to_path_bound p.from_path_bound (qpath type style.Expr)) (p.path_bound q z) (search shown_refuses) (qualified_own (q, z) r) n h in
    lower.qualified_paths style.Expr (q, z) r n i

end_complete : (c : Bool) (e : Option PatBound) (r n : List Tok) → p.range_end.behind (c, e) (o.limits_before c (before_some e o.range_bound_own r)) ≡ Some n → Fitted (test.bound_or (not c) e) (test.range_bound_stops e r) r n
unfolding p.range_end
end_complete c e r n h =
    let k = before_some e o.range_bound_own r in
    let (i, j) = after p.limits (λ closed. when (λ l. closed) (shown p.to_end p.itself p.range_bound) (maybe p.bound_at p.range_bound)) c e (o.limits_before c k) k n (λ m d. some_is (sym d ∙ limits_back c k)) h in
    by_end c e j
  where
    by_end : (c : Bool) (e : Option PatBound) → cond c ((shown p.to_end p.itself p.range_bound).behind e (before_some e o.range_bound_own r)) ((maybe p.bound_at p.range_bound).behind e (before_some e o.range_bound_own r)) ≡ Some n
        → Fitted (test.bound_or (not c) e) (test.range_bound_stops e r) r n
    by_end true None h = absurd cc
    by_end true (Some b) h = bound_complete b r n h
    by_end false None h = let (a, d) = maybe_none p.bound_at p.range_bound r n h in record { passes = refl; ends = rw a refl; same = d }
    by_end false (Some b) h = let (a, d) = maybe_some p.bound_at p.range_bound b (o.range_bound_own b r) n h in bound_complete b r n d

-- ---- which kind of pattern it is

abbrev from_name : Form PatTree
from_name = when p.binding_at (p.binding p.pattern) (p.path_pat p.pattern)

abbrev a_literal : Form PatTree
a_literal = shown p.to_lit p.from_lit (both lit (maybe p.dots.at p.range_end))

abbrev from_literal : Form PatTree
from_literal = when p.lit_first a_literal from_name

abbrev from_dots : Form PatTree
from_dots = when p.dots.at (shown p.to_open p.from_open p.range_end) from_literal

abbrev from_bracket : Form PatTree
from_bracket = group_case del.Bracket (p.slice_pat p.pattern) from_dots

abbrev from_round_group : Form PatTree
from_round_group = group_case del.Parenthesis (p.round_pat p.pattern) from_bracket

abbrev from_and : Form PatTree
from_and = case and (p.reference_pat p.pattern) from_round_group

abbrev from_const : Form PatTree
from_const = case constant (shown p.a_block p.from_block block) from_and

-- a pattern that begins with a literal or a word
module _ (z : PatTree) (r1 : p.is_wild z ≡ false) (r2 : Refuses (shown p.a_block p.from_block block) z) (r3 : Refuses (p.reference_pat p.pattern) z) (r4 : Refuses (p.round_pat p.pattern) z) (r5 : Refuses (p.slice_pat p.pattern) z) (r6 : Refuses (shown p.to_open p.from_open p.range_end) z) where
  by_literal : (l n : List Tok) → (p.single p.pattern).behind z l ≡ Some n → from_literal.behind z l ≡ Some n
  unfolding p.single
  by_literal l n h =
      let (a1, h1) = second_only underscore.at (mark underscore (pure p.wild p.is_wild)) from_const z (mark_refuses underscore (pure_refuses p.wild p.is_wild z r1)) l n h in
      let (a2, h2) = second_only constant.at (mark constant (shown p.a_block p.from_block block)) from_and z (mark_refuses constant r2) l n h1 in
      let (a3, h3) = second_only and.at (mark and (p.reference_pat p.pattern)) from_round_group z (mark_refuses and r3) l n h2 in
      let (a4, h4) = second_only (λ l. is_some (group_at del.Parenthesis l)) (form.inside del.Parenthesis (p.round_pat p.pattern)) from_bracket z (inside_refuses del.Parenthesis r4) l n h3 in
      let (a5, h5) = second_only (λ l. is_some (group_at del.Bracket l)) (form.inside del.Bracket (p.slice_pat p.pattern)) from_dots z (inside_refuses del.Bracket r5) l n h4 in
      let (a6, h6) = second_only p.dots.at (shown p.to_open p.from_open p.range_end) from_literal z r6 l n h5 in
      h6

  by_path : Refuses a_literal z → Refuses (p.binding p.pattern) z → (l n : List Tok) → (p.single p.pattern).behind z l ≡ Some n → (p.binding_at l ≡ false) × ((p.path_pat p.pattern).behind z l ≡ Some n)
  by_path r7 r8 l n h =
      let (a7, h7) = second_only p.lit_first a_literal from_name z r7 l n (by_literal l n h) in
      second_only p.binding_at (p.binding p.pattern) (p.path_pat p.pattern) z r8 l n h7

lit_only : (x : LitTree) (l n : List Tok) → (p.single p.pattern).behind (p.a_lit x) l ≡ Some n → (both lit (maybe p.dots.at p.range_end)).behind (x, None) l ≡ Some n
unfolding p.reference_pat p.round_pat p.slice_pat p.binding p.path_pat
lit_only x l n h =
    let i = by_literal (p.a_lit x) refl (search shown_refuses) (search shown_refuses) (search shown_refuses) (search shown_refuses) (search shown_refuses) l n h in
    let (a, j) = first_only p.lit_first a_literal from_name (p.a_lit x) (search (when_refuses, shown_refuses) depth 8) l n i in
    j

lit_range_only : (x : LitTree) (c : Bool) (e : Option PatBound) (l n : List Tok) → (p.single p.pattern).behind (p.range (Some (p.lit_bound x)) c e) l ≡ Some n → (both lit (maybe p.dots.at p.range_end)).behind (x, Some (c, e)) l ≡ Some n
unfolding p.reference_pat p.round_pat p.slice_pat p.binding p.path_pat
lit_range_only x c e l n h =
    let z = p.range (Some (p.lit_bound x)) c e in
    let i = by_literal z refl (search shown_refuses) (search shown_refuses) (search shown_refuses) (search shown_refuses) (search shown_refuses) l n h in
    let (a, j) = first_only p.lit_first a_literal from_name z (search (when_refuses, shown_refuses) depth 8) l n i in
    j

binding_only : (b m : Bool) (w : Text) (s : SubPat) (l n : List Tok) → (p.single p.pattern).behind (p.a_binding b m w s) l ≡ Some n → (p.binding_at l ≡ true) × ((p.binding p.pattern).behind (p.a_binding b m w s) l ≡ Some n)
unfolding p.reference_pat p.round_pat p.slice_pat p.path_pat
binding_only b m w s l n h =
    let z = p.a_binding b m w s in
    let i = by_literal z refl (search shown_refuses) (search shown_refuses) (search shown_refuses) (search shown_refuses) (search shown_refuses) l n h in
    let (a, j) = second_only p.lit_first a_literal from_name z (search shown_refuses) l n i in
    first_only p.binding_at (p.binding p.pattern) (p.path_pat p.pattern) z (search shown_refuses) l n j

-- a pattern that begins with a path, by its path and what comes after it
abbrev path_parts : Form (QPathTree × PathEnd)
path_parts = then_by (qpath type style.Expr) (p.path_end p.pattern)

alone_only : (q : QSelfTree) (z : PathTree) (l n : List Tok) → (p.single p.pattern).behind (p.a_path q z) l ≡ Some n → (p.binding_at l ≡ false) × (path_parts.behind ((q, z), p.no_more) l ≡ Some n)
unfolding p.reference_pat p.round_pat p.slice_pat p.binding p.path_pat
alone_only q z l n h = by_path (p.a_path q z) refl (search shown_refuses) (search shown_refuses) (search shown_refuses) (search shown_refuses) (search shown_refuses) (search shown_refuses) (search shown_refuses) l n h

mac_only : (m : MacroTree) (l n : List Tok) → (p.single p.pattern).behind (p.a_mac m) l ≡ Some n → (p.binding_at l ≡ false) × (path_parts.behind ((t.no_qself, m.path), p.mac_end m.delimiter m.tokens) l ≡ Some n)
unfolding p.reference_pat p.round_pat p.slice_pat p.binding p.path_pat
mac_only m l n h = by_path (p.a_mac m) refl (search shown_refuses) (search shown_refuses) (search shown_refuses) (search shown_refuses) (search shown_refuses) (search shown_refuses) (search shown_refuses) l n h

struct_only : (z : PathTree) (fs : Fields) (e d : Bool) (l n : List Tok) → (p.single p.pattern).behind (p.a_struct z fs e d) l ≡ Some n → (p.binding_at l ≡ false) × (path_parts.behind ((t.no_qself, z), p.struct_end (p.fields fs) e d) l ≡ Some n)
unfolding p.reference_pat p.round_pat p.slice_pat p.binding p.path_pat
struct_only z fs e d l n h = by_path (p.a_struct z fs e d) refl (search shown_refuses) (search shown_refuses) (search shown_refuses) (search shown_refuses) (search shown_refuses) (search shown_refuses) (search shown_refuses) l n h

tuple_struct_only : (z : PathTree) (ps : Pats) (e : Bool) (l n : List Tok) → (p.single p.pattern).behind (p.tuple_struct z ps e) l ≡ Some n → (p.binding_at l ≡ false) × (path_parts.behind ((t.no_qself, z), p.tuple_end (p.pats ps) e) l ≡ Some n)
unfolding p.reference_pat p.round_pat p.slice_pat p.binding p.path_pat
tuple_struct_only z ps e l n h = by_path (p.tuple_struct z ps e) refl (search shown_refuses) (search shown_refuses) (search shown_refuses) (search shown_refuses) (search shown_refuses) (search shown_refuses) (search shown_refuses) l n h

range_only : (q : QSelfTree) (z : PathTree) (c : Bool) (e : Option PatBound) (l n : List Tok) → (p.single p.pattern).behind (p.range (Some (p.path_bound q z)) c e) l ≡ Some n → (p.binding_at l ≡ false) × (path_parts.behind ((q, z), p.range_more c e) l ≡ Some n)
unfolding p.reference_pat p.round_pat p.slice_pat p.binding p.path_pat
range_only q z c e l n h = by_path (p.range (Some (p.path_bound q z)) c e) refl (search shown_refuses) (search shown_refuses) (search shown_refuses) (search shown_refuses) (search shown_refuses) (search shown_refuses) (search shown_refuses) l n h

-- ---- what comes after a path

abbrev a_mac_end : Form PathEnd
a_mac_end = shown p.to_mac_end p.from_mac_end (mark not_ne any_group)

abbrev a_struct_end : Form PathEnd
a_struct_end = shown p.to_struct_end p.from_struct_end (form.inside del.Brace (p.struct_inside p.pattern))

abbrev a_tuple_end : Form PathEnd
a_tuple_end = shown p.to_tuple_end p.from_tuple_end (form.inside del.Parenthesis (listed comma is_empty (p.pattern true)))

abbrev a_range_end : Form PathEnd
a_range_end = shown p.to_range_more p.from_range_more p.range_end

abbrev from_range : Form PathEnd
from_range = when p.dots.at a_range_end (pure p.no_more p.is_no_more)

abbrev from_tuple : QPathTree → Form PathEnd
from_tuple q = when (λ l. p.unqualified q && round_at l) a_tuple_end from_range

abbrev from_struct : QPathTree → Form PathEnd
from_struct q = when (λ l. p.unqualified q && brace_at l) a_struct_end (from_tuple q)

-- the path fits, and its end comes after it
path_complete : (q : QSelfTree) (z : PathTree) (e : PathEnd) (k n : List Tok) → path_parts.behind ((q, z), e) (qualified_own (q, z) k) ≡ Some n
    → (qpath_fits style.Expr (q, z) ≡ true) × (path_stops style.Expr z k ≡ true) × ((p.path_end p.pattern (q, z)).behind e k ≡ Some n)
path_complete q z e k n h =
    let (i, j) = after (qpath type style.Expr) (p.path_end p.pattern) (q, z) e (qualified_own (q, z) k) k n (λ m d. let w = lower.qualified_paths style.Expr (q, z) k m d in w.same) h in
    let w = lower.qualified_paths style.Expr (q, z) k k i in
    (w.passes, w.ends, j)

no_more_complete : (q : QPathTree) (r n : List Tok) → (p.path_end p.pattern q).behind p.no_more r ≡ Some n
    → ((is_bare q && not_ne.at r) ≡ false) × ((p.unqualified q && brace_at r) ≡ false) × ((p.unqualified q && round_at r) ≡ false) × (p.dots.at r ≡ false) × (n ≡ r)
unfolding p.path_end
no_more_complete q r n h =
    let (a1, h1) = second_only (λ l. is_bare q && not_ne.at l) a_mac_end (from_struct q) p.no_more (search shown_refuses) r n h in
    let (a2, h2) = second_only (λ l. p.unqualified q && brace_at l) a_struct_end (from_tuple q) p.no_more (search shown_refuses) r n h1 in
    let (a3, h3) = second_only (λ l. p.unqualified q && round_at l) a_tuple_end from_range p.no_more (search shown_refuses) r n h2 in
    let (a4, h4) = second_only p.dots.at a_range_end (pure p.no_more p.is_no_more) p.no_more (search shown_refuses) r n h3 in
    (a1, a2, a3, a4, some_is (sym h4))

mac_end_complete : (q : QPathTree) (d : Delimiter) (ts l n : List Tok) → (p.path_end p.pattern q).behind (p.mac_end d ts) l ≡ Some n → (is_bare q ≡ true) × ((mark not_ne any_group).behind (d, ts) l ≡ Some n)
unfolding p.path_end
mac_end_complete q d ts l n h =
    let (a, i) = first_only (λ l. is_bare q && not_ne.at l) a_mac_end (from_struct q) (p.mac_end d ts) (search (when_refuses, shown_refuses, pure_refuses) depth 12) l n h in
    let (b, c) = both_true (is_bare q) (not_ne.at l) a in
    (b, i)

struct_end_complete : (q : QPathTree) (fs : List FieldPatTree) (e d : Bool) (l n : List Tok) → (p.path_end p.pattern q).behind (p.struct_end fs e d) l ≡ Some n → (form.inside del.Brace (p.struct_inside p.pattern)).behind ((fs, e), d) l ≡ Some n
unfolding p.path_end
struct_end_complete q fs e d l n h =
    let (a1, h1) = second_only (λ l. is_bare q && not_ne.at l) a_mac_end (from_struct q) (p.struct_end fs e d) (search shown_refuses) l n h in
    let (a2, h2) = first_only (λ l. p.unqualified q && brace_at l) a_struct_end (from_tuple q) (p.struct_end fs e d) (search (when_refuses, shown_refuses, pure_refuses) depth 12) l n h1 in
    h2

tuple_end_complete : (q : QPathTree) (ps : List PatTree) (e : Bool) (l n : List Tok) → (p.path_end p.pattern q).behind (p.tuple_end ps e) l ≡ Some n → (form.inside del.Parenthesis (listed comma is_empty (p.pattern true))).behind (ps, e) l ≡ Some n
unfolding p.path_end
tuple_end_complete q ps e l n h =
    let (a1, h1) = second_only (λ l. is_bare q && not_ne.at l) a_mac_end (from_struct q) (p.tuple_end ps e) (search shown_refuses) l n h in
    let (a2, h2) = second_only (λ l. p.unqualified q && brace_at l) a_struct_end (from_tuple q) (p.tuple_end ps e) (search shown_refuses) l n h1 in
    let (a3, h3) = first_only (λ l. p.unqualified q && round_at l) a_tuple_end from_range (p.tuple_end ps e) (search (when_refuses, shown_refuses, pure_refuses) depth 12) l n h2 in
    h3

range_more_complete : (q : QPathTree) (c : Bool) (e : Option PatBound) (l n : List Tok) → (p.path_end p.pattern q).behind (p.range_more c e) l ≡ Some n → p.range_end.behind (c, e) l ≡ Some n
unfolding p.path_end
range_more_complete q c e l n h =
    let (a1, h1) = second_only (λ l. is_bare q && not_ne.at l) a_mac_end (from_struct q) (p.range_more c e) (search shown_refuses) l n h in
    let (a2, h2) = second_only (λ l. p.unqualified q && brace_at l) a_struct_end (from_tuple q) (p.range_more c e) (search shown_refuses) l n h1 in
    let (a3, h3) = second_only (λ l. p.unqualified q && round_at l) a_tuple_end from_range (p.range_more c e) (search shown_refuses) l n h2 in
    let (a4, h4) = first_only p.dots.at a_range_end (pure p.no_more p.is_no_more) (p.range_more c e) (search pure_refuses) l n h3 in
    h4

-- ---- one kind of pattern, by what it holds

lit_pat_complete : (x : LitTree) (r n : List Tok) → (p.single p.pattern).behind (p.a_lit x) (lit_own x r) ≡ Some n → Fitted (lit_fits x) (not (p.dots.at r)) r n
lit_pat_complete x r n h =
    let (i, j) = after lit (λ y. maybe p.dots.at p.range_end) x None (lit_own x r) r n (λ m d. let w = lit_complete x r m d in w.same) (lit_only x (lit_own x r) n h) in
    let (a, e) = maybe_none p.dots.at p.range_end r n j in
    let w = lit_complete x r r i in
    record { passes = w.passes; ends = rw a refl; same = e }

both_fit : (b : PatBound) (c : Bool) (e : Option PatBound) → test.range_bound_fits b ≡ true → test.bound_or (not c) e ≡ true → test.range_fits (Some b) c e ≡ true
both_fit b true e h i = rw (h, i) refl
both_fit b false e h i = rw (h, i) refl

range_complete : (s : Option PatBound) (c : Bool) (e : Option PatBound) (r n : List Tok) → (p.single p.pattern).behind (p.range s c e) (before_some s o.range_bound_own (o.limits_before c (before_some e o.range_bound_own r))) ≡ Some n
    → Fitted (test.range_fits s c e) (test.range_bound_stops e r) r n
range_complete None c e r n h = by_open c e (sym (dots_single (p.range None c e) c (before_some e o.range_bound_own r)) ∙ h)
  where
    by_open : (c : Bool) (e : Option PatBound) → (shown p.to_open p.from_open p.range_end).behind (p.range None c e) (o.limits_before c (before_some e o.range_bound_own r)) ≡ Some n → Fitted (test.range_fits None c e) (test.range_bound_stops e r) r n
    by_open false None h = absurd cc
    by_open false (Some b) h = end_complete false (Some b) r n h
    by_open true None h = end_complete true None r n h
    by_open true (Some b) h = end_complete true (Some b) r n h
range_complete (Some (p.lit_bound x)) c e r n h =
    let k = o.limits_before c (before_some e o.range_bound_own r) in
    let (i, j) = after lit (λ y. maybe p.dots.at p.range_end) x (Some (c, e)) (lit_own x k) k n (λ m d. let w = lit_complete x k m d in w.same) (lit_range_only x c e (lit_own x k) n h) in
    let (a, d) = maybe_some p.dots.at p.range_end (c, e) k n j in
    let w = lit_complete x k k i in
    let q = end_complete c e r n d in
    record { passes = both_fit (p.lit_bound x) c e w.passes q.passes; ends = q.ends; same = q.same }
range_complete (Some (p.path_bound q z)) c e r n h =
    let k = o.limits_before c (before_some e o.range_bound_own r) in
    let (a, i) = range_only q z c e (qualified_own (q, z) k) n h in
    let (b, d, j) = path_complete q z (p.range_more c e) k n i in
    let w = end_complete c e r n (range_more_complete (q, z) c e k n j) in
    record { passes = both_fit (p.path_bound q z) c e b w.passes; ends = w.ends; same = w.same }

wild_complete : (r n : List Tok) → (p.single p.pattern).behind p.wild (ident (codes "_") ∷ r) ≡ Some n → n ≡ r
unfolding p.single word_at
wild_complete r n h = some_is (sym h)

rest_complete : (r n : List Tok) → (p.single p.pattern).behind p.rest (o.limits_before false r) ≡ Some n → Fitted true (not (p.bound_at r)) r n
rest_complete r n h = end_complete false None r n (sym (dots_single p.rest false r) ∙ h)

block_complete : (ts r n : List Tok) → (p.single p.pattern).behind (p.a_block ts) (ident (codes "const") ∷ enclosed del.Brace ts r) ≡ Some n → n ≡ r
unfolding p.single word_at block_own
block_complete ts r n h = some_is (sym h ∙ block_back ts r)

reference_complete : (m : Bool) (z : PatTree) (l n : List Tok) → (p.single p.pattern).behind (p.a_reference m z) (alone 38 ∷ o.word_if m (codes "mut") l) ≡ Some n → (test.begins_mut z ≡ true → mutable.at l ≡ true)
    → ((m || not (test.begins_mut z)) ≡ true) × ((p.pattern false).behind z l ≡ Some n)
unfolding p.single p.reference_pat sign_at word_at
reference_complete true z l n h begins = (refl, h)
reference_complete false z l n h begins = by_mut (test.begins_mut z) refl (mutable.at l) refl h
  where
    by_mut : (b : Bool) → test.begins_mut z ≡ b → (c : Bool) → mutable.at l ≡ c → form.then_behind (cond c (cond c None None) (Some l)) ((p.pattern false).behind z) ≡ Some n → (not b ≡ true) × ((p.pattern false).behind z l ≡ Some n)
    by_mut b d true e h = absurd cc
    by_mut true d false e h = let i = begins d in absurd cc
    by_mut false d false e h = (refl, h)

round_complete : (z : PatTree) (ts r n : List Tok) → (p.single p.pattern).behind z (enclosed del.Parenthesis ts r) ≡ Some n → ((p.round_pat p.pattern).behind z ts ≡ Some []) × (n ≡ r)
unfolding p.single sign_at word_at group_at
round_complete z ts r n h = inside_tells del.Parenthesis (p.round_pat p.pattern) z ts r n h

slice_complete : (ps : Pats) (e : Bool) (ts r n : List Tok) → (p.single p.pattern).behind (p.a_slice ps e) (enclosed del.Bracket ts r) ≡ Some n → ((listed comma is_empty (p.pattern true)).behind (p.pats ps, e) ts ≡ Some []) × (n ≡ r)
unfolding p.single p.slice_pat sign_at word_at group_at
slice_complete ps e ts r n h = inside_tells del.Bracket (p.slice_pat p.pattern) (p.a_slice ps e) ts r n h

tuple_complete : (ps : Pats) (e : Bool) (ts : List Tok) → (p.round_pat p.pattern).behind (p.a_tuple ps e) ts ≡ Some []
    → ((listed comma is_empty (p.pattern true)).behind (p.pats ps, e) ts ≡ Some []) × ((not (test.is_one_pat ps) || (e || test.is_one_rest ps)) ≡ true)
unfolding p.round_pat
tuple_complete ps e ts h =
    let (x, f, j) = seen_some (p.round_by (p.pats ps) e) (λ y. (listed comma is_empty (p.pattern true)).behind y ts) [] h in
    let (k, i) = by_list ps e x f in
    (subst (λ y. (listed comma is_empty (p.pattern true)).behind y ts ≡ Some []) k j, i)
  where
    by_rest : (b : Bool) (z : PatTree) (x : List PatTree × Bool) → cond b (Some (z ∷ [], false)) None ≡ Some x → (x ≡ (z ∷ [], false)) × (b ≡ true)
    by_rest true z x h = (sym (some_is h), refl)
    by_rest false z x h = absurd cc

    by_list : (ps : Pats) (e : Bool) (x : List PatTree × Bool) → p.round_by (p.pats ps) e ≡ Some x → (x ≡ (p.pats ps, e)) × ((not (test.is_one_pat ps) || (e || test.is_one_rest ps)) ≡ true)
    by_list p.no_pats e x h = (sym (some_is h), refl)
    by_list (p.more_pats z p.no_pats) true x h = (sym (some_is h), refl)
    by_list (p.more_pats z p.no_pats) false x h = by_rest (p.is_rest z) z x h
    by_list (p.more_pats z (p.more_pats w ps)) e x h = (sym (some_is h), refl)

paren_complete : (z : PatTree) (ts : List Tok) → (p.round_pat p.pattern).behind (p.a_paren z) ts ≡ Some [] → ((listed comma is_empty (p.pattern true)).behind (z ∷ [], false) ts ≡ Some []) × (not (p.is_rest z) ≡ true)
unfolding p.round_pat
paren_complete z ts h = by_rest (p.is_rest z) h
  where
    by_rest : (b : Bool) → then_behind (cond b None (Some (z ∷ [], false))) (λ y. (listed comma is_empty (p.pattern true)).behind y ts) ≡ Some [] → ((listed comma is_empty (p.pattern true)).behind (z ∷ [], false) ts ≡ Some []) × (not b ≡ true)
    by_rest true h = absurd cc
    by_rest false h = (h, refl)

-- ---- bindings, and paths that are none

bare_name : (w : Text) (l : List Tok) → is_reserved_word w ≡ false → p.binding_at (ident w ∷ l) ≡ not (p.goes_on l)
unfolding p.binding_at word_at
bare_name w l h = rw (reserved_not w (codes "ref") h r_ref, reserved_not w (codes "mut") h r_mut, h) refl

abbrev sub_end : Form SubPat
sub_end = when p.at_sign.at (mark p.at_sign (shown p.sub p.from_sub (p.pattern false))) (pure p.no_sub p.has_no_sub)

binding_complete : (b m : Bool) (w : Text) (s : SubPat) (r n : List Tok) → ((k : List Tok) → sub_end.behind s (o.sub_own s r) ≡ Some k → Fitted (test.sub_fits s) (test.sub_stops s r) r k)
    → (p.single p.pattern).behind (p.a_binding b m w s) (binding_own b m w s r) ≡ Some n → Fitted (not (is_reserved_word w) && test.sub_fits s) (test.sub_stops s r && (b || (m || test.not_bare s r))) r n
unfolding p.binding word_at
binding_complete b m w s r n only h =
    let l = ident w ∷ o.sub_own s r in
    let k = o.word_if m (codes "mut") l in
    let (a, i) = binding_only b m w s (binding_own b m w s r) n h in
    let (c, d) = after (flag p.by_ref) (λ y. both (flag mutable) (both name sub_end)) b (m, (w, s)) (o.word_if b (codes "ref") k) k n (λ x g. flag_left p.by_ref (λ l. ident (codes "ref") ∷ l) b k x refl refl g) i in
    let (e, f) = after (flag mutable) (λ y. both name sub_end) m (w, s) k l n (λ x g. flag_left mutable (λ l. ident (codes "mut") ∷ l) m l x refl refl g) d in
    let (u, v) = after name (λ y. sub_end) w s l (o.sub_own s r) n (λ x g. let q = name_complete w (o.sub_own s r) x g in q.same) f in
    let q = name_complete w (o.sub_own s r) (o.sub_own s r) u in
    let z = only n v in
    record { passes = rw (q.passes, z.passes) refl; ends = rw z.ends (by_kind b m s (not_true (is_reserved_word w) q.passes) a); same = z.same }
  where
    by_kind : (b m : Bool) (s : SubPat) → is_reserved_word w ≡ false → p.binding_at (binding_own b m w s r) ≡ true → (b || (m || test.not_bare s r)) ≡ true
    by_kind true m s k a = refl
    by_kind false true s k a = refl
    by_kind false false p.no_sub k a = sym (bare_name w r k) ∙ a
    by_kind false false (p.sub z) k a = refl

-- a name that nothing goes on with is a binding
no_name_alone : (q : QSelfTree) (z : PathTree) (r : List Tok) → z.trailing ≡ false → p.binding_at (qualified_own (q, z) r) ≡ false → colon2.at r ≡ false → (is_bare (q, z) && not_ne.at r) ≡ false → (p.unqualified (q, z) && brace_at r) ≡ false
    → (p.unqualified (q, z) && round_at r) ≡ false → p.dots.at r ≡ false → not (test.is_one_name q z) ≡ true
no_name_alone (t.qself x n a) z r f b c d e g h = refl
no_name_alone t.no_qself z r f b c d e g h = by_list z.leading z.trailing z.segments f b d
  where
    by_name : (w : Text) (x : Bool) → is_reserved_word w ≡ x → p.binding_at (ident w ∷ r) ≡ false → not_ne.at r ≡ false → not (not x && true) ≡ true
    by_name w true i b d = refl
    by_name w false i b d =
        let j : not (p.goes_on r) ≡ false = sym (bare_name w r i) ∙ b in
        let k : p.goes_on r ≡ false = rw (c, d, e, g, h) refl in
        let m : not (p.goes_on r) ≡ true = rw k refl in
        absurd cc

    by_args : (w : Text) (a : ArgumentsTree) → p.binding_at (ident w ∷ arguments_own a r) ≡ false → ((has_none a && true) && not_ne.at r) ≡ false → not (not (is_reserved_word w) && has_none a) ≡ true
    by_args w t.no_arguments b d = by_name w (is_reserved_word w) refl b d
    by_args w (t.angle x gs y) b d = by_bool (not (is_reserved_word w))
      where
        by_bool : (x : Bool) → not (x && false) ≡ true
        by_bool true = refl
        by_bool false = refl
    by_args w (t.round xs x y) b d = by_bool (not (is_reserved_word w))
      where
        by_bool : (x : Bool) → not (x && false) ≡ true
        by_bool true = refl
        by_bool false = refl

    by_list : (l f : Bool) (xs : List SegmentTree) → f ≡ false → p.binding_at (qualified_own (t.no_qself, record { leading = l; segments = xs; trailing = f }) r) ≡ false
        → (is_bare (t.no_qself, record { leading = l; segments = xs; trailing = f }) && not_ne.at r) ≡ false → not (test.is_name_alone l xs) ≡ true
    by_list l true xs f b d = absurd cc
    by_list true false xs f b d = refl
    by_list false false [] f b d = refl
    by_list false false (s ∷ []) f b d = by_args s.ident s.arguments b d
    by_list false false (s ∷ u ∷ xs) f b d = refl

path_pat_complete : (q : QSelfTree) (z : PathTree) (r n : List Tok) → (p.single p.pattern).behind (p.a_path q z) (qualified_own (q, z) r) ≡ Some n
    → Fitted (qpath_fits style.Expr (q, z) && not (test.is_one_name q z)) (path_stops style.Expr z r && (not (p.dots.at r) && test.path_pat_stops q z r)) r n
path_pat_complete q z r n h =
    let (a, i) = alone_only q z (qualified_own (q, z) r) n h in
    let (b, c, j) = path_complete q z p.no_more r n i in
    let (a1, a2, a3, a4, e) = no_more_complete (q, z) r n j in
    let (u, v) = both_true (not z.trailing) _ b in
    let (w, x) = both_true (segments_stop style.Expr (t.segments_of z.segments) r) (not (colon2.at r)) c in
    record {
      passes = rw b (no_name_alone q z r (not_true z.trailing u) a (not_true (colon2.at r) x) a1 a2 a3 a4);
      ends = rw (c, a4) (by_self q a1 a2 a3);
      same = e;
    }
  where
    by_self : (q : QSelfTree) → (is_bare (q, z) && not_ne.at r) ≡ false → (p.unqualified (q, z) && brace_at r) ≡ false → (p.unqualified (q, z) && round_at r) ≡ false → test.path_pat_stops q z r ≡ true
    by_self t.no_qself a b c = rw (a, b, c) refl
    by_self (t.qself x k y) a b c = refl

mac_complete : (m : MacroTree) (r n : List Tok) → (p.single p.pattern).behind (p.a_mac m) (macro_own m r) ≡ Some n → Fitted (path_fits style.Expr m.path && (segments_bare m.path.segments && is_macro_delimiter m.delimiter)) true r n
unfolding sign_at
mac_complete m r n h =
    let k = alone 33 ∷ enclosed m.delimiter m.tokens r in
    let (a, i) = mac_only m (path_own m.path k) n h in
    let (b, c, j) = path_complete t.no_qself m.path (p.mac_end m.delimiter m.tokens) k n i in
    let (d, e) = mac_end_complete (t.no_qself, m.path) m.delimiter m.tokens k n j in
    let g = group_complete m.delimiter m.tokens r n e in
    record { passes = rw (b, d) g; ends = refl; same = some_is (sym e ∙ group_back m.delimiter m.tokens r g) }

-- ---- attributes, members and fields

outer_complete : (a : AttributeTree) (l n : List Tok) → outer_body.behind a (before_if a.inner (λ m. alone 33 ∷ m) (enclosed del.Bracket a.tokens l)) ≡ Some n → (not a.inner ≡ true) × (n ≡ l)
unfolding outer_body
outer_complete a l n h = by_style a.inner a.tokens h
  where
    by_style : (b : Bool) (ts : List Tok) → outer_body.behind (record { inner = b; tokens = ts }) (before_if b (λ m. alone 33 ∷ m) (enclosed del.Bracket ts l)) ≡ Some n → (not b ≡ true) × (n ≡ l)
    by_style true ts h = absurd cc
    by_style false ts h = (refl, some_is (sym h ∙ verbatim_bracket_back ts l))

attributes_complete : (xs : List AttributeTree) (l n : List Tok) → outer_attributes.behind xs (o.attributes_own xs l) ≡ Some n → (test.attributes_outer xs ≡ true) × (n ≡ l)
unfolding outer_attributes attribute_own sign_at
attributes_complete [] l n h =
    let (a, i) = second_only pound.at (mark pound (shown form.prepend form.split_first (both outer_body (more pound outer_body)))) (pure [] form.is_nil) [] (search (mark_refuses, shown_refuses)) l n (more_opens pound outer_body pound_present (λ k. outer_body_alike) [] l n h) in
    (refl, some_is (sym i))
attributes_complete (a ∷ xs) l n h =
    let k = o.attributes_own xs l in
    let m = before_if a.inner (λ m. alone 33 ∷ m) (enclosed del.Bracket a.tokens k) in
    let i : (both outer_body (more pound outer_body)).behind (a, xs) m ≡ Some n = more_opens pound outer_body pound_present (λ k. outer_body_alike) (a ∷ xs) (attribute_own a k) n h in
    let (e, f) = after outer_body (λ y. more pound outer_body) a xs m k n (λ x g. let (u, v) = outer_complete a k x g in v) i in
    let (u, v) = outer_complete a k k e in
    let (w, x) = attributes_complete xs l n f in
    (rw (u, w) refl, x)

pub member_complete : (k : MemberTree) (l n : List Tok) → p.member.behind k (o.member_own k l) ≡ Some n → Fitted (test.member_fits k) true l n
unfolding p.member
member_complete (p.a_name w) l n h = by_bool (not (is_reserved_word w)) h
  where
    by_same : (b : Bool) → cond b (Some l) None ≡ Some n → n ≡ l
    by_same true h = some_is (sym h)
    by_same false h = absurd cc

    by_bool : (b : Bool) → if_same p.same_member (p.a_name w) (p.name_if b w l) ≡ Some n → Fitted b true l n
    by_bool true h = record { passes = refl; ends = refl; same = by_same (bytes_eq w w) h }
    by_bool false h = absurd cc
member_complete (p.an_index i) l n h = by_index (p.index_of (index_text i)) h
  where
    by_same : (m : ℕ) (b : Bool) → (i == m) ≡ b → cond b (Some l) None ≡ Some n → Fitted (m == i) true l n
    by_same m true e h = record { passes = grind (arith, nat_tests, e); ends = refl; same = some_is (sym h) }
    by_same m false e h = absurd cc

    by_index : (x : Option ℕ) → if_same p.same_member (p.an_index i) (p.index_if x l) ≡ Some n → Fitted (test.same_index x i) true l n
    by_index None h = absurd cc
    by_index (Some m) h = by_same m (i == m) refl h

abbrev a_full : Form FieldTree
a_full = shown p.to_full p.from_full (both p.member (mark colon (p.pattern true)))

abbrev a_short : Form FieldTree
a_short = shown p.to_short p.from_short (both (flag p.by_ref) (both (flag mutable) name))

short_complete : (xs : List AttributeTree) (b m : Bool) (w : Text) (l n : List Tok) → (p.field p.pattern).behind (record { attrs = xs; field = p.short b m w }) (pat_field_own (record { attrs = xs; field = p.short b m w }) l) ≡ Some n
    → (test.attributes_outer xs ≡ true) × (not (is_reserved_word w) ≡ true) × (n ≡ l)
unfolding p.field word_at
short_complete xs b m w l n h =
    let k = ident w ∷ l in
    let j = o.word_if m (codes "mut") k in
    let f = o.word_if b (codes "ref") j in
    let (c, d) = after outer_attributes (λ y. when p.full_at a_full a_short) xs (p.short b m w) (o.attributes_own xs f) f n (λ x g. let (u, v) = attributes_complete xs f x g in v) h in
    let (u, v) = attributes_complete xs f f c in
    let (a, e) = second_only p.full_at a_full a_short (p.short b m w) (search shown_refuses) f n d in
    let (g, i) = after (flag p.by_ref) (λ y. both (flag mutable) name) b (m, w) f j n (λ x z. flag_left p.by_ref (λ l. ident (codes "ref") ∷ l) b j x refl refl z) e in
    let (q, r) = after (flag mutable) (λ y. name) m w j k n (λ x z. flag_left mutable (λ l. ident (codes "mut") ∷ l) m k x refl refl z) i in
    let z = name_complete w l n r in
    (u, z.passes, z.same)

full_complete : (xs : List AttributeTree) (k : MemberTree) (z : PatTree) (m n : List Tok) → (p.field p.pattern).behind (record { attrs = xs; field = p.full k z }) (o.attributes_own xs (o.member_own k (alone 58 ∷ m))) ≡ Some n
    → (test.attributes_outer xs ≡ true) × (test.member_fits k ≡ true) × ((p.pattern true).behind z m ≡ Some n)
unfolding p.field sign_at
full_complete xs k z m n h =
    let f = o.member_own k (alone 58 ∷ m) in
    let (c, d) = after outer_attributes (λ y. when p.full_at a_full a_short) xs (p.full k z) (o.attributes_own xs f) f n (λ x g. let (u, v) = attributes_complete xs f x g in v) h in
    let (u, v) = attributes_complete xs f f c in
    let (a, e) = first_only p.full_at a_full a_short (p.full k z) (search shown_refuses) f n d in
    let (i, j) = after p.member (λ y. mark colon (p.pattern true)) k z f (alone 58 ∷ m) n (λ x g. let q = member_complete k (alone 58 ∷ m) x g in q.same) e in
    let q = member_complete k (alone 58 ∷ m) (alone 58 ∷ m) i in
    (u, q.passes, j)

-- ---- lists

abbrev field_passes : FieldPatTree → Bool
field_passes f = test.attributes_outer f.attrs && test.field_fits f.field

abbrev any_rest : FieldPatTree → Test
any_rest f l = true

pats_pass : (e : Bool) (r : List Tok) (ps : Pats) → Fitting o.pat_own (test.pat_fits true) (test.pat_stops true) comma_before e r (p.pats ps) → test.pats_fit ps ≡ true
pats_pass e r p.no_pats f = refl
pats_pass e r (p.more_pats z ps) (fit a c f) = rw a (pats_pass e r ps f)

fields_pass : (e : Bool) (r : List Tok) (fs : Fields) → Fitting pat_field_own field_passes any_rest comma_before e r (p.fields fs) → test.fields_fit fs ≡ true
fields_pass e r p.no_fields f = refl
fields_pass e r (p.more_fields a g fs) (fit b c f) =
    let (d, i) = both_true (test.attributes_outer a) (test.field_fits g) b in
    rw (d, i) (fields_pass e r fs f)

or_pass : (r : List Tok) (ps : Pats) → Fitting o.pat_own (test.pat_fits false) test.single_stops o.vert_before false r (p.pats ps) → (test.or_fits ps ≡ true) × (test.or_stops ps r ≡ true)
or_pass r p.no_pats f = (refl, refl)
or_pass r (p.more_pats z p.no_pats) (fit a c f) = (rw a refl, c)
or_pass r (p.more_pats z (p.more_pats w ps)) (fit a c f) = let (i, j) = or_pass r (p.more_pats w ps) f in (rw a i, j)

pats_listed : (ps : Pats) (e : Bool) (n : List Tok) → Complete (p.pattern true) o.pat_own (test.pat_fits true) (test.pat_stops true) (p.pats ps) → (listed comma is_empty (p.pattern true)).behind (p.pats ps, e) (o.pats_own ps e []) ≡ Some n
    → (test.pats_fit ps ≡ true) × (ends_well (o.no_more_pats ps) e ≡ true)
pats_listed ps e n all h =
    let i : (listed comma is_empty (p.pattern true)).behind (p.pats ps, e) (elements_own o.pat_own comma_before (p.pats ps) e []) ≡ Some n = subst (λ l. (listed comma is_empty (p.pattern true)).behind (p.pats ps, e) l ≡ Some n) (pats_elements ps e []) h in
    let (a, b, c) = listed_tells (p.pattern true) o.pat_own (test.pat_fits true) (test.pat_stops true) is_empty (λ k. pattern_alike true) e (p.pats ps) [] n all i in
    (pats_pass e [] ps b, pats_end ps e ∙ a)

fields_complete : (fs : Fields) (e d : Bool) → Complete (p.field p.pattern) pat_field_own field_passes any_rest (p.fields fs) → (p.struct_inside p.pattern).behind ((p.fields fs, e), d) (o.fields_own fs e (fields_rest d)) ≡ Some []
    → (test.fields_fit fs ≡ true) × (ends_well (o.no_more_fields fs) e ≡ true) × ((not d || (o.no_more_fields fs || e)) ≡ true)
unfolding p.struct_inside
fields_complete fs e d all h =
    let l = o.fields_own fs e (fields_rest d) in
    let tells = λ (m : List Tok) (g : (listed comma p.fields_stop (p.field p.pattern)).behind (p.fields fs, e) l ≡ Some m).
    let i : (listed comma p.fields_stop (p.field p.pattern)).behind (p.fields fs, e) (elements_own pat_field_own comma_before (p.fields fs) e (fields_rest d)) ≡ Some m = subst (λ k. (listed comma p.fields_stop (p.field p.pattern)).behind (p.fields fs, e) k ≡ Some m) (fields_elements fs e (fields_rest d)) g in
    listed_tells (p.field p.pattern) pat_field_own field_passes any_rest p.fields_stop (λ k. field_whole k) e (p.fields fs) (fields_rest d) m all i in
    let (i, j) = after (listed comma p.fields_stop (p.field p.pattern)) (λ q. when (λ k. is_nil q.0 || q.1) (flag p.dots) (pure false not)) (p.fields fs, e) d l (fields_rest d) [] (λ m g. let (u, v, w) = tells m g in w) h in
    let (u, v, w) = tells (fields_rest d) i in
    (fields_pass e (fields_rest d) fs v, fields_end fs e ∙ u, rw (sym (none_is fs)) (by_rest d (is_nil (p.fields fs) || e) j))
  where
    by_rest : (d b : Bool) → (when (λ k. b) (flag p.dots) (pure false not)).behind d (fields_rest d) ≡ Some [] → (not d || b) ≡ true
    by_rest false b h = refl
    by_rest true true h = refl
    by_rest true false h = absurd cc

struct_complete : (z : PathTree) (fs : Fields) (e d : Bool) (r n : List Tok) → Complete (p.field p.pattern) pat_field_own field_passes any_rest (p.fields fs) → (p.single p.pattern).behind (p.a_struct z fs e d) (o.pat_own (p.a_struct z fs e d) r) ≡ Some n
    → Fitted (test.pat_fits false (p.a_struct z fs e d)) true r n
struct_complete z fs e d r n all h =
    let ts = o.fields_own fs e (fields_rest d) in
    let k = enclosed del.Brace ts r in
    let (a, i) = struct_only z fs e d (path_own z k) n h in
    let (b, c, j) = path_complete t.no_qself z (p.struct_end (p.fields fs) e d) k n i in
    let (f, g) = inside_tells del.Brace (p.struct_inside p.pattern) ((p.fields fs, e), d) ts r n (struct_end_complete (t.no_qself, z) (p.fields fs) e d k n j) in
    let (u, v, w) = fields_complete fs e d all f in
    record { passes = rw (b, u, v) w; ends = refl; same = g }

tuple_struct_complete : (z : PathTree) (ps : Pats) (e : Bool) (r n : List Tok) → Complete (p.pattern true) o.pat_own (test.pat_fits true) (test.pat_stops true) (p.pats ps) → (p.single p.pattern).behind (p.tuple_struct z ps e) (o.pat_own (p.tuple_struct z ps e) r) ≡ Some n
    → Fitted (test.pat_fits false (p.tuple_struct z ps e)) true r n
tuple_struct_complete z ps e r n all h =
    let ts = o.pats_own ps e [] in
    let k = enclosed del.Parenthesis ts r in
    let (a, i) = tuple_struct_only z ps e (path_own z k) n h in
    let (b, c, j) = path_complete t.no_qself z (p.tuple_end (p.pats ps) e) k n i in
    let (f, g) = inside_tells del.Parenthesis (listed comma is_empty (p.pattern true)) (p.pats ps, e) ts r n (tuple_end_complete (t.no_qself, z) (p.pats ps) e k n j) in
    let (u, v) = pats_listed ps e [] all f in
    record { passes = rw (b, u) v; ends = refl; same = g }

-- ---- alternatives

multi_opens : (z : PatTree) (l n : List Tok) → (p.pattern true).behind z l ≡ Some n → (p.multi p.pattern).behind z l ≡ Some n
unfolding p.at_width
multi_opens z l n h = let (a, b) = spelled_by_kind true l z n in a h

abbrev several : Form (Bool × List PatTree)
several = both (flag p.vert) (joined p.vert (p.single p.pattern))

abbrev SinglesComplete : List PatTree → Type 0
SinglesComplete zs = Complete (p.single p.pattern) o.pat_own (test.pat_fits false) test.single_stops zs

several_complete : (l : Bool) (zs : List PatTree) (r n : List Tok) → SinglesComplete zs → several.behind (l, zs) (before_if l o.vert_before (elements_own o.pat_own o.vert_before zs false r)) ≡ Some n
    → (is_nil zs ≡ false) × (Fitting o.pat_own (test.pat_fits false) test.single_stops o.vert_before false r zs) × (p.vert.at r ≡ false) × (n ≡ r)
several_complete l zs r n all h =
    let k = elements_own o.pat_own o.vert_before zs false r in
    let (i, j) = after (flag p.vert) (λ y. joined p.vert (p.single p.pattern)) l zs (before_if l o.vert_before k) k n (λ m d. flag_left p.vert o.vert_before l k m (vert_seen k) refl d) h in
    joined_tells p.vert (p.single p.pattern) o.pat_own (test.pat_fits false) test.single_stops o.vert_before vert_present single_whole vert_seen (λ l. refl) zs r n all j

-- a single pattern, in either place
one_complete : (b : Bool) (z : PatTree) → is_or z ≡ false → ((r n : List Tok) → (p.single p.pattern).behind z (o.pat_own z r) ≡ Some n → Fitted (test.pat_fits false z) (test.single_stops z r) r n)
    → (r n : List Tok) → (p.pattern b).behind z (o.pat_own z r) ≡ Some n → Fitted (test.pat_fits false z) (test.pat_stops b z r) r n
unfolding p.multi
one_complete false z f only r n h = let q = only r n (single_is z (o.pat_own z r) n h) in record { passes = q.passes; ends = rw q.ends refl; same = q.same }
one_complete true z f only r n h =
    let i : several.behind (false, z ∷ []) (o.pat_own z r) ≡ Some n = rw (from_single z f) at (multi_opens z (o.pat_own z r) n h) in
    let (a, c, d, e) = several_complete false (z ∷ []) r n (complete only none_complete) i in
    first_fits c d e
  where
    first_fits : Fitting o.pat_own (test.pat_fits false) test.single_stops o.vert_before false r (z ∷ []) → p.vert.at r ≡ false → n ≡ r → Fitted (test.pat_fits false z) (test.pat_stops true z r) r n
    first_fits (fit a c rest) d e = record { passes = a; ends = rw (c, d) refl; same = e }

or_complete : (l : Bool) (ps : Pats) (e : Bool) (r n : List Tok) → SinglesComplete (p.pats ps) → (p.multi p.pattern).behind (p.alternatives l ps e) (before_if l o.vert_before (o.or_own ps e r)) ≡ Some n
    → Fitted (test.pat_fits true (p.alternatives l ps e)) (test.pat_stops true (p.alternatives l ps e) r) r n
unfolding p.multi
or_complete l ps true r n all h = absurd cc
or_complete l ps false r n all h =
    let own = before_if l o.vert_before (o.or_own ps false r) in
    let (x, f, j) = seen_some (p.or_by l (p.pats ps)) (λ y. several.behind y own) n h in
    let (k, i) = by_list l ps x f in
    let g : several.behind (l, p.pats ps) own ≡ Some n = subst (λ y. several.behind y own ≡ Some n) k j in
    let m : several.behind (l, p.pats ps) (before_if l o.vert_before (elements_own o.pat_own o.vert_before (p.pats ps) false r)) ≡ Some n = subst (λ y. several.behind (l, p.pats ps) (before_if l o.vert_before y) ≡ Some n) (or_elements ps r) g in
    let (a, c, d, e) = several_complete l (p.pats ps) r n all m in
    let (u, v) = or_pass r ps c in
    record { passes = rw (some_pats ps a, i) u; ends = rw (v, d) refl; same = e }
  where
    by_list : (l : Bool) (ps : Pats) (x : Bool × List PatTree) → p.or_by l (p.pats ps) ≡ Some x → (x ≡ (l, p.pats ps)) × ((l || not (test.is_one_pat ps)) ≡ true)
    by_list true p.no_pats x h = (sym (some_is h), refl)
    by_list true (p.more_pats z ps) x h = (sym (some_is h), refl)
    by_list false p.no_pats x h = (sym (some_is h), refl)
    by_list false (p.more_pats z p.no_pats) x h = absurd cc
    by_list false (p.more_pats z (p.more_pats w ps)) x h = (sym (some_is h), refl)

    some_pats : (ps : Pats) → is_nil (p.pats ps) ≡ false → o.no_more_pats ps ≡ false
    some_pats p.no_pats h = absurd cc
    some_pats (p.more_pats z ps) h = refl

or_no_single : (l : Bool) (ps : Pats) (e : Bool) (k n : List Tok) → (p.pattern false).behind (p.alternatives l ps e) k ≡ Some n → ⊥
or_no_single l ps e k n h = let r = or_refused {k = 0} pattern_alike l ps e in r.refuses k n (single_is (p.alternatives l ps e) k n h)

-- after `&`, the pattern's own `mut` comes first
mut_first : (z : PatTree) (r : List Tok) → test.begins_mut z ≡ true → mutable.at (o.pat_own z r) ≡ true
unfolding word_at
mut_first (p.a_binding false true w s) r h = refl
mut_first _ r h = absurd cc

sub_opens : (z : PatTree) (l n : List Tok) → sub_end.behind (p.sub z) (alone 64 ∷ l) ≡ Some n → (p.pattern false).behind z l ≡ Some n
unfolding sign_at
sub_opens z l n h = h

-- ---- all together

mutual
  pub pat_complete : (b : Bool) (z : PatTree) (r n : List Tok) → (p.pattern b).behind z (o.pat_own z r) ≡ Some n → Fitted (test.pat_fits b z) (test.pat_stops b z r) r n
  pat_complete b p.wild r n h = one_complete b p.wild refl (λ l m d. record { passes = refl; ends = refl; same = wild_complete l m d }) r n h
  pat_complete b p.rest r n h = one_complete b p.rest refl rest_complete r n h
  pat_complete b (p.range s c e) r n h = one_complete b (p.range s c e) refl (range_complete s c e) r n h
  pat_complete b (p.a_lit x) r n h = one_complete b (p.a_lit x) refl (lit_pat_complete x) r n h
  pat_complete b (p.a_binding d m w s) r n h = one_complete b (p.a_binding d m w s) refl (λ l k i. binding_complete d m w s l k (λ u v. sub_complete s l u v) i) r n h
  pat_complete b (p.a_path q z) r n h = one_complete b (p.a_path q z) refl (path_pat_complete q z) r n h
  pat_complete b (p.a_mac m) r n h = one_complete b (p.a_mac m) refl (mac_complete m) r n h
  pat_complete b (p.a_struct z fs e d) r n h = one_complete b (p.a_struct z fs e d) refl (λ l k i. struct_complete z fs e d l k (all_fields_complete fs) i) r n h
  pat_complete b (p.tuple_struct z ps e) r n h = one_complete b (p.tuple_struct z ps e) refl (λ l k i. tuple_struct_complete z ps e l k (pats_complete ps) i) r n h
  pat_complete b (p.a_tuple ps e) r n h = one_complete b (p.a_tuple ps e) refl (λ l k i.
      let (f, c) = round_complete (p.a_tuple ps e) (o.pats_own ps e []) l k i in
      let (g, j) = tuple_complete ps e (o.pats_own ps e []) f in
      let (u, v) = pats_listed ps e [] (pats_complete ps) g in
      record { passes = rw (u, v) j; ends = refl; same = c }) r n h
  pat_complete b (p.a_paren z) r n h = one_complete b (p.a_paren z) refl (λ l k i.
      let (f, c) = round_complete (p.a_paren z) (o.pat_own z []) l k i in
      let (g, j) = paren_complete z (o.pat_own z []) f in
      let (u, v) = pats_listed (p.more_pats z p.no_pats) false [] (complete (λ x y a. pat_complete true z x y a) none_complete) g in
      let (w, x) = both_true (test.pat_fits true z) true u in
      record { passes = rw w j; ends = refl; same = c }) r n h
  pat_complete b (p.a_slice ps e) r n h = one_complete b (p.a_slice ps e) refl (λ l k i.
      let (f, c) = slice_complete ps e (o.pats_own ps e []) l k i in
      let (u, v) = pats_listed ps e [] (pats_complete ps) f in
      record { passes = rw u v; ends = refl; same = c }) r n h
  pat_complete b (p.a_reference m z) r n h = one_complete b (p.a_reference m z) refl (λ l k i.
      let (f, g) = reference_complete m z (o.pat_own z l) k i (mut_first z l) in
      let q = pat_complete false z l k g in
      let (u, v) = both_true (test.single_stops z l) _ q.ends in
      record { passes = rw q.passes f; ends = u; same = q.same }) r n h
  pat_complete b (p.a_block ts) r n h = one_complete b (p.a_block ts) refl (λ l k i. record { passes = refl; ends = refl; same = block_complete ts l k i }) r n h
  pat_complete b (p.guarded z) r n h = one_complete b (p.guarded z) refl (λ l k i. let q = guarded_refused {k = 0} pattern_alike z in absurd (q.refuses (o.pat_own (p.guarded z) l) k i)) r n h
  pat_complete b (p.typed z x) r n h = one_complete b (p.typed z x) refl (λ l k i. let q = typed_refused {k = 0} pattern_alike z x in absurd (q.refuses (o.pat_own (p.typed z x) l) k i)) r n h
  pat_complete b (p.attributed a xs z) r n h =
      one_complete b (p.attributed a xs z) refl (λ l k i. let q = attributed_refused {k = 0} pattern_alike a xs z in absurd (q.refuses (o.pat_own (p.attributed a xs z) l) k i)) r n h
  pat_complete false (p.alternatives l ps e) r n h = absurd (or_no_single l ps e (o.pat_own (p.alternatives l ps e) r) n h)
  pat_complete true (p.alternatives l ps e) r n h = or_complete l ps e r n (singles_complete ps) (multi_opens (p.alternatives l ps e) (o.pat_own (p.alternatives l ps e) r) n h)

  sub_complete : (s : SubPat) (r n : List Tok) → sub_end.behind s (o.sub_own s r) ≡ Some n → Fitted (test.sub_fits s) (test.sub_stops s r) r n
  sub_complete p.no_sub r n h =
      let (a, i) = second_only p.at_sign.at (mark p.at_sign (shown p.sub p.from_sub (p.pattern false))) (pure p.no_sub p.has_no_sub) p.no_sub (search (mark_refuses, shown_refuses)) r n h in
      record { passes = refl; ends = rw a refl; same = some_is (sym i) }
  sub_complete (p.sub z) r n h =
      let q = pat_complete false z r n (sub_opens z (o.pat_own z r) n h) in
      let (u, v) = both_true (test.single_stops z r) _ q.ends in
      record { passes = q.passes; ends = u; same = q.same }

  pats_complete : (ps : Pats) → Complete (p.pattern true) o.pat_own (test.pat_fits true) (test.pat_stops true) (p.pats ps)
  pats_complete p.no_pats = none_complete
  pats_complete (p.more_pats z ps) = complete (λ r n h. pat_complete true z r n h) (pats_complete ps)

  singles_complete : (ps : Pats) → SinglesComplete (p.pats ps)
  singles_complete p.no_pats = none_complete
  singles_complete (p.more_pats z ps) = complete (λ r n h.
      let q = pat_complete false z r n (is_single z (o.pat_own z r) n h) in
      let (u, v) = both_true (test.single_stops z r) _ q.ends in
      record { passes = q.passes; ends = u; same = q.same }) (singles_complete ps)

  all_fields_complete : (fs : Fields) → Complete (p.field p.pattern) pat_field_own field_passes any_rest (p.fields fs)
  all_fields_complete p.no_fields = none_complete
  all_fields_complete (p.more_fields a (p.short b m w) fs) = complete (λ r n h.
      let (u, v, c) = short_complete a b m w r n h in
      record { passes = rw u v; ends = refl; same = c }) (all_fields_complete fs)
  all_fields_complete (p.more_fields a (p.full k z) fs) = complete (λ r n h.
      let (u, v, i) = full_complete a k z (o.pat_own z r) n h in
      let q = pat_complete true z r n i in
      record { passes = rw (u, v) q.passes; ends = refl; same = q.same }) (all_fields_complete fs)

-- ---- arguments of closures

pieces_complete : (xs : List AttributeTree) (q : PatTree × Option TypeTree) (r n : List Tok) → arg_pieces.behind (xs, q) (o.attributes_own xs (o.pat_own q.0 (type_before q.1 r))) ≡ Some n
    → Fitted (test.attributes_outer xs && piece_fits q) (piece_stops q r) r n
pieces_complete xs (z, y) r n h =
    let k = type_before y r in
    let m = o.pat_own z k in
    let (i, j) = after outer_attributes (λ y. both (p.pattern false) (maybe colon.at (mark colon (type true)))) xs (z, y) (o.attributes_own xs m) m n (λ x d. let (u, v) = attributes_complete xs m x d in v) h in
    let (u, v) = attributes_complete xs m m i in
    let (e, f) = after (p.pattern false) (λ y. maybe colon.at (mark colon (type true))) z y m k n (λ x d. let q = pat_complete false z k x d in q.same) j in
    let q = pat_complete false z k k e in
    by_type y u q.passes q.ends f
  where
    by_type : (y : Option TypeTree) → test.attributes_outer xs ≡ true → test.pat_fits false z ≡ true → test.pat_stops false z (type_before y r) ≡ true
        → (maybe colon.at (mark colon (type true))).behind y (type_before y r) ≡ Some n
        → Fitted (test.attributes_outer xs && piece_fits (z, y)) (piece_stops (z, y) r) r n
    by_type None u f s h =
        let (a, e) = maybe_none colon.at (mark colon (type true)) r n h in
        record { passes = rw (u, f) refl; ends = rw (s, a) refl; same = e }
    by_type (Some x) u f s h =
        let (a, e) = maybe_some colon.at (mark colon (type true)) x (alone 58 ∷ type_own x r) n h in
        let (c, d) = mark_tells colon (type true) x (alone 58 ∷ type_own x r) n e in
        let q = lower.types true x r n d in
        record { passes = rw (u, f) q.passes; ends = q.ends; same = q.same }

pub closure_arg_complete : (z : PatTree) (r n : List Tok) → p.closure_arg.behind z (o.pat_own z r) ≡ Some n → Fitted (test.closure_arg_fits z) (test.closure_arg_stops z r) r n
unfolding p.closure_arg
closure_arg_complete (p.attributed a xs z) r n h = rw (typed_fits_is z, typed_stops_is z r) (pieces_complete (a ∷ xs) (p.from_typed z) r n (subst (λ y. arg_pieces.behind (a ∷ xs, p.from_typed z) (o.attributes_own (a ∷ xs) y) ≡ Some n) (typed_own_is z r) h))
closure_arg_complete z r n h = rw (typed_fits_is z, typed_stops_is z r) (pieces_complete [] (p.from_typed z) r n (subst (λ y. arg_pieces.behind ([], p.from_typed z) y ≡ Some n) (typed_own_is z r) h))
