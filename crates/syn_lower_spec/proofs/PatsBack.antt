-- Patterns are read back from their own tokens.
use Rattle.std.proofs.Common.{◌≡◌, ℕ, Bool, true, false, not, ◌&&◌, ◌||◌, ◌==◌, cond, List, [], ◌∷◌, Option, Some, None, refl, ap, sym, ◌∙◌, subst, codes, arith}
use Rattle.std.proofs.lemmas.Bool.Decides.{nat_tests}
use Rattle.std.proofs.lemmas.Slice.Eq.{bytes_eq-Decides}
use Rattle.syn_lower_spec.specs.PatOwn.{index_text}
use Rattle.std.specs.Str.{bytes_eq}
use Rattle.std.proofs.Math.Bool.{and-false}
use Rattle.syn_lexer.specs.Keywords.{is_reserved_word}
use Rattle.syn_lexer.specs.declared.front.Delimiter.TheVariants as del
use Rattle.syn_tokens.specs.Tok.{Tok, ident, literal, toks-inside}
use Rattle.syn_tokens.specs.Front.{group_at, is_empty}
use Rattle.syn_lower_spec.specs.declared.label.LitKind.{LitKind}
use Rattle.syn_lower_spec.specs.declared.label.LitKind.TheVariants as kind
use Rattle.syn_lower_spec.specs.declared.label.PathStyle.{PathStyle}
use Rattle.syn_lower_spec.specs.declared.label.PathStyle.TheVariants as style
use Rattle.syn_lower_spec.specs.Text.{Text, is_segment, is_truth, is_number, number_kind, kind_of, stands_alone}
use Rattle.syn_lower_spec.specs.Same.{same_kind}
use Rattle.syn_lower_spec.specs.Tree as t
use Rattle.syn_lower_spec.specs.Tree.{LitTree, AttributeTree, PathTree, SegmentTree, QSelfTree, Segments, ArgumentsTree, TypeTree}
use Rattle.syn_lower_spec.specs.Form.{flag, mark, maybe, pure, listed, joined, more, when, shown, both, is_nil}
use Rattle.syn_lower_spec.specs.Form as form
use Rattle.syn_lower_spec.specs.Mark.{pound, sign_at, word_at, brace_at, round_at, comma, colon, colon2, not_ne, mutable}
use Rattle.syn_lower_spec.specs.Part.{angle_at, turbofish_at, lit, is_lit_there, qpath, type, MacroTree, has_none, segments_bare, outer_attributes, outer_body}
use Rattle.syn_lower_spec.specs.Own.{type_own, block_own, alone, before_if, before_some, comma_before, colon2_before, enclosed, separated, elements_own, lit_own, number_own, attribute_own, path_own, qualified_own, macro_own, segments_own, arguments_own, no_more_segments}
use Rattle.syn_lower_spec.specs.Fits.{fits_if, type_fits, type_stops, lit_fits, number_fits, has_kind, path_fits, path_stops, qpath_fits, is_macro_delimiter, ends_well, segments_fit, segments_stop, arguments_fit, arguments_stop, goes_over}
use Rattle.syn_lower_spec.specs.Laws.{PartsAreReadBack}
use Rattle.syn_lower_spec.specs.Pat as p
use Rattle.syn_lower_spec.specs.Pat.{MemberTree, PatBound, PatTree, SubPat, Pats, Fields, FieldTree, FieldPatTree}
use Rattle.syn_lower_spec.specs.PatOwn as o
use Rattle.syn_lower_spec.specs.PatFits as test
use Rattle.syn_lower_spec.proofs.Same.{both_true, not_true}
use Rattle.syn_lower_spec.proofs.ReadBack.{Commas, no_element, element, Joins, no_join, join, next_own, listed_back, joined_back, verbatim_bracket_back, text_same, name_back, lit_back, block_back}
use Rattle.syn_lower_spec.proofs.Behind.{Calm, nil_calm, comma_calm, or_true, segments_calm}
use Rattle.syn_lower_spec.proofs.Fronts.{word_not, no_truth, not_mut, not_underscore}
use Rattle.syn_lower_spec.proofs.TypesBack.{group_back, type_back, nil_comma}
use Rattle.syn_lower_spec.proofs.Whole.{parts_read_back}
use Rattle.syn_lower_spec.proofs.PatWhole.{spelled_by_kind}
use Rattle.syn_lower_spec.proofs.Marks.{pound_present}
use Rattle.syn_lower_spec.proofs.Forms.{Alike, weaker, more_stands}
use Rattle.syn_lower_spec.proofs.Parts.{outer_body_alike}
use Rattle.syn_lower_spec.proofs.Pats.{pattern_alike, single_alike, field_alike, vert_present, arg_pieces}

-- ---- nothing after goes on with a pattern

pub record PatCalm (l : List Tok) : Type 0 where
  pub calm : Calm l
  pub no_bound : p.bound_at l ≡ false
  pub no_dots : p.dots.at l ≡ false
  pub no_at : p.at_sign.at l ≡ false
  pub no_brace : brace_at l ≡ false

pub nil_pat_calm : PatCalm []
unfolding p.bound_at sign_at brace_at group_at
nil_pat_calm = record { calm = nil_calm; no_bound = refl; no_dots = refl; no_at = refl; no_brace = refl }

comma_pat_calm : (l : List Tok) → PatCalm (alone 44 ∷ l)
unfolding p.bound_at sign_at brace_at group_at
comma_pat_calm l = record { calm = comma_calm l; no_bound = refl; no_dots = refl; no_at = refl; no_brace = refl }

vert_calm : (l : List Tok) → Calm (alone 124 ∷ l)
unfolding angle_at turbofish_at round_at sign_at group_at
vert_calm l = record { no_angle = refl; no_round = refl; no_colon2 = refl; no_arrow = refl; no_bang = refl; no_turbofish = refl }

vert_pat_calm : (l : List Tok) → PatCalm (alone 124 ∷ l)
unfolding p.bound_at sign_at brace_at group_at
vert_pat_calm l = record { calm = vert_calm l; no_bound = refl; no_dots = refl; no_at = refl; no_brace = refl }

module _ (r : List Tok) (c : PatCalm r) where
  path_calm : (s : PathStyle) (z : PathTree) → path_stops s z r ≡ true
  path_calm s z = let k = c.calm in rw (segments_calm r k s (t.segments_of z.segments), k.no_colon2) refl

  no_goes_on : p.goes_on r ≡ false
  no_goes_on = let k = c.calm in rw (k.no_colon2, k.no_bang, c.no_brace, k.no_round, c.no_dots) refl

  pub bound_calm : (e : Option PatBound) → test.range_bound_stops e r ≡ true
  bound_calm None = rw c.no_bound refl
  bound_calm (Some (p.lit_bound x)) = refl
  bound_calm (Some (p.path_bound q z)) = path_calm style.Expr z

  path_pat_calm : (q : QSelfTree) (z : PathTree) → test.path_pat_stops q z r ≡ true
  path_pat_calm t.no_qself z = let k = c.calm in rw (k.no_bang, and-false (segments_bare z.segments), c.no_brace, k.no_round) refl
  path_pat_calm (t.qself x n a) z = refl

  bare_calm : (s : SubPat) → test.not_bare s r ≡ true
  bare_calm p.no_sub = rw no_goes_on refl
  bare_calm (p.sub z) = refl

  mutual
    pub single_calm : (z : PatTree) → test.single_stops z r ≡ true
    single_calm p.rest = rw c.no_bound refl
    single_calm (p.range s d e) = bound_calm e
    single_calm (p.a_lit x) = rw c.no_dots refl
    single_calm (p.a_binding b m w s) = rw (sub_calm s, bare_calm s, or_true m, or_true b) refl
    single_calm (p.a_path q z) = rw (path_calm style.Expr z, c.no_dots, path_pat_calm q z) refl
    single_calm (p.a_reference m z) = single_calm z
    single_calm (p.alternatives l ps e) = or_calm ps
    single_calm _ = refl

    sub_calm : (s : SubPat) → test.sub_stops s r ≡ true
    sub_calm p.no_sub = rw c.no_at refl
    sub_calm (p.sub z) = single_calm z

    or_calm : (ps : Pats) → test.or_stops ps r ≡ true
    or_calm p.no_pats = refl
    or_calm (p.more_pats z p.no_pats) = single_calm z
    or_calm (p.more_pats z (p.more_pats w ps)) = or_calm (p.more_pats w ps)

-- ---- the first token of a literal

truth_is : (w : Text) (x : Text) → is_truth w ≡ true → is_truth x ≡ false → bytes_eq w x ≡ false
truth_is w x h k = by_bool (bytes_eq w x) refl
  where
    by_bool : (b : Bool) → bytes_eq w x ≡ b → b ≡ false
    by_bool false e = refl
    by_bool true e = let d : w ≡ x = (bytes_eq-Decides w x).0 e in absurd cc

no_underscore : is_truth (codes "_") ≡ false
unfolding is_truth
no_underscore = refl

not_const : is_segment (codes "const") ≡ false
unfolding is_segment stands_alone is_reserved_word
not_const = refl

no_const : is_truth (codes "const") ≡ false
unfolding is_truth
no_const = refl

-- the first tokens of a literal: a truth value, a literal, or a `-` and a number
pub data LitBegins : List Tok → Type 0 where
  lit_word : {w : Text} {m : List Tok} → is_truth w ≡ true → LitBegins (ident w ∷ m)
  lit_plain : {text : Text} {m : List Tok} → LitBegins (literal text ∷ m)
  lit_minus : {text : Text} {m : List Tok} → is_number text ≡ true → LitBegins (alone 45 ∷ literal text ∷ m)

number_begins : (k : LitKind) (text : Text) (r : List Tok) → number_fits k text ≡ true → LitBegins (number_own text r)
number_begins k [] r h = lit_plain
number_begins k (c ∷ text) r h = by_sign (c == 45) h
  where
    by_sign : (b : Bool) → cond b (is_number text && same_kind (number_kind text) k) (has_kind (kind_of (c ∷ text)) k) ≡ true → LitBegins (cond b (alone 45 ∷ literal text ∷ r) (literal (c ∷ text) ∷ r))
    by_sign true h = let (a, d) = both_true (is_number text) (same_kind (number_kind text) k) h in lit_minus a
    by_sign false h = lit_plain

lit_begins : (x : LitTree) (r : List Tok) → lit_fits x ≡ true → LitBegins (lit_own x r)
unfolding lit_fits lit_own
lit_begins x r h = by_kind x.kind x.text h
  where
    by_kind : (k : LitKind) (text : Text) → lit_fits (record { kind = k; text = text }) ≡ true → LitBegins (lit_own (record { kind = k; text = text }) r)
    by_kind kind.Bool text h = lit_word h
    by_kind kind.Int text h = number_begins kind.Int text r h
    by_kind kind.Float text h = number_begins kind.Float text r h
    by_kind _ text h = lit_plain

lit_seen : {l : List Tok} → LitBegins l → is_lit_there l ≡ true
lit_seen (lit_word h) = h
lit_seen lit_plain = refl
lit_seen (lit_minus h) = refl

lit_bound_seen : {l : List Tok} → LitBegins l → p.bound_at l ≡ true
unfolding p.bound_at
lit_bound_seen (lit_word h) = rw h refl
lit_bound_seen lit_plain = refl
lit_bound_seen (lit_minus h) = rw h refl

-- ---- the first tokens of a path

pub data PathBegins : List Tok → Type 0 where
  by_word : {w : Text} {m : List Tok} → is_segment w ≡ true → PathBegins (ident w ∷ m)
  by_colon2 : {m : List Tok} → PathBegins (colon2_before m)
  by_less : {m : List Tok} → PathBegins (alone 60 ∷ m)

segments_begin : (n : ℕ) (s : PathStyle) (ss : Segments) (r : List Tok) → no_more_segments ss ≡ false → segments_fit n s ss ≡ true → PathBegins (segments_own n ss false r)
segments_begin n s t.no_segments r h f = absurd cc
segments_begin n s (t.more_segments w a ss) r h f = let (g, i) = both_true (is_segment w) _ f in by_word g

pub path_starts : (s : PathStyle) (q : QSelfTree) (l e : Bool) (xs : List SegmentTree) (r : List Tok) → qpath_fits s (q, record { leading = l; segments = xs; trailing = e }) ≡ true → PathBegins (qualified_own (q, record { leading = l; segments = xs; trailing = e }) r)
path_starts s q l true xs r f = absurd cc
path_starts s (t.qself x n a) l false xs r f = by_less
path_starts s t.no_qself true false xs r f = by_colon2
path_starts s t.no_qself false false xs r f =
    let (g, h) = both_true (not (no_more_segments (t.segments_of xs))) _ f in
    segments_begin 0 s (t.segments_of xs) r (not_true (no_more_segments (t.segments_of xs)) g) h

path_no_lit : {l : List Tok} → PathBegins l → is_lit_there l ≡ false
path_no_lit (by_word {w = w} h) = no_truth w h
path_no_lit by_colon2 = refl
path_no_lit by_less = refl

path_bound_seen : {l : List Tok} → PathBegins l → p.bound_at l ≡ true
unfolding p.bound_at sign_at
path_bound_seen (by_word {w = w} h) = rw (no_truth w h, h) refl
path_bound_seen by_colon2 = refl
path_bound_seen by_less = refl

-- ---- ranges

read_back : PartsAreReadBack
read_back = parts_read_back

pub bound_back : (b : PatBound) (r : List Tok) → test.range_bound_fits b ≡ true → test.range_bound_stops (Some b) r ≡ true → p.range_bound.behind b (o.range_bound_own b r) ≡ Some r
unfolding p.range_bound
bound_back (p.lit_bound x) r f s = rw (lit_seen (lit_begins x r f)) (lit_back x r f)
bound_back (p.path_bound q z) r f s = rw (path_no_lit (path_starts style.Expr q z.leading z.trailing z.segments r f)) (read_back.qualified_paths style.Expr (q, z) r f s)

bound_seen : (b : PatBound) (r : List Tok) → test.range_bound_fits b ≡ true → p.bound_at (o.range_bound_own b r) ≡ true
bound_seen (p.lit_bound x) r f = lit_bound_seen (lit_begins x r f)
bound_seen (p.path_bound q z) r f = path_bound_seen (path_starts style.Expr q z.leading z.trailing z.segments r f)

pub limits_back : (c : Bool) (l : List Tok) → p.limits.behind c (o.limits_before c l) ≡ Some l
unfolding p.limits sign_at
limits_back true l = refl
limits_back false l = refl

end_back : (c : Bool) (e : Option PatBound) (r : List Tok) → test.bound_or (not c) e ≡ true → test.range_bound_stops e r ≡ true → p.range_end.behind (c, e) (o.limits_before c (before_some e o.range_bound_own r)) ≡ Some r
unfolding p.range_end
end_back true None r f s = absurd cc
end_back true (Some b) r f s = rw (limits_back true (o.range_bound_own b r)) (bound_back b r f s)
end_back false None r f s = rw (limits_back false r, not_true (p.bound_at r) s) refl
end_back false (Some b) r f s = rw (limits_back false (o.range_bound_own b r), bound_seen b r f) (bound_back b r f s)

limits_dots : (c : Bool) (l : List Tok) → p.dots.at (o.limits_before c l) ≡ true
unfolding sign_at
limits_dots true l = refl
limits_dots false l = refl

-- ---- one kind of pattern, by what it holds

lit_single : (z : PatTree) {l : List Tok} → LitBegins l → (p.single p.pattern).behind z l ≡ (shown p.to_lit p.from_lit (both lit (maybe p.dots.at p.range_end))).behind z l
unfolding p.single sign_at word_at group_at
lit_single z (lit_word {w = w} h) = rw (truth_is w (codes "_") h no_underscore, truth_is w (codes "const") h no_const, h) refl
lit_single z lit_plain = refl
lit_single z (lit_minus h) = refl

path_single : (z : PatTree) {l : List Tok} → PathBegins l → p.binding_at l ≡ false → (p.single p.pattern).behind z l ≡ (p.path_pat p.pattern).behind z l
unfolding p.single sign_at word_at group_at
path_single z (by_word {w = w} h) e = rw (word_not w (codes "_") h not_underscore, word_not w (codes "const") h not_const, no_truth w h, e) refl
path_single z by_colon2 e = rw e refl
path_single z by_less e = rw e refl

pub dots_single : (z : PatTree) (c : Bool) (l : List Tok) → (p.single p.pattern).behind z (o.limits_before c l) ≡ (shown p.to_open p.from_open p.range_end).behind z (o.limits_before c l)
unfolding p.single sign_at word_at group_at
dots_single z true l = refl
dots_single z false l = refl

module _ (r : List Tok) where
  wild_step : (p.single p.pattern).behind p.wild (ident (codes "_") ∷ r) ≡ Some r
  unfolding p.single word_at
  wild_step = refl

  rest_step : p.bound_at r ≡ false → (p.single p.pattern).behind p.rest (o.limits_before false r) ≡ Some r
  rest_step h = dots_single p.rest false r ∙ end_back false None r refl (rw h refl)

  open_step : (c : Bool) (e : Option PatBound) → test.range_fits None c e ≡ true → test.range_bound_stops e r ≡ true
      → (p.single p.pattern).behind (p.range None c e) (o.limits_before c (before_some e o.range_bound_own r)) ≡ Some r
  open_step false None f s = absurd cc
  open_step false (Some b) f s = dots_single (p.range None false (Some b)) false (o.range_bound_own b r) ∙ end_back false (Some b) r f s
  open_step true None f s = absurd cc
  open_step true (Some b) f s = dots_single (p.range None true (Some b)) true (o.range_bound_own b r) ∙ end_back true (Some b) r f s

  lit_step : (x : LitTree) → lit_fits x ≡ true → p.dots.at r ≡ false → (p.single p.pattern).behind (p.a_lit x) (lit_own x r) ≡ Some r
  lit_step x f s = lit_single (p.a_lit x) (lit_begins x r f) ∙ rw (lit_back x r f, s) refl

  lit_range_step : (x : LitTree) (c : Bool) (e : Option PatBound) → lit_fits x ≡ true → test.bound_or (not c) e ≡ true → test.range_bound_stops e r ≡ true
      → (p.single p.pattern).behind (p.range (Some (p.lit_bound x)) c e) (lit_own x (o.limits_before c (before_some e o.range_bound_own r))) ≡ Some r
  lit_range_step x c e f g s =
      lit_single (p.range (Some (p.lit_bound x)) c e) (lit_begins x (o.limits_before c (before_some e o.range_bound_own r)) f)
      ∙ rw (lit_back x (o.limits_before c (before_some e o.range_bound_own r)) f, limits_dots c (before_some e o.range_bound_own r), end_back c e r g s) refl

  block_step : (ts : List Tok) → (p.single p.pattern).behind (p.a_block ts) (ident (codes "const") ∷ enclosed del.Brace ts r) ≡ Some r
  unfolding p.single word_at block_own
  block_step ts = block_back ts r

  reference_step : (m : Bool) (z : PatTree) (l : List Tok) → (m || not (test.begins_mut z)) ≡ true → (test.begins_mut z ≡ false → mutable.at l ≡ false) → (p.pattern false).behind z l ≡ Some r
      → (p.single p.pattern).behind (p.a_reference m z) (alone 38 ∷ o.word_if m (codes "mut") l) ≡ Some r
  unfolding p.single p.reference_pat sign_at word_at
  reference_step true z l f n h = h
  reference_step false z l f n h = rw (n (not_true (test.begins_mut z) f)) h

  round_step : (z : PatTree) (ps : List PatTree) (e : Bool) (ts : List Tok) → p.from_round z ≡ Some (ps, e) → (listed comma is_empty (p.pattern true)).behind (ps, e) ts ≡ Some []
      → (p.single p.pattern).behind z (enclosed del.Parenthesis ts r) ≡ Some r
  unfolding p.single p.round_pat sign_at word_at group_at
  round_step z ps e ts f h = rw (toks-inside ts, f, h) refl

  slice_step : (ps : Pats) (e : Bool) (ts : List Tok) → (listed comma is_empty (p.pattern true)).behind (p.pats ps, e) ts ≡ Some []
      → (p.single p.pattern).behind (p.a_slice ps e) (enclosed del.Bracket ts r) ≡ Some r
  unfolding p.single p.slice_pat sign_at word_at group_at
  slice_step ps e ts h = rw (toks-inside ts, h) refl

-- ---- bindings

abbrev pub binding_own : Bool → Bool → Text → SubPat → List Tok → List Tok
binding_own b m w s r = o.word_if b (codes "ref") (o.word_if m (codes "mut") (ident w ∷ o.sub_own s r))

pub reserved_not : (w text : Text) → is_reserved_word w ≡ false → is_reserved_word text ≡ true → bytes_eq w text ≡ false
reserved_not w text h k = by_bool (bytes_eq w text) refl
  where
    by_bool : (b : Bool) → bytes_eq w text ≡ b → b ≡ false
    by_bool false e = refl
    by_bool true e = let d : w ≡ text = (bytes_eq-Decides w text).0 e in absurd cc

r_underscore : is_reserved_word (codes "_") ≡ true
unfolding is_reserved_word
r_underscore = refl

r_const : is_reserved_word (codes "const") ≡ true
unfolding is_reserved_word
r_const = refl

pub r_ref : is_reserved_word (codes "ref") ≡ true
unfolding is_reserved_word
r_ref = refl

pub r_mut : is_reserved_word (codes "mut") ≡ true
unfolding is_reserved_word
r_mut = refl

name_no_truth : (w : Text) → is_reserved_word w ≡ false → is_truth w ≡ false
unfolding is_segment
name_no_truth w h = no_truth w (rw h refl)

no_truth_ref : is_truth (codes "ref") ≡ false
unfolding is_truth
no_truth_ref = refl

no_truth_mut : is_truth (codes "mut") ≡ false
unfolding is_truth
no_truth_mut = refl

-- a word, which is no literal
binding_seen : (z : PatTree) (b m : Bool) (w : Text) (s : SubPat) (r : List Tok) → is_reserved_word w ≡ false → (b || (m || not (p.goes_on (o.sub_own s r)))) ≡ true
    → (p.single p.pattern).behind z (binding_own b m w s r) ≡ (p.binding p.pattern).behind z (binding_own b m w s r)
unfolding p.single sign_at word_at group_at p.binding_at
binding_seen z true m w s r h k = rw no_truth_ref refl
binding_seen z false true w s r h k = rw no_truth_mut refl
binding_seen z false false w s r h k =
    rw (reserved_not w (codes "_") h r_underscore, reserved_not w (codes "const") h r_const, name_no_truth w h, reserved_not w (codes "ref") h r_ref, reserved_not w (codes "mut") h r_mut, h, k) refl

ref_piece : (b m : Bool) (w : Text) (l : List Tok) → is_reserved_word w ≡ false → (flag p.by_ref).behind b (o.word_if b (codes "ref") (o.word_if m (codes "mut") (ident w ∷ l))) ≡ Some (o.word_if m (codes "mut") (ident w ∷ l))
unfolding word_at
ref_piece true m w l h = refl
ref_piece false true w l h = refl
ref_piece false false w l h = rw (reserved_not w (codes "ref") h r_ref) refl

mut_piece : (m : Bool) (w : Text) (l : List Tok) → is_reserved_word w ≡ false → (flag mutable).behind m (o.word_if m (codes "mut") (ident w ∷ l)) ≡ Some (ident w ∷ l)
unfolding word_at
mut_piece true w l h = refl
mut_piece false w l h = rw (reserved_not w (codes "mut") h r_mut) refl

binding_step : (b m : Bool) (w : Text) (s : SubPat) (r : List Tok) → is_reserved_word w ≡ false → (b || (m || not (p.goes_on (o.sub_own s r)))) ≡ true
    → (when p.at_sign.at (mark p.at_sign (shown p.sub p.from_sub (p.pattern false))) (pure p.no_sub p.has_no_sub)).behind s (o.sub_own s r) ≡ Some r
    → (p.single p.pattern).behind (p.a_binding b m w s) (binding_own b m w s r) ≡ Some r
unfolding p.binding
binding_step b m w s r h k i = binding_seen (p.a_binding b m w s) b m w s r h k
    ∙ rw (ref_piece b m w (o.sub_own s r) h, mut_piece m w (o.sub_own s r) h, name_back w (o.sub_own s r) (rw h refl)) i

-- ---- paths in patterns

key : (a g : Bool) → (not (a && true) || g) ≡ true → (a && not g) ≡ false
key false g h = refl
key true true h = refl
key true false h = absurd cc

not_ref : is_segment (codes "ref") ≡ false
unfolding is_segment stands_alone is_reserved_word
not_ref = refl

-- a word of a path is no binding, where a path goes on after it or where it is no name
word_no_binding : (w : Text) (m : List Tok) → is_segment w ≡ true → (not (is_reserved_word w) && not (p.goes_on m)) ≡ false → p.binding_at (ident w ∷ m) ≡ false
unfolding p.binding_at word_at
word_no_binding w m h k = rw (word_not w (codes "ref") h not_ref, word_not w (codes "mut") h not_mut) k

goes_no_binding : (w : Text) (m : List Tok) → p.goes_on m ≡ true → (not (is_reserved_word w) && not (p.goes_on m)) ≡ false
goes_no_binding w m h = rw h (and-false (not (is_reserved_word w)))

-- what comes after a name that has arguments, or before another segment
arguments_go : (a : ArgumentsTree) (l : List Tok) → arguments_fit style.Expr a ≡ true → has_none a ≡ false → p.goes_on (arguments_own a l) ≡ true
unfolding sign_at
arguments_go (t.angle true gs e) l f h = refl
arguments_go _ l f h = absurd cc

next_goes : (a : ArgumentsTree) (l : List Tok) → arguments_fit style.Expr a ≡ true → p.goes_on (arguments_own a (colon2_before l)) ≡ true
unfolding sign_at
next_goes t.no_arguments l f = refl
next_goes (t.angle true gs e) l f = refl
next_goes (t.angle false gs e) l f = absurd cc
next_goes (t.round xs e d) l f = absurd cc

no_round : (xs : t.Types) (e : Bool) (d : t.ReturnTree) → arguments_fit style.Expr (t.round xs e d) ≡ true → ⊥
no_round xs e d h = let i : false ≡ true = h in absurd cc

one_no_binding : (r : List Tok) (a : ArgumentsTree) (w : Text) → segments_fit 0 style.Expr (t.more_segments w a t.no_segments) ≡ true → (not (not (is_reserved_word w) && has_none a) || p.goes_on r) ≡ true → p.binding_at (ident w ∷ arguments_own a r) ≡ false
one_no_binding r t.no_arguments w f k = let (g, i) = both_true (is_segment w) _ f in word_no_binding w r g (key (not (is_reserved_word w)) (p.goes_on r) k)
one_no_binding r (t.angle c gs e) w f k =
    let (g, i) = both_true (is_segment w) _ f in
    let (j, m) = both_true (not (stands_alone w) || false) _ i in
    let (n, q) = both_true (arguments_fit style.Expr (t.angle c gs e)) _ m in
    word_no_binding w (arguments_own (t.angle c gs e) r) g (goes_no_binding w (arguments_own (t.angle c gs e) r) (arguments_go (t.angle c gs e) r n refl))
one_no_binding r (t.round xs e d) w f k =
    let (g, i) = both_true (is_segment w) _ f in
    let (j, m) = both_true (not (stands_alone w) || false) _ i in
    let z : false ≡ true = m in
    absurd cc

segments_no_binding : (xs : List SegmentTree) (r : List Tok) → segments_fit 0 style.Expr (t.segments_of xs) ≡ true → no_more_segments (t.segments_of xs) ≡ false → (not (test.is_name_alone false xs) || p.goes_on r) ≡ true
    → p.binding_at (segments_own 0 (t.segments_of xs) false r) ≡ false
segments_no_binding [] r f h k = absurd cc
segments_no_binding (s ∷ []) r f h k = one_no_binding r s.arguments s.ident f k
segments_no_binding (s ∷ u ∷ xs) r f h k =
    let (g, i) = both_true (is_segment s.ident) _ f in
    let (j, m) = both_true (not (stands_alone s.ident) || has_none s.arguments) _ i in
    let (n, q) = both_true (arguments_fit style.Expr s.arguments) _ m in
    let l = segments_own 0 (t.segments_of (u ∷ xs)) false r in
    word_no_binding s.ident (arguments_own s.arguments (colon2_before l)) g (goes_no_binding s.ident (arguments_own s.arguments (colon2_before l)) (next_goes s.arguments l n))

pub path_no_binding : (q : QSelfTree) (l e : Bool) (xs : List SegmentTree) (r : List Tok) → qpath_fits style.Expr (q, record { leading = l; segments = xs; trailing = e }) ≡ true
    → (not (test.is_one_name q (record { leading = l; segments = xs; trailing = e })) || p.goes_on r) ≡ true → p.binding_at (qualified_own (q, record { leading = l; segments = xs; trailing = e }) r) ≡ false
unfolding p.binding_at word_at
path_no_binding q l true xs r f k = absurd cc
path_no_binding (t.qself x n a) l false xs r f k = refl
path_no_binding t.no_qself true false xs r f k = refl
path_no_binding t.no_qself false false xs r f k =
    let (g, h) = both_true (not (no_more_segments (t.segments_of xs))) _ f in
    segments_no_binding xs r h (not_true (no_more_segments (t.segments_of xs)) g) k

bang_goes : (l : List Tok) → p.goes_on (alone 33 ∷ l) ≡ true
unfolding sign_at brace_at round_at group_at turbofish_at
bang_goes l = refl

bang_no_turbofish : (l : List Tok) → turbofish_at (alone 33 ∷ l) ≡ false
unfolding sign_at brace_at round_at group_at turbofish_at
bang_no_turbofish l = refl

bang_no_colon2 : (l : List Tok) → colon2.at (alone 33 ∷ l) ≡ false
unfolding sign_at brace_at round_at group_at turbofish_at
bang_no_colon2 l = refl

bang_seen : (l : List Tok) → not_ne.at (alone 33 ∷ l) ≡ true
unfolding sign_at brace_at round_at group_at turbofish_at
bang_seen l = refl

brace_goes : (ts r : List Tok) → p.goes_on (enclosed del.Brace ts r) ≡ true
unfolding sign_at brace_at round_at group_at turbofish_at
brace_goes ts r = refl

brace_no_turbofish : (ts r : List Tok) → turbofish_at (enclosed del.Brace ts r) ≡ false
unfolding sign_at brace_at round_at group_at turbofish_at
brace_no_turbofish ts r = refl

brace_no_colon2 : (ts r : List Tok) → colon2.at (enclosed del.Brace ts r) ≡ false
unfolding sign_at brace_at round_at group_at turbofish_at
brace_no_colon2 ts r = refl

brace_no_bang : (ts r : List Tok) → not_ne.at (enclosed del.Brace ts r) ≡ false
unfolding sign_at brace_at round_at group_at turbofish_at
brace_no_bang ts r = refl

brace_seen : (ts r : List Tok) → brace_at (enclosed del.Brace ts r) ≡ true
unfolding sign_at brace_at round_at group_at turbofish_at
brace_seen ts r = refl

round_goes : (ts r : List Tok) → p.goes_on (enclosed del.Parenthesis ts r) ≡ true
unfolding sign_at brace_at round_at group_at turbofish_at
round_goes ts r = refl

round_no_turbofish : (ts r : List Tok) → turbofish_at (enclosed del.Parenthesis ts r) ≡ false
unfolding sign_at brace_at round_at group_at turbofish_at
round_no_turbofish ts r = refl

round_no_colon2 : (ts r : List Tok) → colon2.at (enclosed del.Parenthesis ts r) ≡ false
unfolding sign_at brace_at round_at group_at turbofish_at
round_no_colon2 ts r = refl

round_no_bang : (ts r : List Tok) → not_ne.at (enclosed del.Parenthesis ts r) ≡ false
unfolding sign_at brace_at round_at group_at turbofish_at
round_no_bang ts r = refl

round_seen : (ts r : List Tok) → round_at (enclosed del.Parenthesis ts r) ≡ true
unfolding sign_at brace_at round_at group_at turbofish_at
round_seen ts r = refl

round_no_brace : (ts r : List Tok) → brace_at (enclosed del.Parenthesis ts r) ≡ false
unfolding sign_at brace_at round_at group_at turbofish_at
round_no_brace ts r = refl

dots_go : (c : Bool) (l : List Tok) → p.goes_on (o.limits_before c l) ≡ true
unfolding sign_at brace_at round_at group_at
dots_go true l = refl
dots_go false l = refl

dots_no_bang : (c : Bool) (l : List Tok) → not_ne.at (o.limits_before c l) ≡ false
unfolding sign_at brace_at round_at group_at
dots_no_bang true l = refl
dots_no_bang false l = refl

dots_no_brace : (c : Bool) (l : List Tok) → brace_at (o.limits_before c l) ≡ false
unfolding sign_at brace_at round_at group_at
dots_no_brace true l = refl
dots_no_brace false l = refl

dots_no_round : (c : Bool) (l : List Tok) → round_at (o.limits_before c l) ≡ false
unfolding sign_at brace_at round_at group_at
dots_no_round true l = refl
dots_no_round false l = refl

dots_calm : (c : Bool) (l : List Tok) → Calm (o.limits_before c l)
unfolding angle_at turbofish_at round_at sign_at group_at
dots_calm true l = record { no_angle = refl; no_round = refl; no_colon2 = refl; no_arrow = refl; no_bang = refl; no_turbofish = refl }
dots_calm false l = record { no_angle = refl; no_round = refl; no_colon2 = refl; no_arrow = refl; no_bang = refl; no_turbofish = refl }

dots_stop : (c : Bool) (l : List Tok) (z : PathTree) → path_stops style.Expr z (o.limits_before c l) ≡ true
dots_stop c l z = let k = dots_calm c l in rw (segments_calm (o.limits_before c l) k style.Expr (t.segments_of z.segments), k.no_colon2) refl

brace_inside : (ts r : List Tok) (fs : Fields) (e d : Bool) → (p.struct_inside p.pattern).behind ((p.fields fs, e), d) ts ≡ Some [] → (form.inside del.Brace (p.struct_inside p.pattern)).behind ((p.fields fs, e), d) (enclosed del.Brace ts r) ≡ Some r
unfolding group_at
brace_inside ts r fs e d h = rw (toks-inside ts, h) refl

round_inside : (ts r : List Tok) (ps : Pats) (e : Bool) → (listed comma is_empty (p.pattern true)).behind (p.pats ps, e) ts ≡ Some [] → (form.inside del.Parenthesis (listed comma is_empty (p.pattern true))).behind (p.pats ps, e) (enclosed del.Parenthesis ts r) ≡ Some r
unfolding group_at
round_inside ts r ps e h = rw (toks-inside ts, h) refl

-- in an expression's style nothing but `::` goes on with a path
expr_stops : (ss : Segments) (r : List Tok) → segments_fit 0 style.Expr ss ≡ true → turbofish_at r ≡ false → segments_stop style.Expr ss r ≡ true
expr_stops t.no_segments r f h = refl
expr_stops (t.more_segments w a t.no_segments) r f h =
    let (g, i) = both_true (is_segment w) _ f in
    let (j, m) = both_true (not (stands_alone w) || has_none a) _ i in
    let (n, q) = both_true (arguments_fit style.Expr a) _ m in
    by_args a n
  where
    by_args : (a : ArgumentsTree) → arguments_fit style.Expr a ≡ true → arguments_stop style.Expr w a r ≡ true
    by_args t.no_arguments n = rw h (or_true (stands_alone w))
    by_args (t.angle c gs e) n = refl
    by_args (t.round xs e d) n = absurd (no_round xs e d n)
expr_stops (t.more_segments w a (t.more_segments v c ss)) r f h =
    let (g, i) = both_true (is_segment w) _ f in
    let (j, m) = both_true (not (stands_alone w) || has_none a) _ i in
    let (n, q) = both_true (arguments_fit style.Expr a) _ m in
    let (u, z) = both_true (goes_over 0 style.Expr w a (t.more_segments v c ss)) _ q in
    expr_stops (t.more_segments v c ss) r z h

bare_path : (z : PathTree) (r : List Tok) → path_fits style.Expr z ≡ true → turbofish_at r ≡ false → colon2.at r ≡ false → (qpath type style.Expr).behind (t.no_qself, z) (path_own z r) ≡ Some r
bare_path z r f h c =
    let (g, i) = both_true (not z.trailing) _ f in
    let (j, k) = both_true (not (no_more_segments (t.segments_of z.segments))) _ i in
    read_back.qualified_paths style.Expr (t.no_qself, z) r f (rw (expr_stops (t.segments_of z.segments) r k h, c) refl)

module _ (r : List Tok) where
  -- a path alone
  path_step : (q : QSelfTree) (z : PathTree) → qpath_fits style.Expr (q, z) ≡ true → not (test.is_one_name q z) ≡ true → path_stops style.Expr z r ≡ true → p.dots.at r ≡ false → test.path_pat_stops q z r ≡ true
      → (p.single p.pattern).behind (p.a_path q z) (qualified_own (q, z) r) ≡ Some r
  unfolding p.path_pat p.path_end
  path_step q z f k s d e =
      path_single (p.a_path q z) (path_starts style.Expr q z.leading z.trailing z.segments r f) (path_no_binding q z.leading z.trailing z.segments r f (rw k refl))
      ∙ rw (read_back.qualified_paths style.Expr (q, z) r f s) (ended q e)
    where
      ended : (q : QSelfTree) → test.path_pat_stops q z r ≡ true → (p.path_end p.pattern (q, z)).behind p.no_more r ≡ Some r
      ended t.no_qself e =
          let (a, b) = both_true (not (segments_bare z.segments && not_ne.at r)) _ e in
          let (g, h) = both_true (not (brace_at r)) (not (round_at r)) b in
          rw (not_true (segments_bare z.segments && not_ne.at r) a, not_true (brace_at r) g, not_true (round_at r) h, d) refl
      ended (t.qself x n a) e = rw d refl

  range_step : (q : QSelfTree) (z : PathTree) (c : Bool) (e : Option PatBound) → qpath_fits style.Expr (q, z) ≡ true → test.bound_or (not c) e ≡ true → test.range_bound_stops e r ≡ true
      → (p.single p.pattern).behind (p.range (Some (p.path_bound q z)) c e) (qualified_own (q, z) (o.limits_before c (before_some e o.range_bound_own r))) ≡ Some r
  unfolding p.path_pat p.path_end
  range_step q z c e f g s =
      path_single (p.range (Some (p.path_bound q z)) c e) (path_starts style.Expr q z.leading z.trailing z.segments (o.limits_before c (before_some e o.range_bound_own r)) f)
      (path_no_binding q z.leading z.trailing z.segments (o.limits_before c (before_some e o.range_bound_own r)) f (rw (dots_go c (before_some e o.range_bound_own r)) (or_true (not (test.is_one_name q z)))))
      ∙ rw (read_back.qualified_paths style.Expr (q, z) (o.limits_before c (before_some e o.range_bound_own r)) f (dots_stop c (before_some e o.range_bound_own r) z)) (more q)
    where
      more : (q : QSelfTree) → (p.path_end p.pattern (q, z)).behind (p.range_more c e) (o.limits_before c (before_some e o.range_bound_own r)) ≡ Some r
      more t.no_qself = rw (dots_no_bang c (before_some e o.range_bound_own r), and-false (segments_bare z.segments), dots_no_brace c (before_some e o.range_bound_own r), dots_no_round c (before_some e o.range_bound_own r), limits_dots c (before_some e o.range_bound_own r)) (end_back c e r g s)
      more (t.qself x n a) = rw (limits_dots c (before_some e o.range_bound_own r)) (end_back c e r g s)

  mac_step : (m : MacroTree) → path_fits style.Expr m.path ≡ true → segments_bare m.path.segments ≡ true → is_macro_delimiter m.delimiter ≡ true
      → (p.single p.pattern).behind (p.a_mac m) (macro_own m r) ≡ Some r
  unfolding p.path_pat p.path_end
  mac_step m f b g =
      path_single (p.a_mac m) (path_starts style.Expr t.no_qself m.path.leading m.path.trailing m.path.segments (alone 33 ∷ enclosed m.delimiter m.tokens r) f)
      (path_no_binding t.no_qself m.path.leading m.path.trailing m.path.segments (alone 33 ∷ enclosed m.delimiter m.tokens r) f (rw (bang_goes (enclosed m.delimiter m.tokens r)) (or_true (not (test.is_one_name t.no_qself m.path)))))
      ∙ rw (bare_path m.path (alone 33 ∷ enclosed m.delimiter m.tokens r) f (bang_no_turbofish (enclosed m.delimiter m.tokens r)) (bang_no_colon2 (enclosed m.delimiter m.tokens r)), b, bang_seen (enclosed m.delimiter m.tokens r)) (group_back m.delimiter m.tokens r g)

  struct_step : (z : PathTree) (fs : Fields) (e d : Bool) (ts : List Tok) → path_fits style.Expr z ≡ true → (p.struct_inside p.pattern).behind ((p.fields fs, e), d) ts ≡ Some []
      → (p.single p.pattern).behind (p.a_struct z fs e d) (path_own z (enclosed del.Brace ts r)) ≡ Some r
  unfolding p.path_pat p.path_end
  struct_step z fs e d ts f h =
      path_single (p.a_struct z fs e d) (path_starts style.Expr t.no_qself z.leading z.trailing z.segments (enclosed del.Brace ts r) f)
      (path_no_binding t.no_qself z.leading z.trailing z.segments (enclosed del.Brace ts r) f (rw (brace_goes ts r) (or_true (not (test.is_one_name t.no_qself z)))))
      ∙ rw (bare_path z (enclosed del.Brace ts r) f (brace_no_turbofish ts r) (brace_no_colon2 ts r), brace_no_bang ts r, and-false (segments_bare z.segments), brace_seen ts r) (brace_inside ts r fs e d h)

  tuple_struct_step : (z : PathTree) (ps : Pats) (e : Bool) (ts : List Tok) → path_fits style.Expr z ≡ true → (listed comma is_empty (p.pattern true)).behind (p.pats ps, e) ts ≡ Some []
      → (p.single p.pattern).behind (p.tuple_struct z ps e) (path_own z (enclosed del.Parenthesis ts r)) ≡ Some r
  unfolding p.path_pat p.path_end
  tuple_struct_step z ps e ts f h =
      path_single (p.tuple_struct z ps e) (path_starts style.Expr t.no_qself z.leading z.trailing z.segments (enclosed del.Parenthesis ts r) f)
      (path_no_binding t.no_qself z.leading z.trailing z.segments (enclosed del.Parenthesis ts r) f (rw (round_goes ts r) (or_true (not (test.is_one_name t.no_qself z)))))
      ∙ rw (bare_path z (enclosed del.Parenthesis ts r) f (round_no_turbofish ts r) (round_no_colon2 ts r), round_no_bang ts r, and-false (segments_bare z.segments), round_no_brace ts r, round_seen ts r) (round_inside ts r ps e h)

-- ---- attributes and fields

no_pound_word : (w : Text) (l : List Tok) → pound.at (ident w ∷ l) ≡ false
unfolding sign_at
no_pound_word w l = refl

no_pound_literal : (w : Text) (l : List Tok) → pound.at (literal w ∷ l) ≡ false
unfolding sign_at
no_pound_literal w l = refl

attribute_step : (a : AttributeTree) (more' : List AttributeTree) (l m : List Tok) → a.inner ≡ false → outer_attributes.behind more' l ≡ Some m → outer_attributes.behind (a ∷ more') (attribute_own a l) ≡ Some m
unfolding outer_attributes outer_body attribute_own sign_at
attribute_step a more' l m h i = by_style a.inner a.tokens h
  where
    by_style : (b : Bool) (ts : List Tok) → b ≡ false → (more pound outer_body).behind (record { inner = b; tokens = ts } ∷ more') (attribute_own (record { inner = b; tokens = ts }) l) ≡ Some m
    by_style true ts e = absurd cc
    by_style false ts e = more_stands pound outer_body pound_present (λ k. outer_body_alike) (record { inner = false; tokens = ts } ∷ more') _ m (rw (verbatim_bracket_back ts l) i)

pub attributes_back : (xs : List AttributeTree) (l : List Tok) → test.attributes_outer xs ≡ true → pound.at l ≡ false → outer_attributes.behind xs (o.attributes_own xs l) ≡ Some l
unfolding outer_attributes
attributes_back [] l f h = more_stands pound outer_body pound_present (λ k. outer_body_alike) [] l l (rw h refl)
attributes_back (a ∷ xs) l f h =
    let (g, i) = both_true (not a.inner) (test.attributes_outer xs) f in
    attribute_step a xs (o.attributes_own xs l) l (not_true a.inner g) (attributes_back xs l i h)

field_pound : (f : FieldTree) (l : List Tok) → pound.at (o.field_own f l) ≡ false
field_pound (p.short true m w) l = no_pound_word (codes "ref") _
field_pound (p.short false true w) l = no_pound_word (codes "mut") _
field_pound (p.short false false w) l = no_pound_word w l
field_pound (p.full (p.a_name w) z) l = no_pound_word w _
field_pound (p.full (p.an_index n) z) l = no_pound_literal (index_text n) _

-- after a shorthand's name stands no single `:`
short_not_full : (b m : Bool) (w : Text) (l : List Tok) → colon.at l ≡ false → p.full_at (o.field_own (p.short b m w) l) ≡ false
unfolding p.full_at is_reserved_word sign_at
short_not_full true m w l h = refl
short_not_full false true w l h = refl
short_not_full false false w l h = rw h (and-false _)

full_seen : (k : MemberTree) (z : PatTree) (l : List Tok) → test.member_fits k ≡ true → p.full_at (o.member_own k (alone 58 ∷ l)) ≡ true
unfolding p.full_at sign_at
full_seen (p.a_name w) z l h = rw h refl
full_seen (p.an_index n) z l h = refl

same_is : (q : Option ℕ) (n : ℕ) → test.same_index q n ≡ true → q ≡ Some n
same_is None n h = absurd cc
same_is (Some m) n h = let e : m ≡ n = grind (arith, nat_tests, h) in ap Some e

pub member_back : (k : MemberTree) (l : List Tok) → test.member_fits k ≡ true → p.member.behind k (o.member_own k l) ≡ Some l
unfolding p.member
member_back (p.a_name w) l h = rw (h, text_same w) refl
member_back (p.an_index n) l h = let e : n == n ≡ true = grind (arith, nat_tests) in rw (same_is (p.index_of (index_text n)) n h, e) refl

abbrev pub pat_field_own : FieldPatTree → List Tok → List Tok
pat_field_own f l = o.attributes_own f.attrs (o.field_own f.field l)

short_step : (xs : List AttributeTree) (b m : Bool) (w : Text) (l : List Tok) → test.attributes_outer xs ≡ true → is_reserved_word w ≡ false → colon.at l ≡ false
    → (p.field p.pattern).behind (record { attrs = xs; field = p.short b m w }) (pat_field_own (record { attrs = xs; field = p.short b m w }) l) ≡ Some l
unfolding p.field
short_step xs b m w l f h c =
    rw (attributes_back xs (o.field_own (p.short b m w) l) f (field_pound (p.short b m w) l), short_not_full b m w l c, ref_piece b m w l h, mut_piece m w l h, name_back w l (rw h refl)) refl

full_step : (xs : List AttributeTree) (k : MemberTree) (z : PatTree) (m l : List Tok) → test.attributes_outer xs ≡ true → test.member_fits k ≡ true → (p.pattern true).behind z m ≡ Some l
    → (p.field p.pattern).behind (record { attrs = xs; field = p.full k z }) (o.attributes_own xs (o.member_own k (alone 58 ∷ m))) ≡ Some l
unfolding p.field sign_at
full_step xs k z m l f h i =
    rw (attributes_back xs (o.member_own k (alone 58 ∷ m)) f (member_pound k (alone 58 ∷ m)), full_seen k z m h, member_back k (alone 58 ∷ m) h) i
  where
    member_pound : (k : MemberTree) (l : List Tok) → pound.at (o.member_own k l) ≡ false
    member_pound (p.a_name w) l = no_pound_word w l
    member_pound (p.an_index n) l = no_pound_literal (index_text n) l

-- no field ends the list
attributes_stop : (xs : List AttributeTree) (l : List Tok) → p.fields_stop l ≡ false → p.fields_stop (o.attributes_own xs l) ≡ false
unfolding attribute_own sign_at
attributes_stop [] l h = h
attributes_stop (a ∷ xs) l h = refl

field_stop : (f : FieldTree) (l : List Tok) → p.fields_stop (o.field_own f l) ≡ false
unfolding sign_at
field_stop (p.short true m w) l = refl
field_stop (p.short false true w) l = refl
field_stop (p.short false false w) l = refl
field_stop (p.full (p.a_name w) z) l = refl
field_stop (p.full (p.an_index n) z) l = refl

-- ---- lists

pub field_whole : (k : ℕ) → Alike k (p.field p.pattern) (p.field p.pattern)
field_whole k = field_alike pattern_alike

pub single_whole : (k : ℕ) → Alike k (p.single p.pattern) (p.single p.pattern)
single_whole k = weaker (single_alike {k = k} pattern_alike)

pub pats_elements : (ps : Pats) (e : Bool) (r : List Tok) → o.pats_own ps e r ≡ elements_own o.pat_own comma_before (p.pats ps) e r
pats_elements p.no_pats e r = refl
pats_elements (p.more_pats z p.no_pats) e r = refl
pats_elements (p.more_pats z (p.more_pats w ps)) e r = ap (λ l. o.pat_own z (comma_before l)) (pats_elements (p.more_pats w ps) e r)

pub or_elements : (ps : Pats) (r : List Tok) → o.or_own ps false r ≡ elements_own o.pat_own o.vert_before (p.pats ps) false r
or_elements p.no_pats r = refl
or_elements (p.more_pats z p.no_pats) r = refl
or_elements (p.more_pats z (p.more_pats w ps)) r = ap (λ l. o.pat_own z (o.vert_before l)) (or_elements (p.more_pats w ps) r)

pub fields_elements : (fs : Fields) (e : Bool) (r : List Tok) → o.fields_own fs e r ≡ elements_own pat_field_own comma_before (p.fields fs) e r
fields_elements p.no_fields e r = refl
fields_elements (p.more_fields a f p.no_fields) e r = refl
fields_elements (p.more_fields a f (p.more_fields b g fs)) e r = ap (λ l. o.attributes_own a (o.field_own f (comma_before l))) (fields_elements (p.more_fields b g fs) e r)

pub pats_end : (ps : Pats) (e : Bool) → ends_well (o.no_more_pats ps) e ≡ not (is_nil (p.pats ps) && e)
pats_end p.no_pats e = refl
pats_end (p.more_pats z ps) e = refl

pub fields_end : (fs : Fields) (e : Bool) → ends_well (o.no_more_fields fs) e ≡ not (is_nil (p.fields fs) && e)
fields_end p.no_fields e = refl
fields_end (p.more_fields a f fs) e = refl

pats_listed : (ps : Pats) (e : Bool) → ends_well (o.no_more_pats ps) e ≡ true → Commas (p.pattern true) o.pat_own is_empty e [] (p.pats ps)
    → (listed comma is_empty (p.pattern true)).behind (p.pats ps, e) (o.pats_own ps e []) ≡ Some []
pats_listed ps e h c =
    subst (λ l. (listed comma is_empty (p.pattern true)).behind (p.pats ps, e) l ≡ Some []) (sym (pats_elements ps e []))
    (listed_back (p.pattern true) o.pat_own is_empty (λ k. pattern_alike true) [] refl nil_comma e (p.pats ps) (sym (pats_end ps e) ∙ h) c)

-- after the fields stands nothing, or `..`
abbrev pub fields_rest : Bool → List Tok
fields_rest d = before_if d (o.limits_before false) []

rest_stop : (d : Bool) → p.fields_stop (fields_rest d) ≡ true
unfolding sign_at
rest_stop true = refl
rest_stop false = refl

rest_comma : (d : Bool) → comma.at (fields_rest d) ≡ false
unfolding sign_at
rest_comma true = refl
rest_comma false = refl

rest_flag : (d : Bool) (b : Bool) → (not d || b) ≡ true → (when (λ l. b) (flag p.dots) (pure false not)).behind d (fields_rest d) ≡ Some []
unfolding sign_at
rest_flag true true h = refl
rest_flag true false h = absurd cc
rest_flag false true h = refl
rest_flag false false h = refl

pub none_is : (fs : Fields) → is_nil (p.fields fs) ≡ o.no_more_fields fs
none_is p.no_fields = refl
none_is (p.more_fields a f fs) = refl

fields_step : (fs : Fields) (e d : Bool) → ends_well (o.no_more_fields fs) e ≡ true → (not d || (o.no_more_fields fs || e)) ≡ true → Commas (p.field p.pattern) pat_field_own p.fields_stop e (fields_rest d) (p.fields fs)
    → (p.struct_inside p.pattern).behind ((p.fields fs, e), d) (o.fields_own fs e (fields_rest d)) ≡ Some []
unfolding p.struct_inside
fields_step fs e d h g c =
    let i = subst (λ l. (listed comma p.fields_stop (p.field p.pattern)).behind (p.fields fs, e) l ≡ Some (fields_rest d)) (sym (fields_elements fs e (fields_rest d)))
    (listed_back (p.field p.pattern) pat_field_own p.fields_stop (λ k. field_whole k) (fields_rest d) (rest_stop d) (rest_comma d) e (p.fields fs) (sym (fields_end fs e) ∙ h) c) in
    rw (i, none_is fs) (rest_flag d (o.no_more_fields fs || e) g)

-- ---- alternatives

pub single_is : (z : PatTree) (l n : List Tok) → (p.pattern false).behind z l ≡ Some n → (p.single p.pattern).behind z l ≡ Some n
unfolding p.at_width
single_is z l n h = let (a, b) = spelled_by_kind false l z n in a h

pub is_single : (z : PatTree) (l n : List Tok) → (p.single p.pattern).behind z l ≡ Some n → (p.pattern false).behind z l ≡ Some n
unfolding p.at_width
is_single z l n h = let (a, b) = spelled_by_kind false l z n in b h

multi_is : (z : PatTree) (l n : List Tok) → (p.multi p.pattern).behind z l ≡ Some n → (p.pattern true).behind z l ≡ Some n
unfolding p.at_width
multi_is z l n h = let (a, b) = spelled_by_kind true l z n in b h

abbrev pub is_or : PatTree → Bool
is_or (p.alternatives l ps e) = true
is_or _ = false

pub from_single : (z : PatTree) → is_or z ≡ false → p.from_or z ≡ Some (false, z ∷ [])
from_single (p.alternatives l ps e) h = absurd cc
from_single _ h = refl

multi_one : (z : PatTree) (l r : List Tok) → is_or z ≡ false → p.vert.at l ≡ false → p.vert.at r ≡ false → (p.single p.pattern).behind z l ≡ Some r → (p.multi p.pattern).behind z l ≡ Some r
unfolding p.multi
multi_one z l r h v w i =
    let last : (more p.vert (p.single p.pattern)).behind [] r ≡ Some r = more_stands p.vert (p.single p.pattern) vert_present single_whole [] r r (rw w refl) in
    rw (from_single z h, v, i, last) refl

-- a single pattern, in either place
as_width : (b : Bool) (z : PatTree) (l r : List Tok) → is_or z ≡ false → p.vert.at l ≡ false → not (b && p.vert.at r) ≡ true → (p.single p.pattern).behind z l ≡ Some r → (p.pattern b).behind z l ≡ Some r
as_width false z l r h v w i = is_single z l r i
as_width true z l r h v w i = multi_is z l r (multi_one z l r h v (not_true (p.vert.at r) w) i)

or_by_is : (l : Bool) (ps : Pats) → (l || not (test.is_one_pat ps)) ≡ true → o.no_more_pats ps ≡ false → p.or_by l (p.pats ps) ≡ Some (l, p.pats ps)
or_by_is true ps h k = refl
or_by_is false p.no_pats h k = refl
or_by_is false (p.more_pats z p.no_pats) h k = absurd cc
or_by_is false (p.more_pats z (p.more_pats w ps)) h k = refl

pub vert_seen : (l : List Tok) → p.vert.at (o.vert_before l) ≡ true
unfolding sign_at
vert_seen l = refl

or_joined : (ps : Pats) (r : List Tok) → o.no_more_pats ps ≡ false → p.vert.at r ≡ false → Joins (p.single p.pattern) o.pat_own o.vert_before r (p.pats ps)
    → (joined p.vert (p.single p.pattern)).behind (p.pats ps) (o.or_own ps false r) ≡ Some r
or_joined p.no_pats r h v j = absurd cc
or_joined (p.more_pats z ps) r h v j =
    subst (λ l. (joined p.vert (p.single p.pattern)).behind (p.pats (p.more_pats z ps)) l ≡ Some r) (sym (or_elements (p.more_pats z ps) r))
    (joined_back p.vert (p.single p.pattern) o.pat_own o.vert_before vert_present single_whole vert_seen (λ l. refl) r v z (p.pats ps) j)

or_step : (l : Bool) (ps : Pats) (r : List Tok) → (l || not (test.is_one_pat ps)) ≡ true → o.no_more_pats ps ≡ false → p.vert.at (o.or_own ps false r) ≡ false → p.vert.at r ≡ false
    → Joins (p.single p.pattern) o.pat_own o.vert_before r (p.pats ps) → (p.multi p.pattern).behind (p.alternatives l ps false) (before_if l o.vert_before (o.or_own ps false r)) ≡ Some r
unfolding p.multi sign_at
or_step true ps r h k v w j = or_joined ps r k w j
or_step false ps r h k v w j = rw (or_by_is false ps h k, v) (or_joined ps r k w j)

sub_step : (z : PatTree) (l r : List Tok) → (p.pattern false).behind z l ≡ Some r → (when p.at_sign.at (mark p.at_sign (shown p.sub p.from_sub (p.pattern false))) (pure p.no_sub p.has_no_sub)).behind (p.sub z) (alone 64 ∷ l) ≡ Some r
unfolding sign_at
sub_step z l r h = h

no_sub_step : (r : List Tok) → p.at_sign.at r ≡ false → (when p.at_sign.at (mark p.at_sign (shown p.sub p.from_sub (p.pattern false))) (pure p.no_sub p.has_no_sub)).behind p.no_sub r ≡ Some r
no_sub_step r h = rw h refl

sub_go : (z : PatTree) (r : List Tok) → p.goes_on (alone 64 ∷ o.pat_own z r) ≡ false
unfolding sign_at brace_at round_at group_at
sub_go z r = refl

-- ---- the first token of a pattern

pub record PatFront (z : PatTree) (l : List Tok) : Type 0 where
  some : is_empty l ≡ false
  pub no_pound : pound.at l ≡ false
  no_vert : p.vert.at l ≡ false
  no_mut : test.begins_mut z ≡ false → mutable.at l ≡ false

truth_no_mut : is_truth (codes "mut") ≡ false
truth_no_mut = no_truth_mut

lit_front : (z : PatTree) {l : List Tok} → LitBegins l → PatFront z l
unfolding sign_at word_at
lit_front z (lit_word {w = w} h) = record { some = refl; no_pound = refl; no_vert = refl; no_mut = λ e. truth_is w (codes "mut") h truth_no_mut }
lit_front z lit_plain = record { some = refl; no_pound = refl; no_vert = refl; no_mut = λ e. refl }
lit_front z (lit_minus h) = record { some = refl; no_pound = refl; no_vert = refl; no_mut = λ e. refl }

path_front : (z : PatTree) {l : List Tok} → PathBegins l → PatFront z l
unfolding sign_at word_at
path_front z (by_word {w = w} h) = record { some = refl; no_pound = refl; no_vert = refl; no_mut = λ e. word_not w (codes "mut") h not_mut }
path_front z by_colon2 = record { some = refl; no_pound = refl; no_vert = refl; no_mut = λ e. refl }
path_front z by_less = record { some = refl; no_pound = refl; no_vert = refl; no_mut = λ e. refl }

limits_front : (z : PatTree) (c : Bool) (l : List Tok) → PatFront z (o.limits_before c l)
unfolding sign_at word_at
limits_front z true l = record { some = refl; no_pound = refl; no_vert = refl; no_mut = λ e. refl }
limits_front z false l = record { some = refl; no_pound = refl; no_vert = refl; no_mut = λ e. refl }

bound_front : (z : PatTree) (b : PatBound) (l : List Tok) → test.range_bound_fits b ≡ true → PatFront z (o.range_bound_own b l)
bound_front z (p.lit_bound x) l f = lit_front z (lit_begins x l f)
bound_front z (p.path_bound q w) l f = path_front z (path_starts style.Expr q w.leading w.trailing w.segments l f)

range_front : (z : PatTree) (s : Option PatBound) (c : Bool) (e : Option PatBound) (l : List Tok) → test.range_fits s c e ≡ true → PatFront z (before_some s o.range_bound_own (o.limits_before c l))
range_front z None c e l f = limits_front z c l
range_front z (Some b) false e l f = let (g, h) = both_true (test.range_bound_fits b) _ f in bound_front z b (o.limits_before false l) g
range_front z (Some b) true e l f = let (g, h) = both_true (test.range_bound_fits b) _ f in bound_front z b (o.limits_before true l) g

binding_front : (b m : Bool) (w : Text) (s : SubPat) (r : List Tok) → is_reserved_word w ≡ false → PatFront (p.a_binding b m w s) (binding_own b m w s r)
unfolding sign_at word_at
binding_front true m w s r h = record { some = refl; no_pound = refl; no_vert = refl; no_mut = λ e. refl }
binding_front false true w s r h = record { some = refl; no_pound = refl; no_vert = refl; no_mut = λ e. absurd cc }
binding_front false false w s r h = record { some = refl; no_pound = refl; no_vert = refl; no_mut = λ e. reserved_not w (codes "mut") h r_mut }

sign_first : (z : PatTree) (c : ℕ) (l : List Tok) → (c == 124) ≡ false → (c == 35) ≡ false → PatFront z (alone c ∷ l)
unfolding sign_at word_at
sign_first z c l h k = record { some = refl; no_pound = rw k refl; no_vert = rw h refl; no_mut = λ e. refl }

group_first : (z : PatTree) (ts l : List Tok) → PatFront z (enclosed del.Parenthesis ts l)
unfolding sign_at word_at
group_first z ts l = record { some = refl; no_pound = refl; no_vert = refl; no_mut = λ e. refl }

bracket_first : (z : PatTree) (ts l : List Tok) → PatFront z (enclosed del.Bracket ts l)
unfolding sign_at word_at
bracket_first z ts l = record { some = refl; no_pound = refl; no_vert = refl; no_mut = λ e. refl }

wild_first : (l : List Tok) → PatFront p.wild (ident (codes "_") ∷ l)
unfolding sign_at word_at
wild_first l = record { some = refl; no_pound = refl; no_vert = refl; no_mut = λ e. refl }

const_first : (ts l : List Tok) → PatFront (p.a_block ts) (ident (codes "const") ∷ l)
unfolding sign_at word_at
const_first ts l = record { some = refl; no_pound = refl; no_vert = refl; no_mut = λ e. refl }

bare_begins : (z : PathTree) (l : List Tok) → path_fits style.Expr z ≡ true → PathBegins (path_own z l)
bare_begins z l f = path_starts style.Expr t.no_qself z.leading z.trailing z.segments l f

pub pat_first : (b : Bool) (z : PatTree) (r : List Tok) → is_or z ≡ false → test.pat_fits b z ≡ true → PatFront z (o.pat_own z r)
pat_first b p.wild r h f = wild_first r
pat_first b p.rest r h f = limits_front p.rest false r
pat_first b (p.range s c e) r h f = range_front (p.range s c e) s c e _ f
pat_first b (p.a_lit x) r h f = lit_front (p.a_lit x) (lit_begins x r f)
pat_first b (p.a_binding d m w s) r h f = let (g, i) = both_true (not (is_reserved_word w)) _ f in binding_front d m w s r (not_true (is_reserved_word w) g)
pat_first b (p.a_path q z) r h f = let (g, i) = both_true (qpath_fits style.Expr (q, z)) _ f in path_front (p.a_path q z) (path_starts style.Expr q z.leading z.trailing z.segments r g)
pat_first b (p.a_mac m) r h f = let (g, i) = both_true (path_fits style.Expr m.path) _ f in path_front (p.a_mac m) (bare_begins m.path _ g)
pat_first b (p.a_struct z fs e d) r h f = let (g, i) = both_true (path_fits style.Expr z) _ f in path_front (p.a_struct z fs e d) (bare_begins z _ g)
pat_first b (p.tuple_struct z ps e) r h f = let (g, i) = both_true (path_fits style.Expr z) _ f in path_front (p.tuple_struct z ps e) (bare_begins z _ g)
pat_first b (p.a_tuple ps e) r h f = group_first (p.a_tuple ps e) _ r
pat_first b (p.a_paren z) r h f = group_first (p.a_paren z) _ r
pat_first b (p.a_slice ps e) r h f = bracket_first (p.a_slice ps e) _ r
pat_first b (p.a_reference m z) r h f = sign_first (p.a_reference m z) 38 _ refl refl
pat_first b (p.a_block ts) r h f = const_first ts _
pat_first b _ r h f = absurd cc

-- alternatives have none inside
pub single_fits : (z : PatTree) → test.pat_fits false z ≡ true → is_or z ≡ false
single_fits (p.alternatives l ps e) f = absurd cc
single_fits _ f = refl

or_some : (ps : Pats) (r : List Tok) → o.no_more_pats ps ≡ false → test.or_fits ps ≡ true → (is_empty (o.or_own ps false r) ≡ false) × (p.vert.at (o.or_own ps false r) ≡ false)
or_some p.no_pats r h f = absurd cc
or_some (p.more_pats z ps) r h f =
    let (g, i) = both_true (test.pat_fits false z) (test.or_fits ps) f in
    let j = pat_first false z (separated (o.no_more_pats ps) false o.vert_before (o.or_own ps false r)) (single_fits z g) g in
    (j.some, j.no_vert)

pat_some : (z : PatTree) (r : List Tok) → test.pat_fits true z ≡ true → is_empty (o.pat_own z r) ≡ false
pat_some (p.alternatives true ps e) r f = refl
pat_some (p.alternatives false ps true) r f = absurd cc
pat_some (p.alternatives false ps false) r f =
    let (g, h) = both_true (not (o.no_more_pats ps)) _ f in
    let (i, j) = both_true (false || not (test.is_one_pat ps)) (test.or_fits ps) h in
    let (k, m) = or_some ps r (not_true (o.no_more_pats ps) g) j in k
pat_some z r f = let j = pat_first true z r refl f in j.some

-- ---- all together

tuple_is : (ps : Pats) (e : Bool) → (not (test.is_one_pat ps) || (e || test.is_one_rest ps)) ≡ true → p.from_round (p.a_tuple ps e) ≡ Some (p.pats ps, e)
tuple_is p.no_pats e h = refl
tuple_is (p.more_pats z p.no_pats) true h = refl
tuple_is (p.more_pats z p.no_pats) false h = let i : (false || p.is_rest z) ≡ true = h in rw i refl
tuple_is (p.more_pats z (p.more_pats w ps)) e h = refl

paren_is : (z : PatTree) → not (p.is_rest z) ≡ true → p.from_round (p.a_paren z) ≡ Some (z ∷ [], false)
paren_is z h = rw (not_true (p.is_rest z) h) refl

pub record Ends (l : List Tok) : Type 0 where
  calm : PatCalm l
  no_vert : p.vert.at l ≡ false
  no_colon : colon.at l ≡ false

pub nil_ends : Ends []
unfolding sign_at
nil_ends = record { calm = nil_pat_calm; no_vert = refl; no_colon = refl }

comma_ends : (l : List Tok) → Ends (alone 44 ∷ l)
unfolding sign_at
comma_ends l = record { calm = comma_pat_calm l; no_vert = refl; no_colon = refl }

next_ends : {A : Type 0} (own : A → List Tok → List Tok) (xs : List A) (e : Bool) (r : List Tok) → Ends r → Ends (next_own own comma_before xs e r)
next_ends own [] true r q = comma_ends _
next_ends own [] false r q = q
next_ends own (x ∷ xs) e r q = comma_ends _

field_ends : (fs : Fields) (e d : Bool) → (not d || e) ≡ true → Ends (next_own pat_field_own comma_before (p.fields fs) e (fields_rest d))
field_ends p.no_fields true d h = comma_ends _
field_ends p.no_fields false true h = absurd cc
field_ends p.no_fields false false h = nil_ends
field_ends (p.more_fields a f fs) e d h = comma_ends _

pub stops_ends : (b : Bool) (z : PatTree) (l : List Tok) → Ends l → test.pat_stops b z l ≡ true
stops_ends true z l q = rw (single_calm l q.calm z, q.no_vert) refl
stops_ends false z l q = rw (single_calm l q.calm z) refl

single_stop : (z : PatTree) (l : List Tok) → test.single_stops z l ≡ true → test.pat_stops false z l ≡ true
single_stop z l h = rw h refl

sub_bare : (s : SubPat) (b m : Bool) (r : List Tok) → (b || (m || test.not_bare s r)) ≡ true → (b || (m || not (p.goes_on (o.sub_own s r)))) ≡ true
sub_bare p.no_sub b m r h = h
sub_bare (p.sub z) b m r h = rw (sub_go z r, or_true m) (or_true b)

range_parts : (x : PatBound) (c : Bool) (e : Option PatBound) → test.range_fits (Some x) c e ≡ true → (test.range_bound_fits x ≡ true) × (test.bound_or (not c) e ≡ true)
range_parts x true e f = both_true (test.range_bound_fits x) (test.bound_or false e) f
range_parts x false e f = both_true (test.range_bound_fits x) (test.bound_or true e) f

some_fields : (fs : Fields) (e d : Bool) → (not d || (o.no_more_fields fs || e)) ≡ true → o.no_more_fields fs ≡ false → (not d || e) ≡ true
some_fields p.no_fields e d h k = absurd cc
some_fields (p.more_fields a f fs) e d h k = h

mutual
  pub pat_back : (b : Bool) (z : PatTree) (r : List Tok) → test.pat_fits b z ≡ true → test.pat_stops b z r ≡ true → (p.pattern b).behind z (o.pat_own z r) ≡ Some r
  pat_back b p.wild r f s = let (u, v) = both_true true _ s in let j = wild_first r in as_width b p.wild _ r refl j.no_vert v (wild_step r)
  pat_back b p.rest r f s =
      let (u, v) = both_true (not (p.bound_at r)) _ s in
      let j = limits_front p.rest false r in
      as_width b p.rest _ r refl j.no_vert v (rest_step r (not_true (p.bound_at r) u))
  pat_back b (p.range None c e) r f s =
      let (u, v) = both_true (test.range_bound_stops e r) _ s in
      let j = limits_front (p.range None c e) c (before_some e o.range_bound_own r) in
      as_width b (p.range None c e) _ r refl j.no_vert v (open_step r c e f u)
  pat_back b (p.range (Some (p.lit_bound x)) c e) r f s =
      let (u, v) = both_true (test.range_bound_stops e r) _ s in
      let (g, h) = range_parts (p.lit_bound x) c e f in
      let j = bound_front (p.range (Some (p.lit_bound x)) c e) (p.lit_bound x) (o.limits_before c (before_some e o.range_bound_own r)) g in
      as_width b (p.range (Some (p.lit_bound x)) c e) _ r refl j.no_vert v (lit_range_step r x c e g h u)
  pat_back b (p.range (Some (p.path_bound q z)) c e) r f s =
      let (u, v) = both_true (test.range_bound_stops e r) _ s in
      let (g, h) = range_parts (p.path_bound q z) c e f in
      let j = bound_front (p.range (Some (p.path_bound q z)) c e) (p.path_bound q z) (o.limits_before c (before_some e o.range_bound_own r)) g in
      as_width b (p.range (Some (p.path_bound q z)) c e) _ r refl j.no_vert v (range_step r q z c e g h u)
  pat_back b (p.a_lit x) r f s =
      let (u, v) = both_true (not (p.dots.at r)) _ s in
      let j = lit_front (p.a_lit x) (lit_begins x r f) in
      as_width b (p.a_lit x) _ r refl j.no_vert v (lit_step r x f (not_true (p.dots.at r) u))
  pat_back b (p.a_binding d m w y) r f s =
      let (u, v) = both_true (test.sub_stops y r && (d || (m || test.not_bare y r))) _ s in
      let (g, h) = both_true (not (is_reserved_word w)) (test.sub_fits y) f in
      let (i, k) = both_true (test.sub_stops y r) _ u in
      let j = binding_front d m w y r (not_true (is_reserved_word w) g) in
      as_width b (p.a_binding d m w y) _ r refl j.no_vert v (binding_step d m w y r (not_true (is_reserved_word w) g) (sub_bare y d m r k) (sub_back y r h i))
  pat_back b (p.a_path q z) r f s =
      let (u, v) = both_true (path_stops style.Expr z r && (not (p.dots.at r) && test.path_pat_stops q z r)) _ s in
      let (g, h) = both_true (qpath_fits style.Expr (q, z)) (not (test.is_one_name q z)) f in
      let (i, k) = both_true (path_stops style.Expr z r) _ u in
      let (m, n) = both_true (not (p.dots.at r)) (test.path_pat_stops q z r) k in
      let j = path_front (p.a_path q z) (path_starts style.Expr q z.leading z.trailing z.segments r g) in
      as_width b (p.a_path q z) _ r refl j.no_vert v (path_step r q z g h i (not_true (p.dots.at r) m) n)
  pat_back b (p.a_mac m) r f s =
      let (u, v) = both_true true _ s in
      let (g, h) = both_true (path_fits style.Expr m.path) _ f in
      let (i, k) = both_true (segments_bare m.path.segments) (is_macro_delimiter m.delimiter) h in
      let j = path_front (p.a_mac m) (bare_begins m.path (alone 33 ∷ enclosed m.delimiter m.tokens r) g) in
      as_width b (p.a_mac m) _ r refl j.no_vert v (mac_step r m g i k)
  pat_back b (p.a_struct z fs e d) r f s =
      let (u, v) = both_true true _ s in
      let (g, h) = both_true (path_fits style.Expr z) _ f in
      let (i, k) = both_true (test.fields_fit fs) _ h in
      let (m, n) = both_true (ends_well (o.no_more_fields fs) e) (not d || (o.no_more_fields fs || e)) k in
      let ts = o.fields_own fs e (fields_rest d) in
      let j = path_front (p.a_struct z fs e d) (bare_begins z (enclosed del.Brace ts r) g) in
      as_width b (p.a_struct z fs e d) _ r refl j.no_vert v (struct_step r z fs e d ts g (fields_step fs e d m n (fields_commas e d fs i (some_fields fs e d n))))
  pat_back b (p.tuple_struct z ps e) r f s =
      let (u, v) = both_true true _ s in
      let (g, h) = both_true (path_fits style.Expr z) _ f in
      let (i, k) = both_true (test.pats_fit ps) (ends_well (o.no_more_pats ps) e) h in
      let j = path_front (p.tuple_struct z ps e) (bare_begins z (enclosed del.Parenthesis (o.pats_own ps e []) r) g) in
      as_width b (p.tuple_struct z ps e) _ r refl j.no_vert v (tuple_struct_step r z ps e (o.pats_own ps e []) g (pats_listed ps e k (pats_commas e ps i)))
  pat_back b (p.a_tuple ps e) r f s =
      let (u, v) = both_true true _ s in
      let (g, h) = both_true (test.pats_fit ps) _ f in
      let (i, k) = both_true (ends_well (o.no_more_pats ps) e) (not (test.is_one_pat ps) || (e || test.is_one_rest ps)) h in
      let j = group_first (p.a_tuple ps e) (o.pats_own ps e []) r in
      as_width b (p.a_tuple ps e) _ r refl j.no_vert v (round_step r (p.a_tuple ps e) (p.pats ps) e (o.pats_own ps e []) (tuple_is ps e k) (pats_listed ps e i (pats_commas e ps g)))
  pat_back b (p.a_paren z) r f s =
      let (u, v) = both_true true _ s in
      let (g, h) = both_true (test.pat_fits true z) (not (p.is_rest z)) f in
      let j = group_first (p.a_paren z) (o.pat_own z []) r in
      let i = pat_back true z [] g (stops_ends true z [] nil_ends) in
      as_width b (p.a_paren z) _ r refl j.no_vert v (round_step r (p.a_paren z) (z ∷ []) false (o.pat_own z []) (paren_is z h)
      (listed_back (p.pattern true) o.pat_own is_empty (λ k. pattern_alike true) [] refl nil_comma false (z ∷ []) refl (element i (pat_some z [] g) no_element)))
  pat_back b (p.a_slice ps e) r f s =
      let (u, v) = both_true true _ s in
      let (g, h) = both_true (test.pats_fit ps) (ends_well (o.no_more_pats ps) e) f in
      let j = bracket_first (p.a_slice ps e) (o.pats_own ps e []) r in
      as_width b (p.a_slice ps e) _ r refl j.no_vert v (slice_step r ps e (o.pats_own ps e []) (pats_listed ps e h (pats_commas e ps g)))
  pat_back b (p.a_reference m z) r f s =
      let (u, v) = both_true (test.single_stops z r) _ s in
      let (g, h) = both_true (test.pat_fits false z) (m || not (test.begins_mut z)) f in
      let i = pat_first false z r (single_fits z g) g in
      let j = sign_first (p.a_reference m z) 38 (o.word_if m (codes "mut") (o.pat_own z r)) refl refl in
      as_width b (p.a_reference m z) _ r refl j.no_vert v (reference_step r m z (o.pat_own z r) h i.no_mut (pat_back false z r g (single_stop z r u)))
  pat_back b (p.a_block ts) r f s =
      let (u, v) = both_true true _ s in
      let j = const_first ts (enclosed del.Brace ts r) in
      as_width b (p.a_block ts) _ r refl j.no_vert v (block_step r ts)
  pat_back false (p.alternatives l ps e) r f s = absurd cc
  pat_back true (p.alternatives l ps false) r f s =
      let (u, v) = both_true (test.or_stops ps r) _ s in
      let (g, h) = both_true (not (o.no_more_pats ps)) _ f in
      let (i, k) = both_true (l || not (test.is_one_pat ps)) (test.or_fits ps) h in
      let (m, n) = or_some ps r (not_true (o.no_more_pats ps) g) k in
      multi_is (p.alternatives l ps false) _ r (or_step l ps r i (not_true (o.no_more_pats ps) g) n (not_true (p.vert.at r) v) (or_joins ps r k u))
  pat_back _ _ r f s = absurd cc

  sub_back : (y : SubPat) (r : List Tok) → test.sub_fits y ≡ true → test.sub_stops y r ≡ true → (when p.at_sign.at (mark p.at_sign (shown p.sub p.from_sub (p.pattern false))) (pure p.no_sub p.has_no_sub)).behind y (o.sub_own y r) ≡ Some r
  sub_back p.no_sub r f s = no_sub_step r (not_true (p.at_sign.at r) s)
  sub_back (p.sub z) r f s = sub_step z (o.pat_own z r) r (pat_back false z r f (single_stop z r s))

  pats_commas : (e : Bool) (ps : Pats) → test.pats_fit ps ≡ true → Commas (p.pattern true) o.pat_own is_empty e [] (p.pats ps)
  pats_commas e p.no_pats f = no_element
  pats_commas e (p.more_pats z ps) f =
      let (g, h) = both_true (test.pat_fits true z) (test.pats_fit ps) f in
      let q = next_ends o.pat_own (p.pats ps) e [] nil_ends in
      element (pat_back true z _ g (stops_ends true z _ q)) (pat_some z _ g) (pats_commas e ps h)

  or_joins : (ps : Pats) (r : List Tok) → test.or_fits ps ≡ true → test.or_stops ps r ≡ true → Joins (p.single p.pattern) o.pat_own o.vert_before r (p.pats ps)
  or_joins p.no_pats r f s = no_join
  or_joins (p.more_pats z p.no_pats) r f s =
      let (g, h) = both_true (test.pat_fits false z) _ f in
      join (single_is z _ _ (pat_back false z r g (single_stop z r s))) no_join
  or_joins (p.more_pats z (p.more_pats w ps)) r f s =
      let (g, h) = both_true (test.pat_fits false z) _ f in
      join (single_is z _ _ (pat_back false z _ g (single_stop z _ (single_calm _ (vert_pat_calm _) z)))) (or_joins (p.more_pats w ps) r h s)

  fields_commas : (e d : Bool) (fs : Fields) → test.fields_fit fs ≡ true → (o.no_more_fields fs ≡ false → (not d || e) ≡ true) → Commas (p.field p.pattern) pat_field_own p.fields_stop e (fields_rest d) (p.fields fs)
  fields_commas e d p.no_fields f h = no_element
  fields_commas e d (p.more_fields a (p.short b m w) fs) f h =
      let (g, i) = both_true (test.attributes_outer a) _ f in
      let (j, k) = both_true (not (is_reserved_word w)) (test.fields_fit fs) i in
      let q = field_ends fs e d (h refl) in
      element (short_step a b m w _ g (not_true (is_reserved_word w) j) q.no_colon) (attributes_stop a _ (field_stop (p.short b m w) _)) (fields_commas e d fs k (λ x. h refl))
  fields_commas e d (p.more_fields a (p.full n z) fs) f h =
      let (g, i) = both_true (test.attributes_outer a) _ f in
      let (j, k) = both_true (test.member_fits n && test.pat_fits true z) (test.fields_fit fs) i in
      let (u, v) = both_true (test.member_fits n) (test.pat_fits true z) j in
      let q = field_ends fs e d (h refl) in
      element (full_step a n z _ _ g u (pat_back true z _ v (stops_ends true z _ q))) (attributes_stop a _ (field_stop (p.full n z) _)) (fields_commas e d fs k (λ x. h refl))

-- ---- arguments of closures

colon_calm : (l : List Tok) → Calm (alone 58 ∷ l)
unfolding angle_at turbofish_at round_at sign_at group_at
colon_calm l = record { no_angle = refl; no_round = refl; no_colon2 = refl; no_arrow = refl; no_bang = refl; no_turbofish = refl }

colon_pat_calm : (l : List Tok) → PatCalm (alone 58 ∷ l)
unfolding p.bound_at sign_at brace_at group_at
colon_pat_calm l = record { calm = colon_calm l; no_bound = refl; no_dots = refl; no_at = refl; no_brace = refl }

-- the same of the pieces of an argument: its attributes, its pattern, and its type
abbrev pub type_before : Option TypeTree → List Tok → List Tok
type_before y r = before_some y (λ x l. alone 58 ∷ type_own x l) r

abbrev pub piece_fits : PatTree × Option TypeTree → Bool
piece_fits q = test.pat_fits false q.0 && fits_if (type_fits true) q.1

abbrev pub piece_stops : PatTree × Option TypeTree → List Tok → Bool
piece_stops (z, None) r = test.pat_stops false z r && not (colon.at r)
piece_stops (z, Some x) r = type_stops true x r

pub typed_own_is : (z : PatTree) (r : List Tok) → o.pat_own z r ≡ o.pat_own (p.from_typed z).0 (type_before (p.from_typed z).1 r)
typed_own_is (p.typed z x) r = refl
typed_own_is _ r = refl

and_true : (b : Bool) → b ≡ (b && true)
and_true true = refl
and_true false = refl

pub typed_fits_is : (z : PatTree) → test.typed_fits z ≡ piece_fits (p.from_typed z)
typed_fits_is (p.typed z x) = refl
typed_fits_is z = and_true (test.pat_fits false z)

pub typed_stops_is : (z : PatTree) (r : List Tok) → test.typed_stops z r ≡ piece_stops (p.from_typed z) r
typed_stops_is (p.typed z x) r = refl
typed_stops_is _ r = refl

type_piece : (y : Option TypeTree) (z : PatTree) (r : List Tok) → fits_if (type_fits true) y ≡ true → piece_stops (z, y) r ≡ true
    → (maybe colon.at (mark colon (type true))).behind y (type_before y r) ≡ Some r
unfolding sign_at
type_piece None z r f s = let (u, v) = both_true (test.pat_stops false z r) (not (colon.at r)) s in rw (not_true (colon.at r) v) refl
type_piece (Some x) z r f s = type_back true x r f s

pat_ends : (y : Option TypeTree) (z : PatTree) (r : List Tok) → piece_stops (z, y) r ≡ true → test.pat_stops false z (type_before y r) ≡ true
pat_ends None z r s = let (u, v) = both_true (test.pat_stops false z r) (not (colon.at r)) s in u
pat_ends (Some x) z r s = single_stop z (alone 58 ∷ type_own x r) (single_calm (alone 58 ∷ type_own x r) (colon_pat_calm (type_own x r)) z)

pieces_back : (xs : List AttributeTree) (q : PatTree × Option TypeTree) (r : List Tok) → test.attributes_outer xs ≡ true → piece_fits q ≡ true → piece_stops q r ≡ true
    → arg_pieces.behind (xs, q) (o.attributes_own xs (o.pat_own q.0 (type_before q.1 r))) ≡ Some r
pieces_back xs (z, y) r g f s =
    let (i, j) = both_true (test.pat_fits false z) (fits_if (type_fits true) y) f in
    let k = type_before y r in
    let m = pat_first false z k (single_fits z i) i in
    rw (attributes_back xs (o.pat_own z k) g m.no_pound, pat_back false z k i (pat_ends y z r s), type_piece y z r j s) refl

pub closure_arg_back : (z : PatTree) (r : List Tok) → test.closure_arg_fits z ≡ true → test.closure_arg_stops z r ≡ true → p.closure_arg.behind z (o.pat_own z r) ≡ Some r
unfolding p.closure_arg
closure_arg_back (p.attributed a xs z) r f s =
    let (g, h) = both_true (test.attributes_outer (a ∷ xs)) (test.typed_fits z) f in
    rw (typed_own_is z r) (pieces_back (a ∷ xs) (p.from_typed z) r g (sym (typed_fits_is z) ∙ h) (sym (typed_stops_is z r) ∙ s))
closure_arg_back z r f s = rw (typed_own_is z r) (pieces_back [] (p.from_typed z) r refl (sym (typed_fits_is z) ∙ f) (sym (typed_stops_is z r) ∙ s))
