-- What comes after a part: the tests of it fail only where a part goes on.
use Rattle.std.proofs.Common.{◌≡◌, ℕ, zero, suc, ◌<◌, Bool, true, false, not, ◌&&◌, ◌||◌, ◌==◌, nat_lt, nat_le, List, [], ◌∷◌, refl, subst, codes, arith}
use Rattle.std.proofs.lemmas.Bool.Decides.{nat_tests}
use Rattle.std.proofs.Math.Bool.{and-false}
use Rattle.syn_lexer.specs.declared.front.Delimiter.{Delimiter}
use Rattle.syn_lexer.specs.declared.front.Delimiter.TheVariants as del
use Rattle.syn_lexer.specs.declared.front.Spacing.{Spacing}
use Rattle.syn_lexer.specs.declared.front.Spacing.TheVariants as spacing
use Rattle.syn_tokens.specs.Tok.{Tok, Inside, ident, punct, literal, group}
use Rattle.syn_tokens.specs.Front.{group_at, same_delimiter}
use Rattle.syn_lower_spec.specs.declared.label.PathStyle.TheVariants as style
use Rattle.syn_lower_spec.specs.Text.{Text, stands_alone, is_segment, is_truth}
use Rattle.syn_lower_spec.specs.Tree as t
use Rattle.syn_lower_spec.specs.Tree.{TypeTree, Segments, ArgumentsTree, ReturnTree, Bounds, BoundTree, QSelfTree}
use Rattle.syn_lower_spec.specs.Mark.{sign_at, colon, colon2, lt, round_at, brace_at, arrow, not_ne, plus}
use Rattle.syn_lower_spec.specs.Part.{angle_at, turbofish_at, QPathTree}
use Rattle.syn_lower_spec.specs.Own.{inner_count, count_segments, no_more_segments}
use Rattle.syn_lower_spec.specs.Fits.{type_fits, type_stops, mac_stops, segments_stop, arguments_stop, return_stops, bounds_stop, bound_stops, output_stops, path_stops, qpath_fits, segments_fit, arguments_fit, qself_fits, bare_segments}
use Rattle.syn_lower_spec.specs.Pat as p
use Rattle.syn_lower_spec.specs.Pat.{PatTree}
use Rattle.syn_lower_spec.specs.PatFits as test
use Rattle.syn_lower_spec.specs.Ends.{ends_types, ends_patterns, ends_open, segments_open, arguments_open, return_open, bounds_open, bound_open, begins_more, begins_more_patterns, PartsEnd, TypesEndAt, PatternsEndAt}
use Rattle.syn_lower_spec.proofs.Same.{both_true, not_true}
use Rattle.syn_lower_spec.proofs.Behind.{Calm, or_true, type_calm, segments_calm}
use Rattle.syn_lower_spec.proofs.PatsBack.{PatCalm, single_calm}

pub either_false : (a b : Bool) → (a || b) ≡ false → (a ≡ false) × (b ≡ false)
either_false false b h = (refl, h)
either_false true b h = absurd cc

pub types_calm : (r : List Tok) → ends_types r ≡ true → Calm r
unfolding ends_types angle_at turbofish_at
types_calm r h =
    let (a, b) = either_false (colon2.at r) _ (not_true _ h) in
    let (c, d) = either_false (lt.at r) _ b in
    let (e, f) = either_false (round_at r) _ d in
    let (g, i) = either_false (arrow.at r) (not_ne.at r) f in
    record { no_angle = rw (c, a) refl; no_round = e; no_colon2 = a; no_arrow = g; no_bang = i; no_turbofish = rw a refl }

pub patterns_calm : (r : List Tok) → ends_patterns r ≡ true → PatCalm r
unfolding ends_patterns
patterns_calm r h =
    let (a, b) = both_true (ends_types r) _ h in
    let (c, d) = either_false (p.bound_at r) _ (not_true _ b) in
    let (e, f) = either_false (p.dots.at r) _ d in
    let (g, i) = either_false (p.at_sign.at r) (brace_at r) f in
    record { calm = types_calm r a; no_bound = c; no_dots = e; no_at = g; no_brace = i }

-- where a sign stands, one that begins with another character doesn't
pub other_sign : (b : ℕ) (more : List ℕ) (c : ℕ) (text : List ℕ) (r : List Tok) → (b == c) ≡ false → sign_at (b ∷ more) r ≡ true → sign_at (c ∷ text) r ≡ false
unfolding sign_at
other_sign b more c text (punct d spacing.Alone ∷ l) e h = let (a, f) = both_true (d == b) _ h in let i : d ≡ b = grind (arith, nat_tests, a) in rw (i, e) refl
other_sign b more c text (punct d spacing.Joint ∷ l) e h = let (a, f) = both_true (d == b) _ h in let i : d ≡ b = grind (arith, nat_tests, a) in rw (i, e) refl
other_sign b more c text _ e h = absurd cc

-- ---- before `<`

module _ (r : List Tok) (h : lt.at r ≡ true) where
  less_first : sign_at (codes "<") r ≡ true
  less_first = let (a, b) = both_true (sign_at (codes "<") r) _ h in a

  no_other : (c : ℕ) (text : List ℕ) → (60 == c) ≡ false → sign_at (c ∷ text) r ≡ false
  no_other c text e = other_sign 60 [] c text r e less_first

  no_round : round_at r ≡ false
  unfolding round_at group_at sign_at
  no_round = by r less_first
    where
      by : (l : List Tok) → sign_at (codes "<") l ≡ true → round_at l ≡ false
      by (punct d s ∷ l) g = refl
      by _ g = absurd cc

  no_colon2 : colon2.at r ≡ false
  no_colon2 = no_other 58 _ refl

  no_bang : not_ne.at r ≡ false
  no_bang = rw (no_other 33 [] refl) refl

  angle_there : angle_at r ≡ true
  unfolding angle_at
  angle_there = rw h refl

  mac_less : (q : QSelfTree) (ss : Segments) → mac_stops q ss r ≡ true
  mac_less t.no_qself ss = rw (no_bang, and-false (bare_segments ss)) refl
  mac_less (t.qself x n a) ss = refl

  name_less : (b : Bool) → (b || (not (angle_at r) && not (round_at r))) ≡ not (not b)
  name_less true = refl
  name_less false = rw angle_there refl

  and_true : (b : Bool) → (b && true) ≡ b
  and_true true = refl
  and_true false = refl

  mutual
    type_less : (b : Bool) (x : TypeTree) → type_stops b x r ≡ not (ends_open x)
    type_less b (t.path q l ss e) = rw (no_colon2, mac_less q ss, and_true (segments_stop style.Type ss r)) (segments_less ss)
    type_less b (t.reference a m x) = type_less false x
    type_less b (t.ptr m x) = type_less false x
    type_less b (t.fn_ptr f u a xs e z) = return_less z
    type_less b (t.impl_trait bs e) = rw (no_other 43 [] refl, and-false b, and_true (bounds_stop bs r)) (bounds_less bs)
    type_less b (t.trait_object bs e) = rw (no_other 43 [] refl, and-false b, and_true (bounds_stop bs r)) (bounds_less bs)
    type_less b _ = refl

    segments_less : (ss : Segments) → segments_stop style.Type ss r ≡ not (segments_open ss)
    segments_less t.no_segments = refl
    segments_less (t.more_segments w a t.no_segments) = arguments_less w a
    segments_less (t.more_segments w a (t.more_segments v d ss)) = segments_less (t.more_segments v d ss)

    arguments_less : (w : Text) (a : ArgumentsTree) → arguments_stop style.Type w a r ≡ not (arguments_open w a)
    arguments_less w t.no_arguments = name_less (stands_alone w)
    arguments_less w (t.angle d gs e) = refl
    arguments_less w (t.round xs e z) = return_less z

    return_less : (z : ReturnTree) → return_stops z r ≡ not (return_open z)
    return_less t.default = rw (no_other 45 _ refl) refl
    return_less (t.given x) = type_less false x

    bounds_less : (bs : Bounds) → bounds_stop bs r ≡ not (bounds_open bs)
    bounds_less t.no_bounds = refl
    bounds_less (t.more_bounds b t.no_bounds) = bound_less b
    bounds_less (t.more_bounds b (t.more_bounds d bs)) = bounds_less (t.more_bounds d bs)

    bound_less : (b : BoundTree) → bound_stops b r ≡ not (bound_open b)
    bound_less (t.outlives w) = refl
    bound_less (t.a_trait q f l ss e) = rw (no_colon2, and_true (segments_stop style.Type ss r)) (segments_less ss)

-- ---- paths in expressions

module _ (r : List Tok) (h : colon2.at r ≡ false) where
  last_ends : (w : Text) (a : ArgumentsTree) → arguments_fit style.Expr a ≡ true → arguments_stop style.Expr w a r ≡ true
  unfolding turbofish_at
  last_ends w t.no_arguments f = rw (h, or_true (stands_alone w)) refl
  last_ends w (t.angle d gs e) f = refl
  last_ends w (t.round xs e z) f = absurd cc

  -- where not all segments are inside
  segments_end : (n : ℕ) (ss : Segments) → n < count_segments ss → segments_fit n style.Expr ss ≡ true → segments_stop style.Expr ss r ≡ true
  segments_end n t.no_segments k f = refl
  segments_end zero (t.more_segments w a t.no_segments) k f =
      let (b, c) = both_true (is_segment w) _ f in
      let (d, e) = both_true _ _ c in
      let (g, i) = both_true (arguments_fit style.Expr a) _ e in
      last_ends w a g
  segments_end (suc n) (t.more_segments w a t.no_segments) k f = absurd (omega (arith, k))
  segments_end zero (t.more_segments w a (t.more_segments v d ss)) k f =
      let less : 0 < suc (count_segments ss) = omega arith in
      let (b, c) = both_true (is_segment w) _ f in
      let (g, e) = both_true _ _ c in
      let (i, j) = both_true (arguments_fit style.Expr a) _ e in
      let (m, q) = both_true _ (segments_fit zero style.Expr (t.more_segments v d ss)) j in
      segments_end zero (t.more_segments v d ss) less q
  segments_end (suc n) (t.more_segments w a (t.more_segments v d ss)) k f =
      let less : n < suc (count_segments ss) = omega (arith, k) in
      let (b, c) = both_true (is_segment w) _ f in
      let (g, e) = both_true _ _ c in
      let (i, j) = both_true (arguments_fit style.Type a) _ e in
      let (m, q) = both_true _ (segments_fit n style.Expr (t.more_segments v d ss)) j in
      segments_end n (t.more_segments v d ss) less q

some_segments : (ss : Segments) → not (no_more_segments ss) ≡ true → 0 < count_segments ss
some_segments t.no_segments h = absurd cc
some_segments (t.more_segments w a ss) h = omega arith

fewer : (q : QSelfTree) (l : Bool) (k : ℕ) → qself_fits q l k ≡ true → 0 < k → inner_count q k < k
fewer t.no_qself l k e g = g
fewer (t.qself x n false) l k e g =
    let (a, b) = both_true (type_fits true x) (n == 0 && l) e in
    let (c, d) = both_true (n == 0) l b in
    let z : n ≡ 0 = grind (arith, nat_tests, c) in
    let le : nat_le n k ≡ true = grind (arith, nat_tests, z) in
    rw le (omega (arith, z, g))
fewer (t.qself x n true) l k e g =
    let (a, b) = both_true (type_fits true x) (nat_lt 0 n && nat_lt n k) e in
    let (c, d) = both_true (nat_lt 0 n) (nat_lt n k) b in
    let less : n < k = grind (arith, nat_tests, d) in
    let le : nat_le n k ≡ true = grind (arith, nat_tests, less) in
    rw le less

expression_path : (q : QPathTree) (r : List Tok) → qpath_fits style.Expr q ≡ true → colon2.at r ≡ false → path_stops style.Expr q.1 r ≡ true
expression_path (q, z) r f h =
    let ss = t.segments_of z.segments in
    let (a, b) = both_true (not z.trailing) _ f in
    let (c, d) = both_true (not (no_more_segments ss)) _ b in
    let (e, g) = both_true (qself_fits q z.leading (count_segments ss)) (segments_fit (inner_count q (count_segments ss)) style.Expr ss) d in
    rw (segments_end r h (inner_count q (count_segments ss)) ss (fewer q z.leading (count_segments ss) e (some_segments ss c)) g, h) refl

pub parts_end : PartsEnd
parts_end = record {
  types = λ b x r h k. type_calm r (types_calm r h) b x k;
  types_at_less = λ b x r h. type_less r h b x;
  outputs = outputs;
  paths = λ s z r h. let c = types_calm r h in rw (segments_calm r c s (t.segments_of z.segments), c.no_colon2) refl;
  paths_in_expressions = expression_path;
  patterns = patterns;
  closure_args = args;
}
  where
    outputs : (b : Bool) (z : ReturnTree) (r : List Tok) → ends_types r ≡ true → (b && plus.at r) ≡ false → output_stops b z r ≡ true
    outputs b t.default r h k = let c = types_calm r h in rw c.no_arrow refl
    outputs b (t.given x) r h k = type_calm r (types_calm r h) b x k

    patterns : (b : Bool) (z : PatTree) (r : List Tok) → ends_patterns r ≡ true → (b && p.vert.at r) ≡ false → test.pat_stops b z r ≡ true
    patterns b z r h k = rw (single_calm r (patterns_calm r h) z, k) refl

    typed : (z : PatTree) (r : List Tok) → ends_patterns r ≡ true → plus.at r ≡ false → colon.at r ≡ false → test.typed_stops z r ≡ true
    typed (p.typed z x) r h k e = let c = patterns_calm r h in type_calm r c.calm true x k
    typed z r h k e = rw (patterns false z r h refl, e) refl

    args : (z : PatTree) (r : List Tok) → ends_patterns r ≡ true → plus.at r ≡ false → colon.at r ≡ false → test.closure_arg_stops z r ≡ true
    args (p.attributed a xs z) r h k e = typed z r h k e
    args z r h k e = typed z r h k e

-- ---- by the first token

pub sign_first : (c : ℕ) (text : List ℕ) (P : List Tok → Type 0) → ((s : Spacing) (l : List Tok) → P (punct c s ∷ l)) → (r : List Tok) → sign_at (c ∷ text) r ≡ true → P r
unfolding sign_at
sign_first c text P f (punct d spacing.Alone ∷ l) h =
    let (a, b) = both_true (d == c) _ h in
    let e : c ≡ d = grind (arith, nat_tests, a) in
    subst (λ z. P (punct z spacing.Alone ∷ l)) e (f spacing.Alone l)
sign_first c text P f (punct d spacing.Joint ∷ l) h =
    let (a, b) = both_true (d == c) _ h in
    let e : c ≡ d = grind (arith, nat_tests, a) in
    subst (λ z. P (punct z spacing.Joint ∷ l)) e (f spacing.Joint l)
sign_first c text P f _ h = absurd cc

-- none of the four characters
four : (c : ℕ) → begins_more c ≡ false → ((c == 33) ≡ false) × (((c == 45) ≡ false) × (((c == 58) ≡ false) × ((c == 60) ≡ false)))
four c h =
    let (a, b) = either_false (c == 33) _ h in
    let (d, e) = either_false (c == 45) _ b in
    let (f, g) = either_false (c == 58) (c == 60) e in
    (a, (d, (f, g)))

punct_ends : (c : ℕ) (s : Spacing) (l : List Tok) → begins_more c ≡ false → ends_types (punct c s ∷ l) ≡ true
unfolding ends_types sign_at round_at group_at
punct_ends c spacing.Alone l h = let (a, (d, (f, g))) = four c h in rw (a, d, f, g) refl
punct_ends c spacing.Joint l h = let (a, (d, (f, g))) = four c h in rw (a, d, f, g) refl

pattern_ends : (c : ℕ) (s : Spacing) (l : List Tok) → begins_more_patterns c ≡ false → ends_patterns (punct c s ∷ l) ≡ true
unfolding ends_patterns p.bound_at sign_at brace_at group_at
pattern_ends c spacing.Alone l h =
    let (i, j) = either_false (begins_more c) _ h in
    let (a, (d, (f, g))) = four c i in
    let (k, m) = either_false (c == 46) (c == 64) j in
    rw (punct_ends c spacing.Alone l i, d, f, g, k, m) refl
pattern_ends c spacing.Joint l h =
    let (i, j) = either_false (begins_more c) _ h in
    let (a, (d, (f, g))) = four c i in
    let (k, m) = either_false (c == 46) (c == 64) j in
    rw (punct_ends c spacing.Joint l i, d, f, g, k, m) refl

pub types_end_at : TypesEndAt
unfolding ends_types sign_at round_at group_at
types_end_at = record {
  nothing = nothing;
  words = words;
  literals = literals;
  groups = groups;
  signs = λ c text r h k. sign_first c text (λ r. ends_types r ≡ true) (λ s l. punct_ends c s l h) r k;
  minus = λ r h. sign_first 45 [] (λ r. arrow.at r ≡ false → ends_types r ≡ true) minus r h;
  minus_equal = λ r h. sign_first 45 (61 ∷ []) (λ r. sign_at (codes "-=") r ≡ true → ends_types r ≡ true) minus_equal r h h;
  not_equal = λ r h. sign_first 33 (61 ∷ []) (λ r. sign_at (codes "!=") r ≡ true → ends_types r ≡ true) not_equal r h h;
  less_equal = λ r h. sign_first 60 (61 ∷ []) (λ r. sign_at (codes "<=") r ≡ true → ends_types r ≡ true) less_equal r h h;
}
  where
    nothing : ends_types [] ≡ true
    nothing = refl

    words : (w : Text) (r : List Tok) → ends_types (ident w ∷ r) ≡ true
    words w r = refl

    literals : (w : Text) (r : List Tok) → ends_types (literal w ∷ r) ≡ true
    literals w r = refl

    groups : (d : Delimiter) (i : Inside) (r : List Tok) → same_delimiter d del.Parenthesis ≡ false → ends_types (group d i ∷ r) ≡ true
    groups d i r h = rw h refl

    minus : (s : Spacing) (l : List Tok) → arrow.at (punct 45 s ∷ l) ≡ false → ends_types (punct 45 s ∷ l) ≡ true
    minus spacing.Alone l h = refl
    minus spacing.Joint l h = rw h refl

    minus_equal : (s : Spacing) (l : List Tok) → sign_at (codes "-=") (punct 45 s ∷ l) ≡ true → ends_types (punct 45 s ∷ l) ≡ true
    minus_equal spacing.Alone l h = absurd cc
    minus_equal spacing.Joint l h = minus spacing.Joint l (other_sign 61 [] 62 [] l refl h)

    not_equal : (s : Spacing) (l : List Tok) → sign_at (codes "!=") (punct 33 s ∷ l) ≡ true → ends_types (punct 33 s ∷ l) ≡ true
    not_equal spacing.Alone l h = absurd cc
    not_equal spacing.Joint l h = rw h refl

    less_equal : (s : Spacing) (l : List Tok) → sign_at (codes "<=") (punct 60 s ∷ l) ≡ true → ends_types (punct 60 s ∷ l) ≡ true
    less_equal spacing.Alone l h = absurd cc
    less_equal spacing.Joint l h = rw h refl

pub patterns_end_at : PatternsEndAt
unfolding ends_patterns ends_types p.bound_at sign_at brace_at round_at group_at
patterns_end_at = record {
  nothing = nothing;
  words = words;
  signs = λ c text r h k. sign_first c text (λ r. ends_patterns r ≡ true) (λ s l. pattern_ends c s l h) r k;
}
  where
    nothing : ends_patterns [] ≡ true
    nothing = refl

    words : (w : Text) (r : List Tok) → is_segment w ≡ false → is_truth w ≡ false → ends_patterns (ident w ∷ r) ≡ true
    words w r h k = rw (h, k) refl
