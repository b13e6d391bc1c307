-- What is after a part: tokens that go on with nothing, and what the tests of it look at.
use Rattle.std.proofs.Common.{◌≡◌, Bool, true, false, ◌&&◌, ◌||◌, List, [], ◌∷◌, refl, codes}
use Rattle.std.proofs.Math.Bool.{and-false}
use Rattle.syn_tokens.specs.Tok.{Tok, ident}
use Rattle.syn_tokens.specs.Front.{group_at}
use Rattle.syn_lower_spec.specs.declared.label.PathStyle.{PathStyle}
use Rattle.syn_lower_spec.specs.declared.label.PathStyle.TheVariants as style
use Rattle.syn_lower_spec.specs.Text.{Text, stands_alone}
use Rattle.syn_lower_spec.specs.Mark.{sign_at, round_at, colon2, arrow, plus, not_ne}
use Rattle.syn_lower_spec.specs.Part.{angle_at, turbofish_at}
use Rattle.syn_lower_spec.specs.Own.{alone, colon2_before}
use Rattle.syn_lower_spec.specs.Fits.{name_stops, type_stops, mac_stops, segments_stop, arguments_stop, return_stops, bounds_stop, bound_stops, bare_segments}
use Rattle.syn_lower_spec.specs.Tree as t
use Rattle.syn_lower_spec.specs.Tree.{TypeTree, Segments, ArgumentsTree, ReturnTree, Bounds, BoundTree, QSelfTree}

-- l begins with nothing by which a type, a path or an output goes on, a `+` aside
pub record Calm (l : List Tok) : Type 0 where
  pub no_angle : angle_at l ≡ false
  pub no_round : round_at l ≡ false
  pub no_colon2 : colon2.at l ≡ false
  pub no_arrow : arrow.at l ≡ false
  pub no_bang : not_ne.at l ≡ false
  pub no_turbofish : turbofish_at l ≡ false

pub nil_calm : Calm []
unfolding angle_at turbofish_at round_at sign_at group_at
nil_calm = record { no_angle = refl; no_round = refl; no_colon2 = refl; no_arrow = refl; no_bang = refl; no_turbofish = refl }

pub comma_calm : (l : List Tok) → Calm (alone 44 ∷ l)
unfolding angle_at turbofish_at round_at sign_at group_at
comma_calm l = record { no_angle = refl; no_round = refl; no_colon2 = refl; no_arrow = refl; no_bang = refl; no_turbofish = refl }

pub gt_calm : (l : List Tok) → Calm (alone 62 ∷ l)
unfolding angle_at turbofish_at round_at sign_at group_at
gt_calm l = record { no_angle = refl; no_round = refl; no_colon2 = refl; no_arrow = refl; no_bang = refl; no_turbofish = refl }

pub semi_calm : (l : List Tok) → Calm (alone 59 ∷ l)
unfolding angle_at turbofish_at round_at sign_at group_at
semi_calm l = record { no_angle = refl; no_round = refl; no_colon2 = refl; no_arrow = refl; no_bang = refl; no_turbofish = refl }

pub plus_calm : (l : List Tok) → Calm (alone 43 ∷ l)
unfolding angle_at turbofish_at round_at sign_at group_at
plus_calm l = record { no_angle = refl; no_round = refl; no_colon2 = refl; no_arrow = refl; no_bang = refl; no_turbofish = refl }

pub as_calm : (l : List Tok) → Calm (ident (codes "as") ∷ l)
unfolding angle_at turbofish_at round_at sign_at group_at
as_calm l = record { no_angle = refl; no_round = refl; no_colon2 = refl; no_arrow = refl; no_bang = refl; no_turbofish = refl }

pub or_true : (a : Bool) → (a || true) ≡ true
or_true true = refl
or_true false = refl

module _ (r : List Tok) (c : Calm r) where
  name_calm : (s : PathStyle) (w : Text) → name_stops s w r ≡ true
  name_calm style.Mod w = refl
  name_calm style.Expr w = rw (c.no_turbofish, or_true (stands_alone w)) refl
  name_calm style.Type w = rw (c.no_angle, c.no_round, or_true (stands_alone w)) refl

  mac_calm : (q : QSelfTree) (ss : Segments) → mac_stops q ss r ≡ true
  mac_calm t.no_qself ss = rw (c.no_bang, and-false (bare_segments ss)) refl
  mac_calm (t.qself x n a) ss = refl

  mutual
    pub type_calm : (b : Bool) (x : TypeTree) → (b && plus.at r) ≡ false → type_stops b x r ≡ true
    type_calm b (t.path q l ss e) p = rw (segments_calm style.Type ss, c.no_colon2, mac_calm q ss) refl
    type_calm b (t.reference a m x) p = type_calm false x refl
    type_calm b (t.ptr m x) p = type_calm false x refl
    type_calm b (t.fn_ptr f u a xs e o) p = return_calm o
    type_calm b (t.impl_trait bs e) p = rw (bounds_calm bs, p) refl
    type_calm b (t.trait_object bs e) p = rw (bounds_calm bs, p) refl
    type_calm b _ p = refl

    pub segments_calm : (s : PathStyle) (ss : Segments) → segments_stop s ss r ≡ true
    segments_calm s t.no_segments = refl
    segments_calm s (t.more_segments w a t.no_segments) = arguments_calm s w a
    segments_calm s (t.more_segments w a (t.more_segments v d ss)) = segments_calm s (t.more_segments v d ss)

    pub arguments_calm : (s : PathStyle) (w : Text) (a : ArgumentsTree) → arguments_stop s w a r ≡ true
    arguments_calm s w t.no_arguments = name_calm s w
    arguments_calm s w (t.angle d gs e) = refl
    arguments_calm s w (t.round xs e o) = return_calm o

    pub return_calm : (o : ReturnTree) → return_stops o r ≡ true
    return_calm t.default = rw c.no_arrow refl
    return_calm (t.given x) = type_calm false x refl

    pub bounds_calm : (bs : Bounds) → bounds_stop bs r ≡ true
    bounds_calm t.no_bounds = refl
    bounds_calm (t.more_bounds b t.no_bounds) = bound_calm b
    bounds_calm (t.more_bounds b (t.more_bounds d bs)) = bounds_calm (t.more_bounds d bs)

    pub bound_calm : (b : BoundTree) → bound_stops b r ≡ true
    bound_calm (t.outlives w) = refl
    bound_calm (t.a_trait q f l ss e) = rw (segments_calm style.Type ss, c.no_colon2) refl

-- ---- the tests look at the front alone

pub record SameFront (l m : List Tok) : Type 0 where
  pub angle : angle_at l ≡ angle_at m
  pub round : round_at l ≡ round_at m
  pub colon2s : colon2.at l ≡ colon2.at m
  pub arrows : arrow.at l ≡ arrow.at m
  pub pluses : plus.at l ≡ plus.at m
  pub bangs : not_ne.at l ≡ not_ne.at m
  pub turbofish : turbofish_at l ≡ turbofish_at m

pub colon2_same : (w : Text) (l m : List Tok) → SameFront (colon2_before (ident w ∷ l)) (colon2_before (ident w ∷ m))
unfolding angle_at turbofish_at round_at sign_at group_at
colon2_same w l m = record { angle = refl; round = refl; colon2s = refl; arrows = refl; pluses = refl; bangs = refl; turbofish = refl }

module _ (l m : List Tok) (f : SameFront l m) where
  name_front : (s : PathStyle) (w : Text) → name_stops s w l ≡ name_stops s w m
  name_front style.Mod w = refl
  name_front style.Expr w = rw f.turbofish refl
  name_front style.Type w = rw (f.angle, f.round) refl

  mac_front : (q : QSelfTree) (ss : Segments) → mac_stops q ss l ≡ mac_stops q ss m
  mac_front t.no_qself ss = rw f.bangs refl
  mac_front (t.qself x n a) ss = refl

  mutual
    pub type_front : (b : Bool) (x : TypeTree) → type_stops b x l ≡ type_stops b x m
    type_front b (t.path q d ss e) = rw (segments_front style.Type ss, f.colon2s, mac_front q ss) refl
    type_front b (t.reference a u x) = type_front false x
    type_front b (t.ptr u x) = type_front false x
    type_front b (t.fn_ptr g u a xs e o) = return_front o
    type_front b (t.impl_trait bs e) = rw (bounds_front bs, f.pluses) refl
    type_front b (t.trait_object bs e) = rw (bounds_front bs, f.pluses) refl
    type_front b _ = refl

    pub segments_front : (s : PathStyle) (ss : Segments) → segments_stop s ss l ≡ segments_stop s ss m
    segments_front s t.no_segments = refl
    segments_front s (t.more_segments w a t.no_segments) = arguments_front s w a
    segments_front s (t.more_segments w a (t.more_segments v d ss)) = segments_front s (t.more_segments v d ss)

    pub arguments_front : (s : PathStyle) (w : Text) (a : ArgumentsTree) → arguments_stop s w a l ≡ arguments_stop s w a m
    arguments_front s w t.no_arguments = name_front s w
    arguments_front s w (t.angle d gs e) = refl
    arguments_front s w (t.round xs e o) = return_front o

    pub return_front : (o : ReturnTree) → return_stops o l ≡ return_stops o m
    return_front t.default = rw f.arrows refl
    return_front (t.given x) = type_front false x

    pub bounds_front : (bs : Bounds) → bounds_stop bs l ≡ bounds_stop bs m
    bounds_front t.no_bounds = refl
    bounds_front (t.more_bounds b t.no_bounds) = bound_front b
    bounds_front (t.more_bounds b (t.more_bounds d bs)) = bounds_front (t.more_bounds d bs)

    pub bound_front : (b : BoundTree) → bound_stops b l ≡ bound_stops b m
    bound_front (t.outlives w) = refl
    bound_front (t.a_trait q g d ss e) = rw (segments_front style.Type ss, f.colon2s) refl
