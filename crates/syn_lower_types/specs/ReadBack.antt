-- Parts that are read back: the tests of paths as code goes through them.
use Rattle.std.specs.Prelude.{Bool, not, ◌&&◌, ◌||◌, ◌==◌, ◌-◌, ℕ, List, [], ◌∷◌, length, Option, Some, None, is_some}
use Rattle.syn_lower_spec.specs.declared.label.PathStyle.{PathStyle}
use Rattle.syn_lower_spec.specs.declared.label.PathStyle.TheVariants as style
use Rattle.syn_lower_spec.specs.Tree as t
use Rattle.syn_lower_spec.specs.Tree.{SegmentTree, PathTree}
use Rattle.syn_lower_spec.specs.Own.{no_more_segments, colon2_before}
use Rattle.syn_lower_spec.specs.Fits.{style_at, position_fits, arguments_stop, segments_fit, segment_fits}
use Rattle.syn_lower_types.specs.declared.path.QSelfOf.{QSelfOf}

-- a segment that another follows, where n are inside of `<T as ..>`: it doesn't go on at `::`, as an output that ends in a
-- path does; after the last one inside stands `>`
abbrev pub inner_fits : ℕ → PathStyle → SegmentTree → Bool
inner_fits n s x = segment_fits (style_at n s) x && (n == 1 || arguments_stop style.Type [] x.arguments (colon2_before []))

-- segments with puncts after them, and the last one
abbrev pub rows_fit : {A P : Type 0} → (A → SegmentTree) → ℕ → PathStyle → List (A × P) → A → Bool
rows_fit f n s [] y = segment_fits (style_at n s) (f y)
rows_fit f n s (q ∷ qs) y = inner_fits n s (f q.0) && rows_fit f (n - 1) s qs y

-- a path of which n segments are inside of `<T as ..>`
abbrev pub path_fits_inside : ℕ → PathStyle → PathTree → Bool
path_fits_inside n s p = not p.trailing && (not (no_more_segments (t.segments_of p.segments)) && segments_fit n s (t.segments_of p.segments))

-- with the type that it is qualified by, if there is one
abbrev pub qpath_fits_by : {T : Type 0} → (T → Bool) → PathStyle → Option (QSelfOf T) → PathTree → Bool
qpath_fits_by f s None p = path_fits_inside 0 s p
qpath_fits_by f s (Some q) p = position_fits (is_some q.as_token) q.position p.leading (length p.segments) && (f q.ty.value && path_fits_inside q.position s p)
