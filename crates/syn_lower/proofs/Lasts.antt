-- The right end of a list is that of the last in it.
use Rattle.std.proofs.Common.{◌≡◌, List, [], ◌∷◌, ◌++◌, refl}
use Rattle.std.proofs.lemmas.List.{map-append}
use Rattle.syn_lower_spec.specs.Ends.{segments_open, arguments_open, bounds_open, bound_open}
use Rattle.syn_lower_spec.specs.Tree as t
use Rattle.syn_lower_spec.specs.Tree.{SegmentTree, BoundTree}
use Rattle.syn_lower.specs.Ends.{segments_depth, arguments_depth, bounds_depth, bound_depth}

pub last_segment_open : (xs : List SegmentTree) (x : SegmentTree) → segments_open (t.segments_of (xs ++ x ∷ [])) ≡ arguments_open x.ident x.arguments
last_segment_open [] x = refl
last_segment_open (y ∷ []) x = refl
last_segment_open (y ∷ z ∷ xs) x = last_segment_open (z ∷ xs) x

pub last_segment_depth : (xs : List SegmentTree) (x : SegmentTree) → segments_depth (t.segments_of (xs ++ x ∷ [])) ≡ arguments_depth x.arguments
last_segment_depth [] x = refl
last_segment_depth (y ∷ []) x = refl
last_segment_depth (y ∷ z ∷ xs) x = last_segment_depth (z ∷ xs) x

pub last_bound_open : (xs : List BoundTree) (x : BoundTree) → bounds_open (t.bounds_of (xs ++ x ∷ [])) ≡ bound_open x
last_bound_open [] x = refl
last_bound_open (y ∷ []) x = refl
last_bound_open (y ∷ z ∷ xs) x = last_bound_open (z ∷ xs) x

pub last_bound_depth : (xs : List BoundTree) (x : BoundTree) → bounds_depth (t.bounds_of (xs ++ x ∷ [])) ≡ bound_depth x
last_bound_depth [] x = refl
last_bound_depth (y ∷ []) x = refl
last_bound_depth (y ∷ z ∷ xs) x = last_bound_depth (z ∷ xs) x

pub ruleset lasts = (map-append, last_segment_open, last_segment_depth, last_bound_open, last_bound_depth)
