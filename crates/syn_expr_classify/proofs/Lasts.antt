-- The right end of a list is that of the last in it.
use Rattle.std.proofs.Common.{◌≡◌, ◌≤◌, ◌<◌, ℕ, Bool, true, false, not, ◌&&◌, List, [], ◌∷◌, ◌++◌, length, suc, refl, ap, nat_le, arith}
use Rattle.std.proofs.lemmas.Bool.Decides.{nat_tests}
use Rattle.std.proofs.lemmas.List.{map-append}
use Rattle.std.proofs.Math.Bool.{and-false}
use Rattle.syn_lower_spec.specs.Own.{count_segments}
use Rattle.syn_lower_spec.specs.Tree as t
use Rattle.syn_lower_spec.specs.Tree.{TypeTree, SegmentTree, BoundTree}
use Rattle.syn_expr_spec.specs.Query.{segments_unparameterized, arguments_unparameterized, bounds_unparameterized, bound_unparameterized, segments_brace, arguments_brace, bounds_brace, bound_brace, type_brace}

-- a name without arguments

pub last_segment_name : (xs : List SegmentTree) (x : SegmentTree) → segments_unparameterized (t.segments_of (xs ++ x ∷ [])) ≡ arguments_unparameterized x.arguments
last_segment_name [] x = refl
last_segment_name (y ∷ []) x = refl
last_segment_name (y ∷ z ∷ xs) x = last_segment_name (z ∷ xs) x

pub last_bound_name : (xs : List BoundTree) (x : BoundTree) → bounds_unparameterized (t.bounds_of (xs ++ x ∷ [])) ≡ bound_unparameterized x
last_bound_name [] x = refl
last_bound_name (y ∷ []) x = refl
last_bound_name (y ∷ z ∷ xs) x = last_bound_name (z ∷ xs) x

-- braces

pub last_segment_brace : (b c : Bool) (xs : List SegmentTree) (x : SegmentTree) → segments_brace b (t.segments_of (xs ++ x ∷ [])) c ≡ (not c && arguments_brace x.arguments)
last_segment_brace b c [] x = refl
last_segment_brace b c (y ∷ []) x = refl
last_segment_brace b c (y ∷ z ∷ xs) x = last_segment_brace false c (z ∷ xs) x

pub last_bound_brace : (c : Bool) (xs : List BoundTree) (x : BoundTree) → bounds_brace (t.bounds_of (xs ++ x ∷ [])) c ≡ (not c && bound_brace x)
last_bound_brace c [] x = refl
last_bound_brace c (y ∷ []) x = refl
last_bound_brace c (y ∷ z ∷ xs) x = last_bound_brace c (z ∷ xs) x

pub count_segments_of : (xs : List SegmentTree) → count_segments (t.segments_of xs) ≡ length xs
count_segments_of [] = refl
count_segments_of (x ∷ xs) = ap suc (count_segments_of xs)

pub ruleset names = (map-append, last_segment_name, last_bound_name)

pub ruleset braces = (map-append, last_segment_brace, last_bound_brace)

-- a path that a type qualifies: all of its segments come before the `>`, or some after it

pub inside_brace : (b l a c : Bool) (x : TypeTree) (n : ℕ) (xs : List SegmentTree) → length xs ≤ n → false ≡ type_brace b (t.path (t.qself x n a) l (t.segments_of xs) c)
inside_brace b l a c x n xs h =
    let k = count_segments_of xs in
    let le : nat_le (length xs) n ≡ true = grind (arith, nat_tests, h) in
    rw (k, le) refl

pub outside_brace : (b l a c : Bool) (x : TypeTree) (n : ℕ) (xs : List SegmentTree) → n < length xs → segments_brace false (t.segments_of xs) c ≡ type_brace b (t.path (t.qself x n a) l (t.segments_of xs) c)
outside_brace b l a c x n xs h =
    let k = count_segments_of xs in
    let gt : nat_le (length xs) n ≡ false = grind (arith, nat_tests, h) in
    rw (k, gt, and-false b) refl
