-- Paths that are read in two parts.
use Rattle.std.proofs.Common.{◌≡◌, ℕ, Bool, true, false, ◌&&◌, List, [], ◌∷◌, ◌++◌, map, length, Option, Some, None, refl, ap}
use Rattle.std.proofs.lemmas.List.{map-append}
use Rattle.syn_tokens.specs.Tok.{Tok}
use Rattle.syn_lower_spec.specs.Tree as t
use Rattle.syn_lower_spec.specs.Tree.{TypeTree, SegmentTree}
use Rattle.syn_lower_spec.specs.Form.{Outcome, and_then, extend_more}
use Rattle.syn_lower.specs.Reads.{inside_of}
use Rattle.syn_lower_spec.specs.Part.{QPathTree, to_qualified, segments_bare, has_none}

pub segments_bare-append : (xs ys : List SegmentTree) → segments_bare (xs ++ ys) ≡ (segments_bare xs && segments_bare ys)
segments_bare-append [] ys = refl
segments_bare-append (x ∷ xs) ys = by (has_none x.arguments) (segments_bare-append xs ys)
  where
    by : (b : Bool) → segments_bare (xs ++ ys) ≡ (segments_bare xs && segments_bare ys) → (b && segments_bare (xs ++ ys)) ≡ ((b && segments_bare xs) && segments_bare ys)
    by true h = h
    by false h = refl

pub map_length : {A B : Type 0} (f : A → B) (xs : List A) → length (map f xs) ≡ length xs
map_length f [] = refl
map_length f (x ∷ xs) = let e = map_length f xs in cc

-- the segments after `>`, read onto those before it
pub joined_on : (x : TypeTree) (a : Option (Bool × List SegmentTree)) (i : (ℕ × Bool) × (Bool × List SegmentTree)) (o : Outcome (List SegmentTree)) (ss : List SegmentTree) (n : List Tok)
    → i ≡ inside_of a
    → extend_more i.1.1 o ≡ Some (ss, n)
    → and_then {B = QPathTree} o (λ s m. Some (to_qualified ((x, a), s), m)) ≡ Some ((t.qself x i.0.0 i.0.1, record { leading = i.1.0; segments = ss; trailing = false }), n)
joined_on x a i None ss n e h = absurd cc
joined_on x None i (Some q) ss n e h =
    rw e (ap (λ (o : Outcome (List SegmentTree)). and_then {B = QPathTree} o (λ s m. Some ((t.qself x 0 false, record { leading = true; segments = s; trailing = false }), m))) (rw e at h))
joined_on x (Some p) i (Some q) ss n e h =
    rw e (ap (λ (o : Outcome (List SegmentTree)). and_then {B = QPathTree} o (λ s m. Some ((t.qself x (length p.1) true, record { leading = p.0; segments = s; trailing = false }), m))) (rw e at h))

pub refused : {P : Type 0} (inner : List SegmentTree) (o : Outcome (List SegmentTree)) → (P → extend_more inner o ≡ None) → P → o ≡ None
refused inner None h p = refl
refused inner (Some q) h p = absurd (let e = h p in cc)

pub ruleset bares = (segments_bare-append, map-append)

pub ruleset lengths = (map_length)

pub ruleset joins = (joined_on)
