-- Flattening: it is done once, and it sees neither marks nor added parentheses.
use Rattle.std.specs.Prelude.{not, ◌&&◌, ◌||◌, if◌then◌else◌}
use Rattle.std.proofs.Common.{◌≡◌, Bool, true, false, List, [], ◌∷◌, ◌++◌, refl, ◌∙◌, ap}
use Rattle.std.proofs.lemmas.Bool.{and_from}
use Rattle.syn_lower_spec.specs.Tree.{AttributeTree}
use Rattle.syn_lower_spec.specs.PatFits.{attributes_outer}
use Rattle.syn_expr_spec.specs.Tree as e
use Rattle.syn_expr_spec.specs.Tree.{Tree, Children, leaf, paren, attributed, prefixed, infixed, postfixed, tail, frame, none, child, attributed_with, outers, inners, has_braces, frame_has_braces, children_with, inner_in, with_inner, outside, prepend, flatten, flatten_children, clear, clear_children}
use Rattle.syn_expr_spec.specs.Same.{FlattenIsIdempotent}
use Rattle.syn_expr_spec.proofs.Attributes.{outers_outer, outer_both, outside_outer, inner_stays, with_inner_plain, with_inner_braces, with_inner_free, is_free, prepend_attributed_with, prepend_free, free_or}

-- these attributes stay before the node
abbrev stand_before : List AttributeTree → Tree → Bool
stand_before ats t = not (has_braces t) || attributes_outer ats

-- no parentheses, and nothing that attributes would be merged with
abbrev mutual
  flat : Tree → Bool
  flat (leaf k) = true
  flat (paren m t) = false
  flat (attributed a more t) = is_free t && (stand_before (a ∷ more) t && flat t)
  flat (prefixed k gs t) = flat_children gs && flat t
  flat (infixed x k y) = flat x && flat y
  flat (postfixed x k) = flat x
  flat (tail b k ks) = flat b && flat_children ks
  flat (frame k ks) = flat_children ks

  flat_children : Children → Bool
  flat_children none = true
  flat_children (child k c t ks) = flat t && flat_children ks

pub left_of : (a b : Bool) → (a && b) ≡ true → a ≡ true
left_of true b p = refl
left_of false b p = p

pub right_of : (a b : Bool) → (a && b) ≡ true → b ≡ true
right_of true b p = p
right_of false b p = cc

-- ---- attributes before a tree without parentheses

outside_stays : (ats : List AttributeTree) (t : Tree) → stand_before ats t ≡ true → outside t ats ≡ ats
outside_stays ats t h = by (has_braces t) refl h
  where
    by : (b : Bool) → has_braces t ≡ b → (not b || attributes_outer ats) ≡ true → outside t ats ≡ ats
    by true g h = outside_outer t ats h
    by false g h = ap (λ (b : Bool). if b then outers ats else ats) g

inside_stays : (ats : List AttributeTree) (t : Tree) → stand_before ats t ≡ true → with_inner (inners ats ++ inner_in t) t ≡ t
inside_stays ats t h = by (has_braces t) refl h
  where
    by : (b : Bool) → has_braces t ≡ b → (not b || attributes_outer ats) ≡ true → with_inner (inners ats ++ inner_in t) t ≡ t
    by true g h = inner_stays ats t h
    by false g h = with_inner_plain (inners ats ++ inner_in t) t g

stays : (a : AttributeTree) (more : List AttributeTree) (t : Tree) → is_free t ≡ true → stand_before (a ∷ more) t ≡ true → prepend (a ∷ more) t ≡ attributed a more t
stays a more t f h =
    prepend_free (a ∷ more) t f ∙ ap (λ l. attributed_with l (with_inner (inners (a ∷ more) ++ inner_in t) t)) (outside_stays (a ∷ more) t h)
    ∙ ap (attributed a more) (inside_stays (a ∷ more) t h)

flat_attributed_with : (ats : List AttributeTree) (t : Tree) → is_free t ≡ true → stand_before ats t ≡ true → flat t ≡ true → flat (attributed_with ats t) ≡ true
flat_attributed_with [] t f s h = h
flat_attributed_with (a ∷ more) t f s h = and_from _ _ f (and_from _ _ s h)

children_flat : (ats : List AttributeTree) (ks : Children) → flat_children ks ≡ true → flat_children (children_with ats ks) ≡ true
children_flat ats none h = refl
children_flat ats (child k (e.braced b) t ks) h = h
children_flat ats (child k (e.opened old) t ks) h = h
children_flat ats (child k e.no_ending t ks) h = and_from (flat t) _ (left_of (flat t) _ h) (children_flat ats ks (right_of (flat t) _ h))
children_flat ats (child k e.comma t ks) h = and_from (flat t) _ (left_of (flat t) _ h) (children_flat ats ks (right_of (flat t) _ h))

inner_flat : (ats : List AttributeTree) (t : Tree) → flat t ≡ true → flat (with_inner ats t) ≡ true
inner_flat ats (leaf k) h = refl
inner_flat ats (frame k ks) h = by (frame_has_braces k)
  where
    by : (b : Bool) → flat_children (if b then children_with ats ks else ks) ≡ true
    by true = children_flat ats ks h
    by false = h
inner_flat ats _ h = h

-- those that are outside stay there, before more of that kind
outside_stands : (ats own : List AttributeTree) (t : Tree) → stand_before own t ≡ true → stand_before (outside t ats ++ own) t ≡ true
outside_stands ats own t h = by (has_braces t) h
  where
    by : (b : Bool) → (not b || attributes_outer own) ≡ true → (not b || attributes_outer ((if b then outers ats else ats) ++ own)) ≡ true
    by true h = outer_both (outers ats) own (outers_outer ats) h
    by false h = refl

flat_put : (ats own : List AttributeTree) (t : Tree) → is_free t ≡ true → stand_before own t ≡ true → flat t ≡ true → flat (prepend ats (attributed_with own t)) ≡ true
flat_put ats own t f s h =
    let u = with_inner (inners ats ++ inner_in t) t in
    ap flat (prepend_attributed_with ats own t f)
    ∙ flat_attributed_with (outside t ats ++ own) u (with_inner_free (inners ats ++ inner_in t) t ∙ f)
    (ap (λ (b : Bool). not b || attributes_outer (outside t ats ++ own)) (with_inner_braces (inners ats ++ inner_in t) t) ∙ outside_stands ats own t s)
    (inner_flat (inners ats ++ inner_in t) t h)

none_stand : (b : Bool) → (not b || true) ≡ true
none_stand true = refl
none_stand false = refl

flat_behind : (a : AttributeTree) (more : List AttributeTree) (t : Tree) → flat t ≡ true → flat (prepend (a ∷ more) t) ≡ true
flat_behind a more t h =
    free_or {A = λ t. flat t ≡ true → flat (prepend (a ∷ more) t) ≡ true} (λ t f h. flat_put (a ∷ more) [] t f (none_stand (has_braces t)) h)
    (λ b bs u h. flat_put (a ∷ more) (b ∷ bs) u (left_of (is_free u) _ h) (left_of (stand_before (b ∷ bs) u) _ (right_of (is_free u) _ h))
    (right_of (stand_before (b ∷ bs) u) _ (right_of (is_free u) _ h))) (λ ts h. refl) t h

mutual
  flattened : (t : Tree) → flat (flatten t) ≡ true
  flattened (leaf k) = refl
  flattened (paren m t) = flattened t
  flattened (attributed a more t) = flat_behind a more (flatten t) (flattened t)
  flattened (prefixed k gs t) = and_from _ _ (flattened_children gs) (flattened t)
  flattened (infixed x k y) = and_from _ _ (flattened x) (flattened y)
  flattened (postfixed x k) = flattened x
  flattened (tail b k ks) = and_from _ _ (flattened b) (flattened_children ks)
  flattened (frame k ks) = flattened_children ks

  flattened_children : (ks : Children) → flat_children (flatten_children ks) ≡ true
  flattened_children none = refl
  flattened_children (child k c t ks) = and_from _ _ (flattened t) (flattened_children ks)

mutual
  flat_stays : (t : Tree) → flat t ≡ true → flatten t ≡ t
  flat_stays (leaf k) h = refl
  flat_stays (paren m t) h = cc
  flat_stays (attributed a more t) h =
      let s = right_of (is_free t) _ h in
      ap (prepend (a ∷ more)) (flat_stays t (right_of (stand_before (a ∷ more) t) _ s)) ∙ stays a more t (left_of (is_free t) _ h) (left_of (stand_before (a ∷ more) t) _ s)
  flat_stays (prefixed k gs t) h = let g = children_stay gs (left_of _ _ h) in let x = flat_stays t (right_of (flat_children gs) _ h) in cc
  flat_stays (infixed x k y) h = let u = flat_stays x (left_of _ _ h) in let v = flat_stays y (right_of (flat x) _ h) in cc
  flat_stays (postfixed x k) h = ap (λ u. postfixed u k) (flat_stays x h)
  flat_stays (tail b k ks) h = let u = flat_stays b (left_of _ _ h) in let v = children_stay ks (right_of (flat b) _ h) in cc
  flat_stays (frame k ks) h = ap (frame k) (children_stay ks h)

  children_stay : (ks : Children) → flat_children ks ≡ true → flatten_children ks ≡ ks
  children_stay none h = refl
  children_stay (child k c t ks) h = let u = flat_stays t (left_of _ _ h) in let v = children_stay ks (right_of (flat t) _ h) in cc

pub flatten_is_idempotent : FlattenIsIdempotent
flatten_is_idempotent t = flat_stays (flatten t) (flattened t)

-- ---- the marks

mutual
  pub flatten_clear : (t : Tree) → flatten (clear t) ≡ flatten t
  flatten_clear (leaf k) = refl
  flatten_clear (paren m t) = flatten_clear t
  flatten_clear (attributed a more t) = ap (prepend (a ∷ more)) (flatten_clear t)
  flatten_clear (prefixed k gs t) = let g = flatten_clear_children gs in let x = flatten_clear t in cc
  flatten_clear (infixed x k y) = let u = flatten_clear x in let v = flatten_clear y in cc
  flatten_clear (postfixed x k) = ap (λ u. postfixed u k) (flatten_clear x)
  flatten_clear (tail b k ks) = let u = flatten_clear b in let v = flatten_clear_children ks in cc
  flatten_clear (frame k ks) = ap (frame k) (flatten_clear_children ks)

  pub flatten_clear_children : (ks : Children) → flatten_children (clear_children ks) ≡ flatten_children ks
  flatten_clear_children none = refl
  flatten_clear_children (child k c t ks) = let u = flatten_clear t in let v = flatten_clear_children ks in cc
