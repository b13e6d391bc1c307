-- Attributes before a tree and in its braces: the outer ones and the inner ones, and what is put before others.
use Rattle.std.specs.Prelude.{not, ◌&&◌, if◌then◌else◌}
use Rattle.std.proofs.Common.{◌≡◌, Bool, true, false, List, [], ◌∷◌, ◌++◌, refl, sym, ap, ◌∙◌}
use Rattle.std.proofs.lemmas.List.{append-nil, append_assoc}
use Rattle.std.proofs.lemmas.Bool.{and_parts, and_from}
use Rattle.syn_tokens.specs.Tok.{Tok}
use Rattle.syn_lower_spec.specs.Tree.{AttributeTree}
use Rattle.syn_lower_spec.specs.Own.{attribute_own}
use Rattle.syn_lower_spec.specs.PatOwn.{attributes_own}
use Rattle.syn_lower_spec.specs.PatFits.{attributes_outer}
use Rattle.syn_expr_spec.specs.Tree as e
use Rattle.syn_expr_spec.specs.Tree.{Tree, Children, Leaf, leaf, attributed, frame, child, attributed_with, outers, inners, has_braces, frame_has_braces, children_inner, children_with, inner_in, with_inner, outside, prepend}
use Rattle.syn_expr_spec.specs.Stands.{is_verbatim_leaf}
use Rattle.syn_expr_spec.specs.WellFormed.{attributes_inner}

-- ---- outer ones and inner ones

pub outers_are : (ats : List AttributeTree) → attributes_outer ats ≡ true → outers ats ≡ ats
outers_are [] h = refl
outers_are (a ∷ more) h = by a.inner h (λ g. outers_are more g)
  where
    by : (b : Bool) → not b && attributes_outer more ≡ true → (attributes_outer more ≡ true → outers more ≡ more) → (if b then outers more else a ∷ outers more) ≡ a ∷ more
    by true h f = absurd cc
    by false h f = ap (λ l. a ∷ l) (f h)

pub inners_are : (ats : List AttributeTree) → attributes_inner ats ≡ true → inners ats ≡ ats
inners_are [] h = refl
inners_are (a ∷ more) h = by a.inner h (λ g. inners_are more g)
  where
    by : (b : Bool) → b && attributes_inner more ≡ true → (attributes_inner more ≡ true → inners more ≡ more) → (if b then a ∷ inners more else inners more) ≡ a ∷ more
    by true h f = ap (λ l. a ∷ l) (f h)
    by false h f = absurd cc

pub inners_none : (ats : List AttributeTree) → attributes_outer ats ≡ true → inners ats ≡ []
inners_none [] h = refl
inners_none (a ∷ more) h = by a.inner h (λ g. inners_none more g)
  where
    by : (b : Bool) → not b && attributes_outer more ≡ true → (attributes_outer more ≡ true → inners more ≡ []) → (if b then a ∷ inners more else inners more) ≡ []
    by true h f = absurd cc
    by false h f = f h

pub outers_outer : (ats : List AttributeTree) → attributes_outer (outers ats) ≡ true
outers_outer [] = refl
outers_outer (a ∷ more) = by a.inner refl (outers_outer more)
  where
    by : (b : Bool) → a.inner ≡ b → attributes_outer (outers more) ≡ true → attributes_outer (if b then outers more else a ∷ outers more) ≡ true
    by true h f = f
    by false h f = rw h f

pub outers_append : (xs ys : List AttributeTree) → outers (xs ++ ys) ≡ outers xs ++ outers ys
outers_append [] ys = refl
outers_append (a ∷ more) ys = by a.inner (outers_append more ys)
  where
    by : (b : Bool) → outers (more ++ ys) ≡ outers more ++ outers ys
        → (if b then outers (more ++ ys) else a ∷ outers (more ++ ys)) ≡ (if b then outers more else a ∷ outers more) ++ outers ys
    by true f = f
    by false f = ap (λ l. a ∷ l) f

pub inners_append : (xs ys : List AttributeTree) → inners (xs ++ ys) ≡ inners xs ++ inners ys
inners_append [] ys = refl
inners_append (a ∷ more) ys = by a.inner (inners_append more ys)
  where
    by : (b : Bool) → inners (more ++ ys) ≡ inners more ++ inners ys
        → (if b then a ∷ inners (more ++ ys) else inners (more ++ ys)) ≡ (if b then a ∷ inners more else inners more) ++ inners ys
    by true f = ap (λ l. a ∷ l) f
    by false f = f

pub outer_both : (xs ys : List AttributeTree) → attributes_outer xs ≡ true → attributes_outer ys ≡ true → attributes_outer (xs ++ ys) ≡ true
outer_both [] ys h k = k
outer_both (a ∷ more) ys h k =
    let p = and_parts (not a.inner) (attributes_outer more) h in and_from (not a.inner) (attributes_outer (more ++ ys)) p.0 (outer_both more ys p.1 k)

-- ---- in braces

children_same : (ks : Children) → children_with (children_inner ks) ks ≡ ks
children_same (child k e.no_ending t ks) = ap (child k e.no_ending t) (children_same ks)
children_same (child k e.comma t ks) = ap (child k e.comma t) (children_same ks)
children_same _ = refl

frame_same : (b : Bool) (ks : Children) → (if b then children_with (if b then children_inner ks else []) ks else ks) ≡ ks
frame_same true ks = children_same ks
frame_same false ks = refl

leaf_same : (k : Leaf) → with_inner (inner_in (leaf k)) (leaf k) ≡ leaf k
leaf_same (e.block label b) = refl
leaf_same _ = refl

-- with those that it has
pub with_inner_same : (t : Tree) → with_inner (inner_in t) t ≡ t
with_inner_same (leaf k) = leaf_same k
with_inner_same (frame k ks) = ap (frame k) (frame_same (frame_has_braces k) ks)
with_inner_same _ = refl

-- without braces there are none to put there
children_twice : (xs ys : List AttributeTree) (ks : Children) → children_with xs (children_with ys ks) ≡ children_with xs ks
children_twice xs ys (child k e.no_ending t ks) = ap (child k e.no_ending t) (children_twice xs ys ks)
children_twice xs ys (child k e.comma t ks) = ap (child k e.comma t) (children_twice xs ys ks)
children_twice xs ys _ = refl

frame_twice : (b : Bool) (xs ys : List AttributeTree) (ks : Children)
    → (if b then children_with xs (if b then children_with ys ks else ks) else (if b then children_with ys ks else ks)) ≡ (if b then children_with xs ks else ks)
frame_twice true xs ys ks = children_twice xs ys ks
frame_twice false xs ys ks = refl

leaf_twice : (xs ys : List AttributeTree) (k : Leaf) → with_inner xs (with_inner ys (leaf k)) ≡ with_inner xs (leaf k)
leaf_twice xs ys (e.block label b) = refl
leaf_twice xs ys _ = refl

-- the last ones stay
pub with_inner_twice : (xs ys : List AttributeTree) (t : Tree) → with_inner xs (with_inner ys t) ≡ with_inner xs t
with_inner_twice xs ys (leaf k) = leaf_twice xs ys k
with_inner_twice xs ys (frame k ks) = ap (frame k) (frame_twice (frame_has_braces k) xs ys ks)
with_inner_twice xs ys _ = refl

children_grown : (xs ys : List AttributeTree) (ks : Children) → children_with (xs ++ children_inner (children_with ys ks)) ks ≡ children_with (xs ++ ys) ks
children_grown xs ys (child k e.no_ending t ks) = ap (child k e.no_ending t) (children_grown xs ys ks)
children_grown xs ys (child k e.comma t ks) = ap (child k e.comma t) (children_grown xs ys ks)
children_grown xs ys _ = refl

frame_grown : (b : Bool) (xs ys : List AttributeTree) (ks : Children)
    → (if b then children_with (xs ++ (if b then children_inner (if b then children_with ys ks else ks) else [])) ks else ks) ≡ (if b then children_with (xs ++ ys) ks else ks)
frame_grown true xs ys ks = children_grown xs ys ks
frame_grown false xs ys ks = refl

leaf_grown : (xs ys : List AttributeTree) (k : Leaf) → with_inner (xs ++ inner_in (with_inner ys (leaf k))) (leaf k) ≡ with_inner (xs ++ ys) (leaf k)
leaf_grown xs ys (e.block label b) = refl
leaf_grown xs ys _ = refl

-- before those that were put there
with_inner_grown : (xs ys : List AttributeTree) (t : Tree) → with_inner (xs ++ inner_in (with_inner ys t)) t ≡ with_inner (xs ++ ys) t
with_inner_grown xs ys (leaf k) = leaf_grown xs ys k
with_inner_grown xs ys (frame k ks) = ap (frame k) (frame_grown (frame_has_braces k) xs ys ks)
with_inner_grown xs ys _ = refl

leaf_braces : (ats : List AttributeTree) (k : Leaf) → has_braces (with_inner ats (leaf k)) ≡ has_braces (leaf k)
leaf_braces ats (e.block label b) = refl
leaf_braces ats _ = refl

-- it is the same kind
pub with_inner_braces : (ats : List AttributeTree) (t : Tree) → has_braces (with_inner ats t) ≡ has_braces t
with_inner_braces ats (leaf k) = leaf_braces ats k
with_inner_braces ats _ = refl

leaf_plain : (ats : List AttributeTree) (k : Leaf) → has_braces (leaf k) ≡ false → with_inner ats (leaf k) ≡ leaf k
leaf_plain ats (e.block label b) h = cc
leaf_plain ats (e.loop_expr label b) h = cc
leaf_plain ats (e.unsafe_block b) h = cc
leaf_plain ats (e.const_block b) h = cc
leaf_plain ats _ h = refl

-- what has no braces stays
pub with_inner_plain : (ats : List AttributeTree) (t : Tree) → has_braces t ≡ false → with_inner ats t ≡ t
with_inner_plain ats (leaf k) h = leaf_plain ats k h
with_inner_plain ats (frame k ks) h = rw h refl
with_inner_plain ats _ h = refl

-- ---- before the node

by_braces : (b : Bool) (ats : List AttributeTree) → attributes_outer ats ≡ true → (if b then outers ats else ats) ≡ ats
by_braces true ats h = outers_are ats h
by_braces false ats h = refl

pub outside_outer : (t : Tree) (ats : List AttributeTree) → attributes_outer ats ≡ true → outside t ats ≡ ats
outside_outer t ats h = by_braces (has_braces t) ats h

pub outside_append : (t : Tree) (xs ys : List AttributeTree) → outside t (xs ++ ys) ≡ outside t xs ++ outside t ys
outside_append t xs ys = by (has_braces t)
  where
    by : (b : Bool) → (if b then outers (xs ++ ys) else xs ++ ys) ≡ (if b then outers xs else xs) ++ (if b then outers ys else ys)
    by true = outers_append xs ys
    by false = refl

outside_with : (t : Tree) (ys xs : List AttributeTree) → outside (with_inner ys t) xs ≡ outside t xs
outside_with t ys xs = ap (λ (b : Bool). if b then outers xs else xs) (with_inner_braces ys t)

-- ---- before others

-- neither after attributes nor verbatim tokens
abbrev pub is_free : Tree → Bool
is_free (leaf k) = not (is_verbatim_leaf k)
is_free (attributed a more t) = false
is_free _ = true

leaf_free : (ats : List AttributeTree) (k : Leaf) → is_free (with_inner ats (leaf k)) ≡ is_free (leaf k)
leaf_free ats (e.block label b) = refl
leaf_free ats _ = refl

pub with_inner_free : (ats : List AttributeTree) (t : Tree) → is_free (with_inner ats t) ≡ is_free t
with_inner_free ats (leaf k) = leaf_free ats k
with_inner_free ats _ = refl

-- these attributes before those of the node t, where `own` comes before it already
abbrev pub put_before : (more own : List AttributeTree) → Tree → Tree
put_before more own t = attributed_with (outside t more ++ own) (with_inner (inners more ++ inner_in t) t)

leaf_prepend : (more : List AttributeTree) (k : Leaf) → is_free (leaf k) ≡ true → prepend more (leaf k) ≡ attributed_with (outside (leaf k) more) (with_inner (inners more ++ inner_in (leaf k)) (leaf k))
leaf_prepend more (e.verbatim ts) h = cc
leaf_prepend more _ h = refl

pub prepend_free : (more : List AttributeTree) (t : Tree) → is_free t ≡ true → prepend more t ≡ attributed_with (outside t more) (with_inner (inners more ++ inner_in t) t)
prepend_free more (leaf k) h = leaf_prepend more k h
prepend_free more (attributed a ats t) h = cc
prepend_free more _ h = refl

pub prepend_attributed_with : (more own : List AttributeTree) (t : Tree) → is_free t ≡ true → prepend more (attributed_with own t) ≡ put_before more own t
prepend_attributed_with more [] t h = prepend_free more t h ∙ ap (λ l. attributed_with l (with_inner (inners more ++ inner_in t) t)) (sym (append-nil (outside t more)))
prepend_attributed_with more (a ∷ own) t h = refl

prepend_behind : (more own : List AttributeTree) (a : AttributeTree) (ats : List AttributeTree) (t : Tree)
    → prepend more (attributed_with (own ++ a ∷ ats) t) ≡ put_before more (own ++ a ∷ ats) t
prepend_behind more [] a ats t = refl
prepend_behind more (b ∷ own) a ats t = refl

-- those that were put before it stay after these
put_twice : (xs ys own : List AttributeTree) (t : Tree)
    → put_before xs (outside t ys ++ own) (with_inner (inners ys ++ inner_in t) t) ≡ put_before (xs ++ ys) own t
put_twice xs ys own t =
    let u = with_inner (inners ys ++ inner_in t) t in
    let before : outside u xs ++ (outside t ys ++ own) ≡ outside t (xs ++ ys) ++ own =
    ap (λ l. l ++ (outside t ys ++ own)) (outside_with t (inners ys ++ inner_in t) xs) ∙ sym (append_assoc (outside t xs) (outside t ys) own)
    ∙ ap (λ l. l ++ own) (sym (outside_append t xs ys)) in
    let inside : with_inner (inners xs ++ inner_in u) u ≡ with_inner (inners (xs ++ ys) ++ inner_in t) t =
    with_inner_twice (inners xs ++ inner_in u) (inners ys ++ inner_in t) t ∙ with_inner_grown (inners xs) (inners ys ++ inner_in t) t
    ∙ ap (λ l. with_inner l t) (sym (append_assoc (inners xs) (inners ys) (inner_in t))) ∙ ap (λ l. with_inner (l ++ inner_in t) t) (sym (inners_append xs ys)) in
    ap (λ l. attributed_with l (with_inner (inners xs ++ inner_in u) u)) before ∙ ap (attributed_with (outside t (xs ++ ys) ++ own)) inside

own_more : (xs ys : List AttributeTree) (ts : List Tok) → attributes_own (xs ++ ys) ts ≡ attributes_own xs (attributes_own ys ts)
own_more [] ys ts = refl
own_more (a ∷ more) ys ts = ap (attribute_own a) (own_more more ys ts)

-- What can have attributes in front is free, after attributes, or verbatim tokens.
leaf_or : {A : Leaf → Type 0} → ((k : Leaf) → is_free (leaf k) ≡ true → A k) → ((ts : List Tok) → A (e.verbatim ts)) → (k : Leaf) → A k
leaf_or f g (e.verbatim ts) = g ts
leaf_or f g _ = f _ refl

pub free_or : {A : Tree → Type 0} → ((t : Tree) → is_free t ≡ true → A t) → ((a : AttributeTree) (more : List AttributeTree) (t : Tree) → A (attributed a more t))
    → ((ts : List Tok) → A (leaf (e.verbatim ts))) → (t : Tree) → A t
free_or {A = A} f g h (leaf k) = leaf_or {A = λ k. A (leaf k)} (λ k. f (leaf k)) h k
free_or f g h (attributed a more t) = g a more t
free_or f g h _ = f _ refl

-- those of two pairs of parentheses
pub more_before : (xs ys : List AttributeTree) (t : Tree) → prepend (xs ++ ys) t ≡ prepend xs (prepend ys t)
more_before xs ys t = free_or {A = λ t. prepend (xs ++ ys) t ≡ prepend xs (prepend ys t)} free behind kept t
  where
    free : (t : Tree) → is_free t ≡ true → prepend (xs ++ ys) t ≡ prepend xs (prepend ys t)
    free t h =
        let u = with_inner (inners ys ++ inner_in t) t in
        let at : prepend xs (prepend ys t) ≡ put_before xs (outside t ys) u =
        ap (prepend xs) (prepend_free ys t h) ∙ prepend_attributed_with xs (outside t ys) u (with_inner_free (inners ys ++ inner_in t) t ∙ h) in
        let all : put_before xs (outside t ys ++ []) u ≡ put_before (xs ++ ys) [] t = put_twice xs ys [] t in
        prepend_attributed_with (xs ++ ys) [] t h ∙ sym all ∙ ap (λ l. put_before xs l u) (append-nil (outside t ys)) ∙ sym at

    behind : (a : AttributeTree) (more : List AttributeTree) (t : Tree) → prepend (xs ++ ys) (attributed a more t) ≡ prepend xs (prepend ys (attributed a more t))
    behind a more t = sym (put_twice xs ys (a ∷ more) t) ∙ sym (prepend_behind xs (outside t ys) a more (with_inner (inners ys ++ inner_in t) t))

    kept : (ts : List Tok) → prepend (xs ++ ys) (leaf (e.verbatim ts)) ≡ prepend xs (prepend ys (leaf (e.verbatim ts)))
    kept ts = ap (λ l. leaf (e.verbatim l)) (ap (λ l. attributes_own l ts) (outers_append xs ys) ∙ own_more (outers xs) (outers ys) ts)

-- ---- outer ones alone

pub inner_stays : (more : List AttributeTree) (t : Tree) → attributes_outer more ≡ true → with_inner (inners more ++ inner_in t) t ≡ t
inner_stays more t h = ap (λ l. with_inner (l ++ inner_in t) t) (inners_none more h) ∙ with_inner_same t

outer_put : (more own : List AttributeTree) (t : Tree) → attributes_outer more ≡ true → put_before more own t ≡ attributed_with (more ++ own) t
outer_put more own t h = ap (λ l. attributed_with (l ++ own) (with_inner (inners more ++ inner_in t) t)) (outside_outer t more h) ∙ ap (attributed_with (more ++ own)) (inner_stays more t h)

-- these attributes before all that t has, none in its braces
abbrev pub put_outer : List AttributeTree → Tree → Tree
put_outer more (attributed b bs t) = attributed_with (more ++ b ∷ bs) t
put_outer more (leaf (e.verbatim ts)) = leaf (e.verbatim (attributes_own more ts))
put_outer more t = attributed_with more t

leaf_outer : (more : List AttributeTree) (k : Leaf) → is_free (leaf k) ≡ true → put_outer more (leaf k) ≡ attributed_with more (leaf k)
leaf_outer more (e.verbatim ts) h = cc
leaf_outer more _ h = refl

free_outer : (more : List AttributeTree) (t : Tree) → is_free t ≡ true → put_outer more t ≡ attributed_with more t
free_outer more (leaf k) h = leaf_outer more k h
free_outer more (attributed a ats t) h = cc
free_outer more _ h = refl

pub prepend_outer : (more : List AttributeTree) (t : Tree) → attributes_outer more ≡ true → prepend more t ≡ put_outer more t
prepend_outer more t o = free_or {A = λ t. prepend more t ≡ put_outer more t} free (λ b bs u. outer_put more (b ∷ bs) u o) kept t
  where
    free : (t : Tree) → is_free t ≡ true → prepend more t ≡ put_outer more t
    free t h = prepend_attributed_with more [] t h ∙ outer_put more [] t o ∙ ap (λ l. attributed_with l t) (append-nil more) ∙ sym (free_outer more t h)

    kept : (ts : List Tok) → prepend more (leaf (e.verbatim ts)) ≡ put_outer more (leaf (e.verbatim ts))
    kept ts = ap (λ l. leaf (e.verbatim (attributes_own l ts))) (outers_are more o)

pub prepend_none : (t : Tree) → prepend [] t ≡ t
prepend_none t = prepend_outer [] t refl ∙ free_or {A = λ t. put_outer [] t ≡ t} (λ t h. free_outer [] t h) (λ a more t. refl) (λ ts. refl) t
