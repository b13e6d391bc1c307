-- Attributes put before those of a node with braces.
use Rattle.std.specs.Prelude.{take, drop}
use Rattle.std.proofs.Common.{◌≡◌, ℕ, ◌+◌, ◌≤◌, Bool, true, false, if◌then◌else◌, List, [], ◌∷◌, ◌++◌, length, map, refl, sym, ap, ◌∙◌, arith}
use Rattle.std.proofs.lemmas.List.{append_assoc, length-append, length-map, map-append, take-map, drop-map}
use Rattle.syn_lower_spec.specs.Tree.{AttributeTree}
use Rattle.syn_lower_leaves.specs.View.{attribute_of}
use Rattle.syn_lower_leaves.specs.declared.attr.Attribute.{Attribute}
use Rattle.syn_expr_spec.specs.Tree.{from_inner, inners, outers}
use Rattle.syn_expr_spec.proofs.Attributes.{inners_append, outers_append}
use Rattle.syn_expr_ast.specs.Attrs.{before_inner}
use Rattle.syn_expr_ast.proofs.Attributes.{both_parts}
use Rattle.syn_expr_flatten.specs.Flat.{place}

-- ---- where the first inner one is

take_before : (ats : List AttributeTree) → take (length (before_inner ats)) ats ≡ before_inner ats
take_before [] = refl
take_before (a ∷ more) = by a.inner (take_before more)
  where
    by : (b : Bool) → take (length (before_inner more)) more ≡ before_inner more
        → take (length (if b then [] else a ∷ before_inner more)) (a ∷ more) ≡ (if b then [] else a ∷ before_inner more)
    by true h = refl
    by false h = ap (λ l. a ∷ l) h

drop_before : (ats : List AttributeTree) → drop (length (before_inner ats)) ats ≡ from_inner ats
drop_before [] = refl
drop_before (a ∷ more) = by a.inner (drop_before more)
  where
    by : (b : Bool) → drop (length (before_inner more)) more ≡ from_inner more
        → drop (length (if b then [] else a ∷ before_inner more)) (a ∷ more) ≡ (if b then a ∷ more else from_inner more)
    by true h = refl
    by false h = h

-- how many there are
pub parts_length : (xs ys : List Attribute) → map attribute_of ys ≡ from_inner (map attribute_of xs) → length xs ≡ length (before_inner (map attribute_of xs)) + length ys
parts_length xs ys h =
    let ats = map attribute_of xs in
    sym (length-map xs attribute_of) ∙ ap length (sym (both_parts ats)) ∙ length-append (before_inner ats) (from_inner ats)
    ∙ ap (λ n. length (before_inner ats) + n) (ap length (sym h) ∙ length-map ys attribute_of)

before_within : (ats : List AttributeTree) (n : ℕ) → length ats ≡ n → length (before_inner ats) ≤ n
before_within ats n h = omega (arith, h, ap length (sym (both_parts ats)), length-append (before_inner ats) (from_inner ats))

-- ---- one more

-- an outer one before all, an inner one before the inner ones
abbrev put_tree : AttributeTree → List AttributeTree → List AttributeTree
put_tree a ats = if a.inner then before_inner ats ++ a ∷ from_inner ats else a ∷ ats

skip_before : (ats l : List AttributeTree) → from_inner (before_inner ats ++ l) ≡ from_inner l
skip_before [] l = refl
skip_before (a ∷ more) l = by a.inner refl (skip_before more l)
  where
    by : (b : Bool) → a.inner ≡ b → from_inner (before_inner more ++ l) ≡ from_inner l → from_inner ((if b then [] else a ∷ before_inner more) ++ l) ≡ from_inner l
    by true h f = refl
    by false h f = ap (λ c. if c then a ∷ (before_inner more ++ l) else from_inner (before_inner more ++ l)) h ∙ f

outers_put : (a : AttributeTree) (ats : List AttributeTree) → outers (put_tree a ats) ≡ outers (a ∷ []) ++ outers ats
outers_put a ats = by a.inner refl
  where
    by : (b : Bool) → a.inner ≡ b → outers (if b then before_inner ats ++ a ∷ from_inner ats else a ∷ ats) ≡ (if b then [] else a ∷ []) ++ outers ats
    by true h =
        outers_append (before_inner ats) (a ∷ from_inner ats)
        ∙ ap (λ c. outers (before_inner ats) ++ (if c then outers (from_inner ats) else a ∷ outers (from_inner ats))) h
        ∙ sym (outers_append (before_inner ats) (from_inner ats)) ∙ ap outers (both_parts ats)
    by false h = ap (λ c. if c then outers ats else a ∷ outers ats) h

inner_put : (a : AttributeTree) (ats : List AttributeTree) → from_inner (put_tree a ats) ≡ inners (a ∷ []) ++ from_inner ats
inner_put a ats = by a.inner refl
  where
    by : (b : Bool) → a.inner ≡ b → from_inner (if b then before_inner ats ++ a ∷ from_inner ats else a ∷ ats) ≡ (if b then a ∷ [] else []) ++ from_inner ats
    by true h = skip_before ats (a ∷ from_inner ats) ∙ ap (λ c. if c then a ∷ from_inner ats else from_inner (from_inner ats)) h
    by false h = ap (λ c. if c then a ∷ ats else from_inner ats) h

pub place_within : (a : Attribute) (xs : List Attribute) → place (attribute_of a) (map attribute_of xs) ≤ length xs
place_within a xs = by (attribute_of a).inner
  where
    by : (b : Bool) → (if b then length (before_inner (map attribute_of xs)) else 0) ≤ length xs
    by true = before_within (map attribute_of xs) (length xs) (length-map xs attribute_of)
    by false = omega arith

put_is : (a : AttributeTree) (ats : List AttributeTree) → take (place a ats) ats ++ a ∷ drop (place a ats) ats ≡ put_tree a ats
put_is a ats = by a.inner
  where
    by : (b : Bool) → let n = if b then length (before_inner ats) else 0 in take n ats ++ a ∷ drop n ats ≡ (if b then before_inner ats ++ a ∷ from_inner ats else a ∷ ats)
    by true = ap (λ l. l ++ a ∷ drop (length (before_inner ats)) ats) (take_before ats) ∙ ap (λ l. before_inner ats ++ a ∷ l) (drop_before ats)
    by false = refl

items_put : (a : Attribute) (xs new : List Attribute) (n : ℕ) → n ≡ place (attribute_of a) (map attribute_of xs) → new ≡ take n xs ++ a ∷ drop n xs
    → map attribute_of new ≡ put_tree (attribute_of a) (map attribute_of xs)
items_put a xs new n at is =
    ap (map attribute_of) is ∙ map-append attribute_of (take n xs) (a ∷ drop n xs)
    ∙ ap (λ l. l ++ attribute_of a ∷ map attribute_of (drop n xs)) (sym (take-map attribute_of n xs))
    ∙ ap (λ l. take n (map attribute_of xs) ++ attribute_of a ∷ l) (sym (drop-map attribute_of n xs))
    ∙ ap (λ m. take m (map attribute_of xs) ++ attribute_of a ∷ drop m (map attribute_of xs)) at
    ∙ put_is (attribute_of a) (map attribute_of xs)

pub one_outer : (a : Attribute) (xs new : List Attribute) (n : ℕ) → n ≡ place (attribute_of a) (map attribute_of xs) → new ≡ take n xs ++ a ∷ drop n xs
    → outers (map attribute_of new) ≡ outers (attribute_of a ∷ []) ++ outers (map attribute_of xs)
one_outer a xs new n at is = ap outers (items_put a xs new n at is) ∙ outers_put (attribute_of a) (map attribute_of xs)

pub one_inner : (a : Attribute) (xs new : List Attribute) (n : ℕ) → n ≡ place (attribute_of a) (map attribute_of xs) → new ≡ take n xs ++ a ∷ drop n xs
    → from_inner (map attribute_of new) ≡ inners (attribute_of a ∷ []) ++ from_inner (map attribute_of xs)
one_inner a xs new n at is = ap from_inner (items_put a xs new n at is) ∙ inner_put (attribute_of a) (map attribute_of xs)

-- ---- each of a list, the last first

pub none_left : (xs : List Attribute) → length xs ≡ 0 → xs ≡ []
none_left [] h = refl
none_left (x ∷ xs) h = absurd cc

pub step_outer : (xs ys : List Attribute) (a : Attribute) (old new : List AttributeTree) → ys ≡ xs ++ a ∷ [] → new ≡ outers (attribute_of a ∷ []) ++ old
    → outers (map attribute_of xs) ++ new ≡ outers (map attribute_of ys) ++ old
step_outer xs ys a old new h g =
    ap (λ l. outers (map attribute_of xs) ++ l) g ∙ sym (append_assoc (outers (map attribute_of xs)) (outers (attribute_of a ∷ [])) old)
    ∙ ap (λ l. l ++ old) (sym (ap (λ l. outers (map attribute_of l)) h ∙ ap outers (map-append attribute_of xs (a ∷ [])) ∙ outers_append (map attribute_of xs) (attribute_of a ∷ [])))

pub step_inner : (xs ys : List Attribute) (a : Attribute) (old new : List AttributeTree) → ys ≡ xs ++ a ∷ [] → new ≡ inners (attribute_of a ∷ []) ++ old
    → inners (map attribute_of xs) ++ new ≡ inners (map attribute_of ys) ++ old
step_inner xs ys a old new h g =
    ap (λ l. inners (map attribute_of xs) ++ l) g ∙ sym (append_assoc (inners (map attribute_of xs)) (inners (attribute_of a ∷ [])) old)
    ∙ ap (λ l. l ++ old) (sym (ap (λ l. inners (map attribute_of l)) h ∙ ap inners (map-append attribute_of xs (a ∷ [])) ∙ inners_append (map attribute_of xs) (attribute_of a ∷ [])))
