-- Attributes, one after another.
use Rattle.std.specs.Prelude.{not, ◌&&◌, ◌-◌, take}
use Rattle.std.proofs.Common.{◌≡◌, Bool, true, false, if◌then◌else◌, ◌==◌, List, [], ◌∷◌, ◌++◌, length, map, refl, sym, ap, ◌∙◌, arith, rules}
use Rattle.std.proofs.lemmas.List.{append-nil, length-append, take-append-le, take_all}
use Rattle.std.proofs.lemmas.Bool.{and_parts}
use Rattle.syn_tokens.specs.Tok.{Tok}
use Rattle.syn_lower_spec.specs.Form.{is_nil}
use Rattle.syn_lower_spec.specs.Tree.{AttributeTree}
use Rattle.syn_lower_spec.specs.Own.{attribute_own}
use Rattle.syn_lower_spec.specs.PatFits.{attributes_outer}
use Rattle.syn_lower_spec.specs.PatOwn.{attributes_own}
use Rattle.syn_lower_leaves.specs.ReadBack.{all_printed}
use Rattle.syn_lower_leaves.specs.View.{attribute_of}
use Rattle.syn_lower_leaves.specs.declared.attr.Attribute.{Attribute}
use Rattle.syn_pat.proofs.Appends.{attribute_append, attributes_append}
use Rattle.syn_expr_spec.specs.Tree.{but_last, from_inner, inners, outers}
use Rattle.syn_expr_spec.specs.WellFormed.{attributes_inner}
use Rattle.syn_expr_spec.proofs.Attributes.{outers_are, outers_outer}
use Rattle.syn_expr_ast.specs.Attrs.{before_inner, outer_printed, inner_printed}

pub all_is : (xs : List Attribute) → attributes_own (map attribute_of xs) [] ≡ all_printed (λ a. attribute_own (attribute_of a) []) xs
all_is [] = refl
all_is (x ∷ xs) = attribute_append (attribute_of x) (attributes_own (map attribute_of xs) []) ∙ ap (λ l. attribute_own (attribute_of x) [] ++ l) (all_is xs)

-- one attribute before others
one_more : (a : AttributeTree) (ats : List AttributeTree) (l : List Tok) → attributes_own ats [] ≡ l → attributes_own (a ∷ ats) [] ≡ attribute_own a [] ++ l
one_more a ats l h = attribute_append a (attributes_own ats []) ∙ ap (λ m. attribute_own a [] ++ m) h

pub outer_is : (xs : List Attribute) → attributes_own (outers (map attribute_of xs)) [] ≡ outer_printed xs
outer_is [] = refl
outer_is (x ∷ xs) = by (attribute_of x).inner (outer_is xs)
  where
    by : (b : Bool) → attributes_own (outers (map attribute_of xs)) [] ≡ outer_printed xs
        → attributes_own (if b then outers (map attribute_of xs) else attribute_of x ∷ outers (map attribute_of xs)) []
        ≡ (if b then outer_printed xs else attribute_own (attribute_of x) [] ++ outer_printed xs)
    by true h = h
    by false h = one_more (attribute_of x) (outers (map attribute_of xs)) (outer_printed xs) h

pub inner_is : (xs : List Attribute) → attributes_own (inners (map attribute_of xs)) [] ≡ inner_printed xs
inner_is [] = refl
inner_is (x ∷ xs) = by (attribute_of x).inner (inner_is xs)
  where
    by : (b : Bool) → attributes_own (inners (map attribute_of xs)) [] ≡ inner_printed xs
        → attributes_own (if b then attribute_of x ∷ inners (map attribute_of xs) else inners (map attribute_of xs)) []
        ≡ (if b then attribute_own (attribute_of x) [] ++ inner_printed xs else inner_printed xs)
    by true h = one_more (attribute_of x) (inners (map attribute_of xs)) (inner_printed xs) h
    by false h = h

-- the inner ones from the first one on are all inner ones
pub inners_from : (ats : List AttributeTree) → inners (from_inner ats) ≡ inners ats
inners_from [] = refl
inners_from (a ∷ more) = by a.inner refl (inners_from more)
  where
    by : (b : Bool) → a.inner ≡ b → inners (from_inner more) ≡ inners more → inners (if b then a ∷ more else from_inner more) ≡ (if b then a ∷ inners more else inners more)
    by true h f = ap (λ b. if b then a ∷ inners more else inners more) h
    by false h f = f

-- the outer ones of the outer ones
pub outers_once : (ats : List AttributeTree) → outers (outers ats) ≡ outers ats
outers_once ats = outers_are (outers ats) (outers_outer ats)

pub ruleset attrs = (all_is, attributes_append, append-nil)

pub ruleset styles = (outer_is, inner_is, inners_from)

pub ruleset once = (outers_once)

pub ruleset heads = (attributes_append)

-- ---- whether there are any in a place

-- those of a node with braces: none comes before it where all are inner ones
pub outer_none : (ats : List AttributeTree) → is_nil (outers ats) ≡ attributes_inner ats
outer_none [] = refl
outer_none (a ∷ more) = by a.inner (outer_none more)
  where
    by : (b : Bool) → is_nil (outers more) ≡ attributes_inner more → is_nil (if b then outers more else a ∷ outers more) ≡ (b && attributes_inner more)
    by true h = h
    by false h = refl

pub none_map : (ats : List Attribute) → is_nil (map attribute_of ats) ≡ (length ats == 0)
none_map [] = refl
none_map (a ∷ ats) = search rules

pub ruleset bares = (outers_once, outer_none, none_map)

-- and none from the first inner one on where all are outer ones
pub inner_none : (ats : List AttributeTree) → is_nil (from_inner ats) ≡ attributes_outer ats
inner_none [] = refl
inner_none (a ∷ more) = by a.inner (inner_none more)
  where
    by : (b : Bool) → is_nil (from_inner more) ≡ attributes_outer more → is_nil (if b then a ∷ more else from_inner more) ≡ (not b && attributes_outer more)
    by true h = refl
    by false h = h

pub ruleset inside = (inner_none)

-- ---- where all are inner ones

pub no_outer : (ats : List AttributeTree) → attributes_inner ats ≡ true → outers ats ≡ []
no_outer [] h = refl
no_outer (a ∷ more) h =
    let (i, j) = and_parts a.inner (attributes_inner more) h in
    ap (λ b. if b then outers more else a ∷ outers more) i ∙ no_outer more j

pub all_inside : (ats : List AttributeTree) → attributes_inner ats ≡ true → from_inner ats ≡ ats
all_inside [] h = refl
all_inside (a ∷ more) h =
    let (i, j) = and_parts a.inner (attributes_inner more) h in
    ap (λ b. if b then a ∷ more else from_inner more) i

pub ruleset insides = (no_outer, all_inside)

-- ---- the list again, of those that come before the node and those from the first inner one on

-- the outer ones of these parts
pub outers_parts : (ats : List AttributeTree) → outers ats ≡ before_inner ats ++ outers (from_inner ats)
outers_parts [] = refl
outers_parts (a ∷ more) = by a.inner refl (outers_parts more)
  where
    by : (b : Bool) → a.inner ≡ b → outers more ≡ before_inner more ++ outers (from_inner more)
        → (if b then outers more else a ∷ outers more) ≡ (if b then [] else a ∷ before_inner more) ++ outers (if b then a ∷ more else from_inner more)
    by true h f = sym (ap (λ c. if c then outers more else a ∷ outers more) h)
    by false h f = ap (λ l. a ∷ l) f

pub both_parts : (ats : List AttributeTree) → before_inner ats ++ from_inner ats ≡ ats
both_parts [] = refl
both_parts (a ∷ more) = by a.inner (both_parts more)
  where
    by : (b : Bool) → before_inner more ++ from_inner more ≡ more → (if b then [] else a ∷ before_inner more) ++ (if b then a ∷ more else from_inner more) ≡ a ∷ more
    by true h = refl
    by false h = ap (λ l. a ∷ l) h

front : (xs ys : List AttributeTree) → but_last ys (xs ++ ys) ≡ xs
front xs ys =
    ap (λ n. take (n - length ys) (xs ++ ys)) (length-append xs ys) ∙ ap (λ n. take n (xs ++ ys)) (omega arith)
    ∙ take-append-le (length xs) xs ys (omega arith) ∙ take_all (length xs) xs (omega arith)

pub all_parts : (ats : List AttributeTree) → but_last (outers (from_inner ats)) (outers ats) ++ from_inner ats ≡ ats
all_parts ats =
    ap (λ l. but_last (outers (from_inner ats)) l ++ from_inner ats) (outers_parts ats)
    ∙ ap (λ l. l ++ from_inner ats) (front (before_inner ats) (outers (from_inner ats))) ∙ both_parts ats

-- both parts tell the list
pub parts_tell : (xs ys : List AttributeTree) → outers xs ≡ outers ys → from_inner xs ≡ from_inner ys → xs ≡ ys
parts_tell xs ys o i = sym (all_parts xs) ∙ ap (λ l. but_last (outers (from_inner xs)) l ++ from_inner xs) o ∙ ap (λ l. but_last (outers l) (outers ys) ++ l) i ∙ all_parts ys
