-- Patterns in patterns, each without the parentheses of its guards.
use Rattle.std.proofs.Common.{◌≡◌, Bool, List, [], ◌∷◌, map, flat_map, refl, ap, ◌∙◌}
use Rattle.std.specs.declared.alloc.Global.{Global}
use Rattle.syn_expr_spec.specs.Tree.{Tree}
use Rattle.std.specs.declared.vec.Vec.{Vec}
use Rattle.syn_lower_leaves.specs.declared.attr.Attribute.{Attribute}
use Rattle.syn_lower_leaves.specs.declared.punctuated.Punctuated.{Punctuated}
use Rattle.syn_pat.specs.View.{PatView, pats_in, guards_in, values, trails, view_with, attributed_by, attributes_of, field_pat_of, field_guards}
use Rattle.syn_lower_spec.specs.Pat as t
use Rattle.syn_lower_spec.specs.Pat.{PatTree, Pats}
use Rattle.syn_visit_kinds.specs.Calls.{Each}
use Rattle.syn_expr_flatten.specs.Flat.{IsFlat}
use Rattle.syn_expr_flatten.specs.Pats.{IsFlatPat, IsFlatFieldPat}
use Rattle.syn_lower_spec.specs.Tree.{PathTree}
use Rattle.syn_pat.specs.declared.pat.FieldPatOf.{FieldPatOf}
use Rattle.syn_visit_kinds.proofs.Elementwise.{each_both}

pub same_trees : {P : Type 0} (f : P → PatView) (xs ys : List P) → Each (λ x y. IsFlatPat (f x) (f y)) xs ys → map (λ p. (f p).tree) ys ≡ map (λ p. (f p).tree) xs
unfolding Each
same_trees f [] [] h = refl
same_trees f (x ∷ xs) (y ∷ ys) h = ap (λ z. z ∷ map (λ p. (f p).tree) ys) h.0.0 ∙ ap (λ l. (f x).tree ∷ l) (same_trees f xs ys h.1)
same_trees f [] (y ∷ ys) h = absurd h
same_trees f (x ∷ xs) [] h = absurd h

pub same_pats : {P : Type 0} (f : P → PatView) (xs ys : List P) → Each (λ x y. IsFlatPat (f x) (f y)) xs ys → pats_in f ys ≡ pats_in f xs
same_pats f xs ys h = ap t.pats_of (same_trees f xs ys h)

pub guards_flat : {P : Type 0} (f : P → PatView) (xs ys : List P) → Each (λ x y. IsFlatPat (f x) (f y)) xs ys → Each IsFlat (guards_in f xs) (guards_in f ys)
unfolding Each
guards_flat f [] [] h = tt
guards_flat f (x ∷ xs) (y ∷ ys) h = each_both IsFlat (f x).guards (guards_in f xs) (f y).guards (guards_in f ys) h.0.1 (guards_flat f xs ys h.1)
guards_flat f [] (y ∷ ys) h = absurd h
guards_flat f (x ∷ xs) [] h = absurd h

pub attributed : (v : Vec Attribute Global) (p q : PatTree) (gs hs : List Tree) → q ≡ p → Each IsFlat gs hs → IsFlatPat (view_with v p gs) (view_with v q hs)
attributed v p q gs hs same h = (ap (attributed_by (attributes_of v)) same, h)

-- a pattern that holds one
pub one_flat : (k : PatTree → PatTree) (v : Vec Attribute Global) (x y : PatView) → IsFlatPat x y → IsFlatPat (view_with v (k x.tree) x.guards) (view_with v (k y.tree) y.guards)
one_flat k v x y h = attributed v (k x.tree) (k y.tree) x.guards y.guards (ap k h.0) h.1

-- a pattern that holds a list
pub list_flat : {P Q : Type 0} (k : Pats → Bool → PatTree) (v : Vec Attribute Global) (f : P → PatView) (x y : Punctuated P Q) → Each (λ a b. IsFlatPat (f a) (f b)) (values x) (values y)
    → trails y ≡ trails x → IsFlatPat (view_with v (k (pats_in f (values x)) (trails x)) (guards_in f (values x))) (view_with v (k (pats_in f (values y)) (trails y)) (guards_in f (values y)))
list_flat k v f x y h same = attributed v _ _ _ _ (ap (λ ps. k ps (trails y)) (same_pats f (values x) (values y) h) ∙ ap (k (pats_in f (values x))) same) (guards_flat f (values x) (values y) h)

same_fields : {P : Type 0} (f : P → PatView) (xs ys : List (FieldPatOf P)) → Each (λ x y. IsFlatFieldPat f x y) xs ys → map (field_pat_of f) ys ≡ map (field_pat_of f) xs
unfolding Each
same_fields f [] [] h = refl
same_fields f (x ∷ xs) (y ∷ ys) h = ap (λ z. z ∷ map (field_pat_of f) ys) h.0.0 ∙ ap (λ l. field_pat_of f x ∷ l) (same_fields f xs ys h.1)
same_fields f [] (y ∷ ys) h = absurd h
same_fields f (x ∷ xs) [] h = absurd h

fields_flat : {P : Type 0} (f : P → PatView) (xs ys : List (FieldPatOf P)) → Each (λ x y. IsFlatFieldPat f x y) xs ys
    → Each IsFlat (flat_map (λ y. field_guards f y.kind) xs) (flat_map (λ y. field_guards f y.kind) ys)
unfolding Each
fields_flat f [] [] h = tt
fields_flat f (x ∷ xs) (y ∷ ys) h = each_both IsFlat (field_guards f x.kind) (flat_map (λ y. field_guards f y.kind) xs) (field_guards f y.kind) (flat_map (λ y. field_guards f y.kind) ys) h.0.1 (fields_flat f xs ys h.1)
fields_flat f [] (y ∷ ys) h = absurd h
fields_flat f (x ∷ xs) [] h = absurd h

-- a struct pattern
pub struct_flat : {P Q : Type 0} (f : P → PatView) (v : Vec Attribute Global) (p : PathTree) (rest : Bool) (x y : Punctuated (FieldPatOf P) Q) → Each (λ a b. IsFlatFieldPat f a b) (values x) (values y)
    → trails y ≡ trails x
    → IsFlatPat (view_with v (t.a_struct p (t.fields_of (map (field_pat_of f) (values x))) (trails x) rest) (flat_map (λ y. field_guards f y.kind) (values x)))
    (view_with v (t.a_struct p (t.fields_of (map (field_pat_of f) (values y))) (trails y) rest) (flat_map (λ y. field_guards f y.kind) (values y)))
struct_flat f v p rest x y h same =
    attributed v _ _ _ _ (ap (λ l. t.a_struct p (t.fields_of l) (trails y) rest) (same_fields f (values x) (values y) h) ∙ ap (λ b. t.a_struct p (t.fields_of (map (field_pat_of f) (values x))) b rest) same)
    (fields_flat f (values x) (values y) h)
