-- How the trees show the pieces that a form reads: each way back gives the same.
use Rattle.std.proofs.Common.{◌≡◌, ℕ, zero, suc, Bool, true, false, not, ◌&&◌, ◌==◌, nat_le, List, [], ◌∷◌, ◌++◌, length, take, drop, Option, Some, None, refl, ap, sym, ◌∙◌, cond, arith}
use Rattle.std.proofs.lemmas.Bool.Decides.{nat_tests}
use Rattle.syn_lexer.specs.declared.front.Delimiter.{Delimiter}
use Rattle.syn_tokens.specs.Tok.{Tok}
use Rattle.syn_lower_spec.specs.Tree as t
use Rattle.syn_lower_spec.specs.Tree.{TypeTree, SegmentTree, PathTree, ReturnTree, BoundTree}
use Rattle.syn_lower_spec.specs.Part.{to_outer, from_outer, to_inner, from_inner, to_path, from_path, to_angle, from_angle, to_round, from_round, has_none, to_segment, from_segment, from_lifetime, from_const, to_assoc, from_assoc, from_type, to_trait, from_trait, from_outlives, to_one, from_one, to_several, from_several, Qualified, QPathTree, to_qualified, qualified_by, from_qualified, to_bare, from_bare, MacroEnd, to_named, from_named, to_reference, from_reference, to_pointer, from_pointer, to_row, from_row, to_tuple, tuple_of, from_tuple, to_impl, from_impl, to_object, from_object, is_never, is_infer, to_arg, from_arg, to_fn, from_fn, from_given, is_default, to_macro, from_macro}
use Rattle.syn_lower_spec.proofs.Weights.{some_is}
use Rattle.syn_lower_spec.proofs.Same.{both_true, not_true}
use Rattle.syn_lower_spec.proofs.Forms.{Sees, Only}
use Rattle.syn_lower_spec.proofs.Trees.{args-args_of, args_of-args, bounds-bounds_of, bounds_of-bounds, generics-generics_of, generics_of-generics, segments-segments_of, segments_of-segments, types-types_of, types_of-types}

-- ---- attributes and paths

pub sees_outer : Sees to_outer from_outer
sees_outer = record { there = λ x. refl; back = λ y x h. back y.inner y.tokens x h }
  where
    back : (b : Bool) (ts : List Tok) (x : List Tok) → from_outer (record { inner = b; tokens = ts }) ≡ Some x → to_outer x ≡ record { inner = b; tokens = ts }
    back true ts x h = absurd cc
    back false ts x h = ap to_outer (sym (some_is h))

pub sees_inner : Sees to_inner from_inner
sees_inner = record { there = λ x. refl; back = λ y x h. back y.inner y.tokens x h }
  where
    back : (b : Bool) (ts : List Tok) (x : List Tok) → from_inner (record { inner = b; tokens = ts }) ≡ Some x → to_inner x ≡ record { inner = b; tokens = ts }
    back false ts x h = absurd cc
    back true ts x h = ap to_inner (sym (some_is h))

pub sees_path : Sees to_path from_path
sees_path = record { there = λ x. refl; back = λ y x h. back y.leading y.segments y.trailing x h }
  where
    back : (b : Bool) (ss : List SegmentTree) (e : Bool) (x : Bool × List SegmentTree) → from_path (record { leading = b; segments = ss; trailing = e }) ≡ Some x → to_path x ≡ record { leading = b; segments = ss; trailing = e }
    back b ss true x h = absurd cc
    back b ss false x h = ap to_path (sym (some_is h))

pub sees_segment : Sees to_segment from_segment
sees_segment = record { there = λ x. refl; back = λ y x h. ap to_segment (sym (some_is h)) }

-- ---- arguments

pub sees_angle : Sees to_angle from_angle
sees_angle = record { there = λ x. rw (generics-generics_of x.1.0) refl; back = elim [ t.angle c gs e ↦ λ x h. ap to_angle (sym (some_is h)) ∙ ap (λ z. t.angle c z e) (generics_of-generics gs) | _ ↦ λ x h. absurd cc ] }

pub sees_round : Sees to_round from_round
sees_round = record { there = λ x. rw (types-types_of x.0.0) refl; back = elim [ t.round ts e r ↦ λ x h. ap to_round (sym (some_is h)) ∙ ap (λ z. t.round z e r) (types_of-types ts) | _ ↦ λ x h. absurd cc ] }

pub only_no_arguments : Only t.no_arguments has_none
only_no_arguments = record { itself = refl; only = elim [ t.no_arguments ↦ λ h. refl | _ ↦ λ h. absurd cc ] }

pub sees_lifetime : Sees t.a_lifetime from_lifetime
sees_lifetime = record { there = λ x. refl; back = elim [ t.a_lifetime w ↦ λ x h. ap t.a_lifetime (sym (some_is h)) | _ ↦ λ x h. absurd cc ] }

pub sees_const : Sees t.a_const from_const
sees_const = record { there = λ x. refl; back = elim [ t.a_const ts ↦ λ x h. ap t.a_const (sym (some_is h)) | _ ↦ λ x h. absurd cc ] }

pub sees_assoc : Sees to_assoc from_assoc
sees_assoc = record { there = λ x. refl; back = elim [ t.an_assoc w u ↦ λ x h. ap to_assoc (sym (some_is h)) | _ ↦ λ x h. absurd cc ] }

pub sees_type : Sees t.a_type from_type
sees_type = record { there = λ x. refl; back = elim [ t.a_type u ↦ λ x h. ap t.a_type (sym (some_is h)) | _ ↦ λ x h. absurd cc ] }

-- ---- bounds

pub sees_trait : Sees to_trait from_trait
sees_trait = record { there = λ x. rw (segments-segments_of x.1.1.segments) refl; back = elim [ t.a_trait q f b ss e ↦ λ x h. ap to_trait (sym (some_is h)) ∙ ap (λ z. t.a_trait q f b z e) (segments_of-segments ss) | _ ↦ λ x h. absurd cc ] }

pub sees_outlives : Sees t.outlives from_outlives
sees_outlives = record { there = λ x. refl; back = elim [ t.outlives w ↦ λ x h. ap t.outlives (sym (some_is h)) | _ ↦ λ x h. absurd cc ] }

pub sees_one : Sees to_one from_one
sees_one = record { there = λ x. refl; back = back }
  where
    back : (y : List BoundTree × Bool) (x : BoundTree) → from_one y ≡ Some x → to_one x ≡ y
    back ([], b) x h = absurd cc
    back (z ∷ [], false) x h = ap to_one (sym (some_is h))
    back (z ∷ [], true) x h = absurd cc
    back (z ∷ w ∷ ws, b) x h = absurd cc

pub sees_several : Sees to_several from_several
sees_several = record { there = λ x. refl; back = back }
  where
    back : (y : List BoundTree × Bool) (x : List BoundTree) → from_several y ≡ Some x → to_several x ≡ y
    back (bs, false) x h = ap to_several (sym (some_is h))
    back (bs, true) x h = absurd cc

-- ---- qualified paths

take-front : {A : Type 0} (xs ys : List A) → take (length xs) (xs ++ ys) ≡ xs
take-front [] [] = refl
take-front [] (y ∷ ys) = refl
take-front (x ∷ xs) ys = ap (λ z. x ∷ z) (take-front xs ys)

drop-front : {A : Type 0} (xs ys : List A) → drop (length xs) (xs ++ ys) ≡ ys
drop-front [] ys = refl
drop-front (x ∷ xs) ys = drop-front xs ys

front_fits : {A : Type 0} (xs ys : List A) → nat_le (length xs) (length (xs ++ ys)) ≡ true
front_fits [] ys = grind (arith, nat_tests)
front_fits (x ∷ xs) ys = let e = front_fits xs ys in grind (arith, nat_tests, e)

length-take : {A : Type 0} (n : ℕ) (xs : List A) → nat_le n (length xs) ≡ true → length (take n xs) ≡ n
length-take zero [] h = refl
length-take zero (x ∷ xs) h = refl
length-take (suc n) [] h = absurd (grind (arith, nat_tests, h))
length-take (suc n) (x ∷ xs) h = let e : nat_le n (length xs) ≡ true = grind (arith, nat_tests, h) in ap suc (length-take n xs e)

take-drop : {A : Type 0} (n : ℕ) (xs : List A) → take n xs ++ drop n xs ≡ xs
take-drop zero [] = refl
take-drop zero (x ∷ xs) = refl
take-drop (suc n) [] = refl
take-drop (suc n) (x ∷ xs) = ap (λ z. x ∷ z) (take-drop n xs)

pub sees_qualified : Sees to_qualified from_qualified
sees_qualified = record { there = there; back = back }
  where
    there : (x : Qualified × List SegmentTree) → from_qualified (to_qualified x) ≡ Some x
    there ((u, None), ss) = refl
    there ((u, Some p), ss) = rw (front_fits p.1 ss, take-front p.1 ss, drop-front p.1 ss) refl

    back_bare : (u : TypeTree) (n : ℕ) (p : PathTree) (x : Qualified × List SegmentTree) (b : Bool) → (n == 0 && (p.leading && not p.trailing)) ≡ b
        → cond {A = Option (Qualified × List SegmentTree)} b (Some ((u, None), p.segments)) None ≡ Some x → to_qualified x ≡ (t.qself u n false, p)
    back_bare u n p x false e h = absurd cc
    back_bare u n p x true e h =
        let (a, c) = both_true (n == 0) (p.leading && not p.trailing) e in
        let (d, f) = both_true p.leading (not p.trailing) c in
        let z : n ≡ 0 = grind (arith, nat_tests, a) in
        ap to_qualified (sym (some_is h)) ∙ (rw (z, d, not_true p.trailing f) refl)

    back_as : (u : TypeTree) (n : ℕ) (p : PathTree) (x : Qualified × List SegmentTree) (b : Bool) → (nat_le n (length p.segments) && not p.trailing) ≡ b
        → cond {A = Option (Qualified × List SegmentTree)} b (Some ((u, Some (p.leading, take n p.segments)), drop n p.segments)) None ≡ Some x → to_qualified x ≡ (t.qself u n true, p)
    back_as u n p x false e h = absurd cc
    back_as u n p x true e h =
        let (a, c) = both_true (nat_le n (length p.segments)) (not p.trailing) e in
        ap to_qualified (sym (some_is h)) ∙ (rw (length-take n p.segments a, take-drop n p.segments, not_true p.trailing c) refl)

    back_by : (u : TypeTree) (n : ℕ) (a : Bool) (p : PathTree) (x : Qualified × List SegmentTree) → qualified_by u n a p ≡ Some x → to_qualified x ≡ (t.qself u n a, p)
    back_by u n false p x h = back_bare u n p x (n == 0 && (p.leading && not p.trailing)) refl h
    back_by u n true p x h = back_as u n p x (nat_le n (length p.segments) && not p.trailing) refl h

    back : (y : QPathTree) (x : Qualified × List SegmentTree) → from_qualified y ≡ Some x → to_qualified x ≡ y
    back (t.no_qself, p) x h = absurd cc
    back (t.qself u n a, p) x h = back_by u n a p x h

pub sees_bare : Sees to_bare from_bare
sees_bare = record { there = λ x. refl; back = back }
  where
    back : (y : QPathTree) (x : PathTree) → from_bare y ≡ Some x → to_bare x ≡ y
    back (t.no_qself, p) x h = ap to_bare (sym (some_is h))
    back (t.qself u n a, p) x h = absurd cc

-- ---- types

pub sees_reference : Sees to_reference from_reference
sees_reference = record { there = λ x. refl; back = elim [ t.reference a m u ↦ λ x h. ap to_reference (sym (some_is h)) | _ ↦ λ x h. absurd cc ] }

pub sees_pointer : Sees to_pointer from_pointer
sees_pointer = record { there = λ x. refl; back = elim [ t.ptr m u ↦ λ x h. ap to_pointer (sym (some_is h)) | _ ↦ λ x h. absurd cc ] }

pub sees_row : Sees to_row from_row
sees_row = record { there = there; back = back }
  where
    there : (x : TypeTree × Option (List Tok)) → from_row (to_row x) ≡ Some x
    there (u, None) = refl
    there (u, Some n) = refl

    back : (y : TypeTree) (x : TypeTree × Option (List Tok)) → from_row y ≡ Some x → to_row x ≡ y
    back (t.slice u) x h = ap to_row (sym (some_is h))
    back (t.array u n) x h = ap to_row (sym (some_is h))
    back _ x h = absurd cc

tuple_back : (ts : List TypeTree) (c : Bool) (x : List TypeTree × Bool) → tuple_of ts c ≡ Some x → to_tuple x ≡ t.tuple (t.types_of ts) c
tuple_back [] c x h = ap to_tuple (sym (some_is h))
tuple_back (u ∷ []) true x h = ap to_tuple (sym (some_is h))
tuple_back (u ∷ []) false x h = absurd cc
tuple_back (u ∷ v ∷ ts) c x h = ap to_tuple (sym (some_is h))

pub sees_tuple : Sees to_tuple from_tuple
sees_tuple = record { there = there; back = back }
  where
    there : (x : List TypeTree × Bool) → from_tuple (to_tuple x) ≡ Some x
    there ([], c) = refl
    there (u ∷ [], true) = refl
    there (u ∷ [], false) = refl
    there (u ∷ v ∷ ts, c) = rw (types-types_of ts) refl

    back : (y : TypeTree) (x : List TypeTree × Bool) → from_tuple y ≡ Some x → to_tuple x ≡ y
    back (t.tuple ts c) x h = tuple_back (t.types ts) c x h ∙ ap (λ z. t.tuple z c) (types_of-types ts)
    back (t.paren u) x h = ap to_tuple (sym (some_is h))
    back _ x h = absurd cc

pub sees_impl : Sees to_impl from_impl
sees_impl = record { there = λ x. rw (bounds-bounds_of x.0) refl; back = elim [ t.impl_trait bs e ↦ λ x h. ap to_impl (sym (some_is h)) ∙ ap (λ z. t.impl_trait z e) (bounds_of-bounds bs) | _ ↦ λ x h. absurd cc ] }

pub sees_object : Sees to_object from_object
sees_object = record { there = λ x. rw (bounds-bounds_of x.0) refl; back = elim [ t.trait_object bs e ↦ λ x h. ap to_object (sym (some_is h)) ∙ ap (λ z. t.trait_object z e) (bounds_of-bounds bs) | _ ↦ λ x h. absurd cc ] }

pub only_never : Only t.never is_never
only_never = record { itself = refl; only = elim [ t.never ↦ λ h. refl | _ ↦ λ h. absurd cc ] }

pub only_infer : Only t.infer is_infer
only_infer = record { itself = refl; only = elim [ t.infer ↦ λ h. refl | _ ↦ λ h. absurd cc ] }

pub sees_arg : Sees to_arg from_arg
sees_arg = record { there = λ x. refl; back = λ y x h. ap to_arg (sym (some_is h)) }

pub sees_fn : Sees to_fn from_fn
sees_fn = record { there = λ x. rw (args-args_of x.1.0.0) refl; back = elim [ t.fn_ptr f u a xs e r ↦ λ x h. ap to_fn (sym (some_is h)) ∙ ap (λ z. t.fn_ptr f u a z e r) (args_of-args xs) | _ ↦ λ x h. absurd cc ] }

pub sees_given : Sees t.given from_given
sees_given = record { there = λ x. refl; back = back }
  where
    back : (y : ReturnTree) (x : TypeTree) → from_given y ≡ Some x → t.given x ≡ y
    back (t.given u) x h = ap t.given (sym (some_is h))
    back t.default x h = absurd cc

pub only_default : Only t.default is_default
only_default = record { itself = refl; only = only }
  where
    only : (y : ReturnTree) → is_default y ≡ true → t.default ≡ y
    only t.default h = refl
    only (t.given u) h = absurd cc

pub named_back : (y : TypeTree) (x : QPathTree × MacroEnd) → from_named y ≡ Some x → to_named x ≡ y
named_back (t.path q b ss e) x h = ap to_named (sym (some_is h)) ∙ ap (λ z. t.path q b z e) (segments_of-segments ss)
named_back (t.mac b ss e d ts) x h = ap to_named (sym (some_is h)) ∙ ap (λ z. t.mac b z e d ts) (segments_of-segments ss)
named_back _ x h = absurd cc

pub named_there : (q : t.QSelfTree) (p : PathTree) → from_named (to_named ((q, p), None)) ≡ Some ((q, p), None)
named_there q p = rw (segments-segments_of p.segments) refl

pub macro_there : (p : PathTree) (g : Delimiter × List Tok) → from_named (to_named ((t.no_qself, p), Some g)) ≡ Some ((t.no_qself, p), Some g)
macro_there p g = rw (segments-segments_of p.segments) refl

pub sees_macro : Sees to_macro from_macro
sees_macro = record { there = λ x. refl; back = λ y x h. ap to_macro (sym (some_is h)) }

pub ruleset views = (sees_outer, sees_inner, sees_path, sees_segment, sees_angle, sees_round, only_no_arguments, sees_lifetime, sees_const, sees_assoc, sees_type, sees_trait, sees_outlives, sees_one, sees_several, sees_qualified, sees_bare, sees_reference, sees_pointer, sees_row, sees_tuple, sees_impl, sees_object, only_never, only_infer, sees_arg, sees_fn, sees_given, only_default, sees_macro)
