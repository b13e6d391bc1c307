-- Lists of patterns by their views.
use Rattle.std.proofs.Common.{◌≡◌, List, [], ◌∷◌, ◌++◌, map, flat_map, refl, ap, ◌∙◌, sym}
use Rattle.syn_expr_spec.specs.Tree.{Tree}
use Rattle.syn_lower_spec.specs.Pat as t
use Rattle.syn_lower_spec.specs.Pat.{FieldPatTree}
use Rattle.syn_pat.specs.View.{PatView, pats_in, guards_in, field_pat_of, field_guards}
use Rattle.syn_pat.specs.declared.pat.FieldPatOf.{FieldPatOf}

module _ {A B C : Type 0} (f : A → B) (g : B → C) where
  both : (xs : List A) → map (λ x. g (f x)) xs ≡ map g (map f xs)
  both [] = refl
  both (x ∷ xs) = ap (λ l. g (f x) ∷ l) (both xs)

  pub seen_by : (xs ys : List A) → map f ys ≡ map f xs → map (λ x. g (f x)) ys ≡ map (λ x. g (f x)) xs
  seen_by xs ys h = both ys ∙ ap (map g) h ∙ sym (both xs)

module _ {A B C : Type 0} (f : A → B) (g : B → List C) where
  flat_both : (xs : List A) → flat_map (λ x. g (f x)) xs ≡ flat_map g (map f xs)
  flat_both [] = refl
  flat_both (x ∷ xs) = ap (λ l. g (f x) ++ l) (flat_both xs)

  pub flat_by : (xs ys : List A) → map f ys ≡ map f xs → flat_map (λ x. g (f x)) ys ≡ flat_map (λ x. g (f x)) xs
  flat_by xs ys h = flat_both ys ∙ ap (flat_map g) h ∙ sym (flat_both xs)

module _ {P : Type 0} (f : P → PatView) where
  pub pats_same : (xs ys : List P) → map f ys ≡ map f xs → pats_in f ys ≡ pats_in f xs
  pats_same xs ys h = ap t.pats_of (seen_by f (λ v. v.tree) xs ys h)

  pub guards_same : (xs ys : List P) → map f ys ≡ map f xs → guards_in f ys ≡ guards_in f xs
  guards_same xs ys h = flat_by f (λ v. v.guards) xs ys h

  abbrev pub seen : FieldPatOf P → FieldPatTree × List Tree
  seen x = (field_pat_of f x, field_guards f x.kind)

  pub fields_same : (xs ys : List (FieldPatOf P)) → map seen ys ≡ map seen xs → map (field_pat_of f) ys ≡ map (field_pat_of f) xs
  fields_same xs ys h = seen_by seen (λ q. q.0) xs ys h

  pub field_guards_same : (xs ys : List (FieldPatOf P)) → map seen ys ≡ map seen xs → flat_map (λ z. field_guards f z.kind) ys ≡ flat_map (λ z. field_guards f z.kind) xs
  field_guards_same xs ys h = flat_by seen (λ q. q.1) xs ys h
