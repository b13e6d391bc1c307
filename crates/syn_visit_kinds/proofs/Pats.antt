-- Patterns in patterns, each as a call left it.
use Rattle.std.proofs.Common.{◌≡◌, Bool, List, [], ◌∷◌, ◌++◌, map, flat_map, Option, Some, None, Result, Ok, refl, sym, ap, ◌∙◌}
use Rattle.std.proofs.lemmas.List.{append-nil}
use Rattle.std.specs.declared.alloc.Global.{Global}
use Rattle.std.specs.declared.vec.Vec.{Vec}
use Rattle.std.specs.declared.boxed.Box.{Box}
use Rattle.syn_lower_spec.specs.Tree.{AttributeTree, PathTree}
use Rattle.syn_lower_spec.specs.Pat as t
use Rattle.syn_lower_spec.specs.Pat.{PatTree, Pats, SubPat, FieldTree, FieldPatTree}
use Rattle.syn_expr_spec.specs.Tree.{Tree}
use Rattle.syn_lower_leaves.specs.declared.attr.Attribute.{Attribute}
use Rattle.syn_lower_leaves.specs.declared.punctuated.Punctuated.{Punctuated}
use Rattle.syn_pat.specs.View.{PatView, attributed_by, pats_in, guards_in, values, trails, view_with, attributes_of, field_of, field_pat_of, field_guards, member_of, sub_guards, sub_of}
use Rattle.syn_pat.specs.declared.pat.FieldPatKindOf.{FieldPatKindOf}
use Rattle.syn_pat.specs.declared.pat.FieldPatKindOf.TheVariants as field
use Rattle.syn_pat.specs.declared.pat.FieldPatOf.{FieldPatOf}
use Rattle.syn_visit_kinds.specs.Changes.{Changed, ended, refused, went, ChangedGuards, ChangedPats}
use Rattle.syn_visit_kinds.specs.Parts.{ChangedField, else_operand, field_pattern}
use Rattle.syn_visit_kinds.proofs.Changes.{changed_alike, changed_flat, changed_one, changed_same}

-- a field of a struct pattern, as a call left the pattern in it
pub record OfField {P R : Type 0} (call : P → Result (Unit {0}) R → P → Type 0) (x : FieldPatOf P) (r : Result (Unit {0}) R) (y : FieldPatOf P) : Type 0 where
  pub attrs : y.attrs ≡ x.attrs
  pub kind : ChangedField call x.kind r y.kind

abbrev in_field : {P : Type 0} → FieldPatOf P → List P
in_field x = field_pattern x.kind

kind_changed : {P R : Type 0} (call : P → Result (Unit {0}) R → P → Type 0) (x : FieldPatKindOf P) (r : Result (Unit {0}) R) (y : FieldPatKindOf P) → ChangedField call x r y → Changed call (field_pattern x) r (field_pattern y)
kind_changed call (field.Short x) (Ok u) (field.Short y) h = ended
kind_changed call (field.Short x) _ (field.Short y) h = absurd (cc)
kind_changed call (field.Full x) r (field.Full y) h = changed_one r h.1
kind_changed call (field.Short x) r (field.Full y) h = absurd h
kind_changed call (field.Full x) r (field.Short y) h = absurd h

module _ {P : Type 0} (view : P → PatView) where
  abbrev tree : P → PatTree
  tree p = (view p).tree

  -- what comes after `@`
  sub_had : {A : Type 0} (x : Option (A × Box P Global)) → sub_guards view x ≡ guards_in view (else_operand x)
  sub_had None = refl
  sub_had (Some q) = sym (append-nil (view q.1.value).guards)

  sub_rest : {A : Type 0} (x y : Option (A × Box P Global)) → map tree (else_operand y) ≡ map tree (else_operand x) → sub_of view y ≡ sub_of view x
  sub_rest None None same = refl
  sub_rest (Some x) (Some y) same = cc
  sub_rest _ _ same = absurd (cc)

  kind_had : (k : FieldPatKindOf P) (gs : List Tree) (ps : List P) → gs ≡ guards_in view ps → field_guards view k ++ gs ≡ guards_in view (field_pattern k ++ ps)
  kind_had (field.Short s) gs ps is = is
  kind_had (field.Full s) gs ps is = ap (λ l. (view s.pat.value).guards ++ l) is

  fields_had : (xs : List (FieldPatOf P)) → flat_map (λ y. field_guards view y.kind) xs ≡ guards_in view (flat_map in_field xs)
  fields_had [] = refl
  fields_had (x ∷ xs) = kind_had x.kind (flat_map (λ y. field_guards view y.kind) xs) (flat_map in_field xs) (fields_had xs)

  -- a field, and those after it
  kind_rest : {R : Type 0} (call : P → Result (Unit {0}) R → P → Type 0) (x : FieldPatKindOf P) (r : Result (Unit {0}) R) (y : FieldPatKindOf P) (ps qs : List P) → ChangedField call x r y → map tree (field_pattern y ++ qs) ≡ map tree (field_pattern x ++ ps)
      → (field_of view y ≡ field_of view x) × (map tree qs ≡ map tree ps)
  kind_rest call (field.Short x) r (field.Short y) ps qs h same = (ap (λ s. field_of view (field.Short s)) h.1, same)
  kind_rest call (field.Full x) r (field.Full y) ps qs h same =
      let is : tree y.pat.value ≡ tree x.pat.value = cc in
      (ap (λ m. t.full (member_of m) (tree y.pat.value)) h.0 ∙ ap (t.full (member_of x.member)) is, cc)
  kind_rest call (field.Short x) r (field.Full y) ps qs h same = absurd h
  kind_rest call (field.Full x) r (field.Short y) ps qs h same = absurd h

  field_made : (x y : FieldPatOf P) → y.attrs ≡ x.attrs → field_of view y.kind ≡ field_of view x.kind → field_pat_of view y ≡ field_pat_of view x
  field_made x y attrs is =
      let both : List AttributeTree → FieldTree → FieldPatTree = λ ats k. record { attrs = ats; field = k } in
      ap (λ v. both (attributes_of v) (field_of view y.kind)) attrs ∙ ap (both (attributes_of x.attrs)) is

  fields_rest : {R : Type 0} {call : P → Result (Unit {0}) R → P → Type 0} {xs ys : List (FieldPatOf P)} {r : Result (Unit {0}) R} → Changed (OfField call) xs r ys → map tree (flat_map in_field ys) ≡ map tree (flat_map in_field xs) → map (field_pat_of view) ys ≡ map (field_pat_of view) xs
  fields_rest ended same = refl
  fields_rest {call = call} (refused {x = x} {y = y} {xs = xs} h) same =
      let both = kind_rest call x.kind _ y.kind (flat_map in_field xs) (flat_map in_field xs) h.kind same in
      ap (λ z. z ∷ map (field_pat_of view) xs) (field_made x y h.attrs both.0)
  fields_rest {call = call} (went {x = x} {y = y} {xs = xs} {ys = ys} h c) same =
      let both = kind_rest call x.kind _ y.kind (flat_map in_field xs) (flat_map in_field ys) h.kind same in
      ap (λ z. z ∷ map (field_pat_of view) ys) (field_made x y h.attrs both.0) ∙ ap (λ l. field_pat_of view x ∷ l) (fields_rest c both.1)

-- ---- each kind

module _ {P R : Type 0} (view : P → PatView) {call : P → Result (Unit {0}) R → P → Type 0} where
  -- a pattern that holds one
  pub one_changed : (k : PatTree → PatTree) (v : Vec Attribute Global) {x y : P} (r : Result (Unit {0}) R) → call x r y
      → ChangedPats view call (view_with v (k (view x).tree) (view x).guards) r (view_with v (k (view y).tree) (view y).guards)
  one_changed k v {x = x} {y = y} r h = record {
    olds = x ∷ [];
    news = y ∷ [];
    patterns = changed_one r h;
    had = sym (append-nil (view x).guards);
    has = sym (append-nil (view y).guards);
    rest = λ same. let is : (view y).tree ≡ (view x).tree = cc in ap (λ q. attributed_by (attributes_of v) (k q)) is;
  }

  -- a pattern that holds a list
  pub list_changed : {Q : Type 0} (k : Pats → Bool → PatTree) (v : Vec Attribute Global) (x y : Punctuated P Q) {r : Result (Unit {0}) R} → Changed call (values x) r (values y) → trails y ≡ trails x
      → ChangedPats view call (view_with v (k (pats_in view (values x)) (trails x)) (guards_in view (values x))) r (view_with v (k (pats_in view (values y)) (trails y)) (guards_in view (values y)))
  list_changed k v x y c trailing = record {
    olds = values x;
    news = values y;
    patterns = c;
    had = refl;
    has = refl;
    rest = λ same. ap (λ ps. attributed_by (attributes_of v) (k (t.pats_of ps) (trails y))) same ∙ ap (λ b. attributed_by (attributes_of v) (k (pats_in view (values x)) b)) trailing;
  }

  pub sub_changed : {A : Type 0} (k : SubPat → PatTree) (v : Vec Attribute Global) (x y : Option (A × Box P Global)) {r : Result (Unit {0}) R} → Changed call (else_operand x) r (else_operand y)
      → ChangedPats view call (view_with v (k (sub_of view x)) (sub_guards view x)) r (view_with v (k (sub_of view y)) (sub_guards view y))
  sub_changed k v x y c = record {
    olds = else_operand x;
    news = else_operand y;
    patterns = c;
    had = sub_had view x;
    has = sub_had view y;
    rest = λ same. ap (λ q. attributed_by (attributes_of v) (k q)) (sub_rest view x y same);
  }

  pub struct_changed : {Q : Type 0} (v : Vec Attribute Global) (p : PathTree) (rest : Bool) (x y : Punctuated (FieldPatOf P) Q) {r : Result (Unit {0}) R} → Changed (OfField call) (values x) r (values y) → trails y ≡ trails x
      → ChangedPats view call (view_with v (t.a_struct p (t.fields_of (map (field_pat_of view) (values x))) (trails x) rest) (flat_map (λ z. field_guards view z.kind) (values x))) r
      (view_with v (t.a_struct p (t.fields_of (map (field_pat_of view) (values y))) (trails y) rest) (flat_map (λ z. field_guards view z.kind) (values y)))
  struct_changed v p rest x y c trailing = record {
    olds = flat_map in_field (values x);
    news = flat_map in_field (values y);
    patterns = changed_flat in_field (λ a b z h. kind_changed call a.kind b z.kind h.kind) c;
    had = fields_had view (values x);
    has = fields_had view (values y);
    rest = λ same.
        ap (λ l. attributed_by (attributes_of v) (t.a_struct p (t.fields_of l) (trails y) rest)) (fields_rest view c same)
        ∙ ap (λ b. attributed_by (attributes_of v) (t.a_struct p (t.fields_of (map (field_pat_of view) (values x))) b rest)) trailing;
  }

-- ---- guards

-- where the guards of each pattern are passed to a call
pub guards_changed : {P R : Type 0} {view : P → PatView} {from : P → Result (Unit {0}) R → P → Type 0} {to : Tree → Result (Unit {0}) R → Tree → Type 0} {v w : PatView} {r : Result (Unit {0}) R}
    → ChangedPats view from v r w → ((x : P) (a : Result (Unit {0}) R) (y : P) → from x a y → ChangedGuards to (view x) a (view y)) → ChangedGuards to v r w
guards_changed {view = view} c says = record {
  guards = changed_same c.had c.has (changed_flat (λ p. (view p).guards) (λ x a y h. (says x a y h).guards) c.patterns);
  tree = c.rest (changed_alike (λ p. (view p).tree) (λ x a y h. (says x a y h).tree) c.patterns);
}
