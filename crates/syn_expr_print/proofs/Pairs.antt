-- Lists of operands with commas, as they are printed: those that commas follow, and the last.
use Rattle.std.specs.Prelude.{not, ◌||◌, Option, Some, None, is_some, map}
use Rattle.std.proofs.Common.{◌≡◌, ◌+◌, Bool, true, false, List, [], ◌∷◌, ◌++◌, refl, sym, ap, ◌∙◌, append_assoc, arith}
use Rattle.std.proofs.lemmas.List.{append-nil}
use Rattle.std.specs.declared.boxed.Box.{Box}
use Rattle.std.specs.declared.alloc.Global.{Global}
use Rattle.syn_lower_spec.specs.Own.{alone}
use Rattle.syn_lower_leaves.specs.View.{values, trails}
use Rattle.syn_lower_leaves.specs.Printed.{comma, pairs_printed}
use Rattle.syn_lower_leaves.specs.declared.punctuated.Punctuated.{Punctuated}
use Rattle.syn_expr_spec.specs.Next.{enclosed}
use Rattle.syn_expr_spec.specs.Summaries.{stack, children_below}
use Rattle.syn_expr_spec.specs.Tree as e
use Rattle.syn_expr_spec.specs.Tree.{Tree, Children, size, children_size}
use Rattle.syn_expr_ast.specs.View.{FieldView, boxed, elements, fields, option_child}
use Rattle.syn_expr_fixup.specs.Below.{backwards, total, field_below, option_below}
use Rattle.syn_expr_fixup.proofs.Lists.{silent_if, rest_below}
use Rattle.syn_expr_print.specs.Placed.{comma_if, last_field_below, last_field_size, last_field_spelled, last_spelled, option_size, rest_spelled}
use Rattle.syn_expr_ast.specs.Printed.{whole, field_spelled}
use Rattle.syn_expr_print.specs.Printing.{children_spelled}
use Rattle.syn_expr_print.proofs.Children.{none-spelled, element-comma, element-last, rest-spelled}
use Rattle.syn_expr_print.proofs.Lists.{last_child, pair_children, lists-elements}
use Rattle.syn_expr_print.proofs.Fields.{field_children, last_field, fields-are, field-comma, field-last}

-- ---- elements

pairs-text : {E P : Type 0} (f : E → Tree) (last : Bool) (ps : List (E × P)) (ks : Children) → children_spelled last (pair_children f ps ks) ≡ pairs_printed (λ x. whole enclosed (f x)) comma ps ++ children_spelled last ks
pairs-text f last [] ks = refl
pairs-text f last (q ∷ ps) ks =
    element-comma last (f q.0) (pair_children f ps ks)
    ∙ ap (λ l. whole enclosed (f q.0) ++ (alone 44 ∷ l)) (pairs-text f last ps ks)
    ∙ sym (append_assoc (whole enclosed (f q.0)) (alone 44 ∷ []) (pairs_printed (λ x. whole enclosed (f x)) comma ps ++ children_spelled last ks))
    ∙ sym (append_assoc (whole enclosed (f q.0) ++ alone 44 ∷ []) (pairs_printed (λ x. whole enclosed (f x)) comma ps) (children_spelled last ks))

pairs-below : {E P : Type 0} (f : E → Tree) (ps : List (E × P)) (ks : Children) → children_below (pair_children f ps ks) ≡ children_below ks ++ backwards (λ q. stack (f q.0)) ps
pairs-below f [] ks = sym (append-nil (children_below ks))
pairs-below f (q ∷ ps) ks = ap (λ l. l ++ stack (f q.0)) (pairs-below f ps ks) ∙ append_assoc (children_below ks) (backwards (λ q. stack (f q.0)) ps) (stack (f q.0))

pairs-size : {E P : Type 0} (f : E → Tree) (ps : List (E × P)) (ks : Children) → children_size (pair_children f ps ks) ≡ total (λ q. size (f q.0)) ps + children_size ks
pairs-size f [] ks = omega arith
pairs-size f (q ∷ ps) ks = omega (arith, pairs-size f ps ks)

module _ {E P : Type 0} (f : E → Tree) (p : Punctuated E P) where
  pub elements-text : (last : Bool) → children_spelled last (elements (map f (values p)) (trails p)) ≡ pairs_printed (λ x. whole enclosed (f x)) comma p.inner.items ++ last_spelled (boxed f p.last) last
  elements-text last =
      ap (children_spelled last) (lists-elements f p)
      ∙ pairs-text f last p.inner.items (last_child f p.last)
      ∙ ap (λ l. pairs_printed (λ x. whole enclosed (f x)) comma p.inner.items ++ l) (by p.last)
    where
      by : (o : Option (Box E Global)) → children_spelled last (last_child f o) ≡ last_spelled (boxed f o) last
      by None = none-spelled last
      by (Some b) = element-last last (f b.value)

  pub elements-below : children_below (elements (map f (values p)) (trails p)) ≡ option_below (boxed f p.last) ++ backwards (λ q. stack (f q.0)) p.inner.items
  elements-below = ap children_below (lists-elements f p) ∙ pairs-below f p.inner.items (last_child f p.last) ∙ ap (λ l. l ++ backwards (λ q. stack (f q.0)) p.inner.items) (by p.last)
    where
      by : (o : Option (Box E Global)) → children_below (last_child f o) ≡ option_below (boxed f o)
      by None = refl
      by (Some b) = refl

  pub elements-size : children_size (elements (map f (values p)) (trails p)) ≡ total (λ q. size (f q.0)) p.inner.items + option_size (boxed f p.last)
  elements-size =
      let s = ap children_size (lists-elements f p) in
      let t = pairs-size f p.inner.items (last_child f p.last) in
      let u = by p.last in omega arith
    where
      by : (o : Option (Box E Global)) → children_size (last_child f o) ≡ option_size (boxed f o)
      by None = refl
      by (Some b) = omega arith

-- ---- fields, before a rest

field-pairs-text : {F P : Type 0} (f : F → FieldView) (last : Bool) (ps : List (F × P)) (ks : Children) → children_spelled last (field_children f ps ks) ≡ pairs_printed (λ x. field_spelled (f x)) comma ps ++ children_spelled last ks
field-pairs-text f last [] ks = refl
field-pairs-text f last (q ∷ ps) ks =
    field-comma last (f q.0) (field_children f ps ks)
    ∙ ap (λ l. field_spelled (f q.0) ++ (alone 44 ∷ l)) (field-pairs-text f last ps ks)
    ∙ sym (append_assoc (field_spelled (f q.0)) (alone 44 ∷ []) (pairs_printed (λ x. field_spelled (f x)) comma ps ++ children_spelled last ks))
    ∙ sym (append_assoc (field_spelled (f q.0) ++ alone 44 ∷ []) (pairs_printed (λ x. field_spelled (f x)) comma ps) (children_spelled last ks))

field-pairs-below : {F P : Type 0} (f : F → FieldView) (ps : List (F × P)) (ks : Children) → children_below (field_children f ps ks) ≡ children_below ks ++ backwards (λ q. field_below (f q.0)) ps
field-pairs-below f [] ks = sym (append-nil (children_below ks))
field-pairs-below f (q ∷ ps) ks =
    ap (λ l. children_below (field_children f ps ks) ++ l) (silent_if (f q.0).colon [] (stack (f q.0).value))
    ∙ ap (λ l. l ++ field_below (f q.0)) (field-pairs-below f ps ks)
    ∙ append_assoc (children_below ks) (backwards (λ q. field_below (f q.0)) ps) (field_below (f q.0))

field-pairs-size : {F P : Type 0} (f : F → FieldView) (ps : List (F × P)) (ks : Children) → children_size (field_children f ps ks) ≡ total (λ q. size (f q.0).value) ps + children_size ks
field-pairs-size f [] ks = omega arith
field-pairs-size f (q ∷ ps) ks = omega (arith, field-pairs-size f ps ks)

rest-text : (last d : Bool) (o : Option Tree) → children_spelled last (option_child (e.rest d) o) ≡ rest_spelled o
rest-text last d None = none-spelled last
rest-text last d (Some t) = rest-spelled last d t

rest-size : (d : Bool) (o : Option Tree) → children_size (option_child (e.rest d) o) ≡ option_size o
rest-size d None = refl
rest-size d (Some t) = omega arith

rest-none : (d : Bool) (o : Option Tree) → not (e.is_none (option_child (e.rest d) o)) ≡ is_some o
rest-none d None = refl
rest-none d (Some t) = refl

module _ {F P : Type 0} (f : F → FieldView) (p : Punctuated F P) (d : Bool) (r : Option Tree) where
  abbrev FieldText : Bool → Option (Box F Global) → Type 0
  FieldText last o = children_spelled last (last_field f o (option_child (e.rest d) r)) ≡ last_field_spelled (boxed f o) (last || is_some r) ++ rest_spelled r

  field-text : (last : Bool) (o : Option (Box F Global)) → FieldText last o
  field-text last None = rest-text last d r
  field-text last (Some b) =
      let ks = option_child (e.rest d) r in
      let v = f b.value in
      field-last last v ks
      ∙ ap (λ w. field_spelled v ++ (comma_if (w || last) ++ children_spelled last ks)) (rest-none d r)
      ∙ ap (λ w. field_spelled v ++ (comma_if w ++ children_spelled last ks)) (either (is_some r) last)
      ∙ ap (λ l. field_spelled v ++ (comma_if (last || is_some r) ++ l)) (rest-text last d r)
      ∙ sym (append_assoc (field_spelled v) (comma_if (last || is_some r)) (rest_spelled r))
    where
      either : (a b : Bool) → a || b ≡ b || a
      either true true = refl
      either true false = refl
      either false true = refl
      either false false = refl

  pub fields-text : (last : Bool) → children_spelled last (fields (map f (values p)) (trails p) (option_child (e.rest d) r))
      ≡ pairs_printed (λ x. field_spelled (f x)) comma p.inner.items ++ (last_field_spelled (boxed f p.last) (last || is_some r) ++ rest_spelled r)
  fields-text last =
      ap (children_spelled last) (fields-are f p (option_child (e.rest d) r))
      ∙ field-pairs-text f last p.inner.items (last_field f p.last (option_child (e.rest d) r))
      ∙ ap (λ l. pairs_printed (λ x. field_spelled (f x)) comma p.inner.items ++ l) (field-text last p.last)

  pub fields-below : children_below (fields (map f (values p)) (trails p) (option_child (e.rest d) r))
      ≡ option_below r ++ (last_field_below (boxed f p.last) ++ backwards (λ q. field_below (f q.0)) p.inner.items)
  fields-below =
      ap children_below (fields-are f p (option_child (e.rest d) r))
      ∙ field-pairs-below f p.inner.items (last_field f p.last (option_child (e.rest d) r))
      ∙ ap (λ l. l ++ backwards (λ q. field_below (f q.0)) p.inner.items) (by p.last)
      ∙ append_assoc (option_below r) (last_field_below (boxed f p.last)) (backwards (λ q. field_below (f q.0)) p.inner.items)
    where
      by : (o : Option (Box F Global)) → children_below (last_field f o (option_child (e.rest d) r)) ≡ option_below r ++ last_field_below (boxed f o)
      by None = rest_below d r ∙ sym (append-nil (option_below r))
      by (Some b) =
          ap (λ l. children_below (option_child (e.rest d) r) ++ l) (silent_if (f b.value).colon [] (stack (f b.value).value))
          ∙ ap (λ l. l ++ field_below (f b.value)) (rest_below d r)

  pub fields-size : children_size (fields (map f (values p)) (trails p) (option_child (e.rest d) r))
      ≡ total (λ q. size (f q.0).value) p.inner.items + (last_field_size (boxed f p.last) + option_size r)
  fields-size =
      let s = ap children_size (fields-are f p (option_child (e.rest d) r)) in
      let t = field-pairs-size f p.inner.items (last_field f p.last (option_child (e.rest d) r)) in
      let u = by p.last in
      let v = rest-size d r in omega arith
    where
      by : (o : Option (Box F Global)) → children_size (last_field f o (option_child (e.rest d) r)) ≡ last_field_size (boxed f o) + children_size (option_child (e.rest d) r)
      by None = omega arith
      by (Some b) = refl

pub boxed-some : {E T : Type 0} (f : E → T) (o : Option (Box E Global)) → is_some (boxed f o) ≡ is_some o
boxed-some f None = refl
boxed-some f (Some b) = refl

pub ruleset rests = (boxed-some)
