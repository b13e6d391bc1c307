-- What is printed of the fields of a struct expression.
use Rattle.std.specs.Prelude.{not, ◌||◌, ◌&&◌, if◌then◌else◌, Option, Some, None, is_some, map}
use Rattle.std.proofs.Common.{◌≡◌, Bool, true, false, List, [], ◌∷◌, ◌++◌, refl, sym, ap, ◌∙◌, append_assoc}
use Rattle.std.proofs.lemmas.List.{append-nil}
use Rattle.std.specs.declared.boxed.Box.{Box}
use Rattle.std.specs.declared.alloc.Global.{Global}
use Rattle.syn_tokens.specs.Tok.{Tok}
use Rattle.syn_lower_spec.specs.Tree.{AttributeTree}
use Rattle.syn_lower_spec.specs.Pat.{MemberTree}
use Rattle.syn_lower_spec.specs.Own.{alone}
use Rattle.syn_lower_leaves.specs.View.{values, trails, last_of, is_some_pair}
use Rattle.syn_lower_leaves.specs.declared.punctuated.Punctuated.{Punctuated}
use Rattle.syn_expr_spec.specs.Next.{enclosed}
use Rattle.syn_expr_spec.specs.Tree as e
use Rattle.syn_expr_spec.specs.Tree.{Tree, Children, Ending, child, piece_own, ending_own, is_none, with_comma}
use Rattle.syn_expr_ast.specs.View.{FieldView, fields}
use Rattle.syn_expr_ast.specs.Printed.{whole, field_spelled}
use Rattle.syn_expr_print.specs.Printing.{children_spelled, piece_spelled}
use Rattle.syn_expr_print.specs.Placed.{comma_if}
use Rattle.syn_expr_print.proofs.Children.{loud-spelled, silent-spelled, comma-stays}

-- fields with the commas after them, before others
abbrev pub field_children : {F P : Type 0} → (F → FieldView) → List (F × P) → Children → Children
field_children f [] ks = ks
field_children f (q ∷ more) ks = child (e.field_value (f q.0).attrs (f q.0).member (f q.0).colon) e.comma (f q.0).value (field_children f more ks)

-- the last field, after which no comma stands
abbrev pub last_field : {F : Type 0} → (F → FieldView) → Option (Box F Global) → Children → Children
last_field f None ks = ks
last_field f (Some x) ks = child (e.field_value (f x.value).attrs (f x.value).member (f x.value).colon) e.no_ending (f x.value).value ks

fields-last : {F P : Type 0} (f : F → FieldView) (ps : List (F × P)) (x : F) (ks : Children) → fields (map f (map (λ q. q.0) ps ++ x ∷ [])) false ks
    ≡ field_children f ps (child (e.field_value (f x).attrs (f x).member (f x).colon) e.no_ending (f x).value ks)
fields-last f [] x ks = refl
fields-last f (q ∷ []) x ks = refl
fields-last f (q ∷ (r ∷ more)) x ks = ap (λ z. child (e.field_value (f q.0).attrs (f q.0).member (f q.0).colon) e.comma (f q.0).value z) (fields-last f (r ∷ more) x ks)

fields-trailing : {F P : Type 0} (f : F → FieldView) (ps : List (F × P)) (ks : Children) → fields (map f (map (λ q. q.0) ps ++ [])) true ks ≡ field_children f ps ks
fields-trailing f [] ks = refl
fields-trailing f (q ∷ []) ks = refl
fields-trailing f (q ∷ (r ∷ more)) ks = ap (λ z. child (e.field_value (f q.0).attrs (f q.0).member (f q.0).colon) e.comma (f q.0).value z) (fields-trailing f (r ∷ more) ks)

fields-by : {F P : Type 0} (f : F → FieldView) (ps : List (F × P)) (o : Option (Box F Global)) (ks : Children)
    → fields (map f (map (λ q. q.0) ps ++ last_of o)) (is_some_pair ps && not (is_some o)) ks ≡ field_children f ps (last_field f o ks)
fields-by f [] None ks = refl
fields-by f [] (Some x) ks = refl
fields-by f (q ∷ ps) None ks = fields-trailing f (q ∷ ps) ks
fields-by f (q ∷ ps) (Some x) ks = fields-last f (q ∷ ps) x.value ks

pub fields-are : {F P : Type 0} (f : F → FieldView) (p : Punctuated F P) (ks : Children) → fields (map f (values p)) (trails p) ks ≡ field_children f p.inner.items (last_field f p.last ks)
unfolding values trails
fields-are f p ks = fields-by f p.inner.items p.last ks

value-is : (a : List AttributeTree) (m : MemberTree) (c : Bool) (t : Tree) → piece_spelled (e.field_value a m c) t ≡ (if not c then piece_spelled (e.field_value a m false) t else whole enclosed t)
unfolding piece_spelled whole
value-is a m true t = refl
value-is a m false t = refl

-- a field whatever is after it
field-by : (last : Bool) (c : Ending) (a : List AttributeTree) (m : MemberTree) (colon : Bool) (t : Tree) (ks : Children)
    → children_spelled last (child (e.field_value a m colon) c t ks)
    ≡ field_spelled (record { attrs = a; member = m; colon = colon; value = t }) ++ ending_own (e.field_value a m colon) (with_comma (not (is_none ks) || last) c) (children_spelled last ks) []
unfolding field_spelled
field-by last c a m true t ks =
    loud-spelled last (e.field_value a m true) c t ks refl
    ∙ ap (λ l. piece_own (e.field_value a m true) [] ++ (l ++ ending_own (e.field_value a m true) (with_comma (not (is_none ks) || last) c) (children_spelled last ks) [])) (value-is a m true t)
    ∙ sym (append_assoc (piece_own (e.field_value a m true) []) (whole enclosed t) (ending_own (e.field_value a m true) (with_comma (not (is_none ks) || last) c) (children_spelled last ks) []))
field-by last c a m false t ks =
    silent-spelled last (e.field_value a m false) c t ks refl
    ∙ ap (λ l. l ++ ending_own (e.field_value a m false) (with_comma (not (is_none ks) || last) c) (children_spelled last ks) []) (sym (append-nil (piece_own (e.field_value a m false) [])))

pub field-comma : (last : Bool) (x : FieldView) (ks : Children)
    → children_spelled last (child (e.field_value x.attrs x.member x.colon) e.comma x.value ks) ≡ field_spelled x ++ (alone 44 ∷ children_spelled last ks)
field-comma last x ks =
    field-by last e.comma x.attrs x.member x.colon x.value ks
    ∙ ap (λ c. field_spelled x ++ ending_own (e.field_value x.attrs x.member x.colon) c (children_spelled last ks) []) (comma-stays (not (is_none ks) || last))

filled : (x : FieldView) (b : Bool) (l : List Tok) → ending_own (e.field_value x.attrs x.member x.colon) (with_comma b e.no_ending) l [] ≡ comma_if b ++ l
filled x true l = refl
filled x false l = refl

pub field-last : (last : Bool) (x : FieldView) (ks : Children)
    → children_spelled last (child (e.field_value x.attrs x.member x.colon) e.no_ending x.value ks) ≡ field_spelled x ++ (comma_if (not (is_none ks) || last) ++ children_spelled last ks)
field-last last x ks =
    field-by last e.no_ending x.attrs x.member x.colon x.value ks ∙ ap (λ l. field_spelled x ++ l) (filled x (not (is_none ks) || last) (children_spelled last ks))
