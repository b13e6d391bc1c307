-- The equality of struct expressions, by that of the expressions in their fields.
use Rattle.std.proofs.Common.{◌≡◌, Bool, true, false, not, ◌&&◌, List, [], ◌∷◌, map, Option, Some, None, is_some, refl, sym, ◌∙◌, ap}
use denote.RattleType.{RattleType}
use Rattle.syn_lower_spec.specs.Tree.{QSelfTree, PathTree}
use Rattle.syn_expr_spec.specs.Tree as e
use Rattle.syn_expr_spec.specs.Tree.{Tree, Children, frame, child}
use Rattle.syn_lower_spec.specs.Equal.{IsEqualityOf}
use Rattle.syn_lower_leaves.specs.View.{mapped}
use Rattle.syn_lower_leaves.proofs.Ties.{both_tie, on_tie, into_tie, some_tie, pair_path}
use Rattle.syn_lower.specs.View.{type_of, path_of, qself_or, values, trails, is_some_pair}
use Rattle.syn_laws.proofs.ListTies.{punctuated_tie}
use Rattle.syn_laws.proofs.LowerSames.{path_tie}
use Rattle.syn_expr_ast.specs.View.{boxed, FieldView, fields, option_child, field_value_of, expr_struct_of}
use Rattle.syn_expr_ast.specs.declared.structure.ExprStructOf.{ExprStructOf}
use Rattle.syn_expr_ast.specs.contracts.structure.ExprStructOfPartialEq.TheImpl as struct_test
use Rattle.syn_laws.proofs.Shapes.{behind_tie, boxed_tie, is_comma, trailed}
use Rattle.syn_laws.proofs.TreeEq.{no_dict, qself_or_tie, field_value_kind_tie}

fields_in : Children → List FieldView
fields_in (child (e.field_value a m c) d x ks) = record { attrs = a; member = m; colon = c; value = x } ∷ fields_in ks
fields_in _ = []

comma_in : Children → Bool
comma_in (child (e.field_value a m c) d x (child (e.field_value b n f) g y ks)) = comma_in (child (e.field_value b n f) g y ks)
comma_in (child (e.field_value a m c) d x ks) = is_comma d
comma_in _ = false

rest_in : Children → Option (Bool × Tree)
rest_in (child (e.field_value a m c) d x ks) = rest_in ks
rest_in (child (e.rest b) d x ks) = Some (b, x)
rest_in _ = None

abbrev rest_child : Bool → Option Tree → Children
rest_child d r = option_child (e.rest d) r

fields_known : (l : List FieldView) (t d : Bool) (r : Option Tree) → fields_in (fields l t (rest_child d r)) ≡ l
unfolding fields_in
fields_known [] t d None = refl
fields_known [] t d (Some x) = refl
fields_known (f ∷ fs) t d r = ap (λ l. f ∷ l) (fields_known fs t d r)

rest_known : (l : List FieldView) (t d : Bool) (r : Option Tree) → rest_in (fields l t (rest_child d r)) ≡ mapped {B = Bool × Tree} (λ x. (d, x)) r
unfolding rest_in
rest_known [] t d None = refl
rest_known [] t d (Some x) = refl
rest_known (f ∷ fs) t d r = rest_known fs t d r

comma_known : (l : List FieldView) (t d : Bool) (r : Option Tree) → comma_in (fields l t (rest_child d r)) ≡ (is_some_pair l && t)
unfolding comma_in is_comma
comma_known [] t d None = refl
comma_known [] t d (Some x) = refl
comma_known (f ∷ []) true d None = refl
comma_known (f ∷ []) false d None = refl
comma_known (f ∷ []) true d (Some x) = refl
comma_known (f ∷ []) false d (Some x) = refl
comma_known (f ∷ g ∷ fs) t d r = comma_known (g ∷ fs) t d r

-- with no rest the struct expression itself says whether `..` is there
dots_known : (d c : Bool) (r s : Option Tree) → (d && not (is_some r)) ≡ (c && not (is_some s)) → mapped {B = Bool × Tree} (λ x. (d, x)) r ≡ mapped {B = Bool × Tree} (λ x. (c, x)) s → (d ≡ c) × (r ≡ s)
dots_known true true None None h k = (refl, refl)
dots_known true false None None h k = absurd cc
dots_known false true None None h k = absurd cc
dots_known false false None None h k = (refl, refl)
dots_known d c (Some x) (Some y) h k = let p : ◌≡◌ {A = Bool × Tree} (d, x) (c, y) = cc in (ap (λ q. q.0) p, ap (λ q. Some q.1) p)
dots_known d c None (Some y) h k = absurd cc
dots_known d c (Some x) None h k = absurd cc

abbrev Parts : Type 0
Parts = QSelfTree × (PathTree × ((List FieldView × Bool) × (Bool × Option Tree)))

abbrev struct_with : Parts → Tree
struct_with p = frame (e.structure p.0 p.1.0 (p.1.1.1.0 && not (is_some p.1.1.1.1))) (fields p.1.1.0.0 p.1.1.0.1 (rest_child p.1.1.1.0 p.1.1.1.1))

module _ (T : RattleType) {f : T.Denot → Tree} {E : T.Denot → T.Denot → Bool} (tie : IsEqualityOf f E) where
  abbrev S : Type 0
  S = ExprStructOf T.Denot

  abbrev parts : S → Parts
  parts x = (qself_or type_of x.qself, (path_of type_of x.path, ((map (field_value_of f) (values x.fields), trails x.fields), (is_some x.dot2_token, boxed f x.rest))))

  parts_once : (x y : S) → struct_with (parts x) ≡ struct_with (parts y) → parts x ≡ parts y
  parts_once x y h =
      let p = parts x in let q = parts y in
      let k : fields p.1.1.0.0 p.1.1.0.1 (rest_child p.1.1.1.0 p.1.1.1.1) ≡ fields q.1.1.0.0 q.1.1.0.1 (rest_child q.1.1.1.0 q.1.1.1.1) = cc in
      let r = dots_known p.1.1.1.0 q.1.1.1.0 p.1.1.1.1 q.1.1.1.1 (cc)
      (sym (rest_known p.1.1.0.0 p.1.1.0.1 p.1.1.1.0 p.1.1.1.1) ∙ (ap rest_in k ∙ rest_known q.1.1.0.0 q.1.1.0.1 q.1.1.1.0 q.1.1.1.1)) in
      pair_path (cc) (pair_path (cc) (pair_path
      (pair_path
      (sym (fields_known p.1.1.0.0 p.1.1.0.1 p.1.1.1.0 p.1.1.1.1) ∙ (ap fields_in k ∙ fields_known q.1.1.0.0 q.1.1.0.1 q.1.1.1.0 q.1.1.1.1))
      (trailed (field_value_of f) x.fields ∙ (sym (comma_known p.1.1.0.0 p.1.1.0.1 p.1.1.1.0 p.1.1.1.1) ∙ (ap comma_in k ∙ (comma_known q.1.1.0.0 q.1.1.0.1 q.1.1.1.0 q.1.1.1.1 ∙ sym (trailed (field_value_of f) y.fields))))))
      (pair_path r.0 r.1)))

  pub struct_kind_tie : IsEqualityOf (expr_struct_of f) (struct_test.ghosts T (record { eq = E }) no_dict).eq
  struct_kind_tie =
      let it = behind_tie {A = S} (λ x. x.attrs) (λ x. refl) (into_tie {f = parts} (λ x. struct_with (parts x)) (λ x y h. ap struct_with h) parts_once
      (both_tie (on_tie {C = S} (λ x. x.qself) qself_or_tie) (both_tie (on_tie {C = S} (λ x. x.path) path_tie)
      (both_tie (on_tie {C = S} (λ x. x.fields) (punctuated_tie (field_value_kind_tie T tie))) (both_tie (on_tie {C = S} (λ x. x.dot2_token) some_tie) (on_tie {C = S} (λ x. x.rest) (boxed_tie tie))))))) in it
