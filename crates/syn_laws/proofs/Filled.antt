-- In each pattern there is a guard for each place.
use Rattle.std.proofs.Common.{◌≡◌, ◌+◌, List, [], ◌∷◌, ◌++◌, map, flat_map, length, Option, Some, None, is_some, refl, sym, ◌∙◌, ap, subst, rules}
use Rattle.std.proofs.lemmas.List.{map-append, length-append}
use Rattle.std.proofs.lemmas.List.Folds.{flat_map-map}
use Rattle.std.proofs.lemmas.Grind.{flat_map-append}
use Rattle.std.proofs.lemmas.Simd.{map-map}
use Rattle.std.specs.declared.boxed.Box.{Box}
use Rattle.std.specs.declared.alloc.Global.{Global}
use Rattle.syn_lower_spec.specs.Tree.{AttributeTree}
use Rattle.syn_lower_spec.specs.Pat as t
use Rattle.syn_lower_spec.specs.Pat.{PatTree}
use Rattle.syn_expr_spec.specs.Tree.{Tree}
use Rattle.syn_lower_leaves.specs.View.{mapped, lit_of}
use Rattle.syn_lower.specs.View.{last_of, type_of, path_of, qself_or, macro_of}
use Rattle.syn_pat.specs.View.{attributed_by, attributes_of, bound_of, is_closed, field_of, field_guards, field_pat_of}
use Rattle.syn_pat.specs.declared.pat.FieldPatOf.{FieldPatOf}
use Rattle.syn_pat.specs.declared.pat.FieldPatKindOf.{FieldPatKindOf}
use Rattle.syn_pat.specs.declared.pat.FieldPatKindOf.TheVariants as field
use Rattle.syn_expr_core.specs.declared.expr.Expr.{Expr}
use Rattle.syn_expr_core.specs.declared.expr.Expr.TheOpen.{Pat-F, PatGuard-F}
use Rattle.syn_expr_core.specs.declared.expr.Expr.TheShapes as shapes
use Rattle.syn_expr_core.specs.declared.pat.Pat.{Pat, map-Pat, ind-Pat, roll-Pat, out-roll-Pat}
use Rattle.syn_expr_core.specs.declared.pat.PatGuard.{PatGuard, map-PatGuard, roll-PatGuard, out-roll-PatGuard}
use Rattle.syn_expr_core.specs.declared.closure.ExprClosure.{ExprClosure}
use Rattle.syn_expr_core.specs.declared.control.Arm.{Arm}
use Rattle.syn_expr_core.specs.declared.control.ExprForLoop.{ExprForLoop}
use Rattle.syn_expr_core.specs.declared.control.ExprLet.{ExprLet}
use Rattle.syn_expr_core.specs.declared.control.ExprMatch.{ExprMatch}
use Rattle.syn_expr_core.specs.View.{pat_layer, guard_layer, tree_of, pat_of, guard_of, views, values, trails}
use Rattle.syn_expr_core.proofs.TreeOf.{pat_out, guard-is}
use Rattle.syn_laws.proofs.Guards.{places, sub_places, pats_places, fields_places, field_places, IsFilled, filled-all, places-behind}

behind : (ats : List AttributeTree) (p : PatTree) (gs : List Tree) → length gs ≡ places p → length gs ≡ places (attributed_by ats p)
behind ats p gs h = h ∙ sym (places-behind ats p)

-- ---- one layer, whose patterns are filled

module _ {E P C A F L M G : Type 0} (e0 : E → Expr) (p0 : P → Pat) (c0 : C → ExprClosure) (a0 : A → Arm) (f0 : F → ExprForLoop) (l0 : L → ExprLet) (m0 : M → ExprMatch) (g0 : G → PatGuard)
    (p1 : (p : P) → IsFilled (pat_of (p0 p))) (g1 : (g : G) → IsFilled (guard_of (g0 g))) where
  abbrev IsFilledField : FieldPatKindOf Pat → Type 0
  IsFilledField k = length (field_guards pat_of k) ≡ field_places (field_of pat_of k)

  abbrev Every : {B : Type 0} → (B → Type 0) → List B → Type 0
  Every Q [] = Unit
  Every Q (x ∷ xs) = Q x × Every Q xs

  every_items : {B D S : Type 0} (Q : D → Type 0) (m : B × S → D × S) → ((q : B × S) → Q (m q).0) → (xs : List (B × S)) (r : List D) → Every Q r → Every Q (map (λ q. q.0) (map m xs) ++ r)
  every_items Q m h [] r k = k
  every_items Q m h (x ∷ xs) r k = (h x, every_items Q m h xs r k)

  fields_filled : (l : List (FieldPatOf Pat)) → Every (λ f. IsFilledField f.kind) l → length (flat_map (λ y. field_guards pat_of y.kind) l) ≡ fields_places (t.fields_of (map (field_pat_of pat_of) l))
  unfolding fields_places
  fields_filled [] h = refl
  fields_filled (x ∷ xs) h = length-append (field_guards pat_of x.kind) (flat_map (λ y. field_guards pat_of y.kind) xs) ∙ (λ i. h.0 i + fields_filled xs h.1 i)

  field-10 : (k : FieldPatKindOf P) → IsFilledField (shapes.former-Pat-Struct-0-at-10.map P Pat p0 k)
  unfolding field_places
  field-10 = elim [ field.Short x ↦ refl | field.Full x ↦ p1 x.pat.value ]

  field-22 : (k : FieldPatKindOf P) → IsFilledField (shapes.former-Pat-Struct-0-at-22.map P Pat p0 k)
  unfolding field_places
  field-22 = elim [ field.Short x ↦ refl | field.Full x ↦ p1 x.pat.value ]

  last-25 : (o : Option (Box (FieldPatOf P) Global)) → Every (λ f. IsFilledField f.kind) (last_of (shapes.former-Pat-Struct-0-at-25.map P Pat p0 o))
  last-25 = elim [ None ↦ tt | Some b ↦ (field-22 b.value.kind, tt) ]

  -- a field of a struct, with its punct
  abbrev in_field : {S : Type 0} → FieldPatOf P × S → FieldPatOf Pat × S
  in_field q = (record { attrs = q.0.attrs; kind = shapes.former-Pat-Struct-0-at-10.map P Pat p0 q.0.kind }, q.1)

  layer : (y : Pat-F E P C A F L M G) → IsFilled (pat_layer views (map-Pat E P C A F L M G Expr Pat ExprClosure Arm ExprForLoop ExprLet ExprMatch PatGuard e0 p0 c0 a0 f0 l0 m0 g0 y))
  unfolding values trails places sub_places pats_places
  layer (Pat-F.Pat::Const x) = behind (attributes_of x.attrs) (t.a_block x.block.stmts) [] refl
  layer (Pat-F.Ident x) = search (rules, places-behind, map-map, map-append, p1)
  layer (Pat-F.Pat::Lit x) = behind (attributes_of x.attrs) (t.a_lit (lit_of x.lit)) [] refl
  layer (Pat-F.Pat::Macro x) = behind (attributes_of x.attrs) (t.a_mac (macro_of type_of x.mac)) [] refl
  layer (Pat-F.Or x) = let h = filled-all (λ p. pat_of (p0 p)) p1 (values x.cases) in search (rules, places-behind, map-map, map-append, flat_map-map, flat_map-append, h)
  layer (Pat-F.Pat::Paren x) = behind (attributes_of x.attrs) (t.a_paren (pat_of (p0 x.pat.value)).tree) (pat_of (p0 x.pat.value)).guards (p1 x.pat.value)
  layer (Pat-F.Pat::Path x) = behind (attributes_of x.attrs) (t.a_path (qself_or type_of x.qself) (path_of type_of x.path)) [] refl
  layer (Pat-F.Pat::Range x) = behind (attributes_of x.attrs) (t.range (mapped bound_of x.start) (is_closed x.limits) (mapped bound_of x.end)) [] refl
  layer (Pat-F.Pat::Reference x) = behind (attributes_of x.attrs) (t.a_reference (is_some x.mutability) (pat_of (p0 x.pat.value)).tree) (pat_of (p0 x.pat.value)).guards (p1 x.pat.value)
  layer (Pat-F.Rest x) = behind (attributes_of x.attrs) t.rest [] refl
  layer (Pat-F.Slice x) = let h = filled-all (λ p. pat_of (p0 p)) p1 (values x.elems) in search (rules, places-behind, map-map, map-append, flat_map-map, flat_map-append, h)
  layer (Pat-F.Pat::Struct x) =
      let h = fields_filled (map (λ q. q.0) (map in_field x.fields.inner.items) ++ last_of (shapes.former-Pat-Struct-0-at-25.map P Pat p0 x.fields.last))
      (every_items (λ f. IsFilledField f.kind) in_field (λ q. field-10 q.0.kind) x.fields.inner.items (last_of (shapes.former-Pat-Struct-0-at-25.map P Pat p0 x.fields.last)) (last-25 x.fields.last)) in
      search (rules, places-behind, h)
  layer (Pat-F.Pat::Tuple x) = let h = filled-all (λ p. pat_of (p0 p)) p1 (values x.elems) in search (rules, places-behind, map-map, map-append, flat_map-map, flat_map-append, h)
  layer (Pat-F.TupleStruct x) = let h = filled-all (λ p. pat_of (p0 p)) p1 (values x.elems) in search (rules, places-behind, map-map, map-append, flat_map-map, flat_map-append, h)
  layer (Pat-F.Typed x) = behind (attributes_of x.attrs) (t.typed (pat_of (p0 x.pat.value)).tree (type_of x.ty.value)) (pat_of (p0 x.pat.value)).guards (p1 x.pat.value)
  layer (Pat-F.Wild x) = behind (attributes_of x.attrs) t.wild [] refl
  layer (Pat-F.Guard x) = g1 x

  guarded_layer : (y : PatGuard-F E P C A F L M G) → IsFilled (guard_layer views (map-PatGuard E P C A F L M G Expr Pat ExprClosure Arm ExprForLoop ExprLet ExprMatch PatGuard e0 p0 c0 a0 f0 l0 m0 g0 y))
  unfolding places
  guarded_layer y = behind (attributes_of y.attrs) (t.guarded (pat_of (p0 y.pat.value)).tree) ((pat_of (p0 y.pat.value)).guards ++ tree_of (e0 y.guard.value) ∷ [])
      (length-append (pat_of (p0 y.pat.value)).guards (tree_of (e0 y.guard.value) ∷ []) ∙ ap (λ n. n + 1) (p1 y.pat.value))

pub filled : (x : Pat) → IsFilled (pat_of x)
filled = ind-Pat (λ x. Unit) (λ x. IsFilled (pat_of x)) (λ x. Unit) (λ x. Unit) (λ x. Unit) (λ x. Unit) (λ x. Unit) (λ x. IsFilled (guard_of x))
    (λ x y is. tt)
    (λ x y is. subst IsFilled (sym (pat_out (roll-Pat x) ∙ (ap (pat_layer views) (out-roll-Pat x)))) (subst (λ l. IsFilled (pat_layer views l)) is (layer (λ e. e.0) (λ e. e.0) (λ e. e.0) (λ e. e.0) (λ e. e.0) (λ e. e.0) (λ e. e.0) (λ e. e.0) (λ e. e.1) (λ e. e.1) y)))
    (λ x y is. tt) (λ x y is. tt) (λ x y is. tt) (λ x y is. tt) (λ x y is. tt)
    (λ x y is. subst IsFilled (sym (guard-is (roll-PatGuard x) ∙ (ap (guard_layer views) (out-roll-PatGuard x)))) (subst (λ l. IsFilled (guard_layer views l)) is (guarded_layer (λ e. e.0) (λ e. e.0) (λ e. e.0) (λ e. e.0) (λ e. e.0) (λ e. e.0) (λ e. e.0) (λ e. e.0) (λ e. e.1) (λ e. e.1) y)))
