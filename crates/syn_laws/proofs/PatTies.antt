-- The equality of each kind of pattern, by that of the patterns in it.
use Rattle.std.proofs.Common.{◌≡◌, ◌↔◌, Bool, true, ◌&&◌, List, [], ◌∷◌, ◌++◌, map, flat_map, Option, Some, None, is_some, length, refl, sym, ◌∙◌, ap}
use Rattle.std.specs.Option.{option_eq}
use denote.RattleType.{RattleType}
use Rattle.std.specs.declared.boxed.Box.{Box}
use Rattle.std.specs.declared.alloc.Global.{Global}
use Rattle.syn_tokens.specs.Tok.{Tok}
use Rattle.syn_lower_spec.specs.Text.{Text}
use Rattle.syn_lower_spec.specs.Tree.{LitTree, AttributeTree, TypeTree, QSelfTree, PathTree}
use Rattle.syn_lower_spec.specs.Part.{MacroTree}
use Rattle.syn_lower_spec.specs.Pat as t
use Rattle.syn_lower_spec.specs.Pat.{MemberTree, PatTree, PatBound, SubPat, Pats, Fields, FieldTree, FieldPatTree}
use Rattle.syn_lower_spec.proofs.Trees.{pats-pats_of, fields-fields_of}
use Rattle.syn_expr_spec.specs.Tree.{Tree}
use Rattle.syn_lower_spec.specs.Equal.{IsEqualityOf}
use Rattle.syn_lower_leaves.proofs.Ties.{both_tie, on_tie, into_tie, option_tie, some_tie, text_tie, pair_path, constant_tie}
use Rattle.syn_lower_leaves.proofs.LeafTies.{block_tie, lit_tie}
use Rattle.syn_lower.specs.View.{type_of, path_of, qself_or, values, trails}
use Rattle.syn_lower.specs.declared.ty.«Type».{«Type»}
use Rattle.syn_lower.specs.contracts.ty.«Type» as type_row
use Rattle.syn_lower.specs.contracts.ty.TypePartialEq.TheImpl as any_type_test
use Rattle.syn_lower_types.specs.declared.path.QSelfOf.{QSelfOf}
use Rattle.syn_lower_types.specs.declared.path.PathOf.{PathOf}
use Rattle.syn_lower_types.specs.contracts.path.PathOfPartialEq.TheImpl as any_path_test
use Rattle.syn_lower_leaves.specs.declared.punctuated.Punctuated.{Punctuated}
use Rattle.syn_laws.proofs.ListTies.{punctuated_tie}
use Rattle.syn_laws.proofs.LowerSames.{type_tie, path_tie, macro_tie}
use Rattle.syn_expr_tokens.specs.View.{limits_kind, member_of}
use Rattle.syn_expr_tokens.specs.declared.limits.RangeLimits.{RangeLimits}
use Rattle.syn_expr_tokens.specs.declared.limits.RangeLimits.TheVariants as limits
use Rattle.syn_expr_tokens.specs.contracts.same.RangeLimitsPartialEq.TheImpl as limits_test
use Rattle.syn_expr_tokens.proofs.Ties.{member_tie}
use Rattle.syn_pat.specs.View.{PatView, view_with, attributes_of, attributed_by, pats_in, guards_in, sub_of, sub_guards, field_of, field_guards, field_pat_of, is_closed, bound_of, pat_wild_of, pat_rest_of, pat_range_of, pat_lit_of, pat_ident_of, pat_path_of, pat_macro_of, pat_struct_of, pat_tuple_struct_of, pat_tuple_of, pat_paren_of, pat_slice_of, pat_reference_of, pat_const_of, pat_or_of, pat_type_of}
use Rattle.syn_pat.specs.declared.pat.RangeBound.{RangeBound}
use Rattle.syn_pat.specs.declared.pat.RangeBound.TheVariants as bound
use Rattle.syn_pat.specs.declared.pat.FieldPatKindOf.{FieldPatKindOf}
use Rattle.syn_pat.specs.declared.pat.FieldPatKindOf.TheVariants as field
use Rattle.syn_pat.specs.declared.pat.FieldPatOf.{FieldPatOf}
use Rattle.syn_pat.specs.declared.pat.ShortFieldPat.{ShortFieldPat}
use Rattle.syn_pat.specs.declared.pat.FullFieldPatOf.{FullFieldPatOf}
use Rattle.syn_pat.specs.declared.pat.PatWild.{PatWild}
use Rattle.syn_pat.specs.declared.pat.PatRest.{PatRest}
use Rattle.syn_pat.specs.declared.pat.PatRange.{PatRange}
use Rattle.syn_pat.specs.declared.pat.PatLit.{PatLit}
use Rattle.syn_pat.specs.declared.pat.PatIdentOf.{PatIdentOf}
use Rattle.syn_pat.specs.declared.pat.PatPath.{PatPath}
use Rattle.syn_pat.specs.declared.pat.PatMacro.{PatMacro}
use Rattle.syn_pat.specs.declared.pat.PatStructOf.{PatStructOf}
use Rattle.syn_pat.specs.declared.pat.PatTupleStructOf.{PatTupleStructOf}
use Rattle.syn_pat.specs.declared.pat.PatTupleOf.{PatTupleOf}
use Rattle.syn_pat.specs.declared.pat.PatParenOf.{PatParenOf}
use Rattle.syn_pat.specs.declared.pat.PatSliceOf.{PatSliceOf}
use Rattle.syn_pat.specs.declared.pat.PatReferenceOf.{PatReferenceOf}
use Rattle.syn_pat.specs.declared.pat.PatConst.{PatConst}
use Rattle.syn_pat.specs.declared.pat.PatOrOf.{PatOrOf}
use Rattle.syn_pat.specs.declared.pat.PatTypeOf.{PatTypeOf}
use Rattle.syn_pat.specs.contracts.pat.RangeBoundPartialEq.TheImpl as bound_test
use Rattle.syn_pat.specs.contracts.pat.FieldPatKindOfPartialEq.TheImpl as field_kind_test
use Rattle.syn_pat.specs.contracts.pat.FieldPatOfPartialEq.TheImpl as field_test
use Rattle.syn_pat.specs.contracts.pat.ShortFieldPatPartialEq.TheImpl as short_test
use Rattle.syn_pat.specs.contracts.pat.FullFieldPatOfPartialEq.TheImpl as full_test
use Rattle.syn_pat.specs.contracts.pat.PatWildPartialEq.TheImpl as wild_test
use Rattle.syn_pat.specs.contracts.pat.PatRestPartialEq.TheImpl as rest_test
use Rattle.syn_pat.specs.contracts.pat.PatRangePartialEq.TheImpl as range_test
use Rattle.syn_pat.specs.contracts.pat.PatLitPartialEq.TheImpl as lit_test
use Rattle.syn_pat.specs.contracts.pat.PatIdentOfPartialEq.TheImpl as ident_test
use Rattle.syn_pat.specs.contracts.pat.PatPathPartialEq.TheImpl as path_test
use Rattle.syn_pat.specs.contracts.pat.PatMacroPartialEq.TheImpl as mac_test
use Rattle.syn_pat.specs.contracts.pat.PatStructOfPartialEq.TheImpl as struct_test
use Rattle.syn_pat.specs.contracts.pat.PatTupleStructOfPartialEq.TheImpl as tuple_struct_test
use Rattle.syn_pat.specs.contracts.pat.PatTupleOfPartialEq.TheImpl as tuple_test
use Rattle.syn_pat.specs.contracts.pat.PatParenOfPartialEq.TheImpl as paren_test
use Rattle.syn_pat.specs.contracts.pat.PatSliceOfPartialEq.TheImpl as slice_test
use Rattle.syn_pat.specs.contracts.pat.PatReferenceOfPartialEq.TheImpl as reference_test
use Rattle.syn_pat.specs.contracts.pat.PatConstPartialEq.TheImpl as const_test
use Rattle.syn_pat.specs.contracts.pat.PatOrOfPartialEq.TheImpl as or_test
use Rattle.syn_pat.specs.contracts.pat.PatTypeOfPartialEq.TheImpl as type_test
use Rattle.syn_expr_ast.specs.Attrs.{attrs_of}
use Rattle.syn_laws.proofs.Shapes.{Attrs, attrs_test, attrs_tie, PunctTest}
use Rattle.syn_laws.proofs.Guards.{IsFilled, is_bare, attributed_once, views_once, view_path, split, field_places}
use Rattle.syn_laws.proofs.TreeEq.{no_dict, limits_tie, qself_same, qself_or_tie}

-- ---- a pattern after its attributes

pub pat_tie : {A B : Type 0} (attrs : A → Attrs) {v : A → B} {F : A → A → Bool} (tree : B → PatTree) (gs : B → List Tree) → ((b : B) → is_bare (tree b) ≡ true)
    → ((x y : A) → tree (v x) ≡ tree (v y) → gs (v x) ≡ gs (v y) → v x ≡ v y) → IsEqualityOf v F
    → IsEqualityOf (λ x. view_with (attrs x) (tree (v x)) (gs (v x))) (λ x y. attrs_test (attrs x) (attrs y) && F x y)
unfolding attrs_of
pat_tie {A} {B} attrs {v} tree gs plain once u =
    into_tie {f = λ x. (attrs_of (attrs x), v x)} (λ x. view_with (attrs x) (tree (v x)) (gs (v x))) (λ x y h i. record { tree = attributed_by (h i).0 (tree (h i).1); guards = gs (h i).1 })
    (λ x y h.
    let r = attributed_once (attrs_of (attrs x)) (attrs_of (attrs y)) (tree (v x)) (tree (v y)) (plain (v x)) (plain (v y)) (ap (λ (w : PatView). w.tree) h) in
    pair_path r.0 (once x y r.1 (ap (λ (w : PatView). w.guards) h)))
    (both_tie (on_tie attrs attrs_tie) u)

-- ---- what holds no patterns

pub wild_tie : IsEqualityOf pat_wild_of wild_test.ghosts.eq
wild_tie = let it = pat_tie {A = PatWild} {B = Unit} (λ x. x.attrs) (λ b. t.wild) (λ b. []) (λ b. refl) (λ x y h k. refl) (constant_tie tt) in it

pub rest_tie : IsEqualityOf pat_rest_of rest_test.ghosts.eq
rest_tie = let it = pat_tie {A = PatRest} {B = Unit} (λ x. x.attrs) (λ b. t.rest) (λ b. []) (λ b. refl) (λ x y h k. refl) (constant_tie tt) in it

abbrev path_same : PathOf «Type» → PathOf «Type» → Bool
path_same = (any_path_test.ghosts type_row.the_row any_type_test.ghosts any_type_test.dict).eq

bound_paths : IsEqualityOf {A = Option (QSelfOf «Type») × PathOf «Type»} {B = QSelfTree × PathTree} (λ a. (qself_or type_of a.0, path_of type_of a.1)) (λ a b. option_eq qself_same a.0 b.0 && path_same a.1 b.1)
bound_paths = both_tie (on_tie {C = Option (QSelfOf «Type») × PathOf «Type»} (λ a. a.0) qself_or_tie) (on_tie {C = Option (QSelfOf «Type») × PathOf «Type»} (λ a. a.1) path_tie)

bound_tie : IsEqualityOf bound_of bound_test.ghosts.eq
bound_tie = record { same = go }
  where
    go : (x y : RangeBound) → (bound_test.ghosts.eq x y ≡ true) ↔ (bound_of x ≡ bound_of y)
    go (bound.Lit x) (bound.Lit y) = (λ h. ap t.lit_bound ((lit_tie.same x y).0 h), λ h. (lit_tie.same x y).1 (cc))
    go (bound.Path q x) (bound.Path r y) = (λ h. ap (λ b. t.path_bound b.0 b.1) ((bound_paths.same (q, x) (r, y)).0 h), λ h. (bound_paths.same (q, x) (r, y)).1 (pair_path (cc) (cc)))
    go _ _ = (λ h. absurd cc, λ h. absurd cc)

closed_tie : IsEqualityOf is_closed limits_test.ghosts.eq
closed_tie = into_tie {f = limits_kind} is_closed there back limits_tie
  where
    there : (x y : RangeLimits) → limits_kind x ≡ limits_kind y → is_closed x ≡ is_closed y
    there (limits.HalfOpen a) (limits.HalfOpen b) h = refl
    there (limits.Closed a) (limits.Closed b) h = refl
    there _ _ h = absurd cc

    back : (x y : RangeLimits) → is_closed x ≡ is_closed y → limits_kind x ≡ limits_kind y
    back (limits.HalfOpen a) (limits.HalfOpen b) h = refl
    back (limits.Closed a) (limits.Closed b) h = refl
    back _ _ h = absurd cc

pub range_tie : IsEqualityOf pat_range_of range_test.ghosts.eq
range_tie = let it = pat_tie {A = PatRange} {B = Option PatBound × (Bool × Option PatBound)} (λ x. x.attrs) (λ b. t.range b.0 b.1.0 b.1.1) (λ b. []) (λ b. refl) (λ x y h k. pair_path (cc) (pair_path (cc) (cc)))
    (both_tie (on_tie {C = PatRange} (λ x. x.start) (option_tie bound_tie)) (both_tie (on_tie {C = PatRange} (λ x. x.limits) closed_tie) (on_tie {C = PatRange} (λ x. x.end) (option_tie bound_tie)))) in it

pub lit_pat_tie : IsEqualityOf pat_lit_of lit_test.ghosts.eq
lit_pat_tie = let it = pat_tie {A = PatLit} {B = LitTree} (λ x. x.attrs) (λ b. t.a_lit b) (λ b. []) (λ b. refl) (λ x y h k. cc) (on_tie {C = PatLit} (λ x. x.lit) lit_tie) in it

pub path_pat_tie : IsEqualityOf pat_path_of path_test.ghosts.eq
path_pat_tie = let it = pat_tie {A = PatPath} {B = QSelfTree × PathTree} (λ x. x.attrs) (λ b. t.a_path b.0 b.1) (λ b. []) (λ b. refl) (λ x y h k. pair_path (cc) (cc)) (both_tie (on_tie {C = PatPath} (λ x. x.qself) qself_or_tie) (on_tie {C = PatPath} (λ x. x.path) path_tie)) in it

pub mac_pat_tie : IsEqualityOf pat_macro_of mac_test.ghosts.eq
mac_pat_tie = let it = pat_tie {A = PatMacro} {B = MacroTree} (λ x. x.attrs) (λ b. t.a_mac b) (λ b. []) (λ b. refl) (λ x y h k. cc) (on_tie {C = PatMacro} (λ x. x.mac) macro_tie) in it

pub const_tie : IsEqualityOf pat_const_of const_test.ghosts.eq
const_tie = let it = pat_tie {A = PatConst} {B = List Tok} (λ x. x.attrs) (λ b. t.a_block b) (λ b. []) (λ b. refl) (λ x y h k. cc) (on_tie {C = PatConst} (λ x. x.block) block_tie) in it

-- ---- what holds patterns

short_tie : IsEqualityOf {B = Bool × (Bool × Text)} (λ (x : ShortFieldPat). (is_some x.by_ref, (is_some x.mutability, x.ident))) short_test.ghosts.eq
short_tie = both_tie (on_tie {C = ShortFieldPat} (λ x. x.by_ref) some_tie) (both_tie (on_tie {C = ShortFieldPat} (λ x. x.mutability) some_tie) (on_tie {C = ShortFieldPat} (λ x. x.ident) text_tie))

module _ (T : RattleType) {g : T.Denot → PatView} {E : T.Denot → T.Denot → Bool} (tie : IsEqualityOf g E) (filled : (p : T.Denot) → IsFilled (g p)) where
  box : IsEqualityOf (λ (x : Box T.Denot Global). g x.value) (λ x y. E x.value y.value)
  box = on_tie {C = Box T.Denot Global} (λ x. x.value) tie

  -- a view by its tree and its guards
  abbrev parts : PatView → PatTree × List Tree
  parts v = (v.tree, v.guards)

  sub_tie : {A : Type 0} → IsEqualityOf {A = Option (A × Box T.Denot Global)} {B = SubPat × List Tree} (λ s. (sub_of g s, sub_guards g s)) (option_eq (λ a b. E a.1.value b.1.value))
  sub_tie {A} = record { same = go }
    where
      go : (x y : Option (A × Box T.Denot Global)) → (option_eq (λ (a b : A × Box T.Denot Global). E a.1.value b.1.value) x y ≡ true) ↔ (◌≡◌ {A = SubPat × List Tree} (sub_of g x, sub_guards g x) (sub_of g y, sub_guards g y))
      go None None = (λ h. refl, λ h. refl)
      go None (Some y) = (λ h. absurd cc, λ h. absurd (let k = ap (λ p. p.0) h in cc))
      go (Some x) None = (λ h. absurd cc, λ h. absurd (let k = ap (λ p. p.0) h in cc))
      go (Some x) (Some y) = (
        λ h. let k = (tie.same x.1.value y.1.value).0 h in pair_path (ap (λ (v : PatView). t.sub v.tree) k) (ap (λ (v : PatView). v.guards) k),
        λ h. (tie.same x.1.value y.1.value).1 (let k = ap (λ p. p.0) h in view_path (g x.1.value) (g y.1.value) (cc) (ap (λ p. p.1) h)),
      )

  pub ident_tie : IsEqualityOf (pat_ident_of g) (ident_test.ghosts T (record { eq = E }) no_dict).eq
  ident_tie = let it = pat_tie {A = PatIdentOf T.Denot} {B = Bool × (Bool × (Text × (SubPat × List Tree)))} (λ x. x.attrs) (λ b. t.a_binding b.0 b.1.0 b.1.1.0 b.1.1.1.0) (λ b. b.1.1.1.1) (λ b. refl)
      (λ x y h k. pair_path (cc) (pair_path (cc) (pair_path (cc) (pair_path (cc) k))))
      (both_tie (on_tie {C = PatIdentOf T.Denot} (λ x. x.by_ref) some_tie) (both_tie (on_tie {C = PatIdentOf T.Denot} (λ x. x.mutability) some_tie) (both_tie (on_tie {C = PatIdentOf T.Denot} (λ x. x.ident) text_tie) (on_tie {C = PatIdentOf T.Denot} (λ x. x.subpat) sub_tie)))) in it

  -- one pattern, as it is shown
  one : {A : Type 0} (p : A → Box T.Denot Global) → IsEqualityOf {A = A} {B = PatTree × List Tree} (λ x. parts (g (p x).value)) (λ x y. E (p x).value (p y).value)
  one {A} p = into_tie {f = λ x. g (p x).value} (λ x. parts (g (p x).value)) (λ x y h. ap parts h) (λ x y h. view_path (g (p x).value) (g (p y).value) (ap (λ q. q.0) h) (ap (λ q. q.1) h)) (on_tie p box)

  pub paren_tie : IsEqualityOf (pat_paren_of g) (paren_test.ghosts T (record { eq = E }) no_dict).eq
  paren_tie = let it = pat_tie {A = PatParenOf T.Denot} {B = PatTree × List Tree} (λ x. x.attrs) (λ b. t.a_paren b.0) (λ b. b.1) (λ b. refl) (λ x y h k. pair_path (cc) k) (one (λ x. x.pat)) in it

  pub reference_tie : IsEqualityOf (pat_reference_of g) (reference_test.ghosts T (record { eq = E }) no_dict).eq
  reference_tie = let it = pat_tie {A = PatReferenceOf T.Denot} {B = Bool × (PatTree × List Tree)} (λ x. x.attrs) (λ b. t.a_reference b.0 b.1.0) (λ b. b.1.1) (λ b. refl) (λ x y h k. pair_path (cc) (pair_path (cc) k))
      (both_tie (on_tie {C = PatReferenceOf T.Denot} (λ x. x.mutability) some_tie) (one (λ x. x.pat))) in it

  pub typed_tie : IsEqualityOf (pat_type_of g) (type_test.ghosts T (record { eq = E }) no_dict).eq
  typed_tie = let it = pat_tie {A = PatTypeOf T.Denot} {B = (PatTree × List Tree) × TypeTree} (λ x. x.attrs) (λ b. t.typed b.0.0 b.1) (λ b. b.0.1) (λ b. refl) (λ x y h k. pair_path (pair_path (cc) k) (cc))
      (both_tie (one (λ x. x.pat)) (on_tie {C = PatTypeOf T.Denot} (λ x. x.ty.value) type_tie)) in it

  -- ---- lists

  abbrev Listed : Type 0
  Listed = Pats × (List Tree × Bool)

  abbrev listed : {A : Type 0} → Punctuated T.Denot A → Listed
  listed p = (pats_in g (values p), (guards_in g (values p), trails p))

  trees_known : (l m : List PatTree) → t.pats_of l ≡ t.pats_of m → l ≡ m
  trees_known l m h = sym (pats-pats_of l) ∙ (ap t.pats h ∙ pats-pats_of m)

  of_views : (l : List T.Denot) → ◌≡◌ {A = Pats × List Tree} (pats_in g l, guards_in g l) (t.pats_of (map (λ v. v.tree) (map g l)), flat_map (λ v. v.guards) (map g l))
  of_views [] = refl
  of_views (x ∷ xs) = let h = of_views xs in pair_path (ap (λ p. t.more_pats (g x).tree p.0) h) (ap (λ p. (g x).guards ++ p.1) h)

  listed_tie : {A : Type 0} → IsEqualityOf {A = Punctuated T.Denot A} listed (PunctTest E)
  listed_tie {A} = into_tie {f = λ (p : Punctuated T.Denot A). (map g (values p), trails p)} listed there back (punctuated_tie tie)
    where
      there : (x y : Punctuated T.Denot A) → ◌≡◌ {A = List PatView × Bool} (map g (values x), trails x) (map g (values y), trails y) → listed x ≡ listed y
      there x y h =
          let k : ◌≡◌ {A = Pats × List Tree} (pats_in g (values x), guards_in g (values x)) (pats_in g (values y), guards_in g (values y)) = of_views (values x) ∙ (ap (λ p. (t.pats_of (map (λ v. v.tree) p.0), flat_map (λ v. v.guards) p.0)) h ∙ sym (of_views (values y))) in
          pair_path (ap (λ p. p.0) k) (pair_path (ap (λ p. p.1) k) (ap (λ p. p.1) h))

      back : (x y : Punctuated T.Denot A) → listed x ≡ listed y → ◌≡◌ {A = List PatView × Bool} (map g (values x), trails x) (map g (values y), trails y)
      back x y h = pair_path (views_once g filled (values x) (values y) (trees_known (map (λ p. (g p).tree) (values x)) (map (λ p. (g p).tree) (values y)) (ap (λ p. p.0) h)) (ap (λ p. p.1.0) h)) (ap (λ p. p.1.1) h)

  -- those of a closure's arguments, as lists
  abbrev known : {A : Type 0} → Punctuated T.Denot A → List PatTree × (List Tree × Bool)
  known p = (map (λ v. v.tree) (map g (values p)), (flat_map (λ v. v.guards) (map g (values p)), trails p))

  of_lists : (l : List T.Denot) → ◌≡◌ {A = List PatTree × List Tree} (map (λ v. v.tree) (map g l), flat_map (λ v. v.guards) (map g l)) (map (λ p. (g p).tree) l, flat_map (λ p. (g p).guards) l)
  of_lists [] = refl
  of_lists (x ∷ xs) = let h = of_lists xs in pair_path (ap (λ p. (g x).tree ∷ p.0) h) (ap (λ p. (g x).guards ++ p.1) h)

  pub known_tie : {A : Type 0} → IsEqualityOf {A = Punctuated T.Denot A} known (PunctTest E)
  known_tie {A} = into_tie {f = λ (p : Punctuated T.Denot A). (map g (values p), trails p)} known (λ x y h. ap (λ p. (map (λ v. v.tree) p.0, (flat_map (λ v. v.guards) p.0, p.1))) h) back (punctuated_tie tie)
    where
      back : (x y : Punctuated T.Denot A) → known x ≡ known y → ◌≡◌ {A = List PatView × Bool} (map g (values x), trails x) (map g (values y), trails y)
      back x y h =
          let k = sym (of_lists (values x)) ∙ (ap (λ p. (p.0, p.1.0)) h ∙ of_lists (values y)) in
          pair_path (views_once g filled (values x) (values y) (ap (λ p. p.0) k) (ap (λ p. p.1) k)) (ap (λ p. p.1.1) h)

  pub tuple_struct_tie : IsEqualityOf (pat_tuple_struct_of g) (tuple_struct_test.ghosts T (record { eq = E }) no_dict).eq
  tuple_struct_tie = let it = pat_tie {A = PatTupleStructOf T.Denot} {B = PathTree × Listed} (λ x. x.attrs) (λ b. t.tuple_struct b.0 b.1.0 b.1.1.1) (λ b. b.1.1.0) (λ b. refl) (λ x y h k. pair_path (cc) (pair_path (cc) (pair_path k (cc))))
      (both_tie (on_tie {C = PatTupleStructOf T.Denot} (λ x. x.path) path_tie) (on_tie {C = PatTupleStructOf T.Denot} (λ x. x.elems) listed_tie)) in it

  pub tuple_tie : IsEqualityOf (pat_tuple_of g) (tuple_test.ghosts T (record { eq = E }) no_dict).eq
  tuple_tie = let it = pat_tie {A = PatTupleOf T.Denot} {B = Listed} (λ x. x.attrs) (λ b. t.a_tuple b.0 b.1.1) (λ b. b.1.0) (λ b. refl) (λ x y h k. pair_path (cc) (pair_path k (cc))) (on_tie {C = PatTupleOf T.Denot} (λ x. x.elems) listed_tie) in it

  pub slice_tie : IsEqualityOf (pat_slice_of g) (slice_test.ghosts T (record { eq = E }) no_dict).eq
  slice_tie = let it = pat_tie {A = PatSliceOf T.Denot} {B = Listed} (λ x. x.attrs) (λ b. t.a_slice b.0 b.1.1) (λ b. b.1.0) (λ b. refl) (λ x y h k. pair_path (cc) (pair_path k (cc))) (on_tie {C = PatSliceOf T.Denot} (λ x. x.elems) listed_tie) in it

  pub or_tie : IsEqualityOf (pat_or_of g) (or_test.ghosts T (record { eq = E }) no_dict).eq
  or_tie = let it = pat_tie {A = PatOrOf T.Denot} {B = Bool × Listed} (λ x. x.attrs) (λ b. t.alternatives b.0 b.1.0 b.1.1.1) (λ b. b.1.1.0) (λ b. refl) (λ x y h k. pair_path (cc) (pair_path (cc) (pair_path k (cc))))
      (both_tie (on_tie {C = PatOrOf T.Denot} (λ x. x.leading_vert) some_tie) (on_tie {C = PatOrOf T.Denot} (λ x. x.cases) listed_tie)) in it

  -- ---- fields

  abbrev FieldView : Type 0
  FieldView = FieldTree × List Tree

  full_tie : IsEqualityOf {A = FullFieldPatOf T.Denot} {B = MemberTree × (PatTree × List Tree)} (λ x. (member_of x.member, parts (g x.pat.value))) (full_test.ghosts T (record { eq = E }) no_dict).eq
  full_tie = both_tie (on_tie {C = FullFieldPatOf T.Denot} (λ x. x.member) member_tie) (one (λ x. x.pat))

  kind_tie : IsEqualityOf {B = FieldView} (λ k. (field_of g k, field_guards g k)) (field_kind_test.ghosts T (record { eq = E }) no_dict).eq
  kind_tie = record { same = go }
    where
      go : (x y : FieldPatKindOf T.Denot) → ((field_kind_test.ghosts T (record { eq = E }) no_dict).eq x y ≡ true) ↔ (◌≡◌ {A = FieldView} (field_of g x, field_guards g x) (field_of g y, field_guards g y))
      go (field.Short x) (field.Short y) = (
        λ h. ap (λ b. (t.short b.0 b.1.0 b.1.1, [])) ((short_tie.same x y).0 h),
        λ h. (short_tie.same x y).1 (let k = ap (λ p. p.0) h in pair_path (cc) (pair_path (cc) (cc))),
      )
      go (field.Full x) (field.Full y) = (
        λ h. ap (λ b. (t.full b.0 b.1.0, b.1.1)) ((full_tie.same x y).0 h),
        λ h. (full_tie.same x y).1 (let k = ap (λ p. p.0) h in pair_path (cc) (pair_path (cc) (ap (λ p. p.1) h))),
      )
      go _ _ = (λ h. absurd cc, λ h. absurd (let k = ap (λ p. p.0) h in cc))

  abbrev field_view : FieldPatOf T.Denot → List AttributeTree × FieldView
  field_view x = (attributes_of x.attrs, (field_of g x.kind, field_guards g x.kind))

  field_tie : IsEqualityOf field_view (field_test.ghosts T (record { eq = E }) no_dict).eq
  unfolding attrs_of
  field_tie = both_tie (on_tie {C = FieldPatOf T.Denot} (λ x. x.attrs) attrs_tie) (on_tie {C = FieldPatOf T.Denot} (λ x. x.kind) kind_tie)

  abbrev Fielded : Type 0
  Fielded = Fields × (List Tree × Bool)

  abbrev fielded : {A : Type 0} → Punctuated (FieldPatOf T.Denot) A → Fielded
  fielded p = (t.fields_of (map (field_pat_of g) (values p)), (flat_map (λ y. field_guards g y.kind) (values p), trails p))

  fields_known : (l m : List FieldPatTree) → t.fields_of l ≡ t.fields_of m → l ≡ m
  fields_known l m h = sym (fields-fields_of l) ∙ (ap t.fields h ∙ fields-fields_of m)

  filled_field : (k : FieldPatKindOf T.Denot) → length (field_guards g k) ≡ field_places (field_of g k)
  unfolding field_places
  filled_field (field.Short x) = refl
  filled_field (field.Full x) = filled x.pat.value

  of_field_views : (l : List (FieldPatOf T.Denot)) → ◌≡◌ {A = List FieldPatTree × List Tree} (map (field_pat_of g) l, flat_map (λ y. field_guards g y.kind) l) (map (λ v. record { attrs = v.0; field = v.1.0 }) (map field_view l), flat_map (λ v. v.1.1) (map field_view l))
  of_field_views [] = refl
  of_field_views (x ∷ xs) = let h = of_field_views xs in pair_path (ap (λ p. field_pat_of g x ∷ p.0) h) (ap (λ p. field_guards g x.kind ++ p.1) h)

  fields_once : (xs ys : List (FieldPatOf T.Denot)) → map (field_pat_of g) xs ≡ map (field_pat_of g) ys → flat_map (λ y. field_guards g y.kind) xs ≡ flat_map (λ y. field_guards g y.kind) ys → map field_view xs ≡ map field_view ys
  fields_once [] [] a b = refl
  fields_once [] (y ∷ ys) a b = absurd cc
  fields_once (x ∷ xs) [] a b = absurd cc
  fields_once (x ∷ xs) (y ∷ ys) a b =
      let p : field_pat_of g x ≡ field_pat_of g y = cc in
      let q : map (field_pat_of g) xs ≡ map (field_pat_of g) ys = cc in
      let f = ap (λ (r : FieldPatTree). r.field) p in
      let r = split (field_guards g x.kind) (field_guards g y.kind) (flat_map (λ y. field_guards g y.kind) xs) (flat_map (λ y. field_guards g y.kind) ys) (filled_field x.kind ∙ (ap field_places f ∙ sym (filled_field y.kind))) b in
      let v : field_view x ≡ field_view y = pair_path (ap (λ (r : FieldPatTree). r.attrs) p) (pair_path f r.0) in let w = fields_once xs ys q r.1 in λ i. v i ∷ w i

  fielded_tie : {A : Type 0} → IsEqualityOf {A = Punctuated (FieldPatOf T.Denot) A} fielded (PunctTest (field_test.ghosts T (record { eq = E }) no_dict).eq)
  fielded_tie {A} = into_tie {f = λ (p : Punctuated (FieldPatOf T.Denot) A). (map field_view (values p), trails p)} fielded there back (punctuated_tie field_tie)
    where
      there : (x y : Punctuated (FieldPatOf T.Denot) A) → ◌≡◌ {A = List (List AttributeTree × FieldView) × Bool} (map field_view (values x), trails x) (map field_view (values y), trails y) → fielded x ≡ fielded y
      there x y h =
          let k : ◌≡◌ {A = List FieldPatTree × List Tree} (map (field_pat_of g) (values x), flat_map (λ y. field_guards g y.kind) (values x)) (map (field_pat_of g) (values y), flat_map (λ y. field_guards g y.kind) (values y)) =
          of_field_views (values x) ∙ (ap (λ p. (map (λ v. record { attrs = v.0; field = v.1.0 }) p.0, flat_map (λ v. v.1.1) p.0)) h ∙ sym (of_field_views (values y))) in
          pair_path (ap (λ p. t.fields_of p.0) k) (pair_path (ap (λ p. p.1) k) (ap (λ p. p.1) h))

      back : (x y : Punctuated (FieldPatOf T.Denot) A) → fielded x ≡ fielded y → ◌≡◌ {A = List (List AttributeTree × FieldView) × Bool} (map field_view (values x), trails x) (map field_view (values y), trails y)
      back x y h = pair_path (fields_once (values x) (values y) (fields_known (map (field_pat_of g) (values x)) (map (field_pat_of g) (values y)) (ap (λ p. p.0) h)) (ap (λ p. p.1.0) h)) (ap (λ p. p.1.1) h)

  pub struct_tie : IsEqualityOf (pat_struct_of g) (struct_test.ghosts T (record { eq = E }) no_dict).eq
  struct_tie = let it = pat_tie {A = PatStructOf T.Denot} {B = PathTree × (Fielded × Bool)} (λ x. x.attrs) (λ b. t.a_struct b.0 b.1.0.0 b.1.0.1.1 b.1.1) (λ b. b.1.0.1.0) (λ b. refl) (λ x y h k. pair_path (cc) (pair_path (pair_path (cc) (pair_path k (cc))) (cc)))
      (both_tie (on_tie {C = PatStructOf T.Denot} (λ x. x.path) path_tie) (both_tie (on_tie {C = PatStructOf T.Denot} (λ x. x.fields) fielded_tie) (on_tie {C = PatStructOf T.Denot} (λ x. x.rest) some_tie))) in it
