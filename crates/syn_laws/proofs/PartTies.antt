-- The equality of each part that may hold types, by that of the types in it.
use Rattle.std.proofs.Common.{◌≡◌, ◌↔◌, ℕ, Bool, true, List, [], Option, Some, None, refl, sym, ◌∙◌, ap}
use Rattle.std.specs.Option.{option_eq}
use denote.Enum.Declared.{Choice}
use denote.RattleType.{RattleType}
use mir.Syntax.{Dict, impl, tnil, dnil}
use Rattle.std.specs.declared.boxed.Box.{Box}
use Rattle.std.specs.declared.alloc.Global.{Global}
use Rattle.syn_lexer.specs.declared.front.Delimiter.{Delimiter}
use Rattle.syn_tokens.specs.Tok.{Tok}
use Rattle.syn_lower_spec.specs.Text.{Text}
use Rattle.syn_lower_spec.specs.Tree as t
use Rattle.syn_lower_spec.specs.Tree.{LitTree, LifetimesTree, TypeTree, SegmentTree, PathTree, FnArgTree, ArgumentsTree, GenericTree, ReturnTree, BoundTree, QSelfTree}
use Rattle.syn_lower_spec.specs.Part.{MacroTree}
use Rattle.syn_lower_spec.proofs.Trees.{types-types_of, segments-segments_of, generics-generics_of, args-args_of, bounds-bounds_of}
use Rattle.syn_lower_spec.specs.Equal.{IsEqualityOf}
use Rattle.syn_lower_types.specs.View.{lifetimes_of, assoc_of, angle_of, round_of, segment_of, path_of, qself_of, qself_or, macro_of, trait_with, trait_of, arg_of, abi_of, is_mut, path_with, mac_with, generic_of, arguments_of, return_of, bound_of, type_path_of, type_macro_of, reference_of, ptr_of, slice_of, array_of, tuple_of, paren_of, fn_ptr_of, impl_trait_of, trait_object_of}
use Rattle.syn_lower_types.specs.declared.mac.MacroOf.{MacroOf}
use Rattle.syn_lower_types.specs.declared.path.PathOf.{PathOf}
use Rattle.syn_lower_types.specs.declared.path.PathSegmentOf.{PathSegmentOf}
use Rattle.syn_lower_types.specs.declared.path.PathArgumentsOf.{PathArgumentsOf}
use Rattle.syn_lower_types.specs.declared.path.AngleBracketedGenericArgumentsOf.{AngleBracketedGenericArgumentsOf}
use Rattle.syn_lower_types.specs.declared.path.ParenthesizedGenericArgumentsOf.{ParenthesizedGenericArgumentsOf}
use Rattle.syn_lower_types.specs.declared.path.GenericArgumentOf.{GenericArgumentOf}
use Rattle.syn_lower_types.specs.declared.path.AssocTypeOf.{AssocTypeOf}
use Rattle.syn_lower_types.specs.declared.path.QSelfOf.{QSelfOf}
use Rattle.syn_lower_leaves.specs.declared.ty.Abi.{Abi}
use Rattle.syn_lower_leaves.specs.declared.ty.BoundLifetimes.{BoundLifetimes}
use Rattle.syn_lower_leaves.specs.declared.ty.PointerMutability.{PointerMutability}
use Rattle.syn_lower_leaves.specs.declared.ty.PointerMutability.TheVariants as pointer
use Rattle.syn_lower_types.specs.declared.ty.BareFnArgOf.{BareFnArgOf}
use Rattle.syn_lower_types.specs.declared.ty.ReturnTypeOf.{ReturnTypeOf}
use Rattle.syn_lower_types.specs.declared.ty.TypeParamBoundOf.{TypeParamBoundOf}
use Rattle.syn_lower_types.specs.declared.ty.TraitBoundOf.{TraitBoundOf}
use Rattle.syn_lower_types.specs.declared.ty.TypePathOf.{TypePathOf}
use Rattle.syn_lower_types.specs.declared.ty.TypeMacroOf.{TypeMacroOf}
use Rattle.syn_lower_types.specs.declared.ty.TypeReferenceOf.{TypeReferenceOf}
use Rattle.syn_lower_types.specs.declared.ty.TypePtrOf.{TypePtrOf}
use Rattle.syn_lower_types.specs.declared.ty.TypeSliceOf.{TypeSliceOf}
use Rattle.syn_lower_types.specs.declared.ty.TypeArrayOf.{TypeArrayOf}
use Rattle.syn_lower_types.specs.declared.ty.TypeTupleOf.{TypeTupleOf}
use Rattle.syn_lower_types.specs.declared.ty.TypeParenOf.{TypeParenOf}
use Rattle.syn_lower_types.specs.declared.ty.TypeFnPtrOf.{TypeFnPtrOf}
use Rattle.syn_lower_types.specs.declared.ty.TypeImplTraitOf.{TypeImplTraitOf}
use Rattle.syn_lower_types.specs.declared.ty.TypeTraitObjectOf.{TypeTraitObjectOf}
use Rattle.syn_lower_types.specs.contracts.ty.ReturnTypeOf as return_row
use Rattle.syn_lower_types.specs.contracts.ty.TypeParamBoundOf as bound_row
use Rattle.syn_lower_types.specs.contracts.path.PathArgumentsOf as args_row
use Rattle.syn_lower_types.specs.contracts.path.GenericArgumentOf as generic_row
use Rattle.syn_lower_types.specs.contracts.mac.MacroOfPartialEq.TheImpl as macro_eq
use Rattle.syn_lower_types.specs.contracts.path.PathOfPartialEq.TheImpl as path_eq
use Rattle.syn_lower_types.specs.contracts.path.PathSegmentOfPartialEq.TheImpl as segment_eq
use Rattle.syn_lower_types.specs.contracts.path.PathArgumentsOfPartialEq.TheImpl as args_eq
use Rattle.syn_lower_types.specs.contracts.path.AngleBracketedGenericArgumentsOfPartialEq.TheImpl as angle_eq
use Rattle.syn_lower_types.specs.contracts.path.ParenthesizedGenericArgumentsOfPartialEq.TheImpl as round_eq
use Rattle.syn_lower_types.specs.contracts.path.GenericArgumentOfPartialEq.TheImpl as generic_eq
use Rattle.syn_lower_types.specs.contracts.path.AssocTypeOfPartialEq.TheImpl as assoc_eq
use Rattle.syn_lower_types.specs.contracts.path.QSelfOfPartialEq.TheImpl as qself_eq
use Rattle.syn_lower_leaves.specs.contracts.ty.AbiPartialEq.TheImpl as abi_eq
use Rattle.syn_lower_leaves.specs.contracts.ty.BoundLifetimesPartialEq.TheImpl as lifetimes_eq
use Rattle.syn_lower_leaves.specs.contracts.ty.PointerMutabilityPartialEq.TheImpl as pointer_eq
use Rattle.syn_lower_types.specs.contracts.ty.BareFnArgOfPartialEq.TheImpl as arg_eq
use Rattle.syn_lower_types.specs.contracts.ty.ReturnTypeOfPartialEq.TheImpl as return_eq
use Rattle.syn_lower_types.specs.contracts.ty.TypeParamBoundOfPartialEq.TheImpl as bound_eq
use Rattle.syn_lower_types.specs.contracts.ty.TraitBoundOfPartialEq.TheImpl as trait_eq
use Rattle.syn_lower_types.specs.contracts.ty.TypePathOfPartialEq.TheImpl as type_path_eq
use Rattle.syn_lower_types.specs.contracts.ty.TypeMacroOfPartialEq.TheImpl as type_macro_eq
use Rattle.syn_lower_types.specs.contracts.ty.TypeReferenceOfPartialEq.TheImpl as reference_eq
use Rattle.syn_lower_types.specs.contracts.ty.TypePtrOfPartialEq.TheImpl as ptr_eq
use Rattle.syn_lower_types.specs.contracts.ty.TypeSliceOfPartialEq.TheImpl as slice_eq
use Rattle.syn_lower_types.specs.contracts.ty.TypeArrayOfPartialEq.TheImpl as array_eq
use Rattle.syn_lower_types.specs.contracts.ty.TypeTupleOfPartialEq.TheImpl as tuple_eq
use Rattle.syn_lower_types.specs.contracts.ty.TypeParenOfPartialEq.TheImpl as paren_eq
use Rattle.syn_lower_types.specs.contracts.ty.TypeFnPtrOfPartialEq.TheImpl as fn_ptr_eq
use Rattle.syn_lower_types.specs.contracts.ty.TypeImplTraitOfPartialEq.TheImpl as impl_eq
use Rattle.syn_lower_types.specs.contracts.ty.TypeTraitObjectOfPartialEq.TheImpl as object_eq
use Rattle.syn_lower_leaves.proofs.Ties.{both_tie, on_tie, made_tie, option_tie, some_tie, text_tie, number_tie, pair_path, and_true_tie, constant_tie, along, rank_end, rank_more}
use Rattle.syn_lower_leaves.proofs.LeafTies.{toks_tie, lifetime_tie, delimiter_tie, lit_str_tie}
use Rattle.syn_laws.proofs.ListTies.{punctuated_tie}

abbrev no_dict : Dict
no_dict = impl [] tnil dnil

-- ---- what holds no types

pub lifetimes_tie : IsEqualityOf lifetimes_of lifetimes_eq.ghosts.eq
lifetimes_tie = and_true_tie (on_tie {C = BoundLifetimes} (λ x. x.lifetimes) (punctuated_tie lifetime_tie))

pub abi_tie : IsEqualityOf abi_of abi_eq.ghosts.eq
abi_tie = on_tie {C = Abi} (λ x. x.name) (option_tie lit_str_tie)

pub pointer_tie : IsEqualityOf is_mut pointer_eq.ghosts.eq
pointer_tie = record { same = go }
  where
    go : (x y : PointerMutability) → (pointer_eq.ghosts.eq x y ≡ true) ↔ (is_mut x ≡ is_mut y)
    go (pointer.Const a) (pointer.Const b) = (λ h. refl, λ e. refl)
    go (pointer.Mut a) (pointer.Mut b) = (λ h. refl, λ e. refl)
    go _ _ = (λ h. absurd cc, λ e. absurd cc)

-- ---- a tree tells its parts

pub segments_once : (a b : List SegmentTree) → t.segments_of a ≡ t.segments_of b → a ≡ b
segments_once a b e = sym (segments-segments_of a) ∙ (ap t.segments e ∙ segments-segments_of b)

types_once : (a b : List TypeTree) → t.types_of a ≡ t.types_of b → a ≡ b
types_once a b e = sym (types-types_of a) ∙ (ap t.types e ∙ types-types_of b)

generics_once : (a b : List GenericTree) → t.generics_of a ≡ t.generics_of b → a ≡ b
generics_once a b e = sym (generics-generics_of a) ∙ (ap t.generics e ∙ generics-generics_of b)

args_once : (a b : List FnArgTree) → t.args_of a ≡ t.args_of b → a ≡ b
args_once a b e = sym (args-args_of a) ∙ (ap t.args e ∙ args-args_of b)

bounds_once : (a b : List BoundTree) → t.bounds_of a ≡ t.bounds_of b → a ≡ b
bounds_once a b e = sym (bounds-bounds_of a) ∙ (ap t.bounds e ∙ bounds-bounds_of b)

path_parts : (p q : PathTree) → p.leading ≡ q.leading → t.segments_of p.segments ≡ t.segments_of q.segments → p.trailing ≡ q.trailing → p ≡ q
path_parts p q a b c = let d = segments_once p.segments q.segments b in λ i. record { leading = a i; segments = d i; trailing = c i }

mac_once : (m n : MacroTree) → mac_with m ≡ mac_with n → m ≡ n
mac_once m n e =
    let a : m.path ≡ n.path = path_parts m.path n.path (cc) (cc) (cc) in let b : m.delimiter ≡ n.delimiter = cc in let c : m.tokens ≡ n.tokens = cc in λ i. record { path = a i; delimiter = b i; tokens = c i }

abbrev TraitParts : Type 0
TraitParts = Bool × (Option LifetimesTree × PathTree)

trait_once : (p q : TraitParts) → trait_with p.0 p.1.0 p.1.1 ≡ trait_with q.0 q.1.0 q.1.1 → p ≡ q
trait_once p q e = pair_path (cc) (pair_path (cc) (path_parts p.1.1 q.1.1 (cc) (cc) (cc)))

path_once : (p q : QSelfTree × PathTree) → path_with p.0 p.1 ≡ path_with q.0 q.1 → p ≡ q
path_once p q e = pair_path (cc) (path_parts p.1 q.1 (cc) (cc) (cc))

abbrev FnParts : Type 0
FnParts = Option LifetimesTree × (Bool × (Option (Option LitTree) × ((List FnArgTree × Bool) × ReturnTree)))

abbrev fn_ptr_with : FnParts → TypeTree
fn_ptr_with p = t.fn_ptr p.0 p.1.0 p.1.1.0 (t.args_of p.1.1.1.0.0) p.1.1.1.0.1 p.1.1.1.1

fn_ptr_once : (p q : FnParts) → fn_ptr_with p ≡ fn_ptr_with q → p ≡ q
fn_ptr_once p q e = pair_path (cc) (pair_path (cc) (pair_path (cc) (pair_path (pair_path (args_once p.1.1.1.0.0 q.1.1.1.0.0 (cc)) (cc)) (cc))))

-- ---- which variant a tree is of

abbrev return_kind : ReturnTree → ℕ
return_kind t.default = 0
return_kind (t.given x) = 1

abbrev generic_kind : GenericTree → ℕ
generic_kind (t.a_lifetime w) = 0
generic_kind (t.a_const i) = 1
generic_kind (t.an_assoc w x) = 2
generic_kind (t.a_type x) = 3

abbrev args_kind : ArgumentsTree → ℕ
args_kind t.no_arguments = 0
args_kind (t.angle c x e) = 1
args_kind (t.round x e r) = 2

abbrev bound_kind : BoundTree → ℕ
bound_kind (t.outlives w) = 0
bound_kind (t.a_trait q l c s e) = 1

-- ---- what holds types

module _ (T : RattleType) {f : T.Denot → TypeTree} {E : T.Denot → T.Denot → Bool} (tie : IsEqualityOf f E) where
  boxed : IsEqualityOf (λ (x : Box T.Denot Global). f x.value) (λ x y. E x.value y.value)
  boxed = on_tie {C = Box T.Denot Global} (λ x. x.value) tie

  pub return_tie : IsEqualityOf (return_of f) (return_eq.ghosts T (record { eq = E }) no_dict).eq
  return_tie =
      along (λ x. ap (return_of f) (sym (return_row.the_eta T x))) (on_tie {C = ReturnTypeOf T.Denot} (return_row.as_values T) (
      rank_more return_kind {k = 0} {view = λ (c : Choice (return_row.the_parts T)). return_of f (return_row.the_make T c)} (constant_tie t.default) (λ v. refl)
      (rank_more return_kind (on_tie (λ v. v.1.0.value) (made_tie t.given (λ p q e. cc) tie)) (λ v. refl) (rank_end return_kind))).tie)

  pub assoc_tie : IsEqualityOf (assoc_of f) (assoc_eq.ghosts T (record { eq = E }) no_dict).eq
  assoc_tie =
      let it = made_tie {B = Text × TypeTree} (λ p. t.an_assoc p.0 p.1) (λ p q e. pair_path (cc) (cc)) (both_tie (on_tie {C = AssocTypeOf T.Denot} (λ x. x.ident) text_tie) (on_tie {C = AssocTypeOf T.Denot} (λ x. x.ty) tie)) in it

  pub generic_tie : IsEqualityOf (generic_of f) (generic_eq.ghosts T (record { eq = E }) no_dict).eq
  generic_tie =
      along (λ x. ap (generic_of f) (sym (generic_row.the_eta T x))) (on_tie {C = GenericArgumentOf T.Denot} (generic_row.as_values T) (
      rank_more generic_kind {k = 0} {view = λ (c : Choice (generic_row.the_parts T)). generic_of f (generic_row.the_make T c)} (on_tie (λ v. v.0) (made_tie t.a_lifetime (λ p q e. cc) lifetime_tie)) (λ v. refl)
      (rank_more generic_kind (on_tie (λ v. v.0) (made_tie t.a_const (λ p q e. cc) toks_tie)) (λ v. refl)
      (rank_more generic_kind (on_tie (λ v. v.0) assoc_tie) (λ v. refl)
      (rank_more generic_kind (on_tie (λ v. v.0) (made_tie t.a_type (λ p q e. cc) tie)) (λ v. refl) (rank_end generic_kind))))).tie)

  pub angle_tie : IsEqualityOf (angle_of f) (angle_eq.ghosts T (record { eq = E }) no_dict).eq
  angle_tie =
      let it = made_tie {B = Bool × (List GenericTree × Bool)} (λ p. t.angle p.0 (t.generics_of p.1.0) p.1.1) (λ p q e. pair_path (cc) (pair_path (generics_once p.1.0 q.1.0 (cc)) (cc)))
      (both_tie (on_tie {C = AngleBracketedGenericArgumentsOf T.Denot} (λ x. x.colon2_token) some_tie) (and_true_tie (on_tie {C = AngleBracketedGenericArgumentsOf T.Denot} (λ x. x.args) (punctuated_tie generic_tie)))) in it

  pub round_tie : IsEqualityOf (round_of f) (round_eq.ghosts T (record { eq = E }) no_dict).eq
  round_tie =
      let it = made_tie {B = (List TypeTree × Bool) × ReturnTree} (λ p. t.round (t.types_of p.0.0) p.0.1 p.1) (λ p q e. pair_path (pair_path (types_once p.0.0 q.0.0 (cc)) (cc)) (cc))
      (both_tie (on_tie {C = ParenthesizedGenericArgumentsOf T.Denot} (λ x. x.inputs) (punctuated_tie tie)) (on_tie {C = ParenthesizedGenericArgumentsOf T.Denot} (λ x. x.output) return_tie)) in it

  pub args_tie : IsEqualityOf (arguments_of f) (args_eq.ghosts T (record { eq = E }) no_dict).eq
  args_tie =
      along (λ x. ap (arguments_of f) (sym (args_row.the_eta T x))) (on_tie {C = PathArgumentsOf T.Denot} (args_row.as_values T) (
      rank_more args_kind {k = 0} {view = λ (c : Choice (args_row.the_parts T)). arguments_of f (args_row.the_make T c)} (constant_tie t.no_arguments) (λ v. refl)
      (rank_more args_kind (on_tie (λ v. v.0) angle_tie) (λ v. refl)
      (rank_more args_kind (on_tie (λ v. v.0) round_tie) (λ v. refl) (rank_end args_kind)))).tie)

  pub segment_tie : IsEqualityOf (segment_of f) (segment_eq.ghosts T (record { eq = E }) no_dict).eq
  segment_tie =
      let it = made_tie {B = Text × ArgumentsTree} {C = SegmentTree} (λ p. record { ident = p.0; arguments = p.1 }) (λ p q e. pair_path (ap (λ (r : SegmentTree). r.ident) e) (ap (λ (r : SegmentTree). r.arguments) e))
      (both_tie (on_tie {C = PathSegmentOf T.Denot} (λ x. x.ident) text_tie) (on_tie {C = PathSegmentOf T.Denot} (λ x. x.arguments) args_tie)) in it

  pub path_tie : IsEqualityOf (path_of f) (path_eq.ghosts T (record { eq = E }) no_dict).eq
  path_tie =
      let it = made_tie {B = Bool × (List SegmentTree × Bool)} {C = PathTree} (λ p. record { leading = p.0; segments = p.1.0; trailing = p.1.1 }) (λ p q e. pair_path (ap (λ (r : PathTree). r.leading) e) (pair_path (ap (λ (r : PathTree). r.segments) e) (ap (λ (r : PathTree). r.trailing) e)))
      (both_tie (on_tie {C = PathOf T.Denot} (λ x. x.leading_colon) some_tie) (on_tie {C = PathOf T.Denot} (λ x. x.segments) (punctuated_tie segment_tie))) in it

  pub macro_tie : IsEqualityOf (macro_of f) (macro_eq.ghosts T (record { eq = E }) no_dict).eq
  macro_tie =
      let it = made_tie {B = PathTree × (Delimiter × List Tok)} {C = MacroTree} (λ p. record { path = p.0; delimiter = p.1.0; tokens = p.1.1 }) (λ p q e. pair_path (ap (λ (r : MacroTree). r.path) e) (pair_path (ap (λ (r : MacroTree). r.delimiter) e) (ap (λ (r : MacroTree). r.tokens) e)))
      (both_tie (on_tie {C = MacroOf T.Denot} (λ x. x.path) path_tie) (both_tie (on_tie {C = MacroOf T.Denot} (λ x. x.delimiter) delimiter_tie) (on_tie {C = MacroOf T.Denot} (λ x. x.tokens) toks_tie))) in it

  pub trait_tie : IsEqualityOf (trait_of f) (trait_eq.ghosts T (record { eq = E }) no_dict).eq
  trait_tie =
      let it = made_tie {B = TraitParts} (λ p. trait_with p.0 p.1.0 p.1.1) trait_once
      (both_tie (on_tie {C = TraitBoundOf T.Denot} (λ x. x.maybe) some_tie) (both_tie (on_tie {C = TraitBoundOf T.Denot} (λ x. x.lifetimes) (option_tie lifetimes_tie)) (on_tie {C = TraitBoundOf T.Denot} (λ x. x.path) path_tie))) in it

  pub bound_tie : IsEqualityOf (bound_of f) (bound_eq.ghosts T (record { eq = E }) no_dict).eq
  bound_tie =
      along (λ x. ap (bound_of f) (sym (bound_row.the_eta T x))) (on_tie {C = TypeParamBoundOf T.Denot} (bound_row.as_values T) (
      rank_more bound_kind {k = 0} {view = λ (c : Choice (bound_row.the_parts T)). bound_of f (bound_row.the_make T c)} (on_tie (λ v. v.0) (made_tie t.outlives (λ p q e. cc) lifetime_tie)) (λ v. refl)
      (rank_more bound_kind (on_tie (λ v. v.0) trait_tie) (λ v. refl) (rank_end bound_kind))).tie)

  pub arg_tie : IsEqualityOf (arg_of f) (arg_eq.ghosts T (record { eq = E }) no_dict).eq
  arg_tie =
      let it = made_tie {B = Option Text × TypeTree} {C = FnArgTree} (λ p. record { name = p.0; ty = p.1 }) (λ p q e. pair_path (ap (λ (r : FnArgTree). r.name) e) (ap (λ (r : FnArgTree). r.ty) e))
      (both_tie (on_tie {C = BareFnArgOf T.Denot} (λ x. x.name) (option_tie (and_true_tie (on_tie (λ p. p.0) text_tie)))) (on_tie {C = BareFnArgOf T.Denot} (λ x. x.ty) tie)) in it

  pub qself_tie : IsEqualityOf (qself_of f) (qself_eq.ghosts T (record { eq = E }) no_dict).eq
  qself_tie =
      let it = made_tie {B = TypeTree × (ℕ × Bool)} (λ p. t.qself p.0 p.1.0 p.1.1) (λ p q e. pair_path (cc) (pair_path (cc) (cc)))
      (both_tie (on_tie {C = QSelfOf T.Denot} (λ x. x.ty) boxed) (both_tie (on_tie {C = QSelfOf T.Denot} (λ x. x.position) number_tie) (and_true_tie (on_tie {C = QSelfOf T.Denot} (λ x. x.as_token) some_tie)))) in it

  qself_or_tie : IsEqualityOf (qself_or f) (option_eq (qself_eq.ghosts T (record { eq = E }) no_dict).eq)
  qself_or_tie = record { same = go }
    where
      go : (x y : Option (QSelfOf T.Denot)) → (option_eq (qself_eq.ghosts T (record { eq = E }) no_dict).eq x y ≡ true) ↔ (qself_or f x ≡ qself_or f y)
      go None None = (λ h. refl, λ e. refl)
      go None (Some y) = (λ h. absurd cc, λ e. absurd cc)
      go (Some x) None = (λ h. absurd cc, λ e. absurd cc)
      go (Some x) (Some y) = qself_tie.same x y

  -- each kind of type

  pub type_path_tie : IsEqualityOf (type_path_of f) (type_path_eq.ghosts T (record { eq = E }) no_dict).eq
  type_path_tie =
      let it = made_tie {B = QSelfTree × PathTree} (λ p. path_with p.0 p.1) path_once (both_tie (on_tie {C = TypePathOf T.Denot} (λ x. x.qself) qself_or_tie) (on_tie {C = TypePathOf T.Denot} (λ x. x.path) path_tie)) in it

  pub type_macro_tie : IsEqualityOf (type_macro_of f) (type_macro_eq.ghosts T (record { eq = E }) no_dict).eq
  type_macro_tie =
      let it = made_tie {B = MacroTree} mac_with mac_once (on_tie {C = TypeMacroOf T.Denot} (λ x. x.mac) macro_tie) in it

  pub reference_tie : IsEqualityOf (reference_of f) (reference_eq.ghosts T (record { eq = E }) no_dict).eq
  reference_tie =
      let it = made_tie {B = Option Text × (Bool × TypeTree)} (λ p. t.reference p.0 p.1.0 p.1.1) (λ p q e. pair_path (cc) (pair_path (cc) (cc)))
      (both_tie (on_tie {C = TypeReferenceOf T.Denot} (λ x. x.lifetime) (option_tie lifetime_tie)) (both_tie (on_tie {C = TypeReferenceOf T.Denot} (λ x. x.mutability) some_tie) (on_tie {C = TypeReferenceOf T.Denot} (λ x. x.elem) boxed))) in it

  pub ptr_tie : IsEqualityOf (ptr_of f) (ptr_eq.ghosts T (record { eq = E }) no_dict).eq
  ptr_tie =
      let it = made_tie {B = Bool × TypeTree} (λ p. t.ptr p.0 p.1) (λ p q e. pair_path (cc) (cc)) (both_tie (on_tie {C = TypePtrOf T.Denot} (λ x. x.mutability) pointer_tie) (on_tie {C = TypePtrOf T.Denot} (λ x. x.elem) boxed)) in it

  pub slice_tie : IsEqualityOf (slice_of f) (slice_eq.ghosts T (record { eq = E }) no_dict).eq
  slice_tie =
      let it = made_tie {B = TypeTree} (λ p. t.slice p) (λ p q e. cc) (on_tie {C = TypeSliceOf T.Denot} (λ x. x.elem) boxed) in it

  pub array_tie : IsEqualityOf (array_of f) (array_eq.ghosts T (record { eq = E }) no_dict).eq
  array_tie =
      let it = made_tie {B = TypeTree × List Tok} (λ p. t.array p.0 p.1) (λ p q e. pair_path (cc) (cc)) (both_tie (on_tie {C = TypeArrayOf T.Denot} (λ x. x.elem) boxed) (on_tie {C = TypeArrayOf T.Denot} (λ x. x.len) toks_tie)) in it

  pub tuple_tie : IsEqualityOf (tuple_of f) (tuple_eq.ghosts T (record { eq = E }) no_dict).eq
  tuple_tie =
      let it = made_tie {B = List TypeTree × Bool} (λ p. t.tuple (t.types_of p.0) p.1) (λ p q e. pair_path (types_once p.0 q.0 (cc)) (cc)) (on_tie {C = TypeTupleOf T.Denot} (λ x. x.elems) (punctuated_tie tie)) in it

  pub paren_tie : IsEqualityOf (paren_of f) (paren_eq.ghosts T (record { eq = E }) no_dict).eq
  paren_tie =
      let it = made_tie {B = TypeTree} (λ p. t.paren p) (λ p q e. cc) (on_tie {C = TypeParenOf T.Denot} (λ x. x.elem) boxed) in it

  pub fn_ptr_tie : IsEqualityOf (fn_ptr_of f) (fn_ptr_eq.ghosts T (record { eq = E }) no_dict).eq
  fn_ptr_tie =
      let it = made_tie {B = FnParts} fn_ptr_with fn_ptr_once
      (both_tie (on_tie {C = TypeFnPtrOf T.Denot} (λ x. x.lifetimes) (option_tie lifetimes_tie)) (both_tie (on_tie {C = TypeFnPtrOf T.Denot} (λ x. x.unsafety) some_tie) (both_tie (on_tie {C = TypeFnPtrOf T.Denot} (λ x. x.abi) (option_tie abi_tie))
      (both_tie (on_tie {C = TypeFnPtrOf T.Denot} (λ x. x.inputs) (punctuated_tie arg_tie)) (on_tie {C = TypeFnPtrOf T.Denot} (λ x. x.output) return_tie))))) in it

  pub impl_tie : IsEqualityOf (impl_trait_of f) (impl_eq.ghosts T (record { eq = E }) no_dict).eq
  impl_tie =
      let it = made_tie {B = List BoundTree × Bool} (λ p. t.impl_trait (t.bounds_of p.0) p.1) (λ p q e. pair_path (bounds_once p.0 q.0 (cc)) (cc)) (on_tie {C = TypeImplTraitOf T.Denot} (λ x. x.bounds) (punctuated_tie bound_tie)) in it

  pub object_tie : IsEqualityOf (trait_object_of f) (object_eq.ghosts T (record { eq = E }) no_dict).eq
  object_tie =
      let it = made_tie {B = List BoundTree × Bool} (λ p. t.trait_object (t.bounds_of p.0) p.1) (λ p q e. pair_path (bounds_once p.0 q.0 (cc)) (cc)) (on_tie {C = TypeTraitObjectOf T.Denot} (λ x. x.bounds) (punctuated_tie bound_tie)) in it
