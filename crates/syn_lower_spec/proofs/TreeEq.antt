-- Whether two trees are equal can be decided.
use Rattle.std.proofs.Common.{◌≡◌, Bool, true, false, List, Option, Some, None, refl}
use mathlib.Core.HLevel.{Discrete, ×_discrete}
use mathlib.Core.Bool.{Bool-discrete}
use mathlib.Core.List.{List-discrete}
use native.Mathlib.Decide.{ℕ_discrete, map_dec}
use Rattle.syn_lexer.specs.declared.front.Delimiter.{Delimiter}
use Rattle.syn_tokens.specs.Tok.{Tok}
use Rattle.syn_tokens.specs.Front.{same_delimiter}
use Rattle.syn_tokens.specs.Same.{same_list, same_list-true, same_list_equiv, same_delimiter-true, same_delimiter-refl}
use Rattle.syn_lower_spec.specs.Text.{Text}
use Rattle.syn_lower_spec.specs.Tree.{LitTree, LifetimesTree, TypeTree, path, mac, reference, ptr, slice, array, tuple, paren, never, infer, fn_ptr, impl_trait, trait_object, Types, no_types, more_types, QSelfTree, no_qself, qself, Segments, no_segments, more_segments, ArgumentsTree, no_arguments, angle, round, Generics, no_generics, more_generics, GenericTree, a_lifetime, a_const, an_assoc, a_type, ReturnTree, default, given, FnArgs, no_args, more_args, Bounds, no_bounds, more_bounds, BoundTree, outlives, a_trait}
use Rattle.syn_lower_spec.specs.Same.{same_lit}
use Rattle.syn_lower_spec.proofs.Same.{same_lit-refl, same_kind-true, both_true, compares_texts}

-- by a test
tested : {A : Type 0} (test : A → A → Bool) → ((x y : A) → test x y ≡ true → x ≡ y) → ((x : A) → test x x ≡ true) → Discrete A
tested test sound whole x y = go (test x y) refl
  where
    go : (b : Bool) → test x y ≡ b → Dec (x ≡ y)
    go true h = yes (sound x y h)
    go false h = no (λ e. absurd (let k = whole x in cc))

toks_eq : Discrete (List Tok)
toks_eq = tested same_list same_list-true (λ l. same_list_equiv.refl l)

delimiter_eq : Discrete Delimiter
delimiter_eq = tested same_delimiter same_delimiter-true same_delimiter-refl

text_eq : Discrete Text
text_eq = List-discrete ℕ_discrete

option_eq : {A : Type 0} → Discrete A → Discrete (Option A)
option_eq d None None = yes refl
option_eq d None (Some y) = no (λ e. absurd cc)
option_eq d (Some x) None = no (λ e. absurd cc)
option_eq d (Some x) (Some y) = map_dec (λ h. cc) (λ h. cc) (d x y)

lifetimes_eq : Discrete LifetimesTree
lifetimes_eq = ×_discrete (List-discrete text_eq) Bool-discrete

both : {P Q : Type 0} → Dec P → Dec Q → Dec (P × Q)
both (yes p) (yes q) = yes (p, q)
both (yes p) (no n) = no (λ r. n r.1)
both (no n) d = no (λ r. n r.0)

same_lit-true : (x y : LitTree) → same_lit x y ≡ true → x ≡ y
unfolding same_lit
same_lit-true x y h = let p = both_true _ _ h in let k = same_kind-true x.kind y.kind p.0 in let e = compares_texts.equal x.text y.text p.1 in λ i. record { kind = k i; text = e i }

lit_option_eq : Discrete (Option (Option LitTree))
lit_option_eq = option_eq (option_eq (tested same_lit same_lit-true same_lit-refl))

mutual
  pub type_eq : (a b : TypeTree) → Dec (a ≡ b)
  type_eq (path q l s e) (path r m u f) =
      map_dec (λ h. let a = h.0 in let b = h.1.0 in let c = h.1.1.0 in let d = h.1.1.1 in cc) (λ h. (cc, (cc, (cc, cc)))) (both (qself_eq q r) (both (Bool-discrete l m) (both (segments_eq s u) (Bool-discrete e f))))
  type_eq (mac l s e d i) (mac m u f g j) =
      map_dec (λ h. let a = h.0 in let b = h.1.0 in let c = h.1.1.0 in let k = h.1.1.1.0 in let n = h.1.1.1.1 in cc) (λ h. (cc, (cc, (cc, (cc, cc))))) (both (Bool-discrete l m) (both (segments_eq s u) (both (Bool-discrete e f) (both (delimiter_eq d g) (toks_eq i j)))))
  type_eq (reference o m x) (reference p n y) =
      map_dec (λ h. let a = h.0 in let b = h.1.0 in let c = h.1.1 in cc) (λ h. (cc, (cc, cc))) (both (option_eq text_eq o p) (both (Bool-discrete m n) (type_eq x y)))
  type_eq (ptr m x) (ptr n y) = map_dec (λ h. let a = h.0 in let b = h.1 in cc) (λ h. (cc, cc)) (both (Bool-discrete m n) (type_eq x y))
  type_eq (slice x) (slice y) = map_dec (λ h. cc) (λ h. cc) (type_eq x y)
  type_eq (array x i) (array y j) = map_dec (λ h. let a = h.0 in let b = h.1 in cc) (λ h. (cc, cc)) (both (type_eq x y) (toks_eq i j))
  type_eq (tuple x e) (tuple y f) = map_dec (λ h. let a = h.0 in let b = h.1 in cc) (λ h. (cc, cc)) (both (types_eq x y) (Bool-discrete e f))
  type_eq (paren x) (paren y) = map_dec (λ h. cc) (λ h. cc) (type_eq x y)
  type_eq never never = yes refl
  type_eq infer infer = yes refl
  type_eq (fn_ptr l u a x e r) (fn_ptr m v b y f s) =
      map_dec (λ h. let i = h.0 in let j = h.1.0 in let k = h.1.1.0 in let n = h.1.1.1.0 in let o = h.1.1.1.1.0 in let p = h.1.1.1.1.1 in cc) (λ h. (cc, (cc, (cc, (cc, (cc, cc)))))) (both (option_eq lifetimes_eq l m) (both (Bool-discrete u v) (both (lit_option_eq a b) (both (args_eq x y) (both (Bool-discrete e f) (return_eq r s))))))
  type_eq (impl_trait x e) (impl_trait y f) = map_dec (λ h. let a = h.0 in let b = h.1 in cc) (λ h. (cc, cc)) (both (bounds_eq x y) (Bool-discrete e f))
  type_eq (trait_object x e) (trait_object y f) = map_dec (λ h. let a = h.0 in let b = h.1 in cc) (λ h. (cc, cc)) (both (bounds_eq x y) (Bool-discrete e f))
  type_eq _ _ = no (λ e. absurd cc)

  types_eq : (a b : Types) → Dec (a ≡ b)
  types_eq no_types no_types = yes refl
  types_eq (more_types x xs) (more_types y ys) = map_dec (λ h. let p = h.0 in let q = h.1 in cc) (λ h. (cc, cc)) (both (type_eq x y) (types_eq xs ys))
  types_eq _ _ = no (λ e. absurd cc)

  qself_eq : (a b : QSelfTree) → Dec (a ≡ b)
  qself_eq no_qself no_qself = yes refl
  qself_eq (qself x m s) (qself y n u) = map_dec (λ h. let a = h.0 in let b = h.1.0 in let c = h.1.1 in cc) (λ h. (cc, (cc, cc))) (both (type_eq x y) (both (ℕ_discrete m n) (Bool-discrete s u)))
  qself_eq _ _ = no (λ e. absurd cc)

  segments_eq : (a b : Segments) → Dec (a ≡ b)
  segments_eq no_segments no_segments = yes refl
  segments_eq (more_segments w x xs) (more_segments v y ys) =
      map_dec (λ h. let a = h.0 in let b = h.1.0 in let c = h.1.1 in cc) (λ h. (cc, (cc, cc))) (both (text_eq w v) (both (arguments_eq x y) (segments_eq xs ys)))
  segments_eq _ _ = no (λ e. absurd cc)

  pub arguments_eq : (a b : ArgumentsTree) → Dec (a ≡ b)
  arguments_eq no_arguments no_arguments = yes refl
  arguments_eq (angle c x e) (angle d y f) = map_dec (λ h. let a = h.0 in let b = h.1.0 in let k = h.1.1 in cc) (λ h. (cc, (cc, cc))) (both (Bool-discrete c d) (both (generics_eq x y) (Bool-discrete e f)))
  arguments_eq (round x e r) (round y f s) = map_dec (λ h. let a = h.0 in let b = h.1.0 in let k = h.1.1 in cc) (λ h. (cc, (cc, cc))) (both (types_eq x y) (both (Bool-discrete e f) (return_eq r s)))
  arguments_eq _ _ = no (λ e. absurd cc)

  generics_eq : (a b : Generics) → Dec (a ≡ b)
  generics_eq no_generics no_generics = yes refl
  generics_eq (more_generics x xs) (more_generics y ys) = map_dec (λ h. let p = h.0 in let q = h.1 in cc) (λ h. (cc, cc)) (both (generic_eq x y) (generics_eq xs ys))
  generics_eq _ _ = no (λ e. absurd cc)

  pub generic_eq : (a b : GenericTree) → Dec (a ≡ b)
  generic_eq (a_lifetime w) (a_lifetime v) = map_dec (λ h. cc) (λ h. cc) (text_eq w v)
  generic_eq (a_const i) (a_const j) = map_dec (λ h. cc) (λ h. cc) (toks_eq i j)
  generic_eq (an_assoc w x) (an_assoc v y) = map_dec (λ h. let p = h.0 in let q = h.1 in cc) (λ h. (cc, cc)) (both (text_eq w v) (type_eq x y))
  generic_eq (a_type x) (a_type y) = map_dec (λ h. cc) (λ h. cc) (type_eq x y)
  generic_eq _ _ = no (λ e. absurd cc)

  pub return_eq : (a b : ReturnTree) → Dec (a ≡ b)
  return_eq default default = yes refl
  return_eq (given x) (given y) = map_dec (λ h. cc) (λ h. cc) (type_eq x y)
  return_eq _ _ = no (λ e. absurd cc)

  args_eq : (a b : FnArgs) → Dec (a ≡ b)
  args_eq no_args no_args = yes refl
  args_eq (more_args n x xs) (more_args m y ys) = map_dec (λ h. let a = h.0 in let b = h.1.0 in let c = h.1.1 in cc) (λ h. (cc, (cc, cc))) (both (option_eq text_eq n m) (both (type_eq x y) (args_eq xs ys)))
  args_eq _ _ = no (λ e. absurd cc)

  bounds_eq : (a b : Bounds) → Dec (a ≡ b)
  bounds_eq no_bounds no_bounds = yes refl
  bounds_eq (more_bounds x xs) (more_bounds y ys) = map_dec (λ h. let p = h.0 in let q = h.1 in cc) (λ h. (cc, cc)) (both (bound_eq x y) (bounds_eq xs ys))
  bounds_eq _ _ = no (λ e. absurd cc)

  pub bound_eq : (a b : BoundTree) → Dec (a ≡ b)
  bound_eq (outlives w) (outlives v) = map_dec (λ h. cc) (λ h. cc) (text_eq w v)
  bound_eq (a_trait q l c s e) (a_trait r m d u f) =
      map_dec (λ h. let a = h.0 in let b = h.1.0 in let k = h.1.1.0 in let n = h.1.1.1.0 in let o = h.1.1.1.1 in cc) (λ h. (cc, (cc, (cc, (cc, cc))))) (both (Bool-discrete q r) (both (option_eq lifetimes_eq l m) (both (Bool-discrete c d) (both (segments_eq s u) (Bool-discrete e f)))))
  bound_eq _ _ = no (λ e. absurd cc)
