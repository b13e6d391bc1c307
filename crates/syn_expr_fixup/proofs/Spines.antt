-- Down first operands, and up again.
use Rattle.std.specs.Prelude.{Result, Ok, Err}
use Rattle.std.proofs.Common.{◌≡◌, ◌+◌, List, [], ◌∷◌, ◌++◌, Some, OnOk, refl, sym, ap, ◌∙◌, subst, append_assoc, arith}
use Rattle.std.proofs.lemmas.List.{append-nil}
use denote.Ref.{Bor}
use Rattle.syn_expr_spec.specs.declared.summary.Summary.{Summary}
use Rattle.syn_expr_spec.specs.Tree.{Tree, Children, none, child, size}
use Rattle.syn_expr_spec.specs.Summaries.{summary_of, stack, below, children_below}
use Rattle.syn_expr_ast.specs.Node.{OperandTrees, no_trees, one_tree, two_trees, based, framed, based_by, first_of, operands_at}
use Rattle.syn_expr_fixup.specs.Below.{AreFirst, operands_below, operands_size, total}
use Rattle.syn_expr_fixup.specs.Spine.{IsSecond, Prefixes, above, behind_below, behind_size}
use Rattle.syn_expr_fixup.specs.Strays.{strays_at, children_left}
use Rattle.syn_expr_fixup.proofs.Nodes.{below_is, size_is}

-- what holds where the last step is not refused
pub on_map : {U X : Type 0} {A B : Type 0} (r : Result U X) → OnOk r A → (A → B) → OnOk r B
on_map (Ok x) h f = f h
on_map (Err x) h f = h

-- ---- the first operand, and the others

pub first_below : (o : OperandTrees) (f : Tree) → first_of o ≡ Some f → operands_below o ≡ behind_below o ++ stack f
first_below no_trees f h = absurd cc
first_below (one_tree t) f h = let e : t ≡ f = cc in ap stack e
first_below (two_trees x y) f h = let e : x ≡ f = cc in ap (λ t. stack y ++ stack t) e
first_below (based b ks) f h = let e : b ≡ f = cc in ap (λ t. operands_below (based t ks)) e
first_below (framed ks) f h = absurd cc

pub first_size : (o : OperandTrees) (f : Tree) → first_of o ≡ Some f → operands_size o ≡ size f + behind_size o
first_size no_trees f h = absurd cc
first_size (one_tree t) f h = let e : t ≡ f = cc in omega (arith, ap size e)
first_size (two_trees x y) f h = let e : x ≡ f = cc in omega (arith, ap size e)
first_size (based b ks) f h = let e : b ≡ f = cc in omega (arith, ap size e)
first_size (framed ks) f h = absurd cc

pub are_first : (o : OperandTrees) (f : Tree) (m n : Summary) → first_of o ≡ Some f → m ≡ summary_of f → IsSecond o n → AreFirst o m n
are_first no_trees f m n h a b = refl
are_first (one_tree t) f m n h a b = let e : t ≡ f = cc in a ∙ sym (ap summary_of e)
are_first (two_trees x y) f m n h a b = let e : x ≡ f = cc in (a ∙ sym (ap summary_of e), b)
are_first (based t ks) f m n h a b = let e : t ≡ f = cc in a ∙ sym (ap summary_of e)
are_first (framed ks) f m n h a b = refl

-- those that a trailer holds

pub based_behind : (b : Tree) (ks : Children) → behind_below (based_by b ks) ≡ children_below ks
based_behind b none = refl
based_behind b (child k c t ks) = refl

pub based_left : (b : Tree) (ks : Children) → behind_size (based_by b ks) ≡ children_left ks
based_left b none = refl
based_left b (child k c t ks) = refl

-- ---- the nodes over it

module _ {E : Type 0} (see : E → Tree) where
  pub above_more : (qs : List (Bor E × Summary)) (q : Bor E × Summary) → above see (qs ++ q ∷ []) ≡ summary_of (see q.0.now) ∷ above see qs
  above_more [] q = refl
  above_more (p ∷ qs) q = ap (λ l. l ++ summary_of (see p.0.now) ∷ []) (above_more qs q)

  -- one more, innermost
  pub begins_more : (top t f : Tree) (qs : List (Bor E × Summary)) (q : Bor E × Summary) → Prefixes see top qs t → see q.0.now ≡ t → IsSecond (operands_at t) q.1 → first_of (operands_at t) ≡ Some f → Prefixes see top (qs ++ q ∷ []) f
  begins_more top t f [] q h e s i =
      (e ∙ sym h, subst (λ x. IsSecond (operands_at x) q.1) (sym h) s, f, ap (λ x. first_of (operands_at x)) h ∙ i, refl)
  begins_more top t f (p ∷ qs) q (a, b, g, d, h) e s i = (a, b, g, d, begins_more g t f qs q h e s i)

  pub record Last (top : Tree) (qs : List (Bor E × Summary)) (q : Bor E × Summary) (t : Tree) : Type 0 where
    pub prefixes : Prefixes see top qs (see q.0.now)
    pub second : IsSecond (operands_at (see q.0.now)) q.1
    pub first : first_of (operands_at (see q.0.now)) ≡ Some t

  pub begins_last : (top t : Tree) (qs : List (Bor E × Summary)) (q : Bor E × Summary) → Prefixes see top (qs ++ q ∷ []) t → Last top qs q t
  begins_last top t [] q (a, b, g, d, h) = record {
    prefixes = sym a;
    second = subst (λ x. IsSecond (operands_at x) q.1) (sym a) b;
    first = ap (λ x. first_of (operands_at x)) a ∙ d ∙ ap (λ x. Some x) h;
  }
  begins_last top t (p ∷ qs) q (a, b, g, d, h) =
      let r = begins_last g t qs q h in
      record { prefixes = (a, b, g, d, r.prefixes); second = r.second; first = r.first }

  -- a step down: the other operands are noted first
  pub down_rests : (now new all : List Summary) (t f : Tree) (qs : List (Bor E × Summary)) (q : Bor E × Summary) → new ≡ now ++ behind_below (operands_at t) → first_of (operands_at t) ≡ Some f → see q.0.now ≡ t
      → now ++ (stack t ++ above see qs) ≡ all → new ++ (stack f ++ above see (qs ++ q ∷ [])) ≡ all
  down_rests now new all t f qs q a i e h =
      let b = behind_below (operands_at t) in
      let n = summary_of t in
      ap (λ l. l ++ (stack f ++ above see (qs ++ q ∷ []))) a
      ∙ ap (λ l. (now ++ b) ++ (stack f ++ l)) (above_more qs q ∙ ap (λ x. summary_of x ∷ above see qs) e)
      ∙ append_assoc now b (stack f ++ n ∷ above see qs)
      ∙ ap (λ l. now ++ l) (sym (append_assoc b (stack f) (n ∷ above see qs)))
      ∙ ap (λ l. now ++ (l ++ n ∷ above see qs)) (sym (first_below (operands_at t) f i) ∙ below_is t)
      ∙ ap (λ l. now ++ l) (sym (append_assoc (below t) (n ∷ []) (above see qs)))
      ∙ h

  -- a step up: the innermost is summarized
  pub up_rests : (now new all : List Summary) (n : Summary) (qs : List (Bor E × Summary)) (q : Bor E × Summary) → new ≡ now ++ n ∷ [] → n ≡ summary_of (see q.0.now) → now ++ above see (qs ++ q ∷ []) ≡ all → new ++ above see qs ≡ all
  up_rests now new all n qs q a e h =
      ap (λ l. l ++ above see qs) (a ∙ ap (λ m. now ++ m ∷ []) e)
      ∙ append_assoc now (summary_of (see q.0.now) ∷ []) (above see qs)
      ∙ sym (ap (λ l. now ++ l) (above_more qs q))
      ∙ h

  -- ---- what is left to note: of the innermost node's first operand the summary is known
  pub record Closing (top : Tree) (all now : List Summary) (qs : List (Bor E × Summary)) (n : Summary) : Type 0 where
    pub inner : Tree
    pub prefixes : Prefixes see top qs inner
    pub same : n ≡ summary_of inner
    pub kept : now ++ above see qs ≡ all

  pub closing_start : (top t : Tree) (now : List Summary) (qs : List (Bor E × Summary)) (n : Summary) → Prefixes see top qs t → n ≡ summary_of t → Closing top (now ++ above see qs) now qs n
  closing_start top t now qs n l e = record { inner = t; prefixes = l; same = e; kept = refl }

  pub closing_first : (top : Tree) (all now : List Summary) (spine qs : List (Bor E × Summary)) (q : Bor E × Summary) (n : Summary) → spine ≡ qs ++ q ∷ [] → Closing top all now spine n → AreFirst (operands_at (see q.0.now)) n q.1
  closing_first top all now spine qs q n e h =
      let r = begins_last top h.inner qs q (subst (λ l. Prefixes see top l h.inner) e h.prefixes) in
      are_first (operands_at (see q.0.now)) h.inner n q.1 r.first h.same r.second

  pub closing_up : (top : Tree) (all now new : List Summary) (spine qs : List (Bor E × Summary)) (q : Bor E × Summary) (n m : Summary) → spine ≡ qs ++ q ∷ [] → m ≡ summary_of (see q.0.now) → new ≡ now ++ m ∷ [] → Closing top all now spine n → Closing top all new qs m
  closing_up top all now new spine qs q n m e s a h =
      let r = begins_last top h.inner qs q (subst (λ l. Prefixes see top l h.inner) e h.prefixes) in
      record { inner = see q.0.now; prefixes = r.prefixes; same = s; kept = up_rests now new all m qs q a s (subst (λ l. now ++ above see l ≡ all) e h.kept) }

  pub closing_same : (top : Tree) (all now : List Summary) (spine : List (Bor E × Summary)) (n : Summary) → spine ≡ [] → Closing top all now spine n → n ≡ summary_of top
  closing_same top all now spine n e h = h.same ∙ ap (λ t. summary_of t) (sym (subst (λ l. Prefixes see top l h.inner) e h.prefixes))

  pub closing_rests : (top : Tree) (all now : List Summary) (spine : List (Bor E × Summary)) (n : Summary) → spine ≡ [] → Closing top all now spine n → now ≡ all
  closing_rests top all now spine n e h = sym (append-nil now) ∙ ap (λ l. now ++ above see l) (sym e) ∙ h.kept

  -- ---- the innermost is summarized after its operands, and then those over it
  pub whole_rests : (now new all : List Summary) (t : Tree) (qs : List (Bor E × Summary)) → new ≡ now ++ below t → now ++ (stack t ++ above see qs) ≡ all → new ++ (summary_of t ∷ above see qs) ≡ all
  whole_rests now new all t qs a h =
      ap (λ l. l ++ (summary_of t ∷ above see qs)) a
      ∙ append_assoc now (below t) (summary_of t ∷ above see qs)
      ∙ ap (λ l. now ++ l) (sym (append_assoc (below t) (summary_of t ∷ []) (above see qs)))
      ∙ h

-- what is left to visit
pub down_size : (t f : Tree) → first_of (operands_at t) ≡ Some f → size t ≡ 1 + (total size (strays_at t) + (behind_size (operands_at t) + size f))
down_size t f i = omega (arith, size_is t, first_size (operands_at t) f i)

pub ruleset spines = (first_below, first_size, are_first, down_size)

pub ruleset behind = (based_behind, based_left)
