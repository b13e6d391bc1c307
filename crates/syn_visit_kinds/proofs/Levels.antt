-- What goes over all nodes, one level at a time.
use Rattle.std.specs.List.{list_any}
use Rattle.std.proofs.Common.{◌≡◌, Bool, true, false, ◌||◌, List, [], ◌∷◌, ◌++◌, flat_map, refl, sym, ap, ◌∙◌}
use Rattle.std.proofs.lemmas.List.{append-nil}
use Rattle.std.proofs.lemmas.List.Concat.{flat_map-append}
use Rattle.std.proofs.Math.Bool.{or-false}
use Rattle.syn_expr_spec.specs.Tree.{Tree, Children, leaf, paren, attributed, prefixed, infixed, postfixed, tail, frame, none, child}
use Rattle.syn_visit_kinds.specs.Nodes.{all_nodes, child_nodes, child_operands, map_children, map_operands, nodes_below, operands_in, rewrite_below, rewrite_children, rewrite_tree}

-- ---- rewriting

children_level : (f : Tree → Tree) (ks : Children) → rewrite_children f ks ≡ map_children (rewrite_tree f) ks
children_level f none = refl
children_level f (child k e t ks) = ap (child k e (rewrite_tree f t)) (children_level f ks)

below_level : (f : Tree → Tree) (t : Tree) → rewrite_below f t ≡ map_operands (rewrite_tree f) t
below_level f (leaf k) = refl
below_level f (paren m t) = refl
below_level f (attributed a more t) = ap (attributed a more) (below_level f t)
below_level f (prefixed k gs t) = ap (λ l. prefixed k l (rewrite_tree f t)) (children_level f gs)
below_level f (infixed x k y) = refl
below_level f (postfixed x k) = refl
below_level f (tail b k ks) = ap (tail (rewrite_tree f b) k) (children_level f ks)
below_level f (frame k ks) = ap (frame k) (children_level f ks)

pub rewrite_level : (f : Tree → Tree) (t : Tree) → rewrite_tree f t ≡ f (map_operands (rewrite_tree f) t)
rewrite_level f t = ap f (below_level f t)

-- ---- all nodes

children_nodes : (ks : Children) → child_nodes ks ≡ flat_map all_nodes (child_operands ks)
children_nodes none = refl
children_nodes (child k e t ks) = ap (λ l. all_nodes t ++ l) (children_nodes ks)

pub below_nodes : (t : Tree) → nodes_below t ≡ flat_map all_nodes (operands_in t)
below_nodes (leaf k) = refl
below_nodes (paren m t) = sym (append-nil (all_nodes t))
below_nodes (attributed a more t) = below_nodes t
below_nodes (prefixed k gs t) =
    ap (λ l. l ++ all_nodes t) (children_nodes gs) ∙ ap (λ l. flat_map all_nodes (child_operands gs) ++ l) (sym (append-nil (all_nodes t)))
    ∙ sym (flat_map-append all_nodes (child_operands gs) (t ∷ []))
below_nodes (infixed x k y) = ap (λ l. all_nodes x ++ l) (sym (append-nil (all_nodes y)))
below_nodes (postfixed x k) = sym (append-nil (all_nodes x))
below_nodes (tail b k ks) = ap (λ l. all_nodes b ++ l) (children_nodes ks)
below_nodes (frame k ks) = children_nodes ks

pub nodes_level : (t : Tree) → all_nodes t ≡ t ∷ flat_map all_nodes (operands_in t)
nodes_level t = ap (λ l. t ∷ l) (below_nodes t)

-- ---- whether a node passes a test: it does, or one below does

by_first : (b c d e : Bool) → c ≡ d || e → b || c ≡ (b || d) || e
by_first true c d e h = refl
by_first false c d e h = h

pub any_both : {A : Type 0} (p : A → Bool) (xs ys : List A) → list_any p (xs ++ ys) ≡ list_any p xs || list_any p ys
any_both p [] ys = refl
any_both p (x ∷ xs) ys = by_first (p x) _ (list_any p xs) (list_any p ys) (any_both p xs ys)

module _ (p : Tree → Bool) where
  abbrev any_in : Tree → Bool
  any_in t = list_any p (all_nodes t)

  children_any : (ks : Children) → list_any p (child_nodes ks) ≡ list_any any_in (child_operands ks)
  children_any none = refl
  children_any (child k e t ks) = any_both p (all_nodes t) (child_nodes ks) ∙ ap (λ b. any_in t || b) (children_any ks)

  below_any : (t : Tree) → list_any p (nodes_below t) ≡ list_any any_in (operands_in t)
  below_any (leaf k) = refl
  below_any (paren m t) = sym (or-false (any_in t))
  below_any (attributed a more t) = below_any t
  below_any (prefixed k gs t) =
      any_both p (child_nodes gs) (all_nodes t) ∙ ap (λ b. b || any_in t) (children_any gs)
      ∙ ap (λ b. list_any any_in (child_operands gs) || b) (sym (or-false (any_in t))) ∙ sym (any_both any_in (child_operands gs) (t ∷ []))
  below_any (infixed x k y) = any_both p (all_nodes x) (all_nodes y) ∙ ap (λ b. any_in x || b) (sym (or-false (any_in y)))
  below_any (postfixed x k) = sym (or-false (any_in x))
  below_any (tail b k ks) = any_both p (all_nodes b) (child_nodes ks) ∙ ap (λ c. any_in b || c) (children_any ks)
  below_any (frame k ks) = children_any ks

  pub any_level : (t : Tree) → list_any p (all_nodes t) ≡ p t || list_any (λ u. list_any p (all_nodes u)) (operands_in t)
  any_level t = ap (λ b. p t || b) (below_any t)
