-- A node is made of what is around its operands, and of these.
use Rattle.std.proofs.Common.{◌≡◌, List, [], ◌∷◌, ◌++◌, map, refl}
use Rattle.syn_expr_spec.specs.Tree.{Tree, Children, leaf, paren, attributed, prefixed, infixed, postfixed, tail, frame, none, child}
use Rattle.syn_visit_kinds.specs.Nodes.{child_operands, map_children, map_operands, operands_in}

module _ (f : Tree → Tree) (k : Tree) where
  rebuilt_children : (ks ls : Children) → map_children (λ _. k) ls ≡ map_children (λ _. k) ks → child_operands ls ≡ map f (child_operands ks) → ls ≡ map_children f ks
  rebuilt_children none none around all = refl
  rebuilt_children (child p e t ks) (child q d u ls) around all = let more = rebuilt_children ks ls (cc) (cc) in cc
  rebuilt_children none (child q d u ls) around all = absurd (cc)
  rebuilt_children (child p e t ks) none around all = absurd (cc)

  last_two : (xs ys : List Tree) (x y : Tree) → ys ++ y ∷ [] ≡ map f (xs ++ x ∷ []) → (ys ≡ map f xs) × (y ≡ f x)
  last_two [] [] x y is = (refl, cc)
  last_two (a ∷ xs) (b ∷ ys) x y is = let more = last_two xs ys x y (cc) in (cc, more.1)
  last_two [] (b ∷ []) x y is = absurd (cc)
  last_two [] (b ∷ c ∷ ys) x y is = absurd (cc)
  last_two (a ∷ []) [] x y is = absurd (cc)
  last_two (a ∷ c ∷ xs) [] x y is = absurd (cc)

  pub rebuilt : (t u : Tree) → map_operands (λ _. k) u ≡ map_operands (λ _. k) t → operands_in u ≡ map f (operands_in t) → u ≡ map_operands f t
  rebuilt (leaf a) (leaf b) around all = around
  rebuilt (paren m t) (paren n u) around all = cc
  rebuilt (attributed a more t) (attributed b others u) around all = let inside = rebuilt t u (cc) all in cc
  rebuilt (prefixed p gs t) (prefixed q hs u) around all =
      let both = last_two (child_operands gs) (child_operands hs) t u all in
      let more = rebuilt_children gs hs (cc) both.0 in cc
  rebuilt (infixed x i y) (infixed v j w) around all = cc
  rebuilt (postfixed x p) (postfixed y q) around all = cc
  rebuilt (tail b p ks) (tail c q ls) around all = let more = rebuilt_children ks ls (cc) (cc) in cc
  rebuilt (frame p ks) (frame q ls) around all = let more = rebuilt_children ks ls (cc) all in cc
  rebuilt _ _ around all = absurd (cc)
