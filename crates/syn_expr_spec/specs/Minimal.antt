-- One of the added pairs of parentheses less, and none of them.
use Rattle.std.specs.Prelude.{◌≡◌, ◌⊎◌, true, false}
use Rattle.syn_expr_spec.specs.Tree.{Tree, Children, leaf, paren, attributed, prefixed, infixed, postfixed, tail, frame, none, child}

-- the tree q is p with one of the added pairs replaced by what it holds
abbrev mutual
  pub OneLess : Tree → Tree → Type 0
  OneLess (leaf k) q = ⊥
  OneLess (paren true t) q = (q ≡ t) ⊎ ((u : Tree) × OneLess t u × (q ≡ paren true u))
  OneLess (paren false t) q = (u : Tree) × OneLess t u × (q ≡ paren false u)
  OneLess (attributed a more t) q = (u : Tree) × OneLess t u × (q ≡ attributed a more u)
  OneLess (prefixed k gs t) q = (u : Tree) × OneLess t u × (q ≡ prefixed k gs u)
  OneLess (infixed x k y) q = ((u : Tree) × OneLess x u × (q ≡ infixed u k y)) ⊎ ((u : Tree) × OneLess y u × (q ≡ infixed x k u))
  OneLess (postfixed x k) q = (u : Tree) × OneLess x u × (q ≡ postfixed u k)
  OneLess (tail b k ks) q = ((u : Tree) × OneLess b u × (q ≡ tail u k ks)) ⊎ ((us : Children) × OneLessChild ks us × (q ≡ tail b k us))
  OneLess (frame k ks) q = (us : Children) × OneLessChild ks us × (q ≡ frame k us)

  pub OneLessChild : Children → Children → Type 0
  OneLessChild none q = ⊥
  OneLessChild (child k c t ks) q = ((u : Tree) × OneLess t u × (q ≡ child k c u ks)) ⊎ ((us : Children) × OneLessChild ks us × (q ≡ child k c t us))

-- the tree without the pairs that were added
abbrev mutual
  pub without_added : Tree → Tree
  without_added (leaf k) = leaf k
  without_added (paren true t) = without_added t
  without_added (paren false t) = paren false (without_added t)
  without_added (attributed a more t) = attributed a more (without_added t)
  without_added (prefixed k gs t) = prefixed k gs (without_added t)
  without_added (infixed x k y) = infixed (without_added x) k (without_added y)
  without_added (postfixed x k) = postfixed (without_added x) k
  without_added (tail b k ks) = tail (without_added b) k (children_without_added ks)
  without_added (frame k ks) = frame k (children_without_added ks)

  pub children_without_added : Children → Children
  children_without_added none = none
  children_without_added (child k c t ks) = child k c (without_added t) (children_without_added ks)
