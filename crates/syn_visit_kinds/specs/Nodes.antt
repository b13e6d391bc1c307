-- The nodes of a tree, and what becomes of a tree where a function goes over them. An attribute is a part of its node. The
-- operands of a node are the expressions in it, the guards in its patterns too, wherever these are. Blocks keep their
-- tokens: no node is in them.
use Rattle.std.specs.Prelude.{List, [], ◌∷◌, ◌++◌}
use Rattle.syn_expr_spec.specs.Tree.{Tree, Children, leaf, paren, attributed, prefixed, infixed, postfixed, tail, frame, none, child}

-- ---- the operands of a node, from left to right

abbrev pub child_operands : Children → List Tree
child_operands none = []
child_operands (child k e t ks) = t ∷ child_operands ks

abbrev pub operands_in : Tree → List Tree
operands_in (leaf k) = []
operands_in (paren m t) = t ∷ []
operands_in (attributed a more t) = operands_in t
operands_in (prefixed k gs t) = child_operands gs ++ t ∷ []
operands_in (infixed x k y) = x ∷ y ∷ []
operands_in (postfixed x k) = x ∷ []
operands_in (tail b k ks) = b ∷ child_operands ks
operands_in (frame k ks) = child_operands ks

-- a node with its operands as a function leaves them
abbrev pub map_children : (Tree → Tree) → Children → Children
map_children f none = none
map_children f (child k e t ks) = child k e (f t) (map_children f ks)

abbrev pub map_operands : (Tree → Tree) → Tree → Tree
map_operands f (leaf k) = leaf k
map_operands f (paren m t) = paren m (f t)
map_operands f (attributed a more t) = attributed a more (map_operands f t)
map_operands f (prefixed k gs t) = prefixed k (map_children f gs) (f t)
map_operands f (infixed x k y) = infixed (f x) k (f y)
map_operands f (postfixed x k) = postfixed (f x) k
map_operands f (tail b k ks) = tail (f b) k (map_children f ks)
map_operands f (frame k ks) = frame k (map_children f ks)

-- ---- all nodes, each before those in it, from left to right

abbrev mutual
  pub nodes_below : Tree → List Tree
  nodes_below (leaf k) = []
  nodes_below (paren m t) = t ∷ nodes_below t
  nodes_below (attributed a more t) = nodes_below t
  nodes_below (prefixed k gs t) = child_nodes gs ++ t ∷ nodes_below t
  nodes_below (infixed x k y) = (x ∷ nodes_below x) ++ y ∷ nodes_below y
  nodes_below (postfixed x k) = x ∷ nodes_below x
  nodes_below (tail b k ks) = (b ∷ nodes_below b) ++ child_nodes ks
  nodes_below (frame k ks) = child_nodes ks

  pub child_nodes : Children → List Tree
  child_nodes none = []
  child_nodes (child k e t ks) = (t ∷ nodes_below t) ++ child_nodes ks

abbrev pub all_nodes : Tree → List Tree
all_nodes t = t ∷ nodes_below t

-- ---- each node as a function leaves it, those in it first

abbrev mutual
  pub rewrite_below : (Tree → Tree) → Tree → Tree
  rewrite_below f (leaf k) = leaf k
  rewrite_below f (paren m t) = paren m (f (rewrite_below f t))
  rewrite_below f (attributed a more t) = attributed a more (rewrite_below f t)
  rewrite_below f (prefixed k gs t) = prefixed k (rewrite_children f gs) (f (rewrite_below f t))
  rewrite_below f (infixed x k y) = infixed (f (rewrite_below f x)) k (f (rewrite_below f y))
  rewrite_below f (postfixed x k) = postfixed (f (rewrite_below f x)) k
  rewrite_below f (tail b k ks) = tail (f (rewrite_below f b)) k (rewrite_children f ks)
  rewrite_below f (frame k ks) = frame k (rewrite_children f ks)

  pub rewrite_children : (Tree → Tree) → Children → Children
  rewrite_children f none = none
  rewrite_children f (child k e t ks) = child k e (f (rewrite_below f t)) (rewrite_children f ks)

abbrev pub rewrite_tree : (Tree → Tree) → Tree → Tree
rewrite_tree f t = f (rewrite_below f t)
