-- Operands that aren't spelled, since they are guards in patterns where none may stand; and the sizes of the others.
use Rattle.std.specs.Prelude.{ℕ, ◌+◌, List, [], ◌∷◌}
use Rattle.syn_expr_spec.specs.Tree as e
use Rattle.syn_expr_spec.specs.Tree.{Tree, Children, none, child, size}

abbrev pub trees_in : Children → List Tree
trees_in none = []
trees_in (child k c t ks) = t ∷ trees_in ks

abbrev pub strays_in : Children → List Tree
strays_in none = []
strays_in (child e.stray c t ks) = t ∷ strays_in ks
strays_in (child k c t ks) = strays_in ks

-- those of a node
abbrev pub strays_at : Tree → List Tree
strays_at (e.attributed a more t) = strays_at t
strays_at (e.prefixed k gs t) = trees_in gs
strays_at (e.tail b k ks) = strays_in ks
strays_at (e.frame k ks) = strays_in ks
strays_at _ = []

-- how many nodes are in the operands but for these
abbrev pub children_left : Children → ℕ
children_left none = 0
children_left (child e.stray c t ks) = children_left ks
children_left (child k c t ks) = size t + children_left ks
