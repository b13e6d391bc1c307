-- Nodes each of which is the first operand of the one before it: what is known of them, once that of the innermost is.
use Rattle.std.specs.Prelude.{◌≡◌, ℕ, List, [], ◌∷◌, ◌++◌, Some}
use denote.Ref.{Bor}
use Rattle.syn_expr_spec.specs.declared.summary.Summary.{Summary}
use Rattle.syn_expr_spec.specs.Tree.{Tree, size}
use Rattle.syn_expr_spec.specs.Summaries.{summary_of, stack, children_below}
use Rattle.syn_expr_ast.specs.Node.{OperandTrees, two_trees, based, first_of, operands_at}
use Rattle.syn_expr_fixup.specs.Strays.{children_left}

-- ---- the operands of a node but its first one

abbrev pub behind_below : OperandTrees → List Summary
behind_below (two_trees x y) = stack y
behind_below (based b ks) = children_below ks
behind_below _ = []

abbrev pub behind_size : OperandTrees → ℕ
behind_size (two_trees x y) = size y
behind_size (based b ks) = children_left ks
behind_size _ = 0

-- it is the summary of the second operand, where there is one
abbrev pub IsSecond : OperandTrees → Summary → Type 0
IsSecond (two_trees x y) n = n ≡ summary_of y
IsSecond _ n = n ≡ n

-- ---- the nodes, the outermost first, each with the summary of its second operand

module _ {E : Type 0} (see : E → Tree) where
  -- they lead from one node to the first operand of the innermost
  abbrev pub Prefixes : Tree → List (Bor E × Summary) → Tree → Type 0
  Prefixes top [] t = top ≡ t
  Prefixes top (q ∷ qs) t = (see q.0.now ≡ top) × IsSecond (operands_at top) q.1 × (f : Tree) × (first_of (operands_at top) ≡ Some f) × Prefixes f qs t

  -- their summaries, the innermost first
  abbrev pub above : List (Bor E × Summary) → List Summary
  above [] = []
  above (q ∷ qs) = above qs ++ summary_of (see q.0.now) ∷ []
