-- What an arm of a `match` holds beside its pattern.
use Rattle.std.specs.Prelude.{List, [], ◌∷◌, Option, Some, None, ◌≡◌, ℕ, ◌+◌, if◌then◌else◌, ◌++◌}
use Rattle.syn_lower_spec.specs.Pat.{PatTree, guarded}
use Rattle.syn_expr_spec.specs.Tree.{Tree, size}
use Rattle.syn_expr_ast.specs.Pats.{ArmView}
use Rattle.syn_lower_spec.specs.Tree.{AttributeTree}
use Rattle.syn_expr_spec.specs.declared.summary.Summary.{Summary}
use Rattle.syn_expr_spec.specs.Tree as e
use Rattle.syn_expr_spec.specs.Summaries.{summary_of, stack, children_below, attributed_summary}
use Rattle.syn_lower_spec.specs.Form.{is_nil}
use Rattle.syn_expr_ast.specs.Node.{OperandTrees, no_trees, one_tree, two_trees, based, framed}
use Rattle.syn_expr_ast.specs.View.{FieldView}
use Rattle.syn_expr_fixup.specs.Strays.{children_left}

-- the last of the guards g and gs
abbrev pub last_guard : Tree → List Tree → Tree
last_guard g [] = g
last_guard g (h ∷ gs) = last_guard h gs

abbrev pub guard_by : PatTree → List Tree → Option Tree
guard_by (guarded p) (g ∷ gs) = Some (last_guard g gs)
guard_by p gs = None

-- The guard of the arm itself; others are where none may.
abbrev pub guard_at : ArmView → Option Tree
guard_at x = guard_by x.pat.tree x.pat.guards

-- ---- what is known of a node and of its operands, by their parts

-- ---- a node

-- its summary, but for the attributes before it
abbrev pub plain_summary : Tree → Summary
plain_summary (e.attributed a more t) = plain_summary t
plain_summary t = summary_of t

abbrev pub summarized_behind : List AttributeTree → Summary → Summary
summarized_behind ats n = if is_nil ats then n else attributed_summary n

-- ---- its operands together

-- these are the summaries of the first and the second operand, as far as there are any and the node's own summary asks for them
abbrev pub AreFirst : OperandTrees → Summary → Summary → Type 0
AreFirst no_trees m n = m ≡ m
AreFirst (one_tree t) m n = m ≡ summary_of t
AreFirst (two_trees x y) m n = (m ≡ summary_of x) × (n ≡ summary_of y)
AreFirst (based b ks) m n = m ≡ summary_of b
AreFirst (framed ks) m n = m ≡ m

abbrev pub operands_below : OperandTrees → List Summary
operands_below no_trees = []
operands_below (one_tree t) = stack t
operands_below (two_trees x y) = stack y ++ stack x
operands_below (based b ks) = children_below ks ++ stack b
operands_below (framed ks) = children_below ks

abbrev pub operands_size : OperandTrees → ℕ
operands_size no_trees = 0
operands_size (one_tree t) = size t
operands_size (two_trees x y) = size x + size y
operands_size (based b ks) = size b + children_left ks
operands_size (framed ks) = children_left ks

-- ---- lists of operands: the last is summarized first

abbrev pub backwards : {A : Type 0} → (A → List Summary) → List A → List Summary
backwards f [] = []
backwards f (x ∷ xs) = backwards f xs ++ f x

abbrev pub total : {A : Type 0} → (A → ℕ) → List A → ℕ
total f [] = 0
total f (x ∷ xs) = f x + total f xs

-- A value without a colon before it isn't spelled, and has no summary.
abbrev pub field_below : FieldView → List Summary
field_below x = if x.colon then stack x.value else []

abbrev pub field_size : FieldView → ℕ
field_size x = size x.value

abbrev pub option_below : Option Tree → List Summary
option_below None = []
option_below (Some t) = stack t

abbrev pub option_size : Option Tree → ℕ
option_size None = 0
option_size (Some t) = size t

abbrev pub arm_below : ArmView → List Summary
arm_below x = stack x.body ++ option_below (guard_at x)

abbrev pub arm_size : ArmView → ℕ
arm_size x = size x.body + option_size (guard_at x)
