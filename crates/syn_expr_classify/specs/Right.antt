-- What is last in a node: an operand, or whether braces are.
use Rattle.std.specs.Prelude.{◌≡◌, Bool, true, false, ℕ, ◌<◌}
use Rattle.syn_expr_spec.specs.Query.{return_brace, tree_brace}
use Rattle.syn_expr_spec.specs.Tree as e
use Rattle.syn_expr_spec.specs.Tree.{Tree, Frame}
use Rattle.syn_expr_ast.specs.Node.{operands_at, last_of}
use Rattle.syn_expr_classify.specs.Node.{asked}
use Rattle.syn_expr_classify.specs.declared.classify.Right.{Right}
use Rattle.syn_expr_classify.specs.declared.classify.Right.TheVariants as right
use Rattle.syn_lower_spec.specs.Tree.{TypeTree}
use Rattle.syn_lower.specs.Ends.{depth}
use Rattle.syn_lower.specs.View.{type_of}
use Rattle.syn_expr_classify.specs.declared.classify.End.{End}
use Rattle.syn_expr_classify.specs.declared.classify.End.TheVariants as end

abbrev pub frame_right : Frame → Right
frame_right e.array = right.Known false
frame_right e.tuple = right.Known false
frame_right e.repeat = right.Known false
frame_right e.group_expr = right.Known false
frame_right (e.closure_block h) = right.Operand (return_brace h.output)
frame_right _ = right.Known true

-- this is what a node answers after braces, or after none
abbrev pub NodeTells : Right → Bool → Tree → Type 0
NodeTells (right.Known b) before t = b ≡ tree_brace before t
NodeTells (right.Operand b) before t = asked (tree_brace b) (last_of (operands_at t)) ≡ tree_brace before t

-- ---- what is at the right end of a type

-- this is what the query f answers of what has so many types at its end: the answer, or a type that has the same
abbrev pub Tells : (TypeTree → Bool) → End → Bool → ℕ → Type 0
Tells f (end.Known b) o n = b ≡ o
Tells f (end.Inside x) o n = (f (type_of x.now) ≡ o) × (depth (type_of x.now) < n)
