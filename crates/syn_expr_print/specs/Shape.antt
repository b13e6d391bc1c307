-- A node but for its operands, by its shape.
use Rattle.std.specs.Prelude.{List, Bool, false, true}
use Rattle.syn_expr_spec.specs.declared.kinds.Infix.{Infix}
use Rattle.syn_expr_spec.specs.Tree as e
use Rattle.syn_expr_spec.specs.Tree.{Tree}
use Rattle.syn_expr_ast.specs.Node.{stray_trees}
use Rattle.syn_expr_ast.specs.declared.label.NodeKind.{NodeKind}
use Rattle.syn_expr_ast.specs.declared.label.NodeKind.TheVariants as kind
use Rattle.syn_expr_ast.specs.Label.{is_range_leaf, is_range_prefix}

-- Guards in its patterns, where none may stand, are of its shape.
pub data ShapeTree : Type 0 where
  leaf_shape : e.Leaf → ShapeTree
  paren_shape : ShapeTree
  prefix_shape : e.Prefix → List Tree → ShapeTree
  infix_shape : Infix → ShapeTree
  postfix_shape : e.Postfix → ShapeTree
  tail_shape : e.Trailer → ShapeTree
  frame_shape : e.Frame → List Tree → ShapeTree

abbrev pub shape_at : Tree → ShapeTree
shape_at (e.leaf k) = leaf_shape k
shape_at (e.paren m t) = paren_shape
shape_at (e.attributed a more t) = shape_at t
shape_at (e.prefixed k gs t) = prefix_shape k (stray_trees gs)
shape_at (e.infixed x op y) = infix_shape op
shape_at (e.postfixed x k) = postfix_shape k
shape_at (e.tail b k ks) = tail_shape k
shape_at (e.frame k ks) = frame_shape k (stray_trees ks)

-- ---- which nodes are in parentheses after attributes, by their kinds

-- a range, or what has an operator
abbrev pub is_operation_kind : NodeKind → Bool
is_operation_kind (kind.Leaf q) = is_range_leaf q
is_operation_kind (kind.Prefix q) = is_range_prefix q
is_operation_kind (kind.Infix op) = true
is_operation_kind (kind.Postfix q) = true
is_operation_kind _ = false
