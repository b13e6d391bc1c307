-- Of no node more is told than is lent of it.
use Rattle.std.proofs.Common.{◌≡◌, true, List, [], ◌∷◌, refl, ap, ◌∙◌}
use Rattle.syn_expr_spec.specs.Tree.{Tree, Prefix, leaf, paren, attributed, prefixed, infixed, postfixed, tail, frame, none, is_none}
use Rattle.syn_expr_ast.specs.Node.{OperandTrees, no_trees, one_tree, two_trees, based, framed, without_strays, operands_at}
use Rattle.syn_expr_ast.specs.Pats.{strays}
use Rattle.syn_expr_print.specs.Shape.{ShapeTree, leaf_shape, paren_shape, prefix_shape, infix_shape, postfix_shape, tail_shape, frame_shape, shape_at}
use Rattle.syn_expr_print.specs.Printing.{core, node_of}
use Rattle.syn_expr_core.specs.declared.expr.Expr.{Expr}
use Rattle.syn_expr_core.specs.View.{tree_of, tree_borrowed}
use Rattle.syn_expr_wellformed.specs.Walk.{is_plain, is_whole}

none_left : (gs : List Tree) → is_none (without_strays (strays gs none)) ≡ true
none_left [] = refl
none_left (g ∷ gs) = none_left gs

prefix_plain : (k : Prefix) (gs : List Tree) (o : OperandTrees) → is_plain (node_of (prefix_shape k gs) o) ≡ true
prefix_plain k gs no_trees = refl
prefix_plain k gs (one_tree t) = none_left gs
prefix_plain k gs (two_trees x y) = refl
prefix_plain k gs (based b ks) = refl
prefix_plain k gs (framed ks) = refl

node_plain : (s : ShapeTree) (o : OperandTrees) → is_plain (node_of s o) ≡ true
node_plain (leaf_shape k) no_trees = refl
node_plain (leaf_shape k) (one_tree t) = refl
node_plain (leaf_shape k) (two_trees x y) = refl
node_plain (leaf_shape k) (based b ks) = refl
node_plain (leaf_shape k) (framed ks) = refl
node_plain paren_shape no_trees = refl
node_plain paren_shape (one_tree t) = refl
node_plain paren_shape (two_trees x y) = refl
node_plain paren_shape (based b ks) = refl
node_plain paren_shape (framed ks) = refl
node_plain (infix_shape k) no_trees = refl
node_plain (infix_shape k) (one_tree t) = refl
node_plain (infix_shape k) (two_trees x y) = refl
node_plain (infix_shape k) (based b ks) = refl
node_plain (infix_shape k) (framed ks) = refl
node_plain (postfix_shape k) no_trees = refl
node_plain (postfix_shape k) (one_tree t) = refl
node_plain (postfix_shape k) (two_trees x y) = refl
node_plain (postfix_shape k) (based b ks) = refl
node_plain (postfix_shape k) (framed ks) = refl
node_plain (tail_shape k) no_trees = refl
node_plain (tail_shape k) (one_tree t) = refl
node_plain (tail_shape k) (two_trees x y) = refl
node_plain (tail_shape k) (based b ks) = refl
node_plain (tail_shape k) (framed ks) = refl
node_plain (frame_shape k gs) no_trees = refl
node_plain (frame_shape k gs) (one_tree t) = refl
node_plain (frame_shape k gs) (two_trees x y) = refl
node_plain (frame_shape k gs) (based b ks) = refl
node_plain (frame_shape k gs) (framed ks) = refl
node_plain (prefix_shape k gs) o = prefix_plain k gs o

core_whole : (t : Tree) → is_plain (core t) ≡ true → is_whole t ≡ true
core_whole (attributed a more t) h = h
core_whole (leaf k) h = h
core_whole (paren m t) h = h
core_whole (prefixed k gs t) h = h
core_whole (infixed x k y) h = h
core_whole (postfixed x k) h = h
core_whole (tail b k ks) h = h
core_whole (frame k ks) h = h

pub tree_whole : (x : Expr) → is_whole (tree_of x) ≡ true
tree_whole x = core_whole (tree_of x) (ap is_plain (tree_borrowed x) ∙ node_plain (shape_at (tree_of x)) (operands_at (tree_of x)))
