-- What a printer writes of a node and of its operands, and the summaries that it takes.
use Rattle.std.specs.Prelude.{◌≡◌, Bool, false, List, [], ◌++◌}
use Rattle.syn_tokens.specs.Tok.{Tok}
use Rattle.syn_expr_spec.specs.declared.next.Context.{Context}
use Rattle.syn_expr_spec.specs.declared.summary.Summary.{Summary}
use Rattle.syn_expr_spec.specs.declared.kinds.Precedence.TheVariants as lev
use Rattle.syn_expr_spec.specs.Next.{enclosed, in_statement, piece_context}
use Rattle.syn_expr_spec.specs.Rule.{put, piece_put, place_asks, bare, bare_children}
use Rattle.syn_expr_spec.specs.Tree as e
use Rattle.syn_expr_spec.specs.Tree.{Tree, Children, Piece, leaf, paren, attributed, prefixed, infixed, postfixed, tail, frame, none, own_tokens, children_own, fill, fill_children}
use Rattle.syn_expr_ast.specs.Node.{OperandTrees, no_trees, one_tree, two_trees, based, framed, operands_at}
use Rattle.syn_expr_print.specs.Shape.{ShapeTree, leaf_shape, paren_shape, prefix_shape, infix_shape, postfix_shape, tail_shape, frame_shape, shape_at}
use Rattle.syn_expr_ast.specs.Pats.{strays}

-- ---- summaries

-- the list xs ends with ys
pub record EndsWith (xs ys : List Summary) : Type 0 where
  pub rest : List Summary
  pub is : xs ≡ rest ++ ys

-- ---- tokens

-- of a tree that is left bare
unfoldable pub spelled : Context → Tree → List Tok
spelled c t = own_tokens (bare c (fill t))

-- of a tree in parentheses, where it is `wrapped`, or left bare
unfoldable pub spelled_in : Bool → Context → Tree → List Tok
spelled_in wrapped c t = own_tokens (put wrapped (bare enclosed (fill t)) (bare c (fill t)))

-- of operands in places of their own; `last`: after the last one a comma is needed
unfoldable pub children_spelled : Bool → Children → List Tok
children_spelled last ks = children_own (bare_children (fill_children last ks)) []

-- of an operand in a place of its own, as the piece puts it
unfoldable pub piece_spelled : Piece → Tree → List Tok
piece_spelled k t =
    own_tokens (piece_put k (fill t) (bare enclosed (fill t)) (bare (piece_context k) (fill t))
    (put (place_asks lev.Jump in_statement (fill t)) (bare enclosed (fill t)) (bare in_statement (fill t)))
    (place_asks lev.Jump (piece_context k) (fill t)))

-- ---- nodes by their parts

-- a node without the attributes before it
abbrev pub core : Tree → Tree
core (attributed a more t) = t
core t = t

-- the node of which these are lent; of no node other ones are
abbrev pub node_of : ShapeTree → OperandTrees → Tree
node_of (leaf_shape k) no_trees = leaf k
node_of paren_shape (one_tree t) = paren false t
node_of (prefix_shape k gs) (one_tree t) = prefixed k (strays gs none) t
node_of (infix_shape k) (two_trees x y) = infixed x k y
node_of (postfix_shape k) (one_tree x) = postfixed x k
node_of (tail_shape k) (one_tree b) = tail b k none
node_of (tail_shape k) (based b ks) = tail b k ks
node_of (frame_shape k gs) (framed ks) = frame k (strays gs ks)
node_of _ _ = leaf e.infer

-- all of the node is lent
abbrev pub IsBorrowed : Tree → Type 0
IsBorrowed t = core t ≡ node_of (shape_at t) (operands_at t)
