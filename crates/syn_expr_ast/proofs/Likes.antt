-- An expression is like a block by its kind.
use Rattle.std.proofs.Common.{◌≡◌, Bool, true, false, refl}
use Rattle.syn_expr_spec.specs.Tree as e
use Rattle.syn_expr_spec.specs.Tree.{Tree, is_block_like}
use Rattle.syn_expr_ast.specs.Label.{kind_at}
use Rattle.syn_expr_ast.specs.declared.label.NodeKind.{NodeKind}
use Rattle.syn_expr_ast.specs.declared.label.NodeKind.TheVariants as node
use Rattle.syn_expr_ast.specs.declared.label.LeafKind.TheVariants as leafs
use Rattle.syn_expr_ast.specs.declared.label.FrameKind.TheVariants as frames

abbrev pub is_like_block : NodeKind → Bool
is_like_block (node.Leaf (leafs.Block labelled)) = true
is_like_block (node.Leaf (leafs.BlockLike labelled)) = true
is_like_block (node.Frame (frames.BlockLike labelled)) = true
is_like_block _ = false

pub like-kind : (t : Tree) → is_block_like t ≡ is_like_block (kind_at t)
like-kind (e.leaf (e.lit x)) = refl
like-kind (e.leaf (e.bare_jump e.returning)) = refl
like-kind (e.attributed a more t) = like-kind t
like-kind (e.frame e.array ks) = refl
like-kind t = refl

pub ruleset likes = (like-kind)
