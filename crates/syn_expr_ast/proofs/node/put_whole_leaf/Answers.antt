-- The leaf after its attributes.
use Rattle.syn_expr_ast.specs.Node.{leaf_of}
use Rattle.syn_expr_ast.proofs.Leaves.{leaf-written}
use Rattle.syn_expr_ast.proofs.node.put_whole_leaf.Goals as goal

pub returns-clause-text : goal.returns-clause-text
returns-clause-text c =
    leaf-written _ (leaf_of c.args.leaf) c.put_leaf.result _ _ _ c.requires c.in_ok-put_attributes.ensures.ok c.put_leaf.ensures.ok
