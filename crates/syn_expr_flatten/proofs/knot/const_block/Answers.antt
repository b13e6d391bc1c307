use Rattle.syn_expr_spec.specs.Tree as e
use Rattle.syn_expr_spec.specs.Tree.{body_of, leaf}
use Rattle.syn_expr_flatten.proofs.Braced.{at_braces, const_braced}
use Rattle.syn_expr_flatten.proofs.Nodes.{leaf_flat}
use Rattle.syn_expr_flatten.proofs.knot.const_block.Goals as goal

pub returns : goal.returns
returns c = at_braces _ _ _ (λ l. leaf (e.const_block (body_of l c.args.x.now.block.stmts))) _ (const_braced _) c.in_ok-put_around.ensures.outer c.in_ok-put_around.ensures.inner (leaf_flat _)
