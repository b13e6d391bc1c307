use Rattle.syn_expr_spec.specs.Tree as e
use Rattle.syn_expr_spec.specs.Tree.{body_of, leaf}
use Rattle.syn_lower.specs.View.{mapped}
use Rattle.syn_expr_tokens.specs.View.{label_of}
use Rattle.syn_expr_flatten.proofs.Braced.{at_braces, block_braced}
use Rattle.syn_expr_flatten.proofs.Nodes.{leaf_flat}
use Rattle.syn_expr_flatten.proofs.knot.block.Goals as goal

pub returns : goal.returns
returns c = at_braces _ _ _ (λ l. leaf (e.block (mapped label_of c.args.x.now.label) (body_of l c.args.x.now.block.stmts))) _ (block_braced _ _) c.in_ok-put_around.ensures.outer c.in_ok-put_around.ensures.inner (leaf_flat _)
