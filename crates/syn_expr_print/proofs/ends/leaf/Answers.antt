-- What is put is all of the node.
use Rattle.syn_expr_print.proofs.Borrowing.{on-map, leaf-written}
use Rattle.syn_expr_print.proofs.ends.leaf.Goals as goal

pub returns-clause-text : goal.returns-clause-text
returns-clause-text g c =
    on-map c.put_leaf.result c.put_leaf.ensures.ok (λ p. leaf-written _ c.leaf.result c.unwrap.result c.args.context (g.E.HasExprTree.tree c.args.x.now)
    c.args.tokens.now _ (g.met.E.HasPrint.borrowed c.args.x.now) c.leaf.ensures c.unwrap.ensures p)
