-- The braces after the label.
use Rattle.std.proofs.Common.{◌≡◌, ◌++◌, OnOk, subst, sym, ap, ◌∙◌}
use Rattle.syn_expr_ast.proofs.Owns.{label_first, then}
use Rattle.syn_expr_ast.proofs.node.put_labeled.Goals as goal

pub returns-clause-ok : goal.returns-clause-ok
returns-clause-ok c =
    let old = c.args.tokens.now in
    let e = then old _ _ c.in_ok-put_some.ensures.ok ∙ ap (λ l. old ++ l) (sym (label_first c.args.label.now _)) in
    subst (λ z. OnOk c.put_block.result (c.put_block.new.tokens ≡ z)) e c.put_block.ensures.ok
