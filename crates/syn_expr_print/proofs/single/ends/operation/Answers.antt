use Rattle.std.proofs.Common.{sym, ◌∙◌}
use Rattle.syn_expr_print.proofs.Borrowing.{on-map}
use Rattle.syn_expr_print.proofs.Attributing.{wrapped-written}
use Rattle.syn_expr_print.proofs.single.ends.operation.Goals as goal

pub returns-in_ok-put_attributes-clause-text : goal.returns-in_ok-put_attributes-clause-text
returns-in_ok-put_attributes-clause-text c =
    λ t h s. on-map c.put_parens.result c.put_parens.ensures.ok
    (λ g. wrapped-written _ t _ _ _ _ (sym c.has_none_before.ensures ∙ c.if-has_none_before.false) h s c.in_ok-put_attributes.ensures.ok g)
