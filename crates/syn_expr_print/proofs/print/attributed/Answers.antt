-- The attributes, and then the node.
use Rattle.std.proofs.Common.{◌≡◌, OnOk, subst, ap, ◌∙◌}
use Rattle.syn_expr_print.specs.Shape.{is_operation_kind}
use Rattle.syn_expr_print.proofs.Attributed.{attributed-joined}
use Rattle.syn_expr_print.proofs.print.attributed.Goals as goal

pub returns-clause-text : goal.returns-clause-text
returns-clause-text g c =
    let t = g.E.HasExprTree.tree c.args.x.now in
    let w = c.is_operation-wrapped.ensures ∙ ap is_operation_kind c.kind.ensures in
    let e = attributed-joined c.args.context _ t _ _ c.args.tokens.now _ (g.met.E.HasPrint.borrowed c.args.x.now) c.requires.attributed c.attributes.ensures
    c.in_ok-put_attributes.ensures.ok c.attributed_context-place.ensures w in
    subst (λ z. OnOk c.behind.result (c.behind.new.tokens ≡ z)) e c.behind.ensures.text
