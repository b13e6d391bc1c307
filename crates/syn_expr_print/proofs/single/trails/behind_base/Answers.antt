use Rattle.std.proofs.Common.{◌≡◌, ◌++◌, [], OnOk, subst, sym, ap, ◌∙◌}
use Rattle.syn_expr_spec.specs.Tree.{trailer_own}
use Rattle.syn_expr_ast.specs.Node.{trailer_of}
use Rattle.syn_expr_print.proofs.Shapes.{held-at, nothing-held}
use Rattle.syn_expr_print.proofs.single.trails.behind_base.Goals as goal

pub returns-clause-text : goal.returns-clause-text
returns-clause-text g c =
    held-at c.enclosed.result _ _ _ _ _ _ _ _ _ c.enclosed.ensures (sym c.trailer_kind-kind.ensures) c.in_ok-base_of.ensures.text (nothing-held _ c.new-held.ensures)
    (c.in_ok-put_trailer.ensures.ok ∙ ap (λ l. l ++ trailer_own (trailer_of c.args.trailer) c.new-held.result []) c.new-end.ensures)
    (subst (λ r. OnOk r (c.append.new.self ≡ c.base_of.new.tokens ++ c.put_trailer.new.tokens)) c.in_ok-put_result.ensures c.append.ensures.ok)
