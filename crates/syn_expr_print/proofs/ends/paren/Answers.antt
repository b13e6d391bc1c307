-- What is in the parentheses is printed for itself.
use Rattle.std.proofs.Common.{◌≡◌, [], ◌++◌, false, OnOk, subst, sym, ap, ◌∙◌}
use Rattle.syn_lexer.specs.declared.front.Delimiter.TheVariants as del
use Rattle.syn_lower_spec.specs.Own as own_parts
use Rattle.syn_expr_spec.specs.Next.{enclosed}
use Rattle.syn_expr_print.specs.Printing.{spelled_in}
use Rattle.syn_expr_print.specs.Taken.{Taken}
use Rattle.syn_expr_print.proofs.Borrowing.{on-map}
use Rattle.syn_expr_print.proofs.Borrowed.{paren-text, paren-below}
use Rattle.syn_expr_print.proofs.Spellings.{spelled-bare}
use Rattle.syn_expr_print.proofs.Stacks.{taken-both}
use Rattle.syn_expr_print.proofs.ends.paren.Goals as goal

pub returns-clause-text : goal.returns-clause-text
returns-clause-text g c =
    let t = g.E.HasExprTree.tree c.args.x.now in
    let u = g.E.HasExprTree.tree c.first_operand-operand.result.now in
    let old = c.args.tokens.now in
    let content = c.in_ok-inside.ensures.text
    ∙ ap (λ l. l ++ spelled_in false c.enclosed.result u) c.new-content.ensures
    ∙ ap (λ k. spelled_in false k u) c.enclosed.ensures
    ∙ spelled-bare enclosed u in
    let e = ap (λ l. old ++ own_parts.enclosed del.Parenthesis l []) content
    ∙ ap (λ l. old ++ l) (sym (paren-text c.args.context t u (g.met.E.HasPrint.borrowed c.args.x.now) c.requires.kind c.first_operand-operand.ensures)) in
    subst (λ z. OnOk c.put_paren.result (c.put_paren.new.tokens ≡ z)) e c.put_paren.ensures.ok

pub returns-clause-taken : goal.returns-clause-taken
returns-clause-taken g c =
    let t = g.E.HasExprTree.tree c.args.x.now in
    let u = g.E.HasExprTree.tree c.first_operand-operand.result.now in
    let b = paren-below t u (g.met.E.HasPrint.borrowed c.args.x.now) c.requires.kind c.first_operand-operand.ensures in
    let both = taken-both _ _ _ _ _ c.take_summary.ensures.taken c.in_ok-inside.ensures.taken in
    on-map c.put_paren.result c.put_paren.ensures.ok (λ _. subst (λ l. Taken c.args.summaries.now c.inside.new.summaries l) (sym b) both)
