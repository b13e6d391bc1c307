-- The operator and the operand after it; what comes after an operand; what a trailer holds.
use Rattle.std.proofs.Common.{◌≡◌, true, ◌++◌, false, OnOk, subst, sym, ap, ◌∙◌, arith}
use Rattle.syn_expr_spec.specs.Summaries.{children_below}
use Rattle.syn_expr_spec.specs.Tree.{children_size}
use Rattle.syn_expr_ast.specs.Node.{operands_of, operand_children}
use Rattle.syn_expr_ast.proofs.Sizes.{children-smaller, second-smaller}
use Rattle.syn_expr_print.specs.Printing.{EndsWith, children_spelled}
use Rattle.syn_expr_print.specs.Spine.{begins}
use Rattle.syn_expr_print.specs.Taken.{Taken}
use Rattle.syn_expr_print.proofs.Behinds.{below_infix, below_postfix, below_tail, infix_written, none_begins, postfix_written, tail_written}
use Rattle.syn_expr_print.proofs.Borrowing.{on-map}
use Rattle.syn_expr_print.proofs.Stacks.{taken-none}
use Rattle.syn_expr_print.proofs.ends.behind_first.Goals as goal

-- ---- two operands

pub right_of-requires-clause-callable : goal.right_of-requires-clause-callable
right_of-requires-clause-callable g c =
    let s = second-smaller (g.E.HasExprTree.tree c.args.x.now) (g.E.HasExprTree.tree c.second_operand.result.now) c.second_operand.ensures in
    λ out summaries x d l e. c.requires.callable out summaries x d (omega arith) e

pub right_of-requires-clause-stacked : goal.right_of-requires-clause-stacked
right_of-requires-clause-stacked g c =
    let t = g.E.HasExprTree.tree c.args.x.now in
    subst (λ l. EndsWith c.args.summaries.now.left.items l) (below_infix t _ c.in-Infix.op (sym c.in-Infix.ensures) c.second_operand.ensures) c.requires.stacked

pub returns-in_ok-put_operator-in-Infix-clause-text : goal.returns-in_ok-put_operator-in-Infix-clause-text
returns-in_ok-put_operator-in-Infix-clause-text g c =
    let tree = g.E.HasExprTree.tree in
    infix_written c.right_of.result _ c.operator.result c.unwrap.result c.in-Infix.op c.args.context (tree c.args.x.now) (tree c.second_operand.result.now)
    c.args.tokens.now c.put_operator.new.tokens _ (sym c.in-Infix.ensures) c.operator.ensures c.unwrap.ensures c.second_operand.ensures c.in_ok-put_operator-in-Infix.ensures.ok c.right_of.ensures.text

pub returns-in_ok-put_operator-in-Infix-clause-taken : goal.returns-in_ok-put_operator-in-Infix-clause-taken
returns-in_ok-put_operator-in-Infix-clause-taken g c =
    let t = g.E.HasExprTree.tree c.args.x.now in
    subst (λ l. OnOk c.right_of.result (Taken c.args.summaries.now c.right_of.new.summaries l)) (sym (below_infix t _ c.in-Infix.op (sym c.in-Infix.ensures) c.second_operand.ensures)) c.right_of.ensures.taken

-- ---- one

pub returns-in-Postfix-clause-text : goal.returns-in-Postfix-clause-text
returns-in-Postfix-clause-text g c =
    postfix_written c.put_postfix.result _ c.postfix.result c.unwrap-in-Postfix.result c.in-Postfix.field-0 c.args.context (g.E.HasExprTree.tree c.args.x.now)
    c.args.tokens.now _ (sym c.in-Postfix.ensures) c.postfix.ensures c.unwrap-in-Postfix.ensures c.put_postfix.ensures.ok

pub returns-in-Postfix-clause-taken : goal.returns-in-Postfix-clause-taken
returns-in-Postfix-clause-taken g c =
    let t = g.E.HasExprTree.tree c.args.x.now in
    on-map c.put_postfix.result c.put_postfix.ensures.ok (λ _. subst (λ l. Taken c.args.summaries.now c.args.summaries.now l) (sym (below_postfix t c.in-Postfix.field-0 (sym c.in-Postfix.ensures))) (taken-none c.args.summaries.now))

-- ---- a trailer

pub children-requires-clause-callable : goal.children-requires-clause-callable
children-requires-clause-callable g c =
    let s = children-smaller (g.E.HasExprTree.tree c.args.x.now) in
    let v = ap (λ o. children_size (operand_children o)) c.operands-operands.ensures in
    λ out summaries x d l e. c.requires.callable out summaries x d (omega arith) e

pub children-requires-clause-stacked : goal.children-requires-clause-stacked
children-requires-clause-stacked g c =
    let t = g.E.HasExprTree.tree c.args.x.now in
    let b = below_tail t c.in-Tail.field-0 (sym c.in-Tail.ensures) ∙ ap (λ o. children_below (operand_children o)) (sym c.operands-operands.ensures) in
    subst (λ l. EndsWith c.args.summaries.now.left.items l) b c.requires.stacked

pub returns-in_ok-children-in-Tail-clause-text : goal.returns-in_ok-children-in-Tail-clause-text
returns-in_ok-children-in-Tail-clause-text g c =
    let tree = g.E.HasExprTree.tree in
    let held = c.in_ok-children-in-Tail.ensures.text
    ∙ ap (λ l. l ++ children_spelled false (operand_children (operands_of tree g.E.Arm.HasArmView.view c.operands-operands.result))) c.new-held.ensures
    ∙ ap (λ o. children_spelled false (operand_children o)) c.operands-operands.ensures in
    tail_written c.put_trailer.result _ c.trailer.result c.unwrap-in-Tail.result c.in-Tail.field-0 c.args.context (tree c.args.x.now)
    c.args.tokens.now _ _ (sym c.in-Tail.ensures) c.trailer.ensures c.unwrap-in-Tail.ensures held c.put_trailer.ensures.ok

pub returns-in_ok-children-in-Tail-clause-taken : goal.returns-in_ok-children-in-Tail-clause-taken
returns-in_ok-children-in-Tail-clause-taken g c =
    let t = g.E.HasExprTree.tree c.args.x.now in
    let b = ap (λ o. children_below (operand_children o)) c.operands-operands.ensures ∙ sym (below_tail t c.in-Tail.field-0 (sym c.in-Tail.ensures)) in
    on-map c.put_trailer.result c.put_trailer.ensures.ok (λ _. subst (λ l. Taken c.args.summaries.now c.children.new.summaries l) b c.in_ok-children-in-Tail.ensures.taken)

-- ---- others begin with none

pub returns-in_default-clause-text : goal.returns-in_default-clause-text
returns-in_default-clause-text g c =
    let e : true ≡ false = sym c.requires.begins ∙ ap begins (sym c.kind.ensures) ∙ none_begins c.kind.result c.in_default.not-Infix c.in_default.not-Postfix c.in_default.not-Tail in
    absurd cc

pub returns-in_default-clause-taken : goal.returns-in_default-clause-taken
returns-in_default-clause-taken g c =
    let e : true ≡ false = sym c.requires.begins ∙ ap begins (sym c.kind.ensures) ∙ none_begins c.kind.result c.in_default.not-Infix c.in_default.not-Postfix c.in_default.not-Tail in
    absurd cc
