-- What comes after `else`, and a frame with its operands.
use Rattle.std.proofs.Common.{◌≡◌, ◌+◌, ◌++◌, OnOk, map, subst, sym, ap, ◌∙◌, arith, rules}
use Rattle.syn_expr_spec.specs.Next.{enclosed}
use Rattle.syn_expr_spec.specs.Summaries.{stack, children_below}
use Rattle.syn_expr_spec.specs.Tree.{size, children_size}
use Rattle.syn_lower_leaves.specs.View.{mapped}
use Rattle.syn_expr_ast.specs.Node.{frame_seen, operands_at, operands_of, operand_children}
use Rattle.syn_expr_ast.specs.Pats.{arms}
use Rattle.syn_expr_fixup.specs.Below.{arm_below, backwards}
use Rattle.syn_expr_fixup.proofs.Lists.{arms_below}
use Rattle.syn_expr_print.specs.Printing.{EndsWith, children_spelled, spelled}
use Rattle.syn_expr_print.specs.Taken.{Taken}
use Rattle.syn_expr_print.proofs.Chains.{if_expr-chained, block-chained, other-chained}
use Rattle.syn_expr_print.proofs.Matches.{arms-size}
use Rattle.syn_expr_print.proofs.Rounds.{framed-below, framed-text, open-frame-text}
use Rattle.syn_expr_ast.proofs.Sizes.{children-smaller}
use Rattle.syn_expr_print.proofs.Spellings.{spelled-bare}
use Rattle.syn_expr_ast.proofs.Owns.{then}
use Rattle.syn_expr_print.proofs.frames.+frame.Goals as goal

-- ---- after `else`

pub chained-returns-then-is_if_expr-clause-text : goal.chained-returns-then-is_if_expr-clause-text
chained-returns-then-is_if_expr-clause-text g t c =
    let x = g.E.HasExprTree.tree c.args.x.now in
    let e = if_expr-chained x (g.met.E.HasPrint.borrowed c.args.x.now) (sym c.is_if_expr.ensures ∙ c.if-is_if_expr.true) in
    subst (λ l. OnOk c.frame.result (c.frame.new.tokens ≡ c.args.tokens.now ++ l)) (sym e) (c.frame.ensures.text enclosed)

pub chained-returns-then-is_block-clause-text : goal.chained-returns-then-is_block-clause-text
chained-returns-then-is_block-clause-text g t c =
    let x = g.E.HasExprTree.tree c.args.x.now in
    let e = block-chained x (g.met.E.HasPrint.borrowed c.args.x.now) (sym c.is_block.ensures ∙ c.if-is_block.true) in
    let s = spelled-bare c.enclosed.result x ∙ ap (λ k. spelled k x) c.enclosed.ensures ∙ sym e in
    subst (λ l. OnOk c.inside.result (c.inside.new.tokens ≡ c.args.tokens.now ++ l)) s c.inside.ensures.text

pub chained-returns-else-is_block-clause-text : goal.chained-returns-else-is_block-clause-text
chained-returns-else-is_block-clause-text g t c =
    let x = g.E.HasExprTree.tree c.args.x.now in
    let e = other-chained x (sym c.is_if_expr.ensures ∙ c.if-is_if_expr.false) (sym c.is_block.ensures ∙ c.if-is_block.false) in
    subst (λ l. OnOk c.braced.result (c.braced.new.tokens ≡ c.args.tokens.now ++ l)) (sym e) c.braced.ensures.text

-- ---- the operands of a frame

pub content-children-requires : goal.content-children-requires
content-children-requires g t c κs within =
    let x = g.E.HasExprTree.tree c.args.x.now in
    let s = children-smaller x in
    let o = ap (λ z. children_size (operand_children z)) c.operands.ensures in
    let b = framed-below x (g.met.E.HasPrint.borrowed c.args.x.now) c.requires.framed ∙ ap (λ z. children_below (operand_children z)) (sym c.operands.ensures) in
    let ends = subst (λ l. EndsWith c.args.summaries.now.left.items l) b c.requires.stacked in
    search rules

pub content-returns-clause-text : goal.content-returns-clause-text
content-returns-clause-text g t c =
    let o = ap (λ z. children_spelled c.args.asked.needs_comma (operand_children z)) c.operands.ensures in
    subst (λ l. OnOk c.children.result (c.children.new.tokens ≡ c.args.tokens.now ++ l)) o c.children.ensures.text

pub content-returns-clause-taken : goal.content-returns-clause-taken
content-returns-clause-taken g t c =
    let x = g.E.HasExprTree.tree c.args.x.now in
    let b = framed-below x (g.met.E.HasPrint.borrowed c.args.x.now) c.requires.framed ∙ ap (λ z. children_below (operand_children z)) (sym c.operands.ensures) in
    subst (λ l. OnOk c.children.result (Taken c.args.summaries.now c.children.new.summaries l)) (sym b) c.children.ensures.taken

pub frame-returns-in_ok-content-clause-text : goal.frame-returns-in_ok-content-clause-text
frame-returns-in_ok-content-clause-text g t c k =
    let x = g.E.HasExprTree.tree c.args.x.now in
    let view = g.E.Pat.HasPatTree.view in
    let a = sym c.frame.ensures ∙ ap (λ o. mapped (frame_seen view) o) c.unwrap.ensures in
    let i = c.in_ok-content.ensures.text ∙ ap (λ l. l ++ children_spelled c.around-asked.result.needs_comma (operand_children (operands_at x))) c.new-inside.ensures in
    let e = framed-text view k x c.unwrap.result (g.met.E.HasPrint.borrowed c.args.x.now) a _ _ _ c.around-asked.ensures.enclosed c.if-is_enclosed.true c.around-asked.ensures.comma i in
    subst (λ z. OnOk c.put_framed.result (c.put_framed.new.tokens ≡ c.args.tokens.now ++ z)) e c.put_framed.ensures.ok

pub frame-returns-in_ok-put_frame_head-clause-text : goal.frame-returns-in_ok-put_frame_head-clause-text
frame-returns-in_ok-put_frame_head-clause-text g t c k =
    let x = g.E.HasExprTree.tree c.args.x.now in
    let view = g.E.Pat.HasPatTree.view in
    let old = c.args.tokens.now in
    let a = sym c.frame-else-is_enclosed.ensures ∙ ap (λ o. mapped (frame_seen view) o) c.unwrap-else-is_enclosed.ensures in
    let e = then old _ (children_spelled c.around-asked.result.needs_comma (operand_children (operands_at x))) c.in_ok-put_frame_head.ensures.ok
    ∙ ap (λ l. old ++ l) (open-frame-text view k x c.unwrap-else-is_enclosed.result (g.met.E.HasPrint.borrowed c.args.x.now) a _ _ c.around-asked.ensures.enclosed c.if-is_enclosed.false c.around-asked.ensures.comma) in
    subst (λ z. OnOk c.content-else-is_enclosed.result (c.content-else-is_enclosed.new.tokens ≡ z)) e c.content-else-is_enclosed.ensures.text

-- ---- the arms of a `match`

pub children-chosen-requires-clause-callable : goal.children-chosen-requires-clause-callable
children-chosen-requires-clause-callable g t c =
    let tree = g.E.HasExprTree.tree in
    let view = g.E.Arm.HasArmView.view in
    let s = arms-size view c.in-Arms.arms.now.items in
    let v = ap (λ y. size (tree y)) c.deref-in-Arms.ensures in
    let o : children_size (operand_children (operands_of tree view c.args.operands)) ≡ size (tree c.in-Arms.scrutinee.now.value) + children_size (arms (map view c.in-Arms.arms.now.items)) =
    ap (λ z. children_size (operand_children (operands_of tree view z))) c.in-Arms.is in
    λ out summaries x d l e. c.requires.callable out summaries x d (omega arith) e

pub children-returns-in-Arms-clause-taken : goal.children-returns-in-Arms-clause-taken
children-returns-in-Arms-clause-taken g t c =
    let tree = g.E.HasExprTree.tree in
    let view = g.E.Arm.HasArmView.view in
    let items = c.in-Arms.arms.now.items in
    let e = ap (λ y. backwards (λ x. arm_below (view x)) items ++ stack (tree y)) c.deref-in-Arms.ensures
    ∙ ap (λ l. l ++ stack (tree c.in-Arms.scrutinee.now.value)) (sym (arms_below view items))
    ∙ ap (λ z. children_below (operand_children (operands_of tree view z))) (sym c.in-Arms.is) in
    subst (λ l. OnOk c.chosen.result (Taken c.args.summaries.now c.chosen.new.summaries l)) e c.chosen.ensures.taken
