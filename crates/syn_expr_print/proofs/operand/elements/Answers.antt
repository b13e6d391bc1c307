-- The elements with commas, and the last.
use Rattle.std.proofs.Common.{◌≡◌, ◌++◌, OnOk, subst, sym, ap, ◌∙◌, arith}
use Rattle.syn_lower_leaves.specs.Printed.{comma, pairs_printed}
use Rattle.syn_expr_spec.specs.Next.{enclosed}
use Rattle.syn_expr_spec.specs.Summaries.{stack}
use Rattle.syn_expr_spec.specs.Tree.{size}
use Rattle.syn_expr_ast.specs.View.{boxed}
use Rattle.syn_expr_ast.proofs.Owns.{then}
use Rattle.syn_expr_fixup.specs.Below.{backwards, option_below, total}
use Rattle.syn_expr_print.specs.Placed.{last_spelled}
use Rattle.syn_expr_ast.specs.Printed.{whole}
use Rattle.syn_expr_print.specs.Printing.{EndsWith}
use Rattle.syn_expr_print.proofs.Pairs.{elements-text, elements-below, elements-size}
use Rattle.syn_expr_print.proofs.Stacks.{ends_back, taken-left, taken-on}
use Rattle.syn_expr_print.proofs.operand.elements.Goals as goal

pub pairs-requires-clause-callable : goal.pairs-requires-clause-callable
pairs-requires-clause-callable g c =
    let s = elements-size g.E.HasExprTree.tree c.args.elements.now in
    let v = ap (total (λ q. size (g.E.HasExprTree.tree q.0))) c.deref.ensures.value in
    λ out summaries x d l e. c.requires.callable out summaries x d (omega arith) e

pub last_element-requires-clause-callable : goal.last_element-requires-clause-callable
last_element-requires-clause-callable g c =
    let s = elements-size g.E.HasExprTree.tree c.args.elements.now in
    λ out summaries x d l e. c.requires.callable out summaries x d (omega arith) e

pub pairs-requires-clause-stacked : goal.pairs-requires-clause-stacked
pairs-requires-clause-stacked g c =
    let tree = g.E.HasExprTree.tree in
    let last = option_below (boxed tree c.args.elements.now.last) in
    let b = elements-below tree c.args.elements.now ∙ ap (λ l. last ++ backwards (λ q. stack (tree q.0)) l) (sym c.deref.ensures.value) in
    ends_back _ last _ (subst (λ l. EndsWith c.args.summaries.now.left.items l) b c.requires.stacked)

pub last_element-requires-clause-stacked : goal.last_element-requires-clause-stacked
last_element-requires-clause-stacked g c =
    let tree = g.E.HasExprTree.tree in
    let last = option_below (boxed tree c.args.elements.now.last) in
    let b = elements-below tree c.args.elements.now ∙ ap (λ l. last ++ backwards (λ q. stack (tree q.0)) l) (sym c.deref.ensures.value) in
    taken-left _ _ _ last (subst (λ l. EndsWith c.args.summaries.now.left.items l) b c.requires.stacked) c.in_ok-pairs.ensures.taken

pub returns-clause-text : goal.returns-clause-text
returns-clause-text g c =
    let tree = g.E.HasExprTree.tree in
    let old = c.args.tokens.now in
    let last = last_spelled (boxed tree c.args.elements.now.last) c.args.needs_comma in
    let e = then old _ last c.in_ok-pairs.ensures.text
    ∙ ap (λ l. old ++ (pairs_printed (λ x. whole enclosed (tree x)) comma l ++ last)) c.deref.ensures.value
    ∙ ap (λ l. old ++ l) (sym (elements-text tree c.args.elements.now c.args.needs_comma)) in
    subst (λ z. OnOk c.last_element.result (c.last_element.new.tokens ≡ z)) e c.last_element.ensures.text

pub returns-clause-taken : goal.returns-clause-taken
returns-clause-taken g c =
    let tree = g.E.HasExprTree.tree in
    let last = option_below (boxed tree c.args.elements.now.last) in
    let b = elements-below tree c.args.elements.now ∙ ap (λ l. last ++ backwards (λ q. stack (tree q.0)) l) (sym c.deref.ensures.value) in
    taken-on c.last_element.result _ _ _ _ last _ b c.in_ok-pairs.ensures.taken c.last_element.ensures.taken
