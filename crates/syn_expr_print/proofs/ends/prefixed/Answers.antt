-- The prefix, and then its operand, or what that begins with.
use Rattle.std.proofs.Common.{◌≡◌, [], false, subst, arith, rules}
use Rattle.syn_tokens.proofs.Fronts.{front_through}
use Rattle.syn_expr_spec.specs.Summaries.{below}
use Rattle.syn_expr_ast.proofs.Sizes.{first-smaller}
use Rattle.syn_expr_print.specs.Printing.{EndsWith, core}
use Rattle.syn_expr_print.proofs.Leading.{prefix_parts, prefix_last, prefix_down, prefix_going}
use Rattle.syn_expr_print.proofs.Borrowing.{prefixed-stack, on-map}
use Rattle.syn_expr_print.proofs.Turns.{going-end, going-left, going-on}
use Rattle.syn_expr_print.proofs.ends.prefixed.Goals as goal

pub take_summary-summary-requires : goal.take_summary-summary-requires
take_summary-summary-requires g c =
    let t = g.E.HasExprTree.tree c.down.x.now in
    let u = g.E.HasExprTree.tree c.first_operand-operand.result.now in
    let b = prefixed-stack t u c.down.kind (g.met.E.HasPrint.borrowed c.down.x.now) c.down.invariant.kind c.first_operand-operand.ensures in
    subst (λ l. EndsWith c.down.summaries.left.items l) b (going-left _ _ _ _ c.requires.stacked c.down.invariant.going)

pub inside-requires-clause-callable : goal.inside-requires-clause-callable
inside-requires-clause-callable g c =
    let s = first-smaller (g.E.HasExprTree.tree c.down.x.now) (g.E.HasExprTree.tree c.first_operand-operand.result.now) c.first_operand-operand.ensures in
    let m = c.down.invariant.smaller in
    λ out summaries x d l e. c.requires.callable out summaries x d (omega arith) e

pub returns-in_default-clause-text : goal.returns-in_default-clause-text
returns-in_default-clause-text g c =
    let tree = g.E.HasExprTree.tree in
    let t = tree c.down.x.now in
    let u = tree c.first_operand-operand.result.now in
    let parts = prefix_parts _ c.prefix.result c.unwrap.result c.down.kind c.down.context c.prefix_context-place.result c.prefix_by-wrapped.result c.take_summary-summary.result t u
    (g.met.E.HasPrint.borrowed c.down.x.now) c.down.invariant.kind c.prefix.ensures c.unwrap.ensures c.first_operand-operand.ensures c.prefix_context-place.ensures c.take_summary-summary.ensures.summary c.prefix_by-wrapped.ensures in
    prefix_last c.inside.result c.down.tokens _ _ c.put_prefix.new.tokens _ _ c.prefix_by-wrapped.result c.prefix_context-place.result u parts c.in_ok-put_prefix.ensures.ok c.down.invariant.text c.inside.ensures.text

pub returns-in_default-clause-taken : goal.returns-in_default-clause-taken
returns-in_default-clause-taken g c =
    let t = g.E.HasExprTree.tree c.down.x.now in
    let u = g.E.HasExprTree.tree c.first_operand-operand.result.now in
    let b = prefixed-stack t u c.down.kind (g.met.E.HasPrint.borrowed c.down.x.now) c.down.invariant.kind c.first_operand-operand.ensures in
    let k = prefix_going _ _ c.take_summary-summary.new.summaries _ t u b c.down.invariant.going c.take_summary-summary.ensures.taken in
    on-map c.inside.result c.inside.ensures.taken (λ j. going-end _ _ _ (going-on _ _ _ _ [] (below u) k j))

pub down-preserved : goal.down-preserved
down-preserved g c =
    let tree = g.E.HasExprTree.tree in
    let t = tree c.down.x.now in
    let u = tree c.first_operand-operand.result.now in
    let borrowed = g.met.E.HasPrint.borrowed c.down.x.now in
    let parts = prefix_parts _ c.prefix.result c.unwrap.result c.down.kind c.down.context c.prefix_context-place.result c.prefix_by-wrapped.result c.take_summary-summary.result t u
    borrowed c.down.invariant.kind c.prefix.ensures c.unwrap.ensures c.first_operand-operand.ensures c.prefix_context-place.ensures c.take_summary-summary.ensures.summary c.prefix_by-wrapped.ensures in
    let b = prefixed-stack t u c.down.kind borrowed c.down.invariant.kind c.first_operand-operand.ensures in
    let s = first-smaller t u c.first_operand-operand.ensures in
    let m = c.down.invariant.smaller in
    let flat : c.prefix_by-wrapped.result ≡ false = search rules in
    let plain : core u ≡ u = search rules in
    record {
      kind = search rules;
      text = prefix_down c.down.tokens _ _ c.put_prefix.new.tokens _ c.prefix_by-wrapped.result c.prefix_context-place.result u parts c.in_ok-put_prefix.ensures.ok flat plain c.down.invariant.text;
      front = front_through _ _ _ c.down.invariant.front c.in_ok-put_prefix.ensures.front;
      going = prefix_going _ _ _ _ t u b c.down.invariant.going c.take_summary-summary.ensures.taken;
      smaller = omega arith;
    }
