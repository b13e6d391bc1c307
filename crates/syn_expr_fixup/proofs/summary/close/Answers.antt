-- The innermost is summarized by the summary of its first operand.
use Rattle.std.proofs.Common.{◌≡◌, ◌∷◌, [], ◌++◌, sym, ap, ◌∙◌, rules}
use Rattle.syn_expr_fixup.specs.Spine.{above}
use Rattle.syn_expr_fixup.proofs.Nodes.{summary_is}
use Rattle.syn_expr_fixup.proofs.Spines.{closing_start, closing_first, closing_up, closing_same, closing_rests}
use Rattle.syn_expr_fixup.proofs.summary.close.Goals as goal

pub loop-x-init : goal.loop-x-init
loop-x-init g c = λ top t l s. closing_start g.E.HasExprTree.tree top t c.args.summaries.now.items c.args.spine.items c.args.summary l s

pub loop-x-preserved : goal.loop-x-preserved
loop-x-preserved g c = λ top t l s.
    let tree = g.E.HasExprTree.tree in
    let x = tree c.in-Some.x.now in
    let now = c.loop-x.summaries.items in
    let all = c.args.summaries.now.items ++ above tree c.args.spine.items in
    let qs = c.pop.new.self.items in
    let e : c.loop-x.spine.items ≡ qs ++ (c.in-Some.x, c.in-Some.second) ∷ [] = search rules in
    let h = c.loop-x.invariant top t l s in
    let f = closing_first tree top all now c.loop-x.spine.items qs (c.in-Some.x, c.in-Some.second) c.loop-x.summary e h in
    let p = c.plain_summary.ensures x (sym c.kind.ensures) f in
    let same = c.in_ok-summary.ensures.same in
    let n = same ∙ summary_is x _ _ c.attributes.ensures p in
    let kept = c.in_ok-summary.ensures.kept ∙ ap (λ m. now ++ m ∷ []) (sym same) in
    closing_up tree top all now _ c.loop-x.spine.items qs (c.in-Some.x, c.in-Some.second) c.loop-x.summary _ e n kept h

pub returns-clause-same : goal.returns-clause-same
returns-clause-same g c = λ top t l s.
    let tree = g.E.HasExprTree.tree in
    let all = c.args.summaries.now.items ++ above tree c.args.spine.items in
    let e : c.loop-x.spine.items ≡ [] = search rules in
    closing_same tree top all c.loop-x.summaries.items c.loop-x.spine.items c.loop-x.summary e (c.loop-x.invariant top t l s)

pub returns-clause-kept : goal.returns-clause-kept
returns-clause-kept g c = λ top t l s.
    let tree = g.E.HasExprTree.tree in
    let all = c.args.summaries.now.items ++ above tree c.args.spine.items in
    let e : c.loop-x.spine.items ≡ [] = search rules in
    closing_rests tree top all c.loop-x.summaries.items c.loop-x.spine.items c.loop-x.summary e (c.loop-x.invariant top t l s)
