-- The node, and then those over it.
use Rattle.std.proofs.Common.{◌≡◌, ◌∷◌, [], ◌++◌, OnOk, subst, sym, ap, ◌∙◌, append_assoc}
use Rattle.syn_expr_spec.specs.Summaries.{summary_of}
use Rattle.syn_expr_fixup.specs.Spine.{above}
use Rattle.syn_expr_fixup.proofs.Nodes.{summary_is}
use Rattle.syn_expr_fixup.proofs.summary.finish.Goals as goal

pub returns-clause-same : goal.returns-clause-same
returns-clause-same g c = λ top l a.
    let x = g.E.HasExprTree.tree c.args.x.now in
    let n = c.in_ok-summary.ensures.same ∙ summary_is x _ _ c.attributes.ensures (c.plain_summary.ensures x (sym c.kind.ensures) a) in
    c.close.ensures.same top x l n

pub returns-clause-kept : goal.returns-clause-kept
returns-clause-kept g c = λ top l a.
    let tree = g.E.HasExprTree.tree in
    let x = tree c.args.x.now in
    let old = c.args.summaries.now.items in
    let over = above tree c.args.spine.items in
    let summarized = summary_is x _ _ c.attributes.ensures (c.plain_summary.ensures x (sym c.kind.ensures) a) in
    let own = c.in_ok-summary.ensures.kept ∙ ap (λ m. old ++ m ∷ []) summarized in
    let e = ap (λ z. z ++ over) own ∙ append_assoc old (summary_of x ∷ []) over in
    subst (λ z. OnOk c.close.result (c.close.new.summaries.items ≡ z)) e (c.close.ensures.kept top x l (c.in_ok-summary.ensures.same ∙ summarized))
