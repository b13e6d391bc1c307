-- A leaf has no operands.
use Rattle.std.proofs.Common.{◌≡◌, ◌+◌, ◌-◌, ◌^◌, ◌∷◌, [], ◌++◌, min, IfOk, OnOk, subst, refl, sym, ap, ◌∙◌, arith}
use Rattle.syn_expr_spec.specs.Summaries.{summary_of}
use Rattle.syn_expr_fixup.specs.Below.{AreFirst, operands_below, operands_size, total}
use Rattle.syn_expr_spec.specs.Tree.{size}
use Rattle.syn_expr_fixup.proofs.Nodes.{below_is, leaf_operands, leaf_strays, summary_is, size_is}
use Rattle.syn_expr_fixup.proofs.Spines.{on_map}
use Rattle.syn_expr_fixup.proofs.summary.collect_leaf.Goals as goal

pub returns-clause-same : goal.returns-clause-same
returns-clause-same g c =
    let t = g.E.HasExprTree.tree c.args.x.now in
    let o = leaf_operands t c.args.kind c.requires in
    let p = c.plain_summary.ensures t c.requires (subst (λ z. AreFirst z c.closed.result c.closed-2.result) (sym o) refl) in
    subst (λ z. IfOk c.keep.result (λ n. n ≡ z)) (summary_is t _ _ c.attributes.ensures p) c.keep.ensures.same

pub returns-clause-kept : goal.returns-clause-kept
returns-clause-kept g c =
    let t = g.E.HasExprTree.tree c.args.x.now in
    let old = c.args.summaries.now.items in
    let o = leaf_operands t c.args.kind c.requires in
    let p = c.plain_summary.ensures t c.requires (subst (λ z. AreFirst z c.closed.result c.closed-2.result) (sym o) refl) in
    let e = ap (λ n. old ++ n ∷ []) (summary_is t _ _ c.attributes.ensures p)
    ∙ ap (λ l. old ++ (l ++ summary_of t ∷ [])) (sym (ap operands_below o) ∙ below_is t) in
    subst (λ z. OnOk c.keep.result (c.keep.new.summaries.items ≡ z)) e c.keep.ensures.kept

pub returns-clause-counted : goal.returns-clause-counted
returns-clause-counted g c =
    let t = g.E.HasExprTree.tree c.args.x.now in
    let o = ap operands_size (leaf_operands t c.args.kind c.requires) in
    let v = size_is t in
    let w = ap (total size) (leaf_strays t c.args.kind c.requires) in
    let e : c.tick.new.visits ≡ min (c.args.visits.now + size t) (2 ^ 64 - 1) = omega arith in
    on_map c.keep.result c.keep.ensures.kept (λ _. e)
