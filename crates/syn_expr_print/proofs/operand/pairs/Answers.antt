-- An element and its comma.
use Rattle.std.proofs.Common.{◌++◌, ◌∷◌, [], get_or, subst, sym, ap, ◌∙◌, arith}
use Rattle.syn_tokens.specs.Sign.{sign_text}
use Rattle.syn_tokens.proofs.Fronts.{front_through}
use Rattle.syn_lower_spec.specs.Own.{alone}
use Rattle.syn_lower_leaves.specs.Printed.{comma, pairs_printed}
use Rattle.syn_expr_spec.specs.Next.{enclosed}
use Rattle.syn_expr_spec.specs.Summaries.{stack}
use Rattle.syn_expr_spec.specs.Tree.{size}
use Rattle.syn_expr_fixup.specs.Below.{backwards, total}
use Rattle.syn_expr_ast.specs.Printed.{whole}
use Rattle.syn_expr_print.specs.Taken.{Going}
use Rattle.syn_expr_print.proofs.Turns.{cut, going-next, going-on, sign_behind}
use Rattle.syn_expr_print.proofs.operand.pairs.Goals as goal

pub whole-requires-clause-stacked : goal.whole-requires-clause-stacked
whole-requires-clause-stacked g c =
    let h = cut c.pairs.pairs.now c.index-pairs-0.result c.in-len1-up.len_at_least in
    let going = subst (λ l. Going c.args.summaries.now c.pairs.summaries (backwards (λ q. stack (g.E.HasExprTree.tree q.0)) c.args.pairs.now) (backwards (λ q. stack (g.E.HasExprTree.tree q.0)) l)) h c.pairs.invariant.going in
    going-next _ _ _ _ _ c.requires.stacked going

pub pairs-preserved : goal.pairs-preserved
unfolding sign_text
pairs-preserved g c =
    let tree = g.E.HasExprTree.tree in
    let now = c.pairs.tokens in
    let x = tree (get_or c.pairs.pairs.now 0 c.index-pairs-0.result).0 in
    let h = cut c.pairs.pairs.now c.index-pairs-0.result c.in-len1-up.len_at_least in
    let text = ap (λ l. now ++ pairs_printed (λ x. whole enclosed (tree x)) comma l) (sym h) ∙ c.pairs.invariant.text in
    let put = c.in_ok-whole.ensures.text ∙ ap (λ k. now ++ whole k x) c.enclosed.ensures in
    let going = subst (λ l. Going c.args.summaries.now c.pairs.summaries (backwards (λ q. stack (tree q.0)) c.args.pairs.now) (backwards (λ q. stack (tree q.0)) l)) h c.pairs.invariant.going in
    let s = ap (total (λ q. size (tree q.0))) h in
    let fewer = c.pairs.invariant.fewer in
    record {
      text = sign_behind now (whole enclosed x) (alone 44 ∷ []) _ put c.in_ok-put.ensures.ok text;
      front = front_through _ _ _ c.pairs.invariant.front (front_through _ _ _ c.in_ok-whole.ensures.front c.in_ok-put.ensures.front);
      going = going-on _ _ _ _ _ _ going c.in_ok-whole.ensures.taken;
      fewer = omega arith;
    }
