use Rattle.std.proofs.Common.{[], ◌∷◌}
use Rattle.syn_pat.specs.View.{PatView}
use Rattle.syn_expr_core.specs.View.{pat_of, tree_of}
use Rattle.syn_expr_core.specs.declared.closure.ExprClosure.{out-ExprClosure}
use Rattle.syn_visit_kinds.proofs.Changes.{change_shown, changed_both, changed_flat, changed_map, changed_one, changed_stops}
use Rattle.syn_visit.proofs.Left.{closure_changed, pat_changed}
use Rattle.syn_visit.proofs.members.closure_mut.Goals as goal

pub returns-in_err-punctuated_with_mut : goal.returns-in_err-punctuated_with_mut
returns-in_err-punctuated_with_mut g c =
    let whole = out-ExprClosure c.args.x.now in
    let pats = changed_map pat_of (pat_changed (λ d x b y. g.F.Fn.post d.call.now (x, tt) (b, (y, tt))) (λ old with r new met. met)) c.in_err-punctuated_with_mut.ensures.changed in
    closure_changed c.args.x.now _ whole.body pats c.in_err-punctuated_with_mut.ensures.trails
    (changed_stops (tree_of whole.body.value ∷ []) _ c.from_residual.ensures (changed_flat (λ (v : PatView). v.guards) (λ v r w h. h.guards) pats))

pub returns : goal.returns
returns g c =
    let pats = changed_map pat_of (pat_changed (λ d x b y. g.F.Fn.post d.call.now (x, tt) (b, (y, tt))) (λ old with r new met. met)) c.in_ok-punctuated_with_mut.ensures.changed in
    closure_changed c.args.x.now _ _ pats c.in_ok-punctuated_with_mut.ensures.trails
    (changed_both (changed_flat (λ (v : PatView). v.guards) (λ v r w h. h.guards) pats) (changed_one _ (change_shown tree_of _ _ _ c.boxed_mut.ensures.changed)))
