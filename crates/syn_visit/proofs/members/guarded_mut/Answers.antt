use Rattle.std.proofs.Common.{[], ◌∷◌}
use Rattle.syn_expr_core.specs.View.{tree_of}
use Rattle.syn_expr_core.specs.declared.pat.PatGuard.{out-PatGuard}
use Rattle.syn_visit_kinds.proofs.Changes.{change_shown, changed_both, changed_one, changed_stops}
use Rattle.syn_visit.proofs.Left.{guard_changed, guards_by}
use Rattle.syn_visit.proofs.members.guarded_mut.Goals as goal

pub returns-in_err-boxed_with_mut : goal.returns-in_err-boxed_with_mut
returns-in_err-boxed_with_mut g c = λ passes.
    let whole = out-PatGuard c.args.x.now in
    let pat = guards_by passes c.in_err-boxed_with_mut.ensures.changed in
    guard_changed c.args.x.now _ whole.guard pat (changed_stops (tree_of whole.guard.value ∷ []) _ c.from_residual.ensures pat.guards)

pub returns : goal.returns
returns g c = λ passes.
    let pat = guards_by passes c.in_ok-boxed_with_mut.ensures.changed in
    guard_changed c.args.x.now _ _ pat (changed_both pat.guards (changed_one _ (change_shown tree_of _ _ _ c.boxed_mut.ensures.changed)))
