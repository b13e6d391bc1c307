use Rattle.std.proofs.Common.{[], ◌∷◌, ap}
use Rattle.syn_expr_core.specs.View.{pat_of, tree_of}
use Rattle.syn_expr_core.specs.declared.control.ExprLet.{out-ExprLet}
use Rattle.syn_expr_core.specs.declared.pat.Pat.{Pat}
use Rattle.syn_visit_kinds.proofs.Walk.{walk_one, walk_same}
use Rattle.syn_visit.proofs.Seen.{let_are, parts_stop, parts_walk, shown_as}
use Rattle.syn_visit.proofs.members.let_expr.Goals as goal

pub returns-in_err-pattern : goal.returns-in_err-pattern
returns-in_err-pattern g c =
    let guards = walk_same (ap (λ (p : Pat). (pat_of p).guards) c.deref.ensures) c.in_err-pattern.ensures in
    parts_stop (tree_of (out-ExprLet c.args.x.now).expr.value ∷ []) _ (let_are c.args.x.now) c.from_residual.ensures guards

pub returns : goal.returns
returns g c =
    let guards = walk_same (ap (λ (p : Pat). (pat_of p).guards) c.deref.ensures) c.in_ok-pattern.ensures in
    parts_walk (let_are c.args.x.now) guards (walk_one _ (shown_as (out-ExprLet c.args.x.now).expr.value c.one.ensures))
